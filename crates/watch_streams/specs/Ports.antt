-- What the port of a stream is to its sender, and what the queue behind one holds (this project's own).
use Rattle.std.specs.Prelude.{◌≡◌, ℕ, ◌-◌, ◌≤◌, List, [], ◌∷◌, ◌++◌, Option, Some, None, length}
use Rattle.cl_types.specs.Causes.{Rose}
use Rattle.watch_streams.specs.declared.message.Msg.{Msg}

-- The messages that were put in and weren't taken; how often one came back; and how many more there is room for, where
-- that is told.
pub record PortState : Type 0 where
  pub sent : List Msg
  pub backs : ℕ
  pub room : Option ℕ

-- the message stands behind the others, and none came back
pub record PutsIn (m : Msg) (old new : PortState) : Type 0 where
  pub sent : new.sent ≡ old.sent ++ m ∷ []
  pub backs : new.backs ≡ old.backs

-- the very message came back and was counted, and nothing was put in
pub record HandsBack (m back : Msg) (old new : PortState) : Type 0 where
  pub whole : back ≡ m
  pub sent : new.sent ≡ old.sent
  pub later : old.backs ≤ new.backs
  pub counted : Rose old.backs new.backs

-- ---- queues

-- a queue of at most `ring` messages
pub record QueueData : Type 0 where
  pub ring : ℕ
  pub messages : List Msg
  pub backs : ℕ

-- one with nothing queued, from which nothing came back
abbrev pub empty_queue : ℕ → QueueData
empty_queue ring = record { ring = ring; messages = []; backs = 0 }

-- what is queued was sent, and there is room for what the ring has places for besides
abbrev pub queue_state : QueueData → PortState
queue_state q = record { sent = q.messages; backs = q.backs; room = Some (q.ring - length q.messages) }

abbrev pub HasSameRing : QueueData → QueueData → Type 0
HasSameRing old new = new.ring ≡ old.ring

-- the oldest message leaves the queue, where there is one
abbrev pub IsTaken : QueueData → Option Msg → QueueData → Type 0
IsTaken old None new = (old.messages ≡ []) × (new ≡ old)
IsTaken old (Some m) new = old ≡ record new { messages = m ∷ new.messages }
