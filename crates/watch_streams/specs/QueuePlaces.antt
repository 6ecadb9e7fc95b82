-- What a queue keeps in its type.
use Rattle.std.specs.Prelude.{ℕ, ◌≤◌, List, length}
use Rattle.watch_streams.specs.declared.message.Msg.{Msg}

-- the places of all messages are reserved, and no more are queued than the ring has
pub record HasPlaces (messages : List Msg) (capacity ring : ℕ) : Type 0 where
  pub reserved : ring ≤ capacity
  pub at_most : length messages ≤ ring
