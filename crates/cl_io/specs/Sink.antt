-- What a sink is to a writer of this project: what it took, and how much more it has room for.
use Rattle.std.specs.Prelude.{◌≡◌, ℕ, ◌+◌, ◌<◌, ◌≤◌, Option, Some, None, Bool, IsTrue, List, length, take, ⊤, Result, OnOk}
use Rattle.cl_io.specs.Files.{Adds}

-- the state of a sink
pub record SinkState : Type 0 where
  -- the bytes that it took, where they are told
  pub written : Option (List ℕ)
  -- how many more bytes it has room for, where that is told
  pub free : Option ℕ
  -- how often it failed; the count stands still at the greatest number of 64 bits
  pub faults : ℕ
  -- whether no write fails while there is room that is told
  pub steady : Bool

-- room that is told is lower by so many bytes, and told still
abbrev pub Lowers : Option ℕ → ℕ → Option ℕ → Type 0
Lowers None n new = ⊤
Lowers (Some old) n None = ⊥
Lowers (Some old) n (Some new) = new + n ≡ old

-- No call lowers the count of faults, or ends that a sink is steady.
pub record Endures (old new : SinkState) : Type 0 where
  pub later : old.faults ≤ new.faults
  pub steady : IsTrue old.steady → IsTrue new.steady

-- what a write does that takes so many of these bytes
pub record Writes (bytes : List ℕ) (count : ℕ) (old new : SinkState) : Type 0 where
  pub some : 0 < count
  pub within : count ≤ length bytes
  pub written : Adds old.written (take count bytes) new.written
  pub free : Lowers old.free count new.free

-- what a write does that fails
pub record WritesNothing (old new : SinkState) : Type 0 where
  pub written : new.written ≡ old.written
  pub free : Lowers old.free 0 new.free

-- the sink took the first bytes of these, all of them at Ok
pub record Takes {E : Type 0} (bytes : List ℕ) (result : Result (Unit {0}) E) (old new : SinkState) : Type 0 where
  pub count : ℕ
  pub within : count ≤ length bytes
  pub all : OnOk result (count ≡ length bytes)
  pub written : Adds old.written (take count bytes) new.written
  pub free : Lowers old.free count new.free
