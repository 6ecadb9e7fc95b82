-- What comes of a stream that is to begin again (this project's own).
use Rattle.std.specs.Prelude.{◌≡◌, ◌<◌, ◌≤◌, [], ◌∷◌, length, true, false, Result, Ok, Err}
use Rattle.cl_types.specs.declared.stream.Rev.{Rev}
use Rattle.ctl_core.specs.declared.outcome.RejoinFault.{RejoinFault}
use Rattle.ctl_core.specs.declared.outcome.RejoinFault.TheVariants.{NotCut, Full, NoMemory}
use Rattle.run_machine.specs.Lines.{events_of, rejoin_stream}
use Rattle.run_machine.specs.Machine.{StreamOf, rejoin}
use Rattle.suite_run.specs.Doing.{channel_at, run_after}
use Rattle.suite_run.specs.RunState.{Does, RunData}

-- the cut stream had places, and is rejoined
pub record RejoinsAt (at : StreamOf) (rev : Rev) (old new : RunData) : Type 0 where
  pub revision : rev.0 ≡ old.revision
  pub was : (channel_at at old.sites).live ≡ false
  pub room : length (channel_at at old.sites).queue < old.ring
  pub run : new ≡ run_after (rejoin at) old
  pub does : Does (λ w. rejoin at ∷ []) old new

-- the cut stream stays cut: no place was left on it
pub record StaysFull (at : StreamOf) (old new : RunData) : Type 0 where
  pub was : (channel_at at old.sites).live ≡ false
  pub full : old.ring ≤ length (channel_at at old.sites).queue
  pub same : new ≡ old

abbrev pub Rejoins : StreamOf → Result Rev RejoinFault → RunData → RunData → Type 0
Rejoins at (Ok rev) old new = RejoinsAt at rev old new
Rejoins at (Err NotCut) old new = ((channel_at at old.sites).live ≡ true) × (new ≡ old)
Rejoins at (Err Full) old new = StaysFull at old new
Rejoins at (Err NoMemory) old new = new ≡ old

-- The machine's line that rejoins the stream was done, as far as memory went.
abbrev pub DoesLine : StreamOf → Result Rev RejoinFault → RunData → RunData → Type 0
DoesLine at (Ok rev) old new = Does (λ w. events_of w (rejoin_stream at)) old new
DoesLine at (Err NotCut) old new = Does (λ w. events_of w (rejoin_stream at)) old new
DoesLine at (Err Full) old new = Does (λ w. events_of w (rejoin_stream at)) old new
DoesLine at (Err NoMemory) old new = new ≡ old
