-- How a run ends, as the code has it.
use Rattle.std.specs.Prelude.{◌≡◌, ℕ, ◌≤◌, nat_lt, ◌⊎◌, IsTrue, IfSome, List, length, take}
use Rattle.cl_types.specs.Causes.{Rose}
use Rattle.cl_io.specs.Files.{FilesState, Adds}
use Rattle.cl_io.specs.Reader.{Reading}
use Rattle.cl_io.specs.Sink.{SinkState, Endures}
use Rattle.command_words.specs.declared.command.Command.{Command}
use Rattle.suite_run.specs.declared.status.Status.{Status}
use Rattle.suite_run.specs.declared.status.Status.TheVariants.{WriteFault, NoMemory}
use Rattle.suite_run.specs.Run.{Ran, IsFinal, IsNamed, final_status}

-- what a run leaves, with where its reader stands then
pub record Replayed (command : Command) (names : List (List ℕ)) (files : FilesState) (out : SinkState) (status : Status) (reading : Reading) (files' : FilesState) (out' : SinkState) : Type 0 where
  pub ran : Ran command names files out status files' out'
  pub names_are : reading.names ≡ names
  pub tried : Adds files.tried (take reading.begun names) files'.tried
  pub named : IsNamed status reading.begun names

-- The text was written whole and the status says whether a line is refused, or the front of it was written.
pub record Concludes (text : List ℕ) (refused : ℕ) (old : SinkState) (status : Status) (new : SinkState) : Type 0 where
  pub count : ℕ
  pub within : count ≤ length text
  pub written : Adds old.written (take count text) new.written
  pub endures : Endures old new
  pub stops : (status ≡ final_status (nat_lt 0 refused)) ⊎ ((status ≡ WriteFault) ⊎ (status ≡ NoMemory))
  pub whole : IsFinal status → count ≡ length text
  pub cause : status ≡ WriteFault → Rose old.faults new.faults
  pub succeeds : IsTrue old.steady → IfSome old.free (λ room. length text ≤ room → new.faults ≡ old.faults)
