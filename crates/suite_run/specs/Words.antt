-- The files of a command, and what is told of a run beside its output (this project's own).
use Rattle.std.specs.Prelude.{◌≡◌, ℕ, zero, suc, unwrap_or, List, [], ◌∷◌, ◌++◌, length, take, slice_get, codes, ◌⊎◌}
use Rattle.cl_types.specs.Causes.{Rose}
use Rattle.cl_io.specs.Files.{Adds}
use Rattle.cl_io.specs.Lines.{line_feed}
use Rattle.cl_io.specs.Sink.{SinkState}
use Rattle.command_words.specs.declared.command.Command.{Command}
use Rattle.command_words.specs.declared.command.Command.TheVariants.{Check, Replay}
use Rattle.command_words.specs.Words.{words_mean}
use Rattle.suite_run.specs.declared.status.Status.{Status}
use Rattle.suite_run.specs.declared.status.Status.TheVariants.{Done, SomeRefused, BadWords, OpenFault, ReadFault, WriteFault, NoMemory, InputTooLong}

-- the command that the words mean; where they mean none, one without files
abbrev pub meant : List (List ℕ) → Command
meant words = unwrap_or (words_mean words) (Check [])

abbrev pub files_of : Command → List (List ℕ)
files_of (Check files) = files
files_of (Replay ring files) = files

-- the last of the first so many names
abbrev pub last_of : ℕ → List (List ℕ) → List ℕ
last_of zero names = []
last_of (suc count) names = unwrap_or (slice_get names count) []

abbrev pub line_of : List ℕ → List ℕ
line_of text = text ++ (line_feed ∷ [])

-- what is written beside the output
unfoldable pub complaint : Status → List ℕ → List ℕ
complaint Done name = []
complaint SomeRefused name = []
complaint BadWords name = line_of (codes "usage: antrea check FILE... | replay [--ring N] FILE... | live [--ring N] FILE... | drill N")
complaint OpenFault name = codes "antrea: cannot open " ++ line_of name
complaint ReadFault name = codes "antrea: cannot read " ++ line_of name
complaint WriteFault name = []
complaint NoMemory name = []
complaint InputTooLong name = line_of (codes "antrea: input too long")

-- the text stands at the end, or, where the sink failed, the front of it
pub record Says (text : List ℕ) (old new : SinkState) : Type 0 where
  pub count : ℕ
  pub adds : Adds old.written (take count text) new.written
  pub whole : (count ≡ length text) ⊎ Rose old.faults new.faults
