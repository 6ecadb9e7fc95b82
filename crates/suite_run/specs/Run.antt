-- What a run over files leaves of the files and of the sink (this project's own). Of what isn't told nothing is known.
use Rattle.std.specs.Prelude.{◌≡◌, ℕ, ◌+◌, ◌<◌, ◌≤◌, Option, None, IsSome, IfSome, List, [], ◌∷◌, length, take, All, ⊤, ◌⊎◌, Bool, true, false, IsTrue}
use Rattle.cl_types.specs.Causes.{Rose}
use Rattle.cl_io.specs.declared.lines.LineFault.{LineFault}
use Rattle.cl_io.specs.declared.lines.LineFault.TheVariants as fault
use Rattle.cl_io.specs.Files.{Entry, FilesState, Lasts, Adds, AddsSome, StaysTold, IsEnded, names_of, byte_count}
use Rattle.cl_io.specs.Lines.{first_bytes}
use Rattle.cl_io.specs.Reader.{IsCutShort}
use Rattle.cl_io.specs.Sink.{SinkState, Endures}
use Rattle.suite_run.specs.declared.status.Status.{Status}
use Rattle.suite_run.specs.declared.status.Status.TheVariants.{Done, SomeRefused, BadWords, OpenFault, ReadFault, WriteFault, NoMemory, InputTooLong}
use Rattle.command_words.specs.declared.command.Command.{Command}
use Rattle.command_words.specs.Words.{words_mean}
use Rattle.suite_run.specs.Blocks.{due_so_far, due_in_all, any_refused}
use Rattle.suite_run.specs.Words.{Says, complaint, last_of}
use Rattle.suite_run.specs.World.{input_limit}

-- ---- the files that are named

-- the files of these names, read to their end
abbrev pub whole_files : (List ℕ → List ℕ) → List (List ℕ) → List Entry
whole_files content [] = []
whole_files content (name ∷ names) = record { name = name; bytes = content name; ended = true } ∷ whole_files content names

-- the text of a run over all of these files
abbrev pub text_due : Command → List (List ℕ) → FilesState → List ℕ
text_due command names files = due_in_all command (whole_files files.content names)

-- The files tell of each of these names that is begun.
pub record IsTelling (names : List (List ℕ)) (files : FilesState) : Type 0 where
  pub known : All (λ name. IsTrue (files.knows name)) names
  pub places : length names ≤ files.places
  pub taken : IsSome files.taken

-- ---- statuses

-- the whole input was read and answered
abbrev pub IsFinal : Status → Type 0
IsFinal Done = ⊤
IsFinal SomeRefused = ⊤
IsFinal _ = ⊥

-- the same, or the run ran out of memory
abbrev pub IsAnswered : Status → Type 0
IsAnswered Done = ⊤
IsAnswered SomeRefused = ⊤
IsAnswered NoMemory = ⊤
IsAnswered _ = ⊥

-- the status of a run over the whole input
abbrev pub final_status : Bool → Status
final_status false = Done
final_status true = SomeRefused

abbrev pub fault_status : LineFault → Status
fault_status fault.Begin = OpenFault
fault_status fault.Read = ReadFault
fault_status fault.InputTooLong = InputTooLong
fault_status fault.NoMemory = NoMemory

-- ---- what is printed

-- told only where it was told before, and then with the front of a list at its end
abbrev pub AddsFront : {A : Type 0} → Option (List A) → List A → Option (List A) → Type 0
AddsFront old list new = (count : ℕ) × Adds old (take count list) new

-- All files were read to their end, the whole text was written, and the status says whether a line is refused.
pub record Prints (command : Command) (names : List (List ℕ)) (files : FilesState) (out : SinkState) (status : Status) (files' : FilesState) (out' : SinkState) : Type 0 where
  pub taken : Adds files.taken (whole_files files.content names) files'.taken
  pub written : IsSome files'.taken → Adds out.written (text_due command names files) out'.written
  pub refused : IsSome files'.taken → status ≡ final_status (any_refused command (whole_files files.content names))

-- ---- where a run stops

-- The file after those that were taken can't be begun. Those were read to their end, and their blocks written.
pub record IsUnopened (command : Command) (names : List (List ℕ)) (files : FilesState) (out : SinkState) (files' : FilesState) (out' : SinkState) (entries : List Entry) : Type 0 where
  pub ended : All IsEnded entries
  pub named : names_of entries ≡ take (length entries) names
  pub fewer : length entries < length names
  pub tried : Adds files.tried (take (length entries + 1) names) files'.tried
  pub written : Adds out.written (due_so_far command entries) out'.written

-- The file that was taken last can't be read on. The blocks of all whole lines were written.
pub record IsUnreadable (command : Command) (names : List (List ℕ)) (files : FilesState) (out : SinkState) (files' : FilesState) (out' : SinkState) (entries : List Entry) : Type 0 where
  pub cut : IsCutShort entries
  pub named : names_of entries ≡ take (length entries) names
  pub tried : Adds files.tried (names_of entries) files'.tried
  pub written : Adds out.written (due_so_far command entries) out'.written

-- One byte more came than is read. The blocks of all lines were written that were whole before it.
pub record IsOverfull (command : Command) (names : List (List ℕ)) (out out' : SinkState) (entries : List Entry) : Type 0 where
  pub named : names_of entries ≡ take (length entries) names
  pub over : byte_count entries ≡ input_limit + 1
  pub written : Adds out.written (due_so_far command (first_bytes input_limit entries)) out'.written

-- With every status: the named files were tried in order, and what is written is the front of the text that is due.
-- After a fault of the input the text goes as far as the whole lines that were taken.
pub record Stops (command : Command) (names : List (List ℕ)) (files : FilesState) (out : SinkState) (status : Status) (files' : FilesState) (out' : SinkState) : Type 0 where
  pub tried : AddsFront files.tried names files'.tried
  pub written : IsSome files'.taken → AddsFront out.written (text_due command names files) out'.written
  pub within : (status ≡ InputTooLong → ⊥) → (status ≡ NoMemory → ⊥) → AddsSome files.taken (λ entries. byte_count entries ≤ input_limit) files'.taken
  pub unopened : status ≡ OpenFault → AddsSome files.taken (IsUnopened command names files out files' out') files'.taken
  pub unreadable : status ≡ ReadFault → AddsSome files.taken (IsUnreadable command names files out files' out') files'.taken
  pub overfull : status ≡ InputTooLong → AddsSome files.taken (IsOverfull command names out out') files'.taken

-- ---- why

-- A fault is told only where it was counted, where none is counted the whole input is answered, and none is counted
-- of steady files that are there and of a steady sink with room for the text that is due.
pub record Causes (command : Command) (names : List (List ℕ)) (files : FilesState) (out : SinkState) (status : Status) (files' : FilesState) (out' : SinkState) : Type 0 where
  pub begin : status ≡ OpenFault → Rose files.faults files'.faults
  pub read : status ≡ ReadFault → Rose files.faults files'.faults
  pub write : status ≡ WriteFault → Rose out.faults out'.faults
  pub complete : (status ≡ BadWords → ⊥) → (Rose files.faults files'.faults → ⊥) → (Rose out.faults out'.faults → ⊥) → IsSome files'.taken
      → byte_count (whole_files files.content names) ≤ input_limit → IsAnswered status
  pub faultless : IsTrue files.steady → All (λ name. IsTrue (files.there name)) names → files'.faults ≡ files.faults
  pub sink_faultless : IsTrue out.steady → IsTelling names files
      → IfSome out.free (λ room. length (text_due command names files) ≤ room → out'.faults ≡ out.faults)

-- ---- what stays

-- The files are the same and count their faults on, and so does the sink. What files tell of all names they tell still.
pub record Stays (names : List (List ℕ)) (files : FilesState) (out : SinkState) (files' : FilesState) (out' : SinkState) : Type 0 where
  pub lasts : Lasts files files'
  pub endures : Endures out out'
  pub tried : IsTelling names files → StaysTold files.tried files'.tried
  pub taken : IsTelling names files → IsSome files'.taken

-- ---- a run

-- Words that mean nothing, and no others, are bad words, unless memory ran out. Then no file is begun and nothing is printed.
pub record MeansNothing (words : List (List ℕ)) (files : FilesState) (out : SinkState) (status : Status) (files' : FilesState) (out' : SinkState) : Type 0 where
  pub bad : status ≡ BadWords → words_mean words ≡ None
  pub told : words_mean words ≡ None → (status ≡ BadWords) ⊎ (status ≡ NoMemory)
  pub files_left : words_mean words ≡ None → files' ≡ files
  pub sink_left : words_mean words ≡ None → out' ≡ out

-- what a run over the files of these names leaves
pub record Ran (command : Command) (names : List (List ℕ)) (files : FilesState) (out : SinkState) (status : Status) (files' : FilesState) (out' : SinkState) : Type 0 where
  pub words : status ≡ BadWords → ⊥
  pub prints : IsFinal status → Prints command names files out status files' out'
  pub stops : Stops command names files out status files' out'
  pub causes : Causes command names files out status files' out'
  pub stays : Stays names files out files' out'

-- Where a file can't be begun or read on, one was tried.
abbrev pub IsNamed : Status → ℕ → List (List ℕ) → Type 0
IsNamed OpenFault count names = (0 < count) × (count ≤ length names)
IsNamed ReadFault count names = (0 < count) × (count ≤ length names)
IsNamed _ count names = ⊤

-- Beside the output stands why there isn't the whole text, with the name of the file that was tried last.
pub record Complains (names : List (List ℕ)) (files : FilesState) (err : SinkState) (status : Status) (files' : FilesState) (err' : SinkState) : Type 0 where
  pub count : ℕ
  pub tried : Adds files.tried (take count names) files'.tried
  pub named : IsNamed status count names
  pub says : Says (complaint status (last_of count names)) err err'
