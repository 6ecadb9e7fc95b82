-- A reader of the lines of files: where it stands, what is known at each of its answers since it was made, and what
-- it keeps from one answer to a later one.
use Rattle.std.specs.Prelude.{◌≡◌, ◌≢◌, ℕ, ◌+◌, ◌-◌, ◌<◌, ◌≤◌, Option, Result, IsErrOf, List, [], ◌∷◌, ◌++◌, Bool, false, IsTrue, length, take, drop, All, MatchBool, ⊤}
use Rattle.cl_io.specs.declared.lines.Line.{Line}
use Rattle.cl_io.specs.declared.lines.Line.TheVariants.{Whole, TooLong, End}
use Rattle.cl_io.specs.declared.lines.LineFault.{LineFault}
use Rattle.cl_io.specs.declared.lines.LineFault.TheVariants.{Begin, Read}
use Rattle.cl_io.specs.Files.{Entry, IsEnded, FilesState, Lasts, Adds, AddsSome, StaysTold, names_of, byte_count}
use Rattle.cl_io.specs.Lines.{lines_of, whole_lines, first_bytes}

-- where a reader stands
pub record Reading : Type 0 where
  -- the files to be read, in order
  pub names : List (List ℕ)
  -- how many of them a `begin` was called with
  pub begun : ℕ
  -- whether the last of these is begun and not read to its end
  pub amid : Bool
  -- what was taken of it and not handed out
  pub pending : List ℕ
  -- how many bytes were taken in all
  pub total : ℕ
  pub line_limit : ℕ
  pub input_limit : ℕ

-- a reader of these files before its first answer
abbrev pub reading_of : List (List ℕ) → ℕ → ℕ → Reading
reading_of names line_limit input_limit =
    record { names = names; begun = 0; amid = false; pending = []; total = 0; line_limit = line_limit; input_limit = input_limit }

-- how many bytes were handed out in lines, with their line feeds
abbrev pub used : Reading → ℕ
used reading = reading.total - length reading.pending

-- the files and the limits are the same
pub record SameTask (old new : Reading) : Type 0 where
  pub names : new.names ≡ old.names
  pub line_limit : new.line_limit ≡ old.line_limit
  pub input_limit : new.input_limit ≡ old.input_limit

-- ---- what was taken, and which of its lines were handed out

-- all but the last were read to their end
pub record IsCutShort (entries : List Entry) : Type 0 where
  pub earlier : List Entry
  pub last : Entry
  pub split : entries ≡ earlier ++ last ∷ []
  pub ended : All IsEnded earlier
  pub not_ended : last.ended ≡ false

-- All of these were read to their end, and the lines handed out are theirs.
pub record IsBetween (done : List (List ℕ)) (pending : List ℕ) (entries : List Entry) : Type 0 where
  pub ended : All IsEnded entries
  pub lines : whole_lines entries ≡ done
  pub nothing : pending ≡ []

-- The last of these is being read: however it goes on, the lines are those handed out and then those of what is pending.
pub record IsAmid (done : List (List ℕ)) (pending : List ℕ) (entries : List Entry) : Type 0 where
  pub cut : IsCutShort entries
  pub lines : (more : List ℕ) (ended : Bool) →
      whole_lines cut.earlier ++ lines_of ended (cut.last.bytes ++ more) ≡ done ++ lines_of ended (pending ++ more)

-- these were taken, and of their lines these were handed out
pub record Took (done : List (List ℕ)) (reading : Reading) (entries : List Entry) : Type 0 where
  pub names : names_of entries ≡ take reading.begun reading.names
  pub bytes : byte_count entries ≡ reading.total
  pub lines : MatchBool reading.amid (IsAmid done reading.pending entries) (IsBetween done reading.pending entries)

-- From a base on the reader alone used the files, and handed out these lines.
pub record Stands (base : FilesState) (done : List (List ℕ)) (reading : Reading) (now : FilesState) : Type 0 where
  pub tried : Adds base.tried (take reading.begun reading.names) now.tried
  pub taken : AddsSome base.taken (Took done reading) now.taken
  pub within : reading.total ≤ reading.input_limit

-- All files were read to their end, and all their lines handed out.
pub record IsFinished (done : List (List ℕ)) (reading : Reading) (entries : List Entry) : Type 0 where
  pub names : names_of entries ≡ reading.names
  pub ended : All IsEnded entries
  pub lines : whole_lines entries ≡ done
  pub within : byte_count entries ≤ reading.input_limit

-- The file that was tried last can't be begun. Those before it were read to their end, and all their lines handed out.
pub record IsUnopened (done : List (List ℕ)) (reading : Reading) (entries : List Entry) : Type 0 where
  pub names : names_of entries ≡ take (reading.begun - 1) reading.names
  pub ended : All IsEnded entries
  pub lines : whole_lines entries ≡ done
  pub within : byte_count entries ≤ reading.input_limit

-- The file that was begun last can't be read on. All whole lines were handed out.
pub record IsUnreadable (done : List (List ℕ)) (reading : Reading) (entries : List Entry) : Type 0 where
  pub names : names_of entries ≡ take reading.begun reading.names
  pub cut : IsCutShort entries
  pub lines : whole_lines entries ≡ done
  pub within : byte_count entries ≤ reading.input_limit

-- As many bytes as the limit were taken and another one. All lines that were whole before it were handed out.
pub record IsOverfull (done : List (List ℕ)) (reading : Reading) (entries : List Entry) : Type 0 where
  pub names : names_of entries ≡ take reading.begun reading.names
  pub cut : IsCutShort entries
  pub lines : whole_lines (first_bytes reading.input_limit entries) ≡ done
  pub over : byte_count entries ≡ reading.input_limit + 1

-- ---- the answers

-- the lines that an answer hands out: of one that is too long only the length
abbrev pub Hands : Line → List (List ℕ) → Type 0
Hands (Whole text) lines = lines ≡ text ∷ []
Hands (TooLong count) lines = (line : List ℕ) × (length line ≡ count) × (lines ≡ line ∷ [])
Hands End lines = lines ≡ []

-- a line is given where it isn't longer than the limit, and else its length
abbrev pub KeepsLimit : ℕ → Line → Type 0
KeepsLimit limit (Whole text) = length text ≤ limit
KeepsLimit limit (TooLong count) = limit < count
KeepsLimit limit End = ⊤

-- the reader stands where it stood, with the lines of this answer handed out too
abbrev pub GoesOn : Reading → FilesState → Line → Reading → FilesState → Type 0
GoesOn reading now line reading' now' =
    (base : FilesState) (done : List (List ℕ)) → Stands base done reading now →
    (more : List (List ℕ)) × Hands line more × Stands base (done ++ more) reading' now'

-- What was taken since a base, of whose lines these were handed out, has P at the new reader.
abbrev pub Leaves : (List (List ℕ) → Reading → List Entry → Type 0) → Reading → FilesState → Reading → FilesState → Type 0
Leaves P reading now reading' now' =
    (base : FilesState) (done : List (List ℕ)) → Stands base done reading now → AddsSome base.taken (P done reading') now'.taken

-- a line uses up a byte of the input at least
abbrev pub UsesByte : Reading → Line → Reading → Type 0
UsesByte reading line reading' = line ≢ End → used reading < used reading'

-- the answer isn't that a file failed
pub record IsUnfailing {T : Type 0} (result : Result T LineFault) : Type 0 where
  pub begun : IsErrOf result Begin → ⊥
  pub read : IsErrOf result Read → ⊥

-- ---- what is kept from one answer to a later one

-- `tried` grows by the names that are begun, in order
abbrev pub BeginsInOrder : Reading → FilesState → Reading → FilesState → Type 0
BeginsInOrder reading now reading' now' =
    (base : Option (List (List ℕ))) → Adds base (take reading.begun reading.names) now.tried → Adds base (take reading'.begun reading.names) now'.tried

-- the names that are left to be begun have P
abbrev pub EachLeft : (List ℕ → Bool) → Reading → Type 0
EachLeft p reading = All (λ name. IsTrue (p name)) (drop reading.begun reading.names)

-- `tried` and `taken` stay told, and so many fewer places are left as names were begun
pub record KeepsTelling (reading : Reading) (now : FilesState) (reading' : Reading) (now' : FilesState) : Type 0 where
  pub tried : StaysTold now.tried now'.tried
  pub taken : StaysTold now.taken now'.taken
  pub places : now'.places + reading'.begun ≡ now.places + reading.begun

-- what a reader keeps of its task and of the files
pub record Kept (r : Reading) (f : FilesState) (r' : Reading) (f' : FilesState) : Type 0 where
  pub task : SameTask r r'
  pub begun : r.begun ≤ r'.begun
  pub most : r.begun ≤ length r.names → r'.begun ≤ length r'.names
  pub order : BeginsInOrder r f r' f'
  pub told : StaysTold f'.taken f.taken
  pub faultless : IsTrue f.steady → EachLeft f.there r → f'.faults ≡ f.faults
  pub telling : EachLeft f.knows r → length r.names ≤ f.places + r.begun → KeepsTelling r f r' f'
  pub lasts : Lasts f f'
