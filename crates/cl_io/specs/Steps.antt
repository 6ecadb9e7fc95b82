-- The steps by which a reader comes to an answer: the front of a line is read, of which no more is kept than a line may have.
use Rattle.std.specs.Prelude.{◌≡◌, ◌≢◌, ℕ, ◌+◌, ◌-◌, ◌*◌, ◌<◌, ◌≤◌, Bool, true, false, if◌then◌else◌, Result, Ok, Err, List, [], ◌∷◌, ◌++◌, All, length}
use Rattle.std.specs.List.{slice_index_or}
use Rattle.cl_io.specs.declared.lines.Front.{Front}
use Rattle.cl_io.specs.declared.lines.Progress.{Progress}
use Rattle.cl_io.specs.declared.lines.Progress.TheVariants.{On, LineEnds, NoMore}
use Rattle.cl_io.specs.declared.lines.LineFault.{LineFault}
use Rattle.cl_io.specs.declared.lines.LineFault.TheVariants.{Begin, Read, InputTooLong, NoMemory}
use Rattle.cl_io.specs.Files.{Entry, FilesState, AddsSome}
use Rattle.cl_io.specs.Lines.{line_feed}
use Rattle.cl_io.specs.Reader.{Reading, Stands, IsFinished, IsUnopened, IsUnreadable, IsOverfull, used}

-- ---- the front of a line

-- it stands for these bytes: all are counted, and kept while they aren't more than the limit
pub record IsFront (front : Front) (bytes : List ℕ) : Type 0 where
  pub counted : front.length ≡ length bytes
  pub kept : length bytes ≤ front.limit → front.kept.items ≡ bytes

-- a front that stands for some bytes stands for these too, after them
pub record Gains (old new : Front) (bytes : List ℕ) : Type 0 where
  pub stands : (before : List ℕ) → IsFront old before → IsFront new (before ++ bytes)
  pub limit : new.limit ≡ old.limit

abbrev pub HasNoFeed : List ℕ → Type 0
HasNoFeed = All (λ byte. byte ≢ line_feed)

-- of what was pending these bytes went, and the line feed after them where one came; else they were all
abbrev pub Parts : Bool → List ℕ → List ℕ → List ℕ → Type 0
Parts true pending part rest = pending ≡ part ++ line_feed ∷ rest
Parts false pending part rest = (pending ≡ part) × (rest ≡ [])

-- ---- the reader

-- the reader with other bytes pending
abbrev pub with_pending : Reading → List ℕ → Reading
with_pending reading bytes = record reading { pending = bytes }

-- the name that is begun next
abbrev pub next_name : Reading → List ℕ
next_name reading = slice_index_or reading.names reading.begun []

-- the reader after a begin, which may have failed
abbrev pub after_begin : Bool → Reading → Reading
after_begin amid reading = record reading { begun = reading.begun + 1; amid = amid }

-- the reader after a read that gave these bytes: none are the end of the file
abbrev pub after_read : List ℕ → Reading → Reading
after_read [] reading = record reading { amid = false; pending = [] }
after_read (byte ∷ bytes) reading = record reading { pending = byte ∷ bytes; total = reading.total + length (byte ∷ bytes) }

-- the reader where these bytes before what is pending aren't handed out either
abbrev pub before : List ℕ → Reading → Reading
before line reading = with_pending reading (line ++ reading.pending)

-- at most so many steps are left: bytes to come, files to begin, and the end of the last one
abbrev pub steps_left : Reading → ℕ
steps_left reading = (reading.input_limit - reading.total) + 2 * (length reading.names - reading.begun) + (if reading.amid then 1 else 0)

-- ---- what a step comes to

-- the front of a line is longer by what was read on
pub record GoesFurther (reading : Reading) (was : FilesState) (line : List ℕ) (reading' : Reading) (now : FilesState) (front : Front) : Type 0 where
  pub line' : List ℕ
  pub front' : IsFront front line'
  pub no_feed : HasNoFeed line'
  pub counted : length line' + length reading'.pending ≤ reading'.total
  pub unused : used (before line reading) ≤ used (before line' reading')
  pub stands : (base : FilesState) (done : List (List ℕ)) → Stands base done (before line reading) was → Stands base done (before line' reading') now

-- the line is whole, and is handed out next
pub record EndsLine (reading : Reading) (was : FilesState) (line : List ℕ) (reading' : Reading) (now : FilesState) (front : Front) : Type 0 where
  pub line' : List ℕ
  pub front' : IsFront front line'
  pub uses : used (before line reading) < used reading'
  pub stands : (base : FilesState) (done : List (List ℕ)) → Stands base done (before line reading) was → Stands base (done ++ line' ∷ []) reading' now

-- all files are read to their end
pub record EndsAll (reading : Reading) (was : FilesState) (line : List ℕ) (reading' : Reading) (now : FilesState) : Type 0 where
  pub stands : (base : FilesState) (done : List (List ℕ)) → Stands base done (before line reading) was → Stands base done reading' now
  pub finished : (base : FilesState) (done : List (List ℕ)) → Stands base done (before line reading) was → AddsSome base.taken (IsFinished done reading') now.taken

abbrev pub StopsWith : (List (List ℕ) → Reading → List Entry → Type 0) → Reading → FilesState → List ℕ → Reading → FilesState → Type 0
StopsWith P reading was line reading' now =
    (base : FilesState) (done : List (List ℕ)) → Stands base done (before line reading) was → AddsSome base.taken (P done reading') now.taken

-- what a step comes to, with these bytes at the front of the line before it
abbrev pub ComesTo : Reading → FilesState → List ℕ → Result Progress LineFault → Reading → FilesState → Front → Type 0
ComesTo reading was line (Ok On) reading' now front = GoesFurther reading was line reading' now front
ComesTo reading was line (Ok LineEnds) reading' now front = EndsLine reading was line reading' now front
ComesTo reading was line (Ok NoMore) reading' now front = EndsAll reading was line reading' now
ComesTo reading was line (Err Begin) reading' now front = StopsWith IsUnopened reading was line reading' now
ComesTo reading was line (Err Read) reading' now front = StopsWith IsUnreadable reading was line reading' now
ComesTo reading was line (Err InputTooLong) reading' now front = StopsWith IsOverfull reading was line reading' now
ComesTo reading was line (Err NoMemory) reading' now front = Unit {0}
