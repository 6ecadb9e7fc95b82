-- What files are to a reader of this project: their content, and what they tell of how they were used.
use Rattle.std.specs.Prelude.{◌≡◌, ℕ, ◌+◌, ◌<◌, ◌≤◌, Option, Some, None, IsSome, Result, IsOk, List, [], ◌∷◌, ◌++◌, Bool, true, false, IsTrue, length, option_map, ⊤}

-- ---- a list that may be told: `None` where it isn't

-- told only where it was told before, and then with these at its end
abbrev pub Adds : {A : Type 0} → Option (List A) → List A → Option (List A) → Type 0
Adds old more None = ⊤
Adds None more (Some new) = ⊥
Adds (Some old) more (Some new) = new ≡ old ++ more

-- the same, where what stands at its end has a property
abbrev pub AddsSome : {A : Type 0} → Option (List A) → (List A → Type 0) → Option (List A) → Type 0
AddsSome old P None = ⊤
AddsSome None P (Some new) = ⊥
AddsSome {A} (Some old) P (Some new) = (more : List A) × (new ≡ old ++ more) × P more

-- told where it was told before
abbrev pub StaysTold : {A : Type 0} → Option A → Option A → Type 0
StaysTold old new = IsSome old → IsSome new

-- ---- files that were begun

-- a file that was begun: what was taken of it, and whether a read answered its end
pub record Entry : Type 0 where
  pub name : List ℕ
  pub bytes : List ℕ
  pub ended : Bool

-- one of which nothing was taken yet
abbrev pub begun_entry : List ℕ → Entry
begun_entry name = record { name = name; bytes = []; ended = false }

-- one after a read that gave these bytes: none are its end
abbrev pub read_entry : List ℕ → Entry → Entry
read_entry [] entry = record { name = entry.name; bytes = entry.bytes; ended = true }
read_entry (byte ∷ bytes) entry = record { name = entry.name; bytes = entry.bytes ++ byte ∷ bytes; ended = entry.ended }

-- the files after a read of the one that was begun last, if there is one
abbrev pub read_last : List ℕ → List Entry → List Entry
read_last bytes [] = []
read_last bytes (entry ∷ []) = read_entry bytes entry ∷ []
read_last bytes (entry ∷ next ∷ entries) = entry ∷ read_last bytes (next ∷ entries)

-- what was taken begins the file's content, and is all of it where its end was answered
pub record IsOfContent (content : List ℕ → List ℕ) (entry : Entry) : Type 0 where
  pub begins : (rest : List ℕ) × (content entry.name ≡ entry.bytes ++ rest)
  pub whole : IsTrue entry.ended → entry.bytes ≡ content entry.name

abbrev pub IsEnded : Entry → Type 0
IsEnded entry = entry.ended ≡ true

abbrev pub names_of : List Entry → List (List ℕ)
names_of [] = []
names_of (entry ∷ entries) = entry.name ∷ names_of entries

abbrev pub byte_count : List Entry → ℕ
byte_count [] = 0
byte_count (entry ∷ entries) = length entry.bytes + byte_count entries

-- ---- the state of files

pub record FilesState : Type 0 where
  -- the whole bytes of the file of a name
  pub content : List ℕ → List ℕ
  -- whether a begin of a name leaves `tried` and `taken` told, while there are places
  pub knows : List ℕ → Bool
  -- whether there is a file of a name
  pub there : List ℕ → Bool
  -- the names that `begin` was called with, in order, where they are told
  pub tried : Option (List (List ℕ))
  -- the files that were begun, in order, where they are told
  pub taken : Option (List Entry)
  -- how many more begins `tried` and `taken` can tell
  pub places : ℕ
  -- how often the files failed; the count stands still at the greatest number of 64 bits
  pub faults : ℕ
  -- whether no read fails, and no begin of a file that is there
  pub steady : Bool

-- No call changes the files themselves, lowers the count of faults, or ends that they are steady.
pub record Lasts (old new : FilesState) : Type 0 where
  pub content : new.content ≡ old.content
  pub knows : new.knows ≡ old.knows
  pub there : new.there ≡ old.there
  pub later : old.faults ≤ new.faults
  pub steady : IsTrue old.steady → IsTrue new.steady

-- what was told is told still, in one place fewer
pub record UsesPlace (old new : FilesState) : Type 0 where
  pub tried : StaysTold old.tried new.tried
  pub taken : StaysTold old.taken new.taken
  pub places : new.places + 1 ≡ old.places

-- what a begin of a name does, whatever it answers
pub record Tries (name : List ℕ) (old new : FilesState) : Type 0 where
  pub tried : Adds old.tried (name ∷ []) new.tried
  pub told : IsTrue (old.knows name) → 0 < old.places → UsesPlace old new

-- What a read does that gives these bytes, of the file that was begun last. None are the end of the file, and all
-- that comes where no file was begun.
pub record Reads (bytes : List ℕ) (old new : FilesState) : Type 0 where
  pub tried : new.tried ≡ old.tried
  pub taken : new.taken ≡ option_map (read_last bytes) old.taken
  pub places : new.places ≡ old.places
  pub none_begun : old.taken ≡ Some [] → length bytes ≡ 0

-- what a read does that fails
pub record ReadsNothing (old new : FilesState) : Type 0 where
  pub tried : new.tried ≡ old.tried
  pub taken : new.taken ≡ old.taken
  pub places : new.places ≡ old.places

-- the answer is Ok, and no failure was counted
pub record Succeeds {T E : Type 0} (result : Result T E) (faults faults' : ℕ) : Type 0 where
  pub ok : IsOk result
  pub faultless : faults' ≡ faults
