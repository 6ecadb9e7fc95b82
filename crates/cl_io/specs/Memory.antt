-- Files in memory and a sink in memory, as what files and sinks are.
use Rattle.std.specs.Prelude.{◌≡◌, ◌≤◌, ◌<◌, ℕ, Bool, true, false, ◌||◌, Option, Some, None, is_some, List, [], ◌∷◌, ◌++◌, length, take, position, nat_eq, option_map, unwrap_or, option_to_list, if◌then◌else◌}
use Rattle.std.specs.List.{slice_get}
use Rattle.std.specs.Cmp.Lexicographic.{pointwise}
use Rattle.cl_io.specs.declared.mem_files.NamedBytes.{NamedBytes}
use Rattle.cl_io.specs.declared.mem_files.Part.{Part}
use Rattle.cl_io.specs.declared.mem_files.Place.{Place}
use Rattle.cl_io.specs.declared.mem_files.Place.TheVariants.{Listed, Missing}
use Rattle.cl_io.specs.Files.{Entry, FilesState}
use Rattle.cl_io.specs.Sink.{SinkState}

abbrev pub is_empty : {A : Type 0} → List A → Bool
is_empty [] = true
is_empty (x ∷ xs) = false

-- the place of the first file of a name
abbrev pub file_place : List NamedBytes → List ℕ → Option ℕ
file_place files name = position (λ file. pointwise nat_eq file.name name) files

-- the place of a name among those that are missing
abbrev pub name_place : List (List ℕ) → List ℕ → Option ℕ
name_place names name = position (λ other. pointwise nat_eq other name) names

abbrev pub name_at : List NamedBytes → ℕ → List ℕ
name_at files place = unwrap_or (option_map (λ file. file.name) (slice_get files place)) []

abbrev pub bytes_at : List NamedBytes → ℕ → List ℕ
bytes_at files place = unwrap_or (option_map (λ file. file.bytes) (slice_get files place)) []

-- whether there is a file of a name
abbrev pub has_file : List NamedBytes → List ℕ → Bool
has_file files name = is_some (file_place files name)

-- the bytes of the first file of a name
abbrev pub content_of : List NamedBytes → List ℕ → List ℕ
content_of files name = unwrap_or (option_map (bytes_at files) (file_place files name)) []

-- whether a name is in one of the two lists
abbrev pub is_known : List NamedBytes → List (List ℕ) → List ℕ → Bool
is_known files missing name = has_file files name || is_some (name_place missing name)

-- what was taken of a file
abbrev pub entry_of : List NamedBytes → Part → Entry
entry_of files part =
    let name = name_at files part.file in
    let content = content_of files name in
    record { name = name; bytes = (if part.ended then content else take part.count content); ended = part.ended }

-- where a name is found first, by its places in the two lists
abbrev pub first_place : Option ℕ → Option ℕ → Option Place
first_place (Some file) missing = Some (Listed file)
first_place None (Some place) = Some (Missing place)
first_place None None = None

-- a name that was tried
abbrev pub tried_name : List NamedBytes → List (List ℕ) → Place → List ℕ
tried_name files missing (Listed place) = name_at files place
tried_name files missing (Missing place) = unwrap_or (slice_get missing place) []

abbrev pub where_told : {A : Type 0} → Bool → A → Option A
where_told true x = Some x
where_told false x = None

-- the files that were begun, the last of them after the others
abbrev pub parts_of : List Part → Option Part → List Part
parts_of earlier current = earlier ++ option_to_list current

-- a file of which nothing was read
abbrev pub fresh_part : ℕ → Part
fresh_part file = record { file = file; count = 0; ended = false }

-- the file that is read after a begin: another one, if it succeeded
abbrev pub part_after : Option ℕ → Option Part → Option Part
part_after None current = current
part_after (Some file) current = Some (fresh_part file)

-- a file that can be read on: it is the first of its name, and no more was read than it has
pub record IsReadable (files : List NamedBytes) (part : Part) : Type 0 where
  pub listed : part.file < length files
  pub first : content_of files (name_at files part.file) ≡ bytes_at files part.file
  pub within : part.count ≤ length (bytes_at files part.file)
  pub ended : part.ended ≡ true → part.count ≡ length (bytes_at files part.file)

-- files in memory that weren't used yet
abbrev pub fresh_state : List NamedBytes → List (List ℕ) → ℕ → Bool → FilesState
fresh_state files missing begins steady = record {
  content = content_of files;
  knows = is_known files missing;
  there = has_file files;
  tried = Some [];
  taken = Some [];
  places = begins;
  faults = 0;
  steady = steady;
}

-- a sink in memory that took nothing yet
abbrev pub fresh_sink : ℕ → Bool → SinkState
fresh_sink room steady = record { written = Some []; free = Some room; faults = 0; steady = steady }
