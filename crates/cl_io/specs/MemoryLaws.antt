-- Of each file in memory what was taken begins its content.
use Rattle.std.specs.Prelude.{ℕ, Bool, true, false, IfSome, List, [], ◌∷◌, take, drop, map, All, refl, if◌then◌else◌}
use Rattle.std.proofs.Common.{sym, append-nil, arith, zero, suc}
use Rattle.std.proofs.lemmas.List.{take-append-drop}
use Rattle.cl_io.specs.declared.mem_files.NamedBytes.{NamedBytes}
use Rattle.cl_io.specs.declared.mem_files.Part.{Part}
use Rattle.cl_io.specs.Files.{IsOfContent}
use Rattle.cl_io.specs.declared.mem_files.MemFiles.{MemFiles}
use Rattle.cl_io.specs.MemoryStates.{files_state}
use Rattle.cl_io.specs.Memory.{content_of, name_at, entry_of, parts_of, where_told}

truthful_entry : (content : List ℕ → List ℕ) (name : List ℕ) (count : ℕ) (ended : Bool) →
    IsOfContent content (record { name = name; bytes = (if ended then content name else take count (content name)); ended = ended })
truthful_entry content name count true = record { begins = ([], sym (append-nil (content name))); whole = λ _. refl }
truthful_entry content name count false = record { begins = (drop count (content name), sym (take-append-drop count (content name))); whole = λ h. cc }

All-more : {A : Type 0} (P : A → Type 0) (x : A) (xs : List A) → P x → All P xs → All P (x ∷ xs)
All-more P x xs h hs zero d lt = h
All-more P x xs h hs (suc k) d lt = hs k d (omega (arith, lt))

truthful_entries : (files : List NamedBytes) (parts : List Part) → All (IsOfContent (content_of files)) (map (entry_of files) parts)
truthful_entries files [] = λ k d lt. absurd (omega (arith, lt))
truthful_entries files (part ∷ parts) =
    All-more (IsOfContent (content_of files)) (entry_of files part) (map (entry_of files) parts)
    (truthful_entry (content_of files) (name_at files part.file) part.count part.ended) (truthful_entries files parts)

pub truthful_parts : (files : List NamedBytes) (told : Bool) (parts : List Part) → IfSome (where_told told (map (entry_of files) parts)) (All (IsOfContent (content_of files)))
truthful_parts files true parts = truthful_entries files parts
truthful_parts files false parts = tt

pub truthful_files : (m : MemFiles) → IfSome (files_state m).taken (All (IsOfContent (files_state m).content))
truthful_files m = truthful_parts m.files m.log.told (parts_of m.log.earlier.items m.log.current)
