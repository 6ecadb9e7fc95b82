-- Files in memory: what is told of them after a begin and after a read.
use Rattle.std.proofs.Common.{◌≡◌, ℕ, zero, suc, ◌+◌, ◌-◌, ◌<◌, ◌≤◌, Bool, true, false, ◌&&◌, cond, eqb, IsTrue, Option, Some, None, is_some, is_none, MatchOption, option_map, unwrap_or, option_to_list, nat_eq, List, [], ◌∷◌, ◌++◌, length, take, drop, map, get_or, refl, sym, ap, ◌∙◌, subst, arith, ◌^◌, IfSome, Contains, Ok, Err}
use Rattle.std.specs.Cmp.Lexicographic.{pointwise, same_text}
use Rattle.std.specs.List.{slice_get}
use Rattle.std.specs.Option.{ForSome}
use Rattle.std.proofs.lemmas.Slice.{between_to_end}
use Rattle.std.proofs.lemmas.List.{map-append, take_at, take_all, length-take-le, length-drop, drop-drop, take-append-drop}
use Rattle.std.proofs.lemmas.List.Quantifiers.{position-Some}
use Rattle.std.proofs.lemmas.Option.{slice_get-get_or, unwrap_or-slice_get}
use Rattle.std.proofs.Math.Dec.{eqb-suc-zero}
use Rattle.std.proofs.Math.Seq.{take-add}
use Rattle.cl_io.specs.declared.mem_files.NamedBytes.{NamedBytes}
use Rattle.cl_io.specs.declared.mem_files.Part.{Part}
use Rattle.cl_io.specs.declared.mem_files.Place.{Place}
use Rattle.cl_io.specs.declared.mem_files.Place.TheVariants.{Listed, Missing}
use Rattle.cl_io.specs.Files.{Entry, Adds, begun_entry, read_entry, read_last}
use Rattle.cl_io.specs.Memory.{file_place, name_place, first_place, name_at, bytes_at, content_of, entry_of, tried_name, where_told, parts_of, fresh_part, part_after, IsReadable}
use Rattle.cl_io.specs.MemoryStates.{Fails, rest_of}
use Rattle.cl_io.specs.Sink.{Lowers}
use Rattle.cl_io.proofs.Feeds.{read_last-append}

file_found : (files : List NamedBytes) (name : List ℕ) (k : ℕ) → file_place files name ≡ Some k → (k < length files) × (name_at files k ≡ name)
file_found files name k e =
    let d : NamedBytes = record { name = []; bytes = [] } in
    let p = position-Some (λ file. pointwise nat_eq file.name name) files k d e in
    (p.0, ap (λ o. unwrap_or (option_map (λ file. file.name) o) []) (slice_get-get_or files k d p.0) ∙ same_text (get_or files k d).name name (sym p.1))

name_found : (names : List (List ℕ)) (name : List ℕ) (k : ℕ) → name_place names name ≡ Some k → unwrap_or (slice_get names k) [] ≡ name
name_found names name k e =
    let p = position-Some (λ other. pointwise nat_eq other name) names k [] e in
    unwrap_or-slice_get names k [] ∙ same_text (get_or names k []) name (sym p.1)

tried_found : (files : List NamedBytes) (missing : List (List ℕ)) (name : List ℕ) (p : Place) (a b : Option ℕ) → file_place files name ≡ a → name_place missing name ≡ b →
    Some p ≡ first_place a b → tried_name files missing p ≡ name
tried_found files missing name p (Some k) b e e' h =
    let same : p ≡ Listed k = cc in ap (tried_name files missing) same ∙ (file_found files name k e).1
tried_found files missing name p None (Some k) e e' h =
    let same : p ≡ Missing k = cc in ap (tried_name files missing) same ∙ name_found missing name k e'
tried_found files missing name p None None e e' h = cc

pub tried_adds : (files : List NamedBytes) (missing : List (List ℕ)) (name : List ℕ) (told has told' : Bool) (items items' : List Place) (place : Option Place) →
    place ≡ first_place (file_place files name) (name_place missing name) → told' ≡ (told && has && is_some place) → (IsTrue told' → items' ≡ items ++ option_to_list place) →
    Adds (where_told told (map (tried_name files missing) items)) (name ∷ []) (where_told told' (map (tried_name files missing) items'))
tried_adds files missing name told has false items items' place e t h = tt
tried_adds files missing name false has true items items' place e t h = cc
tried_adds files missing name true false true items items' place e t h = cc
tried_adds files missing name true true true items items' None e t h = cc
tried_adds files missing name true true true items items' (Some p) e t h =
    let f = tried_name files missing in
    ap (map f) (h refl) ∙ (map-append f items (p ∷ []) ∙ ap (λ z. map f items ++ z ∷ []) (tried_found files missing name p (file_place files name) (name_place missing name) refl refl e))

readable_fresh : (files : List NamedBytes) (name : List ℕ) (k : ℕ) → file_place files name ≡ Some k → IsReadable files (fresh_part k)
readable_fresh files name k e =
    let found = file_found files name k e in
    record {
      listed = found.0;
      first = ap (content_of files) found.1 ∙ ap (λ o. unwrap_or (option_map (bytes_at files) o) []) e;
      within = omega arith;
      ended = λ h. cc;
    }

pub readable_after : (files : List NamedBytes) (name : List ℕ) (fails : Bool) (file begun : Option ℕ) (current current' : Option Part) → file ≡ file_place files name →
    begun ≡ cond fails None file → current' ≡ part_after begun current → ForSome current (IsReadable files) → ForSome current' (IsReadable files)
readable_after files name true file begun current current' e b c h = λ x i. h x (sym (c ∙ ap (λ o. part_after o current) b) ∙ i)
readable_after files name false None begun current current' e b c h = λ x i. h x (sym (c ∙ ap (λ o. part_after o current) b) ∙ i)
readable_after files name false (Some k) begun current current' e b c h = λ x i.
    let same : Some (fresh_part k) ≡ Some x = sym (c ∙ ap (λ o. part_after o current) b) ∙ i in
    let is : fresh_part k ≡ x = cc in
    subst (IsReadable files) is (readable_fresh files name k (sym e))

begun_file : (files : List NamedBytes) (name : List ℕ) (fails : Bool) (file begun : Option ℕ) → file ≡ file_place files name → begun ≡ cond fails None file → is_none begun ≡ false →
    (k : ℕ) × (begun ≡ Some k) × (file_place files name ≡ Some k)
begun_file files name true file None e b n = cc
begun_file files name true file (Some k) e b n = cc
begun_file files name false file None e b n = cc
begun_file files name false file (Some k) e b n = (k, refl, sym e ∙ sym b)

pub taken_adds : (files : List NamedBytes) (name : List ℕ) (fails told has some told' : Bool) (file begun : Option ℕ) (parts parts' : List Part) → file ≡ file_place files name →
    begun ≡ cond fails None file → is_none begun ≡ false → told' ≡ (told && has && some) →
    (IsTrue told' → MatchOption begun (parts' ≡ parts) (λ f. parts' ≡ parts ++ fresh_part f ∷ [])) →
    Adds (where_told told (map (entry_of files) parts)) (begun_entry name ∷ []) (where_told told' (map (entry_of files) parts'))
taken_adds files name fails told has some false file begun parts parts' e b n t h = tt
taken_adds files name fails false has some true file begun parts parts' e b n t h = cc
taken_adds files name fails true has some true file begun parts parts' e b n t h =
    let k = begun_file files name fails file begun e b n in
    let M : Option ℕ → Type 0 = λ o. MatchOption o (parts' ≡ parts) (λ f. parts' ≡ parts ++ fresh_part f ∷ []) in
    let grown : parts' ≡ parts ++ fresh_part k.0 ∷ [] = subst M k.1 (h refl) in
    let f = entry_of files in
    let named : entry_of files (fresh_part k.0) ≡ begun_entry name = ap begun_entry (file_found files name k.0 k.2).1 in
    ap (map f) grown ∙ (map-append f parts (fresh_part k.0 ∷ []) ∙ ap (λ z. map f parts ++ z ∷ []) named)

-- a read of the file that was begun last
read_part : (files : List NamedBytes) (file count n : ℕ) (ended : Bool) (bytes : List ℕ) → IsReadable files (record { file = file; count = count; ended = ended }) →
    bytes ≡ take n (drop count (bytes_at files file)) → n + count ≤ length (bytes_at files file) → (n ≡ 0 → length (bytes_at files file) ≤ count) →
    entry_of files (record { file = file; count = count + n; ended = eqb n 0 }) ≡ read_entry bytes (entry_of files (record { file = file; count = count; ended = ended }))
read_part files file count zero true bytes r e le all =
    ap (λ b. read_entry b (entry_of files (record { file = file; count = count; ended = true }))) (sym e)
read_part files file count zero false bytes r e le all =
    let name = name_at files file in
    let content = content_of files name in
    let whole : take count content ≡ content = take_all count content (omega (arith, all refl, ap length r.first)) in
    ap (λ z. let y : Entry = record { name = name; bytes = z; ended = true } in y) (sym whole) ∙
    ap (λ b. read_entry b (entry_of files (record { file = file; count = count; ended = false }))) (sym e)
read_part files file count (suc m) true bytes r e le all = absurd (omega (arith, le, r.ended refl))
read_part files file count (suc m) false [] r e le all =
    let some : length (take (suc m) (drop count (bytes_at files file))) ≡ suc m = length-take-le (suc m) (drop count (bytes_at files file)) (omega (arith, le, length-drop count (bytes_at files file))) in
    absurd (omega (arith, some, ap length e))
read_part files file count (suc m) false (b ∷ bytes) r e le all =
    let name = name_at files file in
    let content = content_of files name in
    ap (λ t. let y : Entry = record { name = name; bytes = cond t content (take (count + suc m) content); ended = t } in y) (eqb-suc-zero m) ∙
    ap (λ z. let y : Entry = record { name = name; bytes = z; ended = false } in y)
    (take-add count (suc m) content ∙ (ap (λ z. take count content ++ take (suc m) (drop count z)) r.first ∙ ap (λ z. take count content ++ z) (sym e)))

pub read_taken : (files : List NamedBytes) (told : Bool) (earlier : List Part) (part : Part) (current : Option Part) (n : ℕ) (bytes : List ℕ) → current ≡ Some part →
    ForSome current (IsReadable files) →
    bytes ≡ take n (drop part.count (bytes_at files part.file)) → n + part.count ≤ length (bytes_at files part.file) → (n ≡ 0 → length (bytes_at files part.file) ≤ part.count) →
    where_told told (map (entry_of files) (parts_of earlier (Some (record { file = part.file; count = part.count + n; ended = eqb n 0 })))) ≡
    option_map (read_last bytes) (where_told told (map (entry_of files) (parts_of earlier current)))
read_taken files false earlier part current n bytes c r e le all = refl
read_taken files true earlier part current n bytes c r e le all =
    let f = entry_of files in
    let part' : Part = record { file = part.file; count = part.count + n; ended = eqb n 0 } in
    ap Some (map-append f earlier (part' ∷ []) ∙ (ap (λ z. map f earlier ++ z ∷ []) (read_part files part.file part.count n part.ended bytes (r part c) e le all) ∙
    (sym (read_last-append bytes (map f earlier) (f part)) ∙ (ap (read_last bytes) (sym (map-append f earlier (part ∷ []))) ∙
    ap (λ o. read_last bytes (map f (parts_of earlier o))) (sym c)))))

pub length-rest : (xs : List ℕ) (count : ℕ) → length (take (length xs - count) (drop count xs)) ≡ length xs - count
length-rest xs count = length-take-le (length xs - count) (drop count xs) (omega (arith, length-drop count xs))

pub read_bytes : (xs copied buffer : List ℕ) (count n : ℕ) → copied ≡ take n (take (length xs - count) (drop count xs)) → n ≤ length xs - count →
    take n (copied ++ drop n buffer) ≡ take n (drop count xs)
read_bytes xs copied buffer count n e le =
    let same : copied ≡ take n (drop count xs) = e ∙ ap (take n) (between_to_end xs count (length xs) (omega arith)) in
    let long : length (take n (drop count xs)) ≡ n = length-take-le n (drop count xs) (omega (arith, le, length-drop count xs)) in
    ap (λ z. take n (z ++ drop n buffer)) same ∙ take_at (take n (drop count xs)) (drop n buffer) n long

-- where a file was begun, it is told of it
pub some_taken : (files : List NamedBytes) (told : Bool) (earlier : List Part) (current : Option Part) (part : Part) → current ≡ Some part →
    where_told told (map (entry_of files) (parts_of earlier current)) ≡ Some [] → ⊥
some_taken files false earlier current part c h = cc
some_taken files true [] current part c h =
    let e : Some (entry_of files part ∷ []) ≡ Some [] = sym (ap (λ o. Some (map (entry_of files) (parts_of [] o))) c) ∙ h in cc
some_taken files true (first ∷ earlier) current part c h = cc

-- ---- which calls fail

pub Fails-listed : {T E : Type 0} (fault : E) (failing : List ℕ) (call : ℕ) (Stopped : Type 0) → Contains failing call → Fails {T = T} (Err fault) failing call Stopped
Fails-listed fault failing call Stopped h = record { listed = λ _. refl; stopped = λ _. refl; otherwise = λ never _. absurd (never h) }

pub Fails-stopped : {T E : Type 0} (fault : E) (failing : List ℕ) (call : ℕ) (Stopped : Type 0) → Stopped → Fails {T = T} (Err fault) failing call Stopped
Fails-stopped fault failing call Stopped h = record { listed = λ _. refl; stopped = λ _. refl; otherwise = λ _ never. absurd (never h) }

pub Fails-none : {T E : Type 0} (x : T) (failing : List ℕ) (call : ℕ) (Stopped : Type 0) → (Contains failing call → ⊥) → (Stopped → ⊥) → Fails {E = E} (Ok x) failing call Stopped
Fails-none x failing call Stopped never unstopped = record { listed = λ h. absurd (never h); stopped = λ h. absurd (unstopped h); otherwise = λ _ _. refl }

-- how many bytes a read may give
abbrev pub IsAllowed : Option ℕ → ℕ → ℕ → Type 0
IsAllowed limit given allowed = IfSome limit (λ place. (place < 2 ^ 64) × (allowed ≡ place - given))

pub none_allowed : (limit : Option ℕ) (given allowed : ℕ) → IsAllowed limit given allowed → (limit ≡ None → allowed ≡ 18446744073709551615) → allowed ≡ 0 → option_map (λ place. place - given) limit ≡ Some 0
none_allowed None given allowed h never e = let most = never refl in absurd (omega arith)
none_allowed (Some place) given allowed h never e = ap Some (sym h.1 ∙ e)

pub some_allowed : (limit : Option ℕ) (given allowed : ℕ) → IsAllowed limit given allowed → (allowed ≡ 0 → ⊥) → option_map (λ place. place - given) limit ≡ Some 0 → ⊥
some_allowed None given allowed h never e = cc
some_allowed (Some place) given allowed h never e = let same : place - given ≡ 0 = cc in never (h.1 ∙ same)

pub fewer_allowed : (limit : Option ℕ) (given given' allowed n : ℕ) → IsAllowed limit given allowed → n ≤ allowed → (given + n < 2 ^ 64 → given' ≡ given + n) → 0 < allowed →
    Lowers (option_map (λ place. place - given) limit) n (option_map (λ place. place - given') limit)
fewer_allowed None given given' allowed n h le e some = tt
fewer_allowed (Some place) given given' allowed n h le e some =
    let same : given' ≡ given + n = e (omega (arith, h.0, h.1, le, some)) in
    omega (arith, h.1, le, same, some)

-- what a read gives is the front of what was not read
pub gives : (files : List NamedBytes) (current : Option Part) (part : Part) (n : ℕ) (bytes : List ℕ) → current ≡ Some part → bytes ≡ take n (drop part.count (bytes_at files part.file)) →
    rest_of files current ≡ bytes ++ drop (part.count + n) (bytes_at files part.file)
gives files current part n bytes c e =
    let xs = bytes_at files part.file in
    let more : drop n (drop part.count xs) ≡ drop (part.count + n) xs = drop-drop n part.count xs in
    ap (rest_of files) c ∙ (sym (take-append-drop n (drop part.count xs)) ∙ (ap (λ z. take n (drop part.count xs) ++ z) more ∙ ap (λ z. z ++ drop (part.count + n) xs) (sym e)))
