-- Which bytes stand in texts of each form.
use Rattle.std.proofs.Common.{◌≡◌, ℕ, suc, ◌+◌, Some, None, List, [], ◌∷◌, length, take, drop, Bool, true, false, not, cond, ◌&&◌, ◌||◌, ◌==◌, ltb, refl, sym, add-one, arith}
use Rattle.std.specs.List.{list_all, slice_split, onto_first, position_or_len}
use Rattle.std.specs.Option.{option_map_or}
use Rattle.std.specs.Char.{is_ascii_lowercase, is_ascii_digit}
use Rattle.std.proofs.lemmas.Bool.{and_parts, and_from, or_left, or_right, ne_eqb, true≢false}
use Rattle.label_select.specs.Forms.{is_part_byte, is_label_byte, is_part, is_namespace_name, is_object_name, is_name_part, is_label_key, is_label_value}

-- what stands in a label's key: the bytes of names and `/`
abbrev pub is_key_byte : ℕ → Bool
is_key_byte b = is_label_byte b || (b == 47)

-- where all pass a test, all pass a wider one
list_all-wider : {T : Type 0} (p q : T → Bool) → ((x : T) → p x ≡ true → q x ≡ true) → (xs : List T) → list_all p xs ≡ true → list_all q xs ≡ true
list_all-wider p q wider [] all = refl
list_all-wider p q wider (x ∷ xs) all =
    let parts = and_parts (p x) (list_all p xs) all in
    and_from (q x) (list_all q xs) (wider x parts.0) (list_all-wider p q wider xs parts.1)

label_byte-part_byte : (b : ℕ) → is_part_byte b ≡ true → is_label_byte b ≡ true
label_byte-part_byte b e = within (is_ascii_lowercase b) (is_ascii_digit b) _ (b == 45) _ _ e
  where
    within : (l d u m s t : Bool) → ((l || d) || m) ≡ true → (((((d || u) || l) || m) || s) || t) ≡ true
    within l true u m s t e = refl
    within true false true m s t e = refl
    within true false false m s t e = refl
    within false false true m s t e = refl
    within false false false true s t e = refl
    within false false false false s t e = absurd (true≢false (sym e))

module _ {T : Type 0} (p q : T → Bool) (wider : (x : T) → p x ≡ true → q x ≡ true) where
  -- all pass where all do before the first that passes p, and after it
  all_round_first : (xs : List T) → list_all q (take (position_or_len p xs) xs) ≡ true → list_all q (drop (suc (position_or_len p xs)) xs) ≡ true → list_all q xs ≡ true
  all_round_first [] before after = refl
  all_round_first (x ∷ xs) before after = by_cases (p x) refl (position_or_len p xs) before after (all_round_first xs)
    where
      by_cases : (b : Bool) → p x ≡ b → (n : ℕ) → list_all q (take (cond (not b) (1 + n) 0) (x ∷ xs)) ≡ true → list_all q (drop (suc (cond (not b) (1 + n) 0)) (x ∷ xs)) ≡ true → (list_all q (take n xs) ≡ true → list_all q (drop (suc n) xs) ≡ true → list_all q xs ≡ true) → (q x && list_all q xs) ≡ true
      by_cases true is n before after rest = and_from (q x) (list_all q xs) (wider x is) after
      by_cases false is n before after rest =
          let next : 1 + n ≡ suc n = omega arith in
          let parts = and_parts (q x) (list_all q (take n xs)) (rw next at before) in
          and_from (q x) (list_all q xs) parts.0 (rest parts.1 (rw next at after))

  -- all pass where all do in the parts of a text that is cut at p
  onto_first_all : (x : T) (parts : List (List T)) → list_all (list_all q) (onto_first x parts) ≡ true → (q x ≡ true) × (list_all (list_all q) parts ≡ true)
  onto_first_all x [] all = ((and_parts (q x) true ((and_parts (q x && true) true all).0)).0, refl)
  onto_first_all x (part ∷ parts) all =
      let first = and_parts (q x && list_all q part) (list_all (list_all q) parts) all in
      let one = and_parts (q x) (list_all q part) first.0 in
      (one.0, and_from (list_all q part) (list_all (list_all q) parts) one.1 first.1)

  all_of_parts : (xs : List T) → list_all (list_all q) (slice_split p xs) ≡ true → list_all q xs ≡ true
  all_of_parts [] all = refl
  all_of_parts (x ∷ xs) all = by_cases (p x) refl all (all_of_parts xs)
    where
      by_cases : (b : Bool) → p x ≡ b → list_all (list_all q) (cond b ([] ∷ slice_split p xs) (onto_first x (slice_split p xs))) ≡ true → (list_all (list_all q) (slice_split p xs) ≡ true → list_all q xs ≡ true) → (q x && list_all q xs) ≡ true
      by_cases true is all rest = and_from (q x) (list_all q xs) (wider x is) (rest all)
      by_cases false is all rest =
          let parts = onto_first_all x (slice_split p xs) all in
          and_from (q x) (list_all q xs) parts.0 (rest parts.1)

part-bytes : (text : List ℕ) → is_part text ≡ true → list_all is_label_byte text ≡ true
unfolding is_part
part-bytes text is =
    list_all-wider is_part_byte is_label_byte label_byte-part_byte text (and_parts (list_all is_part_byte text) _ is).0

pub namespace_name-bytes : (text : List ℕ) → is_namespace_name text ≡ true → list_all is_label_byte text ≡ true
unfolding is_namespace_name
namespace_name-bytes text is = part-bytes text (and_parts _ (is_part text) is).1

pub object_name-bytes : (text : List ℕ) → is_object_name text ≡ true → list_all is_label_byte text ≡ true
unfolding is_object_name
object_name-bytes text is =
    all_of_parts (λ b. b == 46) is_label_byte (λ b e. or_right _ (b == 46) e) text
    (list_all-wider is_part (list_all is_label_byte) part-bytes (slice_split (λ b. b == 46) text) (and_parts _ _ is).1)

name_part-bytes : (text : List ℕ) → is_name_part text ≡ true → list_all is_label_byte text ≡ true
unfolding is_name_part
name_part-bytes text is = (and_parts (list_all is_label_byte text) _ (and_parts _ _ is).1).0

key_bytes : (text : List ℕ) → list_all is_label_byte text ≡ true → list_all is_key_byte text ≡ true
key_bytes text all = list_all-wider is_label_byte is_key_byte (λ b e. or_left (is_label_byte b) (b == 47) e) text all

abbrev slash : ℕ → Bool
slash b = b == 47

pub label_key-bytes : (text : List ℕ) → is_label_key text ≡ true → list_all is_key_byte text ≡ true
unfolding is_label_key
label_key-bytes text is = by_cases (ltb (position_or_len slash text) (length text)) is
  where
    by_cases : (within : Bool) → option_map_or (λ i. is_object_name (take i text) && is_name_part (drop (i + 1) text)) (cond within (Some (position_or_len slash text)) None) (is_name_part text) ≡ true → list_all is_key_byte text ≡ true
    by_cases true e =
        let i = position_or_len slash text in
        let parts = and_parts (is_object_name (take i text)) (is_name_part (drop (i + 1) text)) e in
        all_round_first slash is_key_byte (λ b. or_right (is_label_byte b) (b == 47)) text (key_bytes (take i text) (object_name-bytes (take i text) parts.0))
        (rw (← add-one) (key_bytes (drop (i + 1) text) (name_part-bytes (drop (i + 1) text) parts.1)))
    by_cases false e = key_bytes text (name_part-bytes text e)

pub label_value-bytes : (text : List ℕ) → is_label_value text ≡ true → list_all is_label_byte text ≡ true
unfolding is_label_value
label_value-bytes [] is = refl
label_value-bytes (b ∷ bs) is =
    let some : (length (b ∷ bs) == 0) ≡ false = ne_eqb (length (b ∷ bs)) 0 (λ e. omega arith) in
    name_part-bytes (b ∷ bs) (rw some at is)

-- no key and no namespace's name is empty
pub label_key-some : is_label_key [] ≡ true → ⊥
unfolding is_label_key is_name_part
label_key-some is = true≢false (sym is)

pub namespace_name-some : is_namespace_name [] ≡ true → ⊥
unfolding is_namespace_name is_part
namespace_name-some is = true≢false (sym is)
