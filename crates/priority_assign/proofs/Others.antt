-- The number of every rule once one came in or went.
use Rattle.std.proofs.Common.{◌≡◌, ◌≢◌, ℕ, ◌+◌, ◌<◌, List, [], ◌∷◌, ◌++◌, length, cond, Bool, true, false, not, Some, None, eqb, Result, Ok, Err, OnOk, IfOk, refl, sym, ap, subst, ◌∙◌}
use Rattle.std.specs.Prelude.{find, remove, IsSome}
use Rattle.std.specs.Option.{option_map, option_or}
use Rattle.std.specs.List.{AllByRecursion}
use Rattle.std.specs.List.Sorted.{IsStrictlySortedBy}
use Rattle.std.specs.declared.cmp.Ordering.TheVariants.{Less, Greater}
use Rattle.std.specs.Ordering.{is_eq, ordering_reverse}
use Rattle.std.proofs.lemmas.Bool.{eqb-true}
use Rattle.std.proofs.lemmas.List.{take-append-drop, map-append}
use Rattle.std.proofs.lemmas.List.Edits.{length-remove}
use Rattle.cl_types.specs.declared.keys.RuleKey.{RuleKey}
use Rattle.cl_types.specs.OrderLaws.{rule_order_exact}
use Rattle.cl_types.specs.RuleOrder.{rule_order, rule_order_total}
use Rattle.priority_assign.specs.declared.numbered.Numbered.{Numbered}
use Rattle.priority_assign.specs.Rules.{keys, is_rule, place_of, number_of, without, IsLadder}
use Rattle.priority_assign.specs.Insertion.{changes, inserted, relabelled}
use Rattle.priority_assign.proofs.Comes.{ComesIn, length-ComesIn, remove-ComesIn}
use Rattle.priority_assign.proofs.Kept.{ComesIn-inserted}
use Rattle.priority_assign.proofs.Ordered.{equal_from_is_eq}
use Rattle.priority_assign.proofs.Looked.{without-at_place, place_of-there}

abbrev number : Numbered → ℕ
number x = x.number

-- a rule has one key
key_is : (k : RuleKey) (x : Numbered) → is_rule k x ≡ true → x.key ≡ k
unfolding is_rule
key_is k x e = rule_order_exact x.key k (equal_from_is_eq (rule_order x.key k) e)

not_rule : (j : RuleKey) (x : Numbered) → j ≢ x.key → is_rule j x ≡ false
not_rule j x other = by_test (is_rule j x) refl
  where
    by_test : (b : Bool) → is_rule j x ≡ b → b ≡ false
    by_test true e = absurd (other (sym (key_is j x e)))
    by_test false e = refl

-- ---- removal

pub number_of-gone : (xs : List Numbered) (k : RuleKey) → number_of (without xs k) k ≡ None
number_of-gone [] k = refl
number_of-gone (x ∷ xs) k = by_test (is_rule k x) refl (number_of-gone xs k)
  where
    by_test : (b : Bool) → is_rule k x ≡ b → number_of (without xs k) k ≡ None → option_map number (find (is_rule k) (cond (not b) (x ∷ without xs k) (without xs k))) ≡ None
    by_test true e rest = rest
    by_test false e rest = ap (λ c. option_map number (cond c (Some x) (find (is_rule k) (without xs k)))) e ∙ rest

pub number_of-stays : (xs : List Numbered) (k j : RuleKey) → j ≢ k → number_of (without xs k) j ≡ number_of xs j
number_of-stays [] k j other = refl
number_of-stays (x ∷ xs) k j other = by_test (is_rule k x) refl (number_of-stays xs k j other)
  where
    either : (c : Bool) → number_of (without xs k) j ≡ number_of xs j → option_map number (cond c (Some x) (find (is_rule j) (without xs k))) ≡ option_map number (cond c (Some x) (find (is_rule j) xs))
    either true rest = refl
    either false rest = rest

    by_test : (b : Bool) → is_rule k x ≡ b → number_of (without xs k) j ≡ number_of xs j → option_map number (find (is_rule j) (cond (not b) (x ∷ without xs k) (without xs k))) ≡ option_map number (cond (is_rule j x) (Some x) (find (is_rule j) xs))
    by_test true e rest =
        rest ∙ ap (λ c. option_map number (cond c (Some x) (find (is_rule j) xs))) (sym (not_rule j x (λ is. other (is ∙ key_is k x e))))
    by_test false e rest = either (is_rule j x) rest

pub length-without : (xs : List Numbered) (k : RuleKey) → IsStrictlySortedBy rule_order (keys xs) → IsSome (number_of xs k) → length (without xs k) + 1 ≡ length xs
length-without xs k ordered there =
    ap (λ zs. length zs + 1) (without-at_place xs k ordered there) ∙ length-remove xs (place_of xs k) (place_of-there xs k ordered there)

-- ---- insertion

find-skip : {X : Type 0} (p : X → Bool) (x : X) (front back : List X) → p x ≡ false → find p (front ++ x ∷ back) ≡ find p (front ++ back)
find-skip p x [] back e = ap (λ c. cond c (Some x) (find p back)) e
find-skip p x (y ∷ front) back e = ap (λ r. cond (p y) (Some y) r) (find-skip p x front back e)

-- another rule than the one that came in
number_of-beside : (xs : List Numbered) (k j : RuleKey) (ys : List Numbered) (c : ComesIn xs k ys) → j ≢ k → number_of ys j ≡ number_of (remove ys (place_of xs k)) j
number_of-beside xs k j ys c other =
    let x : Numbered = record { key = k; number = c.number } in
    ap (λ zs. number_of zs j) c.is
    ∙ ap (option_map number) (find-skip (is_rule j) x c.front c.back (not_rule j x other))
    ∙ ap (λ zs. number_of zs j) (sym (remove-ComesIn xs k ys c))

keys-beside : (xs : List Numbered) (k : RuleKey) (ys : List Numbered) (c : ComesIn xs k ys) → keys (remove ys (place_of xs k)) ≡ keys xs
keys-beside xs k ys c =
    ap keys (remove-ComesIn xs k ys c) ∙ map-append (λ (x : Numbered). x.key) c.front c.back
    ∙ (λ i. c.front_keys i ++ c.back_keys i) ∙ take-append-drop (place_of xs k) (keys xs)

-- no rule behind one with the key has it
none_behind : (j q : RuleKey) (xs ys : List Numbered) → keys xs ≡ keys ys → q ≡ j → AllByRecursion (λ r. rule_order q r ≡ Less) (keys ys) → number_of (changes xs ys) j ≡ None
none_behind j q [] ys e is all = refl
none_behind j q (x ∷ xs) [] e is all = refl
none_behind j q (x ∷ xs) (y ∷ ys) e is all = by_test (eqb x.number y.number) (none_behind j q xs ys (cc) is all.1)
  where
    apart : rule_order q q ≡ Less → ⊥
    apart less = let back = rule_order_total.antisymm q q in (let turned : Less ≡ Greater = sym less ∙ back ∙ ap ordering_reverse less in cc)

    other : is_rule j y ≡ false
    other = not_rule j y (λ same. apart (sym (ap (rule_order q) (sym same ∙ sym is)) ∙ all.0))

    by_test : (b : Bool) → number_of (changes xs ys) j ≡ None → number_of (cond b (changes xs ys) (y ∷ changes xs ys)) j ≡ None
    by_test true rest = rest
    by_test false rest = ap (λ c. option_map number (cond c (Some y) (find (is_rule j) (changes xs ys)))) other ∙ rest

-- the number of a rule is the one that the changes tell, or else its old one
number_of-changed : (xs ys : List Numbered) (j : RuleKey) → keys xs ≡ keys ys → IsStrictlySortedBy rule_order (keys ys) → number_of ys j ≡ option_or (number_of (changes xs ys) j) (number_of xs j)
unfolding IsStrictlySortedBy is_rule
number_of-changed [] [] j e sorted = refl
number_of-changed [] (y ∷ ys) j e sorted = cc
number_of-changed (x ∷ xs) [] j e sorted = cc
number_of-changed (x ∷ xs) (y ∷ ys) j e sorted =
    by_tests (is_rule j y) refl (eqb x.number y.number) refl (number_of-changed xs ys j (cc) sorted.1)
    ∙ ap (λ c. option_or (number_of (changes (x ∷ xs) (y ∷ ys)) j) (option_map number (cond c (Some x) (find (is_rule j) xs)))) (sym same)
  where
    head : x.key ≡ y.key
    head = cc

    tails : keys xs ≡ keys ys
    tails = cc

    same : is_rule j x ≡ is_rule j y
    same = ap (λ k. is_eq (rule_order k j)) head

    by_tests : (r : Bool) → is_rule j y ≡ r → (b : Bool) → eqb x.number y.number ≡ b → number_of ys j ≡ option_or (number_of (changes xs ys) j) (number_of xs j)
        → option_map number (cond r (Some y) (find (is_rule j) ys)) ≡ option_or (number_of (cond b (changes xs ys) (y ∷ changes xs ys)) j) (option_map number (cond r (Some x) (find (is_rule j) xs)))
    by_tests true is true e rest =
        ap Some (sym (eqb-true x.number y.number e)) ∙ sym (ap (λ o. option_or o (Some x.number)) (none_behind j y.key xs ys tails (key_is j y is) sorted.0))
    by_tests true is false e rest = sym (ap (λ c. option_or (option_map number (cond c (Some y) (find (is_rule j) (changes xs ys)))) (Some x.number)) is)
    by_tests false is true e rest = rest
    by_tests false is false e rest = rest ∙ sym (ap (λ c. option_or (option_map number (cond c (Some y) (find (is_rule j) (changes xs ys)))) (number_of xs j)) is)

pub number_of-inserted : (xs : List Numbered) (k j : RuleKey) → IsLadder xs → length xs < 16000 → j ≢ k → number_of (inserted xs k) j ≡ option_or (number_of (relabelled xs k) j) (number_of xs j)
unfolding relabelled
number_of-inserted xs k j ladder few other =
    let ys = inserted xs k in
    let comes = ComesIn-inserted xs k few in
    let same = keys-beside xs k ys comes in
    number_of-beside xs k j ys comes other
    ∙ number_of-changed xs (remove ys (place_of xs k)) j (sym same) (subst (IsStrictlySortedBy rule_order) (sym same) ladder.ordered)

pub length-inserted : (xs : List Numbered) (k : RuleKey) → length xs < 16000 → length (inserted xs k) ≡ length xs + 1
length-inserted xs k few = length-ComesIn xs k (inserted xs k) (ComesIn-inserted xs k few)

-- what both facts about an answer give
pub both_ok : {T E : Type 0} (r : Result T E) (P : Type 0) (Q S : T → Type 0) → OnOk r P → IfOk r Q → (P → (x : T) → Q x → S x) → IfOk r S
both_ok (Ok x) P Q S p q f = f p x q
both_ok (Err e) P Q S p q f = q
