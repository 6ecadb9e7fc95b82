-- A rule at its place: looked up, and taken out.
use Rattle.std.proofs.Common.{◌≡◌, ℕ, ◌<◌, ◌≤◌, List, [], ◌∷◌, ◌++◌, length, take, drop, refl, arith, sym, ap, ◌∙◌, subst, suc, cond, true, false, Option, Some, None, find, get_or, drop-cons, ⊎_elim}
use Rattle.std.specs.Prelude.{remove, option_map, option_and_then, IsSome}
use Rattle.std.specs.List.{slice_get}
use Rattle.std.specs.List.Sorted.{IsStrictlySortedBy}
use Rattle.std.proofs.lemmas.List.{take-append-drop, map-append, length-append}
use Rattle.std.proofs.lemmas.Option.{slice_get_past}
use Rattle.std.proofs.lemmas.Bool.{cases_lt}
use Rattle.cl_types.specs.declared.keys.RuleKey.{RuleKey}
use Rattle.cl_types.specs.RuleOrder.{rule_order, rule_order_total}
use Rattle.priority_assign.specs.declared.numbered.Numbered.{Numbered}
use Rattle.priority_assign.specs.Rules.{keys, place_of, number_of, without, is_rule, is_before, IsLadder, last_number}
use Rattle.priority_assign.proofs.Ordered.{find-at_place, filter-at_place, IsStrictlySortedBy-without}
use Rattle.priority_assign.proofs.Falling.{FallsBetween-append, FallsBetween-back, FallsBetween-front, FallsBetween-below, first_number-below}

pub number_of-at_place : (xs : List Numbered) (k : RuleKey) → IsStrictlySortedBy rule_order (keys xs) → number_of xs k ≡ option_map (λ x. x.number) (option_and_then (λ x. cond (is_rule k x) (Some x) None) (slice_get xs (place_of xs k)))
unfolding is_before is_rule
number_of-at_place xs k sorted = ap (option_map (λ x. x.number)) (find-at_place (λ x. x.key) rule_order_total k xs sorted)

abbrev if_rule : RuleKey → Numbered → Option Numbered
if_rule k x = cond (is_rule k x) (Some x) None

at_place : (xs : List Numbered) (k : RuleKey) (n : ℕ) → IsStrictlySortedBy rule_order (keys xs) → n ≡ place_of xs k → number_of xs k ≡ option_map (λ x. x.number) (option_and_then (if_rule k) (slice_get xs n))
at_place xs k n sorted is = number_of-at_place xs k sorted ∙ ap (λ i. option_map (λ x. x.number) (option_and_then (if_rule k) (slice_get xs i))) (sym is)

pub number_of-past : (xs : List Numbered) (k : RuleKey) (n : ℕ) → IsStrictlySortedBy rule_order (keys xs) → n ≡ place_of xs k → length xs ≤ n → number_of xs k ≡ None
number_of-past xs k n sorted is past = at_place xs k n sorted is ∙ rw (slice_get_past xs n past) refl

pub number_of-here : (xs : List Numbered) (k : RuleKey) (n : ℕ) (x : Numbered) → IsStrictlySortedBy rule_order (keys xs) → n ≡ place_of xs k → slice_get xs n ≡ Some x → is_rule k x ≡ true → number_of xs k ≡ Some x.number
number_of-here xs k n x sorted is here same =
    at_place xs k n sorted is ∙ ap (λ r. option_map (λ x. x.number) (option_and_then (if_rule k) r)) here ∙ ap (λ b. option_map (λ x. x.number) (cond b (Some x) None)) same

pub number_of-other : (xs : List Numbered) (k : RuleKey) (n : ℕ) (x : Numbered) → IsStrictlySortedBy rule_order (keys xs) → n ≡ place_of xs k → slice_get xs n ≡ Some x → is_rule k x ≡ false → number_of xs k ≡ None
number_of-other xs k n x sorted is here other =
    at_place xs k n sorted is ∙ ap (λ r. option_map (λ x. x.number) (option_and_then (if_rule k) r)) here ∙ ap (λ b. option_map (λ x. x.number) (cond b (Some x) None)) other

found : (r : Option Numbered) → IsSome (option_map (λ x. x.number) r) → r ≡ None → ⊥
found None h e = cc
found (Some x) h e = cc

pub without-at_place : (xs : List Numbered) (k : RuleKey) → IsStrictlySortedBy rule_order (keys xs) → IsSome (number_of xs k) → without xs k ≡ remove xs (place_of xs k)
unfolding is_before is_rule
without-at_place xs k sorted there =
    filter-at_place (λ x. x.key) rule_order_total k xs sorted (found (find (is_rule k) xs) there)

pub place_of-there : (xs : List Numbered) (k : RuleKey) → IsStrictlySortedBy rule_order (keys xs) → IsSome (number_of xs k) → place_of xs k < length xs
unfolding is_before is_rule
place_of-there xs k sorted there =
    ⊎_elim (λ within. within)
    (λ past.
    let at_place = find-at_place (λ x. x.key) rule_order_total k xs sorted in
    let here : Numbered → Option Numbered = λ x. cond (is_rule k x) (Some x) None in
    absurd (found (find (is_rule k) xs) there (at_place ∙ ap (option_and_then here) (slice_get_past xs (place_of xs k) past))))
    (cases_lt (place_of xs k) (length xs))

taken_out : (xs : List Numbered) (n : ℕ) → n < length xs → (x : Numbered) × (xs ≡ take n xs ++ x ∷ drop (suc n) xs)
taken_out [] n lt = absurd (omega (arith, lt))
taken_out (z ∷ zs) n lt =
    (get_or (z ∷ zs) n z, sym (take-append-drop n (z ∷ zs)) ∙ ap (λ ys. take n (z ∷ zs) ++ ys) (drop-cons (z ∷ zs) n z lt))

IsLadder-parts : (front : List Numbered) (x : Numbered) (back : List Numbered) → IsLadder (front ++ x ∷ back) → IsLadder (front ++ back)
IsLadder-parts front x back ladder =
    let sorted = subst (IsStrictlySortedBy rule_order) (map-append (λ x. x.key) front (x ∷ back)) ladder.ordered in
    let rest = FallsBetween-back 64001 99 front (x ∷ back) ladder.falling in
    let below = first_number-below x.number 99 back rest.1 in
    record {
      ordered = subst (IsStrictlySortedBy rule_order) (sym (map-append (λ x. x.key) front back)) (IsStrictlySortedBy-without rule_order x.key (keys front) (keys back) sorted);
      falling = FallsBetween-append 64001 99 x.number front back (FallsBetween-front 64001 99 front (x ∷ back) ladder.falling) (FallsBetween-below x.number (last_number 64001 front) 99 back rest.1 (omega (arith, below, rest.0)));
      few = omega (arith, ladder.few, length-append front back, length-append front (x ∷ back));
    }

pub IsLadder-without : (xs : List Numbered) (k : RuleKey) → IsLadder xs → IsSome (number_of xs k) → IsLadder (without xs k)
IsLadder-without xs k ladder there =
    let n = place_of xs k in
    let out = taken_out xs n (place_of-there xs k ladder.ordered there) in
    subst IsLadder (sym (without-at_place xs k ladder.ordered there)) (IsLadder-parts (take n xs) out.0 (drop (suc n) xs) (subst IsLadder out.1 ladder))
