-- Which windows of a width can have room where no narrower one has.
use Rattle.std.proofs.Common.{◌≡◌, ℕ, ◌+◌, ◌-◌, ◌*◌, ◌<◌, ◌≤◌, List, length, arith, Option, Some, None, true, false, ◌⊎◌, inl, inr, ⊎_elim, refl, ap, sym, subst, Bool, MatchOption}
use Rattle.std.specs.Bool.{then_some}
use Rattle.std.proofs.lemmas.Bool.{both_ways, cases_order, cases_lt, false_from_ne_true, lt-ltb, le-ltb}
use Rattle.priority_assign.specs.declared.numbered.Numbered.{Numbered}
use Rattle.priority_assign.specs.declared.window.Window.{Window}
use Rattle.priority_assign.specs.Rules.{number_before, number_after}
use Rattle.priority_assign.specs.Windows.{fits, IsFirstBegin}
use Rattle.priority_assign.specs.Search.{is_loose, IsNearestLoose, NoneNarrower, NoneEnding}
use Rattle.priority_assign.proofs.Room.{Spans, room-fits, no_room-fits}

-- what is known of a window with room where the place is neither the first nor the last in it
record IsLoose (xs : List Numbered) (p b : ℕ) : Type 0 where
  here : is_loose xs p b ≡ true
  nearer : (a : ℕ) → b < a → a < p → is_loose xs p a ≡ false

inner_loose : (xs : List Numbered) (p b w : ℕ) → p ≤ length xs → number_before xs p ≡ number_after xs p + 1 → NoneNarrower xs p w → fits xs p (record { begin = b; width = w }) ≡ true → b < p → p + 1 < b + w → IsLoose xs p b
inner_loose xs p b w within full least fit front back =
    let room = room-fits xs p (record { begin = b; width = w }) fit in
    let e = b + w - 1 in
    let upto : Spans (length xs) p b (p - b + 1) = record { from = omega arith; to = omega arith; within = omega arith } in
    let left = no_room-fits xs p b (p - b + 1) upto (least b (p - b + 1) (omega arith)) in
    let from : Spans (length xs) p p (e - p + 1) = record { from = omega arith; to = omega arith; within = omega (arith, room.0.within) } in
    let right = no_room-fits xs p p (e - p + 1) from (least p (e - p + 1) (omega arith)) in
    let left_end : number_after xs (b + (p - b + 1) - 1) ≡ number_after xs p = ap (number_after xs) (omega arith) in
    let right_end : number_after xs (p + (e - p + 1) - 1) ≡ number_after xs e = ap (number_after xs) (omega arith) in
    record {
      here = lt-ltb (number_before xs p + 2 * (p - b)) (number_before xs b) (omega (arith, room.1, right, right_end));
      nearer = λ a low high.
          let some : Spans (length xs) p a (e - a + 1) = record { from = omega arith; to = omega arith; within = omega (arith, room.0.within) } in
          let middle = no_room-fits xs p a (e - a + 1) some (least a (e - a + 1) (omega arith)) in
          let middle_end : number_after xs (a + (e - a + 1) - 1) ≡ number_after xs e = ap (number_after xs) (omega arith) in
          le-ltb (number_before xs p + 2 * (p - a)) (number_before xs a) (omega (arith, room.1, left, left_end, middle, middle_end, full));
    }

is_nearest : (xs : List Numbered) (p b w : ℕ) (loose : Option ℕ) → IsNearestLoose xs p w loose → b < p → p + 1 < b + w → IsLoose xs p b → loose ≡ Some b
is_nearest xs p b w None near front back h = absurd (both_ways (is_loose xs p b) (near b (omega arith) front) h.here)
is_nearest xs p b w (Some r) near front back h =
    ⊎_elim
    (λ same. ap Some same)
    (λ apart. ⊎_elim
    (λ lower. absurd (both_ways (is_loose xs p b) (near.3 b lower front) h.here))
    (λ higher. absurd (both_ways (is_loose xs p r) (h.nearer r higher near.0) near.2))
    apart)
    (cases_order r b)

pub only_three : (xs : List Numbered) (p b w : ℕ) (loose : Option ℕ) → p ≤ length xs → number_before xs p ≡ number_after xs p + 1 → NoneNarrower xs p w → IsNearestLoose xs p w loose → fits xs p (record { begin = b; width = w }) ≡ true → (b + w ≡ p + 1) ⊎ ((loose ≡ Some b) ⊎ (b ≡ p))
only_three xs p b w loose within full least near fit =
    let spans = (room-fits xs p (record { begin = b; width = w }) fit).0 in
    ⊎_elim
    (λ front. ⊎_elim
    (λ back. inr (inl (is_nearest xs p b w loose near front back (inner_loose xs p b w within full least fit front back))))
    (λ ends. let e : b + w ≡ p + 1 = omega (arith, ends, spans.to) in inl e)
    (cases_lt (p + 1) (b + w)))
    (λ starts. let e : b ≡ p = omega (arith, starts, spans.from) in inr (inr e))
    (cases_lt b p)

-- the nearest loose place is the first
pub first-loose : (xs : List Numbered) (p b w : ℕ) → p ≤ length xs → number_before xs p ≡ number_after xs p + 1 → NoneNarrower xs p w → IsNearestLoose xs p w (Some b) → NoneEnding xs p w → fits xs p (record { begin = b; width = w }) ≡ true → IsFirstBegin xs p w b
first-loose xs p b w within full least near none fit =
    record {
      fit = fit;
      earlier = λ a lt. false_from_ne_true (fits xs p (record { begin = a; width = w })) (λ other. ⊎_elim
          (λ ends. both_ways (fits xs p (record { begin = a; width = w })) (none a ends) other)
          (λ rest. ⊎_elim (λ same. let e : b ≡ a = cc in omega (arith, e, lt)) (λ starts. omega (arith, starts, lt, near.0)) rest)
          (only_three xs p a w (Some b) within full least near other));
    }

-- what is left where no window fits that ends with the place, or begins at the nearest loose one
pub first-place : (xs : List Numbered) (p w a : ℕ) (loose : Option ℕ) → p ≤ length xs → number_before xs p ≡ number_after xs p + 1 → NoneNarrower xs p w → IsNearestLoose xs p w loose → NoneEnding xs p w → ((b : ℕ) → loose ≡ Some b → fits xs p (record { begin = b; width = w }) ≡ false) → fits xs p (record { begin = a; width = w }) ≡ true → a ≡ p
first-place xs p w a loose within full least near none others fit =
    ⊎_elim
    (λ ends. absurd (both_ways (fits xs p (record { begin = a; width = w })) (none a ends) fit))
    (λ rest. ⊎_elim (λ same. absurd (both_ways (fits xs p (record { begin = a; width = w })) (others a same) fit)) (λ starts. starts) rest)
    (only_three xs p a w loose within full least near fit)

-- an answer by a test
pub answer_by_test : (t : Bool) (p : ℕ) (r : Option ℕ) (P : Type 0) (Q : ℕ → Type 0) → r ≡ then_some t p → (t ≡ true → Q p) → (t ≡ false → P) → MatchOption r P Q
answer_by_test true p r P Q e pass fail = subst (λ o. MatchOption o P Q) (sym e) (pass refl)
answer_by_test false p r P Q e pass fail = subst (λ o. MatchOption o P Q) (sym e) (fail refl)

-- a window that ends before the place is none
pub ends_before : (xs : List Numbered) (p b w : ℕ) → b + w ≤ p → fits xs p (record { begin = b; width = w }) ≡ false
ends_before xs p b w le =
    let v : Window = record { begin = b; width = w } in
    false_from_ne_true (fits xs p v) (λ fit. let spans = (room-fits xs p v fit).0 in omega (arith, spans.to, le))
