-- The first of the windows that has room.
use Rattle.std.proofs.Common.{◌≡◌, ℕ, ◌+◌, ◌-◌, ◌*◌, ◌<◌, ◌≤◌, List, [], ◌∷◌, ◌++◌, map, length, drop, refl, arith, sym, ap, ◌∙◌, subst, zero, suc, cond, Bool, true, false, Option, Some, None, find, ⊎_elim, ◌&&◌, leb, ltb}
use Rattle.std.proofs.lemmas.List.{drop_all}
use Rattle.std.proofs.lemmas.Option.{same_Some}
use Rattle.std.specs.Prelude.{unwrap_or}
use Rattle.std.specs.List.{flat_map, range_with_len}
use Rattle.std.proofs.lemmas.Bool.{both_ways, cases_lt, cases_eq, and_parts, and_from, le-leb, lt-ltb, leb-true, leb-false, ltb-true}
use Rattle.priority_assign.specs.declared.numbered.Numbered.{Numbered}
use Rattle.priority_assign.specs.declared.window.Window.{Window}
use Rattle.priority_assign.specs.Rules.{first_number, number_before, number_after}
use Rattle.priority_assign.specs.Windows.{upper, lower, fits, has_room, is_window, of_width, windows, window_of_all, least_window, IsLeast}

none_parts : {X : Type 0} (b : Bool) (x : X) (r : Option X) → cond b (Some x) r ≡ None → (b ≡ false) × (r ≡ None)
none_parts true x r h = cc
none_parts false x r h = (refl, h)

find-front : {X : Type 0} (q : X → Bool) (front back : List X) (x : X) → find q front ≡ Some x → find q (front ++ back) ≡ Some x
find-front q [] back x h = cc
find-front q (y ∷ front) back x h =
    elim (q y) as (λ b. cond b (Some y) (find q front) ≡ Some x → cond b (Some y) (find q (front ++ back)) ≡ Some x)
    [ true ↦ λ g. g | false ↦ λ g. find-front q front back x g ] h

find-back : {X : Type 0} (q : X → Bool) (front back : List X) → find q front ≡ None → find q (front ++ back) ≡ find q back
find-back q [] back h = refl
find-back q (y ∷ front) back h =
    elim (q y) as (λ b. cond b (Some y) (find q front) ≡ None → cond b (Some y) (find q (front ++ back)) ≡ find q back)
    [ true ↦ λ g. cc | false ↦ λ g. find-back q front back g ] h

none_front : {X : Type 0} (q : X → Bool) (front back : List X) → find q (front ++ back) ≡ None → find q front ≡ None
none_front q [] back h = refl
none_front q (y ∷ front) back h =
    elim (q y) as (λ b. cond b (Some y) (find q (front ++ back)) ≡ None → cond b (Some y) (find q front) ≡ None)
    [ true ↦ λ g. cc | false ↦ λ g. none_front q front back g ] h

-- the first of a row that passes
find-row : {X : Type 0} (q : X → Bool) (f : ℕ → X) (a n b : ℕ) → a ≤ b → b < a + n → ((j : ℕ) → j < b → q (f j) ≡ false) → q (f b) ≡ true → find q (map f (range_with_len a n)) ≡ Some (f b)
find-row q f a zero b low high before here = absurd (omega (arith, low, high))
find-row q f a (suc n) b low high before here =
    ⊎_elim
    (λ e. let first : q (f a) ≡ true = rw e here in rw first (ap (λ c. Some (f c)) e))
    (λ ne.
    let later : a < b = omega (arith, low) in
    rw (before a later) (find-row q f (a + 1) n b (omega (arith, low)) (omega (arith, high)) before here))
    (cases_eq a b)

none-row : {X : Type 0} (q : X → Bool) (f : ℕ → X) (a n : ℕ) → ((j : ℕ) → q (f j) ≡ false) → find q (map f (range_with_len a n)) ≡ None
none-row q f a zero h = refl
none-row q f a (suc n) h = rw (h a) (none-row q f (a + 1) n h)

none_in_row : {X : Type 0} (q : X → Bool) (f : ℕ → X) (a n b : ℕ) → a ≤ b → b < a + n → find q (map f (range_with_len a n)) ≡ None → q (f b) ≡ false
none_in_row q f a zero b low high h = absurd (omega (arith, low, high))
none_in_row q f a (suc n) b low high h =
    let parts = none_parts (q (f a)) (f a) (find q (map f (range_with_len (a + 1) n))) h in
    ⊎_elim
    (λ e. rw (← e) parts.0)
    (λ ne. none_in_row q f (a + 1) n b (omega (arith, low)) (omega (arith, high)) parts.1)
    (cases_eq a b)

-- the first of rows, one after another
find-rows : {X : Type 0} (q : X → Bool) (f : ℕ → List X) (a n w : ℕ) (x : X) → a ≤ w → w < a + n → ((j : ℕ) → j < w → find q (f j) ≡ None) → find q (f w) ≡ Some x → find q (flat_map f (range_with_len a n)) ≡ Some x
find-rows q f a zero w x low high before here = absurd (omega (arith, low, high))
find-rows q f a (suc n) w x low high before here =
    ⊎_elim
    (λ e. find-front q (f a) (flat_map f (range_with_len (a + 1) n)) x (rw e here))
    (λ ne.
    let later : a < w = omega (arith, low) in
    find-back q (f a) (flat_map f (range_with_len (a + 1) n)) (before a later) ∙ find-rows q f (a + 1) n w x (omega (arith, low)) (omega (arith, high)) before here)
    (cases_eq a w)

none_in_rows : {X : Type 0} (q : X → Bool) (f : ℕ → List X) (a n w : ℕ) → a ≤ w → w < a + n → find q (flat_map f (range_with_len a n)) ≡ None → find q (f w) ≡ None
none_in_rows q f a zero w low high h = absurd (omega (arith, low, high))
none_in_rows q f a (suc n) w low high h =
    let first = none_front q (f a) (flat_map f (range_with_len (a + 1) n)) h in
    ⊎_elim
    (λ e. rw (← e) first)
    (λ ne. none_in_rows q f (a + 1) n w (omega (arith, low)) (omega (arith, high)) (sym (find-back q (f a) (flat_map f (range_with_len (a + 1) n)) first) ∙ h))
    (cases_eq a w)

passes : {X : Type 0} (q : X → Bool) (xs : List X) (x : X) → find q xs ≡ Some x → q x ≡ true
passes q [] x h = cc
passes q (y ∷ xs) x h =
    elim (q y) as (λ b. q y ≡ b → cond b (Some y) (find q xs) ≡ Some x → q x ≡ true)
    [ true ↦ λ e g. let same : y ≡ x = cc in rw (← same) e | false ↦ λ e g. passes q xs x g ] refl h

-- what a window is
pub record Spans (n p b w : ℕ) : Type 0 where
  pub from : b ≤ p
  pub to : p < b + w
  pub within : b + w ≤ n + 1

pub Spans-is_window : (xs : List Numbered) (p : ℕ) (v : Window) → is_window xs p v ≡ true → Spans (length xs) p v.begin v.width
Spans-is_window xs p v h =
    let both = and_parts (leb v.begin p && ltb p (v.begin + v.width)) (leb (v.begin + v.width) (length xs + 1)) h in
    let ends = and_parts (leb v.begin p) (ltb p (v.begin + v.width)) both.0 in
    record {
      from = leb-true v.begin p ends.0;
      to = ltb-true p (v.begin + v.width) ends.1;
      within = leb-true (v.begin + v.width) (length xs + 1) both.1;
    }

-- Of the windows that fit this one is the narrowest, and of those as wide the one that begins first.
pub least_window-is : (xs : List Numbered) (p b w : ℕ) → fits xs p (record { begin = b; width = w }) ≡ true → ((a v : ℕ) → v < w → fits xs p (record { begin = a; width = v }) ≡ false) → ((a : ℕ) → a < b → fits xs p (record { begin = a; width = w }) ≡ false) → least_window xs p ≡ record { begin = b; width = w }
least_window-is xs p b w fit narrower earlier =
    let v : Window = record { begin = b; width = w } in
    let n = length xs in
    let spans = Spans-is_window xs p v (and_parts (is_window xs p v) (has_room xs v) fit).0 in
    let row = find-row (fits xs p) (λ a. record { begin = a; width = w }) 0 (n + 1) b (omega arith) (omega arith) earlier fit in
    let all =
    find-rows (fits xs p) (of_width n) 1 (n + 1) w v (omega arith) (omega arith)
    (λ j lt. none-row (fits xs p) (λ a. record { begin = a; width = j }) 0 (n + 1) (λ a. narrower a j lt)) row in
    ap (λ r. unwrap_or r (window_of_all n)) all

-- The window of all rules fits.
pub fits-all : (xs : List Numbered) (p : ℕ) → length xs < 16000 → p ≤ length xs → fits xs p (window_of_all (length xs)) ≡ true
fits-all xs p few within =
    let n = length xs in
    let none_after : drop (0 + (n + 1) - 1) xs ≡ [] = drop_all (0 + (n + 1) - 1) xs (omega arith) in
    let room : leb (2 * (n + 1)) (64001 - first_number 99 (drop (0 + (n + 1) - 1) xs) - 1) ≡ true = rw none_after (le-leb (2 * (n + 1)) (64001 - 99 - 1) (omega arith)) in
    and_from (is_window xs p (window_of_all n)) (has_room xs (window_of_all n))
    (and_from (leb 0 p && ltb p (0 + (n + 1))) (leb (0 + (n + 1)) (n + 1))
    (and_from (leb 0 p) (ltb p (0 + (n + 1))) (le-leb 0 p (omega arith)) (lt-ltb p (0 + (n + 1)) (omega arith)))
    (le-leb (0 + (n + 1)) (n + 1) (omega arith)))
    room

pub fits-least : (xs : List Numbered) (p : ℕ) → length xs < 16000 → p ≤ length xs → fits xs p (least_window xs p) ≡ true
fits-least xs p few within =
    let n = length xs in
    elim (find (fits xs p) (windows n)) as (λ r. find (fits xs p) (windows n) ≡ r → fits xs p (unwrap_or r (window_of_all n)) ≡ true) [
      | None ↦ λ e. fits-all xs p few within
      | Some v ↦ λ e. passes (fits xs p) (windows n) v e
    ] refl

pub room-fits : (xs : List Numbered) (p : ℕ) (v : Window) → fits xs p v ≡ true → (Spans (length xs) p v.begin v.width) × (2 * v.width ≤ upper xs v - lower xs v - 1)
room-fits xs p v fit =
    let both = and_parts (is_window xs p v) (has_room xs v) fit in
    (Spans-is_window xs p v both.0, leb-true (2 * v.width) (upper xs v - lower xs v - 1) both.1)

pub no_room-fits : (xs : List Numbered) (p b w : ℕ) → Spans (length xs) p b w → fits xs p (record { begin = b; width = w }) ≡ false → number_before xs b - number_after xs (b + w - 1) - 1 < 2 * w
no_room-fits xs p b w spans none =
    let v : Window = record { begin = b; width = w } in
    let window : is_window xs p v ≡ true =
    and_from (leb b p && ltb p (b + w)) (leb (b + w) (length xs + 1)) (and_from (leb b p) (ltb p (b + w)) (le-leb b p spans.from) (lt-ltb p (b + w) spans.to)) (le-leb (b + w) (length xs + 1) spans.within) in
    leb-false (2 * w) (number_before xs b - number_after xs (b + w - 1) - 1) (subst (λ t. (t && has_room xs v) ≡ false) window none)

-- what is found in a row, and in rows one after another
record FoundInRow {X : Type 0} (q : X → Bool) (f : ℕ → X) (a : ℕ) (x : X) : Type 0 where
  at : ℕ
  is : x ≡ f at
  before : (j : ℕ) → a ≤ j → j < at → q (f j) ≡ false

found_in_row : {X : Type 0} (q : X → Bool) (f : ℕ → X) (a n : ℕ) (x : X) → find q (map f (range_with_len a n)) ≡ Some x → FoundInRow q f a x
found_in_row q f a zero x h = cc
found_in_row q f a (suc n) x h =
    elim (q (f a)) as (λ t. q (f a) ≡ t → cond t (Some (f a)) (find q (map f (range_with_len (a + 1) n))) ≡ Some x → FoundInRow q f a x) [
      | true ↦ λ e g. record { at = a; is = cc; before = λ j low high. absurd (omega (arith, low, high)) }
      | false ↦ λ e g.
          let rest = found_in_row q f (a + 1) n x g in
          record {
            at = rest.at;
            is = rest.is;
            before = λ j low high. ⊎_elim (λ same. subst (λ i. q (f i) ≡ false) same e) (λ apart. rest.before j (omega (arith, low, apart)) high) (cases_eq a j);
          }
    ] refl h

record FoundInRows {X : Type 0} (q : X → Bool) (f : ℕ → List X) (a : ℕ) (x : X) : Type 0 where
  at : ℕ
  is : find q (f at) ≡ Some x
  before : (j : ℕ) → a ≤ j → j < at → find q (f j) ≡ None

found_in_rows : {X : Type 0} (q : X → Bool) (f : ℕ → List X) (a n : ℕ) (x : X) → find q (flat_map f (range_with_len a n)) ≡ Some x → FoundInRows q f a x
found_in_rows q f a zero x h = cc
found_in_rows q f a (suc n) x h =
    let others = flat_map f (range_with_len (a + 1) n) in
    elim (find q (f a)) as (λ r. find q (f a) ≡ r → FoundInRows q f a x) [
      | None ↦ λ e.
          let rest = found_in_rows q f (a + 1) n x (sym (find-back q (f a) others e) ∙ h) in
          record {
            at = rest.at;
            is = rest.is;
            before = λ j low high. ⊎_elim (λ same. subst (λ i. find q (f i) ≡ None) same e) (λ apart. rest.before j (omega (arith, low, apart)) high) (cases_eq a j);
          }
      | Some y ↦ λ e.
          let same : y ≡ x = same_Some y x (sym (find-front q (f a) others y e) ∙ h) in
          record { at = a; is = e ∙ ap Some same; before = λ j low high. absurd (omega (arith, low, high)) }
    ] refl

found_least : (xs : List Numbered) (p : ℕ) (v : Window) → find (fits xs p) (windows (length xs)) ≡ Some v → IsLeast xs p v
found_least xs p v h =
    let n = length xs in
    let q = fits xs p in
    let rows = found_in_rows q (of_width n) 1 (n + 1) v h in
    let row = found_in_row q (λ b. record { begin = b; width = rows.at }) 0 (n + 1) v rows.is in
    let width : v.width ≡ rows.at = ap (λ (u : Window). u.width) row.is in
    let begin : v.begin ≡ row.at = ap (λ (u : Window). u.begin) row.is in
    record {
      fit = passes q (windows n) v h;
      narrowest = λ u fit. ⊎_elim
          (λ narrower.
          let spans = (room-fits xs p u fit).0 in
          let none = rows.before u.width (omega (arith, spans.from, spans.to)) (omega (arith, narrower, width)) in
          absurd (both_ways (q u) (none_in_row q (λ b. record { begin = b; width = u.width }) 0 (n + 1) u.begin (omega arith) (omega (arith, spans.from, spans.to, spans.within)) none) fit))
          (λ wide. wide)
          (cases_lt u.width v.width);
      first = λ u fit same. ⊎_elim
          (λ earlier.
          let none = row.before u.begin (omega arith) (omega (arith, earlier, begin)) in
          absurd (both_ways (q u) (subst (λ w. q (record { begin = u.begin; width = w }) ≡ false) (sym (same ∙ width)) none) fit))
          (λ later. later)
          (cases_lt u.begin v.begin);
    }

pub IsLeast-least_window : (xs : List Numbered) (p : ℕ) → length xs < 16000 → p ≤ length xs → IsLeast xs p (least_window xs p)
IsLeast-least_window xs p few within =
    let n = length xs in
    elim (find (fits xs p) (windows n)) as (λ r. find (fits xs p) (windows n) ≡ r → IsLeast xs p (unwrap_or r (window_of_all n))) [
      | None ↦ λ e.
          let row = none_in_rows (fits xs p) (of_width n) 1 (n + 1) (n + 1) (omega arith) (omega arith) e in
          let none = none_in_row (fits xs p) (λ a. record { begin = a; width = n + 1 }) 0 (n + 1) 0 (omega arith) (omega arith) row in
          absurd (both_ways (fits xs p (window_of_all n)) none (fits-all xs p few within))
      | Some v ↦ λ e. found_least xs p v e
    ] refl
