-- What an insertion keeps and changes.
use Rattle.std.proofs.Common.{◌≡◌, ◌≢◌, ◌↔◌, ℕ, ◌+◌, ◌-◌, ◌/◌, ◌<◌, ◌≤◌, List, [], ◌∷◌, ◌++◌, length, take, drop, refl, arith, sym, ap, ◌∙◌, subst, suc, cond, true, false, Option, Some, None, leb, Result, Ok, Err, OnOk, OnErr, ⊎_elim}
use Rattle.std.specs.Prelude.{insert, remove, slice_range, IsNone}
use Rattle.std.proofs.lemmas.List.{append-nil, length-append, length-map, length-take-le, length-drop, take-append-drop, take-append-le, take-take, drop-append-le, drop-take, drop-drop, drop_at}
use Rattle.std.proofs.lemmas.Bool.{leb-true, le-leb, cases_lt}
use Rattle.std.specs.List.Sorted.{IsStrictlySortedBy}
use Rattle.std.proofs.Math.Nat.{mul-div_cancel_left}
use Rattle.cl_types.specs.declared.keys.RuleKey.{RuleKey}
use Rattle.priority_assign.specs.declared.numbered.Numbered.{Numbered}
use Rattle.priority_assign.specs.declared.window.Window.{Window}
use Rattle.priority_assign.specs.Rules.{keys, place_of, number_of, number_before, number_after, last_number, FallsBetween, IsLadder}
use Rattle.priority_assign.specs.Windows.{upper, lower, fits, least_window}
use Rattle.priority_assign.specs.Insertion.{even_number, evenly, window_keys, spread, gap, halfway, inserted, changes, relabelled}
use Rattle.priority_assign.proofs.Falling.{FallsBetween-append, FallsBetween-back, FallsBetween-front, FallsBetween-below, first_number-below, last_number-above}
use Rattle.priority_assign.proofs.Even.{length-evenly, FallsBetween-evenly, changes-same, changes-append}
use Rattle.priority_assign.proofs.Room.{Spans, room-fits, fits-least}
use Rattle.priority_assign.proofs.Comes.{ComesIn, ComesIn-halfway, ComesIn-spread, ordered-ComesIn, length-ComesIn, number_of-ComesIn, remove-ComesIn, gap-ComesIn, place-le, take-split, drop-split, keys-cut}

front_falls : (xs : List Numbered) (n : ℕ) → FallsBetween 64001 99 xs → FallsBetween 64001 (number_after xs n) (take n xs)
front_falls xs n f = FallsBetween-front 64001 99 (take n xs) (drop n xs) (subst (FallsBetween 64001 99) (sym (take-append-drop n xs)) f)

back_falls : (xs : List Numbered) (n : ℕ) → FallsBetween 64001 99 xs → FallsBetween (number_before xs n) 99 (drop n xs)
back_falls xs n f = FallsBetween-back 64001 99 (take n xs) (drop n xs) (subst (FallsBetween 64001 99) (sym (take-append-drop n xs)) f)

pub number_after-below : (xs : List Numbered) (n : ℕ) → FallsBetween 64001 99 xs → number_after xs n < number_before xs n
number_after-below xs n f = first_number-below (number_before xs n) 99 (drop n xs) (back_falls xs n f)

pub falls-halfway : (xs : List Numbered) (k : RuleKey) → FallsBetween 64001 99 xs → 2 ≤ gap xs k → FallsBetween 64001 99 (halfway xs k)
falls-halfway xs k f wide =
    let n = place_of xs k in
    let low = number_after xs n in
    let high = number_before xs n in
    let middle = (low + high) / 2 in
    let above : low < middle = omega arith in
    let below : middle < high = omega arith in
    FallsBetween-append 64001 99 low (take n xs) (record { key = k; number = middle } ∷ drop n xs) (front_falls xs n f)
    (below, FallsBetween-below high middle 99 (drop n xs) (back_falls xs n f) above)

length-window_keys : (xs : List Numbered) (k : RuleKey) (v : Window) → Spans (length xs) (place_of xs k) v.begin v.width → length (window_keys xs k v) ≡ v.width
length-window_keys xs k v spans =
    let n = place_of xs k in
    let e = v.begin + v.width - 1 in
    let before = slice_range xs v.begin n in
    let after = slice_range xs n e in
    let both = length-append (keys before) (k ∷ keys after) in
    let within = place-le xs k in
    let first : length (keys before) ≡ n - v.begin = length-map before (λ x. x.key) ∙ length-take-le (n - v.begin) (drop v.begin xs) (omega (arith, length-drop v.begin xs)) in
    let second : length (keys after) ≡ e - n = length-map after (λ x. x.key) ∙ length-take-le (e - n) (drop n xs) (omega (arith, length-drop n xs, spans.within)) in
    omega (arith, both, first, second, spans.from, spans.to)

even_number-top : (l u w : ℕ) → l ≤ u → even_number l u w (w + 1) ≡ u
even_number-top l u w le = rw (mul-div_cancel_left (u - l) {n = w + 1} (omega arith)) (omega arith)

pub falls-spread : (xs : List Numbered) (k : RuleKey) (v : Window) → FallsBetween 64001 99 xs → fits xs (place_of xs k) v ≡ true → FallsBetween 64001 99 (spread xs k v)
falls-spread xs k v f fit =
    let room = room-fits xs (place_of xs k) v fit in
    let spans = room.0 in
    let l = lower xs v in
    let u = upper xs v in
    let w = v.width in
    let e = v.begin + v.width - 1 in
    let ks = window_keys xs k v in
    let top = even_number-top l u w (omega (arith, room.1, spans.from, spans.to)) in
    let some_fall = FallsBetween-evenly l u w w (w + 1) ks (omega (arith, room.1, spans.from, spans.to)) (sym (length-window_keys xs k v spans)) refl in
    let middle = subst (λ n. FallsBetween n l (evenly l u w w ks)) top some_fall in
    let joined = FallsBetween-append 64001 l (number_after xs v.begin) (take v.begin xs) (evenly l u w w ks) (front_falls xs v.begin f) middle in
    let back = FallsBetween-below (number_before xs e) (last_number 64001 (take v.begin xs ++ evenly l u w w ks)) 99 (drop e xs) (back_falls xs e f) (last_number-above 64001 l (take v.begin xs ++ evenly l u w w ks) joined) in
    FallsBetween-append 64001 99 l (take v.begin xs ++ evenly l u w w ks) (drop e xs) joined back

pub ComesIn-inserted : (xs : List Numbered) (k : RuleKey) → length xs < 16000 → ComesIn xs k (inserted xs k)
unfolding inserted
ComesIn-inserted xs k few =
    let v = least_window xs (place_of xs k) in
    let fit = fits-least xs (place_of xs k) few (place-le xs k) in
    elim (leb 2 (gap xs k)) as (λ b. ComesIn xs k (cond b (halfway xs k) (spread xs k v))) [
      | true ↦ ComesIn-halfway xs k
      | false ↦ ComesIn-spread xs k v (room-fits xs (place_of xs k) v fit).0
    ]

pub falls-inserted : (xs : List Numbered) (k : RuleKey) → FallsBetween 64001 99 xs → length xs < 16000 → FallsBetween 64001 99 (inserted xs k)
unfolding inserted
falls-inserted xs k f few =
    let v = least_window xs (place_of xs k) in
    let fit = fits-least xs (place_of xs k) few (place-le xs k) in
    elim (leb 2 (gap xs k)) as (λ b. leb 2 (gap xs k) ≡ b → FallsBetween 64001 99 (cond b (halfway xs k) (spread xs k v))) [
      | true ↦ λ e. falls-halfway xs k f (leb-true 2 (gap xs k) e)
      | false ↦ λ e. falls-spread xs k v f fit
    ] refl

pub IsLadder-inserted : (xs : List Numbered) (k : RuleKey) → IsLadder xs → number_of xs k ≡ None → length xs < 16000 → IsLadder (inserted xs k)
IsLadder-inserted xs k ladder absent few =
    let c = ComesIn-inserted xs k few in
    record {
      ordered = ordered-ComesIn xs k (inserted xs k) ladder absent c;
      falling = falls-inserted xs k ladder.falling few;
      few = omega (arith, length-ComesIn xs k (inserted xs k) c);
    }

changes-around : (t a a' b b' d : List Numbered) → length a ≡ length a' → length b ≡ length b' → changes ((t ++ a) ++ (b ++ d)) ((t ++ a') ++ (b' ++ d)) ≡ changes a a' ++ changes b b'
changes-around t a a' b b' d p q =
    let fronts : length (t ++ a) ≡ length (t ++ a') = omega (arith, length-append t a, length-append t a', p) in
    changes-append (t ++ a) (t ++ a') (b ++ d) (b' ++ d) fronts
    ∙ ap (λ zs. zs ++ changes (b ++ d) (b' ++ d)) (changes-append t t a a' refl ∙ ap (λ zs. zs ++ changes a a') (changes-same t))
    ∙ ap (λ zs. changes a a' ++ zs) (changes-append b b' d d q ∙ ap (λ zs. changes b b' ++ zs) (changes-same d) ∙ append-nil (changes b b'))

-- what changes by a spread: the window's rules before k, and those after it
pub relabelled-spread : (xs : List Numbered) (k : RuleKey) (v : Window) → fits xs (place_of xs k) v ≡ true → changes xs (remove (spread xs k v) (place_of xs k)) ≡ changes (slice_range xs v.begin (place_of xs k)) (evenly (lower xs v) (upper xs v) v.width v.width (keys (slice_range xs v.begin (place_of xs k)))) ++ changes (slice_range xs (place_of xs k) (v.begin + v.width - 1)) (evenly (lower xs v) (upper xs v) v.width (v.begin + v.width - 1 - place_of xs k) (keys (slice_range xs (place_of xs k) (v.begin + v.width - 1))))
unfolding ComesIn-spread
relabelled-spread xs k v fit =
    let spans = (room-fits xs (place_of xs k) v fit).0 in
    let n = place_of xs k in
    let l = lower xs v in
    let u = upper xs v in
    let w = v.width in
    let e = v.begin + v.width - 1 in
    let j = v.begin + v.width - n in
    let before = slice_range xs v.begin n in
    let after = slice_range xs n e in
    let next : j - 1 ≡ e - n = omega arith in
    let parts : (take v.begin xs ++ before) ++ (after ++ drop e xs) ≡ xs =
    ap (λ zs. zs ++ (after ++ drop e xs)) (take-split v.begin n xs spans.from) ∙ ap (λ zs. take n xs ++ zs) (drop-split n e xs (omega (arith, spans.to))) ∙ take-append-drop n xs in
    ap (changes xs) (remove-ComesIn xs k (spread xs k v) (ComesIn-spread xs k v spans))
    ∙ ap (λ zs. changes zs ((take v.begin xs ++ evenly l u w w (keys before)) ++ (evenly l u w (j - 1) (keys after) ++ drop e xs))) (sym parts)
    ∙ changes-around (take v.begin xs) before (evenly l u w w (keys before)) after (evenly l u w (j - 1) (keys after)) (drop e xs) (sym (length-evenly l u w w (keys before) ∙ length-map before (λ x. x.key))) (sym (length-evenly l u w (j - 1) (keys after) ∙ length-map after (λ x. x.key)))
    ∙ ap (λ i. changes before (evenly l u w w (keys before)) ++ changes after (evenly l u w i (keys after))) next

take_past : {X : Type 0} (front back : List X) (n : ℕ) → take (length front + n) (front ++ back) ≡ front ++ take n back
take_past [] back n = ap (λ m. take m back) (omega arith)
take_past (x ∷ front) back n =
    let next : suc (length front) + n ≡ suc (length front + n) = omega arith in
    ap (λ m. take m (x ∷ (front ++ back))) next ∙ ap (λ zs. x ∷ zs) (take_past front back n)

-- the parts of xs with y in it at n, around a part that has y
front_of_insert : {X : Type 0} (xs : List X) (y : X) (b n : ℕ) → b ≤ n → n ≤ length xs → take b (insert xs n y) ≡ take b xs
front_of_insert xs y b n le within =
    take-append-le b (take n xs) (y ∷ drop n xs) (omega (arith, length-take-le n xs within)) ∙ take-take b n xs le

back_of_insert : {X : Type 0} (xs : List X) (y : X) (n e : ℕ) → n ≤ length xs → n ≤ e → drop (e + 1) (insert xs n y) ≡ drop e xs
back_of_insert xs y n e within le =
    let m = e - n in
    let split : e + 1 ≡ n + suc m = omega arith in
    let whole : n + m ≡ e = omega arith in
    ap (λ i. drop i (insert xs n y)) split ∙ sym (drop-drop (suc m) n (insert xs n y)) ∙ ap (drop (suc m)) (drop_at (take n xs) (y ∷ drop n xs) n (length-take-le n xs within)) ∙ drop-drop m n xs ∙ ap (λ i. drop i xs) whole

middle_of_insert : {X : Type 0} (xs : List X) (y : X) (b n e w : ℕ) → b ≤ n → n ≤ length xs → n ≤ e → b + w ≡ e + 1 → take w (drop b (insert xs n y)) ≡ slice_range xs b n ++ y ∷ slice_range xs n e
middle_of_insert xs y b n e w low within high width =
    let front = slice_range xs b n in
    let whole : b + (n - b) ≡ n = omega arith in
    let part : drop b (take n xs) ≡ front = ap (λ i. drop b (take i xs)) (sym whole) ∙ drop-take b (n - b) xs in
    let size : length front ≡ n - b = length-take-le (n - b) (drop b xs) (omega (arith, length-drop b xs)) in
    let count : w ≡ length front + suc (e - n) = omega (arith, size) in
    ap (take w) (drop-append-le b (take n xs) (y ∷ drop n xs) (omega (arith, length-take-le n xs within)) ∙ ap (λ zs. zs ++ y ∷ drop n xs) part) ∙ ap (λ i. take i (front ++ y ∷ drop n xs)) count ∙ take_past front (y ∷ drop n xs) (suc (e - n))

-- a spread, by an insertion and new numbers for the window
pub spread-insert : (xs : List Numbered) (k : RuleKey) (v : Window) (i : ℕ) (ys : List Numbered) → Spans (length xs) (place_of xs k) v.begin v.width → ys ≡ insert xs (place_of xs k) (record { key = k; number = i }) → take v.begin ys ++ evenly (lower xs v) (upper xs v) v.width v.width (keys (take v.width (drop v.begin ys))) ++ drop (v.begin + v.width) ys ≡ spread xs k v
spread-insert xs k v i ys spans is =
    let n = place_of xs k in
    let e = v.begin + v.width - 1 in
    let rule : Numbered = record { key = k; number = i } in
    let within = place-le xs k in
    let end : v.begin + v.width ≡ e + 1 = omega (arith, spans.from, spans.to) in
    let after : n ≤ e = omega (arith, spans.to) in
    let front = ap (take v.begin) is ∙ front_of_insert xs rule v.begin n spans.from within in
    let middle = ap (λ zs. take v.width (drop v.begin zs)) is ∙ middle_of_insert xs rule v.begin n e v.width spans.from within after end in
    let back = ap (λ zs. drop (v.begin + v.width) zs) is ∙ ap (λ i. drop i (insert xs n rule)) end ∙ back_of_insert xs rule n e within after in
    let numbered = ap (λ zs. evenly (lower xs v) (upper xs v) v.width v.width (keys zs)) middle ∙ ap (evenly (lower xs v) (upper xs v) v.width v.width) (keys-cut (slice_range xs v.begin n) (slice_range xs n e) k i) in
    ap (λ zs. zs ++ evenly (lower xs v) (upper xs v) v.width v.width (keys (take v.width (drop v.begin ys))) ++ drop (v.begin + v.width) ys) front ∙ ap (λ zs. take v.begin xs ++ zs ++ drop (v.begin + v.width) ys) numbered ∙ ap (λ zs. take v.begin xs ++ evenly (lower xs v) (upper xs v) v.width v.width (window_keys xs k v) ++ zs) back

pub number_of-halfway : (xs : List Numbered) (k : RuleKey) → number_of (halfway xs k) k ≡ Some ((number_after xs (place_of xs k) + number_before xs (place_of xs k)) / 2)
unfolding ComesIn-halfway
number_of-halfway xs k = number_of-ComesIn xs k (halfway xs k) (ComesIn-halfway xs k)

pub number_of-spread : (xs : List Numbered) (k : RuleKey) (v : Window) → Spans (length xs) (place_of xs k) v.begin v.width → number_of (spread xs k v) k ≡ Some (even_number (lower xs v) (upper xs v) v.width (v.begin + v.width - place_of xs k))
unfolding ComesIn-spread
number_of-spread xs k v spans = number_of-ComesIn xs k (spread xs k v) (ComesIn-spread xs k v spans)

-- what is collected of a window's rules, first of those before k and then of those after it
pub collected-spread : (xs : List Numbered) (k : RuleKey) (v : Window) (ys some all : List Numbered) → fits xs (place_of xs k) v ≡ true → ys ≡ spread xs k v → some ≡ [] ++ changes (slice_range xs v.begin (place_of xs k)) (evenly (lower xs v) (upper xs v) v.width v.width (keys (slice_range xs v.begin (place_of xs k)))) → all ≡ some ++ changes (slice_range xs (place_of xs k) (v.begin + v.width - 1)) (evenly (lower xs v) (upper xs v) v.width (v.begin + v.width - 1 - place_of xs k) (keys (slice_range xs (place_of xs k) (v.begin + v.width - 1)))) → all ≡ changes xs (remove ys (place_of xs k))
collected-spread xs k v ys some all fit is first second =
    second ∙ ap (λ zs. zs ++ changes (slice_range xs (place_of xs k) (v.begin + v.width - 1)) (evenly (lower xs v) (upper xs v) v.width (v.begin + v.width - 1 - place_of xs k) (keys (slice_range xs (place_of xs k) (v.begin + v.width - 1))))) first ∙ sym (relabelled-spread xs k v fit) ∙ ap (λ zs. changes xs (remove zs (place_of xs k))) (sym is)

pub relabelled-wide : (xs : List Numbered) (k : RuleKey) → 2 ≤ gap xs k → relabelled xs k ≡ []
unfolding ComesIn-halfway inserted relabelled
relabelled-wide xs k wide =
    let n = place_of xs k in
    let others = remove-ComesIn xs k (halfway xs k) (ComesIn-halfway xs k) ∙ take-append-drop n xs in
    rw (le-leb 2 (gap xs k) wide) (ap (changes xs) others ∙ changes-same xs)

-- other numbers change exactly where the neighbours' numbers are next to each other
pub relabelled-gap : (xs : List Numbered) (k : RuleKey) (zs : List Numbered) → IsLadder xs → length xs < 16000 → zs ≡ relabelled xs k → (zs ≢ []) ↔ (gap xs k ≡ 1)
unfolding inserted relabelled
relabelled-gap xs k zs ladder few is =
    let positive = number_after-below xs (place_of xs k) ladder.falling in
    let c = ComesIn-inserted xs k few in
    let falls = falls-inserted xs k ladder.falling few in (
      λ some. ⊎_elim
          (λ narrow. omega (arith, narrow, positive))
          (λ wide. absurd (some (is ∙ relabelled-wide xs k wide)))
          (cases_lt (gap xs k) 2),
      λ one none. absurd (omega (arith, one, gap-ComesIn xs k (inserted xs k) c falls (sym is ∙ none))),
    )

-- a list that came in, or is as it was
pub IsLadder-either : {T E : Type 0} (r : Result T E) (xs : List Numbered) (k : RuleKey) (ys : List Numbered) → IsLadder xs → number_of xs k ≡ None → length xs < 16000 → OnOk r (ys ≡ inserted xs k) → OnErr r (ys ≡ xs) → IsLadder ys
IsLadder-either (Ok x) xs k ys ladder absent few ok err = subst IsLadder (sym ok) (IsLadder-inserted xs k ladder absent few)
IsLadder-either (Err x) xs k ys ladder absent few ok err = subst IsLadder (sym err) ladder

pub IsLadder-nil : IsLadder []
unfolding IsStrictlySortedBy
IsLadder-nil = record { ordered = tt; falling = omega arith; few = omega arith }

pub none_from_is_none : {A : Type 0} (o : Option A) → IsNone o → o ≡ None
none_from_is_none None h = refl
none_from_is_none (Some x) h = cc
