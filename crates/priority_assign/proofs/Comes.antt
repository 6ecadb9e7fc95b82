-- A rule that comes in: the list before its place, the rule, and the list after it.
use Rattle.std.proofs.Common.{◌≡◌, ℕ, ◌+◌, ◌-◌, ◌/◌, ◌≤◌, List, [], ◌∷◌, ◌++◌, length, take, drop, refl, arith, sym, ap, ◌∙◌, subst, Option, Some, None, find}
use Rattle.std.specs.Prelude.{insert, remove, slice_range, option_map}
use Rattle.std.specs.List.{AllByRecursion, prefix_len}
use Rattle.std.specs.List.Sorted.{IsStrictlySortedBy}
use Rattle.std.specs.Ordering.{is_lt, is_eq}
use Rattle.std.proofs.lemmas.List.{append_assoc, map-append, length-map, length-take-le, length-drop, take-append-drop, take_at, drop_at, take-map, drop-map, drop-drop, drop-take, take-take}
use Rattle.std.proofs.lemmas.List.Edits.{length-insert, remove-append_right}
use Rattle.std.specs.declared.cmp.Ordering.TheVariants.{Less}
use Rattle.std.proofs.lemmas.Cmp.{tied_itself}
use Rattle.std.proofs.lemmas.List.Sums.{prefix_len-le-length}
use Rattle.cl_types.specs.declared.keys.RuleKey.{RuleKey}
use Rattle.cl_types.specs.RuleOrder.{rule_order, rule_order_total}
use Rattle.priority_assign.specs.declared.numbered.Numbered.{Numbered}
use Rattle.priority_assign.specs.declared.window.Window.{Window}
use Rattle.priority_assign.specs.Rules.{keys, place_of, number_of, number_before, number_after, last_number, first_number, FallsBetween, IsLadder, is_rule, is_before}
use Rattle.priority_assign.specs.Windows.{upper, lower}
use Rattle.priority_assign.specs.Insertion.{even_number, evenly, spread, gap, halfway, changes}
use Rattle.priority_assign.proofs.Falling.{FallsBetween-back, first_number-below}
use Rattle.priority_assign.proofs.Ordered.{IsStrictlySortedBy-insert, all_before_place, prefix_len-map, find-map, find-behind}
use Rattle.priority_assign.proofs.Even.{keys-evenly, evenly-append, same_from_changes}
use Rattle.priority_assign.proofs.Room.{Spans}

pub place-le : (xs : List Numbered) (k : RuleKey) → place_of xs k ≤ length xs
unfolding is_before is_rule
place-le xs k = prefix_len-le-length (is_before k) xs

-- ys is xs with k at its place, whatever the numbers
pub record ComesIn (xs : List Numbered) (k : RuleKey) (ys : List Numbered) : Type 0 where
  pub front : List Numbered
  pub number : ℕ
  pub back : List Numbered
  pub is : ys ≡ front ++ record { key = k; number = number } ∷ back
  pub front_keys : keys front ≡ take (place_of xs k) (keys xs)
  pub back_keys : keys back ≡ drop (place_of xs k) (keys xs)

pub keys-cut : (front back : List Numbered) (k : RuleKey) (n : ℕ) → keys (front ++ record { key = k; number = n } ∷ back) ≡ keys front ++ k ∷ keys back
keys-cut front back k n = map-append (λ x. x.key) front (record { key = k; number = n } ∷ back)

pub keys-ComesIn : (xs : List Numbered) (k : RuleKey) (ys : List Numbered) → ComesIn xs k ys → keys ys ≡ insert (keys xs) (place_of xs k) k
keys-ComesIn xs k ys c =
    ap keys c.is ∙ keys-cut c.front c.back k c.number ∙ rw (c.front_keys, c.back_keys) refl

none_of_map : {A B : Type 0} (f : A → B) (r : Option A) → option_map f r ≡ None → r ≡ None
none_of_map f None h = refl
none_of_map f (Some x) h = cc

place-keys : (xs : List Numbered) (k : RuleKey) → prefix_len (λ q. is_lt (rule_order q k)) (keys xs) ≡ place_of xs k
unfolding is_before is_rule
place-keys xs k = prefix_len-map (λ x. x.key) (λ q. is_lt (rule_order q k)) xs

pub ordered-ComesIn : (xs : List Numbered) (k : RuleKey) (ys : List Numbered) → IsLadder xs → number_of xs k ≡ None → ComesIn xs k ys → IsStrictlySortedBy rule_order (keys ys)
unfolding is_before is_rule
ordered-ComesIn xs k ys ladder absent c =
    let absent_key = find-map (λ x. x.key) (λ q. is_eq (rule_order q k)) xs (none_of_map (λ x. x.number) (find (is_rule k) xs) absent) in
    let sorted = IsStrictlySortedBy-insert rule_order_total k (keys xs) ladder.ordered absent_key in
    subst (IsStrictlySortedBy rule_order) (ap (λ n. insert (keys xs) n k) (place-keys xs k) ∙ sym (keys-ComesIn xs k ys c)) sorted

length-front : (xs : List Numbered) (k : RuleKey) (ys : List Numbered) (c : ComesIn xs k ys) → length c.front ≡ place_of xs k
length-front xs k ys c =
    sym (length-map c.front (λ x. x.key)) ∙ ap length c.front_keys ∙ length-take-le (place_of xs k) (keys xs) (omega (arith, place-le xs k, length-map xs (λ x. x.key)))

pub length-ComesIn : (xs : List Numbered) (k : RuleKey) (ys : List Numbered) → ComesIn xs k ys → length ys ≡ length xs + 1
length-ComesIn xs k ys c =
    let in_keys : length (keys ys) ≡ length (insert (keys xs) (place_of xs k) k) = ap length (keys-ComesIn xs k ys c) in
    let more = length-insert (keys xs) (place_of xs k) k (omega (arith, place-le xs k, length-map xs (λ x. x.key))) in
    omega (arith, in_keys, more, length-map xs (λ x. x.key), length-map ys (λ x. x.key))

pub number_of-ComesIn : (xs : List Numbered) (k : RuleKey) (ys : List Numbered) (c : ComesIn xs k ys) → number_of ys k ≡ Some c.number
unfolding is_before is_rule
number_of-ComesIn xs k ys c =
    let before = all_before_place rule_order k (keys xs) in
    let front_before : AllByRecursion (λ q. rule_order q k ≡ Less) (keys c.front) =
    subst (AllByRecursion (λ q. rule_order q k ≡ Less)) (ap (λ n. take n (keys xs)) (place-keys xs k) ∙ sym c.front_keys) before in
    let found = find-behind (λ x. x.key) rule_order k c.front (record { key = k; number = c.number }) c.back front_before (ap is_eq (tied_itself rule_order_total k)) in
    ap (λ zs. number_of zs k) c.is ∙ ap (option_map (λ x. x.number)) found

pub remove-ComesIn : (xs : List Numbered) (k : RuleKey) (ys : List Numbered) (c : ComesIn xs k ys) → remove ys (place_of xs k) ≡ c.front ++ c.back
remove-ComesIn xs k ys c =
    let n = place_of xs k in
    let rule : Numbered = record { key = k; number = c.number } in
    let at_end : n - n ≡ 0 = omega arith in
    ap (λ zs. remove zs n) c.is ∙ remove-append_right c.front (rule ∷ c.back) n n (length-front xs k ys c) (omega arith) ∙ ap (λ i. c.front ++ remove (rule ∷ c.back) i) at_end

-- where no other number changed, there was a gap
pub gap-ComesIn : (xs : List Numbered) (k : RuleKey) (ys : List Numbered) → ComesIn xs k ys → FallsBetween 64001 99 ys → changes xs (remove ys (place_of xs k)) ≡ [] → 2 ≤ gap xs k
gap-ComesIn xs k ys c falls same =
    let n = place_of xs k in
    let rule : Numbered = record { key = k; number = c.number } in
    let others : changes xs (c.front ++ c.back) ≡ [] = ap (changes xs) (sym (remove-ComesIn xs k ys c)) ∙ same in
    let same_keys : keys xs ≡ keys (c.front ++ c.back) =
    sym (map-append (λ x. x.key) c.front c.back ∙ rw (c.front_keys, c.back_keys) (take-append-drop n (keys xs))) in
    let kept = same_from_changes xs (c.front ++ c.back) same_keys others in
    let before : take n xs ≡ c.front = ap (take n) kept ∙ take_at c.front c.back n (length-front xs k ys c) in
    let after : drop n xs ≡ c.back = ap (drop n) kept ∙ drop_at c.front c.back n (length-front xs k ys c) in
    let back = FallsBetween-back 64001 99 c.front (rule ∷ c.back) (subst (FallsBetween 64001 99) c.is falls) in
    let below = first_number-below c.number 99 c.back back.1 in
    let high : number_before xs n ≡ last_number 64001 c.front = ap (last_number 64001) before in
    let low : number_after xs n ≡ first_number 99 c.back = ap (first_number 99) after in
    omega (arith, back.0, below, high, low)

unfoldable pub ComesIn-halfway : (xs : List Numbered) (k : RuleKey) → ComesIn xs k (halfway xs k)
ComesIn-halfway xs k =
    let n = place_of xs k in
    record {
      front = take n xs;
      number = (number_after xs n + number_before xs n) / 2;
      back = drop n xs;
      is = refl;
      front_keys = sym (take-map (λ x. x.key) n xs);
      back_keys = sym (drop-map (λ x. x.key) n xs);
    }

pub take-split : {X : Type 0} (i j : ℕ) (xs : List X) → i ≤ j → take i xs ++ take (j - i) (drop i xs) ≡ take j xs
take-split i j xs le =
    let e : i + (j - i) ≡ j = omega arith in
    let part : drop i (take j xs) ≡ take (j - i) (drop i xs) = ap (λ n. drop i (take n xs)) (sym e) ∙ drop-take i (j - i) xs in
    sym (ap (λ zs. zs ++ take (j - i) (drop i xs)) (take-take i j xs le)) ∙ ap (λ zs. take i (take j xs) ++ zs) (sym part) ∙ take-append-drop i (take j xs)

pub drop-split : {X : Type 0} (i j : ℕ) (xs : List X) → i ≤ j → take (j - i) (drop i xs) ++ drop j xs ≡ drop i xs
drop-split i j xs le =
    let e : i + (j - i) ≡ j = omega arith in
    ap (λ n. take (j - i) (drop i xs) ++ drop n xs) (sym e) ∙ ap (λ zs. take (j - i) (drop i xs) ++ zs) (sym (drop-drop (j - i) i xs)) ∙ take-append-drop (j - i) (drop i xs)

pub regroup : {X : Type 0} (t e : List X) (y : X) (f d : List X) → (t ++ (e ++ y ∷ f)) ++ d ≡ (t ++ e) ++ y ∷ (f ++ d)
regroup t e y f d = simp append_assoc

unfoldable pub ComesIn-spread : (xs : List Numbered) (k : RuleKey) (v : Window) → Spans (length xs) (place_of xs k) v.begin v.width → ComesIn xs k (spread xs k v)
ComesIn-spread xs k v spans =
    let n = place_of xs k in
    let l = lower xs v in
    let u = upper xs v in
    let w = v.width in
    let e = v.begin + v.width - 1 in
    let j = v.begin + v.width - n in
    let before = slice_range xs v.begin n in
    let after = slice_range xs n e in
    let behind : length (keys before) ≡ n - v.begin = length-map before (λ x. x.key) ∙ length-take-le (n - v.begin) (drop v.begin xs) (omega (arith, length-drop v.begin xs, place-le xs k)) in
    record {
      front = take v.begin xs ++ evenly l u w w (keys before);
      number = even_number l u w j;
      back = evenly l u w (j - 1) (keys after) ++ drop e xs;
      is = ap (λ zs. take v.begin xs ++ zs ++ drop e xs) (evenly-append l u w w j (keys before) (k ∷ keys after) (omega (arith, behind, spans.from))) ∙ regroup (take v.begin xs) (evenly l u w w (keys before)) (record { key = k; number = even_number l u w j }) (evenly l u w (j - 1) (keys after)) (drop e xs);
      front_keys = map-append (λ x. x.key) (take v.begin xs) (evenly l u w w (keys before)) ∙ ap (λ zs. keys (take v.begin xs) ++ zs) (keys-evenly l u w w (keys before)) ∙ sym (map-append (λ x. x.key) (take v.begin xs) before) ∙ ap keys (take-split v.begin n xs spans.from) ∙ sym (take-map (λ x. x.key) n xs);
      back_keys = map-append (λ x. x.key) (evenly l u w (j - 1) (keys after)) (drop e xs) ∙ ap (λ zs. zs ++ keys (drop e xs)) (keys-evenly l u w (j - 1) (keys after)) ∙ sym (map-append (λ x. x.key) after (drop e xs)) ∙ ap keys (drop-split n e xs (omega (arith, spans.to))) ∙ sym (drop-map (λ x. x.key) n xs);
    }
