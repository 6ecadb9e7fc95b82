-- Items of an ascending list that stand together: those in front of them, and those behind.
use Rattle.std.proofs.Common.{◌≡◌, ◌≢◌, ◌<◌, ◌≤◌, ◌++◌, ℕ, zero, suc, List, [], ◌∷◌, Bool, true, false, length, get_or, take, refl, sym, ap, subst, ◌∙◌, inl, inr, arith}
use Rattle.std.proofs.lemmas.Bool.{cases_lt}
use Rattle.std.proofs.lemmas.Cmp.{alike_right, tied_itself, nat_cmp_total}
use Rattle.std.specs.Cmp.{IsTotalOrder}
use Rattle.std.specs.List.{AllWithin, flat_map}
use Rattle.std.specs.Ordering.{ordering_reverse, ordering_then}
use Rattle.std.specs.declared.cmp.Ordering.{Ordering}
use Rattle.std.specs.declared.cmp.Ordering.TheVariants.{Less, Equal, Greater}
use Rattle.cl_types.specs.declared.keys.PodKey.{PodKey}
use Rattle.cl_types.specs.Ascending.{Ascends, IsGap, IsPlace}
use Rattle.cl_types.specs.OrderLaws.{text_eq-itself, text_eq-one}
use Rattle.cl_types.specs.RuleOrder.{pod_order, pod_order_total}
use Rattle.cl_types.specs.SearchLaws.{ascends_between}
use Rattle.cl_types.specs.Text.{text_eq, text_order, text_order_total}
use Rattle.cluster_types.specs.Pod.{PodData}
use Rattle.group_index.specs.declared.stretch.Stretch.{Stretch}
use Rattle.group_index.specs.declared.stretch.Stretches.{Stretches}
use Rattle.group_index.specs.Index.{EntryData}
use Rattle.group_index.specs.Settled.{AreStretches, IsStretch}

module _ {T K : Type 0} (key : T → K) {cmp : K → K → Ordering} (o : IsTotalOrder cmp) (k : K) (xs : List T) (up : Ascends key cmp xs) where
  -- from the item with the key on none is less
  pub from_place : (i : ℕ) → IsPlace (λ y. cmp (key y) k) xs i → AllWithin (λ y. cmp (key y) k ≢ Less) xs i (length xs)
  from_place i place j d lo hi less = elim (cases_lt i j) [
    | inl lt ↦ later lt
    | inr le ↦ here (let e : j ≡ i = omega arith in e)
  ]
    where
      here : j ≡ i → ⊥
      here e = let is : cmp (key (get_or xs j d)) k ≡ Equal = subst (λ n. cmp (key (get_or xs n d)) k ≡ Equal) (sym e) (place.here d) in cc

      later : i < j → ⊥
      later lt =
          let rises : cmp (key (get_or xs i d)) (key (get_or xs j d)) ≡ Less = ascends_between key cmp xs i j d up lt hi in
          let alike : cmp (key (get_or xs j d)) (key (get_or xs i d)) ≡ cmp (key (get_or xs j d)) k = alike_right o (key (get_or xs i d)) k (key (get_or xs j d)) (place.here d) in
          let falls : cmp (key (get_or xs j d)) (key (get_or xs i d)) ≡ Greater = o.antisymm (key (get_or xs j d)) (key (get_or xs i d)) ∙ ap ordering_reverse rises in
          cc

  -- nor behind its gap
  pub from_gap : (i : ℕ) → IsGap (λ y. cmp (key y) k) xs i → AllWithin (λ y. cmp (key y) k ≢ Less) xs i (length xs)
  from_gap i gap j d lo hi less = let is : cmp (key (get_or xs j d)) k ≡ Greater = gap.after j d lo hi in cc

-- what is less than the lower key stands in front of what isn't less than the higher one
pub in_order : {T K : Type 0} (key : T → K) {cmp : K → K → Ordering} (o : IsTotalOrder cmp) (low high : K) → cmp low high ≡ Less → (xs : List T) (start end : ℕ) → start ≤ length xs
    → AllWithin (λ y. cmp (key y) low ≡ Less) xs 0 start → AllWithin (λ y. cmp (key y) high ≢ Less) xs end (length xs) → start ≤ end
in_order key o low high lt [] start end within before after = omega arith
in_order key o low high lt (x ∷ xs) start end within before after = elim (cases_lt end start) [
  | inl is ↦ absurd (after end x (omega arith) (omega arith) (o.trans (key (get_or (x ∷ xs) end x)) low high (before end x (omega arith) is) lt))
  | inr le ↦ le
]

-- ---- two stretches

-- a place that stands behind two places, and no farther than the second where it isn't the first
pub record IsLater (a b n : ℕ) : Type 0 where
  pub first : a ≤ n
  pub second : b ≤ n
  pub one : (k : ℕ) → a ≤ k → k < n → k < b

no_less : (a b n m : ℕ) → IsLater a b n → a ≤ m → b ≤ m → n ≤ m
no_less a b n m later le le_b = elim (cases_lt m n) [
  | inl lt ↦ let less : m < b = later.one m le lt in omega arith
  | inr is ↦ is
]

-- the first stretch, and what of the second stands behind it
pub put_behind : (p q r : EntryData → Bool) (es : List EntryData) → ((e : EntryData) → p e ≡ false → q e ≡ false → r e ≡ false) → (a b : Stretch) → a.start ≤ b.start → (start end : ℕ) → IsLater a.end b.start start → IsLater a.end b.end end
    → IsStretch (λ e. p e ≡ false) es a → IsStretch (λ e. q e ≡ false) es b → AreStretches (λ e. r e ≡ false) es (record { first = a; second = record { start = start; end = end } })
put_behind p q r es both a b le start end is_start is_end s t = record {
  first = s.order;
  apart = is_start.first;
  second = no_less a.end b.start start end is_start is_end.first (let h = is_end.second in let o = t.order in omega arith);
  within = no_less a.end b.end end (length es) is_end s.within t.within;
  before = λ k e lo hi. both (get_or es k e) (s.before k e lo hi) (t.before k e lo (omega arith));
  between = λ k e lo hi. both (get_or es k e) (s.after k e lo (let le : start ≤ length es = no_less a.end b.start start (length es) is_start s.within (let o = t.order in let w = t.within in omega arith) in omega arith)) (t.before k e (omega arith) (is_start.one k lo hi));
  after = λ k e lo hi. both (get_or es k e) (s.after k e (let h = is_end.first in omega arith) hi) (t.after k e (let h = is_end.second in omega arith) hi);
}

pub weaker : {T : Type 0} {P Q : T → Type 0} → ((x : T) → P x → Q x) → (xs : List T) (s : Stretches) → AreStretches P xs s → AreStretches Q xs s
weaker follows xs s are = record {
  first = are.first;
  apart = are.apart;
  second = are.second;
  within = are.within;
  before = λ k x lo hi. follows (get_or xs k x) (are.before k x lo hi);
  between = λ k x lo hi. follows (get_or xs k x) (are.between k x lo hi);
  after = λ k x lo hi. follows (get_or xs k x) (are.after k x lo hi);
}

-- ---- the pods of a namespace

pub never_less : (t : List ℕ) → text_order t [] ≡ Less → ⊥
never_less [] e = cc
never_less (x ∷ xs) e = cc

-- a pod of the namespace isn't less than the least key in it
pub not_before : (name : List ℕ) (p : PodKey) → text_eq p.namespace name ≡ true → pod_order p (record { namespace = name; name = [] }) ≡ Less → ⊥
not_before name p is less =
    let same : text_order p.namespace name ≡ Equal = subst (λ t. text_order t name ≡ Equal) (sym (text_eq-one p.namespace name is)) (tied_itself text_order_total name) in
    never_less p.name (sym (ap (λ r. ordering_then r (text_order p.name [])) same) ∙ less)

less_than_next : (t : List ℕ) → text_order t (t ++ 0 ∷ []) ≡ Less
less_than_next [] = refl
less_than_next (x ∷ xs) = ap (λ r. ordering_then r (text_order xs (xs ++ 0 ∷ []))) (tied_itself nat_cmp_total x) ∙ less_than_next xs

-- and it is less than what comes after the namespace
pub not_behind : (name : List ℕ) (p : PodKey) → text_eq p.namespace name ≡ true → pod_order p (record { namespace = name ++ 0 ∷ []; name = [] }) ≡ Less
not_behind name p is =
    let less : text_order p.namespace (name ++ 0 ∷ []) ≡ Less = subst (λ t. text_order t (name ++ 0 ∷ []) ≡ Less) (sym (text_eq-one p.namespace name is)) (less_than_next name) in
    ap (λ r. ordering_then r (text_order p.name [])) less

pub not_true : (b : Bool) → (b ≡ true → ⊥) → b ≡ false
not_true true h = absurd (h refl)
not_true false h = refl

abbrev key_of : List ℕ → List ℕ → PodKey
key_of namespace name = record { namespace = namespace; name = name }

same_key : (a b n m : List ℕ) → a ≡ n → b ≡ m → key_of a b ≡ key_of n m
same_key a b n m e f = cc

-- the pods of a namespace stand between its least key and the least one behind it
pub pods_stretch : (name : List ℕ) (ps : List PodData) (a b d e : List ℕ) (start end : ℕ) → a ≡ name → b ≡ [] → d ≡ name ++ 0 ∷ [] → e ≡ [] → start ≤ length ps → end ≤ length ps
    → AllWithin (λ (p : PodData). pod_order p.key (key_of a b) ≡ Less) ps 0 start → AllWithin (λ (p : PodData). pod_order p.key (key_of d e) ≢ Less) ps end (length ps)
    → IsStretch (λ (p : PodData). text_eq p.key.namespace name ≡ false) ps (record { start = start; end = end })
pods_stretch name ps a b d e start end is_a is_b is_d is_e front within before after =
    let low : key_of a b ≡ key_of name [] = same_key a b name [] is_a is_b in
    let high : key_of d e ≡ key_of (name ++ 0 ∷ []) [] = same_key d e (name ++ 0 ∷ []) [] is_d is_e in
    let apart : pod_order (key_of name []) (key_of (name ++ 0 ∷ []) []) ≡ Less = not_behind name (key_of name []) (text_eq-itself name) in
    record {
      order = in_order (λ (p : PodData). p.key) pod_order_total (key_of a b) (key_of d e) (subst (λ z. pod_order (key_of a b) z ≡ Less) (sym high) (subst (λ z. pod_order z (key_of (name ++ 0 ∷ []) []) ≡ Less) (sym low) apart)) ps start end front before after;
      within = within;
      before = λ k p lo hi. not_true (text_eq (get_or ps k p).key.namespace name) (λ is. not_before name (get_or ps k p).key is (subst (λ z. pod_order (get_or ps k p).key z ≡ Less) low (before k p lo hi)));
      after = λ k p lo hi. not_true (text_eq (get_or ps k p).key.namespace name) (λ is. after k p lo hi (subst (λ z. pod_order (get_or ps k p).key z ≡ Less) (sym high) (not_behind name (get_or ps k p).key is)));
    }

-- ---- what the others give

module _ {A B : Type 0} (f : A → List B) where
  none_taken : (i : ℕ) → flat_map f (take i []) ≡ []
  none_taken zero = refl
  none_taken (suc i) = refl

  pub flat_front : (xs : List A) (i : ℕ) → AllWithin (λ x. f x ≡ []) xs 0 i → flat_map f (take i xs) ≡ []
  flat_front [] i all = none_taken i
  flat_front (x ∷ xs) zero all = refl
  flat_front (x ∷ xs) (suc i) all =
      ap (λ ys. ys ++ flat_map f (take i xs)) (all 0 x (omega arith) (omega arith))
      ∙ flat_front xs i (λ k d lo hi. all (suc k) d (omega arith) (omega arith))

  pub flat_end : (xs : List A) (i : ℕ) → AllWithin (λ x. f x ≡ []) xs i (length xs) → flat_map f (take i xs) ≡ flat_map f xs
  flat_end [] i all = none_taken i
  flat_end (x ∷ xs) zero all = sym (ap (λ ys. ys ++ flat_map f xs) (all 0 x (omega arith) (omega arith)) ∙ sym (flat_end xs 0 (λ k d lo hi. all (suc k) d (omega arith) (omega arith))))
  flat_end (x ∷ xs) (suc i) all = ap (λ ys. f x ++ ys) (flat_end xs i (λ k d lo hi. all (suc k) d (omega arith) (omega arith)))
