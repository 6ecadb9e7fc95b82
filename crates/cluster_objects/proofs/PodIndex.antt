-- The index of a list of pods: what it finds, and the index after an edit of the list.
use Rattle.std.proofs.Common.{◌≡◌, ◌≢◌, ℕ, zero, suc, ◌+◌, ◌*◌, ◌<◌, ◌≤◌, min, List, [], ◌∷◌, ◌++◌, map, take, length, get_or, set, Bool, true, false, not, ◌||◌, ◌&&◌, Option, Some, None, if◌then◌else◌, find, eqb, nat_lt, refl, sym, ap, subst, ◌∙◌, add-one, arith}
use Rattle.std.specs.List.{insert, remove, AllByRecursion, list_any}
use Rattle.std.specs.declared.cmp.Ordering.{Ordering}
use Rattle.std.specs.declared.cmp.Ordering.TheVariants.{Less, Equal, Greater}
use Rattle.std.proofs.lemmas.Bool.{ltb-true, ltb-false, eqb-true, eqb-false, true≢false}
use Rattle.std.proofs.lemmas.Cmp.{tied_itself}
use Rattle.std.specs.Ordering.{is_eq}
use Rattle.std.proofs.Math.Seq.{take-suc}
use Rattle.std.proofs.lemmas.List.{get_or_default, get_or-map, map-set, get_or-set_same, get_or-set_other, length-set, set-set}
use Rattle.std.proofs.lemmas.List.Edits.{length-insert}
use Rattle.cl_types.specs.declared.addr.Addr.{Addr}
use Rattle.cl_types.specs.declared.keys.PodKey.{PodKey}
use Rattle.cl_types.specs.Ascending.{Ascends, IsPlace, IsGap, put, without}
use Rattle.cl_types.specs.AscendingLaws.{put_at_place, put_in_gap, without_at_place}
use Rattle.cl_types.specs.OrderLaws.{pod_order_exact}
use Rattle.cl_types.specs.RuleOrder.{pod_order, pod_order_total}
use Rattle.cluster_objects.specs.declared.addresses.AddressEntry.{AddressEntry}
use Rattle.cluster_objects.specs.Addresses.{addresses_held, is_among, place_of, held_at, IsIndex, after_remove, with_places, entered, without_addresses, IsFirst, least_place, shares_address}
use Rattle.cluster_objects.specs.Apply.{at_pod}
use Rattle.cluster_objects.specs.Refusals.{takes_address}
use Rattle.cluster_types.specs.Cluster.{AreApart}
use Rattle.cluster_types.specs.Pod.{PodData, AreAddresses, counts, has_address}
use Rattle.cluster_objects.proofs.IndexEdits.{IsFreeIn, inserted_from, removed_index, entered_index, left_index, two_families, room_for}
use Rattle.cluster_objects.proofs.Apart.{all_free}

-- ---- the first that passes

pub find_first : {T : Type 0} (q : T → Bool) (xs : List T) (i : ℕ) (d : T) → i < length xs → q (get_or xs i d) ≡ true → ((j : ℕ) → j < i → q (get_or xs j d) ≡ false) → find q xs ≡ Some (get_or xs i d)
find_first q [] i d within here before = absurd (omega arith)
find_first q (x ∷ xs) zero d within here before = rw here refl
find_first q (x ∷ xs) (suc i) d within here before = rw (before zero (omega arith)) (find_first q xs i d (omega arith) here (λ j lt. before (suc j) (omega arith)))

pub find_none : {T : Type 0} (q : T → Bool) (xs : List T) → ((j : ℕ) (d : T) → j < length xs → q (get_or xs j d) ≡ false) → find q xs ≡ None
find_none q [] none = refl
find_none q (x ∷ xs) none = rw (none zero x (omega arith)) (find_none q xs (λ j d lt. none (suc j) d (omega arith)))

-- ---- what a pod holds

pub holds_is : (a : Addr) (p : PodData) → is_among a (addresses_held p) ≡ (counts p && has_address a p)
holds_is a p = by_test (counts p)
  where
    by_test : (b : Bool) → is_among a (if b then p.addresses else []) ≡ (b && has_address a p)
    by_test true = refl
    by_test false = refl

pub held_are : (p : PodData) → AreAddresses p.addresses → AreAddresses (addresses_held p)
held_are p are = by_test (counts p)
  where
    by_test : (b : Bool) → AreAddresses (if b then p.addresses else [])
    by_test true = are
    by_test false = tt

pub few_are : (xs : List Addr) → AreAddresses xs → length xs ≤ 2
few_are [] are = omega arith
few_are (a ∷ rest) are = let few = (two_families a rest are).1.0 in omega arith

both : (b c : Bool) → b && c ≡ true → (b ≡ true) × (c ≡ true)
both true c h = (refl, h)
both false c h = cc

not_both : {b : Bool} → b ≡ true → b ≡ false → ⊥
not_both t f = true≢false (sym t ∙ f)

-- what is held at a place of a list of pods
pub held_there : (pods : List PodData) (i : ℕ) (d : PodData) → i < length pods → held_at (map addresses_held pods) i ≡ addresses_held (get_or pods i d)
held_there pods i d within = get_or-map addresses_held pods i d [] within

pub held_count : (pods : List PodData) → length (map addresses_held pods) ≡ length pods
held_count [] = refl
held_count (p ∷ ps) = ap suc (held_count ps)

lt_held : (pods : List PodData) (k : ℕ) → k < length pods → k < length (map addresses_held pods)
lt_held pods k lt = rw (held_count pods) lt

le_held : (pods : List PodData) (k : ℕ) → k ≤ length pods → k ≤ length (map addresses_held pods)
le_held pods k le = rw (held_count pods) le

lt_set : (held : List (List Addr)) (k : ℕ) (new : List Addr) → k < length held → k < length (set held k new)
lt_set held k new lt = rw (length-set held k new) lt

past : (held : List (List Addr)) (i : ℕ) → length held ≤ i → held_at held i ≡ []
past [] zero le = refl
past [] (suc i) le = refl
past (x ∷ xs) zero le = absurd (omega arith)
past (x ∷ xs) (suc i) le = past xs i (omega arith)

-- a place at which an address is held is a place of the list
pub within_held : (held : List (List Addr)) (i : ℕ) (a : Addr) → is_among a (held_at held i) ≡ true → i < length held
within_held held i a among = by_test (nat_lt i (length held)) refl
  where
    by_test : (t : Bool) → nat_lt i (length held) ≡ t → i < length held
    by_test true is = ltb-true i (length held) is
    by_test false is = absurd (not_both among (ap (is_among a) (past held i (ltb-false i (length held) is))))

-- ---- what the index finds

module _ (pods : List PodData) (es : List AddressEntry) (index : IsIndex (map addresses_held pods) es) where
  pub place_within : (a : Addr) (i : ℕ) → place_of a es ≡ Some i → i < length pods
  place_within a i is = subst (λ n. i < n) (held_count pods) (within_held (map addresses_held pods) i a ((index.exact a i).0 is))

  -- the pod at a place that the entries have for an address counts and has it
  pub there : (a : Addr) (i : ℕ) (d : PodData) → place_of a es ≡ Some i → (i < length pods) × (counts (get_or pods i d) && has_address a (get_or pods i d) ≡ true)
  there a i d is =
      let among = (index.exact a i).0 is in
      let lt : i < length pods = subst (λ n. i < n) (held_count pods) (within_held (map addresses_held pods) i a among) in
      (lt, sym (ap (is_among a) (held_there pods i d lt) ∙ holds_is a (get_or pods i d)) ∙ among)

  -- and a pod that counts and has an address stands at the place for it
  pub place_there : (a : Addr) (i : ℕ) (d : PodData) → i < length pods → counts (get_or pods i d) && has_address a (get_or pods i d) ≡ true → place_of a es ≡ Some i
  place_there a i d lt holds = (index.exact a i).1 (ap (is_among a) (held_there pods i d lt) ∙ (holds_is a (get_or pods i d) ∙ holds))

  pub pod_found : (a : Addr) (i : ℕ) (d : PodData) → place_of a es ≡ Some i → find (λ p. counts p && has_address a p) pods ≡ Some (get_or pods i d)
  pod_found a i d is =
      let here = there a i d is in
      find_first (λ p. counts p && has_address a p) pods i d here.0 here.1 (λ j lt. before j lt (counts (get_or pods j d) && has_address a (get_or pods j d)) refl)
    where
      some_is : {x y : ℕ} → Some x ≡ Some y → x ≡ y
      some_is e = cc

      before : (j : ℕ) → j < i → (t : Bool) → counts (get_or pods j d) && has_address a (get_or pods j d) ≡ t → t ≡ false
      before j lt true holds =
          let last = (there a i d is).0 in
          let same : i ≡ j = some_is (sym is ∙ place_there a j d (omega arith) holds) in
          absurd (omega arith)
      before j lt false holds = refl

  pub no_pod_found : (a : Addr) → place_of a es ≡ None → find (λ p. counts p && has_address a p) pods ≡ None
  no_pod_found a none = find_none (λ p. counts p && has_address a p) pods (λ j d lt. never j d lt (counts (get_or pods j d) && has_address a (get_or pods j d)) refl)
    where
      never : (j : ℕ) (d : PodData) → j < length pods → (t : Bool) → counts (get_or pods j d) && has_address a (get_or pods j d) ≡ t → t ≡ false
      never j d lt true holds = let some = place_there a j d lt holds in cc
      never j d lt false holds = refl

-- ---- lists of pods

map-insert : {T U : Type 0} (f : T → U) (xs : List T) (k : ℕ) (x : T) → map f (insert xs k x) ≡ insert (map f xs) k (f x)
map-insert f [] zero x = refl
map-insert f [] (suc k) x = refl
map-insert f (y ∷ ys) zero x = refl
map-insert f (y ∷ ys) (suc k) x = ap (λ zs. f y ∷ zs) (map-insert f ys k x)

map-remove : {T U : Type 0} (f : T → U) (xs : List T) (k : ℕ) → map f (remove xs k) ≡ remove (map f xs) k
map-remove f [] zero = refl
map-remove f [] (suc k) = refl
map-remove f (y ∷ ys) zero = refl
map-remove f (y ∷ ys) (suc k) = ap (λ zs. f y ∷ zs) (map-remove f ys k)

set-insert : {T : Type 0} (xs : List T) (k : ℕ) (x y : T) → k ≤ length xs → set (insert xs k x) k y ≡ insert xs k y
set-insert [] zero x y within = refl
set-insert [] (suc k) x y within = absurd (omega arith)
set-insert (z ∷ zs) zero x y within = refl
set-insert (z ∷ zs) (suc k) x y within = ap (λ rest. z ∷ rest) (set-insert zs k x y (omega arith))

remove-set : {T : Type 0} (xs : List T) (k : ℕ) (x : T) → remove (set xs k x) k ≡ remove xs k
remove-set [] k x = refl
remove-set (z ∷ zs) zero x = refl
remove-set (z ∷ zs) (suc k) x = ap (λ rest. z ∷ rest) (remove-set zs k x)

insert_here : (held : List (List Addr)) (k : ℕ) → k ≤ length held → held_at (insert held k []) k ≡ []
insert_here [] zero within = refl
insert_here [] (suc k) within = absurd (omega arith)
insert_here (z ∷ zs) zero within = refl
insert_here (z ∷ zs) (suc k) within = insert_here zs k (omega arith)

-- an index of a list in which an empty place was made for a pod, once the pod's addresses are entered
pub pod_entered : (pods : List PodData) (k : ℕ) (p : PodData) (es : List AddressEntry) → k ≤ length pods → AreAddresses (addresses_held p)
    → ((a : Addr) → is_among a (addresses_held p) ≡ true → IsFreeIn (insert (map addresses_held pods) k []) a)
    → IsIndex (insert (map addresses_held pods) k []) es → IsIndex (map addresses_held (insert pods k p)) (entered k (addresses_held p) es)
pod_entered pods k p es within are free index =
    let held : List (List Addr) = map addresses_held pods in
    let le = le_held pods k within in
    let size = length-insert held k [] le in
    subst (λ (h : List (List Addr)). IsIndex h (entered k (addresses_held p) es)) (set-insert held k [] (addresses_held p) le ∙ sym (map-insert addresses_held pods k p))
    (entered_index (insert held k []) k (addresses_held p) es (omega arith) (insert_here held k le) are free index)

-- an index once a pod's addresses are removed and those of the pod that takes its place are entered
pub pod_replaced : (pods : List PodData) (k : ℕ) (p : PodData) (es : List AddressEntry) → k < length pods → AreAddresses (addresses_held p)
    → ((a : Addr) → is_among a (addresses_held p) ≡ true → IsFreeIn (set (map addresses_held pods) k []) a)
    → IsIndex (set (map addresses_held pods) k []) es → IsIndex (map addresses_held (set pods k p)) (entered k (addresses_held p) es)
pod_replaced pods k p es within are free index =
    let held : List (List Addr) = map addresses_held pods in
    let lt = lt_held pods k within in
    let size = lt_set held k [] lt in
    subst (λ (h : List (List Addr)). IsIndex h (entered k (addresses_held p) es)) (set-set held k [] (addresses_held p) ∙ sym (map-set addresses_held pods k p))
    (entered_index (set held k []) k (addresses_held p) es size (get_or-set_same held k [] [] lt) are free index)

-- an index without the addresses of the pod at a place
pub pod_left : (pods : List PodData) (k : ℕ) (d : PodData) (held : List Addr) (es left : List AddressEntry) → k < length pods → d ≡ get_or pods k d → held ≡ addresses_held d → AreAddresses (addresses_held d)
    → left ≡ without_addresses held es → IsIndex (map addresses_held pods) es → IsIndex (set (map addresses_held pods) k []) left
pod_left pods k d held es left within here is are leaves index =
    subst (λ (xs : List AddressEntry). IsIndex (set (map addresses_held pods) k []) xs) (sym (leaves ∙ ap (λ addresses. without_addresses addresses es) is))
    (left_index (map addresses_held pods) k (addresses_held d) es (lt_held pods k within) (held_there pods k d within ∙ ap addresses_held (sym here)) are index)

-- an index once an emptied place has gone
pub pod_gone : (pods : List PodData) (k : ℕ) (es : List AddressEntry) → k < length pods → IsIndex (set (map addresses_held pods) k []) es → IsIndex (map addresses_held (remove pods k)) (with_places (after_remove k) es)
pod_gone pods k es within index =
    let held : List (List Addr) = map addresses_held pods in
    let lt = lt_held pods k within in
    let size = lt_set held k [] lt in
    subst (λ (h : List (List Addr)). IsIndex h (with_places (after_remove k) es)) (remove-set held k [] ∙ sym (map-remove addresses_held pods k))
    (removed_index (set held k []) k es size (get_or-set_same held k [] [] lt) index)

-- ---- which addresses are free

-- a pod at another key shares no address with p, where both count
abbrev pub IsFreeOf : PodData → PodData → Type 0
IsFreeOf p q = (pod_order q.key p.key ≡ Equal → ⊥) → AreApart p q

free_held : (p q : PodData) → IsFreeOf p q → (pod_order q.key p.key ≡ Equal → ⊥) → (a : Addr) → is_among a (addresses_held p) ≡ true → is_among a (addresses_held q) ≡ false
free_held p q free other a among = by_test (is_among a (addresses_held q)) refl
  where
    by_test : (t : Bool) → is_among a (addresses_held q) ≡ t → t ≡ false
    by_test true is =
        let mine = both (counts p) (has_address a p) (sym (holds_is a p) ∙ among) in
        let its = both (counts q) (has_address a q) (sym (holds_is a q) ∙ is) in
        absurd (free other mine.0 its.0 a mine.1 its.1)
    by_test false is = refl

all_at : {T : Type 0} (P : T → Type 0) (xs : List T) (i : ℕ) (d : T) → i < length xs → AllByRecursion P xs → P (get_or xs i d)
all_at P [] i d within all = absurd (omega arith)
all_at P (x ∷ xs) zero d within all = all.0
all_at P (x ∷ xs) (suc i) d within all = all_at P xs i d (omega arith) all.1

-- where no pod at a place has p's key, what p holds is held nowhere
pub free_in_gap : (pods : List PodData) (p : PodData) → AllByRecursion (IsFreeOf p) pods → ((i : ℕ) (d : PodData) → i < length pods → pod_order (get_or pods i d).key p.key ≡ Equal → ⊥)
    → (a : Addr) → is_among a (addresses_held p) ≡ true → IsFreeIn (map addresses_held pods) a
free_in_gap pods p free other a among i = by_test (is_among a (held_at (map addresses_held pods) i)) refl
  where
    by_test : (t : Bool) → is_among a (held_at (map addresses_held pods) i) ≡ t → t ≡ false
    by_test true is =
        let lt : i < length pods = subst (λ n. i < n) (held_count pods) (within_held (map addresses_held pods) i a is) in
        let none = free_held p (get_or pods i p) (all_at (IsFreeOf p) pods i p lt free) (other i p lt) a among in
        sym is ∙ (ap (is_among a) (held_there pods i p lt) ∙ none)
    by_test false is = refl

not_first : (q : PodData) (qs : List PodData) (j : ℕ) (d : PodData) → j < length qs → AllByRecursion (λ (z : PodData). pod_order q.key z.key ≡ Less) qs → q.key ≡ (get_or qs j d).key → ⊥
not_first q qs j d lt all same =
    not_less (sym (ap (λ k. pod_order q.key k) same) ∙ tied_itself pod_order_total q.key) (all_at (λ (z : PodData). pod_order q.key z.key ≡ Less) qs j d lt all)
  where
    not_less : {r : Ordering} → r ≡ Equal → r ≡ Less → ⊥
    not_less e l = cc

-- two places of an ascending list don't have one key
once : (pods : List PodData) (i j : ℕ) (d : PodData) → Ascends (λ (q : PodData). q.key) pod_order pods → i < length pods → j < length pods → (get_or pods i d).key ≡ (get_or pods j d).key → i ≡ j
once [] i j d up lt le same = absurd (omega arith)
once (q ∷ qs) zero zero d up lt le same = refl
once (q ∷ qs) zero (suc j) d up lt le same =
    absurd (not_first q qs j d (omega arith) up.0 same)
once (q ∷ qs) (suc i) zero d up lt le same = absurd (not_first q qs i d (omega arith) up.0 (sym same))
once (q ∷ qs) (suc i) (suc j) d up lt le same = ap suc (once qs i j d up.1 (omega arith) (omega arith) same)

-- where the pod at place k has p's key, what p holds is held at no other place
pub free_at_place : (pods : List PodData) (p : PodData) (k : ℕ) → Ascends (λ (q : PodData). q.key) pod_order pods → AllByRecursion (IsFreeOf p) pods → k < length pods → pod_order (get_or pods k p).key p.key ≡ Equal
    → (a : Addr) → is_among a (addresses_held p) ≡ true → IsFreeIn (set (map addresses_held pods) k []) a
free_at_place pods p k up free within here a among i = by_place (eqb i k) refl
  where
    held : List (List Addr)
    held = map addresses_held pods

    by_held : (t : Bool) → i ≢ k → is_among a (held_at held i) ≡ t → t ≡ false
    by_held true apart is =
        let lt : i < length pods = subst (λ n. i < n) (held_count pods) (within_held held i a is) in
        let other : pod_order (get_or pods i p).key p.key ≡ Equal → ⊥ = λ e. apart (once pods i k p up lt within (pod_order_exact (get_or pods i p).key p.key e ∙ sym (pod_order_exact (get_or pods k p).key p.key here))) in
        sym is ∙ (ap (is_among a) (held_there pods i p lt) ∙ free_held p (get_or pods i p) (all_at (IsFreeOf p) pods i p lt free) other a among)
    by_held false apart is = refl

    by_place : (t : Bool) → eqb i k ≡ t → is_among a (held_at (set held k []) i) ≡ false
    by_place true is = ap (is_among a) (ap (held_at (set held k [])) (eqb-true i k is) ∙ get_or-set_same held k [] [] (lt_held pods k within))
    by_place false is = ap (is_among a) (get_or-set_other held k i [] [] (eqb-false i k is)) ∙ by_held (is_among a (held_at held i)) (eqb-false i k is) refl

-- ---- puts and removals

abbrev pub IsNotTaken : PodData → List PodData → Type 0
IsNotTaken p pods = (if counts p then find (takes_address p) pods else None) ≡ None

pub replaced_at_place : (pods : List PodData) (k : ℕ) (p : PodData) (es : List AddressEntry) → Ascends (λ (q : PodData). q.key) pod_order pods → IsPlace (at_pod p.key) pods k → IsNotTaken p pods
    → AreAddresses (addresses_held p) → IsIndex (set (map addresses_held pods) k []) es → IsIndex (map addresses_held (put (at_pod p.key) p pods)) (entered k (addresses_held p) es)
replaced_at_place pods k p es up place free are index =
    subst (λ (qs : List PodData). IsIndex (map addresses_held qs) (entered k (addresses_held p) es)) (sym (put_at_place (at_pod p.key) p pods k place.within place.here place.before))
    (pod_replaced pods k p es place.within are (free_at_place pods p k up (all_free p pods free) place.within (place.here p)) index)

pub inserted_in_gap : (pods : List PodData) (k : ℕ) (p : PodData) (es : List AddressEntry) → IsGap (at_pod p.key) pods k → IsNotTaken p pods
    → AreAddresses (addresses_held p) → IsIndex (insert (map addresses_held pods) k []) es → IsIndex (map addresses_held (put (at_pod p.key) p pods)) (entered k (addresses_held p) es)
inserted_in_gap pods k p es gap free are index =
    subst (λ (qs : List PodData). IsIndex (map addresses_held qs) (entered k (addresses_held p) es)) (sym (put_in_gap (at_pod p.key) p pods k gap.within gap.before gap.after))
    (pod_entered pods k p es gap.within are still_free index)
  where
    apart : {r : Ordering} → r ≡ Equal → r ≡ Less → ⊥
    apart e l = cc

    beyond : {r : Ordering} → r ≡ Equal → r ≡ Greater → ⊥
    beyond e g = cc

    other : (i : ℕ) (d : PodData) → i < length pods → pod_order (get_or pods i d).key p.key ≡ Equal → ⊥
    other i d lt same = by_test (nat_lt i k) refl
      where
        by_test : (t : Bool) → nat_lt i k ≡ t → ⊥
        by_test true is = apart same (gap.before i d (omega arith) (ltb-true i k is))
        by_test false is = beyond same (gap.after i d (ltb-false i k is) lt)

    still_free : (a : Addr) → is_among a (addresses_held p) ≡ true → IsFreeIn (insert (map addresses_held pods) k []) a
    still_free a among i = by_test (is_among a (held_at (insert (map addresses_held pods) k []) i)) refl
      where
        by_test : (t : Bool) → is_among a (held_at (insert (map addresses_held pods) k []) i) ≡ t → t ≡ false
        by_test true is =
            let from = inserted_from (map addresses_held pods) k (le_held pods k gap.within) a i is in
            sym is ∙ (ap (is_among a) (sym from.1.1) ∙ free_in_gap pods p (all_free p pods free) other a among from.0)
        by_test false is = refl

pub removed_at_place : (pods : List PodData) (k : ℕ) (key : PodKey) (es : List AddressEntry) → Ascends (λ (q : PodData). q.key) pod_order pods → IsPlace (at_pod key) pods k
    → IsIndex (set (map addresses_held pods) k []) es → IsIndex (map addresses_held (without (at_pod key) pods)) (with_places (after_remove k) es)
removed_at_place pods k key es up place index =
    subst (λ (qs : List PodData). IsIndex (map addresses_held qs) (with_places (after_remove k) es)) (sym (without_at_place (λ (q : PodData). q.key) pod_order_total key pods k up place.within place.here place.before))
    (pod_gone pods k es place.within index)

-- there is room for what a pod holds at a place at which nothing is held
pub room_at : (held : List (List Addr)) (k : ℕ) (addresses : List Addr) (es : List AddressEntry) (places room : ℕ) → k < length held → held_at held k ≡ [] → AreAddresses addresses → length held ≤ places → 2 * places ≤ room
    → IsIndex held es → length es + length addresses ≤ room
room_at held k addresses es places room within none are few enough index =
    let most = room_for held k addresses es within none (few_are addresses are) index in
    omega arith

pub room_in_place : (pods : List PodData) (k : ℕ) (addresses : List Addr) (es : List AddressEntry) (places room : ℕ) → k < length pods → AreAddresses addresses → length pods ≤ places → 2 * places ≤ room
    → IsIndex (set (map addresses_held pods) k []) es → length es + length addresses ≤ room
room_in_place pods k addresses es places room within are few enough index =
    let held : List (List Addr) = map addresses_held pods in
    let lt = lt_held pods k within in
    let same = length-set held k [] in
    let count = held_count pods in
    room_at (set held k []) k addresses es places room (lt_set held k [] lt) (get_or-set_same held k [] [] lt) are (omega arith) enough index

pub room_in_gap : (pods : List PodData) (k : ℕ) (addresses : List Addr) (es : List AddressEntry) (places room : ℕ) → k ≤ length pods → AreAddresses addresses → length pods < places → 2 * places ≤ room
    → IsIndex (insert (map addresses_held pods) k []) es → length es + length addresses ≤ room
room_in_gap pods k addresses es places room within are few enough index =
    let held : List (List Addr) = map addresses_held pods in
    let le = le_held pods k within in
    let size = length-insert held k [] le in
    let count = held_count pods in
    room_at (insert held k []) k addresses es places room (omega arith) (insert_here held k le) are (omega arith) enough index

-- ---- the first place

-- the first place at which either test holds is the lesser of the first ones
pub first_of_either : {T : Type 0} (q r s : T → Bool) (xs : List T) (a b : Option ℕ) → ((x : T) → s x ≡ (q x || r x)) → IsFirst q xs a → IsFirst r xs b → IsFirst s xs (least_place a b)
first_of_either q r s xs None None either first second = λ j lt d. either (get_or xs j d) ∙ neither (first j lt d) (second j lt d)
  where
    neither : {t u : Bool} → t ≡ false → u ≡ false → (t || u) ≡ false
    neither {t} {u} e f = ap (λ v. v || u) e ∙ f
first_of_either q r s xs None (Some j) either first second = (
  second.0,
  (
    λ d. either (get_or xs j d) ∙ (ap (λ v. v || r (get_or xs j d)) (first j second.0 d) ∙ second.1.0 d),
    λ i lt d. either (get_or xs i d) ∙ (ap (λ v. v || r (get_or xs i d)) (first i (let last = second.0 in omega arith) d) ∙ second.1.1 i lt d),
  ),
)
first_of_either q r s xs (Some i) None either first second = (
  first.0,
  (
    λ d. either (get_or xs i d) ∙ ap (λ v. v || r (get_or xs i d)) (first.1.0 d),
    λ j lt d. either (get_or xs j d) ∙ (ap (λ v. v || r (get_or xs j d)) (first.1.1 j lt d) ∙ second j (let last = first.0 in omega arith) d),
  ),
)
first_of_either q r s xs (Some i) (Some j) either first second = by_test (nat_lt j i) refl
  where
    or_true : (t : Bool) → (t || true) ≡ true
    or_true true = refl
    or_true false = refl

    by_test : (t : Bool) → nat_lt j i ≡ t → IsFirst s xs (Some (min i j))
    by_test true is =
        let lt : j < i = ltb-true j i is in
        let same : min i j ≡ j = omega arith in
        subst (λ n. IsFirst s xs (Some n)) (sym same) (
          second.0,
          (
            λ d. either (get_or xs j d) ∙ (ap (λ v. q (get_or xs j d) || v) (second.1.0 d) ∙ or_true (q (get_or xs j d))),
            λ k less d. either (get_or xs k d) ∙ (ap (λ v. v || r (get_or xs k d)) (first.1.1 k (omega arith) d) ∙ second.1.1 k less d),
          ),
        )
    by_test false is =
        let le : i ≤ j = ltb-false j i is in
        let same : min i j ≡ i = omega arith in
        subst (λ n. IsFirst s xs (Some n)) (sym same) (
          first.0,
          (
            λ d. either (get_or xs i d) ∙ ap (λ v. v || r (get_or xs i d)) (first.1.0 d),
            λ k less d. either (get_or xs k d) ∙ (ap (λ v. v || r (get_or xs k d)) (first.1.1 k less d) ∙ second.1.1 k (omega arith) d),
          ),
        )

module _ (pods : List PodData) (es : List AddressEntry) (index : IsIndex (map addresses_held pods) es) (key : PodKey) (a : Addr) where
  -- where a pod shares the address, it is at another key, and the entries have its place
  sharing : (x : PodData) → shares_address key (a ∷ []) x ≡ true → (is_eq (pod_order x.key key) ≡ false) × (counts x && has_address a x ≡ true)
  sharing x shares = parts (is_eq (pod_order x.key key)) (counts x) (has_address a x) shares
    where
      parts : (e c h : Bool) → (not e && c && (h || false)) ≡ true → (e ≡ false) × (c && h ≡ true)
      parts false true true s = (refl, refl)
      parts false true false s = cc
      parts false false h s = cc
      parts true c h s = cc

  same_place : {i j : ℕ} → Some i ≡ Some j → i ≡ j
  same_place e = cc

  by_sharing : (x : PodData) → (shares_address key (a ∷ []) x ≡ true → ⊥) → shares_address key (a ∷ []) x ≡ false
  by_sharing x never = by_test (shares_address key (a ∷ []) x) refl
    where
      by_test : (t : Bool) → shares_address key (a ∷ []) x ≡ t → t ≡ false
      by_test true is = absurd (never is)
      by_test false is = refl

  pub first_there : (i : ℕ) (x : PodData) → place_of a es ≡ Some i → x ≡ get_or pods i x → is_eq (pod_order x.key key) ≡ false → IsFirst (shares_address key (a ∷ [])) pods (Some i)
  first_there i x is here other = (
    lt,
    (
      λ d. all_true (get_or pods i d) (ap (λ (y : PodData). is_eq (pod_order y.key key)) (get_or_default pods i d x lt ∙ sym here) ∙ other) (there pods es index a i d is).1,
      λ j less d. by_sharing (get_or pods j d) (λ shares.
          let same : i ≡ j = same_place (sym is ∙ place_there pods es index a j d (let last = lt in omega arith) (sharing (get_or pods j d) shares).1) in absurd (omega arith)),
    ),
  )
    where
      lt : i < length pods
      lt = place_within pods es index a i is

      all_true : (y : PodData) → is_eq (pod_order y.key key) ≡ false → counts y && has_address a y ≡ true → shares_address key (a ∷ []) y ≡ true
      all_true y e h = parts (is_eq (pod_order y.key key)) (counts y) (has_address a y) e h
        where
          parts : (t c b : Bool) → t ≡ false → c && b ≡ true → (not t && c && (b || false)) ≡ true
          parts false true true f g = refl
          parts false true false f g = cc
          parts false false b f g = cc
          parts true c b f g = cc

  pub none_there : place_of a es ≡ None → IsFirst (shares_address key (a ∷ [])) pods None
  none_there none = λ j lt d. by_sharing (get_or pods j d) (λ shares. let some = place_there pods es index a j d lt (sharing (get_or pods j d) shares).1 in cc)

  pub itself_there : (i : ℕ) (x : PodData) → place_of a es ≡ Some i → x ≡ get_or pods i x → is_eq (pod_order x.key key) ≡ true → IsFirst (shares_address key (a ∷ [])) pods None
  itself_there i x is here own = λ j lt d. by_sharing (get_or pods j d) (λ shares.
      let same : i ≡ j = same_place (sym is ∙ place_there pods es index a j d lt (sharing (get_or pods j d) shares).1) in
      let one : get_or pods j d ≡ x = get_or_default pods j d x lt ∙ (ap (λ n. get_or pods n x) (sym same) ∙ sym here) in
      not_both (ap (λ (y : PodData). is_eq (pod_order y.key key)) one ∙ own) (sharing (get_or pods j d) shares).0)

-- one more address
pub shares_more : (key : PodKey) (addresses : List Addr) (i : ℕ) (a : Addr) (x : PodData) → i < length addresses → a ≡ get_or addresses i a
    → shares_address key (take (i + 1) addresses) x ≡ (shares_address key (take i addresses) x || shares_address key (a ∷ []) x)
shares_more key addresses i a x within here =
    ap (λ (some : List Addr). not (is_eq (pod_order x.key key)) && counts x && list_any (λ b. has_address b x) some) (one_more addresses i a within here)
    ∙ (ap (λ t. not (is_eq (pod_order x.key key)) && counts x && t) (any_push (λ b. has_address b x) (take i addresses) a)
    ∙ both_ways (not (is_eq (pod_order x.key key))) (counts x) (list_any (λ b. has_address b x) (take i addresses)) (has_address a x || false))
  where
    one_more : (xs : List Addr) (n : ℕ) (y : Addr) → n < length xs → y ≡ get_or xs n y → take (n + 1) xs ≡ take n xs ++ y ∷ []
    one_more xs n y lt is = rw (add-one, take-suc xs n y lt, ← is) refl

    any_push : (f : Addr → Bool) (xs : List Addr) (y : Addr) → list_any f (xs ++ y ∷ []) ≡ (list_any f xs || (f y || false))
    any_push f [] y = refl
    any_push f (z ∷ zs) y = ap (λ t. f z || t) (any_push f zs y) ∙ regroup (f z) (list_any f zs) (f y || false)
      where
        regroup : (p q r : Bool) → (p || (q || r)) ≡ ((p || q) || r)
        regroup true q r = refl
        regroup false q r = refl

    both_ways : (n c p q : Bool) → (n && c && (p || q)) ≡ ((n && c && p) || (n && c && q))
    both_ways true true p q = refl
    both_ways true false p q = refl
    both_ways false c p q = refl

pub shares_none : (key : PodKey) (x : PodData) → shares_address key [] x ≡ false
shares_none key x = never (not (is_eq (pod_order x.key key))) (counts x)
  where
    never : (n c : Bool) → (n && c && false) ≡ false
    never true true = refl
    never true false = refl
    never false c = refl

-- what shares an address that a pod holds takes an address of the pod, which counts
pub found_taker : (pods : List PodData) (p : PodData) → find (shares_address p.key (addresses_held p)) pods ≡ (if counts p then find (takes_address p) pods else None)
found_taker pods p = by_test (counts p)
  where
    none : (qs : List PodData) → find (shares_address p.key []) qs ≡ None
    none [] = refl
    none (q ∷ qs) = rw (shares_none p.key q) (none qs)

    by_test : (b : Bool) → find (shares_address p.key (if b then p.addresses else [])) pods ≡ (if b then find (takes_address p) pods else None)
    by_test true = refl
    by_test false = none pods

pub find_at_first : {T : Type 0} (q : T → Bool) (xs : List T) (i : ℕ) (x : T) → IsFirst q xs (Some i) → x ≡ get_or xs i x → find q xs ≡ Some x
find_at_first q xs i x first here = find_first q xs i x first.0 (first.1.0 x) (λ j lt. first.1.1 j lt x) ∙ ap Some (sym here)

pub find_at_none : {T : Type 0} (q : T → Bool) (xs : List T) → IsFirst q xs None → find q xs ≡ None
find_at_none q xs none = find_none q xs (λ j d lt. none j lt d)
