-- An index of addresses after each of its edits.
use Rattle.std.proofs.Common.{◌≡◌, ◌≢◌, ℕ, zero, suc, ◌+◌, ◌-◌, ◌*◌, ◌<◌, ◌≤◌, List, [], ◌∷◌, length, get_or, set, sum_by, Bool, true, false, ◌||◌, Option, Some, None, if◌then◌else◌, not, eqb, nat_le, nat_lt, refl, sym, ap, subst, ◌∙◌, ◌↔◌, drop, drop-cons, add-one, arith}
use Rattle.std.specs.List.{insert, remove, AllByRecursion}
use Rattle.std.specs.Option.{option_map}
use Rattle.std.specs.declared.cmp.Ordering.{Ordering}
use Rattle.std.specs.declared.cmp.Ordering.TheVariants.{Less, Equal, Greater}
use Rattle.std.specs.Ordering.{is_eq, match_ordering, ordering_reverse}
use Rattle.std.proofs.lemmas.Bool.{ltb-true, ltb-false, leb-true, leb-false, le-leb, lt-ltb, le-ltb, eqb-true, eqb-false, true≢false}
use Rattle.std.proofs.lemmas.List.Edits.{get_or-insert_at, get_or-insert_below, get_or-insert_above, get_or-remove_below, get_or-remove_above}
use Rattle.std.proofs.lemmas.List.{get_or-set_same, get_or-set_other, set-get_or, set-set, length-set}
use Rattle.std.proofs.lemmas.List.Sums.{sum_by-cons, sum_by-insert, sum_by-remove, sum_by-set}
use Rattle.cl_types.specs.declared.addr.Addr.{Addr}
use Rattle.cl_types.specs.declared.addr.Addr.TheVariants.{V4, V6}
use Rattle.cl_types.specs.Addr.{addr_eq, addr_order, addr_order_total}
use Rattle.cl_types.specs.AddrEq.{addr_eq-itself, addr_eq-one, addr_eq_by_order}
use Rattle.cl_types.specs.OrderLaws.{addr_order_exact}
use Rattle.cl_types.specs.ListLaws.{all_weaker, filter_all}
use Rattle.cl_types.specs.Ascending.{Ascends, found, put, without}
use Rattle.cl_types.specs.AscendingLaws.{ascends_put, ascends_without, found_put, found_without, first_found, none_behind}
use Rattle.cluster_types.specs.Pod.{AreAddresses}
use Rattle.cluster_objects.specs.declared.addresses.AddressEntry.{AddressEntry}
use Rattle.cluster_objects.specs.Addresses.{is_among, at_address, entry_at, place_of, held_at, IsIndex, after_insert, after_remove, with_places, entered, without_addresses}

some_is : {T : Type 0} {x y : T} → Some x ≡ Some y → x ≡ y
some_is e = cc

none_is_not : {T : Type 0} {x : T} → None ≡ Some x → ⊥
none_is_not e = cc

-- ---- places are changed

all_moved : (change : ℕ → ℕ) (a : Addr) (es : List AddressEntry) → AllByRecursion (λ (e : AddressEntry). addr_order a e.address ≡ Less) es → AllByRecursion (λ (e : AddressEntry). addr_order a e.address ≡ Less) (with_places change es)
all_moved change a [] all = tt
all_moved change a (e ∷ es) all = (all.0, all_moved change a es all.1)

ascend_moved : (change : ℕ → ℕ) (es : List AddressEntry) → Ascends (λ (e : AddressEntry). e.address) addr_order es → Ascends (λ (e : AddressEntry). e.address) addr_order (with_places change es)
ascend_moved change [] up = tt
ascend_moved change (e ∷ es) up = (all_moved change e.address es up.0, ascend_moved change es up.1)

length_moved : (change : ℕ → ℕ) (es : List AddressEntry) → length (with_places change es) ≡ length es
length_moved change [] = refl
length_moved change (e ∷ es) = ap suc (length_moved change es)

place_moved : (change : ℕ → ℕ) (a : Addr) (es : List AddressEntry) → place_of a (with_places change es) ≡ option_map change (place_of a es)
place_moved change a [] = refl
place_moved change a (e ∷ es) = by_order (addr_order e.address a) (place_moved change a es)
  where
    by_order : (r : Ordering) → place_of a (with_places change es) ≡ option_map change (place_of a es)
        → option_map (λ (e : AddressEntry). e.place) (match_ordering r (found (at_address a) (with_places change es)) (Some (entry_at e.address (change e.place))) None)
        ≡ option_map change (option_map (λ (e : AddressEntry). e.place) (match_ordering r (found (at_address a) es) (Some e) None))
    by_order Less later = later
    by_order Equal later = refl
    by_order Greater later = refl

-- Where what is held at each place is what was held at the place that it comes from, an index with its places
-- changed is one again.
exact_moved : (held new : List (List Addr)) (change : ℕ → ℕ) (es : List AddressEntry)
    → ((a : Addr) (i : ℕ) → (place_of a es ≡ Some i) ↔ (is_among a (held_at held i) ≡ true))
    → ((a : Addr) (j : ℕ) → is_among a (held_at held j) ≡ true → held_at new (change j) ≡ held_at held j)
    → ((a : Addr) (i : ℕ) → is_among a (held_at new i) ≡ true → (j : ℕ) × ((change j ≡ i) × (held_at held j ≡ held_at new i)))
    → (a : Addr) (i : ℕ) → (place_of a (with_places change es) ≡ Some i) ↔ (is_among a (held_at new i) ≡ true)
exact_moved held new change es exact goes comes a i = (there (place_of a es) refl, back)
  where
    there : (o : Option ℕ) → place_of a es ≡ o → place_of a (with_places change es) ≡ Some i → is_among a (held_at new i) ≡ true
    there None is e = absurd (none_is_not (sym (place_moved change a es ∙ ap (option_map change) is) ∙ e))
    there (Some j) is e =
        let to : change j ≡ i = some_is (sym (place_moved change a es ∙ ap (option_map change) is) ∙ e) in
        let among = (exact a j).0 is in
        ap (λ n. is_among a (held_at new n)) (sym to) ∙ (ap (is_among a) (goes a j among) ∙ among)

    back : is_among a (held_at new i) ≡ true → place_of a (with_places change es) ≡ Some i
    back among =
        let from = comes a i among in
        let held_there : is_among a (held_at held from.0) ≡ true = ap (is_among a) from.1.1 ∙ among in
        place_moved change a es ∙ (ap (option_map change) ((exact a from.0).1 held_there) ∙ ap Some from.1.0)

-- ---- a place comes in

inserted_at : (held : List (List Addr)) (k j : ℕ) → k ≤ length held → held_at (insert held k []) (after_insert k j) ≡ held_at held j
inserted_at held k j within = by_test (nat_le k j) refl
  where
    by_test : (b : Bool) → nat_le k j ≡ b → held_at (insert held k []) (if b then j + 1 else j) ≡ held_at held j
    by_test true is = get_or-insert_above held k [] [] j (leb-true k j is) within
    by_test false is = get_or-insert_below held k [] [] j (leb-false k j is) within

moves_up : (k j : ℕ) → k ≤ j → after_insert k j ≡ j + 1
moves_up k j le = ap (λ b. if b then j + 1 else j) (le-leb k j le)

stays_below : (k j : ℕ) → j < k → after_insert k j ≡ j
stays_below k j lt = by_test (nat_le k j) refl
  where
    by_test : (b : Bool) → nat_le k j ≡ b → (if b then j + 1 else j) ≡ j
    by_test true is = absurd (let le : k ≤ j = leb-true k j is in omega arith)
    by_test false is = refl

pub inserted_from : (held : List (List Addr)) (k : ℕ) → k ≤ length held → (a : Addr) (i : ℕ) → is_among a (held_at (insert held k []) i) ≡ true → (j : ℕ) × ((after_insert k j ≡ i) × (held_at held j ≡ held_at (insert held k []) i))
inserted_from held k within a i among = by_below (nat_lt i k) refl
  where
    above : k < i → (j : ℕ) × ((after_insert k j ≡ i) × (held_at held j ≡ held_at (insert held k []) i))
    above lt =
        let j : ℕ = i - 1 in
        let next : j + 1 ≡ i = omega arith in
        (j, (moves_up k j (omega arith) ∙ next, sym (get_or-insert_above held k [] [] j (omega arith) within) ∙ ap (held_at (insert held k [])) next))

    by_above : (b : Bool) → nat_lt k i ≡ b → k ≤ i → (j : ℕ) × ((after_insert k j ≡ i) × (held_at held j ≡ held_at (insert held k []) i))
    by_above true is le = above (ltb-true k i is)
    by_above false is le =
        let same : i ≡ k = (let ge : i ≤ k = ltb-false k i is in omega arith) in
        let none : held_at (insert held k []) i ≡ [] = ap (held_at (insert held k [])) same ∙ get_or-insert_at held k [] [] within in
        absurd (true≢false (sym among ∙ ap (is_among a) none))

    by_below : (b : Bool) → nat_lt i k ≡ b → (j : ℕ) × ((after_insert k j ≡ i) × (held_at held j ≡ held_at (insert held k []) i))
    by_below true is = (i, (stays_below k i (ltb-true i k is), sym (get_or-insert_below held k [] [] i (ltb-true i k is) within)))
    by_below false is = by_above (nat_lt k i) refl (ltb-false i k is)

all_insert : {T : Type 0} (P : T → Type 0) (x : T) (xs : List T) (k : ℕ) → P x → AllByRecursion P xs → AllByRecursion P (insert xs k x)
all_insert P x [] zero one all = (one, tt)
all_insert P x [] (suc k) one all = (one, tt)
all_insert P x (y ∷ ys) zero one all = (one, all)
all_insert P x (y ∷ ys) (suc k) one all = (all.0, all_insert P x ys k one all.1)

-- an index once an empty place has come in
pub inserted_index : (held : List (List Addr)) (k : ℕ) (es : List AddressEntry) → k ≤ length held → IsIndex held es → IsIndex (insert held k []) (with_places (after_insert k) es)
inserted_index held k es within index = record {
  ascend = ascend_moved (after_insert k) es index.ascend;
  exact = exact_moved held (insert held k []) (after_insert k) es index.exact (λ a j among. inserted_at held k j within) (inserted_from held k within);
  counted = length_moved (after_insert k) es ∙ (index.counted ∙ sym (sum_by-insert length held k [] ∙ omega arith));
  two = all_insert (λ (addresses : List Addr). length addresses ≤ 2) [] held k (omega arith) index.two;
}

-- an empty place at the end changes no entry
at_end : (held : List (List Addr)) (i : ℕ) → held_at (insert held (length held) []) i ≡ held_at held i
at_end [] zero = refl
at_end [] (suc i) = refl
at_end (x ∷ xs) zero = refl
at_end (x ∷ xs) (suc i) = at_end xs i

pub appended_index : (held : List (List Addr)) (es : List AddressEntry) → IsIndex held es → IsIndex (insert held (length held) []) es
appended_index held es index = record {
  ascend = index.ascend;
  exact = λ a i. (λ e. ap (is_among a) (at_end held i) ∙ (index.exact a i).0 e, λ among. (index.exact a i).1 (sym (ap (is_among a) (at_end held i)) ∙ among));
  counted = index.counted ∙ sym (sum_by-insert length held (length held) [] ∙ omega arith);
  two = all_insert (λ (addresses : List Addr). length addresses ≤ 2) [] held (length held) (omega arith) index.two;
}

-- ---- an empty place goes

removed_at : (held : List (List Addr)) (k j : ℕ) → k < length held → j ≢ k → held_at (remove held k) (after_remove k j) ≡ held_at held j
removed_at held k j within other = by_test (nat_lt k j) refl
  where
    by_test : (b : Bool) → nat_lt k j ≡ b → held_at (remove held k) (if b then j - 1 else j) ≡ held_at held j
    by_test true is =
        let lt : k < j = ltb-true k j is in
        let next : j - 1 + 1 ≡ j = omega arith in
        get_or-remove_above held k [] (j - 1) (omega arith) within ∙ ap (held_at held) next
    by_test false is =
        let le : j ≤ k = ltb-false k j is in
        get_or-remove_below held k [] j (omega arith) within

moves_down : (k j : ℕ) → k ≤ j → after_remove k (j + 1) ≡ j
moves_down k j le = ap (λ b. if b then j + 1 - 1 else j + 1) (lt-ltb k (j + 1) (omega arith)) ∙ omega arith

stays_before : (k j : ℕ) → j ≤ k → after_remove k j ≡ j
stays_before k j le = ap (λ b. if b then j - 1 else j) (le-ltb k j le)

removed_from : (held : List (List Addr)) (k : ℕ) → k < length held → (a : Addr) (i : ℕ) → is_among a (held_at (remove held k) i) ≡ true → (j : ℕ) × ((after_remove k j ≡ i) × (held_at held j ≡ held_at (remove held k) i))
removed_from held k within a i among = by_below (nat_lt i k) refl
  where
    by_below : (b : Bool) → nat_lt i k ≡ b → (j : ℕ) × ((after_remove k j ≡ i) × (held_at held j ≡ held_at (remove held k) i))
    by_below true is =
        let lt : i < k = ltb-true i k is in
        (i, (stays_before k i (omega arith), sym (get_or-remove_below held k [] i lt within)))
    by_below false is =
        let le : k ≤ i = ltb-false i k is in
        (i + 1, (moves_down k i le, sym (get_or-remove_above held k [] i le within)))

all_remove : {T : Type 0} (P : T → Type 0) (xs : List T) (k : ℕ) → AllByRecursion P xs → AllByRecursion P (remove xs k)
all_remove P [] zero all = tt
all_remove P [] (suc k) all = tt
all_remove P (x ∷ xs) zero all = all.1
all_remove P (x ∷ xs) (suc k) all = (all.0, all_remove P xs k all.1)

-- an index once an empty place has gone
pub removed_index : (held : List (List Addr)) (k : ℕ) (es : List AddressEntry) → k < length held → held_at held k ≡ [] → IsIndex held es → IsIndex (remove held k) (with_places (after_remove k) es)
removed_index held k es within none index = record {
  ascend = ascend_moved (after_remove k) es index.ascend;
  exact = exact_moved held (remove held k) (after_remove k) es index.exact
      (λ a j among. removed_at held k j within (λ same. true≢false (sym among ∙ (ap (λ n. is_among a (held_at held n)) same ∙ ap (is_among a) none))))
      (removed_from held k within);
  counted = length_moved (after_remove k) es ∙ (index.counted ∙ sym (let one = sum_by-remove length held k [] within in let size : length (held_at held k) ≡ 0 = ap length none in omega arith));
  two = all_remove (λ (addresses : List Addr). length addresses ≤ 2) held k index.two;
}

-- ---- an address comes in at a place

put_place : (a : Addr) (k : ℕ) (es : List AddressEntry) (b : Addr) → place_of b (put (at_address a) (entry_at a k) es) ≡ (if addr_eq a b then Some k else place_of b es)
put_place a k es b =
    ap (option_map (λ (e : AddressEntry). e.place)) (found_put (λ (e : AddressEntry). e.address) addr_order_total b (entry_at a k) es)
    ∙ (by_test (is_eq (addr_order a b)) ∙ ap (λ t. if t then Some k else place_of b es) (sym (addr_eq_by_order a b)))
  where
    by_test : (t : Bool) → option_map (λ (e : AddressEntry). e.place) (if t then Some (entry_at a k) else found (at_address b) es) ≡ (if t then Some k else place_of b es)
    by_test true = refl
    by_test false = refl

length_put : (a : Addr) (x : AddressEntry) (es : List AddressEntry) → found (at_address a) es ≡ None → length (put (at_address a) x es) ≡ length es + 1
length_put a x [] none = refl
length_put a x (e ∷ es) none = by_order (at_address a e) none (length_put a x es)
  where
    by_order : (r : Ordering) → match_ordering r (found (at_address a) es) (Some e) None ≡ None → (found (at_address a) es ≡ None → length (put (at_address a) x es) ≡ length es + 1) → length (match_ordering r (e ∷ put (at_address a) x es) (x ∷ es) (x ∷ e ∷ es)) ≡ length (e ∷ es) + 1
    by_order Less n later = let one : length (put (at_address a) x es) ≡ length es + 1 = later n in omega arith
    by_order Equal n later = cc
    by_order Greater n later = omega arith

-- a put makes a list longer by one at most
pub length_put_most : {T : Type 0} (at : T → Ordering) (x : T) (xs : List T) → length (put at x xs) ≤ length xs + 1
length_put_most at x [] = omega arith
length_put_most at x (y ∷ ys) = by_order (at y) (length_put_most at x ys)
  where
    by_order : (r : Ordering) → length (put at x ys) ≤ length ys + 1 → length (match_ordering r (y ∷ put at x ys) (x ∷ ys) (x ∷ y ∷ ys)) ≤ length (y ∷ ys) + 1
    by_order Less later = omega arith
    by_order Equal later = omega arith
    by_order Greater later = omega arith

all_set : {T : Type 0} (P : T → Type 0) (x : T) (xs : List T) (k : ℕ) → P x → AllByRecursion P xs → AllByRecursion P (set xs k x)
all_set P x [] k one all = tt
all_set P x (y ∷ ys) zero one all = (one, all.1)
all_set P x (y ∷ ys) (suc k) one all = (all.0, all_set P x ys k one all.1)

-- none of the places holds the address
abbrev pub IsFreeIn : List (List Addr) → Addr → Type 0
IsFreeIn held a = (i : ℕ) → is_among a (held_at held i) ≡ false

not_both : {b : Bool} → b ≡ true → b ≡ false → ⊥
not_both t f = true≢false (sym t ∙ f)

nothing_found : (a : Addr) (es : List AddressEntry) → ((i : ℕ) → place_of a es ≡ Some i → ⊥) → found (at_address a) es ≡ None
nothing_found a es never = by_cases (found (at_address a) es) refl
  where
    by_cases : (o : Option AddressEntry) → found (at_address a) es ≡ o → o ≡ None
    by_cases None is = refl
    by_cases (Some e) is = absurd (never e.place (ap (option_map (λ (x : AddressEntry). x.place)) is))

-- what is held at a place that is set
set_same : (held : List (List Addr)) (k : ℕ) (new : List Addr) (i : ℕ) → k < length held → i ≡ k → held_at (set held k new) i ≡ new
set_same held k new i within same = ap (held_at (set held k new)) same ∙ get_or-set_same held k new [] within

pub put_index : (held : List (List Addr)) (k : ℕ) (a : Addr) (rest : List Addr) (es : List AddressEntry) → k < length held → held_at held k ≡ rest → length rest ≤ 1 → IsFreeIn held a → IsIndex held es → IsIndex (set held k (a ∷ rest)) (put (at_address a) (entry_at a k) es)
put_index held k a rest es within here few free index = record {
  ascend = ascends_put (λ (e : AddressEntry). e.address) addr_order_total (entry_at a k) es index.ascend;
  exact = exact;
  counted = length_put a (entry_at a k) es (nothing_found a es (λ i e. not_both ((index.exact a i).0 e) (free i)))
      ∙ (let total = sum_by-set length held k (a ∷ rest) [] within in let size : length (held_at held k) ≡ length rest = ap length here in let all = index.counted in omega arith);
  two = all_set (λ (addresses : List Addr). length addresses ≤ 2) (a ∷ rest) held k (omega arith) index.two;
}
  where
    new : List (List Addr)
    new = set held k (a ∷ rest)

    other_address : (b : Addr) (i : ℕ) → addr_eq a b ≡ false → is_among b (held_at new i) ≡ is_among b (held_at held i)
    other_address b i differs = by_place (eqb i k) refl
      where
        by_place : (t : Bool) → eqb i k ≡ t → is_among b (held_at new i) ≡ is_among b (held_at held i)
        by_place true is =
            let same : i ≡ k = eqb-true i k is in
            ap (is_among b) (set_same held k (a ∷ rest) i within same) ∙ (ap (λ t. t || is_among b rest) differs ∙ ap (is_among b) (sym here ∙ ap (held_at held) (sym same)))
        by_place false is = ap (is_among b) (get_or-set_other held k i (a ∷ rest) [] (eqb-false i k is))

    this_address : (b : Addr) (i : ℕ) → addr_eq a b ≡ true → is_among b (held_at new i) ≡ true → k ≡ i
    this_address b i same among = by_place (eqb i k) refl
      where
        by_place : (t : Bool) → eqb i k ≡ t → k ≡ i
        by_place true is = sym (eqb-true i k is)
        by_place false is =
            absurd (not_both among (ap (is_among b) (get_or-set_other held k i (a ∷ rest) [] (eqb-false i k is)) ∙ (ap (λ c. is_among c (held_at held i)) (sym (addr_eq-one a b same)) ∙ free i)))

    exact : (b : Addr) (i : ℕ) → (place_of b (put (at_address a) (entry_at a k) es) ≡ Some i) ↔ (is_among b (held_at new i) ≡ true)
    exact b i = by_test (addr_eq a b) refl
      where
        by_test : (t : Bool) → addr_eq a b ≡ t → (place_of b (put (at_address a) (entry_at a k) es) ≡ Some i) ↔ (is_among b (held_at new i) ≡ true)
        by_test true is =
            let place : place_of b (put (at_address a) (entry_at a k) es) ≡ Some k = put_place a k es b ∙ ap (λ t. if t then Some k else place_of b es) is in (
              λ e. ap (is_among b) (set_same held k (a ∷ rest) i within (sym (some_is (sym place ∙ e)))) ∙ ap (λ t. t || is_among b rest) is,
              λ among. place ∙ ap Some (this_address b i is among),
            )
        by_test false is =
            let place : place_of b (put (at_address a) (entry_at a k) es) ≡ place_of b es = put_place a k es b ∙ ap (λ t. if t then Some k else place_of b es) is in (
              λ e. other_address b i is ∙ (index.exact b i).0 (sym place ∙ e),
              λ among. place ∙ (index.exact b i).1 (sym (other_address b i is) ∙ among),
            )

-- ---- an address goes from a place

without_place : (a : Addr) (es : List AddressEntry) (b : Addr) → Ascends (λ (e : AddressEntry). e.address) addr_order es → place_of b (without (at_address a) es) ≡ (if addr_eq a b then None else place_of b es)
without_place a es b up =
    ap (option_map (λ (e : AddressEntry). e.place)) (found_without (λ (e : AddressEntry). e.address) addr_order_total a b es up)
    ∙ (by_test (is_eq (addr_order a b)) ∙ ap (λ t. if t then None else place_of b es) (sym (addr_eq_by_order a b)))
  where
    by_test : (t : Bool) → option_map (λ (e : AddressEntry). e.place) (if t then None else found (at_address b) es) ≡ (if t then None else place_of b es)
    by_test true = refl
    by_test false = refl

length_without : (a : Addr) (es : List AddressEntry) (i : ℕ) → Ascends (λ (e : AddressEntry). e.address) addr_order es → place_of a es ≡ Some i → length (without (at_address a) es) + 1 ≡ length es
length_without a [] i up there = absurd (none_is_not there)
length_without a (e ∷ es) i up there = by_order (at_address a e) refl there (length_without a es i up.1)
  where
    behind : at_address a e ≡ Equal → (z : AddressEntry) → addr_order e.address z.address ≡ Less → not (is_eq (at_address a z)) ≡ true
    behind is z less =
        ap (λ r. not (is_eq r)) (addr_order_total.antisymm z.address a ∙ ap ordering_reverse (ap (λ b. addr_order b z.address) (sym (addr_order_exact e.address a is)) ∙ less))

    by_order : (r : Ordering) → at_address a e ≡ r → option_map (λ (x : AddressEntry). x.place) (match_ordering r (found (at_address a) es) (Some e) None) ≡ Some i
        → (place_of a es ≡ Some i → length (without (at_address a) es) + 1 ≡ length es)
        → length (if not (is_eq r) then e ∷ without (at_address a) es else without (at_address a) es) + 1 ≡ length (e ∷ es)
    by_order Less is t later = let one : length (without (at_address a) es) + 1 ≡ length es = later t in omega arith
    by_order Equal is t later =
        let same : length (without (at_address a) es) ≡ length es = ap (λ (xs : List AddressEntry). length xs) (filter_all (λ z. not (is_eq (at_address a z))) es (all_weaker (λ (z : AddressEntry). addr_order e.address z.address ≡ Less) (λ z. not (is_eq (at_address a z)) ≡ true) (behind is) es up.0)) in
        omega arith
    by_order Greater is t later = absurd (none_is_not t)

pub without_index : (held : List (List Addr)) (k : ℕ) (a : Addr) (rest : List Addr) (es : List AddressEntry) → k < length held → held_at held k ≡ a ∷ rest → is_among a rest ≡ false → length rest ≤ 1 → IsIndex held es → IsIndex (set held k rest) (without (at_address a) es)
without_index held k a rest es within here once few index = record {
  ascend = ascends_without (λ (e : AddressEntry). e.address) addr_order_total a es index.ascend;
  exact = exact;
  counted =
      let total = sum_by-set length held k rest [] within in
      let size : length (held_at held k) ≡ suc (length rest) = ap length here in
      let shorter = length_without a es k index.ascend ((index.exact a k).1 its_own) in
      let all = index.counted in omega arith;
  two = all_set (λ (addresses : List Addr). length addresses ≤ 2) rest held k (omega arith) index.two;
}
  where
    new : List (List Addr)
    new = set held k rest

    its_own : is_among a (held_at held k) ≡ true
    its_own = ap (is_among a) here ∙ ap (λ t. t || is_among a rest) (addr_eq-itself a)

    other_address : (b : Addr) (i : ℕ) → addr_eq a b ≡ false → is_among b (held_at new i) ≡ is_among b (held_at held i)
    other_address b i differs = by_place (eqb i k) refl
      where
        by_place : (t : Bool) → eqb i k ≡ t → is_among b (held_at new i) ≡ is_among b (held_at held i)
        by_place true is =
            let same : i ≡ k = eqb-true i k is in
            ap (is_among b) (set_same held k rest i within same) ∙ sym (ap (is_among b) (ap (held_at held) same ∙ here) ∙ ap (λ t. t || is_among b rest) differs)
        by_place false is = ap (is_among b) (get_or-set_other held k i rest [] (eqb-false i k is))

    -- no place holds the address any more
    gone : (i : ℕ) → is_among a (held_at new i) ≡ true → ⊥
    gone i among = by_place (eqb i k) refl
      where
        by_place : (t : Bool) → eqb i k ≡ t → ⊥
        by_place true is = not_both among (ap (is_among a) (set_same held k rest i within (eqb-true i k is)) ∙ once)
        by_place false is =
            let still : is_among a (held_at held i) ≡ true = sym (ap (is_among a) (get_or-set_other held k i rest [] (eqb-false i k is))) ∙ among in
            eqb-false i k is (some_is (sym ((index.exact a i).1 still) ∙ (index.exact a k).1 its_own))

    exact : (b : Addr) (i : ℕ) → (place_of b (without (at_address a) es) ≡ Some i) ↔ (is_among b (held_at new i) ≡ true)
    exact b i = by_test (addr_eq a b) refl
      where
        by_test : (t : Bool) → addr_eq a b ≡ t → (place_of b (without (at_address a) es) ≡ Some i) ↔ (is_among b (held_at new i) ≡ true)
        by_test true is =
            let place : place_of b (without (at_address a) es) ≡ None = without_place a es b index.ascend ∙ ap (λ t. if t then None else place_of b es) is in (
              λ e. absurd (none_is_not (sym place ∙ e)),
              λ among. absurd (gone i (ap (λ c. is_among c (held_at new i)) (addr_eq-one a b is) ∙ among)),
            )
        by_test false is =
            let place : place_of b (without (at_address a) es) ≡ place_of b es = without_place a es b index.ascend ∙ ap (λ t. if t then None else place_of b es) is in (
              λ e. other_address b i is ∙ (index.exact b i).0 (sym place ∙ e),
              λ among. place ∙ (index.exact b i).1 (sym (other_address b i is) ∙ among),
            )

-- ---- all addresses of a pod

-- the addresses from i on are entered after those from the next on
pub entered_more : (k : ℕ) (addresses : List Addr) (es : List AddressEntry) (i : ℕ) (d : Addr) → i < length addresses
    → entered k (drop i addresses) es ≡ put (at_address (get_or addresses i d)) (entry_at (get_or addresses i d) k) (entered k (drop (i + 1) addresses) es)
entered_more k addresses es i d within = rw (add-one, drop-cons addresses i d within) refl

-- of the two families the first address is of IPv4, so none comes twice
pub two_families : (a : Addr) (rest : List Addr) → AreAddresses (a ∷ rest) → (is_among a rest ≡ false) × ((length rest ≤ 1) × AreAddresses rest)
two_families a [] are = (refl, (omega arith, tt))
two_families (V4 m) (V6 n ∷ []) are = (refl, (omega arith, tt))
two_families (V4 m) (V4 n ∷ rest) are = absurd are
two_families (V6 m) (b ∷ rest) are = absurd are
two_families (V4 m) (V6 n ∷ c ∷ rest) are = absurd are

-- nothing is held at a place from which all went
emptied : (held : List (List Addr)) (k : ℕ) → held_at held k ≡ [] → set held k [] ≡ held
emptied held k none = ap (set held k) (sym none) ∙ set-get_or held k []

among_first : (a : Addr) (rest : List Addr) → is_among a (a ∷ rest) ≡ true
among_first a rest = ap (λ t. t || is_among a rest) (addr_eq-itself a)

among_later : (a b : Addr) (rest : List Addr) → is_among b rest ≡ true → is_among b (a ∷ rest) ≡ true
among_later a b rest among = ap (λ t. addr_eq a b || t) among ∙ always (addr_eq a b)
  where
    always : (t : Bool) → t || true ≡ true
    always true = refl
    always false = refl

-- an index once a place at which nothing is held holds addresses that are free
pub entered_index : (held : List (List Addr)) (k : ℕ) (addresses : List Addr) (es : List AddressEntry) → k < length held → held_at held k ≡ [] → AreAddresses addresses
    → ((a : Addr) → is_among a addresses ≡ true → IsFreeIn held a) → IsIndex held es → IsIndex (set held k addresses) (entered k addresses es)
entered_index held k [] es within none are free index = subst (λ (h : List (List Addr)). IsIndex h es) (sym (emptied held k none)) index
entered_index held k (a ∷ rest) es within none are free index =
    subst (λ (h : List (List Addr)). IsIndex h (entered k (a ∷ rest) es)) (set-set held k rest (a ∷ rest))
    (put_index (set held k rest) k a rest (entered k rest es) (rw (length-set held k rest) within) (get_or-set_same held k rest [] within) families.1.0 still_free
    (entered_index held k rest es within none families.1.1 (λ b among. free b (among_later a b rest among)) index))
  where
    families : (is_among a rest ≡ false) × ((length rest ≤ 1) × AreAddresses rest)
    families = two_families a rest are

    still_free : IsFreeIn (set held k rest) a
    still_free i = by_place (eqb i k) refl
      where
        by_place : (t : Bool) → eqb i k ≡ t → is_among a (held_at (set held k rest) i) ≡ false
        by_place true is = ap (is_among a) (set_same held k rest i within (eqb-true i k is)) ∙ families.0
        by_place false is = ap (is_among a) (get_or-set_other held k i rest [] (eqb-false i k is)) ∙ free a (among_first a rest) i

-- an index once a place holds nothing
pub left_index : (held : List (List Addr)) (k : ℕ) (addresses : List Addr) (es : List AddressEntry) → k < length held → held_at held k ≡ addresses → AreAddresses addresses
    → IsIndex held es → IsIndex (set held k []) (without_addresses addresses es)
left_index held k [] es within here are index = subst (λ (h : List (List Addr)). IsIndex h es) (sym (emptied held k here)) index
left_index held k (a ∷ rest) es within here are index =
    subst (λ (h : List (List Addr)). IsIndex h (without_addresses (a ∷ rest) es)) (set-set held k rest [])
    (left_index (set held k rest) k rest (without (at_address a) es) (rw (length-set held k rest) within) (get_or-set_same held k rest [] within) families.1.1
    (without_index held k a rest es within here families.0 families.1.0 index))
  where
    families : (is_among a rest ≡ false) × ((length rest ≤ 1) × AreAddresses rest)
    families = two_families a rest are

-- ---- room

pub few_held : (held : List (List Addr)) → AllByRecursion (λ (addresses : List Addr). length addresses ≤ 2) held → sum_by length held ≤ 2 * length held
few_held [] all = omega arith
few_held (x ∷ xs) all =
    let rest = few_held xs all.1 in
    let here = all.0 in
    let total = sum_by-cons length x xs in
    omega arith

-- with what comes in at a place at which nothing is held, the entries are at most two a place
pub room_for : (held : List (List Addr)) (k : ℕ) (addresses : List Addr) (es : List AddressEntry) → k < length held → held_at held k ≡ [] → length addresses ≤ 2 → IsIndex held es → length es + length addresses ≤ 2 * length held
room_for held k addresses es within none few index =
    let more = few_held (set held k addresses) (all_set (λ (xs : List Addr). length xs ≤ 2) addresses held k few index.two) in
    let total = sum_by-set length held k addresses [] within in
    let size : length (held_at held k) ≡ 0 = ap length none in
    let same = length-set held k addresses in
    let all = index.counted in
    omega arith

-- each entry's place is a place of the list
pub places_within : (held : List (List Addr)) (es : List AddressEntry) → IsIndex held es → AllByRecursion (λ (e : AddressEntry). e.place < length held) es
places_within held es index = each es index.ascend (λ a i e. inside a i ((index.exact a i).0 e))
  where
    past : (xs : List (List Addr)) (i : ℕ) → length xs ≤ i → held_at xs i ≡ []
    past [] zero le = refl
    past [] (suc i) le = refl
    past (x ∷ xs) zero le = absurd (omega arith)
    past (x ∷ xs) (suc i) le = past xs i (omega arith)

    inside : (a : Addr) (i : ℕ) → is_among a (held_at held i) ≡ true → i < length held
    inside a i among = by_test (nat_lt i (length held)) refl
      where
        by_test : (t : Bool) → nat_lt i (length held) ≡ t → i < length held
        by_test true is = ltb-true i (length held) is
        by_test false is = absurd (not_both among (ap (is_among a) (past held i (ltb-false i (length held) is))))

    each : (xs : List AddressEntry) → Ascends (λ (e : AddressEntry). e.address) addr_order xs → ((a : Addr) (i : ℕ) → place_of a xs ≡ Some i → i < length held) → AllByRecursion (λ (e : AddressEntry). e.place < length held) xs
    each [] up all = tt
    each (e ∷ rest) up all = (
      all e.address e.place (ap (option_map (λ (x : AddressEntry). x.place)) (first_found (λ (x : AddressEntry). x.address) addr_order_total e rest)),
      each rest up.1 (λ a i there. all a i (behind a i there (addr_order e.address a) refl)),
    )
      where
        behind : (a : Addr) (i : ℕ) → place_of a rest ≡ Some i → (r : Ordering) → addr_order e.address a ≡ r → option_map (λ (x : AddressEntry). x.place) (match_ordering r (found (at_address a) rest) (Some e) None) ≡ Some i
        behind a i there Less is = there
        behind a i there Equal is = absurd (none_is_not (sym (ap (option_map (λ (x : AddressEntry). x.place)) (none_behind (λ (x : AddressEntry). x.address) addr_order_total a e rest Equal is (λ q. cc) up.0)) ∙ there))
        behind a i there Greater is = absurd (none_is_not (sym (ap (option_map (λ (x : AddressEntry). x.place)) (none_behind (λ (x : AddressEntry). x.address) addr_order_total a e rest Greater is (λ q. cc) up.0)) ∙ there))
