-- One use of a group more or less, and members that move, leave each group in use so often.
use Rattle.std.proofs.Common.{◌≡◌, ◌==◌, ℕ, zero, suc, ◌+◌, ◌≤◌, ◌<◌, List, [], ◌∷◌, ◌++◌, length, get_or, take, map, Bool, true, false, Option, Some, None, IsSome, if◌then◌else◌, refl, sym, ap, subst, ◌∙◌, arith}
use Rattle.std.proofs.lemmas.Bool.{eqb-true}
use Rattle.std.proofs.lemmas.Cmp.{tied_itself}
use Rattle.std.proofs.lemmas.List.{take_more}
use Rattle.std.specs.List.{AllByRecursion}
use Rattle.std.specs.declared.cmp.Ordering.{Ordering}
use Rattle.std.specs.declared.cmp.Ordering.TheVariants.{Less, Equal, Greater}
use Rattle.std.specs.Ordering.{is_eq, match_ordering}
use Rattle.cl_types.specs.Ascending.{found, put, without}
use Rattle.cl_types.specs.AscendingLaws.{all_put, found_at, found_holds, found_put, found_without}
use Rattle.cl_types.specs.ListLaws.{all_filter}
use Rattle.cl_types.specs.OrderLaws.{text_order_exact}
use Rattle.cl_types.specs.Text.{text_order, text_order_total}
use Rattle.label_select.specs.Group.{Group, IsGroup}
use Rattle.label_select.specs.Written.{group_text}
use Rattle.cluster_types.specs.Cluster.{ClusterData}
use Rattle.cluster_types.specs.Counts.{total}
use Rattle.group_index.specs.Changes.{at_cluster, entry_at}
use Rattle.group_index.specs.Index.{EntryData, IsIndex, StandsFor, at_group, entry_of, entry_text, first_use, less_use, more_use, used_again, used_less, with_use, without_use}
use Rattle.ctl_core.specs.Following.{IsMoved}
use Rattle.ctl_core.specs.Naming.{AreGroups}
use Rattle.ctl_core.specs.Uses.{IsUsedLess, IsUsedMore, once, times, uses_in, uses_of}

-- ---- where an entry is found

is_equal : (r : Ordering) → is_eq r ≡ true → r ≡ Equal
is_equal Less e = cc
is_equal Equal e = refl
is_equal Greater e = cc

-- groups of one text have one entry
same_entry : (g h : Group) (index : List EntryData) → is_eq (text_order (group_text g) (group_text h)) ≡ true → entry_of index h ≡ entry_of index g
same_entry g h index e =
    ap (λ t. found (λ (x : EntryData). text_order (entry_text x) t) index) (sym (text_order_exact (group_text g) (group_text h) (is_equal (text_order (group_text g) (group_text h)) e)))

uses_put : (g h : Group) (x : EntryData) (index : List EntryData) → entry_text x ≡ group_text g
    → uses_of (put (at_group g) x index) h ≡ (if is_eq (text_order (group_text g) (group_text h)) then x.uses else uses_of index h)
uses_put g h x index same =
    ap uses_in
    (subst (λ t. found (at_group h) (put (λ (y : EntryData). text_order (entry_text y) t) x index) ≡ (if is_eq (text_order t (group_text h)) then Some x else entry_of index h)) same
    (found_put entry_text text_order_total (group_text h) x index))
    ∙ by_test (is_eq (text_order (group_text g) (group_text h)))
  where
    by_test : (b : Bool) → uses_in (if b then Some x else entry_of index h) ≡ (if b then x.uses else uses_of index h)
    by_test true = refl
    by_test false = refl

text_found : (g : Group) (index : List EntryData) (e : EntryData) → entry_of index g ≡ Some e → entry_text e ≡ group_text g
text_found g index e is = text_order_exact (entry_text e) (group_text g) (found_at (at_group g) index e is)

-- ---- one use more

text_more : (c : ClusterData) (g : Group) (index : List EntryData) (o : Option EntryData) → entry_of index g ≡ o → entry_text (more_use c g o) ≡ group_text g
text_more c g index (Some e) is = text_found g index e is
text_more c g index None is = refl

one_more : (c : ClusterData) (g : Group) (o : Option EntryData) → (more_use c g o).uses ≡ uses_in o + 1
one_more c g (Some e) = refl
one_more c g None = omega arith

pub uses-with : (c : ClusterData) (g h : Group) (index : List EntryData) → uses_of (with_use c g index) h ≡ uses_of index h + once h g
unfolding with_use
uses-with c g h index =
    uses_put g h (more_use c g (entry_of index g)) index (text_more c g index (entry_of index g) refl) ∙ by_test (is_eq (text_order (group_text g) (group_text h))) refl
  where
    by_test : (b : Bool) → is_eq (text_order (group_text g) (group_text h)) ≡ b
        → (if b then (more_use c g (entry_of index g)).uses else uses_of index h) ≡ uses_of index h + (if b then 1 else 0)
    by_test true e = one_more c g (entry_of index g) ∙ ap (λ o. uses_in o + 1) (sym (same_entry g h index e))
    by_test false e = omega arith

forms-with : (c : ClusterData) (g : Group) (index : List EntryData) → IsGroup g → AreGroups index → AreGroups (with_use c g index)
unfolding with_use
forms-with c g index form groups = by_found (entry_of index g) refl
  where
    by_found : (o : Option EntryData) → entry_of index g ≡ o → AreGroups (put (at_group g) (more_use c g o) index)
    by_found (Some e) is = all_put (at_group g) (λ (x : EntryData). IsGroup x.group) (used_again e) index (found_holds (at_group g) (λ (x : EntryData). IsGroup x.group) index e groups is) groups
    by_found None is = all_put (at_group g) (λ (x : EntryData). IsGroup x.group) (first_use c g) index form groups

-- ---- one use less

some_found : (o : Option EntryData) → 1 ≤ uses_in o → IsSome o
some_found None used = absurd (omega arith)
some_found (Some e) used = refl

pub in_use : (g : Group) (index : List EntryData) → 1 ≤ uses_of index g → IsSome (entry_of index g)
in_use g index used = some_found (entry_of index g) used

pub uses-without : (g h : Group) (index : List EntryData) → IsIndex index → 1 ≤ uses_of index g → uses_of (without_use g index) h + once h g ≡ uses_of index h
unfolding without_use
uses-without g h index up used = by_found (entry_of index g) refl used
  where
    by_test : (e : EntryData) → entry_of index g ≡ Some e → 1 ≤ e.uses → (n : ℕ) → n + 1 ≡ e.uses → (b : Bool) → is_eq (text_order (group_text g) (group_text h)) ≡ b
        → (if b then n else uses_of index h) + (if b then 1 else 0) ≡ uses_of index h
    by_test e is one n less true t = less ∙ sym (ap uses_in (same_entry g h index t ∙ is))
    by_test e is one n less false t = omega arith

    gone : (b : Bool) → uses_in (if b then None else entry_of index h) ≡ (if b then 0 else uses_of index h)
    gone true = refl
    gone false = refl

    by_once : (e : EntryData) → entry_of index g ≡ Some e → 1 ≤ e.uses → (b : Bool) → (e.uses == 1) ≡ b
        → uses_of (if b then without (at_group g) index else put (at_group g) (used_less e) index) h + once h g ≡ uses_of index h
    by_once e is one true once_used =
        let last : e.uses ≡ 1 = eqb-true e.uses 1 once_used in
        ap (λ n. n + once h g) (ap uses_in (found_without entry_text text_order_total (group_text g) (group_text h) index up) ∙ gone (is_eq (text_order (group_text g) (group_text h))))
        ∙ by_test e is one 0 (omega arith) (is_eq (text_order (group_text g) (group_text h))) refl
    by_once e is one false more =
        ap (λ n. n + once h g) (uses_put g h (used_less e) index (text_found g index e is))
        ∙ by_test e is one (used_less e).uses (omega arith) (is_eq (text_order (group_text g) (group_text h))) refl

    by_found : (o : Option EntryData) → entry_of index g ≡ o → 1 ≤ uses_in o → uses_of (less_use g index o) h + once h g ≡ uses_of index h
    by_found None is one = absurd (omega arith)
    by_found (Some e) is one = by_once e is one (e.uses == 1) refl

forms-without : (g : Group) (index : List EntryData) → AreGroups index → AreGroups (without_use g index)
unfolding without_use
forms-without g index groups = by_found (entry_of index g) refl
  where
    by_test : (e : EntryData) → entry_of index g ≡ Some e → (b : Bool) → AreGroups (if b then without (at_group g) index else put (at_group g) (used_less e) index)
    by_test e is true = all_filter (λ (x : EntryData). IsGroup x.group) _ index groups
    by_test e is false = all_put (at_group g) (λ (x : EntryData). IsGroup x.group) (used_less e) index (found_holds (at_group g) (λ (x : EntryData). IsGroup x.group) index e groups is) groups

    by_found : (o : Option EntryData) → entry_of index g ≡ o → AreGroups (less_use g index o)
    by_found (Some e) is = by_test e is (e.uses == 1)
    by_found None is = groups

-- ---- members that move

pub uses_moved : (c : ClusterData) (h : Group) (index : List EntryData) → uses_of (at_cluster c index) h ≡ uses_of index h
unfolding at_cluster
uses_moved c h [] = refl
uses_moved c h (e ∷ es) = by_order (at_group h e) (uses_moved c h es)
  where
    by_order : (r : Ordering) → uses_of (map (entry_at c) es) h ≡ uses_of es h
        → uses_in (match_ordering r (entry_of (map (entry_at c) es) h) (Some (entry_at c e)) None) ≡ uses_in (match_ordering r (entry_of es h) (Some e) None)
    by_order Less rest = rest
    by_order Equal rest = refl
    by_order Greater rest = refl

pub forms_moved : (c : ClusterData) (index : List EntryData) → AreGroups index → AreGroups (at_cluster c index)
unfolding at_cluster
forms_moved c [] groups = tt
forms_moved c (e ∷ es) groups = (groups.0, forms_moved c es groups.1)

pub is_moved : (c : ClusterData) (old new : List EntryData) → new ≡ at_cluster c old → StandsFor new c → IsMoved c old new
is_moved c old new is stands = record {
  stands = stands;
  forms = λ groups. subst AreGroups (sym is) (forms_moved c old groups);
  uses = λ h. ap (λ es. uses_of es h) is ∙ uses_moved c h old;
}

-- ---- lists of groups

pub total-append : {T : Type 0} (f : T → ℕ) (xs ys : List T) → total f (xs ++ ys) ≡ total f xs + total f ys
total-append f [] ys = omega arith
total-append f (x ∷ xs) ys = let rest = total-append f xs ys in omega arith

times_more : (h g : Group) (groups : List Group) (i : ℕ) → i < length groups → g ≡ get_or groups i g → times h (take (i + 1) groups) ≡ times h (take i groups) + once h g
times_more h g groups i within is =
    let one : take (i + 1) groups ≡ take i groups ++ g ∷ [] = take_more groups i g within ∙ ap (λ x. take i groups ++ x ∷ []) (sym is) in
    let both = ap (times h) one ∙ total-append (once h) (take i groups) (g ∷ []) in
    omega arith

pub used_more : (c : ClusterData) (g : Group) (groups : List Group) (i : ℕ) (old mid new : List EntryData) → i < length groups → g ≡ get_or groups i g → IsGroup g
    → new ≡ with_use c g mid → StandsFor new c → IsUsedMore c (take i groups) old mid → IsUsedMore c (take (i + 1) groups) old new
used_more c g groups i old mid new within at form is stands before = record {
  stands = stands;
  forms = subst AreGroups (sym is) (forms-with c g mid form before.forms);
  uses = λ h.
      let more = ap (λ es. uses_of es h) is ∙ uses-with c g h mid in
      let far = before.uses h in
      let next = times_more h g groups i within at in
      omega arith;
}

pub once_itself : (g : Group) → once g g ≡ 1
once_itself g = ap (λ r. if is_eq r then 1 else 0) (tied_itself text_order_total (group_text g))

-- the group that comes next is among all of them once more than among those before it
times_here : (g : Group) (groups : List Group) (i : ℕ) → i < length groups → g ≡ get_or groups i g → times g (take i groups) + 1 ≤ times g groups
times_here g [] i within is = absurd (omega arith)
times_here g (x ∷ xs) zero within is =
    let one : once g x ≡ 1 = ap (once g) (sym is) ∙ once_itself g in
    omega arith
times_here g (x ∷ xs) (suc i) within is =
    let rest = times_here g xs i (omega arith) is in
    omega arith

pub held_here : (g : Group) (groups : List Group) (i : ℕ) (old mid : List EntryData) → i < length groups → g ≡ get_or groups i g
    → ((h : Group) → times h groups ≤ uses_of old h) → IsUsedLess (take i groups) old mid → 1 ≤ uses_of mid g
held_here g groups i old mid within is held before =
    let here = times_here g groups i within is in
    let all = held g in
    let far = before.uses g in
    omega arith

pub used_less_by : (g : Group) (groups : List Group) (i : ℕ) (old mid new : List EntryData) → i < length groups → g ≡ get_or groups i g
    → 1 ≤ uses_of mid g → IsIndex mid → new ≡ without_use g mid → ((c : ClusterData) → StandsFor mid c → StandsFor new c) → IsUsedLess (take i groups) old mid → IsUsedLess (take (i + 1) groups) old new
used_less_by g groups i old mid new within at used up is stands before = record {
  stands = λ c at_first. stands c (before.stands c at_first);
  forms = λ at_first. subst AreGroups (sym is) (forms-without g mid (before.forms at_first));
  uses = λ h.
      let less = ap (λ es. uses_of es h + once h g) is ∙ uses-without g h mid up used in
      let far = before.uses h in
      let next = times_more h g groups i within at in
      omega arith;
}
