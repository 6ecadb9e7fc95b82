-- One use of a group more or less, where its entry stands.
use Rattle.std.proofs.Common.{◌≡◌, ◌==◌, ℕ, List, get_or, set, Bool, true, false, Option, Some, None, Result, Ok, Err, if◌then◌else◌, refl, sym, ap, subst, ◌∙◌}
use Rattle.std.specs.List.{remove}
use Rattle.std.specs.Result.{OnOk, OnErr}
use Rattle.cl_types.specs.Ascending.{IsPlace, put, without}
use Rattle.cl_types.specs.AscendingLaws.{all_put, ascends_put, ascends_without, found_at, found_at_place, found_holds, put_at_place, without_at_place}
use Rattle.cl_types.specs.ListLaws.{all_filter}
use Rattle.cl_types.specs.OrderLaws.{text_order_exact}
use Rattle.cl_types.specs.Text.{text_order, text_order_total}
use Rattle.label_select.specs.Group.{Group}
use Rattle.label_select.specs.Written.{group_text}
use Rattle.cluster_types.specs.Cluster.{ClusterData}
use Rattle.group_index.specs.Members.{members_of}
use Rattle.group_index.specs.Index.{EntryData, IsIndex, StandsFor, at_group, entry_of, entry_text, first_use, used_again, used_less, more_use, with_use, less_use, without_use}

-- the entry at the place is the one that is found
pub found_here : (g : Group) (index : List EntryData) (i : ℕ) (e : EntryData) → IsPlace (at_group g) index i → e ≡ get_or index i e → entry_of index g ≡ Some e
found_here g index i e p is = found_at_place (at_group g) index i e p.within p.here p.before ∙ ap Some (sym is)

set_here : (g : Group) (index : List EntryData) (i : ℕ) (e : EntryData) → IsPlace (at_group g) index i → put (at_group g) e index ≡ set index i e
set_here g index i e p = put_at_place (at_group g) e index i p.within p.here p.before

-- ---- more

pub again_here : (c : ClusterData) (g : Group) (index : List EntryData) (i : ℕ) (e : EntryData) → IsPlace (at_group g) index i → e ≡ get_or index i e → set index i (used_again e) ≡ with_use c g index
unfolding with_use
again_here c g index i e p is = sym (ap (λ o. put (at_group g) (more_use c g o) index) (found_here g index i e p is) ∙ set_here g index i (used_again e) p)

pub first_here : (c : ClusterData) (g : Group) (index : List EntryData) → entry_of index g ≡ None → put (at_group g) (first_use c g) index ≡ with_use c g index
unfolding with_use
first_here c g index none = sym (ap (λ o. put (at_group g) (more_use c g o) index) none)

-- an entry with the group's text goes in at the group
put_ascends : (g : Group) (e : EntryData) (index : List EntryData) → entry_text e ≡ group_text g → IsIndex index → IsIndex (put (at_group g) e index)
put_ascends g e index same up = subst (λ t. IsIndex (put (λ y. text_order (entry_text y) t) e index)) same (ascends_put entry_text text_order_total e index up)

text_of_found : (g : Group) (index : List EntryData) (e : EntryData) → entry_of index g ≡ Some e → entry_text e ≡ group_text g
text_of_found g index e is = text_order_exact (entry_text e) (group_text g) (found_at (at_group g) index e is)

pub with_use_stands : (c : ClusterData) (g : Group) (index : List EntryData) → StandsFor index c → StandsFor (with_use c g index) c
unfolding with_use
with_use_stands c g index all = by_found (entry_of index g) refl
  where
    by_found : (o : Option EntryData) → entry_of index g ≡ o → StandsFor (put (at_group g) (more_use c g o) index) c
    by_found (Some e) is = all_put (at_group g) (λ (x : EntryData). x.members ≡ members_of c x.group) (used_again e) index (found_holds (at_group g) (λ (x : EntryData). x.members ≡ members_of c x.group) index e all is) all
    by_found None is = all_put (at_group g) (λ (x : EntryData). x.members ≡ members_of c x.group) (first_use c g) index refl all

-- ---- less

pub gone_here : (g : Group) (index : List EntryData) (i : ℕ) (e : EntryData) → IsIndex index → IsPlace (at_group g) index i → e ≡ get_or index i e → (e.uses == 1) ≡ true → remove index i ≡ without_use g index
unfolding without_use
gone_here g index i e up p is once =
    sym (ap (less_use g index) (found_here g index i e p is)
    ∙ (ap (λ b. if b then without (at_group g) index else put (at_group g) (used_less e) index) once
    ∙ without_at_place entry_text text_order_total (group_text g) index i up p.within p.here p.before))

pub less_here : (g : Group) (index : List EntryData) (i : ℕ) (e : EntryData) → IsPlace (at_group g) index i → e ≡ get_or index i e → (e.uses == 1) ≡ false → set index i (used_less e) ≡ without_use g index
unfolding without_use
less_here g index i e p is more =
    sym (ap (less_use g index) (found_here g index i e p is)
    ∙ (ap (λ b. if b then without (at_group g) index else put (at_group g) (used_less e) index) more
    ∙ set_here g index i (used_less e) p))

pub without_use_ascends : (g : Group) (index : List EntryData) → IsIndex index → IsIndex (without_use g index)
unfolding without_use
without_use_ascends g index up = by_found (entry_of index g) refl
  where
    by_test : (e : EntryData) → entry_of index g ≡ Some e → (b : Bool) → IsIndex (if b then without (at_group g) index else put (at_group g) (used_less e) index)
    by_test e is true = ascends_without entry_text text_order_total (group_text g) index up
    by_test e is false = put_ascends g (used_less e) index (text_of_found g index e is) up

    by_found : (o : Option EntryData) → entry_of index g ≡ o → IsIndex (less_use g index o)
    by_found (Some e) is = by_test e is (e.uses == 1)
    by_found None is = up

pub without_use_stands : (c : ClusterData) (g : Group) (index : List EntryData) → StandsFor index c → StandsFor (without_use g index) c
unfolding without_use
without_use_stands c g index all = by_found (entry_of index g) refl
  where
    by_test : (e : EntryData) → entry_of index g ≡ Some e → (b : Bool) → StandsFor (if b then without (at_group g) index else put (at_group g) (used_less e) index) c
    by_test e is true = all_filter (λ (x : EntryData). x.members ≡ members_of c x.group) _ index all
    by_test e is false = all_put (at_group g) (λ (x : EntryData). x.members ≡ members_of c x.group) (used_less e) index (found_holds (at_group g) (λ (x : EntryData). x.members ≡ members_of c x.group) index e all is) all

    by_found : (o : Option EntryData) → entry_of index g ≡ o → StandsFor (less_use g index o) c
    by_found (Some e) is = by_test e is (e.uses == 1)
    by_found None is = all

-- ---- states

-- an entry in place of one of the same group
pub kept_ascends : (g : Group) (index : List EntryData) (i : ℕ) (e old : EntryData) → IsPlace (at_group g) index i → e.group ≡ old.group → old ≡ get_or index i old → IsIndex index → IsIndex (set index i e)
kept_ascends g index i e old p same is up =
    subst IsIndex (set_here g index i e p)
    (put_ascends g e index (ap group_text same ∙ text_of_found g index old (found_here g index i old p is)) up)

pub on_ok : {T E : Type 0} (P Q : Type 0) → (P → Q) → (r : Result T E) → OnOk r P → OnOk r Q
on_ok P Q f (Ok x) h = f h
on_ok P Q f (Err e) h = h

pub on_err : {T E : Type 0} (P Q : Type 0) → (P → Q) → (r : Result T E) → OnErr r P → OnErr r Q
on_err P Q f (Ok x) h = h
on_err P Q f (Err e) h = f h

-- what holds of the new index and of the old one holds of the one that is left
pub either_way : {T E : Type 0} (P : List EntryData → Type 0) (old new left : List EntryData) → P old → P new → (r : Result T E) → OnOk r (left ≡ new) → OnErr r (left ≡ old) → P left
either_way P old new left p q (Ok x) ok err = subst P (sym ok) q
either_way P old new left p q (Err e) ok err = subst P (sym err) p

some_is : (e f : EntryData) → Some e ≡ Some f → e ≡ f
some_is e f h = cc

-- one entry stands at a place
pub same_here : (g : Group) (index : List EntryData) (i : ℕ) (e f : EntryData) → IsPlace (at_group g) index i → e ≡ get_or index i e → f ≡ get_or index i f → e ≡ f
same_here g index i e f p is at = some_is e f (sym (found_here g index i e p is) ∙ found_here g index i f p at)
