-- The changes from one map to another lead from the one to the other.
use Rattle.std.proofs.Common.{◌≡◌, ℕ, List, [], ◌∷◌, ◌++◌, Bool, true, false, Option, Some, None, if◌then◌else◌, refl, sym, ap, ◌∙◌, subst}
use Rattle.std.specs.declared.cmp.Ordering.TheVariants.{Equal}
use Rattle.std.specs.Ordering.{is_eq}
use Rattle.std.proofs.lemmas.Cmp.{nat_list_cmp_total}
use Rattle.cl_types.specs.declared.addr.Addr.{Addr}
use Rattle.cl_types.specs.declared.stream.Stream.{Stream}
use Rattle.cl_types.specs.Addr.{addr_order}
use Rattle.cl_types.specs.Ascending.{Ascends, found}
use Rattle.cl_types.specs.Equality.{is_same}
use Rattle.cl_types.specs.EqualityLaws.{is_same-one}
use Rattle.label_select.specs.Group.{Group, IsGroup}
use Rattle.label_select.specs.Written.{group_text}
use Rattle.watch_streams.specs.declared.message.StreamChange.{StreamChange}
use Rattle.watch_streams.specs.declared.message.StreamChange.TheVariants as change
use Rattle.watch_streams.specs.declared.message.StreamObject.{StreamObject}
use Rattle.watch_streams.specs.declared.message.StreamObject.TheVariants as object
use Rattle.watch_streams.specs.declared.net.NetEgress as egress
use Rattle.watch_streams.specs.declared.net.NetPolicy as policy
use Rattle.watch_streams.specs.Difference.{belongs, settled, members_without, patched, patch, unless_same, replaced, changed, difference, after_changes}
use Rattle.watch_streams.specs.Laws.{HasAscendingMembers, HasGroupForm, IsMap, DifferencesLeadToTheNewMap}
use Rattle.cl_types.specs.Text.{text_order}
use Rattle.watch_streams.specs.Names.{name_of, object_text, at_text, by_name}
use Rattle.watch_streams.specs.Net.{MemberData, member_order}
use Rattle.cl_types.specs.AscendingLaws.{found_holds, found_at}
use Rattle.cl_types.specs.AscendingLaws.{equal_maps}
use Rattle.watch_streams.specs.MapLaws.{first_at, ascends_by_name, found_by_name, first_is_found}
use Rattle.watch_streams.specs.ChangeLaws.{IsAt, cells, ascends_changes, where_there, found_changes}
use Rattle.cl_types.specs.OrderLaws.{text_order_exact}
use Rattle.watch_streams.proofs.Members.{patched_is, unpatched_is, members_of_itself}

-- ---- names of two lists

-- where neither of two lists has a name, none has it
abbrev BothNone : Option StreamObject → Option StreamObject → Option StreamObject → Type 0
BothNone None x y = (x ≡ None) × (y ≡ None)
BothNone (Some o) x y = Unit {0}

both_none : (t : List ℕ) (xs ys : List StreamObject) → BothNone (first_at t (xs ++ ys)) (first_at t xs) (first_at t ys)
both_none t [] ys = alone (first_at t ys)
  where
    alone : (y : Option StreamObject) → BothNone y None y
    alone None = (refl, refl)
    alone (Some o) = tt
both_none t (x ∷ xs) ys = by_test (is_eq (text_order (object_text x) t)) (both_none t xs ys)
  where
    by_test : (b : Bool) → BothNone (first_at t (xs ++ ys)) (first_at t xs) (first_at t ys)
        → BothNone (if b then Some x else first_at t (xs ++ ys)) (if b then Some x else first_at t xs) (first_at t ys)
    by_test true rest = tt
    by_test false rest = rest

-- ---- the change under one name

abbrev pub HasText : List ℕ → Option StreamObject → Type 0
HasText u None = Unit {0}
HasText u (Some o) = object_text o ≡ u

pub found_text : (u : List ℕ) (os : List StreamObject) (x : Option StreamObject) → found (at_text u) os ≡ x → HasText u x
found_text u os None e = tt
found_text u os (Some o) e = text_order_exact (object_text o) u (found_at (at_text u) os o e)

patch_at : (u : List ℕ) (group : Group) → group_text group ≡ u → (added removed : List MemberData) → IsAt u (patch group added removed)
patch_at u group e [] [] = tt
patch_at u group e [] (m ∷ ms) = e
patch_at u group e (m ∷ ms) removed = e

unless_at : (u : List ℕ) (b : Bool) (o : StreamObject) → object_text o ≡ u → IsAt u (unless_same b o)
unless_at u true o e = tt
unless_at u false o e = e

replaced_at : (u : List ℕ) (old new : StreamObject) → object_text old ≡ u → object_text new ≡ u → IsAt u (replaced old new)
replaced_at u (object.Policy p) (object.Policy q) d e = unless_at u (is_same policy.the_code p q) (object.Policy q) e
replaced_at u (object.Policy p) (object.Egress q) d e = e
replaced_at u (object.Policy p) (object.Group q members) d e = e
replaced_at u (object.Egress p) (object.Policy q) d e = e
replaced_at u (object.Egress p) (object.Egress q) d e = unless_at u (is_same egress.the_code p q) (object.Egress q) e
replaced_at u (object.Egress p) (object.Group q members) d e = e
replaced_at u (object.Group p old) (object.Policy q) d e = e
replaced_at u (object.Group p old) (object.Egress q) d e = e
replaced_at u (object.Group p old) (object.Group q new) d e = patch_at u p d (members_without new old) (members_without old new)

pub changed_at : (u : List ℕ) (x y : Option StreamObject) → HasText u x → HasText u y → IsAt u (changed x y)
changed_at u None None d e = tt
changed_at u None (Some new) d e = e
changed_at u (Some old) None d e = d
changed_at u (Some old) (Some new) d e = replaced_at u old new d e

-- ---- what stands under one name

abbrev Fits : Stream → Option StreamObject → Type 0
Fits s None = Unit {0}
Fits s (Some o) = (belongs s o ≡ true) × HasAscendingMembers o × HasGroupForm o

pub settled_same : (o : StreamObject) → HasAscendingMembers o → settled o ≡ o
settled_same (object.Policy p) up = refl
settled_same (object.Egress e) up = refl
settled_same (object.Group group members) up = ap (object.Group group) (members_of_itself members up)

put_fits : (s : Stream) (o : StreamObject) (x : Option StreamObject) → belongs s o ≡ true → HasAscendingMembers o → cells s (change.Put o ∷ []) x ≡ Some o
put_fits s o x b up = ap (λ z. if belongs s z then Some z else x) (settled_same o up) ∙ ap (λ z. if z then Some o else x) b

removed_fits : (s : Stream) (o : StreamObject) → belongs s o ≡ true → cells s (change.Remove (name_of o) ∷ []) (Some o) ≡ None
removed_fits s o b = rw b refl

unless_cell : (s : Stream) (b : Bool) (old new : StreamObject) → belongs s new ≡ true → HasAscendingMembers new → (b ≡ true → old ≡ new) → cells s (unless_same b new) (Some old) ≡ Some new
unless_cell s true old new here up same = ap Some (same refl)
unless_cell s false old new here up same = put_fits s new (Some old) here up

module _ (differ : (a b : Group) → IsGroup a → IsGroup b → group_text a ≡ group_text b → a ≡ b) (addr_exact : (a b : Addr) → addr_order a b ≡ Equal → a ≡ b) where
  patch_cell : (s : Stream) (p : Group) (old new : List MemberData) → belongs s (object.Group p new) ≡ true
      → Ascends (λ m. m) member_order old → Ascends (λ m. m) member_order new → (added removed : List MemberData)
      → members_without new old ≡ added → members_without old new ≡ removed
      → cells s (patch p added removed) (Some (object.Group p old)) ≡ Some (object.Group p new)
  patch_cell s p old new here up vp added removed a r = by_parts added removed a r
    where
      to : List MemberData → Option StreamObject
      to members = Some (object.Group p members)

      done : (added removed : List MemberData) → members_without new old ≡ added → members_without old new ≡ removed → patched old added removed ≡ new
      done added removed a r =
          ap (λ z. patched old z removed) (sym a) ∙ (ap (λ z. patched old (members_without new old) z) (sym r) ∙ patched_is addr_exact old new vp)

      put_patched : (added removed : List MemberData) → patched old added removed ≡ new
          → cells s (change.Patch p added removed ∷ []) (to old) ≡ to new
      put_patched added removed e =
          ap (λ z. if belongs s (object.Group p z) then to z else to old) e ∙ ap (λ b. if b then to new else to old) here

      by_parts : (added removed : List MemberData) → members_without new old ≡ added → members_without old new ≡ removed
          → cells s (patch p added removed) (to old) ≡ to new
      by_parts [] [] a r = ap to (unpatched_is addr_exact old new up vp a r)
      by_parts [] (m ∷ ms) a r = put_patched [] (m ∷ ms) (done [] (m ∷ ms) a r)
      by_parts (m ∷ ms) removed a r = put_patched (m ∷ ms) removed (done (m ∷ ms) removed a r)

  replaced_cell : (s : Stream) (old new : StreamObject) → object_text old ≡ object_text new → Fits s (Some old) → Fits s (Some new) → cells s (replaced old new) (Some old) ≡ Some new
  replaced_cell s (object.Policy p) (object.Policy q) e f g =
      unless_cell s (is_same policy.the_code p q) (object.Policy p) (object.Policy q) g.0 g.1 (λ same. ap (λ z. object.Policy z) (is_same-one policy.the_code p q same))
  replaced_cell s (object.Policy p) (object.Egress q) e f g = put_fits s (object.Egress q) (Some (object.Policy p)) g.0 g.1
  replaced_cell s (object.Policy p) (object.Group q members) e f g = put_fits s (object.Group q members) (Some (object.Policy p)) g.0 g.1
  replaced_cell s (object.Egress p) (object.Policy q) e f g = put_fits s (object.Policy q) (Some (object.Egress p)) g.0 g.1
  replaced_cell s (object.Egress p) (object.Egress q) e f g =
      unless_cell s (is_same egress.the_code p q) (object.Egress p) (object.Egress q) g.0 g.1 (λ same. ap (λ z. object.Egress z) (is_same-one egress.the_code p q same))
  replaced_cell s (object.Egress p) (object.Group q members) e f g = put_fits s (object.Group q members) (Some (object.Egress p)) g.0 g.1
  replaced_cell s (object.Group p old) (object.Policy q) e f g = put_fits s (object.Policy q) (Some (object.Group p old)) g.0 g.1
  replaced_cell s (object.Group p old) (object.Egress q) e f g = put_fits s (object.Egress q) (Some (object.Group p old)) g.0 g.1
  replaced_cell s (object.Group p old) (object.Group q new) e f g =
      let one : p ≡ q = differ p q f.2 g.2 e in
      patch_cell s p old new (subst (λ (z : Group). belongs s (object.Group z new) ≡ true) (sym one) g.0) f.1 g.1 (members_without new old) (members_without old new) refl refl
      ∙ ap (λ z. Some (object.Group z new)) one

  changed_cell : (s : Stream) (u : List ℕ) (x y : Option StreamObject) → HasText u x → HasText u y → Fits s x → Fits s y → cells s (changed x y) x ≡ y
  changed_cell s u None None d e f g = refl
  changed_cell s u None (Some new) d e f g = put_fits s new None g.0 g.1
  changed_cell s u (Some old) None d e f g = removed_fits s old f.0
  changed_cell s u (Some old) (Some new) d e f g = replaced_cell s old new (d ∙ sym e) f g

  fits : (s : Stream) (t : List ℕ) (os : List StreamObject) → IsMap s os → (x : Option StreamObject) → found (at_text t) os ≡ x → Fits s x
  fits s t os m None e = tt
  fits s t os m (Some o) e = (
    found_holds (at_text t) (λ o. belongs s o ≡ true) os o m.belong e,
    found_holds (at_text t) HasAscendingMembers os o m.members e,
    found_holds (at_text t) HasGroupForm os o m.groups e,
  )

  pub differences_lead : DifferencesLeadToTheNewMap
  differences_lead s old new was is =
      equal_maps object_text nat_list_cmp_total (after_changes s (difference old new) old) new (ascends_changes s (difference old new) old was.ascends) is.ascends cell_is
    where
      at_name : List ℕ → List StreamChange
      at_name t = changed (found (at_text t) old) (found (at_text t) new)

      each : (t : List ℕ) → IsAt t (at_name t)
      each t = changed_at t (found (at_text t) old) (found (at_text t) new) (found_text t old (found (at_text t) old) refl) (found_text t new (found (at_text t) new) refl)

      here : (t : List ℕ) → cells s (at_name t) (found (at_text t) old) ≡ found (at_text t) new
      here t =
          changed_cell s t (found (at_text t) old) (found (at_text t) new) (found_text t old (found (at_text t) old) refl) (found_text t new (found (at_text t) new) refl)
          (fits s t old was (found (at_text t) old) refl) (fits s t new is (found (at_text t) new) refl)

      no_change : (t : List ℕ) (x : Option StreamObject) → BothNone x (first_at t old) (first_at t new) → where_there x (found (at_text t) new) (found (at_text t) old) ≡ found (at_text t) new
      no_change t None both = sym (first_is_found t old was.ascends) ∙ (both.0 ∙ (sym both.1 ∙ first_is_found t new is.ascends))
      no_change t (Some o) both = refl

      cell_is : (t : List ℕ) → found (at_text t) (after_changes s (difference old new) old) ≡ found (at_text t) new
      cell_is t =
          found_changes s at_name each (by_name (old ++ new)) old (ascends_by_name (old ++ new)) was.ascends t
          ∙ (ap (λ z. where_there (found (at_text t) (by_name (old ++ new))) z (found (at_text t) old)) (here t)
          ∙ (ap (λ z. where_there z (found (at_text t) new) (found (at_text t) old)) (found_by_name t (old ++ new))
          ∙ no_change t (first_at t (old ++ new)) (both_none t old new)))
