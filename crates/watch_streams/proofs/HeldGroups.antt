-- The groups and members that an agent holds: each under its own text, in an order that changes nothing of what one passes.
use Rattle.std.proofs.Common.{◌≡◌, List, [], ◌∷◌, map, filter, flat_map, Bool, true, ◌&&◌, ◌||◌, Some, is_some, if◌then◌else◌, refl, ap, ◌∙◌}
use Rattle.std.specs.List.{AllByRecursion, list_any}
use Rattle.std.specs.declared.cmp.Ordering.{Ordering}
use Rattle.std.specs.declared.cmp.Ordering.TheVariants.{Less, Equal, Greater}
use Rattle.std.specs.Ordering.{is_eq}
use Rattle.std.proofs.lemmas.Cmp.{nat_list_cmp_total, tied_itself}
use Rattle.cl_types.specs.declared.addr.Addr.{Addr}
use Rattle.cl_types.specs.Addr.{addr_order}
use Rattle.cl_types.specs.Ascending.{found, put}
use Rattle.cl_types.specs.AscendingLaws.{all_sorted, found_put}
use Rattle.label_select.specs.Group.{Group, IsGroup}
use Rattle.label_select.specs.Written.{group_text}
use Rattle.cluster_types.specs.Pod.{PodData}
use Rattle.watch_streams.specs.declared.message.StreamObject.{StreamObject}
use Rattle.watch_streams.specs.HeldEvaluation.{held_group, group_in, some_member, held_member, is_held}
use Rattle.cl_types.specs.Text.{text_order}
use Rattle.watch_streams.specs.Names.{object_text, at_text, by_name}
use Rattle.watch_streams.specs.Net.{MemberData, ascending_members}
use Rattle.watch_streams.specs.Projection.{group_object, groups_by_text, pod_members}
use Rattle.watch_streams.proofs.Members.{list_any-ascending}
use Rattle.cl_types.specs.OrderLaws.{text_order_exact}
use Rattle.cl_types.specs.ListLaws.{all_weaker}
use Rattle.watch_streams.specs.OneOfAll.{all_of_both, list_any-each, list_any-filter, list_any-map, list_any-flat_map}
use Rattle.cl_types.specs.AscendingLaws.{list_any-put}

-- ---- the texts of groups

-- no two groups have one text
abbrev pub GroupTextsDiffer : Type 0
GroupTextsDiffer = (a b : Group) → IsGroup a → IsGroup b → group_text a ≡ group_text b → a ≡ b

pub all_groups_by_text : (P : Group → Type 0) (gs : List Group) → AllByRecursion P gs → AllByRecursion P (groups_by_text gs)
all_groups_by_text = all_sorted group_text text_order

-- the group is held, with the members that f gives it
abbrev pub HeldAs : (Group → List MemberData) → List StreamObject → Group → Type 0
HeldAs f held g = held_group held g ≡ Some (f g)

pub held_is_held : (f : Group → List MemberData) (held : List StreamObject) (g : Group) → HeldAs f held g → is_held held g ≡ true
held_is_held f held g e = ap is_some e

pub held_member_is : (f : Group → List MemberData) (held : List StreamObject) (p : MemberData → Bool) (g : Group) → HeldAs f held g → held_member p held g ≡ list_any p (f g)
held_member_is f held p g e = ap (some_member p) e

module _ (differ : GroupTextsDiffer) where
  -- groups in the order of their texts pass what they pass in any order
  pub list_any-groups_by_text : (p : Group → Bool) (gs : List Group) → AllByRecursion IsGroup gs → list_any p (groups_by_text gs) ≡ list_any p gs
  list_any-groups_by_text p [] all = refl
  list_any-groups_by_text p (g ∷ gs) all =
      list_any-put at p g (groups_by_text gs) (all_weaker IsGroup (λ h. at h ≡ Equal → p h ≡ p g) one (groups_by_text gs) (all_groups_by_text IsGroup gs all.1))
      ∙ ap (λ b. p g || b) (list_any-groups_by_text p gs all.1)
    where
      at : Group → Ordering
      at h = text_order (group_text h) (group_text g)

      one : (h : Group) → IsGroup h → at h ≡ Equal → p h ≡ p g
      one h is e = ap p (differ h g is all.0 (text_order_exact (group_text h) (group_text g) e))

  module _ (f : Group → List MemberData) where
    held-put : (held : List StreamObject) (g h : Group) → IsGroup g → IsGroup h → HeldAs f held h → HeldAs f (put (at_text (group_text g)) (group_object f g) held) h
    held-put held g h is_g is_h before =
        ap group_in (found_put object_text nat_list_cmp_total (group_text h) (group_object f g) held) ∙ by_order (text_order (group_text g) (group_text h)) refl
      where
        by_order : (r : Ordering) → text_order (group_text g) (group_text h) ≡ r → group_in (if is_eq r then Some (group_object f g) else found (at_text (group_text h)) held) ≡ Some (f h)
        by_order Less is = before
        by_order Equal is = ap (λ z. Some (f z)) (differ g h is_g is_h (text_order_exact (group_text g) (group_text h) is))
        by_order Greater is = before

    -- each of some groups is held once all are
    pub held_all : (gs : List Group) → AllByRecursion IsGroup gs → AllByRecursion (HeldAs f (by_name (map (group_object f) gs))) gs
    held_all [] all = tt
    held_all (g ∷ gs) all = (here, all_of_both IsGroup (HeldAs f held) (HeldAs f (by_name (map (group_object f) (g ∷ gs)))) (λ h is. held-put held g h all.0 is) gs all.1 (held_all gs all.1))
      where
        held : List StreamObject
        held = by_name (map (group_object f) gs)

        here : HeldAs f (by_name (map (group_object f) (g ∷ gs))) g
        here =
            ap group_in (found_put object_text nat_list_cmp_total (group_text g) (group_object f g) held)
            ∙ ap (λ r. group_in (if is_eq r then Some (group_object f g) else found (at_text (group_text g)) held)) (tied_itself nat_list_cmp_total (group_text g))

-- ---- members

module _ (exact : (a b : Addr) → addr_order a b ≡ Equal → a ≡ b) where
  -- some member passes where a pod that is selected has an address with which it does
  pub list_any-members : (p : MemberData → Bool) (k : PodData → Bool) (pods : List PodData)
      → list_any p (ascending_members (flat_map pod_members (filter k pods))) ≡ list_any (λ pod. k pod && list_any (λ a. p (record { address = a; ports = pod.ports })) pod.addresses) pods
  list_any-members p k pods =
      list_any-ascending exact p (flat_map pod_members (filter k pods))
      ∙ list_any-flat_map p pod_members (filter k pods)
      ∙ list_any-filter (λ pod. list_any p (pod_members pod)) k pods
      ∙ list_any-each _ _ (λ pod. ap (λ b. k pod && b) (list_any-map p (λ a. record { address = a; ports = pod.ports }) pod.addresses)) pods
