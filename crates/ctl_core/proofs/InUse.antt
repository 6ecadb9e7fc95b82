-- Groups come into use, and the index in which all that are named are in use.
use Rattle.std.proofs.Common.{◌≡◌, List, [], ◌∷◌, ◌++◌, true, false, cond, Option, Some, None, IsSome, is_some, option_map, if◌then◌else◌, refl, sym, ap, subst, ◌∙◌}
use Rattle.std.specs.List.{AllByRecursion, flat_map}
use Rattle.std.specs.declared.cmp.Ordering.{Ordering}
use Rattle.std.specs.declared.cmp.Ordering.TheVariants.{Less, Equal, Greater}
use Rattle.std.specs.Ordering.{is_eq}
use Rattle.std.proofs.lemmas.Cmp.{tied_itself}
use Rattle.cl_types.specs.Ascending.{found, put}
use Rattle.cl_types.specs.AscendingLaws.{all_put, found_at, found_holds, found_put}
use Rattle.cl_types.specs.ListLaws.{all_weaker}
use Rattle.cl_types.specs.OrderLaws.{text_order_exact}
use Rattle.cl_types.specs.Text.{text_order, text_order_total}
use Rattle.label_select.specs.Group.{Group, IsGroup}
use Rattle.label_select.specs.Written.{group_text}
use Rattle.cluster_types.specs.Choice.{egress_counts}
use Rattle.cluster_types.specs.Cluster.{ClusterData}
use Rattle.cluster_types.specs.Egress.{EgressData}
use Rattle.cluster_types.specs.Policy.{PolicyData}
use Rattle.group_index.specs.Index.{EntryData, StandsFor, at_group, entry_of, entry_text, first_use, more_use, with_use}
use Rattle.watch_streams.specs.Projection.{policy_groups}
use Rattle.touched_names.specs.Touching.{counting_group, groups_named, named_groups}
use Rattle.ctl_core.specs.Naming.{AreGroups}
use Rattle.node_objects.specs.Sides.{IsInUse, IsSide, NamesInUse}
use Rattle.node_objects.specs.SideLaws.{TextsDiffer, parts}

-- ---- one group

-- a group whose text has an entry is in use
pub is_used : TextsDiffer → (g : Group) → IsGroup g → (index : List EntryData) → AreGroups index → IsSome (entry_of index g) → IsInUse index g
is_used differ g form index groups some = by_entry (entry_of index g) refl some
  where
    by_entry : (o : Option EntryData) → entry_of index g ≡ o → IsSome o → option_map (λ (e : EntryData). e.group) o ≡ Some g
    by_entry None is there = cc
    by_entry (Some e) is there =
        ap Some (differ e.group g (found_holds (at_group g) (λ (x : EntryData). IsGroup x.group) index e groups is) form (text_order_exact (group_text e.group) (group_text g) (found_at (at_group g) index e is)))

-- ---- all that are named

each_part : {A T : Type 0} (P : T → Type 0) (f : A → List T) (xs : List A) → AllByRecursion P (flat_map f xs) → AllByRecursion (λ x. AllByRecursion P (f x)) xs
each_part P f [] all = tt
each_part P f (x ∷ xs) all = let both = parts P (f x) (flat_map f xs) all in (both.0, each_part P f xs both.1)

pub all_named : (c : ClusterData) (groups : List EntryData) → StandsFor groups c → AllByRecursion (IsInUse groups) (named_groups c) → IsSide c groups
all_named c groups stands used = record {
  stands = stands;
  policies = all_weaker (λ (p : PolicyData). AllByRecursion (IsInUse groups) (groups_named p)) (NamesInUse groups) of_policy c.policies (each_part (IsInUse groups) groups_named c.policies both.0);
  egresses = all_weaker (λ (e : EgressData). AllByRecursion (IsInUse groups) (counting_group c e)) _ of_egress c.egresses (each_part (IsInUse groups) (counting_group c) c.egresses both.1);
}
  where
    both : AllByRecursion (IsInUse groups) (flat_map groups_named c.policies) × AllByRecursion (IsInUse groups) (flat_map (counting_group c) c.egresses)
    both = parts (IsInUse groups) (flat_map groups_named c.policies) (flat_map (counting_group c) c.egresses) used

    of_policy : (p : PolicyData) → AllByRecursion (IsInUse groups) (groups_named p) → NamesInUse groups p
    of_policy p all = let named = parts (IsInUse groups) p.applied (policy_groups p) all in record { applied = named.0; peers = named.1 }

    of_egress : (e : EgressData) → AllByRecursion (IsInUse groups) (counting_group c e) → egress_counts c e ≡ true → IsInUse groups e.applied
    of_egress e all counts = let one : AllByRecursion (IsInUse groups) (e.applied ∷ []) = subst (λ b. AllByRecursion (IsInUse groups) (cond b (e.applied ∷ []) [])) counts all in one.0
