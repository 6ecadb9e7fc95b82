-- An index that counts uses has all in use that are named.
use Rattle.std.proofs.Common.{◌≡◌, ℕ, ◌+◌, ◌≤◌, List, [], ◌∷◌, ◌++◌, Bool, true, false, cond, Option, Some, None, if◌then◌else◌, ◌&&◌, refl, sym, ap, arith}
use Rattle.std.specs.List.{AllByRecursion, flat_map}
use Rattle.cl_types.specs.ListLaws.{all_weaker}
use Rattle.label_select.specs.Group.{Group, IsGroup}
use Rattle.cluster_types.specs.declared.policy.Peer.{Peer}
use Rattle.cluster_types.specs.declared.policy.Peer.TheVariants as peer
use Rattle.cluster_types.specs.declared.policy.Rule.{Rule}
use Rattle.cluster_types.specs.Choice.{egress_counts}
use Rattle.cluster_types.specs.Cluster.{ClusterData, IsCluster}
use Rattle.cluster_types.specs.Egress.{EgressData}
use Rattle.cluster_types.specs.Policy.{PolicyData}
use Rattle.cluster_types.specs.Whole.{AreWholePeers, IsWholeEgress, IsWholePeer, IsWholePolicy, IsWholeRule}
use Rattle.group_index.specs.Index.{EntryData, StandsFor}
use Rattle.watch_streams.specs.Projection.{all_pods, has_names, is_egress, peer_groups, policy_groups, rule_groups}
use Rattle.touched_names.specs.Touching.{counting_group, groups_named, named_groups}
use Rattle.ctl_core.specs.Naming.{AreGroups}
use Rattle.node_objects.specs.Sides.{IsInUse, IsSide}
use Rattle.cluster_types.specs.declared.change.Object.{Object}
use Rattle.ctl_core.specs.Following.{IsMoved}
use Rattle.ctl_core.specs.Uses.{CountsBefore, IsCounted, IsUsedLess, IsUsedMore, named_if_any, once, times, uses_of}
use Rattle.ctl_core.proofs.Counting.{in_use, once_itself}
use Rattle.node_objects.specs.SideLaws.{TextsDiffer, all_append, all_flat, policy_forms}
use Rattle.ctl_core.proofs.InUse.{all_named, is_used}

-- ---- the groups that are named have the form of groups

egress_forms : (c : ClusterData) (e : EgressData) → IsWholeEgress e → AllByRecursion IsGroup (counting_group c e)
egress_forms c e form = by_test (egress_counts c e)
  where
    by_test : (b : Bool) → AllByRecursion IsGroup (cond b (e.applied ∷ []) [])
    by_test true = (form, tt)
    by_test false = tt

named_forms : (c : ClusterData) → IsCluster c → AllByRecursion IsGroup (named_groups c)
named_forms c whole =
    all_append IsGroup (flat_map groups_named c.policies) (flat_map (counting_group c) c.egresses)
    (all_flat IsGroup groups_named c.policies (all_weaker IsWholePolicy (λ p. AllByRecursion IsGroup (groups_named p)) policy_forms c.policies whole.parts.policies))
    (all_flat IsGroup (counting_group c) c.egresses (all_weaker IsWholeEgress (λ e. AllByRecursion IsGroup (counting_group c e)) (egress_forms c) c.egresses whole.parts.egresses))

-- ---- what is named is in use

all_used : TextsDiffer → (index : List EntryData) → AreGroups index → (groups : List Group) → AllByRecursion IsGroup groups
    → ((h : Group) → times h groups ≤ uses_of index h) → AllByRecursion (IsInUse index) groups
all_used differ index forms [] each held = tt
all_used differ index forms (g ∷ groups) each held =
    (is_used differ g each.0 index forms (in_use g index one), all_used differ index forms groups each.1 (λ h. let all = held h in omega arith))
  where
    one : 1 ≤ uses_of index g
    one = let itself = once_itself g in let all = held g in omega arith

-- all groups that are named are in use where uses are counted
pub counted_used : TextsDiffer → (c : ClusterData) (index : List EntryData) → IsCluster c → IsCounted c index → AllByRecursion (IsInUse index) (named_groups c)
counted_used differ c index whole counted =
    all_used differ index counted.groups (named_groups c) (named_forms c whole) (λ h. let same = counted.uses h in omega arith)

pub counted_side : TextsDiffer → (c : ClusterData) (index : List EntryData) → IsCluster c → IsCounted c index → IsSide c index
counted_side differ c index whole counted =
    all_named c index counted.stands (counted_used differ c index whole counted)

-- nothing is named where there are no policies and no Egresses
pub nothing_counted : (c : ClusterData) (index : List EntryData) → index ≡ [] → c.policies ≡ [] → c.egresses ≡ [] → IsCounted c index
nothing_counted c index none no_policies no_egresses = record {
  stands = rw none tt;
  groups = rw none tt;
  uses = λ g. rw (none, no_policies, no_egresses) refl;
}

-- ---- an index that follows a change

module _ (c : ClusterData) (old new : Option Object) (index moved more : List EntryData) (named dropped : List Group)
    (before : CountsBefore c old new index) (moves : IsMoved c index moved) (used : IsUsedMore c named moved more) (named_are : named ≡ named_if_any c new) (dropped_are : dropped ≡ named_if_any c old) where
  uses_now : (g : Group) → uses_of more g ≡ times g (named_groups c) + times g dropped
  uses_now g =
      let counts = before g in
      let same = moves.uses g in
      let added = used.uses g in
      let names = ap (times g) named_are in
      let gone = ap (times g) dropped_are in
      omega arith

  pub held_now : (g : Group) → times g dropped ≤ uses_of more g
  held_now g = let now = uses_now g in omega arith

  pub counted_now : (less : List EntryData) → IsUsedLess dropped more less → IsCounted c less
  counted_now less lost = record {
    stands = lost.stands c used.stands;
    groups = lost.forms used.forms;
    uses = λ g. let now = uses_now g in let left = lost.uses g in omega arith;
  }
