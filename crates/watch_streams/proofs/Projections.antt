-- What belongs on a stream is a map of it, and a map taken as a snapshot is that map.
use Rattle.std.proofs.Common.{ℕ, ◌≡◌, List, [], ◌∷◌, ◌++◌, true, ◌&&◌, filter, map, refl, ap, ◌∙◌}
use Rattle.cluster_types.specs.Cluster.{ClusterData, IsCluster}
use Rattle.std.specs.List.{AllByRecursion, flat_map}
use Rattle.cl_types.specs.declared.stream.Stream.{Stream}
use Rattle.cl_types.specs.declared.stream.Stream.TheVariants.{Policies, Addresses, Applied}
use Rattle.cl_types.specs.Ascending.{Ascends}
use Rattle.label_select.specs.Group.{Group, IsGroup}
use Rattle.cluster_types.specs.Egress.{EgressData}
use Rattle.cluster_types.specs.Groups.{in_group}
use Rattle.cluster_types.specs.Pod.{PodData}
use Rattle.cluster_types.specs.Policy.{PolicyData}
use Rattle.watch_streams.specs.declared.message.StreamObject.{StreamObject}
use Rattle.watch_streams.specs.declared.message.StreamObject.TheVariants as object
use Rattle.watch_streams.specs.Difference.{belongs, settled}
use Rattle.cluster_types.specs.Whole.{IsWholePolicy}
use Rattle.watch_streams.specs.Laws.{HasAscendingMembers, HasGroupForm, IsMap, SnapshotsAreTheMap, ProjectionsAreMaps}
use Rattle.watch_streams.specs.Names.{by_name}
use Rattle.watch_streams.specs.Net.{MemberData, member_order}
use Rattle.watch_streams.specs.Projection.{egress_is_on, egresses_on, group_members, group_object, members_on, net_egress, net_policy, on_addresses, on_applied, on_policies, policies_on, policy_groups, policy_is_on, pod_members, is_on}
use Rattle.watch_streams.proofs.GroupForms.{policy_forms}
use Rattle.watch_streams.specs.MapLaws.{all_by_name, ascends_by_name, map_of_itself}
use Rattle.watch_streams.proofs.Differences.{settled_same}
use Rattle.watch_streams.specs.MemberOrder.{ascends_members}
use Rattle.watch_streams.specs.OneOfAll.{all_of, all_append, all_flat_map, all_map}
use Rattle.cl_types.specs.ListLaws.{filter_all, all_filter, all_weaker}

-- ---- snapshots

all_settled : (os : List StreamObject) → AllByRecursion HasAscendingMembers os → map settled os ≡ os
all_settled [] up = refl
all_settled (o ∷ os) up = ap (λ p. p ∷ map settled os) (settled_same o up.0) ∙ ap (λ ps. o ∷ ps) (all_settled os up.1)

pub snapshots_are : SnapshotsAreTheMap
snapshots_are s objects m =
    ap (λ os. by_name (map settled os)) (filter_all (belongs s) objects m.belong) ∙ ap by_name (all_settled objects m.members) ∙ map_of_itself objects m.ascends

-- ---- the streams

-- what is asked of an object but for its place
abbrev IsPart : Stream → StreamObject → Type 0
IsPart s o = (belongs s o ≡ true) × HasAscendingMembers o × HasGroupForm o

group_parts : (s : Stream) → ((g : Group) (ms : List MemberData) → belongs s (object.Group g ms) ≡ true) → (members : Group → List MemberData)
    → ((g : Group) → Ascends (λ m. m) member_order (members g)) → (gs : List Group) → AllByRecursion IsGroup gs → AllByRecursion (IsPart s) (map (group_object members) gs)
group_parts s here members up gs h =
    all_map (IsPart s) (group_object members) gs (all_weaker IsGroup (λ g. IsPart s (group_object members g)) (λ g w. (here g (members g), up g, w)) gs h)

is_map : (s : Stream) (os : List StreamObject) → AllByRecursion (IsPart s) os → IsMap s (by_name os)
is_map s os h = record {
  ascends = ascends_by_name os;
  belong = all_by_name (λ o. belongs s o ≡ true) os (all_weaker (IsPart s) (λ o. belongs s o ≡ true) (λ o p. p.0) os h);
  members = all_by_name HasAscendingMembers os (all_weaker (IsPart s) HasAscendingMembers (λ o p. p.1) os h);
  groups = all_by_name HasGroupForm os (all_weaker (IsPart s) HasGroupForm (λ o p. p.2) os h);
}

policies_are_parts : (ps : List PolicyData) → AllByRecursion (IsPart Policies) (map (λ p. object.Policy (net_policy p)) ps)
policies_are_parts ps = all_map (IsPart Policies) (λ p. object.Policy (net_policy p)) ps (all_of (λ p. IsPart Policies (object.Policy (net_policy p))) (λ p. (refl, tt, tt)) ps)

egresses_are_parts : (es : List EgressData) → AllByRecursion (IsPart Policies) (map (λ e. object.Egress (net_egress e)) es)
egresses_are_parts es = all_map (IsPart Policies) (λ e. object.Egress (net_egress e)) es (all_of (λ e. IsPart Policies (object.Egress (net_egress e))) (λ e. (refl, tt, tt)) es)

whole_policies_on : (c : ClusterData) (node : List ℕ) → IsCluster c → AllByRecursion IsWholePolicy (policies_on c node)
whole_policies_on c node h = all_filter IsWholePolicy (policy_is_on c node) c.policies h.parts.policies

-- all groups that these policies name
groups_of_all : (f : PolicyData → List Group) → ((p : PolicyData) → IsWholePolicy p → AllByRecursion IsGroup (f p)) → (ps : List PolicyData) → AllByRecursion IsWholePolicy ps
    → AllByRecursion IsGroup (flat_map f ps)
groups_of_all f forms ps whole = all_flat_map IsGroup f ps (all_weaker IsWholePolicy (λ p. AllByRecursion IsGroup (f p)) forms ps whole)

pub projections_are : ProjectionsAreMaps
projections_are c Policies node h =
    is_map Policies (on_policies c node)
    (all_append (IsPart Policies) (map (λ p. object.Policy (net_policy p)) (policies_on c node)) (map (λ e. object.Egress (net_egress e)) (egresses_on c node))
    (policies_are_parts (policies_on c node)) (egresses_are_parts (egresses_on c node)))
projections_are c Addresses node h =
    is_map Addresses (on_addresses c node)
    (group_parts Addresses (λ g ms. refl) (group_members c) (λ g. ascends_members (flat_map pod_members (filter (in_group c g) c.pods))) (flat_map policy_groups (policies_on c node))
    (groups_of_all policy_groups policy_forms (policies_on c node) (whole_policies_on c node h)))
projections_are c Applied node h =
    is_map Applied (on_applied c node)
    (group_parts Applied (λ g ms. refl) (members_on c node) (λ g. ascends_members (flat_map pod_members (filter (λ (p : PodData). is_on node p && in_group c g p) c.pods)))
    (flat_map (λ (p : PolicyData). p.applied) (policies_on c node) ++ map (λ (e : EgressData). e.applied) (egresses_on c node))
    (all_append IsGroup (flat_map (λ (p : PolicyData). p.applied) (policies_on c node)) (map (λ (e : EgressData). e.applied) (egresses_on c node))
    (groups_of_all (λ (p : PolicyData). p.applied) (λ p w. w.applied) (policies_on c node) (whole_policies_on c node h))
    (all_map IsGroup (λ (e : EgressData). e.applied) (egresses_on c node) (all_filter (λ (e : EgressData). IsGroup e.applied) (egress_is_on c node) c.egresses h.parts.egresses))))
