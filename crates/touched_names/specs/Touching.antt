-- Which names a change of a cluster touches (this project's own).
use Rattle.std.specs.Prelude.{◌≡◌, ℕ, List, [], ◌∷◌, ◌++◌, Bool, false, ◌&&◌, cond, filter, map}
use Rattle.std.specs.List.{AllByRecursion, flat_map, list_any}
use Rattle.std.specs.Option.{option_map_or}
use Rattle.cl_types.specs.Ascending.{found, put, without}
use Rattle.cl_types.specs.PolicyName.{PolicyName}
use Rattle.label_select.specs.Group.{Group, IsGroup}
use Rattle.cluster_types.specs.Choice.{egress_counts}
use Rattle.cluster_types.specs.Cluster.{ClusterData, HasNodesAlone, IsCluster}
use Rattle.cluster_types.specs.Egress.{EgressData}
use Rattle.cluster_types.specs.Groups.{in_group}
use Rattle.cluster_types.specs.Policy.{PolicyData}
use Rattle.cluster_types.specs.Whole.{IsWholeEgress, IsWholePolicy}
use Rattle.watch_streams.specs.declared.message.StreamName.{StreamName}
use Rattle.watch_streams.specs.declared.message.StreamName.TheVariants as name
use Rattle.watch_streams.specs.Projection.{group_members, is_on, members_on, policy_groups}
use Rattle.touched_names.specs.Elsewhere.{SameElsewhere}
use Rattle.touched_names.specs.Standing.{IsName, at_egress, at_policy, has_group}

-- ---- the names that objects bring

-- the groups to which the policy applies, and those of its peers
abbrev pub groups_named : PolicyData → List Group
groups_named p = p.applied ++ policy_groups p

abbrev pub group_names : List Group → List StreamName
group_names groups = map (λ g. name.Group g) groups

-- the policy's own name, and those of the groups that it names
abbrev pub policy_names : PolicyData → List StreamName
policy_names p = name.Policy p.key ∷ group_names (groups_named p)

-- the Egress's own name, and that of the group to which it applies
abbrev pub egress_names : EgressData → List StreamName
egress_names e = name.Egress e.name ∷ name.Group e.applied ∷ []

-- ---- groups that move

-- some pod of the group is on the node
abbrev pub has_pod_on : ClusterData → List ℕ → Group → Bool
has_pod_on c node g = list_any (λ p. is_on node p && in_group c g p) c.pods

-- the group has the same members, in all and on each node
pub record SameMembers (c d : ClusterData) (g : Group) : Type 0 where
  pub members : group_members c g ≡ group_members d g
  pub members_on : (node : List ℕ) → members_on c node g ≡ members_on d node g

-- the group has pods on the same nodes
abbrev pub SameSpan : ClusterData → ClusterData → Group → Type 0
SameSpan c d g = (node : List ℕ) → has_pod_on c node g ≡ has_pod_on d node g

-- counting pods have addresses
abbrev pub MembersTellSpans : Type 0
MembersTellSpans = (c d : ClusterData) (g : Group) → SameMembers c d g → SameSpan c d g

-- a group that hasn't moved has the same members, and one that hasn't spread has pods on the same nodes
pub record Stays (moved spread : List Group) (c d : ClusterData) (g : Group) : Type 0 where
  pub members : has_group moved g ≡ false → SameMembers c d g
  pub span : has_group spread g ≡ false → SameSpan c d g

-- the group to which an Egress applies, where the Egress counts
abbrev pub counting_group : ClusterData → EgressData → List Group
counting_group c e = cond (egress_counts c e) (e.applied ∷ []) []

-- the groups that policies and counting Egresses name
abbrev pub named_groups : ClusterData → List Group
named_groups c = flat_map groups_named c.policies ++ flat_map (counting_group c) c.egresses

-- of the groups that are named only these have moved, and only those have spread
abbrev pub OthersStay : List Group → List Group → ClusterData → ClusterData → Type 0
OthersStay moved spread c d = AllByRecursion (Stays moved spread c d) (named_groups c)

-- policies, Egresses and nodes are the same
pub record SameRules (c d : ClusterData) : Type 0 where
  pub policies : d.policies ≡ c.policies
  pub egresses : d.egresses ≡ c.egresses
  pub nodes : d.nodes ≡ c.nodes

-- the policy applies to one of the groups
abbrev pub applies_to_some : List Group → PolicyData → Bool
applies_to_some groups p = list_any (has_group groups) p.applied

abbrev pub egress_applies_to_some : List Group → EgressData → Bool
egress_applies_to_some groups e = has_group groups e.applied

-- the names of the groups that have moved, and what policies and Egresses bring that apply to a group that has spread
abbrev pub moved_names : List Group → List Group → ClusterData → List StreamName
moved_names moved spread c =
    group_names moved
    ++ (flat_map policy_names (filter (applies_to_some spread) c.policies) ++ flat_map egress_names (filter (egress_applies_to_some spread) c.egresses))

-- pods and namespaces that change touch no other names
abbrev pub MovedGroupsTouch : Type 0
MovedGroupsTouch =
    (moved spread : List Group) (c d : ClusterData) → SameRules c d → OthersStay moved spread c d → SameElsewhere (moved_names moved spread c) c d

-- ---- policies and Egresses that change

-- nodes, namespaces and pods are the same
pub record SameGround (c d : ClusterData) : Type 0 where
  pub nodes : d.nodes ≡ c.nodes
  pub namespaces : d.namespaces ≡ c.namespaces
  pub pods : d.pods ≡ c.pods

-- of what streams tell only policies differ
pub record DifferInPolicies (c d : ClusterData) : Type 0 where
  pub ground : SameGround c d
  pub egresses : d.egresses ≡ c.egresses

-- of what streams tell only Egresses differ
pub record DifferInEgresses (c d : ClusterData) : Type 0 where
  pub ground : SameGround c d
  pub policies : d.policies ≡ c.policies

-- the names that the policy at a key brings, where there is one
abbrev pub names_at_policy : ClusterData → PolicyName → List StreamName
names_at_policy c key = option_map_or policy_names (found (at_policy key) c.policies) []

abbrev pub names_at_egress : ClusterData → List ℕ → List StreamName
names_at_egress c text = option_map_or egress_names (found (at_egress text) c.egresses) []

-- a policy that is put touches what it brings, and what the one brought whose place it takes
abbrev pub PutPoliciesTouch : Type 0
PutPoliciesTouch =
    (c d : ClusterData) (p : PolicyData) → DifferInPolicies c d → d.policies ≡ put (at_policy p.key) p c.policies →
    SameElsewhere (policy_names p ++ names_at_policy c p.key) c d

-- a policy that is removed touches what it brought
abbrev pub RemovedPoliciesTouch : Type 0
RemovedPoliciesTouch =
    (c d : ClusterData) (key : PolicyName) → IsCluster c → DifferInPolicies c d → d.policies ≡ without (at_policy key) c.policies →
    SameElsewhere (names_at_policy c key) c d

abbrev pub PutEgressesTouch : Type 0
PutEgressesTouch =
    (c d : ClusterData) (e : EgressData) → DifferInEgresses c d → d.egresses ≡ put (at_egress e.name) e c.egresses →
    SameElsewhere (egress_names e ++ names_at_egress c e.name) c d

abbrev pub RemovedEgressesTouch : Type 0
RemovedEgressesTouch =
    (c d : ClusterData) (text : List ℕ) → IsCluster c → DifferInEgresses c d → d.egresses ≡ without (at_egress text) c.egresses →
    SameElsewhere (names_at_egress c text) c d

-- what no stream tells touches no name
abbrev pub NothingElseTouches : Type 0
NothingElseTouches = (c d : ClusterData) → DifferInPolicies c d → d.policies ≡ c.policies → SameElsewhere [] c d

-- nor do nodes while nothing else is there
abbrev pub NodesAloneTouchNothing : Type 0
NodesAloneTouchNothing = (c d : ClusterData) → HasNodesAlone c → HasNodesAlone d → SameElsewhere [] c d

-- ---- the forms of names

-- the names that are touched have what their types keep
abbrev pub PolicyNamesAreNames : Type 0
PolicyNamesAreNames = (p : PolicyData) → IsWholePolicy p → AllByRecursion IsName (policy_names p)

abbrev pub EgressNamesAreNames : Type 0
EgressNamesAreNames = (e : EgressData) → IsWholeEgress e → AllByRecursion IsName (egress_names e)

abbrev pub NamesAtPoliciesAreNames : Type 0
NamesAtPoliciesAreNames = (c : ClusterData) (key : PolicyName) → IsCluster c → AllByRecursion IsName (names_at_policy c key)

abbrev pub NamesAtEgressesAreNames : Type 0
NamesAtEgressesAreNames = (c : ClusterData) (text : List ℕ) → IsCluster c → AllByRecursion IsName (names_at_egress c text)

abbrev pub MovedNamesAreNames : Type 0
MovedNamesAreNames = (moved spread : List Group) (c : ClusterData) → IsCluster c → AllByRecursion IsGroup moved → AllByRecursion IsName (moved_names moved spread c)
