-- What stands on a stream of a node under one name, read from a cluster and an index of groups (this project's own).
use Rattle.std.specs.Prelude.{ℕ, List, Bool, ◌&&◌, ◌||◌, Option, None, option_map}
use Rattle.std.specs.List.{list_any}
use Rattle.cl_types.specs.declared.stream.Stream.{Stream}
use Rattle.cl_types.specs.declared.stream.Stream.TheVariants.{Policies, Addresses, Applied}
use Rattle.cl_types.specs.Ascending.{found}
use Rattle.cl_types.specs.AscendingLaws.{passed}
use Rattle.cl_types.specs.PolicyName.{PolicyName}
use Rattle.label_select.specs.Group.{Group}
use Rattle.cluster_types.specs.Cluster.{ClusterData}
use Rattle.cluster_types.specs.Egress.{EgressData}
use Rattle.cluster_types.specs.Policy.{PolicyData}
use Rattle.group_index.specs.Index.{EntryData}
use Rattle.watch_streams.specs.declared.message.StreamName.{StreamName}
use Rattle.watch_streams.specs.declared.message.StreamName.TheVariants as name
use Rattle.watch_streams.specs.declared.message.StreamObject.{StreamObject}
use Rattle.watch_streams.specs.Projection.{policy_groups}
use Rattle.touched_names.specs.Standing.{at_egress, at_policy, egress_object, group_standing, has_group, is_group, policy_object}
use Rattle.node_objects.specs.Indexed.{all_told, is_egress_on, is_policy_on, on_told}

-- the policy of the key, where there is one and it concerns the node
abbrev pub policy_under : ClusterData → List EntryData → List ℕ → PolicyName → Option StreamObject
policy_under c groups node key = option_map policy_object (passed (is_policy_on groups node) (found (at_policy key) c.policies))

-- the Egress of the name, where there is one and it concerns the node
abbrev pub egress_under : ClusterData → List EntryData → List ℕ → List ℕ → Option StreamObject
egress_under c groups node text = option_map egress_object (passed (is_egress_on c groups node) (found (at_egress text) c.egresses))

-- the policy concerns the node, and the group is one of its peers
abbrev pub has_peer_on : List EntryData → List ℕ → Group → PolicyData → Bool
has_peer_on groups node g p = has_group (policy_groups p) g && is_policy_on groups node p

-- the policy concerns the node, and applies to the group
abbrev pub applies_on : List EntryData → List ℕ → Group → PolicyData → Bool
applies_on groups node g p = has_group p.applied g && is_policy_on groups node p

-- the Egress concerns the node, and applies to the group
abbrev pub egress_applies_on : ClusterData → List EntryData → List ℕ → Group → EgressData → Bool
egress_applies_on c groups node g e = is_group g e.applied && is_egress_on c groups node e

-- a policy or an Egress that concerns the node applies to the group
abbrev pub some_applies_on : ClusterData → List EntryData → List ℕ → Group → Bool
some_applies_on c groups node g = list_any (applies_on groups node g) c.policies || list_any (egress_applies_on c groups node g) c.egresses

-- the group with all its members, where a policy that concerns the node names it as a peer
abbrev pub address_group_under : ClusterData → List EntryData → List ℕ → Group → Option StreamObject
address_group_under c groups node g = group_standing (list_any (has_peer_on groups node g) c.policies) (all_told groups) g

-- the group with its members on the node, where a policy or an Egress that concerns the node applies to it
abbrev pub applied_group_under : ClusterData → List EntryData → List ℕ → Group → Option StreamObject
applied_group_under c groups node g = group_standing (some_applies_on c groups node g) (on_told groups node) g

-- what stands on the stream under the name: policies and Egresses on the one stream, groups on the others
abbrev pub under_name : ClusterData → List EntryData → Stream → List ℕ → StreamName → Option StreamObject
under_name c groups Policies node (name.Policy key) = policy_under c groups node key
under_name c groups Policies node (name.Egress text) = egress_under c groups node text
under_name c groups Policies node (name.Group g) = None
under_name c groups Addresses node (name.Policy key) = None
under_name c groups Addresses node (name.Egress text) = None
under_name c groups Addresses node (name.Group g) = address_group_under c groups node g
under_name c groups Applied node (name.Policy key) = None
under_name c groups Applied node (name.Egress text) = None
under_name c groups Applied node (name.Group g) = applied_group_under c groups node g
