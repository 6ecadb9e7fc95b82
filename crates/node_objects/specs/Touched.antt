-- What messages to all nodes have in common under a name that changes touch (this project's own).
use Rattle.std.specs.Prelude.{◌≡◌, ℕ, List, [], Bool, ◌||◌, Some, cond}
use Rattle.std.specs.List.{flat_map, list_any}
use Rattle.label_select.specs.Group.{Group}
use Rattle.cluster_types.specs.Cluster.{ClusterData}
use Rattle.cluster_types.specs.Policy.{PolicyData}
use Rattle.group_index.specs.Index.{EntryData, has_node}
use Rattle.watch_streams.specs.declared.message.StreamChange.{StreamChange}
use Rattle.watch_streams.specs.declared.message.StreamName.{StreamName}
use Rattle.watch_streams.specs.declared.message.StreamName.TheVariants as name
use Rattle.watch_streams.specs.declared.message.StreamObject.{StreamObject}
use Rattle.watch_streams.specs.Difference.{changed}
use Rattle.watch_streams.specs.Projection.{group_object, policy_groups}
use Rattle.touched_names.specs.Standing.{has_group}
use Rattle.node_objects.specs.declared.touched.Naming.{Naming}
use Rattle.node_objects.specs.declared.touched.TouchedName.{TouchedName}
use Rattle.node_objects.specs.Indexed.{all_told}
use Rattle.node_objects.specs.UnderName.{egress_applies_on}

-- ---- who names a group

-- the groups to which the policy applies, where the group is one of its peers
abbrev pub applied_with_peer : Group → PolicyData → List Group
applied_with_peer g p = cond (has_group (policy_groups p) g) p.applied []

-- the groups to which the policy applies, where the group is one of them
abbrev pub applied_along : Group → PolicyData → List Group
applied_along g p = cond (has_group p.applied g) p.applied []

abbrev pub who_names : List PolicyData → Group → Naming
who_names policies g = record { as_peer = flat_map (applied_with_peer g) policies; as_applied = flat_map (applied_along g) policies }

abbrev pub nobody : Naming
nobody = record { as_peer = []; as_applied = [] }

-- a member of one of the groups is on the node
abbrev pub some_on : List EntryData → List ℕ → List Group → Bool
some_on groups node applied = list_any (λ g. has_node groups g node) applied

-- a policy that applies to the group concerns the node, or an Egress does
abbrev pub applies_there : ClusterData → List EntryData → List ℕ → Group → Naming → Bool
applies_there c groups node g named = some_on groups node named.as_applied || list_any (egress_applies_on c groups node g) c.egresses

-- ---- names

-- the group with all its members
abbrev pub whole_group : List EntryData → Group → StreamObject
whole_group groups g = group_object (all_told groups) g

-- the change of all members of a group
abbrev pub members_changed : List EntryData → List EntryData → Group → List StreamChange
members_changed old new g = changed (Some (whole_group old g)) (Some (whole_group new g))

abbrev pub touched_group : ClusterData → List EntryData → ClusterData → List EntryData → Group → TouchedName
touched_group c old d new g = record { name = name.Group g; members = members_changed old new g; before = who_names c.policies g; after = who_names d.policies g }

-- what a name has in common for all nodes, between a cluster with its groups and another one
abbrev pub touched_name : ClusterData → List EntryData → ClusterData → List EntryData → StreamName → TouchedName
touched_name c old d new (name.Group g) = touched_group c old d new g
touched_name c old d new (name.Policy key) = record { name = name.Policy key; members = []; before = nobody; after = nobody }
touched_name c old d new (name.Egress text) = record { name = name.Egress text; members = []; before = nobody; after = nobody }

-- it is what is in common under its name
abbrev pub IsTouched : ClusterData → List EntryData → ClusterData → List EntryData → TouchedName → Type 0
IsTouched c old d new t = t ≡ touched_name c old d new t.name
