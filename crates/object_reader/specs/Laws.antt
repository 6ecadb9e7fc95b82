-- What is read of an object, whatever the JSON is, has what its type keeps: a field with a fault reads as a default that
-- the type keeps (this project's own).
use Rattle.std.specs.Prelude.{Option}
use Rattle.serde_json.specs.Data.{Data}
use Rattle.label_select.specs.Group.{IsGroup}
use Rattle.cluster_types.specs.declared.references.GroupBody.{GroupBody}
use Rattle.cluster_types.specs.declared.references.GroupBody.TheVariants.{Selected, Blocks, Children}
use Rattle.cluster_types.specs.Whole.{IsWholeNode, IsWholeNamespace, IsWholeEgress}
use Rattle.object_reader.specs.Egresses.{egress_value, pooled_value}
use Rattle.object_reader.specs.Groups.{cluster_group, group_value}
use Rattle.object_reader.specs.Nodes.{node_value, namespace_value}

abbrev pub NodesAreWhole : Type 0
NodesAreWhole = (d : Data) → IsWholeNode (node_value d)

abbrev pub NamespacesAreWhole : Type 0
NamespacesAreWhole = (d : Data) → IsWholeNamespace (namespace_value d)

-- what two selectors select is a group
abbrev pub SelectorsMakeGroups : Type 0
SelectorsMakeGroups = (o : Option Data) → IsGroup (cluster_group o)

-- the group in the body of a cluster group has what its type keeps
abbrev pub IsWholeBody : GroupBody → Type 0
IsWholeBody (Selected g) = IsGroup g
IsWholeBody (Blocks bs) = Unit {0}
IsWholeBody (Children names) = Unit {0}

abbrev pub ClusterGroupsAreWhole : Type 0
ClusterGroupsAreWhole = (d : Data) → IsWholeBody (group_value d).body

abbrev pub EgressesAreWhole : Type 0
EgressesAreWhole = (d : Data) → IsWholeEgress (egress_value d)

-- an Egress of a pool has a group as well
abbrev pub PooledEgressesAreWhole : Type 0
PooledEgressesAreWhole = (d : Data) → IsGroup (pooled_value d).applied
