-- What holds of all changes of clusters (this project's own).
use Rattle.std.specs.Prelude.{◌≡◌, ℕ, ◌≤◌, List, [], ◌∷◌, ◌++◌, length, true, Some, Ok, IsTrue}
use Rattle.std.specs.List.{AllByRecursion}
use Rattle.cl_types.specs.declared.addr.Addr.{Addr}
use Rattle.cl_types.specs.Ascending.{found}
use Rattle.cluster_types.specs.declared.change.Change.{Change}
use Rattle.cluster_types.specs.declared.change.Change.TheVariants.{Put, Remove}
use Rattle.cluster_types.specs.declared.change.Object.TheVariants as object
use Rattle.cluster_types.specs.Choice.{marked_addresses}
use Rattle.cluster_types.specs.Cluster.{ClusterData, IsCluster, no_objects}
use Rattle.cluster_types.specs.Limits.{max_marks}
use Rattle.cluster_types.specs.Node.{NodeData, node_holds}
use Rattle.cluster_types.specs.Whole.{IsWholeNode, IsWholeNamespace, IsWholePod, IsWholePolicy, IsWholeEgress}
use Rattle.cluster_objects.specs.declared.change.Applied.TheVariants.{Unchanged}
use Rattle.cluster_objects.specs.declared.change.Undo.{Undo}
use Rattle.cluster_objects.specs.Apply.{Outcome, at_node, made, numbered}
use Rattle.cluster_objects.specs.Changes.{Outcomes, after, apply, taken_back, undo_of}

-- the object of a change has what its type keeps
abbrev pub IsWholeChange : Change → Type 0
IsWholeChange (Put (object.Node n)) = IsWholeNode n
IsWholeChange (Put (object.Namespace n)) = IsWholeNamespace n
IsWholeChange (Put (object.Pod p)) = IsWholePod p
IsWholeChange (Put (object.Tier t)) = Unit {0}
IsWholeChange (Put (object.Policy p)) = IsWholePolicy p
IsWholeChange (Put (object.Egress e)) = IsWholeEgress e
IsWholeChange (Remove k) = Unit {0}

-- ---- what changes keep

-- the static tiers and nothing else are a cluster
abbrev pub NoObjectsAreACluster : Type 0
NoObjectsAreACluster = IsCluster no_objects

-- a change that isn't refused leaves a cluster
abbrev pub ChangesKeepClusters : Type 0
ChangesKeepClusters = (c : ClusterData) (change : Change) (o : Outcome) → IsCluster c → IsWholeChange change → apply c change ≡ Ok o → IsCluster o.cluster

-- a list of changes of which none is refused leaves a cluster
abbrev pub ListsOfChangesKeepClusters : Type 0
ListsOfChangesKeepClusters =
    (c : ClusterData) (changes : List Change) (o : Outcomes) → IsCluster c → AllByRecursion IsWholeChange changes → after c changes ≡ Ok o → IsCluster o.cluster

-- ---- what changes leave as it was

-- once the nodes are fixed they stay, and stay fixed
abbrev pub FixedNodesStay : Type 0
FixedNodesStay =
    (c : ClusterData) (change : Change) (o : Outcome) → IsCluster c → c.fixed ≡ true → apply c change ≡ Ok o → (o.cluster.nodes ≡ c.nodes) × (o.cluster.fixed ≡ true)

-- a change that makes no difference leaves the cluster but for the fixing of its nodes
abbrev pub UnchangedLeavesTheCluster : Type 0
UnchangedLeavesTheCluster =
    (c : ClusterData) (change : Change) (o : Outcome) → IsCluster c → apply c change ≡ Ok o → o.applied ≡ Unchanged → o.cluster ≡ record c { fixed = o.cluster.fixed }

-- ---- what holds of every cluster

-- an address is in the blocks of one node at most
abbrev pub AddressesHaveOneNode : Type 0
AddressesHaveOneNode =
    (c : ClusterData) (n m : NodeData) (a : Addr) → IsCluster c → found (at_node n.name) c.nodes ≡ Some n → found (at_node m.name) c.nodes ≡ Some m
    → IsTrue (node_holds n a) → IsTrue (node_holds m a) → n ≡ m

-- no node needs more marks than there are
abbrev pub MarksSuffice : Type 0
MarksSuffice = (c : ClusterData) (node : List ℕ) → IsCluster c → length (marked_addresses c node) ≤ max_marks

-- ---- taking back

-- a change that is taken back leaves the cluster of before
abbrev pub UndoTakesBack : Type 0
UndoTakesBack = (c : ClusterData) (change : Change) (o : Outcome) → IsCluster c → apply c change ≡ Ok o → taken_back o.cluster (undo_of c change) ≡ c

-- what takes changes back that were made in this order: the last one is the first to be taken back
abbrev pub undoes_of : ClusterData → List Change → List Undo
undoes_of c [] = []
undoes_of c (change ∷ changes) = undoes_of (made c (numbered c change)).cluster changes ++ undo_of c change ∷ []

-- the cluster once all are taken back in their order
abbrev pub all_taken_back : ClusterData → List Undo → ClusterData
all_taken_back c [] = c
all_taken_back c (u ∷ us) = all_taken_back (taken_back c u) us

-- changes that are taken back leave the cluster of before
abbrev pub UndoesTakeBack : Type 0
UndoesTakeBack =
    (c : ClusterData) (changes : List Change) (o : Outcomes) → IsCluster c → AllByRecursion IsWholeChange changes → after c changes ≡ Ok o
    → all_taken_back o.cluster (undoes_of c changes) ≡ c
