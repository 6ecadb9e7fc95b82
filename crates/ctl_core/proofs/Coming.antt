-- What changes come to, one after another, where the nodes are fixed.
use Rattle.std.proofs.Common.{◌≡◌, Bool, true, false, not, ◌&&◌, ◌||◌, Result, Ok, Err, List, ◌∷◌, Option, Some, None, refl, sym, ap, subst, ◌∙◌}
use Rattle.cluster_objects.specs.declared.change.Applied.{Applied}
use Rattle.cluster_objects.specs.declared.change.Applied.TheVariants.{Changed, Unchanged}
use Rattle.cluster_objects.specs.declared.change.ClusterRefusal.{ClusterRefusal}
use Rattle.cluster_objects.specs.declared.change.ClusterRefusal.TheVariants as cluster
use Rattle.cluster_types.specs.declared.change.Change.{Change}
use Rattle.cluster_types.specs.declared.change.Change.TheVariants.{Put, Remove}
use Rattle.cluster_types.specs.declared.change.Object.TheVariants as object
use Rattle.cluster_types.specs.declared.change.ObjectKey.TheVariants as key
use Rattle.cluster_types.specs.Cluster.{ClusterData, ClusterState, IsCluster}
use Rattle.cluster_objects.specs.Apply.{Outcome, made, makes_difference}
use Rattle.cluster_objects.specs.Changes.{Follows, Outcomes, after, and_then, apply, is_node, joined, unless}
use Rattle.cluster_objects.specs.Laws.{FixedNodesStay, UnchangedLeavesTheCluster}
use Rattle.ctl_core.specs.Line.{Came, ComesTo, LeavesNodes, came, came_to, one_came, other_differs}

-- ---- one change

pub unless_ok : (r : Option ClusterRefusal) (m o : Outcome) → unless r m ≡ Ok o → m ≡ o
unless_ok None m o e = cc
unless_ok (Some refusal) m o e = cc

-- a change of a Node leaves all other objects
node_change : (c : ClusterData) (change : Change) (o : Outcome) → is_node change ≡ true → apply c change ≡ Ok o → o.cluster ≡ record c { nodes = o.cluster.nodes }
node_change c (Put (object.Node n)) o is e = subst (λ (z : Outcome). z.cluster ≡ record c { nodes = z.cluster.nodes }) (unless_ok _ (made c (Put (object.Node n))) o e) refl
node_change c (Put (object.Namespace n)) o is e = cc
node_change c (Put (object.Pod p)) o is e = cc
node_change c (Put (object.Tier t)) o is e = cc
node_change c (Put (object.Policy p)) o is e = cc
node_change c (Put (object.Egress x)) o is e = cc
node_change c (Remove (key.Node n)) o is e = subst (λ (z : Outcome). z.cluster ≡ record c { nodes = z.cluster.nodes }) (unless_ok _ (made c (Remove (key.Node n))) o e) refl
node_change c (Remove (key.Namespace n)) o is e = cc
node_change c (Remove (key.Pod p)) o is e = cc
node_change c (Remove (key.Tier t)) o is e = cc
node_change c (Remove (key.Policy p)) o is e = cc
node_change c (Remove (key.Egress x)) o is e = cc

pub nodes_left : FixedNodesStay → (c : ClusterData) (change : Change) (o : Outcome) → IsCluster c → c.fixed ≡ true → apply c change ≡ Ok o → LeavesNodes c o.cluster
nodes_left law c change o whole fixed e = let stay = law c change o whole fixed e in record { nodes = stay.0; fixed = stay.1 }

-- without a difference the cluster is the same
pub same_left : FixedNodesStay → UnchangedLeavesTheCluster → (c : ClusterData) (change : Change) (o : Outcome) → IsCluster c → c.fixed ≡ true → apply c change ≡ Ok o
    → other_differs change o.applied ≡ false → o.cluster ≡ c
same_left fixed_law law c change o whole fixed e none = by_node (is_node change) refl o.applied refl none
  where
    stay : LeavesNodes c o.cluster
    stay = nodes_left fixed_law c change o whole fixed e

    by_node : (b : Bool) → is_node change ≡ b → (a : Applied) → o.applied ≡ a → (not b && makes_difference a) ≡ false → o.cluster ≡ c
    by_node true is a at none = node_change c change o is e ∙ ap (λ ns. record c { nodes = ns }) stay.nodes
    by_node false is Changed at none = cc
    by_node false is Unchanged at none = law c change o whole e at ∙ ap (λ b. record c { fixed = b }) (stay.fixed ∙ sym fixed)

-- a change that is refused, or for which memory is wanting, leaves the cluster alone
pub left_alone : (r : Result Outcome ClusterRefusal) (old new : ClusterData) (refusal : ClusterRefusal) → Follows r old (Err refusal) new → new ≡ old
left_alone r old new cluster.NoMemory f = f
left_alone r old new cluster.NodesFixed f = f.1
left_alone r old new (cluster.CidrOverlap x) f = f.1
left_alone r old new cluster.TierFixed f = f.1
left_alone r old new (cluster.TierTaken x) f = f.1
left_alone r old new (cluster.TierInUse x) f = f.1
left_alone r old new (cluster.NoSuchTier x) f = f.1
left_alone r old new (cluster.AddressInUse x) f = f.1
left_alone r old new (cluster.TooMany x) f = f.1
left_alone r old new (cluster.TooManyMarks x) f = f.1

pub nodes_alone : (c new : ClusterData) → c.fixed ≡ true → new ≡ c → LeavesNodes c new
nodes_alone c new fixed same = record { nodes = ap (λ (d : ClusterData). d.nodes) same; fixed = ap (λ (d : ClusterData). d.fixed) same ∙ fixed }

pub nodes_with : (c : ClusterData) (mid new : ClusterState) → new ≡ mid → LeavesNodes c mid.cluster → LeavesNodes c new.cluster
nodes_with c mid new same left = subst (λ (s : ClusterState). LeavesNodes c s.cluster) (sym same) left

-- ---- a list of changes

-- what later changes come to, and whether these or the earlier ones made a difference
abbrev pub came_after : Bool → Result Outcomes ClusterRefusal → Result Came ClusterRefusal
came_after differs (Ok o) = Ok (came_to o.cluster (differs || o.other_changed))
came_after differs (Err refusal) = Err refusal

or_assoc : (a b c : Bool) → (a || (b || c)) ≡ ((a || b) || c)
or_assoc true b c = refl
or_assoc false b c = refl

joined_came : (differs : Bool) (change : Change) (applied : Applied) (r : Result Outcomes ClusterRefusal)
    → came_after differs (joined change applied r) ≡ came_after (differs || other_differs change applied) r
joined_came differs change applied (Ok o) = ap (λ z. Ok (came_to o.cluster z)) (or_assoc differs (other_differs change applied) o.other_changed)
joined_came differs change applied (Err refusal) = refl

abbrev pub cluster_in : ClusterData → Result Came ClusterRefusal → ClusterData
cluster_in c (Ok x) = x.cluster
cluster_in c (Err refusal) = c

abbrev pub differs_in : Result Came ClusterRefusal → Bool
differs_in (Ok x) = x.differs
differs_in (Err refusal) = false

-- a change that is made, and then the others
pub one_made : (differs more : Bool) (c new : ClusterData) (change : Change) (changes : List Change) → one_came change (apply c change) ≡ Ok (came_to new more)
    → came_after differs (after c (change ∷ changes)) ≡ came_after (differs || more) (after new changes)
one_made differs more c new change changes e = by_result (apply c change) e
  where
    by_result : (r : Result Outcome ClusterRefusal) → one_came change r ≡ Ok (came_to new more)
        → came_after differs (and_then change r (λ d. after d changes)) ≡ came_after (differs || more) (after new changes)
    by_result (Ok o) is =
        let cluster_is : o.cluster ≡ new = ap (cluster_in new) is in
        let differs_is : other_differs change o.applied ≡ more = ap differs_in is in
        joined_came differs change o.applied (after o.cluster changes)
        ∙ (ap (λ z. came_after (differs || z) (after o.cluster changes)) differs_is ∙ ap (λ z. came_after (differs || more) (after z changes)) cluster_is)
    by_result (Err refusal) is = cc

-- a change that is refused ends the list
pub one_refused : (differs : Bool) (c : ClusterData) (change : Change) (changes : List Change) (refusal : ClusterRefusal) → one_came change (apply c change) ≡ Err refusal
    → came_after differs (after c (change ∷ changes)) ≡ Err refusal
one_refused differs c change changes refusal e = by_result (apply c change) e
  where
    by_result : (r : Result Outcome ClusterRefusal) → one_came change r ≡ Err refusal → came_after differs (and_then change r (λ d. after d changes)) ≡ Err refusal
    by_result (Ok o) is = cc
    by_result (Err other) is = is

-- what a refused call says of the whole list
pub refused_comes : (all here : Result Came ClusterRefusal) (old new : ClusterData) (refusal : ClusterRefusal)
    → ComesTo here (Err refusal) old → (here ≡ Err refusal → all ≡ Err refusal) → ComesTo all (Err refusal) new
refused_comes all here old new cluster.NoMemory f h = tt
refused_comes all here old new cluster.NodesFixed f h = h f
refused_comes all here old new (cluster.CidrOverlap x) f h = h f
refused_comes all here old new cluster.TierFixed f h = h f
refused_comes all here old new (cluster.TierTaken x) f h = h f
refused_comes all here old new (cluster.TierInUse x) f h = h f
refused_comes all here old new (cluster.NoSuchTier x) f h = h f
refused_comes all here old new (cluster.AddressInUse x) f h = h f
refused_comes all here old new (cluster.TooMany x) f h = h f
refused_comes all here old new (cluster.TooManyMarks x) f h = h f

pub came_first : (r : Result Outcomes ClusterRefusal) → came_after false r ≡ came r
came_first (Ok o) = refl
came_first (Err refusal) = refl

pub nodes_on : (a b c : ClusterData) → LeavesNodes a b → LeavesNodes b c → LeavesNodes a c
nodes_on a b c first then = record { nodes = then.nodes ∙ first.nodes; fixed = then.fixed }

pub same_on : (differs more : Bool) (a b c : ClusterData) → (differs ≡ false → b ≡ a) → (more ≡ false → c ≡ b) → (differs || more) ≡ false → c ≡ a
same_on true more a b c first then none = cc
same_on false more a b c first then none = then none ∙ first refl
