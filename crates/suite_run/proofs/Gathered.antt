-- What changes come to, one after another.
use Rattle.std.proofs.Common.{rules, ◌≡◌, Bool, true, false, not, ◌&&◌, ◌||◌, Result, Ok, Err, List, ◌∷◌, refl, ap, ◌∙◌}
use Rattle.cluster_objects.specs.declared.change.Applied.{Applied}
use Rattle.cluster_types.specs.declared.change.Change.{Change}
use Rattle.cluster_objects.specs.declared.change.ClusterRefusal.{ClusterRefusal}
use Rattle.cluster_objects.specs.declared.change.ClusterRefusal.TheVariants as cluster
use Rattle.cluster_objects.specs.Apply.{Outcome, outcome, makes_difference}
use Rattle.cluster_objects.specs.Changes.{after, and_then, apply, is_node, joined, Follows, Outcomes}
use Rattle.cluster_types.specs.Cluster.{ClusterData}
use Rattle.suite_run.specs.Shown.{ComesTo}

-- what later changes come to, and whether these or the earlier ones changed something
abbrev pub gathered : Bool → Bool → Result Outcomes ClusterRefusal → Result Outcomes ClusterRefusal
gathered node other (Ok o) = Ok (record { cluster = o.cluster; node_changed = node || o.node_changed; other_changed = other || o.other_changed })
gathered node other (Err refusal) = Err refusal

or_assoc : (a b c : Bool) → (a || (b || c)) ≡ ((a || b) || c)
or_assoc true b c = refl
or_assoc false b c = refl

gathered-joined : (node other : Bool) (change : Change) (applied : Applied) (r : Result Outcomes ClusterRefusal)
    → gathered node other (joined change applied r)
    ≡ gathered (node || (is_node change && makes_difference applied)) (other || (not (is_node change) && makes_difference applied)) r
gathered-joined node other change applied (Ok o) =
    ap (λ z. Ok (record { cluster = o.cluster; node_changed = z; other_changed = other || ((not (is_node change) && makes_difference applied) || o.other_changed) }))
    (or_assoc node (is_node change && makes_difference applied) o.node_changed)
    ∙ ap (λ z. Ok (record { cluster = o.cluster; node_changed = (node || (is_node change && makes_difference applied)) || o.node_changed; other_changed = z }))
    (or_assoc other (not (is_node change) && makes_difference applied) o.other_changed)
gathered-joined node other change applied (Err refusal) = refl

-- a change that is made, and then the others
pub gathered-made : (node other : Bool) (c c' : ClusterData) (change : Change) (changes : List Change) (applied : Applied)
    → apply c change ≡ Ok (outcome c' applied)
    → gathered node other (after c (change ∷ changes))
    ≡ gathered (node || (is_node change && makes_difference applied)) (other || (not (is_node change) && makes_difference applied)) (after c' changes)
gathered-made node other c c' change changes applied a =
    ap (λ z. gathered node other (and_then change z (λ d. after d changes))) a ∙ gathered-joined node other change applied (after c' changes)

-- a change that is refused ends the list
pub gathered-refused : (node other : Bool) (c : ClusterData) (change : Change) (changes : List Change) (refusal : ClusterRefusal)
    → apply c change ≡ Err refusal → gathered node other (after c (change ∷ changes)) ≡ Err refusal
gathered-refused node other c change changes refusal a = ap (λ z. gathered node other (and_then change z (λ d. after d changes))) a

-- what a refused call says of the whole list
pub refused-comes : (all : Result Outcomes ClusterRefusal) (here : Result Outcome ClusterRefusal) (old new : ClusterData) (refusal : ClusterRefusal)
    → Follows here old (Err refusal) new → (here ≡ Err refusal → all ≡ Err refusal) → ComesTo all (Err refusal) new
refused-comes all here old new cluster.NoMemory f h = search rules
refused-comes all here old new cluster.NodesFixed f h = h f.0
refused-comes all here old new (cluster.CidrOverlap x) f h = h f.0
refused-comes all here old new cluster.TierFixed f h = h f.0
refused-comes all here old new (cluster.TierTaken x) f h = h f.0
refused-comes all here old new (cluster.TierInUse x) f h = h f.0
refused-comes all here old new (cluster.NoSuchTier x) f h = h f.0
refused-comes all here old new (cluster.AddressInUse x) f h = h f.0
refused-comes all here old new (cluster.TooMany x) f h = h f.0
refused-comes all here old new (cluster.TooManyMarks x) f h = h f.0
