-- A change of a cluster, a list of changes, and how a change is taken back (this project's own).
use Rattle.std.specs.Prelude.{◌≡◌, List, [], ◌∷◌, Bool, true, false, not, ◌&&◌, ◌||◌, Option, Some, None, option_map, Result, Ok, Err}
use Rattle.std.specs.Option.{option_map_or}
use Rattle.cl_types.specs.Ascending.{found}
use Rattle.cluster_objects.specs.declared.change.Applied.{Applied}
use Rattle.cluster_types.specs.declared.change.Change.{Change}
use Rattle.cluster_types.specs.declared.change.Change.TheVariants.{Put, Remove}
use Rattle.cluster_objects.specs.declared.change.ClusterRefusal.{ClusterRefusal}
use Rattle.cluster_objects.specs.declared.change.ClusterRefusal.TheVariants.{NoMemory}
use Rattle.cluster_objects.specs.declared.change.Kept.{Kept}
use Rattle.cluster_types.specs.declared.change.Object.{Object}
use Rattle.cluster_types.specs.declared.change.Object.TheVariants as object
use Rattle.cluster_types.specs.declared.change.ObjectKey.{ObjectKey}
use Rattle.cluster_types.specs.declared.change.ObjectKey.TheVariants as key
use Rattle.cluster_objects.specs.declared.change.Undo.{Undo}
use Rattle.cluster_objects.specs.Apply.{Outcome, outcome, makes_difference, made, numbered, with_object, without_object, at_node, at_namespace, at_pod, at_policy, at_egress}
use Rattle.cluster_types.specs.Cluster.{ClusterData}
use Rattle.cluster_objects.specs.Refusals.{checks, first_refusal}
use Rattle.cluster_types.specs.Tier.{tier_named}

abbrev pub unless : Option ClusterRefusal → Outcome → Result Outcome ClusterRefusal
unless None outcome = Ok outcome
unless (Some refusal) outcome = Err refusal

-- the cluster after a change whose tier number is set, or why the change is refused
abbrev pub apply_numbered : ClusterData → Change → Result Outcome ClusterRefusal
apply_numbered c change = unless (first_refusal (checks c change)) (made c change)

-- the cluster after a change, or why the change is refused
abbrev pub apply : ClusterData → Change → Result Outcome ClusterRefusal
apply c change = apply_numbered c (numbered c change)

-- ---- lists of changes

abbrev pub is_node : Change → Bool
is_node (Put (object.Node n)) = true
is_node (Remove (key.Node name)) = true
is_node _ = false

-- a cluster after some changes, whether a Node changed, and whether anything else did
pub record Outcomes : Type 0 where
  pub cluster : ClusterData
  pub node_changed : Bool
  pub other_changed : Bool

-- what a change and the later ones come to
abbrev pub joined : Change → Applied → Result Outcomes ClusterRefusal → Result Outcomes ClusterRefusal
joined change applied (Ok later) =
    Ok (record {
      cluster = later.cluster;
      node_changed = (is_node change && makes_difference applied) || later.node_changed;
      other_changed = (not (is_node change) && makes_difference applied) || later.other_changed;
    })
joined change applied (Err refusal) = Err refusal

abbrev pub and_then : Change → Result Outcome ClusterRefusal → (ClusterData → Result Outcomes ClusterRefusal) → Result Outcomes ClusterRefusal
and_then change (Ok first) later = joined change first.applied (later first.cluster)
and_then change (Err refusal) later = Err refusal

-- the cluster after changes in their order, or why the first refused one is refused
abbrev pub after : ClusterData → List Change → Result Outcomes ClusterRefusal
after c [] = Ok (record { cluster = c; node_changed = false; other_changed = false })
after c (change ∷ changes) = and_then change (apply c change) (λ changed. after changed changes)

-- ---- taking back

abbrev pub key_of : Change → ObjectKey
key_of (Put (object.Node n)) = key.Node n.name
key_of (Put (object.Namespace n)) = key.Namespace n.name
key_of (Put (object.Pod p)) = key.Pod p.key
key_of (Put (object.Tier t)) = key.Tier t.name
key_of (Put (object.Policy p)) = key.Policy p.key
key_of (Put (object.Egress e)) = key.Egress e.name
key_of (Remove k) = k

-- the object that stands at the key
abbrev pub standing : ClusterData → ObjectKey → Option Object
standing c (key.Node name) = option_map object.Node (found (at_node name) c.nodes)
standing c (key.Namespace name) = option_map object.Namespace (found (at_namespace name) c.namespaces)
standing c (key.Pod name) = option_map object.Pod (found (at_pod name) c.pods)
standing c (key.Tier name) = option_map object.Tier (tier_named name c.tiers)
standing c (key.Policy name) = option_map object.Policy (found (at_policy name) c.policies)
standing c (key.Egress name) = option_map object.Egress (found (at_egress name) c.egresses)

-- what takes a change back
abbrev pub undo_of : ClusterData → Change → Undo
undo_of c change = record { key = key_of change; old = standing c (key_of change); fixed = c.fixed }

-- the object stands at its key again, and the nodes are fixed as they were
abbrev pub stood_again : ClusterData → Object → Bool → ClusterData
stood_again c o fixed = record (with_object c o).cluster { fixed = fixed }

-- nothing stands at the key again, and the nodes are fixed as they were
abbrev pub cleared_again : ClusterData → ObjectKey → Bool → ClusterData
cleared_again c k fixed = record (without_object c k).cluster { fixed = fixed }

-- the cluster once a change is taken back
abbrev pub taken_back : ClusterData → Undo → ClusterData
taken_back c u = option_map_or (λ (o : Object). stood_again c o u.fixed) u.old (cleared_again c u.key u.fixed)

-- ---- calls

-- the change was made, and this takes it back
pub record IsMade (old : ClusterData) (change : Change) (new : ClusterData) (kept : Kept) : Type 0 where
  pub outcome : made old change ≡ outcome new kept.applied
  pub undo : kept.undo ≡ undo_of old change

-- What a call answered is what the change does; a refusal leaves the cluster as it was, and so does want of
-- memory.
abbrev pub Follows : Result Outcome ClusterRefusal → ClusterData → Result Applied ClusterRefusal → ClusterData → Type 0
Follows result old (Ok applied) new = result ≡ Ok (outcome new applied)
Follows result old (Err NoMemory) new = new ≡ old
Follows result old (Err refusal) new = (result ≡ Err refusal) × (new ≡ old)

abbrev pub applied_of : Result Kept ClusterRefusal → Result Applied ClusterRefusal
applied_of (Ok kept) = Ok kept.applied
applied_of (Err refusal) = Err refusal
