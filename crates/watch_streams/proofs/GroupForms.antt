-- The groups that a whole policy names have the forms of groups.
use Rattle.std.proofs.Common.{List, [], ◌∷◌, Bool, true, false, ◌&&◌, Option, Some, None, if◌then◌else◌}
use Rattle.std.specs.List.{AllByRecursion, flat_map}
use Rattle.label_select.specs.Canonical.{IsSelection}
use Rattle.label_select.specs.Group.{IsGroup}
use Rattle.cluster_types.specs.declared.policy.Peer.{Peer}
use Rattle.cluster_types.specs.declared.policy.Peer.TheVariants as peer
use Rattle.cluster_types.specs.declared.policy.Rule.{Rule}
use Rattle.cluster_types.specs.Policy.{PolicyData}
use Rattle.cluster_types.specs.Whole.{IsWholePeer, AreWholePeers, IsWholePolicy}
use Rattle.watch_streams.specs.Projection.{all_pods, is_egress, has_names, peer_groups, policy_groups, rule_groups}
use Rattle.watch_streams.specs.OneOfAll.{all_flat_map}
use Rattle.cl_types.specs.ListLaws.{all_weaker}

all_pods_form : IsGroup all_pods
all_pods_form = record { scope_form = empty; pods_form = empty }
  where
    empty : IsSelection (record { needs = [] })
    empty = record { need_forms = tt; needs_ascend = tt; values_ascend = tt }

pub peer_forms : (p : Peer) → IsWholePeer p → AllByRecursion IsGroup (peer_groups p)
peer_forms (peer.Group g) h = (h, tt)
peer_forms (peer.Block b) h = tt
peer_forms peer.Never h = tt

pub groups_are : (peers : List Peer) → AllByRecursion IsWholePeer peers → AllByRecursion IsGroup (flat_map peer_groups peers)
groups_are peers whole = all_flat_map IsGroup peer_groups peers (all_weaker IsWholePeer (λ p. AllByRecursion IsGroup (peer_groups p)) peer_forms peers whole)

rule_forms : (r : Rule) (peers : Option (List Peer)) → AreWholePeers peers → AllByRecursion IsGroup (rule_groups r peers)
rule_forms r (Some peers) h = groups_are peers h
rule_forms r None h = by_test (is_egress r.key.dir && has_names r.named)
  where
    by_test : (b : Bool) → AllByRecursion IsGroup (if b then all_pods ∷ [] else [])
    by_test true = (all_pods_form, tt)
    by_test false = tt

pub policy_forms : (p : PolicyData) → IsWholePolicy p → AllByRecursion IsGroup (policy_groups p)
policy_forms p h =
    all_flat_map IsGroup (λ (r : Rule). rule_groups r r.peers) p.rules
    (all_weaker (λ (r : Rule). AreWholePeers r.peers) (λ (r : Rule). AllByRecursion IsGroup (rule_groups r r.peers)) (λ r w. rule_forms r r.peers w) p.rules h.peers)
