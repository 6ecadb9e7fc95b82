-- What is held puts some rules in force.
use Rattle.std.proofs.Common.{◌++◌, List, [], ◌∷◌, map, Option, Some, None, refl}
use Rattle.std.specs.List.{AllByRecursion, flat_map}
use Rattle.cl_types.specs.Ascending.{sorted_set}
use Rattle.cl_types.specs.AscendingLaws.{all_sorted}
use Rattle.cl_types.specs.ListLaws.{all_filter, all_weaker}
use Rattle.cl_types.specs.Prefix.{PrefixData, block_of}
use Rattle.cl_types.specs.RuleOrder.{rule_order}
use Rattle.cluster_types.specs.declared.policy.Block.{Block}
use Rattle.watch_streams.specs.declared.net.NetPeers.{NetPeers}
use Rattle.watch_streams.specs.declared.net.NetRule.{NetRule}
use Rattle.watch_streams.specs.HeldEvaluation.{HeldMaps, held_policies, is_complete}
use Rattle.watch_streams.specs.InForce.{AreBlocksOf, ArePeersOf, addresses_in, complete_rules, held_rule_key, held_rules, resolved_ports, rules_of}
use Rattle.watch_streams.specs.Net.{NetPolicyData}
use Rattle.watch_streams.specs.OneOfAll.{all_flat_map, all_map}
use Rattle.watch_streams.specs.PartOrders.{block_order}
use Rattle.touched_rules.specs.Addresses.{HasAddress, PolicyHasAddresses, RuleHasAddresses, blocks_of}
use Rattle.touched_rules.specs.Touched.{RulesAreInForce}
use Rattle.touched_rules.proofs.LargestBlocks.{largest_blocks}
use Rattle.touched_rules.proofs.TouchedRules.{HasParts, all_have}

some_blocks : (bs : List Block) → AllByRecursion HasAddress bs → (blocks : List PrefixData) × AreBlocksOf bs blocks
some_blocks [] all = ([], refl)
some_blocks (b ∷ bs) all =
    let own = largest_blocks b all.0 in
    let others = some_blocks bs all.1 in
    (own.0 ++ others.0, (own.0, others.0, refl, own.1, others.1))

some_peers : (h : HeldMaps) (peers : Option NetPeers) → AllByRecursion HasAddress (blocks_of peers) → (blocks : Option (List PrefixData)) × ArePeersOf h peers blocks
some_peers h None all = (None, tt)
some_peers h (Some peers) all =
    let own = some_blocks peers.blocks all in
    (Some (sorted_set block_order (map block_of (addresses_in h.addresses peers.groups) ++ own.0)), record { own = own.0; are_own = own.1; all = refl })

some_parts : (h : HeldMaps) (p : NetPolicyData) (r : NetRule) → RuleHasAddresses r → HasParts h (record { policy = p; rule = r })
some_parts h p r all =
    let peers = some_peers h r.peers all in (
      record { key = r.key; action = r.action; pods = addresses_in h.applied p.applied; peers = peers.0; services = r.services; resolved = resolved_ports h p r },
      record { key = refl; action = refl; pods = refl; peers = peers.1; services = refl; resolved = refl },
    )

pub some_in_force : RulesAreInForce
some_in_force h forms =
    all_have h (complete_rules h)
    (all_filter (HasParts h) (λ x. is_complete h x.policy x.rule) (held_rules h)
    (all_sorted held_rule_key rule_order (HasParts h) (flat_map rules_of (held_policies h))
    (all_flat_map (HasParts h) rules_of (held_policies h) (all_weaker PolicyHasAddresses (λ p. AllByRecursion (HasParts h) (rules_of p)) of_policy (held_policies h) forms))))
  where
    of_policy : (p : NetPolicyData) → PolicyHasAddresses p → AllByRecursion (HasParts h) (rules_of p)
    of_policy p all = all_map (HasParts h) (λ r. record { policy = p; rule = r }) p.rules (all_weaker RuleHasAddresses (λ r. HasParts h (record { policy = p; rule = r })) (λ r has. some_parts h p r has) p.rules all)
