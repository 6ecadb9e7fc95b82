-- What held maps put in force is one list of rules.
use Rattle.std.proofs.Common.{◌≡◌, ◌<◌, List, [], ◌∷◌, ◌++◌, Option, Some, None, map, refl, sym, ap, ◌∙◌, arith}
use Rattle.cl_types.specs.Addr.{number_of}
use Rattle.cl_types.specs.Ascending.{sorted_set}
use Rattle.cl_types.specs.Blocks.{AddressesPrecede}
use Rattle.cl_types.specs.Prefix.{Holds, PrefixData, block_of}
use Rattle.cluster_types.specs.declared.policy.Block.{Block}
use Rattle.watch_streams.specs.declared.net.NetPeers.{NetPeers}
use Rattle.watch_streams.specs.declared.net.NetRule.{NetRule}
use Rattle.watch_streams.specs.declared.rule_changes.RuleParts.{RuleParts}
use Rattle.watch_streams.specs.HeldEvaluation.{HeldMaps}
use Rattle.watch_streams.specs.InForce.{AreBlocksOf, AreLargestBlocks, ArePartsOf, ArePeers, ArePeersOf, AreRulesInForce, HeldRule, IsParts, addresses_in, complete_rules}
use Rattle.watch_streams.specs.Net.{NetPolicyData}
use Rattle.watch_streams.specs.PartOrders.{block_order}
use Rattle.touched_rules.proofs.OneList.{same_list}

-- each block contains its own base
base_held : (b : PrefixData) → Holds b b.base
base_held b = record { family = refl; bits = refl }

one_way : (a b : PrefixData) → AddressesPrecede a b → AddressesPrecede b a → ⊥
one_way a b before after =
    let less : number_of a.base < number_of b.base = before a.base b.base (base_held a) (base_held b) in
    let more : number_of b.base < number_of a.base = after b.base a.base (base_held b) (base_held a) in
    omega arith

largest_one : (b : Block) (xs ys : List PrefixData) → AreLargestBlocks b xs → AreLargestBlocks b ys → xs ≡ ys
largest_one b xs ys are same =
    same_list AddressesPrecede one_way xs ys are.ascending same.ascending (λ z here. (same.exact z).0 ((are.exact z).1 here)) (λ z here. (are.exact z).0 ((same.exact z).1 here))

blocks_one : (bs : List Block) (xs ys : List PrefixData) → AreBlocksOf bs xs → AreBlocksOf bs ys → xs ≡ ys
blocks_one [] xs ys are same = are ∙ sym same
blocks_one (b ∷ bs) xs ys are same =
    let own = largest_one b are.0 same.0 are.3 same.3 in
    let others = blocks_one bs are.1 same.1 are.4 same.4 in
    are.2 ∙ ap (λ zs. zs ++ are.1) own ∙ ap (λ zs. same.0 ++ zs) others ∙ sym same.2

peers_one : (h : HeldMaps) (peers : NetPeers) (xs ys : List PrefixData) → ArePeers h peers xs → ArePeers h peers ys → xs ≡ ys
peers_one h peers xs ys are same =
    are.all ∙ ap (λ own. sorted_set block_order (map block_of (addresses_in h.addresses peers.groups) ++ own)) (blocks_one peers.blocks are.own same.own are.are_own same.are_own) ∙ sym same.all

rule_peers_one : (h : HeldMaps) (peers : Option NetPeers) (a b : Option (List PrefixData)) → ArePeersOf h peers a → ArePeersOf h peers b → a ≡ b
rule_peers_one h None None None are same = refl
rule_peers_one h None None (Some ys) are same = absurd same
rule_peers_one h None (Some xs) b are same = absurd are
rule_peers_one h (Some peers) None b are same = absurd are
rule_peers_one h (Some peers) (Some xs) None are same = absurd same
rule_peers_one h (Some peers) (Some xs) (Some ys) are same = ap Some (peers_one h peers xs ys are same)

pub parts_one : (h : HeldMaps) (p : NetPolicyData) (r : NetRule) (a b : RuleParts) → IsParts h p r a → IsParts h p r b → a ≡ b
parts_one h p r a b are same =
    let key = are.key ∙ sym same.key in
    let action = are.action ∙ sym same.action in
    let pods = are.pods ∙ sym same.pods in
    let peers = rule_peers_one h r.peers a.peers b.peers are.peers same.peers in
    let services = are.services ∙ sym same.services in
    let resolved = are.resolved ∙ sym same.resolved in
    (λ i. record { key = key i; action = action i; pods = pods i; peers = peers i; services = services i; resolved = resolved i })

pub lists_one : (h : HeldMaps) (xs : List HeldRule) (a b : List RuleParts) → ArePartsOf h xs a → ArePartsOf h xs b → a ≡ b
lists_one h [] [] [] are same = refl
lists_one h [] [] (q ∷ qs) are same = absurd same
lists_one h [] (p ∷ ps) b are same = absurd are
lists_one h (x ∷ xs) [] b are same = absurd are
lists_one h (x ∷ xs) (p ∷ ps) [] are same = absurd same
lists_one h (x ∷ xs) (p ∷ ps) (q ∷ qs) are same =
    let one = parts_one h x.policy x.rule p q are.0 same.0 in
    let rest = lists_one h xs ps qs are.1 same.1 in
    cc

-- two lists of what complete rules match are one
pub rules_one : (h : HeldMaps) (a b : List RuleParts) → AreRulesInForce h a → AreRulesInForce h b → a ≡ b
rules_one h a b are same = lists_one h (complete_rules h) a b are same
