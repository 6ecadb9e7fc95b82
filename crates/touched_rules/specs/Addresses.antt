-- The addresses of the blocks of held policies are those of their families (what the types of addresses keep).
use Rattle.std.specs.Prelude.{◌<◌, ◌^◌, List, [], Option, Some, None}
use Rattle.std.specs.List.{AllByRecursion}
use Rattle.cl_types.specs.declared.addr.Addr.{Addr}
use Rattle.cl_types.specs.Addr.{number_of, width_of}
use Rattle.cluster_types.specs.declared.policy.Block.{Block}
use Rattle.watch_streams.specs.declared.net.NetPeers.{NetPeers}
use Rattle.watch_streams.specs.declared.net.NetRule.{NetRule}
use Rattle.watch_streams.specs.Net.{NetPolicyData}

-- the number is one of the family's
abbrev pub IsAddress : Addr → Type 0
IsAddress a = number_of a < 2 ^ width_of a

abbrev pub blocks_of : Option NetPeers → List Block
blocks_of None = []
blocks_of (Some peers) = peers.blocks

abbrev pub HasAddress : Block → Type 0
HasAddress b = IsAddress b.cidr.base

abbrev pub RuleHasAddresses : NetRule → Type 0
RuleHasAddresses r = AllByRecursion HasAddress (blocks_of r.peers)

abbrev pub PolicyHasAddresses : NetPolicyData → Type 0
PolicyHasAddresses p = AllByRecursion RuleHasAddresses p.rules
