-- What the types of a cluster's parts keep, with all that is in them.
use Rattle.std.specs.Prelude.{List, Option, Some, None}
use Rattle.std.specs.List.{AllByRecursion}
use Rattle.std.specs.Option.{ForSome}
use Rattle.cl_types.specs.Ascending.{Ascends}
use Rattle.cl_types.specs.PolicyName.{IsPolicyName}
use Rattle.cl_types.specs.Prefix.{PrefixData, IsBlock}
use Rattle.cl_types.specs.Text.{text_order}
use Rattle.label_select.specs.declared.labels.Label.{Label}
use Rattle.label_select.specs.Group.{IsGroup}
use Rattle.cluster_types.specs.declared.policy.Peer.{Peer}
use Rattle.cluster_types.specs.declared.policy.Peer.TheVariants as peer
use Rattle.cluster_types.specs.declared.policy.Rule.{Rule}
use Rattle.cluster_types.specs.Egress.{EgressData}
use Rattle.cluster_types.specs.Node.{NamespaceData, NodeData, IsNode}
use Rattle.cluster_types.specs.Pod.{PodData, IsPod}
use Rattle.cluster_types.specs.Policy.{PolicyData, IsPolicy}

-- the labels ascend by their keys
abbrev pub AreLabels : List Label → Type 0
AreLabels labels = Ascends (λ (l : Label). l.key) text_order labels

pub record IsWholeNode (n : NodeData) : Type 0 where
  pub node : IsNode n.cidr n.cidr6
  pub cidr : IsBlock n.cidr.base n.cidr.len
  pub cidr6 : ForSome n.cidr6 (λ (b : PrefixData). IsBlock b.base b.len)

abbrev pub IsWholeNamespace : NamespaceData → Type 0
IsWholeNamespace n = AreLabels n.labels

pub record IsWholePod (p : PodData) : Type 0 where
  pub pod : IsPod p.addresses p.ports
  pub labels : AreLabels p.labels

abbrev pub IsWholePeer : Peer → Type 0
IsWholePeer (peer.Group g) = IsGroup g
IsWholePeer (peer.Block b) = Unit {0}
IsWholePeer peer.Never = Unit {0}

abbrev pub AreWholePeers : Option (List Peer) → Type 0
AreWholePeers None = Unit {0}
AreWholePeers (Some peers) = AllByRecursion IsWholePeer peers

abbrev pub IsWholeRule : Rule → Type 0
IsWholeRule r = AreWholePeers r.peers

pub record IsWholePolicy (p : PolicyData) : Type 0 where
  pub policy : IsPolicy p
  pub name : IsPolicyName p.key.kind p.key.namespace p.key.name
  pub applied : AllByRecursion IsGroup p.applied
  pub peers : AllByRecursion IsWholeRule p.rules

abbrev pub IsWholeEgress : EgressData → Type 0
IsWholeEgress e = IsGroup e.applied
