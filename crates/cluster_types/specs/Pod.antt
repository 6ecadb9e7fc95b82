-- Pods as plain data, what their type keeps, and which of them count (this project's own).
use Rattle.std.specs.Prelude.{ℕ, List, [], ◌∷◌, Bool, true, false, not, ◌&&◌}
use Rattle.std.specs.List.{list_any}
use Rattle.std.specs.declared.cmp.Ordering.{Ordering}
use Rattle.std.specs.Ordering.{ordering_then, nat_cmp}
use Rattle.std.specs.Cmp.Lexicographic.{slice_cmp}
use Rattle.cl_types.specs.declared.addr.Addr.{Addr}
use Rattle.cl_types.specs.declared.addr.Addr.TheVariants.{V4, V6}
use Rattle.cl_types.specs.declared.keys.PodKey.{PodKey}
use Rattle.cl_types.specs.declared.service.NamedPort.{NamedPort}
use Rattle.cl_types.specs.declared.service.Proto.{Proto}
use Rattle.cl_types.specs.declared.service.Proto.TheVariants.{Tcp, Udp, Sctp, Icmp}
use Rattle.cl_types.specs.Ascending.{Ascends}
use Rattle.cl_types.specs.Addr.{addr_eq}
use Rattle.label_select.specs.declared.labels.Label.{Label}

pub record PodData : Type 0 where
  pub key : PodKey
  pub node : List ℕ
  pub addresses : List Addr
  pub host : Bool
  pub ended : Bool
  pub labels : List Label
  pub ports : List NamedPort

-- at most one address of each family, the IPv4 one first
abbrev pub AreAddresses : List Addr → Type 0
AreAddresses [] = Unit {0}
AreAddresses (a ∷ []) = Unit {0}
AreAddresses (V4 a ∷ V6 b ∷ []) = Unit {0}
AreAddresses _ = ⊥

abbrev pub proto_place : Proto → ℕ
proto_place Tcp = 0
proto_place Udp = 1
proto_place Sctp = 2
proto_place Icmp = 3

-- by name, then by protocol
abbrev pub port_order : NamedPort → NamedPort → Ordering
port_order a b = ordering_then (slice_cmp nat_cmp a.name b.name) (nat_cmp (proto_place a.proto) (proto_place b.proto))

pub record IsPod (addresses : List Addr) (ports : List NamedPort) : Type 0 where
  pub families : AreAddresses addresses
  pub ports_ascend : Ascends (λ (p : NamedPort). p) port_order ports

abbrev pub has_some : List Addr → Bool
has_some [] = false
has_some (a ∷ rest) = true

-- a pod counts where it has an address, isn't on the host's network and hasn't ended
abbrev pub counts : PodData → Bool
counts p = has_some p.addresses && not p.host && not p.ended

abbrev pub has_address : Addr → PodData → Bool
has_address a p = list_any (λ b. addr_eq b a) p.addresses
