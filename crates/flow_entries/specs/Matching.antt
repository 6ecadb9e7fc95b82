-- Which packets a flow's fields match (ovs-fields(7): a field that is not given matches every packet; a
-- masked field matches where the packet's value agrees with it in the bits of the mask). `known` and `skip`
-- are this project's own fields, and stand for conntrack's state.
use Rattle.std.specs.Prelude.{◌<◌, ℕ, Bool, true, false, ◌&&◌, ◌||◌, ◌==◌, not, Option, Some, None, bit_and, if◌then◌else◌}
use Rattle.std.specs.Option.{ForSome}
use Rattle.cl_types.specs.declared.addr.Addr.{Addr}
use Rattle.cl_types.specs.declared.service.Masked.{Masked}
use Rattle.cl_types.specs.declared.service.Proto.{Proto}
use Rattle.cl_types.specs.declared.question.Packet.{Packet}
use Rattle.cl_types.specs.Addr.{addr_eq}
use Rattle.cl_types.specs.Proto.{proto_eq}
use Rattle.cl_types.specs.Prefix.{PrefixData, holds}

-- the fields of a flow as plain data
pub record MatchFields : Type 0 where
  pub in_port : Option ℕ
  pub src : Option PrefixData
  pub dst : Option PrefixData
  pub proto : Option Proto
  pub dport : Option Masked
  pub tunnel : Option Addr
  pub known : Bool
  pub skip : Bool
  pub conj : Option ℕ

-- a mask of 0 is no field
abbrev pub HasMask : Option Masked → Type 0
HasMask dport = ForSome dport (λ port. 0 < port.mask)

-- no field is given
abbrev pub no_fields : MatchFields
no_fields = record {
  in_port = None;
  src = None;
  dst = None;
  proto = None;
  dport = None;
  tunnel = None;
  known = false;
  skip = false;
  conj = None;
}

-- with the destination port; a mask of 0 is kept as absent
abbrev pub with_port : Masked → MatchFields → MatchFields
with_port port m = record m { dport = if port.mask == 0 then None else Some port }

-- the field is not given, or what the packet has passes its test
abbrev pub if_given : {T : Type 0} → Option T → (T → Bool) → Bool
if_given None test = true
if_given (Some field) test = test field

-- the port agrees with the value in the bits of the mask
abbrev pub port_matches : Masked → ℕ → Bool
port_matches masked port = bit_and port masked.mask == masked.value

-- the packet came through the tunnel of this address
abbrev pub came_through : Addr → Option Addr → Bool
came_through a None = false
came_through a (Some tunnel) = addr_eq a tunnel

-- the port by which the packet came, its source and its destination
abbrev pub ends_match : MatchFields → Packet → Bool
ends_match m p =
    if_given m.in_port (λ port. port == p.inport)
    && if_given m.src (λ block. holds block p.src)
    && if_given m.dst (λ block. holds block p.dst)

-- its protocol, its destination port and its tunnel
abbrev pub service_matches : MatchFields → Packet → Bool
service_matches m p =
    if_given m.proto (λ proto. proto_eq proto p.proto)
    && if_given m.dport (λ masked. port_matches masked p.dport)
    && if_given m.tunnel (λ a. came_through a p.tunnel)

-- `known` asks that the packet's connection is known, and `skip` that the walk skips policy
abbrev pub state_matches : MatchFields → Bool → Bool → Bool
state_matches m known skip = (not m.known || known) && (not m.skip || skip)

-- each given field but `conj` matches
abbrev pub matches : MatchFields → Packet → Bool → Bool → Bool
matches m p known skip = ends_match m p && service_matches m p && state_matches m known skip
