-- The orders to agents and the questions, as control lines give them (this project's own).
use Rattle.std.specs.Prelude.{ℕ, List, Bool, true, false, ◌&&◌, ◌==◌, Option, Some, None, Result, Ok, codes}
use Rattle.serde_json.specs.Data.{Data}
use Rattle.cl_types.specs.declared.addr.Addr.{Addr}
use Rattle.cl_types.specs.declared.addr.Addr.TheVariants.{V4, V6}
use Rattle.cl_types.specs.declared.order.AgentOrder.{AgentOrder}
use Rattle.cl_types.specs.declared.order.AgentOrder.TheVariants.{Attach, Detach, Tick}
use Rattle.cl_types.specs.declared.question.Packet.{Packet}
use Rattle.cl_types.specs.declared.question.Question.{Question}
use Rattle.cl_types.specs.declared.service.Proto.{Proto}
use Rattle.cl_types.specs.declared.service.Proto.TheVariants.{Tcp, Udp, Sctp, Icmp}
use Rattle.cl_types.specs.Addr.{width_of}
use Rattle.json_fields.specs.declared.refusal.ReadRefusal.{ReadRefusal}
use Rattle.control_lines.specs.Needed.{◌>>=◌, checked, address_at, address_if_there, number_at}
use Rattle.control_lines.specs.Words.{direction_of, protocol_of, word_at}

-- the ports of a switch: 1 is the tunnel, 2 the gateway, and the others are of pods
abbrev pub tunnel_port : ℕ
tunnel_port = 1

abbrev pub first_pod_port : ℕ
first_pod_port = 3

abbrev pub last_port : ℕ
last_port = 65000

-- the greatest port number of TCP, UDP and SCTP
abbrev pub greatest_service : ℕ
greatest_service = 65535

-- how far one order can move the clock
abbrev pub most_ticks : ℕ
most_ticks = 1000000

abbrev pub is_four : Addr → Bool
is_four (V4 n) = true
is_four (V6 n) = false

abbrev pub same_family : Addr → Addr → Bool
same_family a b = width_of a == width_of b

-- a second address is of IPv6, and the first one then of IPv4
abbrev pub is_pair : Addr → Option Addr → Bool
is_pair a None = true
is_pair (V4 n) (Some (V6 m)) = true
is_pair _ _ = false

-- a packet has the address of a tunnel only where it came by the tunnel, and both are of IPv4
abbrev pub has_tunnel : ℕ → Addr → Option Addr → Bool
has_tunnel inport src None = true
has_tunnel inport src (Some t) = (inport == tunnel_port) && is_four t && is_four src

-- ICMP has no ports
unfoldable pub service_at : Proto → List ℕ → Data → Result ℕ ReadRefusal
service_at Icmp name d = Ok 0
service_at Tcp name d = number_at name 0 greatest_service d
service_at Udp name d = number_at name 0 greatest_service d
service_at Sctp name d = number_at name 0 greatest_service d

unfoldable pub read_attach : Data → Result AgentOrder ReadRefusal
read_attach d = do
  port ← number_at (codes "port") first_pod_port last_port d
  address ← address_at (codes "address") d
  address6 ← address_if_there (codes "address6") d
  checked (is_pair address address6) (Attach port address address6)

unfoldable pub read_detach : Data → Result AgentOrder ReadRefusal
read_detach d = number_at (codes "port") first_pod_port last_port d >>= λ port. Ok (Detach port)

unfoldable pub read_tick : Data → Result AgentOrder ReadRefusal
read_tick d = number_at (codes "count") 1 most_ticks d >>= λ count. Ok (Tick count)

-- where a packet comes from and goes to
pub record Ends : Type 0 where
  pub src : Addr
  pub dst : Addr

unfoldable pub ends_at : List ℕ → List ℕ → Data → Result Ends ReadRefusal
ends_at from to d = do
  src ← address_at from d
  dst ← address_at to d
  checked (same_family src dst) (record { src = src; dst = dst })

pub record Traffic : Type 0 where
  pub proto : Proto
  pub sport : ℕ
  pub dport : ℕ

unfoldable pub traffic_at : Data → Result Traffic ReadRefusal
traffic_at d = do
  proto ← word_at protocol_of (codes "protocol") d
  sport ← service_at proto (codes "sport") d
  dport ← service_at proto (codes "dport") d
  Ok (record { proto = proto; sport = sport; dport = dport })

unfoldable pub tunnel_at : ℕ → Addr → Data → Result (Option Addr) ReadRefusal
tunnel_at inport src d = do
  tunnel ← address_if_there (codes "tunnel") d
  checked (has_tunnel inport src tunnel) tunnel

abbrev pub packet_of : ℕ → Ends → Traffic → Option Addr → Packet
packet_of inport ends traffic tunnel = record {
  inport = inport;
  src = ends.src;
  dst = ends.dst;
  proto = traffic.proto;
  sport = traffic.sport;
  dport = traffic.dport;
  tunnel = tunnel;
}

unfoldable pub read_packet : Data → Result Packet ReadRefusal
read_packet d = do
  inport ← number_at (codes "port") tunnel_port last_port d
  ends ← ends_at (codes "src") (codes "dst") d
  traffic ← traffic_at d
  tunnel ← tunnel_at inport ends.src d
  Ok (packet_of inport ends traffic tunnel)

unfoldable pub read_question : Data → Result Question ReadRefusal
read_question d = do
  dir ← word_at direction_of (codes "direction") d
  ends ← ends_at (codes "own") (codes "peer") d
  proto ← word_at protocol_of (codes "protocol") d
  port ← service_at proto (codes "port") d
  Ok (record { dir = dir; own = ends.src; peer = ends.dst; proto = proto; port = port })
