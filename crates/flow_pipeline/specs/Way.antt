-- How a packet ends at a node, over any verdict of policies and any choice of Egress (Antrea's documentation
-- of its OVS pipeline and of Egress). The gateway address, and that traffic between a pod and its node's
-- gateway passes all policy, are this project's own.
use Rattle.std.specs.Prelude.{◌≡◌, ℕ, ◌+◌, ◌==◌, ◌&&◌, ◌||◌, not, List, Bool, true, false, Option, Some, None, is_some, find, if◌then◌else◌}
use Rattle.std.specs.List.{list_any}
use Rattle.std.specs.Option.{option_map}
use Rattle.cl_types.specs.declared.addr.Addr.{Addr}
use Rattle.cl_types.specs.declared.addr.Addr.TheVariants.{V4, V6}
use Rattle.cl_types.specs.declared.keys.Dir.{Dir}
use Rattle.cl_types.specs.declared.keys.Dir.TheVariants.{Ingress, Egress}
use Rattle.cl_types.specs.declared.question.Packet.{Packet}
use Rattle.cl_types.specs.declared.question.Question.{Question}
use Rattle.cl_types.specs.declared.verdict.Verdict.{Verdict}
use Rattle.cl_types.specs.declared.verdict.Verdict.TheVariants as verdict
use Rattle.cl_types.specs.Addr.{number_of, with_number}
use Rattle.cl_types.specs.Addr.{addr_eq}
use Rattle.cl_types.specs.Judgement.{Judgement}
use Rattle.cl_types.specs.Prefix.{PrefixData, holds}

-- ---- values

-- by which address a packet leaves the cluster: its node's own, an Egress's here, or an Egress's at the
-- node of this name
pub data Choice : Type 0 where
  plain : Choice
  here : Addr → Choice
  there : List ℕ → Addr → Choice

-- where a packet ends: dropped for its source, or as nothing leads on; stopped by a side; delivered to a
-- port; sent through the tunnel to the node of this name; or sent out of the cluster
pub data Ending : Type 0 where
  spoofed : Ending
  no_port : Ending
  stopped : Dir → Ending
  delivered : ℕ → Ending
  tunnelled : List ℕ → Ending
  leaves : Choice → Ending

-- what each side said, where it was asked, and the end
pub record WayData : Type 0 where
  pub egress : Option Judgement
  pub ingress : Option Judgement
  pub end : Ending

-- a packet that is delivered, tunnelled or leaves is let through
abbrev pub goes_through : Ending → Bool
goes_through spoofed = false
goes_through no_port = false
goes_through (stopped side) = false
goes_through (delivered q) = true
goes_through (tunnelled node) = true
goes_through (leaves choice) = true

-- ---- the node

-- a pod's port, and its addresses, one of each family at most
pub record PodPort : Type 0 where
  pub number : ℕ
  pub addresses : List Addr

pub record OtherNode : Type 0 where
  pub name : List ℕ
  pub blocks : List PrefixData

-- the pod CIDRs of the node and of the other nodes, and the ports that pods have here
pub record NodeFacts : Type 0 where
  pub own : List PrefixData
  pub others : List OtherNode
  pub ports : List PodPort

-- port 1 is the tunnel, and port 2 the gateway
abbrev pub tunnel_port : ℕ
tunnel_port = 1

abbrev pub gateway_port : ℕ
gateway_port = 2

-- a block's gateway address is the one after its first
abbrev pub gateway_of : PrefixData → Addr
gateway_of b = with_number b.base (number_of b.base + 1)

abbrev pub is_gateway : NodeFacts → Addr → Bool
is_gateway n a = list_any (λ b. addr_eq (gateway_of b) a) n.own

abbrev pub is_within : List PrefixData → Addr → Bool
is_within blocks a = list_any (λ b. holds b a) blocks

abbrev pub has_address : Addr → PodPort → Bool
has_address a q = list_any (addr_eq a) q.addresses

-- the pod port by which the packet came
abbrev pub port_of_source : NodeFacts → Packet → Option PodPort
port_of_source n p = find (λ q. q.number == p.inport) n.ports

-- the pod port to which the packet goes
abbrev pub port_of_destination : NodeFacts → Packet → Option PodPort
port_of_destination n p = find (has_address p.dst) n.ports

-- ---- routing

-- The Egress of a pod's packet. There are no Egresses for IPv6.
abbrev pub choice_of_pod : (Addr → Choice) → Addr → Choice
choice_of_pod choose (V4 a) = choose (V4 a)
choice_of_pod choose (V6 a) = plain

-- a packet that another node sent here to leave by an address that this node marks
abbrev pub choice_of_tunnel : (Addr → Bool) → Option Addr → Choice
choice_of_tunnel is_marked None = plain
choice_of_tunnel is_marked (Some a) = if is_marked a then here a else plain

-- by what a packet leaves that came by a pod's port, by the tunnel or else
abbrev pub choice_of : (Addr → Choice) → (Addr → Bool) → NodeFacts → Packet → Choice
choice_of choose is_marked n p =
    if is_some (port_of_source n p)
    then choice_of_pod choose p.src
    else if p.inport == tunnel_port
    then choice_of_tunnel is_marked p.tunnel
    else plain

abbrev pub delivered_or : Option PodPort → Ending → Ending
delivered_or (Some q) other = delivered q.number
delivered_or None other = other

abbrev pub tunnelled_or : Option OtherNode → Ending → Ending
tunnelled_or (Some m) other = tunnelled m.name
tunnelled_or None other = other

-- To a pod here, to the gateway, to another node, to no one here, or out of the cluster.
abbrev pub routed : (Addr → Choice) → (Addr → Bool) → NodeFacts → Packet → Ending
routed choose is_marked n p =
    delivered_or (port_of_destination n p)
    (if is_gateway n p.dst
    then delivered gateway_port
    else tunnelled_or (find (λ m. is_within m.blocks p.dst) n.others)
    (if is_within n.own p.dst then no_port else leaves (choice_of choose is_marked n p)))

-- ---- cases

-- it came by a pod's port, and its source is none of the port's addresses
abbrev pub is_spoofed : Packet → Option PodPort → Bool
is_spoofed p None = false
is_spoofed p (Some q) = not (has_address p.src q)

-- it goes from a pod to the gateway, or comes from the gateway
abbrev pub is_with_gateway : NodeFacts → Packet → Bool
is_with_gateway n p =
    (is_some (port_of_source n p) && is_gateway n p.dst) || ((p.inport == gateway_port) && is_gateway n p.src)

-- what a side is asked: the pod's own address, and the peer's
abbrev pub question_of : Dir → Packet → Question
question_of Egress p = record { dir = Egress; own = p.src; peer = p.dst; proto = p.proto; port = p.dport }
question_of Ingress p = record { dir = Ingress; own = p.dst; peer = p.src; proto = p.proto; port = p.dport }

-- a side is asked where a pod here has this part in the packet
abbrev pub asked : (Question → Judgement) → Dir → Option PodPort → Packet → Option Judgement
asked judge side port p = option_map (λ q. judge (question_of side p)) port

abbrev pub lets_through : Verdict → Bool
lets_through verdict.Allow = true
lets_through verdict.Drop = false
lets_through verdict.Reject = false

-- Drop and Reject stop a packet
abbrev pub stops : Option Judgement → Bool
stops None = false
stops (Some j) = not (lets_through j.verdict)

-- no side is asked
abbrev pub unasked : Ending → WayData
unasked end = record { egress = None; ingress = None; end = end }

-- the Egress side is asked, then the Ingress side, and a packet that neither stops is routed
abbrev pub after_egress : Option Judgement → Option Judgement → Ending → WayData
after_egress egress ingress end =
    if stops egress
    then record { egress = egress; ingress = None; end = stopped Egress }
    else if stops ingress
    then record { egress = egress; ingress = ingress; end = stopped Ingress }
    else record { egress = egress; ingress = ingress; end = end }

-- A spoofed packet is dropped. A packet of a known connection, and one between a pod and the gateway, are
-- routed without policy. Of every other packet the sides that pods here have in it are asked. `judge` says what
-- the policies say, `choose` the Egress of an address, and `is_marked` which addresses leave here.
abbrev pub way : (Question → Judgement) → (Addr → Choice) → (Addr → Bool) → NodeFacts → Bool → Packet → WayData
way judge choose is_marked n known p =
    if is_spoofed p (port_of_source n p)
    then unasked spoofed
    else if known || is_with_gateway n p
    then unasked (routed choose is_marked n p)
    else after_egress
    (asked judge Egress (port_of_source n p) p)
    (asked judge Ingress (port_of_destination n p) p)
    (routed choose is_marked n p)

-- ---- what stops a packet

-- where the end is that a side stops the packet, this side said Drop or Reject
abbrev pub IsStoppedBy : Option Judgement → Option Judgement → Ending → Type 0
IsStoppedBy egress ingress (stopped Egress) = stops egress ≡ true
IsStoppedBy egress ingress (stopped Ingress) = stops ingress ≡ true
IsStoppedBy egress ingress spoofed = Unit {0}
IsStoppedBy egress ingress no_port = Unit {0}
IsStoppedBy egress ingress (delivered q) = Unit {0}
IsStoppedBy egress ingress (tunnelled node) = Unit {0}
IsStoppedBy egress ingress (leaves choice) = Unit {0}

abbrev pub IsStoppedByItsSide : WayData → Type 0
IsStoppedByItsSide w = IsStoppedBy w.egress w.ingress w.end
