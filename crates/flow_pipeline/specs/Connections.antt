-- The connections that a switch knows. Connection tracking and the state of a known connection are those of
-- ct_state (ovs-fields(7)); the number of connections, the clock and the ticks are this project's own.
use Rattle.std.specs.Prelude.{ℕ, ◌+◌, ◌-◌, ◌==◌, ◌&&◌, ◌||◌, List, [], ◌∷◌, ◌++◌, Bool, nat_lt, length, map, filter, if◌then◌else◌}
use Rattle.std.specs.List.{list_any}
use Rattle.cl_types.specs.declared.question.Packet.{Packet}
use Rattle.cl_types.specs.Addr.{addr_eq}
use Rattle.cl_types.specs.Proto.{proto_eq}
use Rattle.flow_pipeline.specs.declared.conns.Conn.{Conn}
use Rattle.flow_pipeline.specs.declared.conns.TheConstants.{MAX_CONNECTIONS, IDLE_TICKS}

-- the clock, and the connections in the order in which they were first seen
pub record Tracked : Type 0 where
  pub clock : ℕ
  pub list : List Conn

abbrev pub no_connections : Tracked
no_connections = record { clock = 0; list = [] }

-- the packet goes the way in which the connection was first seen
abbrev pub goes_forth : Packet → Conn → Bool
goes_forth p c = proto_eq p.proto c.proto && addr_eq p.src c.src && addr_eq p.dst c.dst && (p.sport == c.sport) && (p.dport == c.dport)

-- the packet goes the other way, as a reply does
abbrev pub comes_back : Packet → Conn → Bool
comes_back p c = proto_eq p.proto c.proto && addr_eq p.dst c.src && addr_eq p.src c.dst && (p.dport == c.sport) && (p.sport == c.dport)

-- the packet is one of the connection
abbrev pub is_of : Packet → Conn → Bool
is_of p c = goes_forth p c || comes_back p c

abbrev pub is_known : Tracked → Packet → Bool
is_known k p = list_any (is_of p) k.list

-- the connection of a packet, last seen at this time
abbrev pub conn_of : Packet → ℕ → Conn
conn_of p now = record { src = p.src; dst = p.dst; proto = p.proto; sport = p.sport; dport = p.dport; last = now }

-- the packet's connection is seen now; every other one is as it was
abbrev pub seen : Packet → ℕ → Conn → Conn
seen p now c = if is_of p c then record c { last = now } else c

abbrev pub is_full : Tracked → Bool
is_full k = nat_lt MAX_CONNECTIONS (length k.list + 1)

-- once the packet's connection is seen
abbrev pub renewed : Tracked → Packet → Tracked
renewed k p = record k { list = map (seen p k.clock) k.list }

-- with the packet's connection at the end
abbrev pub added : Tracked → Packet → Tracked
added k p = record k { list = k.list ++ conn_of p k.clock ∷ [] }

-- once a packet was let through: its connection is seen now, or is added where there is room
abbrev pub noted : Tracked → Packet → Tracked
noted k p = if is_known k p then renewed k p else if is_full k then k else added k p

-- a packet that isn't let through changes nothing
abbrev pub note : Tracked → Packet → Bool → Tracked
note k p through = if through then noted k p else k

-- the connection was seen less than so many ticks ago
abbrev pub is_fresh : ℕ → Conn → Bool
is_fresh clock c = nat_lt (clock - c.last) IDLE_TICKS

-- the clock goes on, and the connections that weren't seen for so long are dropped
abbrev pub tick : Tracked → ℕ → Tracked
tick k count = record { clock = k.clock + count; list = filter (is_fresh (k.clock + count)) k.list }
