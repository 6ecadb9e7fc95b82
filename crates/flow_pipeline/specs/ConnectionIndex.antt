-- How connections are found: by the tuple of their first packet, whose place in the index is theirs in the list.
use Rattle.std.specs.Prelude.{◌≡◌, ℕ, ◌+◌, ◌≤◌, ◌==◌, ◌&&◌, Bool, List, length, map, if◌then◌else◌}
use Rattle.std.specs.List.{IsDistinct}
use Rattle.cl_types.specs.Addr.{addr_eq}
use Rattle.cl_types.specs.Proto.{proto_eq}
use Rattle.cl_types.specs.declared.question.Packet.{Packet}
use Rattle.flow_pipeline.specs.declared.conns.Conn.{Conn}
use Rattle.flow_pipeline.specs.declared.conns.Tuple.{Tuple}
use Rattle.flow_pipeline.specs.declared.conns.TheConstants.{MAX_CONNECTIONS}

abbrev pub forth : Packet → Tuple
forth p = record { proto = p.proto; src = p.src; dst = p.dst; sport = p.sport; dport = p.dport }

-- the tuple of a reply
abbrev pub back : Packet → Tuple
back p = record { proto = p.proto; src = p.dst; dst = p.src; sport = p.dport; dport = p.sport }

abbrev pub tuple_of : Conn → Tuple
tuple_of c = record { proto = c.proto; src = c.src; dst = c.dst; sport = c.sport; dport = c.dport }

-- two tuples are one
abbrev pub tuple_eq : Tuple → Tuple → Bool
tuple_eq a b =
    proto_eq a.proto b.proto && addr_eq a.src b.src && addr_eq a.dst b.dst && (a.sport == b.sport) && (a.dport == b.dport)

-- no tuple comes twice
abbrev pub AreApart : List Tuple → Type 0
AreApart tuples = IsDistinct tuple_eq tuples

-- the connection of this tuple is seen now; every other one is as it was
abbrev pub seen_by : Tuple → ℕ → Conn → Conn
seen_by t now c = if tuple_eq t (tuple_of c) then record c { last = now } else c

-- there is room for all connections, and the index has the tuples in the order of the list
pub record IsIndexed (list : List Conn) (capacity : ℕ) (tuples : List Tuple) (spare : ℕ) : Type 0 where
  pub at_most : length list ≤ MAX_CONNECTIONS
  pub places : MAX_CONNECTIONS ≤ capacity
  pub tuples_are : tuples ≡ map tuple_of list
  pub apart : AreApart tuples
  pub room : MAX_CONNECTIONS ≤ length list + spare
