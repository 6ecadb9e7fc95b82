-- The classes by which an index tells the flows of a table apart, so that the flows that a packet may hit
-- are in a few of them.
use Rattle.std.specs.Prelude.{ℕ, ◌-◌, ◌/◌, ◌^◌, ◌==◌, Bool, true, false, Option, Some, None}
use Rattle.cl_types.specs.declared.addr.Addr.{Addr}
use Rattle.cl_types.specs.Addr.{number_of, width_of}
use Rattle.cl_types.specs.Prefix.{PrefixData}
use Rattle.flow_tables.specs.declared.class.Bits.{Bits}
use Rattle.flow_tables.specs.declared.class.Block.{Block}
use Rattle.flow_tables.specs.declared.class.Block.TheVariants.{Source, Destination, Any}
use Rattle.flow_tables.specs.declared.class.Class.{Class}
use Rattle.flow_tables.specs.declared.class.Role.{Role}
use Rattle.flow_tables.specs.declared.class.Role.TheVariants.{Conj}
use Rattle.flow_tables.specs.declared.class.Scope.{Scope}
use Rattle.flow_tables.specs.declared.class.Shape.{Shape}
use Rattle.flow_tables.specs.declared.class.Shape.TheVariants as shape
use Rattle.flow_entries.specs.declared.flow.Flow.{Flow}
use Rattle.flow_tables.specs.declared.lookup.Arrival.{Arrival}
use Rattle.flow_entries.specs.declared.table.Table.{Table}
use Rattle.flow_entries.specs.Table.{table_place}

-- the first bits of the address, as a number
abbrev pub first_bits : Addr → ℕ → ℕ
first_bits a len = number_of a / 2 ^ (width_of a - len)

abbrev pub bits_of : Addr → ℕ → Bits
bits_of a len = record { width = width_of a; len = len; bits = first_bits a len }

-- the block of a source, else of a destination
abbrev pub block_of : Option PrefixData → Option PrefixData → Block
block_of (Some b) dst = Source (bits_of b.base b.len)
block_of None (Some b) = Destination (bits_of b.base b.len)
block_of None None = Any

abbrev pub scope_of : Table → Role → Scope
scope_of table role = record { table = table_place table; role = role }

-- the class of a flow in a role
abbrev pub class_of : Role → Flow → Class
class_of role f = record { scope = scope_of f.table role; block = block_of f.fields.src f.fields.dst }

-- the class of an id's conj flows
abbrev pub conj_class : Table → ℕ → ℕ → Class
conj_class table priority id = record { scope = scope_of table (Conj priority id); block = Any }

-- ---- shapes

abbrev pub shape_eq : Shape → Shape → Bool
shape_eq (shape.Source a) (shape.Source b) = a == b
shape_eq (shape.Destination a) (shape.Destination b) = a == b
shape_eq shape.Any shape.Any = true
shape_eq _ _ = false

-- how many bits of the source tell a flow from others, else of the destination
abbrev pub shape_of : Option PrefixData → Option PrefixData → Shape
shape_of (Some b) dst = shape.Source b.len
shape_of None (Some b) = shape.Destination b.len
shape_of None None = shape.Any

-- the packet's block of a shape
abbrev pub block_at : Arrival → Shape → Block
block_at a (shape.Source len) = Source (bits_of a.packet.src len)
block_at a (shape.Destination len) = Destination (bits_of a.packet.dst len)
block_at a shape.Any = Any

-- the class of the packet's flows of a role and a shape
abbrev pub class_at : Arrival → Role → Shape → Class
class_at a role shape = record { scope = scope_of a.table role; block = block_at a shape }
