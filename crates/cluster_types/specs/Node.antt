-- Nodes and namespaces as plain data, and what their types keep.
use Rattle.std.specs.Prelude.{ℕ, ◌≤◌, List, Bool, false, ◌||◌, Option, Some}
use Rattle.std.specs.Option.{ForSome, option_map_or}
use Rattle.cl_types.specs.declared.addr.Addr.{Addr}
use Rattle.cl_types.specs.declared.addr.Addr.TheVariants.{V4, V6}
use Rattle.cl_types.specs.Prefix.{PrefixData, holds}
use Rattle.label_select.specs.declared.labels.Label.{Label}

pub record NodeData : Type 0 where
  pub name : List ℕ
  pub cidr : PrefixData
  pub cidr6 : Option PrefixData

pub record NamespaceData : Type 0 where
  pub name : List ℕ
  pub labels : List Label

-- a block of IPv4 that a node may have
abbrev pub IsNodeBlock : Addr → ℕ → Type 0
IsNodeBlock (V4 n) len = (8 ≤ len) × (len ≤ 30)
IsNodeBlock (V6 n) len = ⊥

-- a block of IPv6 that a node may have
abbrev pub IsNodeBlock6 : Addr → ℕ → Type 0
IsNodeBlock6 (V4 n) len = ⊥
IsNodeBlock6 (V6 n) len = (16 ≤ len) × (len ≤ 126)

pub record IsNode (cidr : PrefixData) (cidr6 : Option PrefixData) : Type 0 where
  pub four : IsNodeBlock cidr.base cidr.len
  pub six : ForSome cidr6 (λ (b : PrefixData). IsNodeBlock6 b.base b.len)

-- Two blocks have an address in common. Blocks of one family are nested or have none, so one contains the other's base.
abbrev pub blocks_meet : PrefixData → PrefixData → Bool
blocks_meet a b = holds a b.base || holds b a.base

abbrev pub both_meet : Option PrefixData → Option PrefixData → Bool
both_meet (Some a) (Some b) = blocks_meet a b
both_meet _ _ = false

-- a block of the one meets a block of the other
abbrev pub nodes_meet : NodeData → NodeData → Bool
nodes_meet n m = blocks_meet n.cidr m.cidr || both_meet n.cidr6 m.cidr6

-- the address is in a block of the node
abbrev pub node_holds : NodeData → Addr → Bool
node_holds n a = holds n.cidr a || option_map_or (λ (b : PrefixData). holds b a) n.cidr6 false
