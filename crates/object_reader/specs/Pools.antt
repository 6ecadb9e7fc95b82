-- Pools of addresses for Egresses (Antrea: ExternalIPPool).
use Rattle.std.specs.Prelude.{ℕ, ◌+◌, ◌-◌, ◌^◌, List, [], ◌∷◌, ◌++◌, map, Bool, true, false, not, ◌&&◌, nat_le, Option, Some, None, is_some, option_and_then, unwrap_or, codes, if◌then◌else◌}
use Rattle.serde_json.specs.Data.{Data}
use Rattle.cl_types.specs.declared.addr.Addr.{Addr}
use Rattle.cl_types.specs.declared.addr.Addr.TheVariants.{V4, V6}
use Rattle.cl_types.specs.Prefix.{PrefixData}
use Rattle.cluster_types.specs.declared.references.Pool.{Pool}
use Rattle.cluster_types.specs.declared.references.Range.{Range}
use Rattle.json_fields.specs.declared.refusal.ReadRefusal.{ReadRefusal}
use Rattle.json_fields.specs.declared.refusal.ReadRefusal.TheVariants.{BadShape, BadAddr, BadPrefix}
use Rattle.json_fields.specs.Fields.{inner, elements, is_object}
use Rattle.json_fields.specs.Faults.{each_from}
use Rattle.json_fields.specs.Shapes.{shape_fault, unless, in_field, object_faults, text_faults, text_of, items_of}
use Rattle.json_fields.specs.Unknown.{other_field, unsupported}
use Rattle.cl_types.specs.ReadText.{read_block}
use Rattle.object_reader.specs.Nodes.{named_faults, name_of, spec_of}
use Rattle.object_reader.specs.Texts.{four_of, has_colon}

-- ---- one range

-- a range is a block alone
unfoldable pub is_block_range : Data → Bool
is_block_range d = is_some (inner (codes "cidr") (Some d)) && not (is_some (other_field (codes "cidr" ∷ []) (Some d)))

-- or its first and last address alone
unfoldable pub is_ends_range : Data → Bool
is_ends_range d =
    is_some (inner (codes "start") (Some d)) && (is_some (inner (codes "end") (Some d))
    && not (is_some (other_field (codes "start" ∷ codes "end" ∷ []) (Some d))))

-- a range of IPv6 isn't supported
abbrev pub six_faults : List ReadRefusal
six_faults = unsupported (Some (codes "ipRanges"))

abbrev pub block_text_faults : Option (List ℕ) → List ReadRefusal
block_text_faults None = []
block_text_faults (Some text) = if has_colon text then six_faults else unless (is_some (read_block text)) BadPrefix

abbrev pub end_text_faults : Option (List ℕ) → List ReadRefusal
end_text_faults None = []
end_text_faults (Some text) = if has_colon text then six_faults else unless (is_some (four_of text)) BadAddr

unfoldable pub block_range_faults : Data → List ReadRefusal
block_range_faults d = in_field (codes "cidr") text_faults (Some d) ++ block_text_faults (text_of (inner (codes "cidr") (Some d)))

unfoldable pub start_faults : Data → List ReadRefusal
start_faults d = in_field (codes "start") text_faults (Some d) ++ end_text_faults (text_of (inner (codes "start") (Some d)))

unfoldable pub end_faults : Data → List ReadRefusal
end_faults d = in_field (codes "end") text_faults (Some d) ++ end_text_faults (text_of (inner (codes "end") (Some d)))

unfoldable pub start_of : Data → Option Addr
start_of d = option_and_then four_of (text_of (inner (codes "start") (Some d)))

unfoldable pub end_of : Data → Option Addr
end_of d = option_and_then four_of (text_of (inner (codes "end") (Some d)))

-- two addresses of IPv4 are in order
abbrev pub are_in_order : Option Addr → Option Addr → Bool
are_in_order (Some (V4 lo)) (Some (V4 hi)) = nat_le lo hi
are_in_order _ _ = true

unfoldable pub ends_range_faults : Data → List ReadRefusal
ends_range_faults d = start_faults d ++ end_faults d ++ unless (are_in_order (start_of d) (end_of d)) (BadShape [])

unfoldable pub range_faults : Data → List ReadRefusal
range_faults d =
    if is_block_range d then block_range_faults d else (if is_ends_range d then ends_range_faults d else shape_fault)

-- ---- pools

-- at least one range
abbrev pub ranges_in : Option (List Data) → List ReadRefusal
ranges_in None = shape_fault
ranges_in (Some []) = shape_fault
ranges_in (Some (d ∷ ds)) = each_from range_faults 0 (d ∷ ds)

unfoldable pub ranges_of : Option Data → List ReadRefusal
ranges_of None = shape_fault
ranges_of (Some d) = ranges_in (elements d)

unfoldable pub ranges_faults : Option Data → List ReadRefusal
ranges_faults spec = in_field (codes "ipRanges") ranges_of spec

abbrev pub chooses_nodes : Option Data → Bool
chooses_nodes None = false
chooses_nodes (Some d) = if is_object d then is_some (other_field [] (Some d)) else true

-- a selector of nodes isn't supported, but for the empty one
unfoldable pub node_selector_faults : Option Data → List ReadRefusal
node_selector_faults spec =
    if chooses_nodes (inner (codes "nodeSelector") spec) then unsupported (Some (codes "nodeSelector")) else []

unfoldable pub pool_spec_faults : Option Data → List ReadRefusal
pool_spec_faults spec = object_faults spec ++ ranges_faults spec ++ node_selector_faults spec

unfoldable pub pool_faults : Data → List ReadRefusal
pool_faults d = named_faults d ++ in_field (codes "spec") pool_spec_faults (Some d)

-- ---- what a pool means

-- the greatest address of IPv4
abbrev pub greatest : ℕ
greatest = 4294967295

-- the last address of a block of IPv4
abbrev pub last_from : ℕ → ℕ → Addr
last_from n len = if nat_le (n + 2 ^ (32 - len)) greatest then V4 (n + 2 ^ (32 - len) - 1) else V4 greatest

abbrev pub last_of : PrefixData → Addr → Addr
last_of b (V4 n) = last_from n b.len
last_of b (V6 n) = V6 n

abbrev pub block_or_none : Option PrefixData → PrefixData
block_or_none None = record { base = V4 0; len = 32 }
block_or_none (Some b) = b

unfoldable pub range_block : Data → PrefixData
range_block d = block_or_none (option_and_then read_block (text_of (inner (codes "cidr") (Some d))))

unfoldable pub range_value : Data → Range
range_value d =
    if is_block_range d then record { lo = (range_block d).base; hi = last_of (range_block d) (range_block d).base }
    else record { lo = unwrap_or (start_of d) (V4 0); hi = unwrap_or (end_of d) (V4 0) }

unfoldable pub ranges_value : Option Data → List Range
ranges_value spec = map range_value (items_of (inner (codes "ipRanges") spec))

unfoldable pub pool_value : Data → Pool
pool_value d = record { name = name_of d; ranges = ranges_value (spec_of d) }
