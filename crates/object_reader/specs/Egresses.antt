-- Egresses, with an address of their own or one of a pool (Antrea: Egress).
use Rattle.std.specs.Prelude.{ℕ, List, [], ◌∷◌, ◌++◌, length, Bool, true, false, not, ◌&&◌, ◌==◌, Option, Some, None, is_some, option_and_then, unwrap_or, codes, if◌then◌else◌}
use Rattle.std.specs.Option.{option_map_or}
use Rattle.serde_json.specs.Data.{Data}
use Rattle.cl_types.specs.declared.addr.Addr.{Addr}
use Rattle.cl_types.specs.declared.addr.Addr.TheVariants.{V4}
use Rattle.cluster_types.specs.declared.change.Change.TheVariants.{Put}
use Rattle.cluster_types.specs.declared.change.Object.TheVariants.{Egress}
use Rattle.cluster_types.specs.declared.references.PooledEgress.{PooledEgress}
use Rattle.cluster_types.specs.declared.references.RefItem.{RefItem}
use Rattle.cluster_types.specs.declared.references.RefItem.TheVariants.{Plain, PutPooled}
use Rattle.cluster_types.specs.Egress.{EgressData}
use Rattle.json_fields.specs.declared.refusal.ReadRefusal.{ReadRefusal}
use Rattle.json_fields.specs.declared.refusal.ReadRefusal.TheVariants.{BadShape, BadAddr}
use Rattle.json_fields.specs.Fields.{inner}
use Rattle.json_fields.specs.Shapes.{unless, in_field, object_faults, text_faults, text_of, text_value}
use Rattle.json_fields.specs.Unknown.{unsupported}
use Rattle.object_reader.specs.Groups.{selectors_faults, has_selector, cluster_group}
use Rattle.object_reader.specs.Nodes.{named_faults, name_of, spec_of}
use Rattle.object_reader.specs.Texts.{four_of, has_colon}

-- ---- the pool and the address

-- the pool's name; absent or empty the Egress has no pool
unfoldable pub pool_name : Option Data → List ℕ
pool_name spec = text_value (inner (codes "externalIPPool") spec)

unfoldable pub is_pooled : Option Data → Bool
is_pooled spec = not (length (pool_name spec) == 0)

unfoldable pub pool_faults : Option Data → List ReadRefusal
pool_faults spec = in_field (codes "externalIPPool") text_faults spec

unfoldable pub address_text : Option Data → Option (List ℕ)
address_text spec = text_of (inner (codes "egressIP") spec)

unfoldable pub has_address : Option Data → Bool
has_address spec = is_some (inner (codes "egressIP") spec)

unfoldable pub address_faults : Option Data → List ReadRefusal
address_faults spec = in_field (codes "egressIP") text_faults spec

-- an address of IPv6 isn't supported
unfoldable pub asks_six : Option Data → Bool
asks_six spec = option_map_or has_colon (address_text spec) false

unfoldable pub plural_field : Option Data → Option (List ℕ)
plural_field spec =
    if is_some (inner (codes "egressIPs") spec) then Some (codes "egressIPs")
    else (if is_some (inner (codes "externalIPPools") spec) then Some (codes "externalIPPools") else None)

-- the field of least name that isn't supported
unfoldable pub unsupported_field : Option Data → Option (List ℕ)
unsupported_field spec =
    if is_some (inner (codes "bandwidth") spec) then Some (codes "bandwidth")
    else (if asks_six spec then Some (codes "egressIP") else plural_field spec)

-- the address must be there where the Egress has no pool, but beside a field that isn't supported
unfoldable pub wants_address : Option Data → Bool
wants_address spec = not (has_address spec) && (not (is_pooled spec) && not (is_some (unsupported_field spec)))

abbrev pub wanted_faults : Bool → List ReadRefusal
wanted_faults wanted = if wanted then BadShape (codes "egressIP") ∷ [] else []

abbrev pub is_address_text : List ℕ → Bool
is_address_text text = if has_colon text then true else is_some (four_of text)

unfoldable pub is_address : Option Data → Bool
is_address spec = option_map_or is_address_text (address_text spec) true

unfoldable pub whole_address_faults : Option Data → List ReadRefusal
whole_address_faults spec =
    address_faults spec ++ unsupported (unsupported_field spec) ++ wanted_faults (wants_address spec) ++ unless (is_address spec) BadAddr

-- ---- Egresses

abbrev pub applied_faults : Option Data → List ReadRefusal
applied_faults o = unless (has_selector o) (BadShape []) ++ selectors_faults o

unfoldable pub applied_to_faults : Option Data → List ReadRefusal
applied_to_faults spec = in_field (codes "appliedTo") applied_faults spec

unfoldable pub egress_spec_faults : Option Data → List ReadRefusal
egress_spec_faults spec = object_faults spec ++ pool_faults spec ++ whole_address_faults spec ++ applied_to_faults spec

unfoldable pub egress_status_faults : Option Data → List ReadRefusal
egress_status_faults status = object_faults status ++ in_field (codes "egressNode") text_faults status

unfoldable pub status_faults : Data → List ReadRefusal
status_faults d = in_field (codes "status") egress_status_faults (Some d)

-- the status of an Egress with a pool isn't read
unfoldable pub egress_faults : Data → List ReadRefusal
egress_faults d =
    named_faults d ++ in_field (codes "spec") egress_spec_faults (Some d)
    ++ (if is_pooled (spec_of d) then [] else status_faults d)

unfoldable pub asked_address : Option Data → Option Addr
asked_address spec = option_and_then four_of (address_text spec)

unfoldable pub egress_node : Data → List ℕ
egress_node d = text_value (inner (codes "egressNode") (inner (codes "status") (Some d)))

unfoldable pub egress_value : Data → EgressData
egress_value d =
    record {
      name = name_of d;
      address = unwrap_or (asked_address (spec_of d)) (V4 0);
      node = egress_node d;
      applied = cluster_group (inner (codes "appliedTo") (spec_of d));
    }

unfoldable pub pooled_value : Data → PooledEgress
pooled_value d =
    record {
      name = name_of d;
      pool = pool_name (spec_of d);
      asked = asked_address (spec_of d);
      applied = cluster_group (inner (codes "appliedTo") (spec_of d));
    }

unfoldable pub egress_item : Data → RefItem
egress_item d = if is_pooled (spec_of d) then PutPooled (pooled_value d) else Plain (Put (Egress (egress_value d)))
