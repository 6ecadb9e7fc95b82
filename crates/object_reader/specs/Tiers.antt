-- Tiers of Antrea's policies.
use Rattle.std.specs.Prelude.{ℕ, List, ◌++◌, Option, Some, is_some, unwrap_or, codes}
use Rattle.serde_json.specs.Data.{Data}
use Rattle.cluster_types.specs.Tier.{TierData}
use Rattle.json_fields.specs.declared.refusal.ReadRefusal.{ReadRefusal}
use Rattle.json_fields.specs.declared.refusal.ReadRefusal.TheVariants.{BadPriority}
use Rattle.json_fields.specs.Fields.{inner}
use Rattle.json_fields.specs.Shapes.{unless, in_field, object_faults, number_within}
use Rattle.object_reader.specs.Nodes.{named_faults, name_of, spec_of}

-- a whole number of 1 to 253
unfoldable pub tier_priority : Option Data → Option ℕ
tier_priority spec = number_within 1 253 (inner (codes "priority") spec)

unfoldable pub tier_spec_faults : Option Data → List ReadRefusal
tier_spec_faults spec = object_faults spec ++ unless (is_some (tier_priority spec)) BadPriority

unfoldable pub tier_faults : Data → List ReadRefusal
tier_faults d = named_faults d ++ in_field (codes "spec") tier_spec_faults (Some d)

unfoldable pub tier_value : Data → TierData
tier_value d = record { name = name_of d; priority = unwrap_or (tier_priority (spec_of d)) 0 }
