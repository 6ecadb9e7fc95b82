-- To whom a policy applies (Antrea: appliedTo).
use Rattle.std.specs.Prelude.{ℕ, List, [], ◌∷◌, ◌++◌, ◌&&◌, ◌||◌, Option, Some, None, is_some, codes, if◌then◌else◌}
use Rattle.std.specs.List.{filter_map}
use Rattle.serde_json.specs.Data.{Data}
use Rattle.cl_types.specs.declared.keys.PolicyKind.{PolicyKind}
use Rattle.cl_types.specs.declared.keys.PolicyKind.TheVariants.{Cluster, Antrea, Kube}
use Rattle.label_select.specs.Group.{Group}
use Rattle.json_fields.specs.declared.refusal.ReadRefusal.{ReadRefusal}
use Rattle.json_fields.specs.declared.refusal.ReadRefusal.TheVariants.{BadShape}
use Rattle.json_fields.specs.Fields.{inner, elements}
use Rattle.json_fields.specs.Faults.{each_from}
use Rattle.json_fields.specs.Shapes.{shape_fault, unless, in_field, object_faults, items_of}
use Rattle.json_fields.specs.Unknown.{other_field, unsupported}
use Rattle.object_reader.specs.Groups.{pod_selector_faults, selectors_faults, has_pod_selector, has_selector}
use Rattle.policy_objects.specs.Peers.{may_refer, has_reference, reference_faults, group_of}

-- ---- an entry

-- a field that no entry of an Antrea NetworkPolicy has
unfoldable pub beside_pods : Data → Option (List ℕ)
beside_pods d = other_field (codes "podSelector" ∷ []) (Some d)

-- a selector of pods. Beside a field that isn't supported it need not be there
unfoldable pub namespaced_entry_faults : Data → List ReadRefusal
namespaced_entry_faults d =
    object_faults (Some d) ++ unless (has_pod_selector (Some d) || is_some (beside_pods d)) (BadShape [])
    ++ unsupported (beside_pods d) ++ pod_selector_faults (Some d)

-- a field that no entry of a ClusterNetworkPolicy has
unfoldable pub beside_selectors : Data → Option (List ℕ)
beside_selectors d = other_field (codes "podSelector" ∷ codes "namespaceSelector" ∷ []) (Some d)

-- a selector of pods, of namespaces or both
unfoldable pub wide_entry_faults : Data → List ReadRefusal
wide_entry_faults d =
    object_faults (Some d) ++ unless (has_selector (Some d) || is_some (beside_selectors d)) (BadShape [])
    ++ unsupported (beside_selectors d) ++ selectors_faults (Some d)

abbrev pub plain_entry_faults : PolicyKind → Data → List ReadRefusal
plain_entry_faults Cluster d = wide_entry_faults d
plain_entry_faults Antrea d = namespaced_entry_faults d
plain_entry_faults Kube d = namespaced_entry_faults d

unfoldable pub entry_faults : PolicyKind → Data → List ReadRefusal
entry_faults kind d = if may_refer kind && has_reference d then reference_faults d else plain_entry_faults kind d

-- ---- the list

-- at least one entry
abbrev pub entries_in : PolicyKind → Option (List Data) → List ReadRefusal
entries_in kind None = shape_fault
entries_in kind (Some []) = shape_fault
entries_in kind (Some (d ∷ ds)) = each_from (entry_faults kind) 0 (d ∷ ds)

unfoldable pub entries_of : PolicyKind → Option Data → List ReadRefusal
entries_of kind None = shape_fault
entries_of kind (Some d) = entries_in kind (elements d)

unfoldable pub applied_to_faults : PolicyKind → Option Data → List ReadRefusal
applied_to_faults kind spec = in_field (codes "appliedTo") (entries_of kind) spec

unfoldable pub applied_items : Option Data → List Data
applied_items spec = items_of (inner (codes "appliedTo") spec)

-- the group of an entry that is no reference
unfoldable pub applied_of : Group → Data → Option Group
applied_of own d = if has_reference d then None else Some (group_of own (Some d))

abbrev pub applied_value : Group → List Data → List Group
applied_value own ds = filter_map (applied_of own) ds
