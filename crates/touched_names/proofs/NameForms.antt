-- The names that are touched have what their types keep.
use Rattle.std.proofs.Common.{◌≡◌, List, [], ◌++◌, Option, Some, None, filter, flat_map, refl}
use Rattle.std.specs.List.{AllByRecursion}
use Rattle.std.specs.Option.{option_map_or}
use Rattle.cl_types.specs.Ascending.{found}
use Rattle.cl_types.specs.AscendingLaws.{found_holds}
use Rattle.cl_types.specs.ListLaws.{all_filter, all_weaker}
use Rattle.label_select.specs.Group.{IsGroup}
use Rattle.cluster_types.specs.Egress.{EgressData}
use Rattle.cluster_types.specs.Policy.{PolicyData}
use Rattle.cluster_types.specs.Whole.{IsWholeEgress, IsWholePolicy}
use Rattle.watch_streams.specs.declared.message.StreamName.{StreamName}
use Rattle.watch_streams.specs.declared.message.StreamName.TheVariants as name
use Rattle.watch_streams.specs.OneOfAll.{all_append, all_flat_map, all_map}
use Rattle.watch_streams.specs.Projection.{policy_groups}
use Rattle.watch_streams.proofs.GroupForms.{policy_forms}
use Rattle.touched_names.specs.Standing.{IsName, at_egress, at_policy}
use Rattle.touched_names.specs.Touching.{EgressNamesAreNames, MovedNamesAreNames, NamesAtEgressesAreNames, NamesAtPoliciesAreNames, PolicyNamesAreNames, applies_to_some, egress_applies_to_some, egress_names, group_names, policy_names}

pub policy_names_are : PolicyNamesAreNames
policy_names_are p whole =
    (whole.name, all_map IsName (λ g. name.Group g) (p.applied ++ policy_groups p) (all_append IsGroup p.applied (policy_groups p) whole.applied (policy_forms p whole)))

pub egress_names_are : EgressNamesAreNames
egress_names_are e whole = (tt, (whole, tt))

-- what all items bring has the form, so has what the one brings that is found
form_at : {T : Type 0} (names : T → List StreamName) (o : Option T) → ((x : T) → o ≡ Some x → AllByRecursion IsName (names x)) → AllByRecursion IsName (option_map_or names o [])
form_at names None forms = tt
form_at names (Some x) forms = forms x refl

pub names_at_policies_are : NamesAtPoliciesAreNames
names_at_policies_are c key whole =
    form_at policy_names (found (at_policy key) c.policies) (λ p is. policy_names_are p (found_holds (at_policy key) IsWholePolicy c.policies p whole.parts.policies is))

pub names_at_egresses_are : NamesAtEgressesAreNames
names_at_egresses_are c text whole =
    form_at egress_names (found (at_egress text) c.egresses) (λ e is. egress_names_are e (found_holds (at_egress text) IsWholeEgress c.egresses e whole.parts.egresses is))

pub moved_names_are : MovedNamesAreNames
moved_names_are moved spread c whole forms =
    all_append IsName (group_names moved) (flat_map policy_names policies ++ flat_map egress_names egresses) (all_map IsName (λ g. name.Group g) moved forms)
    (all_append IsName (flat_map policy_names policies) (flat_map egress_names egresses)
    (all_flat_map IsName policy_names policies (all_weaker IsWholePolicy (λ p. AllByRecursion IsName (policy_names p)) policy_names_are policies (all_filter IsWholePolicy (applies_to_some spread) c.policies whole.parts.policies)))
    (all_flat_map IsName egress_names egresses (all_weaker IsWholeEgress (λ e. AllByRecursion IsName (egress_names e)) egress_names_are egresses (all_filter IsWholeEgress (egress_applies_to_some spread) c.egresses whole.parts.egresses))))
  where
    policies : List PolicyData
    policies = filter (applies_to_some spread) c.policies

    egresses : List EgressData
    egresses = filter (egress_applies_to_some spread) c.egresses
