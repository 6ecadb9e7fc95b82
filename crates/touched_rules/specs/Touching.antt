-- Which held policies the changes of a stream touch (this project's own).
use Rattle.std.specs.Prelude.{◌≡◌, List, [], Bool, true, false, ◌||◌, filter}
use Rattle.std.specs.List.{flat_map, list_any}
use Rattle.std.specs.Ordering.{is_eq}
use Rattle.cl_types.specs.declared.keys.Dir.{Dir}
use Rattle.cl_types.specs.declared.keys.Dir.TheVariants.{Ingress, Egress}
use Rattle.cl_types.specs.declared.stream.Stream.{Stream}
use Rattle.cl_types.specs.declared.stream.Stream.TheVariants.{Policies, Addresses, Applied}
use Rattle.cl_types.specs.Ascending.{sorted_by}
use Rattle.cl_types.specs.PolicyName.{PolicyName}
use Rattle.cl_types.specs.RuleOrder.{rule_order}
use Rattle.cl_types.specs.Text.{text_order}
use Rattle.cl_types.specs.Written.{policy_text}
use Rattle.label_select.specs.Group.{Group}
use Rattle.label_select.specs.Written.{group_text}
use Rattle.held_maps.specs.Held.{map_on, with_map}
use Rattle.watch_streams.specs.declared.message.StreamChange.{StreamChange}
use Rattle.watch_streams.specs.declared.message.StreamChange.TheVariants as change
use Rattle.watch_streams.specs.declared.message.StreamName.{StreamName}
use Rattle.watch_streams.specs.declared.message.StreamName.TheVariants as name
use Rattle.watch_streams.specs.declared.net.NetRule.{NetRule}
use Rattle.watch_streams.specs.Difference.{after_changes}
use Rattle.watch_streams.specs.HeldEvaluation.{HeldMaps, groups_of, held_policies, is_complete, resolving_groups}
use Rattle.watch_streams.specs.InForce.{ArePartsOf, held_rule_key, rules_of}
use Rattle.watch_streams.specs.declared.rule_changes.RuleParts.{RuleParts}
use Rattle.watch_streams.specs.Names.{AscendByName, changed_name, name_of}
use Rattle.watch_streams.specs.Net.{NetPolicyData}
use Rattle.touched_rules.specs.Touched.{SameElsewhere, touched_policies}

-- The name is that of the group, by its text. One of another kind doesn't stand on a stream of groups, and may mean any.
abbrev pub may_name_group : Group → StreamName → Bool
may_name_group g (name.Group other) = is_eq (text_order (group_text other) (group_text g))
may_name_group g (name.Policy key) = true
may_name_group g (name.Egress text) = true

-- The name is that of the policy, by its text. A group's doesn't stand on the stream of policies, and may mean any.
abbrev pub may_name_policy : PolicyName → StreamName → Bool
may_name_policy key (name.Policy other) = is_eq (text_order (policy_text other) (policy_text key))
may_name_policy key (name.Egress text) = false
may_name_policy key (name.Group g) = true

-- The change may be one of the group. A removal may be one of any group.
abbrev pub may_change_group : Group → StreamChange → Bool
may_change_group g (change.Put o) = may_name_group g (name_of o)
may_change_group g (change.Patch group added removed) = may_name_group g (name.Group group)
may_change_group g (change.Remove n) = true

-- one of the changes may be one of the group
abbrev pub group_changed : List StreamChange → Group → Bool
group_changed changes g = list_any (may_change_group g) changes

-- one of the changes may be one of the policy
abbrev pub policy_changed : List StreamChange → PolicyName → Bool
policy_changed changes key = list_any (λ c. may_name_policy key (changed_name c)) changes

-- one of the groups is changed
abbrev pub some_changed : List StreamChange → List Group → Bool
some_changed changes groups = list_any (group_changed changes) groups

-- the groups of peers at which named ports are looked up, on egress alone
abbrev pub egress_groups : NetPolicyData → NetRule → Dir → List Group
egress_groups p r Ingress = []
egress_groups p r Egress = resolving_groups p r Egress

-- one of the groups is changed that the rule reads among its peers
abbrev pub reads_changed : List StreamChange → NetPolicyData → NetRule → Bool
reads_changed changes p r = some_changed changes (groups_of r.peers) || some_changed changes (egress_groups p r r.key.dir)

-- The policy itself is changed, or a group that one of its rules reads.
abbrev pub touches : Stream → List StreamChange → NetPolicyData → Bool
touches Policies changes p = policy_changed changes p.key
touches Addresses changes p = list_any (reads_changed changes p) p.rules
touches Applied changes p = some_changed changes p.applied

-- the held policies that are touched
abbrev pub policies_touched : Stream → List StreamChange → HeldMaps → List NetPolicyData
policies_touched s changes h = filter (touches s changes) (held_policies h)

-- the maps after the changes
abbrev pub maps_after : Stream → List StreamChange → HeldMaps → HeldMaps
maps_after s changes h = with_map s (after_changes s changes (map_on s h)) h

-- by their keys: the policies are touched, and all else stays
pub record TouchOnly (s : Stream) (changes : List StreamChange) (old new : HeldMaps) : Type 0 where
  pub touched : PolicyName → Bool
  pub old_touched : touched_policies touched old ≡ policies_touched s changes old
  pub new_touched : touched_policies touched new ≡ policies_touched s changes new
  pub elsewhere : SameElsewhere touched old new

abbrev pub ChangesTouchOnlyThese : Type 0
ChangesTouchOnlyThese =
    (s : Stream) (changes : List StreamChange) (h : HeldMaps) → AscendByName h.policies → TouchOnly s changes h (maps_after s changes h)

-- what the complete rules of the touched policies match
abbrev pub AreOfTouched : Stream → List StreamChange → HeldMaps → List RuleParts → Type 0
AreOfTouched s changes h parts =
    ArePartsOf h (filter (λ x. is_complete h x.policy x.rule) (sorted_by held_rule_key rule_order (flat_map rules_of (policies_touched s changes h)))) parts
