-- The changes under some keys alone, and when these are all changes (this project's own).
use Rattle.std.specs.List.{AllByRecursion, flat_map}
use Rattle.std.specs.Prelude.{◌≡◌, List, Bool, false, not, filter, map, Option, Some}
use Rattle.cl_types.specs.declared.keys.RuleKey.{RuleKey}
use Rattle.cl_types.specs.Ascending.{found, sorted_by}
use Rattle.cl_types.specs.PolicyName.{PolicyName}
use Rattle.cl_types.specs.RuleOrder.{rule_order}
use Rattle.watch_streams.specs.contracts.rule_changes.RuleParts as rule_parts
use Rattle.watch_streams.specs.declared.rule_changes.RuleParts.{RuleParts}
use Rattle.watch_streams.specs.HeldEvaluation.{HeldMaps, held_policies, is_complete}
use Rattle.watch_streams.specs.Net.{NetPolicyData}
use Rattle.watch_streams.specs.declared.net.NetRule.{NetRule}
use Rattle.watch_streams.specs.InForce.{ArePartsOf, AreRulesInForce, HeldRule, IsParts, complete_rules, held_rule_key, rules_of}
use Rattle.watch_streams.specs.KeyedChanges.{altered, lacking}
use Rattle.watch_streams.specs.RuleChanges.{AreChangesOfRules, parts_key}
use Rattle.touched_rules.specs.Addresses.{PolicyHasAddresses}

-- the items whose keys are touched
abbrev pub under : {T K : Type 0} → (K → Bool) → (T → K) → List T → List T
under touched key xs = filter (λ x. touched (key x)) xs

-- the complete rule with the key
abbrev pub complete_rule_at : HeldMaps → RuleKey → Option HeldRule
complete_rule_at h k = found (λ x. rule_order (held_rule_key x) k) (complete_rules h)

-- what the complete rules match whose keys are touched, in the rule order
abbrev pub AreRulesUnder : (RuleKey → Bool) → HeldMaps → List RuleParts → Type 0
AreRulesUnder touched h parts = ArePartsOf h (under touched held_rule_key (complete_rules h)) parts

-- under each key that isn't touched the same rule is complete, if any, and it matches the same
pub record SameRulesElsewhere (touched : RuleKey → Bool) (old new : HeldMaps) : Type 0 where
  pub rules : (k : RuleKey) → touched k ≡ false → complete_rule_at old k ≡ complete_rule_at new k
  pub parts : (x : HeldRule) (parts : RuleParts) → touched (held_rule_key x) ≡ false → complete_rule_at old (held_rule_key x) ≡ Some x →
      IsParts old x.policy x.rule parts → IsParts new x.policy x.rule parts

-- where something is in force at first, and the same under each key that isn't touched, all changes are those of what the
-- rules match whose keys are touched
abbrev pub ChangesOfRulesAreUnderTouchedKeys : Type 0
ChangesOfRulesAreUnderTouchedKeys =
    (touched : RuleKey → Bool) (old new : HeldMaps) (all were are : List RuleParts) → SameRulesElsewhere touched old new →
    AreRulesInForce old all → AreRulesUnder touched old were → AreRulesUnder touched new are →
    AreChangesOfRules old new (map parts_key (lacking parts_key rule_order were are)) (lacking parts_key rule_order are were)
    (altered rule_parts.the_row.coded parts_key rule_order were are)

-- what is held puts some rules in force
abbrev pub RulesAreInForce : Type 0
RulesAreInForce = (h : HeldMaps) → AllByRecursion PolicyHasAddresses (held_policies h) → (all : List RuleParts) × AreRulesInForce h all

-- ---- touched policies

-- the rules of the policy are its own
abbrev pub HasOwnRules : NetPolicyData → Type 0
HasOwnRules p = AllByRecursion (λ (r : NetRule). r.key.policy ≡ p.key) p.rules

abbrev pub AreOwnRules : HeldMaps → Type 0
AreOwnRules h = AllByRecursion HasOwnRules (held_policies h)

abbrev pub touched_policies : (PolicyName → Bool) → HeldMaps → List NetPolicyData
touched_policies touched h = filter (λ p. touched p.key) (held_policies h)

abbrev pub other_policies : (PolicyName → Bool) → HeldMaps → List NetPolicyData
other_policies touched h = filter (λ p. not (touched p.key)) (held_policies h)

-- the complete rules of the touched policies, in the rule order
abbrev pub touched_rules : (PolicyName → Bool) → HeldMaps → List HeldRule
touched_rules touched h =
    filter (λ x. is_complete h x.policy x.rule) (sorted_by held_rule_key rule_order (flat_map rules_of (touched_policies touched h)))

-- what these rules match
abbrev pub AreTouchedRules : (PolicyName → Bool) → HeldMaps → List RuleParts → Type 0
AreTouchedRules touched h parts = ArePartsOf h (touched_rules touched h) parts

-- the rule is complete at both or at neither, and matches the same
pub record SameRule (old new : HeldMaps) (x : HeldRule) : Type 0 where
  pub complete : is_complete old x.policy x.rule ≡ is_complete new x.policy x.rule
  pub parts : (parts : RuleParts) → IsParts old x.policy x.rule parts → IsParts new x.policy x.rule parts

-- the other policies are the same, and so is what their rules match
pub record SameElsewhere (touched : PolicyName → Bool) (old new : HeldMaps) : Type 0 where
  pub policies : other_policies touched old ≡ other_policies touched new
  pub rules : AllByRecursion (SameRule old new) (flat_map rules_of (other_policies touched old))

-- then all changes are those of what the rules of the touched policies match
abbrev pub ChangesOfRulesAreOfTouchedPolicies : Type 0
ChangesOfRulesAreOfTouchedPolicies =
    (touched : PolicyName → Bool) (old new : HeldMaps) (were are : List RuleParts) → AllByRecursion PolicyHasAddresses (held_policies old) →
    AreOwnRules old → AreOwnRules new → SameElsewhere touched old new → AreTouchedRules touched old were → AreTouchedRules touched new are →
    AreChangesOfRules old new (map parts_key (lacking parts_key rule_order were are)) (lacking parts_key rule_order are were)
    (altered rule_parts.the_row.coded parts_key rule_order were are)
