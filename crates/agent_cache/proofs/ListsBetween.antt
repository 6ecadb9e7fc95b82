-- The differences of what rules match as the changes of rules.
use Rattle.std.proofs.Common.{◌≡◌, List, filter, map, sym, subst, ◌∙◌}
use Rattle.std.specs.List.{AllByRecursion, flat_map}
use Rattle.cl_types.specs.declared.keys.RuleKey.{RuleKey}
use Rattle.cl_types.specs.declared.stream.Stream.{Stream}
use Rattle.cl_types.specs.Ascending.{sorted_by}
use Rattle.cl_types.specs.RuleOrder.{rule_order}
use Rattle.held_maps.specs.Held.{HeldData, maps_of}
use Rattle.held_maps.proofs.PolicyMaps.{map_ascends}
use Rattle.watch_streams.specs.contracts.rule_changes.RuleParts as rule_parts
use Rattle.watch_streams.specs.declared.message.StreamChange.{StreamChange}
use Rattle.watch_streams.specs.declared.rule_changes.RuleParts.{RuleParts}
use Rattle.watch_streams.specs.HeldEvaluation.{HeldMaps, held_policies, is_complete}
use Rattle.watch_streams.specs.InForce.{ArePartsOf, AreRulesInForce, held_rule_key, rules_of}
use Rattle.watch_streams.specs.KeyedChanges.{altered, lacking}
use Rattle.watch_streams.specs.Net.{NetPolicyData}
use Rattle.watch_streams.specs.RuleChanges.{AreChangesOfRules, parts_key}
use Rattle.touched_rules.specs.Addresses.{PolicyHasAddresses}
use Rattle.touched_rules.specs.Touched.{AreOwnRules}
use Rattle.touched_rules.specs.Touching.{AreOfTouched, TouchOnly, maps_after}
use Rattle.agent_cache.specs.ListsBetween.{AreBetween}
use Rattle.touched_rules.proofs.OnlyTouched.{touch_only}
use Rattle.touched_rules.proofs.TouchedPolicies.{changes_are_touched}

module _ (old new olds news : List RuleParts) (gone : List RuleKey) (come now_other : List RuleParts) (old_is : olds ≡ old) (new_is : news ≡ new) (between : AreBetween olds news gone come now_other) where
  same_between : AreBetween old new gone come now_other
  same_between = record {
    gone_are = between.gone_are ∙ (λ i. map parts_key (lacking parts_key rule_order (old_is i) (new_is i)));
    come_are = between.come_are ∙ (λ i. lacking parts_key rule_order (new_is i) (old_is i));
    altered_are = between.altered_are ∙ (λ i. altered rule_parts.the_row.coded parts_key rule_order (old_is i) (new_is i));
  }

  -- of all rules
  pub all_between : (h k : HeldMaps) → AreRulesInForce h old → AreRulesInForce k new → AreChangesOfRules h k gone come now_other
  all_between h k were are = record {
    old_rules = old;
    new_rules = new;
    were = were;
    are = are;
    gone_are = same_between.gone_are;
    come_are = same_between.come_are;
    altered_are = same_between.altered_are;
  }

  -- of the rules of touched policies
  pub touched_between : (s : Stream) (cs : List StreamChange) (before : HeldData) (k : HeldMaps) → k ≡ maps_after s cs (maps_of before)
      → AllByRecursion PolicyHasAddresses (held_policies (maps_of before)) → AreOwnRules (maps_of before) → AreOwnRules k
      → AreOfTouched s cs (maps_of before) old → AreOfTouched s cs k new → AreChangesOfRules (maps_of before) k gone come now_other
  touched_between s cs before k leads forms own own_too were are =
      let h = maps_of before in
      let only : TouchOnly s cs h k = subst (λ (m : HeldMaps). TouchOnly s cs h m) (sym leads) (touch_only s cs h (map_ascends before.policies before.egresses)) in
      let were_are = subst (λ (ps : List NetPolicyData). ArePartsOf h (filter (λ x. is_complete h x.policy x.rule) (sorted_by held_rule_key rule_order (flat_map rules_of ps))) old) (sym only.old_touched) were in
      let are_are = subst (λ (ps : List NetPolicyData). ArePartsOf k (filter (λ x. is_complete k x.policy x.rule) (sorted_by held_rule_key rule_order (flat_map rules_of ps))) new) (sym only.new_touched) are in
      let all = changes_are_touched only.touched h k old new forms own own_too only.elsewhere were_are are_are in
      record {
        old_rules = all.old_rules;
        new_rules = all.new_rules;
        were = all.were;
        are = all.are;
        gone_are = same_between.gone_are ∙ all.gone_are;
        come_are = same_between.come_are ∙ all.come_are;
        altered_are = same_between.altered_are ∙ all.altered_are;
      }
