-- The state of a rule by what is known of the rules.
use Rattle.std.proofs.Common.{◌≡◌, List, true, false, Option, Some, None, option_map, refl, sym, ap, subst, ◌∙◌}
use Rattle.std.specs.Option.{is_none}
use Rattle.cl_types.specs.declared.keys.RuleKey.{RuleKey}
use Rattle.std.specs.List.{flat_map}
use Rattle.cl_types.specs.Ascending.{Ascends, found}
use Rattle.cl_types.specs.AscendingLaws.{ascends_sorted}
use Rattle.cl_types.specs.RuleOrder.{rule_order, rule_order_total}
use Rattle.label_select.specs.Group.{Group}
use Rattle.watch_streams.specs.HeldEvaluation.{HeldMaps, held_policies, is_complete}
use Rattle.watch_streams.specs.InForce.{HeldRule, held_rule_key, held_rules, rules_of}
use Rattle.agent_cache.specs.KnownRule.{KnownRule}
use Rattle.agent_cache.specs.Missing.{missing_group}
use Rattle.agent_cache.specs.declared.standing.RuleState.{RuleState}
use Rattle.agent_cache.specs.declared.standing.RuleState.TheVariants as state
use Rattle.agent_cache.specs.Standing.{IsStateOf, TellsRule, TellsState, rule_at, standing, standings}
use Rattle.agent_cache.proofs.Finding.{found_map}
use Rattle.agent_cache.proofs.Lists.{ascends_map}
use Rattle.agent_cache.proofs.Missing.{complete_exactly}

-- what is known of the rules stands in the rule order
pub standings_ascend : (h : HeldMaps) (known : List KnownRule) → known ≡ standings h → Ascends (λ (s : KnownRule). s.key) rule_order known
standings_ascend h known are =
    let P : List KnownRule → Type 0 = Ascends (λ (s : KnownRule). s.key) rule_order in
    subst P (sym are)
    (ascends_map (standing h) (λ (s : KnownRule). s.key) rule_order (held_rules h) (ascends_sorted held_rule_key rule_order_total (flat_map rules_of (held_policies h))))

module _ (h : HeldMaps) (k : RuleKey) (known : List KnownRule) (are : known ≡ standings h) where
  known_at : found (λ (s : KnownRule). rule_order s.key k) known ≡ option_map (standing h) (rule_at h k)
  known_at = ap (λ ss. found (λ (s : KnownRule). rule_order s.key k) ss) are ∙ found_map (standing h) (λ (s : KnownRule). rule_order s.key k) (held_rules h)

  -- where nothing is known no rule has the key
  pub absent_rule : found (λ (s : KnownRule). rule_order s.key k) known ≡ None → rule_at h k ≡ None
  absent_rule none = by_rule (rule_at h k) refl (sym known_at ∙ none)
    where
      by_rule : (o : Option HeldRule) → rule_at h k ≡ o → option_map (standing h) o ≡ None → rule_at h k ≡ None
      by_rule None is f = is
      by_rule (Some x) is f = cc

  -- what is known is known of the rule with the key
  pub known_rule : (s : KnownRule) → found (λ (s : KnownRule). rule_order s.key k) known ≡ Some s → (x : HeldRule) × (rule_at h k ≡ Some x) × (missing_group h x.policy x.rule ≡ s.missing)
  known_rule s here = by_rule (rule_at h k) refl (sym known_at ∙ here)
    where
      by_rule : (o : Option HeldRule) → rule_at h k ≡ o → option_map (standing h) o ≡ Some s → (x : HeldRule) × (rule_at h k ≡ Some x) × (missing_group h x.policy x.rule ≡ s.missing)
      by_rule None is f = cc
      by_rule (Some x) is f = let one : standing h x ≡ s = cc in (x, is, ap (λ (z : KnownRule). z.missing) one)

  -- a rule of which no group is missing is complete
  pub complete_rule : (s : KnownRule) → found (λ (s : KnownRule). rule_order s.key k) known ≡ Some s → s.missing ≡ None → (x : HeldRule) × (rule_at h k ≡ Some x) × (is_complete h x.policy x.rule ≡ true)
  complete_rule s here none =
      let w = known_rule s here in
      (w.0, w.1, sym (complete_exactly h w.0.policy w.0.rule) ∙ ap is_none (w.2 ∙ none))

  -- and one of which a group is missing isn't
  pub waiting_rule : (s : KnownRule) (g : Group) → found (λ (s : KnownRule). rule_order s.key k) known ≡ Some s → s.missing ≡ Some g → (x : HeldRule) × (rule_at h k ≡ Some x) × (is_complete h x.policy x.rule ≡ false) × (missing_group h x.policy x.rule ≡ Some g)
  waiting_rule s g here some =
      let w = known_rule s here in
      (w.0, w.1, sym (complete_exactly h w.0.policy w.0.rule) ∙ ap is_none (w.2 ∙ some), w.2 ∙ some)

  told_by_group : (s : KnownRule) (o : Option Group) (told : RuleState) → found (λ (s : KnownRule). rule_order s.key k) known ≡ Some s → s.missing ≡ o → TellsState o told → IsStateOf h k told
  told_by_group s None state.Complete here missing tells = complete_rule s here missing
  told_by_group s None (state.Waiting g) here missing tells = absurd tells
  told_by_group s None state.Absent here missing tells = absurd tells
  told_by_group s (Some g) state.Complete here missing tells = absurd tells
  told_by_group s (Some g) (state.Waiting m) here missing tells =
      let w = waiting_rule s g here missing in
      (w.0, w.1, w.2, w.3 ∙ ap Some (sym tells))
  told_by_group s (Some g) state.Absent here missing tells = absurd tells

  -- what is known of the rules tells the state of each
  pub state_told : (o : Option KnownRule) (told : RuleState) → found (λ (s : KnownRule). rule_order s.key k) known ≡ o → TellsRule o told → IsStateOf h k told
  state_told None state.Complete here tells = absurd tells
  state_told None (state.Waiting g) here tells = absurd tells
  state_told None state.Absent here tells = absent_rule here
  state_told (Some s) told here tells = told_by_group s s.missing told here refl tells
