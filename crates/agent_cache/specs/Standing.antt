-- Which held rules are complete, and for which group another one waits (this project's own).
use Rattle.std.specs.Prelude.{◌≡◌, List, true, false, map, Option, Some, None}
use Rattle.label_select.specs.Group.{Group}
use Rattle.cl_types.specs.declared.keys.RuleKey.{RuleKey}
use Rattle.cl_types.specs.Ascending.{found}
use Rattle.cl_types.specs.RuleOrder.{rule_order}
use Rattle.watch_streams.specs.HeldEvaluation.{HeldMaps, is_complete}
use Rattle.watch_streams.specs.InForce.{HeldRule, held_rule_key, held_rules}
use Rattle.agent_cache.specs.declared.standing.RuleState.{RuleState}
use Rattle.agent_cache.specs.declared.standing.RuleState.TheVariants as state
use Rattle.agent_cache.specs.KnownRule.{KnownRule}
use Rattle.agent_cache.specs.Missing.{missing_group}

-- what is known of a rule, by the maps
abbrev pub standing : HeldMaps → HeldRule → KnownRule
standing h x = record { key = x.rule.key; missing = missing_group h x.policy x.rule }

-- of all held rules, in the rule order
abbrev pub standings : HeldMaps → List KnownRule
standings h = map (standing h) (held_rules h)

-- the state that a missing group tells
abbrev pub TellsState : Option Group → RuleState → Type 0
TellsState None state.Complete = Unit {0}
TellsState (Some g) (state.Waiting missing) = missing.now ≡ g
TellsState group other = ⊥

-- the state that is told by what is known of a rule
abbrev pub TellsRule : Option KnownRule → RuleState → Type 0
TellsRule None state.Absent = Unit {0}
TellsRule (Some known) told = TellsState known.missing told
TellsRule None other = ⊥

-- the held rule with the key
abbrev pub rule_at : HeldMaps → RuleKey → Option HeldRule
rule_at h k = found (λ x. rule_order (held_rule_key x) k) (held_rules h)

-- The rule with the key is complete; or it waits, for the missing group whose text is least; or no rule that is held has
-- the key.
abbrev pub IsStateOf : HeldMaps → RuleKey → RuleState → Type 0
IsStateOf h k state.Complete = (x : HeldRule) × (rule_at h k ≡ Some x) × (is_complete h x.policy x.rule ≡ true)
IsStateOf h k (state.Waiting g) =
    (x : HeldRule) × (rule_at h k ≡ Some x) × (is_complete h x.policy x.rule ≡ false) × (missing_group h x.policy x.rule ≡ Some g.now)
IsStateOf h k state.Absent = rule_at h k ≡ None
