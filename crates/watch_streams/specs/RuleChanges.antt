-- What differs between what two held states put in force at a node (this project's own).
use Rattle.std.specs.Prelude.{◌≡◌, ℕ, List, ◌++◌, map, true, false}
use base.Stored.{Coded}
use Rattle.cl_types.specs.declared.addr.Addr.{Addr}
use Rattle.cl_types.specs.declared.keys.Dir.{Dir}
use Rattle.cl_types.specs.declared.keys.Dir.TheVariants.{Ingress, Egress}
use Rattle.cl_types.specs.declared.keys.RuleKey.{RuleKey}
use Rattle.cl_types.specs.Addr.{addr_order}
use Rattle.cl_types.specs.RuleOrder.{rule_order}
use Rattle.watch_streams.specs.declared.rule_changes.Choice.TheVariants.{Plain}
use Rattle.watch_streams.specs.contracts.rule_changes.ChoiceChange as choice
use Rattle.watch_streams.specs.declared.rule_changes.ChoiceChange.{ChoiceChange}
use Rattle.watch_streams.specs.contracts.rule_changes.IsolationChange as isolation
use Rattle.watch_streams.specs.declared.rule_changes.IsolationChange.{IsolationChange}
use Rattle.watch_streams.specs.contracts.rule_changes.MarkChange as mark
use Rattle.watch_streams.specs.declared.rule_changes.MarkChange.{MarkChange}
use Rattle.watch_streams.specs.declared.rule_changes.RuleChanges.{RuleChanges}
use Rattle.watch_streams.specs.contracts.rule_changes.RuleParts as rule_parts
use Rattle.watch_streams.specs.declared.rule_changes.RuleParts.{RuleParts}
use Rattle.watch_streams.specs.HeldEvaluation.{HeldMaps}
use Rattle.watch_streams.specs.InForce.{AreRulesInForce, egress_pods, held_choice, held_marks, isolated_addresses}
use Rattle.watch_streams.specs.KeyedChanges.{altered, changes_of, lacking}

abbrev pub parts_key : RuleParts → RuleKey
parts_key parts = parts.key

-- ---- what is in force, as changes from nothing

abbrev pub isolations : Dir → HeldMaps → List IsolationChange
isolations dir h = map (λ a. record { dir = dir; address = a; now = true }) (isolated_addresses h dir)

abbrev pub choices : List ℕ → HeldMaps → List ChoiceChange
choices node h = map (λ a. record { pod = a; now = held_choice node h a }) (egress_pods h)

abbrev pub marks : List ℕ → HeldMaps → List MarkChange
marks node h = map (λ a. record { address = a; now = true }) (held_marks node h)

-- ---- what takes these changes back

abbrev pub isolation_ended : IsolationChange → IsolationChange
isolation_ended c = record c { now = false }

abbrev pub choice_ended : ChoiceChange → ChoiceChange
choice_ended c = record c { now = Plain }

abbrev pub mark_ended : MarkChange → MarkChange
mark_ended c = record c { now = false }

-- ---- the changes

abbrev pub isolation_changes : Dir → HeldMaps → HeldMaps → List IsolationChange
isolation_changes dir old new =
    changes_of isolation.the_row.coded (λ (c : IsolationChange). c.address) addr_order isolation_ended (isolations dir old) (isolations dir new)

abbrev pub choice_changes : List ℕ → HeldMaps → HeldMaps → List ChoiceChange
choice_changes node old new =
    changes_of choice.the_row.coded (λ (c : ChoiceChange). c.pod) addr_order choice_ended (choices node old) (choices node new)

abbrev pub mark_changes : List ℕ → HeldMaps → HeldMaps → List MarkChange
mark_changes node old new = changes_of mark.the_row.coded (λ (c : MarkChange). c.address) addr_order mark_ended (marks node old) (marks node new)

-- the rules that are in force no longer, those that came into force, and those that match something else than before
pub record AreChangesOfRules (old new : HeldMaps) (gone : List RuleKey) (come now_other : List RuleParts) : Type 0 where
  pub old_rules : List RuleParts
  pub new_rules : List RuleParts
  pub were : AreRulesInForce old old_rules
  pub are : AreRulesInForce new new_rules
  pub gone_are : gone ≡ map parts_key (lacking parts_key rule_order old_rules new_rules)
  pub come_are : come ≡ lacking parts_key rule_order new_rules old_rules
  pub altered_are : now_other ≡ altered rule_parts.the_row.coded parts_key rule_order old_rules new_rules

-- the changes of the rules; those of isolation, ingress first; and those of Egresses and of marks
pub record AreRuleChanges (node : List ℕ) (old new : HeldMaps) (changes : RuleChanges) : Type 0 where
  pub rules : AreChangesOfRules old new changes.gone changes.come changes.altered
  pub isolated : changes.isolated ≡ isolation_changes Ingress old new ++ isolation_changes Egress old new
  pub choices : changes.choices ≡ choice_changes node old new
  pub marked : changes.marked ≡ mark_changes node old new
