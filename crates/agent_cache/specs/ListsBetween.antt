-- What differs between two held states, as lists (this project's own).
use Rattle.std.specs.Prelude.{◌≡◌, ℕ, List, ◌++◌, map}
use Rattle.cl_types.specs.declared.keys.Dir.TheVariants.{Ingress, Egress}
use Rattle.cl_types.specs.declared.keys.RuleKey.{RuleKey}
use Rattle.cl_types.specs.RuleOrder.{rule_order}
use Rattle.watch_streams.specs.contracts.rule_changes.RuleParts as rule_parts
use Rattle.watch_streams.specs.declared.rule_changes.ChoiceChange.{ChoiceChange}
use Rattle.watch_streams.specs.declared.rule_changes.IsolationChange.{IsolationChange}
use Rattle.watch_streams.specs.declared.rule_changes.MarkChange.{MarkChange}
use Rattle.watch_streams.specs.declared.rule_changes.RuleParts.{RuleParts}
use Rattle.watch_streams.specs.HeldEvaluation.{HeldMaps}
use Rattle.watch_streams.specs.KeyedChanges.{altered, lacking}
use Rattle.watch_streams.specs.RuleChanges.{choice_changes, isolation_changes, mark_changes, parts_key}

-- what differs between two lists of what rules match
pub record AreBetween (old new : List RuleParts) (gone : List RuleKey) (come now_other : List RuleParts) : Type 0 where
  pub gone_are : gone ≡ map parts_key (lacking parts_key rule_order old new)
  pub come_are : come ≡ lacking parts_key rule_order new old
  pub altered_are : now_other ≡ altered rule_parts.the_row.coded parts_key rule_order old new

-- the changes of isolation, ingress first; and those of Egresses and of marks
pub record AreChangesOfAddresses (node : List ℕ) (old new : HeldMaps) (isolated : List IsolationChange) (choices : List ChoiceChange) (marked : List MarkChange) : Type 0 where
  pub isolated_are : isolated ≡ isolation_changes Ingress old new ++ isolation_changes Egress old new
  pub choices_are : choices ≡ choice_changes node old new
  pub marked_are : marked ≡ mark_changes node old new
