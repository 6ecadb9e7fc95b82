-- A planned message as plain data (this project's own).
use Rattle.std.specs.Prelude.{List}
use Rattle.held_maps.specs.ReadyData.{ReadyData}
use Rattle.watch_streams.specs.declared.rule_changes.RuleChanges.{RuleChanges}
use Rattle.agent_cache.specs.KnownRule.{KnownRule}

-- what changes, the message that is ready to be taken, and what is known of the rules once it was taken
pub record PlanData : Type 0 where
  pub changes : RuleChanges
  pub ready : ReadyData
  pub known : List KnownRule
