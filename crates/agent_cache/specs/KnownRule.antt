-- What is known of a rule that is held (this project's own).
use Rattle.std.specs.Prelude.{Option}
use Rattle.cl_types.specs.declared.keys.RuleKey.{RuleKey}
use Rattle.label_select.specs.Group.{Group}

-- its key, and the group for which it waits
pub record KnownRule : Type 0 where
  pub key : RuleKey
  pub missing : Option Group
