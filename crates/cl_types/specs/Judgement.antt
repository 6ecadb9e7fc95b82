-- A verdict with its cause, as plain data.
use Rattle.cl_types.specs.declared.keys.RuleKey.{RuleKey}
use Rattle.cl_types.specs.declared.verdict.Verdict.{Verdict}
use Rattle.cl_types.specs.declared.verdict.Cause.{Cause}
use Rattle.cl_types.specs.declared.verdict.Cause.TheVariants as cause
use Rattle.cl_types.specs.declared.verdict.Judged.{Judged}

-- a rule that decided, isolation by a Kubernetes policy, or neither
pub data Reason : Type 0 where
  by_rule : RuleKey → Reason
  by_isolation : Reason
  by_default : Reason

pub record Judgement : Type 0 where
  pub verdict : Verdict
  pub by : Reason

-- the cause without where its rule lies in memory
abbrev pub reason_of : Cause → Reason
reason_of (cause.Rule key) = by_rule key.now
reason_of cause.Isolation = by_isolation
reason_of cause.Default = by_default

abbrev pub judgement_of : Judged → Judgement
judgement_of j = record { verdict = j.verdict; by = reason_of j.by }
