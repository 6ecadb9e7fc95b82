use Rattle.std.proofs.Common.{arith}
use Rattle.cl_types.proofs.Names.{policy_text_injective, rule_text_injective, pod_text_injective}
use Rattle.cl_types.proofs.laws.texts_tell_names_apart.Goals as goal

pub returns-clause-policies : goal.returns-clause-policies
returns-clause-policies c = policy_text_injective

pub returns-clause-rules : goal.returns-clause-rules
returns-clause-rules c = λ a b p q e. rule_text_injective a b p.policy q.policy (omega (arith, p.index)) (omega (arith, q.index)) e

pub returns-clause-pods : goal.returns-clause-pods
returns-clause-pods c = pod_text_injective
