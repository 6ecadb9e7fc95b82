use Rattle.std.proofs.Common.{rules, ◌-◌, ◌+◌, ◌≡◌, ◌++◌, ◌&&◌, Bool, drop, filter, arith, ap, Some, sym, ◌∙◌, option_copied}
use Rattle.cluster_types.specs.declared.policy.Rule.{Rule}
use Rattle.cluster_types.specs.Evaluation.{rule_matches, rule_key}
use Rattle.cluster_types.specs.Steps.{in_stage, first}
use Rattle.policy_order.proofs.FirstRules.{wanted_more}
use Rattle.policy_order.proofs.rules.first_of_applying.Goals as goal

pub loop-i-preserved-then-is_wanted : goal.loop-i-preserved-then-is_wanted
loop-i-preserved-then-is_wanted c = λ later h.
    let p : Rule → Bool = λ r. in_stage c.args.stage c.args.policy.now.key.kind r.key && rule_matches c.args.asked.now.cluster.now.cluster c.args.policy.now r c.args.asked.now.pod.now c.args.asked.now.question.now in
    let place : c.loop-i.i ≡ c.loop-i.i - 1 + 1 = omega arith in
    ap Some c.earlier.ensures
    ∙ wanted_more p c.as_slice-rules.result.now later (c.loop-i.i - 1) c.index-rules-i.result (option_copied c.loop-i.found) (search rules) c.index-rules-i.is (sym c.if-is_wanted.ensures)
    (c.loop-i.invariant later h ∙ ap (λ n. first rule_key (filter p (drop n c.as_slice-rules.result.now) ++ later)) place)
