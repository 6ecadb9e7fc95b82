use Rattle.std.proofs.Common.{rules, ◌-◌, ◌+◌, ◌≡◌, ◌++◌, ◌&&◌, Bool, drop, filter, arith, ap, Some, sym, ◌∙◌, option_copied}
use Rattle.cluster_types.specs.Steps.{in_stage, first}
use Rattle.watch_streams.specs.declared.net.NetRule.{NetRule}
use Rattle.held_maps.specs.Held.{maps_of}
use Rattle.watch_streams.specs.HeldEvaluation.{held_rule_matches, net_rule_key}
use Rattle.held_maps.proofs.FirstHeld.{wanted_more}
use Rattle.held_maps.proofs.rules.first_of_applying.Goals as goal

pub loop-i-preserved-then-is_wanted : goal.loop-i-preserved-then-is_wanted
loop-i-preserved-then-is_wanted c = λ later h.
    let p : NetRule → Bool = λ r. in_stage c.args.stage c.args.policy.now.key.kind r.key && held_rule_matches (maps_of c.args.asked.now.held.now) c.args.asked.now.question.now c.args.policy.now r in
    let place : c.loop-i.i ≡ c.loop-i.i - 1 + 1 = omega arith in
    ap Some c.earlier.ensures
    ∙ wanted_more p c.as_slice-rules.result.now later (c.loop-i.i - 1) c.index-rules-i.result (option_copied c.loop-i.found) (search rules) c.index-rules-i.is (sym c.if-is_wanted.ensures)
    (c.loop-i.invariant later h ∙ ap (λ n. first net_rule_key (filter p (drop n c.as_slice-rules.result.now) ++ later)) place)
