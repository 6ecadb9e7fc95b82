use Rattle.std.proofs.Common.{◌≡◌, ◌++◌, map, take}
use Rattle.touched_rules.proofs.rules.push_rules.Given as goal

abbrev pub invariant-loop-rule : goal.invariant-loop-rule
invariant-loop-rule l =
    l.out.items ≡ l.initial.out.items ++ map (λ r. record { policy = l.policy; rule = r }) (take l.rule-index l.rules)
