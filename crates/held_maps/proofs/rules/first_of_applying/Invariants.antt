use Rattle.std.proofs.Common.{◌≡◌, ◌++◌, ◌&&◌, List, drop, filter, option_copied}
use Rattle.cluster_types.specs.Steps.{in_stage, first}
use Rattle.watch_streams.specs.declared.net.NetRule.{NetRule}
use Rattle.held_maps.specs.Held.{maps_of}
use Rattle.watch_streams.specs.HeldEvaluation.{held_rule_matches, net_rule_key}
use Rattle.held_maps.proofs.rules.first_of_applying.Given as goal

-- the first of the rules that were looked at, and of those after them
abbrev pub invariant-loop-i : goal.invariant-loop-i
invariant-loop-i l =
    (later : List NetRule) → option_copied l.fn.after ≡ first net_rule_key later
    → option_copied l.found ≡ first net_rule_key (filter (λ r. in_stage l.stage l.policy.key.kind r.key && held_rule_matches (maps_of l.asked.held.now) l.asked.question.now l.policy r) (drop l.i l.rules) ++ later)
