use Rattle.std.proofs.Common.{◌≡◌, drop, option_copied}
use Rattle.std.specs.List.{flat_map, list_any}
use Rattle.cluster_types.specs.declared.steps.Stage.TheVariants.{Native, Kubernetes, Baseline}
use Rattle.cluster_types.specs.Steps.{first}
use Rattle.held_maps.specs.Findings.{isolates_own, matching}
use Rattle.held_maps.specs.Held.{maps_of}
use Rattle.watch_streams.specs.HeldEvaluation.{net_rule_key}
use Rattle.held_maps.proofs.rules.find_rules.Given as goal

-- what is found in the policies that were looked at
abbrev pub invariant-loop-i : goal.invariant-loop-i
invariant-loop-i l =
    (option_copied l.found.native ≡ first net_rule_key (flat_map (matching (maps_of l.asked.held.now) l.asked.question.now Native) (drop l.i l.policies)))
    × (option_copied l.found.kubernetes ≡ first net_rule_key (flat_map (matching (maps_of l.asked.held.now) l.asked.question.now Kubernetes) (drop l.i l.policies)))
    × (option_copied l.found.baseline ≡ first net_rule_key (flat_map (matching (maps_of l.asked.held.now) l.asked.question.now Baseline) (drop l.i l.policies)))
    × (l.found.isolated ≡ list_any (isolates_own (maps_of l.asked.held.now) l.asked.question.now) (drop l.i l.policies))
