use Rattle.std.proofs.Common.{◌≡◌, ◌&&◌, ◌==◌, not, drop, find}
use Rattle.cl_types.specs.Text.{text_eq}
use Rattle.cluster_objects.proofs.cluster.refusals.taker.Given as goal

-- what is sought is among the tiers that are left
abbrev pub invariant-loop-other : goal.invariant-loop-other
invariant-loop-other l =
    find (λ s. not (text_eq s.name l.tier.name) && (s.priority == l.tier.priority)) (drop l.other-index l.tiers)
    ≡ find (λ s. not (text_eq s.name l.tier.name) && (s.priority == l.tier.priority)) l.tiers
