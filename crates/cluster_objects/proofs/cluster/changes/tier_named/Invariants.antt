use Rattle.std.proofs.Common.{◌≡◌, drop, find}
use Rattle.cl_types.specs.Text.{text_eq}
use Rattle.cluster_objects.proofs.cluster.changes.tier_named.Given as goal

-- what is sought is among the tiers that are left
abbrev pub invariant-loop-tier : goal.invariant-loop-tier
invariant-loop-tier l = find (λ t. text_eq t.name l.name) (drop l.tier-index l.tiers) ≡ find (λ t. text_eq t.name l.name) l.tiers
