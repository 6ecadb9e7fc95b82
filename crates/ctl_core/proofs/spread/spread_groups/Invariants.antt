use Rattle.std.proofs.Common.{◌≡◌, take}
use Rattle.ctl_core.specs.Spread.{spread_groups}
use Rattle.ctl_core.proofs.spread.spread_groups.Given as goal

-- the groups of the changes so far
abbrev pub invariant-loop-change : goal.invariant-loop-change
invariant-loop-change l = l.groups.items ≡ spread_groups l.index (take l.change-index l.changes)
