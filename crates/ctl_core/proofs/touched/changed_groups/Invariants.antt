use Rattle.std.proofs.Common.{◌≡◌, take}
use Rattle.ctl_core.specs.Touched.{changed_groups}
use Rattle.ctl_core.proofs.touched.changed_groups.Given as goal

-- the groups of the changes so far
abbrev pub invariant-loop-change : goal.invariant-loop-change
invariant-loop-change l = l.groups.items ≡ changed_groups (take l.change-index l.changes)
