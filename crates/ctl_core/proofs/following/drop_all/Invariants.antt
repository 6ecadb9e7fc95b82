use Rattle.std.proofs.Common.{take}
use Rattle.ctl_core.specs.Uses.{IsUsedLess}
use Rattle.ctl_core.proofs.following.drop_all.Given as goal

-- the groups so far are in use once less
abbrev pub invariant-loop-g : goal.invariant-loop-g
invariant-loop-g l = IsUsedLess (take l.g-index l.groups) l.initial.index l.index
