use Rattle.std.proofs.Common.{take}
use Rattle.ctl_core.specs.Uses.{IsUsedMore}
use Rattle.ctl_core.proofs.following.put_all.Given as goal

-- the groups so far are in use once more
abbrev pub invariant-loop-g : goal.invariant-loop-g
invariant-loop-g l = IsUsedMore l.c.cluster (take l.g-index l.groups) l.initial.index l.index
