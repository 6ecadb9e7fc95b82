use Rattle.std.proofs.Common.{◌≡◌, take}
use Rattle.std.specs.List.{flat_map}
use Rattle.ctl_core.specs.Touched.{changed_under}
use Rattle.ctl_core.proofs.telling.changes_under.Given as goal

-- what changes under the names so far
abbrev pub invariant-loop-t : goal.invariant-loop-t
invariant-loop-t l = l.changes.items ≡ flat_map (changed_under l.old.cluster.cluster l.new.cluster.cluster l.s l.node) (take l.t-index l.touched)
