use Rattle.std.proofs.Common.{◌≡◌, map, take}
use Rattle.node_objects.specs.Touched.{touched_name}
use Rattle.node_objects.proofs.touched.all_touched.Given as goal

-- the names so far
abbrev pub invariant-loop-titled : goal.invariant-loop-titled
invariant-loop-titled l = l.touched.items ≡ map (touched_name l.c.cluster l.old l.d.cluster l.new) (take l.titled-index l.names)
