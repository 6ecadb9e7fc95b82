use Rattle.std.proofs.Common.{◌≡◌, map, take}
use Rattle.ctl_core.specs.Telling.{turn_of}
use Rattle.ctl_core.proofs.telling.all_turns.Given as goal

-- the turns of the nodes so far
abbrev pub invariant-loop-n : goal.invariant-loop-n
invariant-loop-n g l = l.all.items ≡ map (turn_of l.old.cluster.cluster l.new.cluster.cluster l.rev) (take l.n-index l.nodes)
