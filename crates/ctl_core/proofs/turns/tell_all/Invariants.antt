use Rattle.std.specs.Prelude.{vec_len, vec_capacity}
use Rattle.std.specs.Vec.Iter.{into_iter_items}
use Rattle.ctl_core.proofs.SoFar.{SoFar}
use Rattle.ctl_core.proofs.turns.tell_all.Given as goal

-- the first nodes were told, and the others are to come
abbrev pub invariant-loop-turn : goal.invariant-loop-turn
invariant-loop-turn g l =
    SoFar g.P.Port.state g.P.Port.same l.fn.present.cluster.cluster l.next.cluster.cluster l.fn.rev l.initial.nodes.items l.nodes.items l.i (into_iter_items l.turn-iterator) l.listed.items (vec_len l.listed) (vec_capacity l.listed)
