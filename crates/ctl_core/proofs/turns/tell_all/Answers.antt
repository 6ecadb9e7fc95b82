use Rattle.std.proofs.Common.{length, map, ap, sym, subst, ◌∙◌, arith}
use Rattle.std.proofs.lemmas.List.{length-map}
use Rattle.ctl_core.specs.Telling.{turn_of}
use Rattle.ctl_core.specs.Touched.{AreToldOf}
use Rattle.ctl_core.proofs.SoFar.{begins, goes_on, live, next}
use Rattle.ctl_core.proofs.Told.{are_told_of}
use Rattle.ctl_core.proofs.turns.tell_all.Goals as goal

pub loop-turn-init : goal.loop-turn-init
loop-turn-init g c =
    let turns_are = c.in_ok-turns.ensures ∙ ap (map (turn_of c.args.present.now.cluster.cluster c.args.next.now.cluster.cluster c.args.rev)) c.as_slice-2.ensures.value in
    begins g.P.Port.state g.P.Port.same c.args.present.now.cluster.cluster c.args.next.now.cluster.cluster c.args.rev c.args.nodes.now.items _ _ _ _
    (c.into_iter-turn-iterator.ensures.into_iter_gives.0 ∙ turns_are) c.in_ok-listed.ensures.items
    (omega (arith, c.len.ensures, c.in_ok-listed.ensures.exact, c.in_ok-listed.ensures.len, ap length turns_are, length-map c.args.nodes.now.items (turn_of c.args.present.now.cluster.cluster c.args.next.now.cluster.cluster c.args.rev), c.in_ok-turns.turns.ok))

pub tell_one-requires-clause-live : goal.tell_one-requires-clause-live
tell_one-requires-clause-live g c =
    let n = next g.P.Port.state g.P.Port.same c.args.present.now.cluster.cluster c.args.next.now.cluster.cluster c.args.rev _ _ c.loop-turn.i c.in-Some.turn _ _ _ _ _ c.in-Some.ensures.steps.0 c.loop-turn.invariant in
    live g.P.Port.state g.P.Port.same c.args.present.now.cluster.cluster c.args.next.now.cluster.cluster c.args.rev _ _ c.loop-turn.i c.in-Some.turn _ _ _ _ n c.index_mut.result.now c.index_mut.ensures.value

pub loop-turn-preserved : goal.loop-turn-preserved
loop-turn-preserved g c =
    let n = next g.P.Port.state g.P.Port.same c.args.present.now.cluster.cluster c.args.next.now.cluster.cluster c.args.rev _ _ c.loop-turn.i c.in-Some.turn _ _ _ _ _ c.in-Some.ensures.steps.0 c.loop-turn.invariant in
    goes_on g.P.Port.state g.P.Port.same c.args.present.now.cluster.cluster c.args.next.now.cluster.cluster c.args.rev _ _ c.loop-turn.i c.in-Some.turn _ _ _ _ _ _ _ n c.index_mut.result.now c.tell_one.new.n c.index_mut.ensures.value
    c.tell_one.ensures.told c.tell_one.ensures.items c.tell_one.ensures.len c.tell_one.ensures.capacity

pub all_turns-requires-clause-touched : goal.all_turns-requires-clause-touched
all_turns-requires-clause-touched g c =
    subst (AreToldOf c.args.present.now.cluster.cluster c.args.present.now.groups c.args.next.now.cluster.cluster c.args.next.now.groups) (sym c.as_slice.ensures.value)
    (are_told_of c.args.present.now.cluster.cluster c.args.present.now.groups c.args.next.now.cluster.cluster c.args.next.now.groups _ _ c.in_ok-touched.ensures c.requires.touched)
