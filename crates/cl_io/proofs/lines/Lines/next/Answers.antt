use Rattle.std.proofs.lemmas.Result.{err_from_is_err_and}
use Rattle.cl_io.specs.ReaderLaws.{Kept-then}
use Rattle.cl_io.proofs.Nexting.{Going-more, gives_line, gives_end, leaves_finished, leaves_unopened, leaves_unreadable, leaves_overfull, unfailing, uses_byte}
use Rattle.cl_io.proofs.lines.Lines.next.Goals as goal

pub returns-in_err-proceed-clause-unopened : goal.returns-in_err-proceed-clause-unopened
returns-in_err-proceed-clause-unopened g c =
    let going = c.loop-front.invariant in
    let e = err_from_is_err_and c.from_residual.result c.from_residual.ensures.1 in
    leaves_unopened _ _ _ _ _ _ _ _ _ e.0 _ going e.1 e.2 (c.in_err-proceed.ensures.comes_to going.line going.front' going.no_feed)

pub returns-in_err-proceed-clause-unreadable : goal.returns-in_err-proceed-clause-unreadable
returns-in_err-proceed-clause-unreadable g c =
    let going = c.loop-front.invariant in
    let e = err_from_is_err_and c.from_residual.result c.from_residual.ensures.1 in
    leaves_unreadable _ _ _ _ _ _ _ _ _ e.0 _ going e.1 e.2 (c.in_err-proceed.ensures.comes_to going.line going.front' going.no_feed)

pub returns-in_err-proceed-clause-overfull : goal.returns-in_err-proceed-clause-overfull
returns-in_err-proceed-clause-overfull g c =
    let going = c.loop-front.invariant in
    let e = err_from_is_err_and c.from_residual.result c.from_residual.ensures.1 in
    leaves_overfull _ _ _ _ _ _ _ _ _ e.0 _ going e.1 e.2 (c.in_err-proceed.ensures.comes_to going.line going.front' going.no_feed)

pub returns-in_err-proceed-clause-kept : goal.returns-in_err-proceed-clause-kept
returns-in_err-proceed-clause-kept g c = Kept-then _ _ _ _ _ _ c.loop-front.invariant.kept c.in_err-proceed.ensures.kept

pub returns-in_err-proceed-clause-begun : goal.returns-in_err-proceed-clause-begun
returns-in_err-proceed-clause-begun g c = c.in_err-proceed.ensures.kept.most c.loop-front.invariant.most

pub returns-in-LineEnds-clause-kept : goal.returns-in-LineEnds-clause-kept
returns-in-LineEnds-clause-kept g c = Kept-then _ _ _ _ _ _ c.loop-front.invariant.kept c.in_ok-proceed.ensures.kept

pub returns-in-LineEnds-clause-begun : goal.returns-in-LineEnds-clause-begun
returns-in-LineEnds-clause-begun g c = c.in_ok-proceed.ensures.kept.most c.loop-front.invariant.most

pub returns-in-NoMore-clause-kept : goal.returns-in-NoMore-clause-kept
returns-in-NoMore-clause-kept g c = Kept-then _ _ _ _ _ _ c.loop-front.invariant.kept c.in_ok-proceed.ensures.kept

pub returns-in-NoMore-clause-begun : goal.returns-in-NoMore-clause-begun
returns-in-NoMore-clause-begun g c = c.in_ok-proceed.ensures.kept.most c.loop-front.invariant.most

pub returns-in_err-proceed-clause-unfailing : goal.returns-in_err-proceed-clause-unfailing
returns-in_err-proceed-clause-unfailing g c =
    let e = err_from_is_err_and c.from_residual.result c.from_residual.ensures.1 in
    unfailing _ _ _ _ _ e.0 _ c.loop-front.invariant.kept c.in_err-proceed.ensures.unfailing e.1 e.2

pub loop-front-preserved : goal.loop-front-preserved
loop-front-preserved g c =
    let going = c.loop-front.invariant in
    let t = c.in_ok-proceed.ensures in
    Going-more _ _ _ _ _ _ _ _ _ going c.in-On.is (t.comes_to going.line going.front' going.no_feed) t.limit t.kept

pub returns-in-LineEnds-clause-uses : goal.returns-in-LineEnds-clause-uses
returns-in-LineEnds-clause-uses g c = λ _.
    let going = c.loop-front.invariant in
    uses_byte _ _ _ _ _ _ _ _ _ going c.in-LineEnds.is (c.in_ok-proceed.ensures.comes_to going.line going.front' going.no_feed)

pub returns-in-LineEnds-clause-goes_on : goal.returns-in-LineEnds-clause-goes_on
returns-in-LineEnds-clause-goes_on g c =
    let going = c.loop-front.invariant in
    gives_line _ _ _ _ _ _ _ _ _ _ going c.in-LineEnds.is (c.in_ok-proceed.ensures.comes_to going.line going.front' going.no_feed) c.into_line.ensures.hands

pub returns-in-NoMore-clause-goes_on : goal.returns-in-NoMore-clause-goes_on
returns-in-NoMore-clause-goes_on g c =
    let going = c.loop-front.invariant in
    gives_end _ _ _ _ _ _ _ _ _ going c.in-NoMore.is (c.in_ok-proceed.ensures.comes_to going.line going.front' going.no_feed)

pub returns-in-NoMore-clause-end : goal.returns-in-NoMore-clause-end
returns-in-NoMore-clause-end g c =
    let going = c.loop-front.invariant in
    λ _. leaves_finished _ _ _ _ _ _ _ _ _ going c.in-NoMore.is (c.in_ok-proceed.ensures.comes_to going.line going.front' going.no_feed)
