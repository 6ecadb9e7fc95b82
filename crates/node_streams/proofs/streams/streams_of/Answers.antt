use Rattle.std.proofs.Common.{◌++◌, length, ap, ◌∙◌}
use Rattle.std.specs.List.{slice_get}
use Rattle.node_streams.specs.Streams.{streams_for}
use Rattle.node_streams.proofs.Edits.{first_more}
use Rattle.node_streams.proofs.streams.streams_of.Goals as goal

pub loop-trio-preserved : goal.loop-trio-preserved
loop-trio-preserved g c =
    c.in_ok-push_streams.ensures
    ∙ (ap (λ o. c.loop-trio.nodes.items ++ streams_for o c.in-Some.trio) (c.info_at-info.ensures ∙ ap (λ ns. slice_get c.args.infos.now (length ns)) c.as_slice.ensures.value)
    ∙ (ap (λ ns. ns ++ streams_for (slice_get c.args.infos.now (length ns)) c.in-Some.trio) c.loop-trio.invariant
    ∙ first_more c.args.infos.now c.loop-trio.yielded c.in-Some.trio))
