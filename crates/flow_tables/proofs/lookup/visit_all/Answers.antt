use Rattle.std.proofs.Common.{◌+◌, drop, ap, ◌∙◌, arith}
use Rattle.flow_tables.specs.Search.{best_of, all_visited}
use Rattle.flow_tables.proofs.Searching.{one_more_visited}
use Rattle.flow_tables.proofs.lookup.visit_all.Goals as goal

pub loop-place-preserved : goal.loop-place-preserved
loop-place-preserved c =
    ap (λ b. all_visited c.args.index.now c.args.flows.now c.args.a.now b (drop (c.loop-place.place-index + 1) c.args.places.now)) c.visit-best.ensures
    ∙ one_more_visited c.args.index.now c.args.flows.now c.args.a.now c.args.places.now c.loop-place.place-index (omega arith) (best_of c.loop-place.best)
    ∙ c.loop-place.invariant
