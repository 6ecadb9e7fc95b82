use Rattle.std.proofs.Common.{◌+◌, drop, ap, ◌∙◌, arith}
use Rattle.flow_tables.specs.Search.{best_of, all_considered, partner_places, pair_places}
use Rattle.flow_tables.proofs.Searching.{one_more}
use Rattle.flow_tables.proofs.lookup.consider_partners.Goals as goal

pub loop-place-preserved : goal.loop-place-preserved
loop-place-preserved c =
    let rest = pair_places c.args.index.now c.args.flows.now c.args.a.now c.args.flow.now (drop (c.loop-place.place-index + 1) c.args.places.now) in
    ap (λ b. all_considered c.args.flows.now c.args.a.now b rest) c.consider_partner-best.ensures
    ∙ one_more c.args.flows.now c.args.a.now (partner_places c.args.index.now c.args.flows.now c.args.a.now c.args.flow.now) c.args.places.now c.loop-place.place-index 0 (omega arith) (best_of c.loop-place.best)
    ∙ c.loop-place.invariant
