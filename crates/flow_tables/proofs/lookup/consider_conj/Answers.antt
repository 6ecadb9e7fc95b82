use Rattle.std.proofs.Common.{◌+◌, drop, ap, ◌∙◌, arith}
use Rattle.std.specs.List.{flat_map}
use Rattle.flow_tables.specs.declared.class.Role.TheVariants.{Giving}
use Rattle.flow_tables.specs.declared.class.Shape.TheVariants as shape
use Rattle.flow_tables.specs.Class.{class_at}
use Rattle.flow_tables.specs.Index.{listed}
use Rattle.flow_tables.specs.Search.{best_of, all_considered, partner_places, pair_places}
use Rattle.flow_tables.proofs.Searching.{many_more}
use Rattle.flow_tables.proofs.lookup.consider_conj.Goals as goal

pub loop-shape-preserved : goal.loop-shape-preserved
loop-shape-preserved c =
    let index = c.args.index.now in
    let flows = c.args.flows.now in
    let a = c.args.a.now in
    let f = c.args.flow.now in
    let best = best_of c.loop-shape.best in
    let shapes = c.noted-shape-items.result.now in
    let rest = pair_places index flows a f (flat_map (λ s. listed index (class_at a (Giving f.priority 2) s)) (drop (c.loop-shape.shape-index + 1) shapes)) in
    ap (λ b. all_considered flows a b rest)
    (c.consider_partners-best.ensures ∙ ap (λ ps. all_considered flows a best (pair_places index flows a f ps)) (c.listed-places.ensures ∙ ap (λ k. listed index k) c.class_at.ensures))
    ∙ many_more flows a (partner_places index flows a f) (λ s. listed index (class_at a (Giving f.priority 2) s)) shapes c.loop-shape.shape-index (shape.Source 0) (omega arith) best
    ∙ c.loop-shape.invariant
