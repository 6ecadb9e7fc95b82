use Rattle.std.proofs.Common.{◌+◌, drop, ap, ◌∙◌, arith}
use Rattle.std.specs.List.{flat_map}
use Rattle.flow_tables.specs.declared.class.Role.TheVariants.{Start}
use Rattle.flow_tables.specs.declared.class.Shape.TheVariants as shape
use Rattle.flow_tables.specs.Class.{class_at}
use Rattle.flow_tables.specs.Index.{listed}
use Rattle.flow_tables.specs.Search.{best_of, all_visited}
use Rattle.flow_tables.proofs.Searching.{many_more_visited}
use Rattle.flow_tables.proofs.lookup.visit_classes.Goals as goal

pub loop-shape-preserved : goal.loop-shape-preserved
loop-shape-preserved c =
    let index = c.args.index.now in
    let flows = c.args.flows.now in
    let a = c.args.a.now in
    let best = best_of c.loop-shape.best in
    let shapes = c.noted-shape-items.result.now in
    let rest = flat_map (λ s. listed index (class_at a Start s)) (drop (c.loop-shape.shape-index + 1) shapes) in
    ap (λ b. all_visited index flows a b rest)
    (c.visit_all-best.ensures ∙ ap (λ ps. all_visited index flows a best ps) (c.listed.ensures ∙ ap (λ k. listed index k) c.class_at.ensures))
    ∙ many_more_visited index flows a (λ s. listed index (class_at a Start s)) shapes c.loop-shape.shape-index (shape.Source 0) (omega arith) best
    ∙ c.loop-shape.invariant
