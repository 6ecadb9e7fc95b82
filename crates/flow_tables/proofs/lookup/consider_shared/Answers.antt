use Rattle.std.proofs.Common.{◌+◌, drop, get_or, ap, ◌∙◌, arith}
use Rattle.flow_entries.specs.declared.flow.Clause.{Clause}
use Rattle.flow_tables.specs.Search.{best_of, all_considered, is_shared, places_if, shared_places}
use Rattle.flow_tables.proofs.Searching.{one_more}
use Rattle.flow_tables.proofs.lookup.consider_shared.Goals as goal

pub loop-clause-preserved : goal.loop-clause-preserved
loop-clause-preserved c =
    let places = λ (k : Clause). places_if (is_shared c.args.mine.k c.args.other.k c.args.other.clauses.now k) c.args.index.now c.args.flow.now k in
    let rest = shared_places c.args.index.now c.args.flow.now c.args.mine.k c.args.other.k c.args.other.clauses.now (drop (c.loop-clause.clause-index + 1) c.args.mine.clauses.now) in
    ap (λ b. all_considered c.args.flows.now c.args.a.now b rest)
    (c.consider_all-best.ensures ∙ ap (λ ps. all_considered c.args.flows.now c.args.a.now (best_of c.loop-clause.best) ps) (c.places_if-places.ensures ∙ ap (λ b. places_if b c.args.index.now c.args.flow.now (get_or c.args.mine.clauses.now c.loop-clause.clause-index (record { id = 0; k = 0 }))) c.is_shared-shared.ensures))
    ∙ one_more c.args.flows.now c.args.a.now places c.args.mine.clauses.now c.loop-clause.clause-index (record { id = 0; k = 0 }) (omega arith) (best_of c.loop-clause.best)
    ∙ c.loop-clause.invariant
