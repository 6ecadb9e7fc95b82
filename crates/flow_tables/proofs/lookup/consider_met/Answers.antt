use Rattle.std.proofs.Common.{◌≡◌, ◌<◌, ◌+◌, Bool, true, false, ◌&&◌, List, drop, length, get_or, refl, sym, subst, ap, ◌∙◌, arith, eqb, ℕ}
use Rattle.std.proofs.lemmas.Option.{slice_get-get_or, get_or_from_slice_get}
use Rattle.flow_entries.specs.declared.flow.Clause.{Clause}
use Rattle.flow_tables.specs.Search.{IsPast, best_of, all_considered, is_before, is_shared, is_shared_at, places_if, shared_places}
use Rattle.flow_tables.proofs.Clauses.{past_on, past_one, met_here, met_any, before_apart, ids_rise}
use Rattle.flow_tables.proofs.Searching.{one_more}
use Rattle.flow_tables.proofs.lookup.consider_met.Goals as goal

neither : (b : Bool) → b && false ≡ false
neither true = refl
neither false = refl

-- which clause stands at a place doesn't depend on what is said of places past the end
one_clause : (cs : List Clause) (i : ℕ) (d e : Clause) → i < length cs → get_or cs i d ≡ get_or cs i e
one_clause cs i d e within = get_or_from_slice_get cs i (get_or cs i e) d (slice_get-get_or cs i e within)

abbrev none : Clause
none = record { id = 0; k = 0 }

pub loop-i-preserved-then-before : goal.loop-i-preserved-then-before
loop-i-preserved-then-before c =
    let flows = c.args.flows.now in
    let a = c.args.a.now in
    let index = c.args.index.now in
    let f = c.args.flow.now in
    let others = c.args.other.clauses.now in
    let clause = get_or c.args.mine.clauses.now c.loop-i.i none in
    let before : is_before clause.id c.args.other.k others c.loop-i.at ≡ true = sym c.is_before-before.ensures.before ∙ c.if-before.true in
    let off : is_shared_at c.args.mine.k c.args.other.k others c.loop-i.at clause ≡ false = ap (λ b. eqb clause.k c.args.mine.k && b) (before_apart clause.id c.args.other.k others c.loop-i.at before) ∙ neither (eqb clause.k c.args.mine.k) in
    let same : best_of c.consider_all-best.result ≡ best_of c.loop-i.best =
    c.consider_all-best.ensures
    ∙ ap (λ ps. all_considered flows a (best_of c.loop-i.best) ps) (c.places_if.ensures ∙ ap (λ b. places_if b index f clause) (c.is_shared_at-shared.ensures ∙ off)) in
    record {
      whole = ap (λ b. all_considered flows a b (shared_places index f c.args.mine.k c.args.other.k others (drop c.loop-i.i c.args.mine.clauses.now))) same ∙ c.loop-i.invariant.whole;
      past = λ d within. subst (λ e. IsPast e.id c.args.other.k others (c.loop-i.at + 1)) (one_clause c.args.mine.clauses.now c.loop-i.i none d within) (past_one clause.id c.args.other.k others c.loop-i.at (c.loop-i.invariant.past none within) before);
    }

pub loop-i-preserved : goal.loop-i-preserved
loop-i-preserved c =
    let flows = c.args.flows.now in
    let a = c.args.a.now in
    let index = c.args.index.now in
    let f = c.args.flow.now in
    let k = c.args.mine.k in
    let l = c.args.other.k in
    let others = c.args.other.clauses.now in
    let clauses = c.args.mine.clauses.now in
    let clause = get_or clauses c.loop-i.i none in
    let within : c.loop-i.i < length clauses = omega arith in
    let met = met_here clause.id l others c.loop-i.at (c.loop-i.invariant.past none within) (sym c.is_before-before.ensures.before ∙ c.if-before.false) in
    let shared : c.is_shared_at-shared.result ≡ is_shared k l others clause = c.is_shared_at-shared.ensures ∙ ap (λ b. eqb clause.k k && b) (sym (met_any clause.id l others c.loop-i.at c.requires.other met)) in
    record {
      whole =
          ap (λ b. all_considered flows a b (shared_places index f k l others (drop (c.loop-i.i + 1) clauses)))
          (c.consider_all-best.ensures ∙ ap (λ ps. all_considered flows a (best_of c.loop-i.best) ps) (c.places_if.ensures ∙ ap (λ b. places_if b index f clause) shared))
          ∙ one_more flows a (λ (d : Clause). places_if (is_shared k l others d) index f d) clauses c.loop-i.i none within (best_of c.loop-i.best)
          ∙ c.loop-i.invariant.whole;
      past = λ d more. past_on _ _ l others c.loop-i.at (ids_rise clauses c.loop-i.i none d c.requires.mine more) (c.loop-i.invariant.past none within);
    }
