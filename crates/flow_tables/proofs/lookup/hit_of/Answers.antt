use Rattle.std.proofs.Common.{sym, ap, ◌∙◌, option_map}
use Rattle.flow_tables.specs.declared.class.Role.TheVariants.{Start}
use Rattle.flow_tables.specs.Search.{Found, best_of, in_role}
use Rattle.flow_tables.proofs.Searching.{able_visited}
use Rattle.flow_tables.proofs.Hits.{visited_is_best}
use Rattle.flow_tables.proofs.lookup.hit_of.Goals as goal

pub returns-in-Some : goal.returns-in-Some
returns-in-Some c =
    ap (λ o. option_map (λ (h : Found). h.flow) (best_of o)) (sym c.in-Some.is)
    ∙ ap (λ o. option_map (λ (h : Found). h.flow) o) c.visit_classes.ensures
    ∙ visited_is_best c.args.flows.now c.args.a.now c.args.index.now (in_role c.args.index.now c.args.a.now Start) (able_visited c.args.index.now c.args.flows.now c.requires c.args.a.now)

pub returns-in-None : goal.returns-in-None
returns-in-None c =
    ap (λ o. option_map (λ (h : Found). h.flow) (best_of o)) (sym c.in-None.is)
    ∙ ap (λ o. option_map (λ (h : Found). h.flow) o) c.visit_classes.ensures
    ∙ visited_is_best c.args.flows.now c.args.a.now c.args.index.now (in_role c.args.index.now c.args.a.now Start) (able_visited c.args.index.now c.args.flows.now c.requires c.args.a.now)
