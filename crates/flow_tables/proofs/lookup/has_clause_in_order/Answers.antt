use Rattle.std.proofs.Common.{◌∙◌}
use Rattle.flow_tables.proofs.Clauses.{searched_any}
use Rattle.flow_tables.proofs.lookup.has_clause_in_order.Goals as goal

pub returns : goal.returns
returns c = c.is_ok.ensures.value ∙ searched_any _ c.args.clauses.now c.search.result c.search.ensures.found c.search.ensures.absent
