use Rattle.std.proofs.Common.{rules}
use Rattle.std.proofs.lemmas.Fn.{always_returns_same}
use Rattle.cl_types.specs.SearchLaws.{searched}
use Rattle.cl_types.proofs.keyed.search.Goals as goal

pub returns-clause-found : goal.returns-clause-found
returns-clause-found g c =
    let facts = c.binary_search_by.ensures in
    (searched g.T.Keyed.key g.met.T.Key.Ord.total c.args.key.now c.args.items.now c.requires _ facts.bound
    (facts.position (λ x. g.T.Key.Ord.cmp (g.T.Keyed.key x) c.args.key.now) (always_returns_same _ _ _ (λ a r f called. (search rules, search rules))))).found

pub returns-clause-absent : goal.returns-clause-absent
returns-clause-absent g c =
    let facts = c.binary_search_by.ensures in
    (searched g.T.Keyed.key g.met.T.Key.Ord.total c.args.key.now c.args.items.now c.requires _ facts.bound
    (facts.position (λ x. g.T.Key.Ord.cmp (g.T.Keyed.key x) c.args.key.now) (always_returns_same _ _ _ (λ a r f called. (search rules, search rules))))).absent
