use Rattle.group_index.proofs.Scopes.{named_stretch}
use Rattle.group_index.proofs.scope.named.Goals as goal

pub returns : goal.returns
returns c =
    named_stretch c.args.name.now c.args.entries.now _ _ c.place_from.result c.place_from-2.result c.in_ok-low.ensures c.in_ok-high.ensures
    c.place_from.ensures.within c.place_from-2.ensures.within c.place_from.ensures.before c.place_from-2.ensures.after
