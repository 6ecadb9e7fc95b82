use Rattle.std.proofs.Common.{◌∙◌, ◌++◌, [], ◌∷◌, ap}
use Rattle.group_index.proofs.Scopes.{selector_stretch}
use Rattle.group_index.proofs.scope.following.Goals as goal

pub returns : goal.returns
returns c =
    selector_stretch c.args.entries.now _ _ c.place_from.result c.place_from-2.result
    (c.in_ok-low.ensures ∙ ap (λ t. t ++ 91 ∷ []) c.new-none.ensures) (c.in_ok-high.ensures ∙ ap (λ t. t ++ 92 ∷ []) c.new-none.ensures)
    c.place_from.ensures.within c.place_from-2.ensures.within c.place_from.ensures.before c.place_from-2.ensures.after
