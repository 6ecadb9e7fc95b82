use Rattle.std.proofs.Common.{◌≡◌, ◌++◌, [], ◌∷◌, sym, ap, ◌∙◌}
use Rattle.label_select.specs.Comparing.{met, met_byte}
use Rattle.label_select.specs.Group.{Group}
use Rattle.label_select.specs.Written.{group_text, scope_text, selector_text}
use Rattle.label_select.proofs.Compared.{met-append}
use Rattle.label_select.proofs.comparing.GroupKeyMet.meet.Goals as goal

pub returns : goal.returns
returns c =
    let start = c.args.c.now in
    let scope = scope_text c.self.inside.scope in
    let pods = selector_text c.self.inside.pods in
    c.meet-3.ensures
    ∙ (ap (λ s. met s pods) (c.meet-2.ensures ∙ ap (λ s. met_byte s 47) c.meet.ensures)
    ∙ (sym (met-append start scope (47 ∷ pods)) ∙ ap (λ (g : Group). met start (group_text g)) c.self.view_is))
