use Rattle.std.proofs.Common.{◌≡◌, List, ◌++◌, [], ◌∷◌, map, ap, ◌∙◌}
use Rattle.label_select.specs.Comparing.{met, met_byte}
use Rattle.label_select.specs.Selection.{Requirement, Selection}
use Rattle.label_select.specs.Written.{listed, need_text}
use Rattle.label_select.proofs.Compared.{met_last, met_two}
use Rattle.label_select.proofs.comparing.SelectorMet.meet.Goals as goal

pub returns : goal.returns
returns c =
    let text = λ (needs : List Requirement). listed (map need_text needs) in
    c.meet-2.ensures
    ∙ (ap (λ s. met_byte s 93) (c.meet_listed.ensures ∙ (ap (λ s. met s (text c.as_slice.result.now)) c.meet.ensures ∙ ap (λ needs. met (met_byte c.args.c.now 91) (text needs)) (c.as_slice.ensures ∙ ap (λ (s : Selection). s.needs) c.self.view_is)))
    ∙ met_last (met_byte c.args.c.now 91) (text c.args.self.now.needs) 93)
