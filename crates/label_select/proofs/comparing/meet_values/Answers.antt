use Rattle.std.proofs.Common.{◌≡◌, ◌++◌, [], ◌∷◌, map, ap, ◌∙◌}
use Rattle.std.proofs.lemmas.List.{map-id}
use Rattle.label_select.specs.Comparing.{met, met_byte}
use Rattle.label_select.specs.Written.{listed}
use Rattle.label_select.proofs.Compared.{met_three}
use Rattle.label_select.proofs.comparing.meet_values.Goals as goal

pub returns : goal.returns
returns c =
    let start = c.args.c.now in
    let values = c.args.values.now in
    c.meet-3.ensures
    ∙ (ap (λ s. met_byte s 41)
    (c.meet_listed.ensures
    ∙ (ap (λ ts. met c.meet-2.new.self (listed ts)) (map-id values)
    ∙ ap (λ s. met s (listed values)) (c.meet-2.ensures ∙ ap (λ s. met s c.args.words.now) (c.meet.ensures ∙ ap (met start) c.as_slice.ensures))))
    ∙ met_three start c.args.key.now c.args.words.now (listed values) 41)
