use Rattle.std.proofs.Common.{sym, ◌∙◌, ap, unwrap_or, [], option_copied}
use Rattle.cl_types.specs.Text.{text_eq}
use Rattle.label_select.specs.Selection.{value_at}
use Rattle.label_select.proofs.SetLabels.{value_put_same, value_put_other}
use Rattle.label_select.proofs.named.value_with.Goals as goal

-- the label that is set is wanted
pub returns-then-eq : goal.returns-then-eq
returns-then-eq c =
    sym (value_put_same (unwrap_or (option_copied c.args.labels) []) c.args.key.now c.args.value.now c.args.wanted.now
    (ap (λ t. text_eq t c.args.key.now) (sym c.as_slice.ensures) ∙ sym c.if-eq.ensures))

-- another is wanted
pub returns-in-Some : goal.returns-in-Some
returns-in-Some c =
    c.get.ensures ∙ ap (λ o. value_at (unwrap_or (option_copied o) []) c.args.wanted.now) (sym c.in-Some.is)
    ∙ sym (value_put_other (unwrap_or (option_copied c.args.labels) []) c.args.key.now c.args.value.now c.args.wanted.now
    (ap (λ t. text_eq t c.args.key.now) (sym c.as_slice.ensures) ∙ sym c.if-eq.ensures))

pub returns-in-None : goal.returns-in-None
returns-in-None c =
    ap (λ o. value_at (unwrap_or (option_copied o) []) c.args.wanted.now) (sym c.in-None.is)
    ∙ sym (value_put_other (unwrap_or (option_copied c.args.labels) []) c.args.key.now c.args.value.now c.args.wanted.now
    (ap (λ t. text_eq t c.args.key.now) (sym c.as_slice.ensures) ∙ sym c.if-eq.ensures))
