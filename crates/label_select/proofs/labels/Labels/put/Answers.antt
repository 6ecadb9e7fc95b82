use Rattle.std.proofs.Common.{◌≡◌, ap, ◌∙◌}
use Rattle.std.proofs.lemmas.Result.{on_ok_weaker}
use Rattle.label_select.specs.Selection.{value_at, put_label}
use Rattle.label_select.proofs.SetLabels.{there, others}
use Rattle.label_select.proofs.labels.Labels.put.Goals as goal

pub returns-clause-there : goal.returns-clause-there
returns-clause-there c =
    on_ok_weaker c.put.result
    (λ (e : c.put.new.items.items ≡ put_label c.vec_mut.result.now.items c.args.key c.args.value). ap (λ ls. value_at ls c.args.key) e ∙ there c.vec_mut.result.now.items c.args.key c.args.value)
    c.put.ensures.ok

pub returns-clause-others : goal.returns-clause-others
returns-clause-others c =
    on_ok_weaker c.put.result
    (λ (e : c.put.new.items.items ≡ put_label c.vec_mut.result.now.items c.args.key c.args.value). (λ k other.
    ap (λ ls. value_at ls k) e ∙ others c.vec_mut.result.now.items c.args.key c.args.value k other
    ∙ ap (λ ls. value_at ls k) (c.vec_mut.ensures.value ∙ c.self.view_is)))
    c.put.ensures.ok
