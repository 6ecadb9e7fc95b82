use Rattle.std.proofs.Common.{ap, ◌∙◌}
use Rattle.label_select.specs.Comparing.{come_out, met}
use Rattle.label_select.specs.Written.{group_text}
use Rattle.label_select.proofs.Compared.{comes_out}
use Rattle.label_select.proofs.comparing.compare_group.Goals as goal

pub returns : goal.returns
returns c =
    c.come_out.ensures
    ∙ (ap come_out (c.meet.ensures ∙ ap (λ s. met s (group_text c.args.g.now)) c.compared_with-c.ensures) ∙ comes_out (group_text c.args.g.now) c.args.text.now)
