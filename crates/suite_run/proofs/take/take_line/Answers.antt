use Rattle.std.proofs.Common.{IfOk, subst, sym}
use Rattle.suite_run.specs.Shown.{Shows}
use Rattle.suite_run.specs.World.{step}
use Rattle.suite_run.specs.declared.item.Item.{Item}
use Rattle.suite_run.proofs.take.take_line.Goals as goal

pub returns : goal.returns
returns c = λ bytes hands keeps w st.
    subst (λ (i : Item). IfOk c.take_item.result (λ t. Shows c.args.number (step w i) t.world t.block)) (sym (c.in_ok-item.ensures bytes hands keeps)) (c.take_item.ensures w st)
