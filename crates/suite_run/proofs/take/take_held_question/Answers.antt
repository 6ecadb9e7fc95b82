use Rattle.suite_run.specs.declared.item.Item.TheVariants.{AskHeld}
use Rattle.suite_run.proofs.LineSteps.{shown}
use Rattle.suite_run.proofs.take.take_held_question.Goals as goal

pub returns : goal.returns
returns c =
    shown (AskHeld c.args.node c.args.question) c.args.world c.args.world c.ask_held.result c.args.number c.in_ok-block.block c.ask_held.ensures c.in_ok-block.ensures.text c.in_ok-block.ensures.refusal
