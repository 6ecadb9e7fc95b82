use Rattle.std.proofs.Common.{ℕ, List, Option, refl, subst}
use Rattle.suite_run.specs.Shown.{Makes}
use Rattle.suite_run.specs.declared.item.Item.TheVariants.{Objects, Ask, AskHeld, Deliver, Cut, Rejoin, Settle, Ignored, Blank, Refused}
use Rattle.suite_run.specs.declared.world.LineOutcome.TheVariants as told
use Rattle.suite_run.proofs.LineSteps.{takes_same, told_alone}
use Rattle.suite_run.proofs.take.take_item.Goals as goal

pub returns-in-Objects : goal.returns-in-Objects
returns-in-Objects c = takes_same c.args.number c.args.item (Objects c.in-Objects.changes) c.args.world _ c.in-Objects.is c.take_changes.ensures

pub returns-in-Ignored : goal.returns-in-Ignored
returns-in-Ignored c =
    takes_same c.args.number c.args.item (Ignored c.in-Ignored.kind) c.args.world _ c.in-Ignored.is
    (c.with_block.ensures (Ignored c.in-Ignored.kind) c.args.world (told_alone (Ignored c.in-Ignored.kind) c.args.world (told.Ignored c.in-Ignored.kind) c.requires.ready refl (λ w. refl)))

pub returns-in-Blank : goal.returns-in-Blank
returns-in-Blank c =
    takes_same c.args.number c.args.item Blank c.args.world _ c.in-Blank.is
    (c.with_block-in-Blank.ensures Blank c.args.world (told_alone Blank c.args.world told.Silent c.requires.ready refl (λ w. refl)))

pub returns-in-Refused : goal.returns-in-Refused
returns-in-Refused c =
    takes_same c.args.number c.args.item (Refused c.in-Refused.refusal) c.args.world _ c.in-Refused.is
    (c.with_block-in-Refused.ensures (Refused c.in-Refused.refusal) c.args.world (told_alone (Refused c.in-Refused.refusal) c.args.world (told.Refused c.in-Refused.refusal) c.requires.ready refl (λ w. refl)))

pub returns-in-Ask : goal.returns-in-Ask
returns-in-Ask c = takes_same c.args.number c.args.item (Ask c.in-Ask.node c.in-Ask.question) c.args.world _ c.in-Ask.is c.take_question.ensures

pub returns-in-AskHeld : goal.returns-in-AskHeld
returns-in-AskHeld c = takes_same c.args.number c.args.item (AskHeld c.in-AskHeld.node c.in-AskHeld.question) c.args.world _ c.in-AskHeld.is c.take_held_question.ensures

pub returns-in-Cut : goal.returns-in-Cut
returns-in-Cut c =
    takes_same c.args.number c.args.item (Cut c.in-Cut.node c.in-Cut.stream) c.args.world _ c.in-Cut.is
    (c.with_block-in-Cut.ensures (Cut c.in-Cut.node c.in-Cut.stream) c.args.world c.cut-said.ensures)

pub returns-in_ok-rejoined-in-Rejoin : goal.returns-in_ok-rejoined-in-Rejoin
returns-in_ok-rejoined-in-Rejoin c =
    takes_same c.args.number c.args.item (Rejoin c.in-Rejoin.node c.in-Rejoin.stream) c.args.world _ c.in-Rejoin.is
    (c.with_block-in-Rejoin.ensures (Rejoin c.in-Rejoin.node c.in-Rejoin.stream) c.args.world c.in_ok-rejoined-in-Rejoin.ensures)

pub returns-in_ok-settled-in-Settle : goal.returns-in_ok-settled-in-Settle
returns-in_ok-settled-in-Settle c = takes_same c.args.number c.args.item Settle c.args.world _ c.in-Settle.is (c.with_block-in-Settle.ensures Settle c.args.world c.in_ok-settled-in-Settle.ensures)

pub returns-in_ok-delivered-in-Deliver : goal.returns-in_ok-delivered-in-Deliver
returns-in_ok-delivered-in-Deliver c =
    let asked : Makes (Deliver c.in-Deliver.node c.in-Deliver.stream c.in-Deliver.count) c.args.world c.deliver.new.self c.in_ok-delivered-in-Deliver.delivered =
    subst (λ (o : Option (List ℕ)). Makes (Deliver o c.in-Deliver.stream c.in-Deliver.count) c.args.world c.deliver.new.self c.in_ok-delivered-in-Deliver.delivered) c.as_ref.ensures.value c.in_ok-delivered-in-Deliver.ensures in
    takes_same c.args.number c.args.item (Deliver c.in-Deliver.node c.in-Deliver.stream c.in-Deliver.count) c.args.world _ c.in-Deliver.is
    (c.with_block-in-Deliver.ensures (Deliver c.in-Deliver.node c.in-Deliver.stream c.in-Deliver.count) c.args.world asked)
