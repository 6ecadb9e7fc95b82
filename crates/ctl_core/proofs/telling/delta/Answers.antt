use Rattle.std.proofs.Common.{List, map, sym, ap, subst, ◌∙◌}
use Rattle.watch_streams.specs.declared.message.Msg.TheVariants.{Delta}
use Rattle.watch_streams.specs.declared.message.StreamChange.{StreamChange}
use Rattle.watch_streams.specs.Names.{AreDistinct, changed_name}
use Rattle.watch_streams.specs.Projection.{projection}
use Rattle.ctl_core.proofs.Told.{told_under}
use Rattle.ctl_core.proofs.telling.delta.Goals as goal

pub of-requires-2 : goal.of-requires-2
of-requires-2 c =
    subst (λ (cs : List StreamChange). AreDistinct (map changed_name cs))
    (sym (c.of.ensures ∙ (c.in_ok-changes.ensures
    ∙ told_under c.args.old.now.cluster.cluster c.args.old.now.groups c.args.new.now.cluster.cluster c.args.new.now.groups c.touched_names_tell_all.ensures c.args.touched.now c.args.s c.args.node.now c.keeps_its_form.ensures.cluster c.keeps_its_form-2.ensures.cluster c.requires.touched)))
    (c.messages_name_once.ensures.changes (projection c.args.old.now.cluster.cluster c.args.s c.args.node.now) (projection c.args.new.now.cluster.cluster c.args.s c.args.node.now)
    (c.projections_are_maps.ensures c.args.old.now.cluster.cluster c.args.s c.args.node.now c.keeps_its_form.ensures.cluster).ascends
    (c.projections_are_maps.ensures c.args.new.now.cluster.cluster c.args.s c.args.node.now c.keeps_its_form-2.ensures.cluster).ascends)

pub returns : goal.returns
returns c =
    ap (Delta c.args.rev)
    (c.of-2.ensures ∙ (c.of.ensures ∙ (c.in_ok-changes.ensures
    ∙ told_under c.args.old.now.cluster.cluster c.args.old.now.groups c.args.new.now.cluster.cluster c.args.new.now.groups c.touched_names_tell_all.ensures c.args.touched.now c.args.s c.args.node.now c.keeps_its_form.ensures.cluster c.keeps_its_form-2.ensures.cluster c.requires.touched)))
