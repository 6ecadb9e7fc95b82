use Rattle.std.proofs.Common.{ap, ◌∙◌}
use Rattle.std.specs.Option.{option_copied}
use Rattle.ctl_core.specs.Uses.{named_if_any, new_object}
use Rattle.ctl_core.proofs.Counted.{counted_now, held_now}
use Rattle.ctl_core.proofs.side.Side.follow.Goals as goal

pub drop_all-requires : goal.drop_all-requires
drop_all-requires c =
    held_now c.args.self.now.cluster.cluster (option_copied c.args.old) (new_object c.args.change.now) c.args.self.now.groups c.move_members.new.index c.put_all.new.index c.as_slice.result.now c.as_slice-2.result.now
    c.requires.counts c.in_ok-move_members.ensures.moved c.in_ok-put_all.ensures (c.as_slice.ensures.value ∙ (c.in_ok-named.ensures ∙ ap (named_if_any c.args.self.now.cluster.cluster) c.new_object.ensures)) (c.as_slice-2.ensures.value ∙ c.in_ok-dropped.ensures)

pub returns-clause-counted : goal.returns-clause-counted
returns-clause-counted c =
    counted_now c.args.self.now.cluster.cluster (option_copied c.args.old) (new_object c.args.change.now) c.args.self.now.groups c.move_members.new.index c.put_all.new.index c.as_slice.result.now c.as_slice-2.result.now
    c.requires.counts c.in_ok-move_members.ensures.moved c.in_ok-put_all.ensures (c.as_slice.ensures.value ∙ (c.in_ok-named.ensures ∙ ap (named_if_any c.args.self.now.cluster.cluster) c.new_object.ensures)) (c.as_slice-2.ensures.value ∙ c.in_ok-dropped.ensures)
    c.drop_all.new.index c.drop_all.ensures
