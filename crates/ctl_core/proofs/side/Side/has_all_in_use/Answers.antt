use Rattle.ctl_core.proofs.Counted.{counted_side}
use Rattle.ctl_core.proofs.side.Side.has_all_in_use.Goals as goal

pub returns : goal.returns
returns c = counted_side c.group_texts_differ.ensures c.args.self.now.cluster.cluster c.args.self.now.groups c.keeps_its_form.ensures.cluster c.requires
