use Rattle.ctl_core.proofs.OneKept.{takes_keep}
use Rattle.ctl_core.proofs.laws.takes_keep_streams.Goals as goal

pub returns : goal.returns
returns c = takes_keep c.parts_are_streams.ensures.rest
