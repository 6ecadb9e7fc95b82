use Rattle.ctl_core.proofs.Keeping.{lines_keep}
use Rattle.ctl_core.proofs.laws.lines_keep_streams.Goals as goal

pub returns : goal.returns
returns g c = lines_keep c.streams_go_on.ensures.revisions c.streams_go_on.ensures.cuts g.P.Port.state g.P.Port.same
