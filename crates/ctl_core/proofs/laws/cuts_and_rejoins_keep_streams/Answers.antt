use Rattle.ctl_core.proofs.OneKept.{cuts_keep, rejoins_keep}
use Rattle.ctl_core.proofs.laws.cuts_and_rejoins_keep_streams.Goals as goal

pub returns : goal.returns
returns g c = record {
  cuts = cuts_keep c.parts_are_streams.ensures.prefix g.P.Port.state;
  rejoins = rejoins_keep c.parts_are_streams.ensures.prefix g.P.Port.state c.streams_go_on.ensures.snapshots g.P.Port.same;
}
