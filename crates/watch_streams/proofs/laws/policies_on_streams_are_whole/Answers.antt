use Rattle.watch_streams.proofs.NetPolicies.{applied_are_whole, on_streams_are_whole}
use Rattle.watch_streams.proofs.laws.policies_on_streams_are_whole.Goals as goal

pub returns : goal.returns
returns c = record { applied = applied_are_whole; on_streams = on_streams_are_whole }
