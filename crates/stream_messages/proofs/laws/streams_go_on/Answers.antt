use Rattle.stream_messages.proofs.History.{cut_streams_stay, deltas_go_on, snapshots_begin_again}
use Rattle.stream_messages.proofs.laws.streams_go_on.Goals as goal

pub returns : goal.returns
returns c = record { revisions = deltas_go_on; cuts = cut_streams_stay; snapshots = snapshots_begin_again }
