use Rattle.watch_streams.proofs.NamedOnce.{differences_name_once, maps_name_once}
use Rattle.watch_streams.proofs.laws.messages_name_once.Goals as goal

pub returns : goal.returns
returns c = record { changes = differences_name_once; snapshots = maps_name_once }
