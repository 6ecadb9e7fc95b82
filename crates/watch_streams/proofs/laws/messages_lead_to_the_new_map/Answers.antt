use Rattle.watch_streams.proofs.Differences.{differences_lead}
use Rattle.watch_streams.proofs.Projections.{snapshots_are}
use Rattle.watch_streams.proofs.laws.messages_lead_to_the_new_map.Goals as goal

pub returns : goal.returns
returns c = record {
  changes = differences_lead c.group_texts_differ.ensures c.orders_are_exact.ensures.addresses;
  snapshots = snapshots_are;
}
