use Rattle.watch_streams.proofs.OneRevision.{one_revision}
use Rattle.watch_streams.proofs.laws.one_revision_is_the_policies_verdict.Goals as goal

-- src/laws.rt:5:1
pub returns : goal.returns
returns c = one_revision c.group_texts_differ.ensures c.texts_tell_names_apart.ensures.policies c.orders_are_exact.ensures.addresses
