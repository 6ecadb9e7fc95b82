use Rattle.watch_streams.specs.PartOrders.{block_order_exact}
use Rattle.watch_streams.proofs.laws.block_order_is_exact.Goals as goal

pub returns : goal.returns
returns c = block_order_exact
