use Rattle.watch_streams.specs.PartOrders.{resolved_order_exact}
use Rattle.watch_streams.proofs.laws.resolved_order_is_exact.Goals as goal

pub returns : goal.returns
returns c = resolved_order_exact
