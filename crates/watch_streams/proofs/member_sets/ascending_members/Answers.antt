use Rattle.cl_types.specs.OrderLaws.{addr_order_exact}
use Rattle.watch_streams.specs.MemberOrder.{member_exact}
use Rattle.watch_streams.proofs.member_sets.ascending_members.Goals as goal

pub sort_once-requires : goal.sort_once-requires
sort_once-requires c = member_exact addr_order_exact
