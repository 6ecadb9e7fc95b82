use Rattle.std.proofs.Common.{◌≡◌, Some, refl, arith}
use Rattle.std.specs.List.{slice_get}
use Rattle.std.proofs.lemmas.Option.{slice_get_read}
use Rattle.flow_tables.proofs.Classes.{covers_more}
use Rattle.flow_tables.proofs.index.index_of.Goals as goal

pub loop-i-preserved : goal.loop-i-preserved
loop-i-preserved c =
    let here : slice_get c.args.flows.now c.loop-i.i ≡ Some c.index-flows-i.result = slice_get_read c.args.flows.now _ c.loop-i.i c.index-flows-i.result refl (omega arith) c.index-flows-i.is in
    covers_more c.loop-i.classes c.learn.new.classes c.loop-i.shapes c.learn.new.shapes c.loop-i.in_order _ c.args.flows.now c.loop-i.i c.index-flows-i.result here c.loop-i.invariant c.stay_in_order-in_order.ensures c.in_ok-learn.ensures
