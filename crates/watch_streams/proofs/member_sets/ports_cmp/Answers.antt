use Rattle.std.proofs.Common.{◌≡◌, [], drop, sym, ap, ◌∙◌, arith}
use Rattle.std.specs.Cmp.Lexicographic.{slice_cmp}
use Rattle.watch_streams.specs.Net.{numbered_port_order}
use Rattle.watch_streams.proofs.ListOrders.{nothing_left, ends_before, ends_after}
use Rattle.watch_streams.proofs.member_sets.ports_cmp.Goals as goal

pub returns-then-i-b : goal.returns-then-i-b
returns-then-i-b c =
    let end : drop c.loop-i.i c.args.b.now ≡ [] = nothing_left numbered_port_order c.args.b.now c.loop-i.i (omega arith) in
    sym (c.loop-i.invariant.same ∙ ap (λ z. slice_cmp numbered_port_order (drop c.loop-i.i c.args.a.now) z) end ∙ ends_after numbered_port_order c.args.a.now c.loop-i.i (omega arith))

pub returns-then-a-b : goal.returns-then-a-b
returns-then-a-b c =
    let end : drop c.loop-i.i c.args.a.now ≡ [] = nothing_left numbered_port_order c.args.a.now c.loop-i.i (omega arith) in
    sym (c.loop-i.invariant.same ∙ ap (λ z. slice_cmp numbered_port_order z (drop c.loop-i.i c.args.b.now)) end ∙ ends_before numbered_port_order c.args.b.now c.loop-i.i (omega arith))
