use Rattle.std.proofs.Common.{subst}
use Rattle.held_maps.specs.Held.{HeldData, IsTaken}
use Rattle.watch_streams.specs.declared.message.Msg.{Msg}
use Rattle.agent_cache.proofs.outlook.held_after.Goals as goal

pub returns : goal.returns
returns c =
    let after = c.take.new.self in
    subst (λ (m : Msg). IsTaken c.args.s m c.args.held.now after) c.in_ok-message.ensures
    (subst (λ (old : HeldData). IsTaken c.args.s c.in_ok-message.message old after) c.in_ok-after.ensures c.in_ok-take.ensures.ok)
