use Rattle.agent_cache.proofs.Plans.{outlook_of}
use Rattle.agent_cache.proofs.outlook.foretell.Goals as goal

pub returns : goal.returns
returns c =
    outlook_of c.args.node.now c.args.s c.args.m.now c.args.held.now c.in_ok-after.after _ c.in_ok-after.ensures
    (record { known = c.in_ok-standings.ensures; changes = c.in_ok-changes.ensures })
