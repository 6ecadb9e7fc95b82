use Rattle.std.proofs.Common.{option_copied, sym}
use Rattle.agent_cache.proofs.KnownRules.{state_told}
use Rattle.agent_cache.proofs.states.state_at.Goals as goal

pub returns : goal.returns
returns c = λ h are.
    state_told h c.args.k.now c.args.known.now are (option_copied c.find-found.result) c.state_of-state.result (sym c.find-found.ensures) c.state_of-state.ensures
