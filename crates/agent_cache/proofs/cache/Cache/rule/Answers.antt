use Rattle.std.proofs.Common.{subst, ◌∙◌}
use Rattle.held_maps.specs.Held.{maps_of}
use Rattle.agent_cache.specs.CacheData.{CacheData}
use Rattle.agent_cache.specs.Standing.{IsStateOf}
use Rattle.agent_cache.proofs.KnownRules.{standings_ascend}
use Rattle.agent_cache.proofs.cache.Cache.rule.Goals as goal

pub state_at-state-requires : goal.state_at-state-requires
state_at-state-requires c =
    standings_ascend (maps_of c.self.inside.held) c.as_slice-known.result.now (c.as_slice-known.ensures.value ∙ c.self.invariant)

pub returns : goal.returns
returns c =
    subst (λ (v : CacheData). IsStateOf (maps_of v.held) c.args.k.now c.state_at-state.result) c.self.view_is
    (c.state_at-state.ensures (maps_of c.self.inside.held) (c.as_slice-known.ensures.value ∙ c.self.invariant))
