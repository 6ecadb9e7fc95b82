-- What a cache is, and a message that is planned (this project's own).
use Rattle.std.specs.Prelude.{◌≡◌}
use Rattle.cl_types.specs.declared.stream.Stream.{Stream}
use Rattle.watch_streams.specs.declared.message.Msg.{Msg}
use Rattle.watch_streams.specs.RuleChanges.{AreRuleChanges}
use Rattle.held_maps.specs.Held.{maps_of}
use Rattle.held_maps.specs.Ready.{FitsIn, IsReady, after_ready}
use Rattle.agent_cache.specs.CacheData.{CacheData}
use Rattle.agent_cache.specs.PlanData.{PlanData}
use Rattle.agent_cache.specs.Standing.{standings}

-- what is held once the planned message was taken
abbrev pub after_plan : PlanData → CacheData → CacheData
after_plan plan cache = record cache { held = after_ready plan.ready cache.held }

-- the plan is of what is held
pub record FitsPlan (plan : PlanData) (cache : CacheData) : Type 0 where
  pub ready : FitsIn plan.ready cache.held
  pub known : plan.known ≡ standings (maps_of (after_ready plan.ready cache.held))

-- The plan is of the message and of what is held, and its changes are those that taking the message makes.
pub record IsPlan (s : Stream) (m : Msg) (cache : CacheData) (plan : PlanData) : Type 0 where
  pub fits : FitsPlan plan cache
  pub ready : IsReady s m cache.held plan.ready
  pub changes : AreRuleChanges cache.node (maps_of cache.held) (maps_of (after_ready plan.ready cache.held)) plan.changes
