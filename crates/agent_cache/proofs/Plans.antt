-- What taking a message leads to is known by the maps that it leads to.
use Rattle.std.proofs.Common.{◌≡◌, ℕ, List, sym, ap, subst, ◌∙◌}
use Rattle.cl_types.specs.declared.stream.Stream.{Stream}
use Rattle.held_maps.specs.Held.{HeldData, IsTaken, maps_of}
use Rattle.held_maps.specs.Ready.{IsReady, after_ready}
use Rattle.watch_streams.specs.declared.message.Msg.{Msg}
use Rattle.watch_streams.specs.HeldEvaluation.{HeldMaps}
use Rattle.watch_streams.specs.RuleChanges.{AreRuleChanges}
use Rattle.agent_cache.specs.declared.outlook.Outlook.{Outlook}
use Rattle.agent_cache.specs.Cache.{IsPlan}
use Rattle.agent_cache.specs.CacheData.{CacheData}
use Rattle.agent_cache.specs.Outlook.{Foretells, IsOutlook}
use Rattle.agent_cache.specs.PlanData.{PlanData}
use Rattle.agent_cache.specs.Standing.{standings}

-- it is the same whatever was held once the message was taken
pub outlook_of : (node : List ℕ) (s : Stream) (m : Msg) (old after : HeldData) (outlook : Outlook) → IsTaken s m old after → Foretells node old after outlook → IsOutlook node s m old outlook
outlook_of node s m old after outlook taken foretold = λ new also.
    let same : maps_of after ≡ maps_of new = taken.maps ∙ sym also.maps in
    record {
      known = foretold.known ∙ ap standings same;
      changes = subst (λ (h : HeldMaps). AreRuleChanges node (maps_of old) h outlook.changes) same foretold.changes;
    }

-- a message is planned by what it leads to
pub plan_of : (s : Stream) (m : Msg) (cache : CacheData) (outlook : Outlook) (plan : PlanData) → IsOutlook cache.node s m cache.held outlook → IsReady s m cache.held plan.ready → plan.known ≡ outlook.standings.items → plan.changes ≡ outlook.changes → IsPlan s m cache plan
plan_of s m cache outlook plan leads ready known changes =
    let foretold = leads (after_ready plan.ready cache.held) ready.leads in
    record {
      fits = record { ready = ready.fits; known = known ∙ foretold.known };
      ready = ready;
      changes = subst (AreRuleChanges cache.node (maps_of cache.held) (maps_of (after_ready plan.ready cache.held))) (sym changes) foretold.changes;
    }
