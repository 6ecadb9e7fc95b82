use Rattle.std.proofs.Common.{sym, subst}
use Rattle.held_maps.specs.Held.{HeldData}
use Rattle.agent_cache.specs.Outlook.{IsOutlook}
use Rattle.agent_cache.proofs.cache.Cache.plan.Goals as goal

pub returns-clause-plan : goal.returns-clause-plan
returns-clause-plan c =
    c.planned-plan.ensures c.args.s c.args.m _
    (subst (λ (h : HeldData). IsOutlook c.self.inside.node c.args.s c.args.m h c.in_ok-leads.leads) (sym c.in_ok-ready.ensures.same) c.in_ok-leads.ensures)
    c.in_ok-ready.ensures.ready
