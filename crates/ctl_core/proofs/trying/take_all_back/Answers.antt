use Rattle.std.proofs.Common.{◌∙◌}
use Rattle.ctl_core.proofs.TakingBack.{leads_back, one_back}
use Rattle.ctl_core.proofs.trying.take_all_back.Goals as goal

pub loop-undo-preserved : goal.loop-undo-preserved
loop-undo-preserved c = record {
  can = one_back c.loop-undo.undoes.items c.pop.new.self.items c.in-Some.undo c.loop-undo.cluster.cluster c.undo.new.self c.loop-undo.cluster.places c.in-Some.ensures.items c.undo.ensures.cluster c.undo.ensures.places c.loop-undo.invariant.can;
  leads = leads_back c.loop-undo.undoes.items c.pop.new.self.items c.in-Some.undo c.loop-undo.cluster.cluster c.undo.new.self.cluster c.in-Some.ensures.items c.undo.ensures.cluster ∙ c.loop-undo.invariant.leads;
}
