use Rattle.std.proofs.Common.{ap, ◌∙◌}
use Rattle.suite_run.specs.Doing.{is_listed}
use Rattle.suite_run.specs.RunState.{RunData}
use Rattle.suite_run.proofs.Listing.{listed_is}
use Rattle.suite_run.proofs.run.Run.is_listed.Goals as goal

pub returns : goal.returns
returns c =
    c.is_listed.ensures
    ∙ (listed_is c.self.inside.controller c.self.inside.agents.items c.keeps_its_form.ensures c.self.invariant.agents c.args.node.now
    ∙ ap (λ (r : RunData). is_listed c.args.node.now r.sites) c.self.view_is)
