use Rattle.std.proofs.Common.{◌≡◌, true, refl, ap, subst, sym, ◌∙◌}
use Rattle.node_streams.specs.Streams.{streams_at}
use Rattle.suite_run.specs.Doing.{channel_at, is_listed, stream_at}
use Rattle.suite_run.specs.RunState.{RunData}
use Rattle.suite_run.proofs.Moves.{live_run}
use Rattle.suite_run.proofs.Placing.{listed_streams}
use Rattle.suite_run.proofs.run.Run.is_live.Goals as goal

pub live-requires : goal.live-requires
live-requires c =
    listed_streams c.self.inside.controller c.self.inside.agents.items c.keeps_its_form.ensures c.self.invariant.agents c.args.node.now
    (subst (λ (r : RunData). is_listed c.args.node.now r.sites ≡ true) (sym c.self.view_is) c.requires)

pub returns : goal.returns
returns c =
    sym (live_run c.self.inside.controller c.self.inside.controller c.self.inside.agents.items c.self.inside.ring c.keeps_its_form.ensures c.self.invariant c.args.node.now c.args.stream c.live.result
    (streams_at c.args.node.now c.self.inside.controller.nodes) refl c.live.ensures)
    ∙ ap (λ (r : RunData). (channel_at (stream_at c.args.node.now c.args.stream) r.sites).live) c.self.view_is
