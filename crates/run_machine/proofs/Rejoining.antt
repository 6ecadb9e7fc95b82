-- A rejoin leaves all in step.
use Rattle.std.proofs.Common.{ℕ, List, Bool, true, false}
use Rattle.std.specs.List.{AllByRecursion}
use Rattle.cl_types.specs.declared.stream.Stream.{Stream}
use Rattle.watch_streams.specs.declared.message.Msg.{Msg}
use Rattle.run_machine.specs.Laws.{IsInStep}
use Rattle.run_machine.specs.Machine.{WorldData, StreamOf, on, rejoined, snapshot, rejoined_at, at_site}
use Rattle.run_machine.specs.Streams.{LeadsOnFrom, RejoinedStreamsLeadOn}
use Rattle.run_machine.proofs.Reading.{rejoined_stream}
use Rattle.run_machine.proofs.Sites.{in_step_at}

rejoined_leads : (w : WorldData) (s : Stream) (node : List ℕ) (from : ℕ) (live : Bool) (queue : List Msg) → LeadsOnFrom w.history s node from (record { live = live; queue = queue })
    → LeadsOnFrom w.history s node from (rejoined (snapshot w s node) (record { live = live; queue = queue }))
rejoined_leads w s node from true queue leads = leads
rejoined_leads w s node from false queue leads = rejoined_stream w.history s node from queue false leads

pub rejoined_lead : RejoinedStreamsLeadOn
rejoined_lead w s node from channel leads = rejoined_leads w s node from channel.live channel.queue leads

pub rejoin_keeps : (at : StreamOf) (w : WorldData) → AllByRecursion (IsInStep w.history) w.sites
    → AllByRecursion (IsInStep w.history) (at_site at.node (rejoined_at w at.stream) w).sites
rejoin_keeps at w all =
    in_step_at at (λ x channel. rejoined (snapshot w at.stream x.node) channel) w (λ x channel may. rejoined_lead w at.stream x.node (on at.stream x.revisions) channel may) all
