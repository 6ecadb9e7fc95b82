-- A cut leaves all in step.
use Rattle.std.specs.List.{AllByRecursion}
use Rattle.run_machine.specs.Laws.{IsInStep}
use Rattle.run_machine.specs.Machine.{WorldData, StreamOf, on, cut_off, cut_at, at_site}
use Rattle.run_machine.specs.Streams.{CutStreamsLeadOn}
use Rattle.run_machine.proofs.Reading.{cut_stream}
use Rattle.run_machine.proofs.Sites.{in_step_at}

pub cut_lead : CutStreamsLeadOn
cut_lead w s node from channel leads = cut_stream w.history s node from channel.queue channel.live leads

pub cut_keeps : (at : StreamOf) (w : WorldData) → AllByRecursion (IsInStep w.history) w.sites
    → AllByRecursion (IsInStep w.history) (at_site at.node (cut_at at.stream) w).sites
cut_keeps at w all = in_step_at at (λ x channel. cut_off channel) w (λ x channel may. cut_lead w at.stream x.node (on at.stream x.revisions) channel may) all
