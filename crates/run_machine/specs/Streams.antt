-- What is done to a stream leaves a stream, from each revision from which it was one (this project's own).
use Rattle.std.specs.Prelude.{ℕ, List, [], ◌∷◌, ◌++◌, Bool}
use Rattle.cl_types.specs.declared.stream.Stream.{Stream}
use Rattle.cluster_types.specs.Cluster.{ClusterData}
use Rattle.watch_streams.specs.Stream.{IsStream}
use Rattle.run_machine.specs.Machine.{ChannelData, WorldData, cut_off, sent, rejoined, delta, snapshot}

-- what waits leads on from the revision, over these clusters
abbrev pub LeadsOnFrom : List ClusterData → Stream → List ℕ → ℕ → ChannelData → Type 0
LeadsOnFrom history s node from channel = IsStream history s node channel.live from channel.queue

-- the next revision, whether its message came back or not
abbrev pub ToldStreamsLeadOn : Type 0
ToldStreamsLeadOn =
    (w : WorldData) (c : ClusterData) (s : Stream) (node : List ℕ) (from : ℕ) (back : Bool) (channel : ChannelData) →
    LeadsOnFrom w.history s node from channel → LeadsOnFrom (w.history ++ c ∷ []) s node from (sent (delta w c s node) back channel)

abbrev pub RejoinedStreamsLeadOn : Type 0
RejoinedStreamsLeadOn =
    (w : WorldData) (s : Stream) (node : List ℕ) (from : ℕ) (channel : ChannelData) →
    LeadsOnFrom w.history s node from channel → LeadsOnFrom w.history s node from (rejoined (snapshot w s node) channel)

abbrev pub CutStreamsLeadOn : Type 0
CutStreamsLeadOn =
    (w : WorldData) (s : Stream) (node : List ℕ) (from : ℕ) (channel : ChannelData) →
    LeadsOnFrom w.history s node from channel → LeadsOnFrom w.history s node from (cut_off channel)
