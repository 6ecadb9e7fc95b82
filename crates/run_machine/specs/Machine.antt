-- The machine of a run: what is known between two events, and what an event makes of it (this project's own). A
-- controller sends each node's agent messages on three streams, and the agent takes them when it will.
use Rattle.std.specs.Prelude.{ℕ, ◌+◌, ◌-◌, List, [], ◌∷◌, ◌++◌, length, map, Bool, true, false, not, ◌&&◌, if◌then◌else◌, nat_le, Result, Ok, Err}
use Rattle.std.specs.List.{list_any}
use Rattle.cl_types.specs.declared.stream.Stream.{Stream}
use Rattle.cl_types.specs.declared.stream.Stream.TheVariants.{Policies, Addresses, Applied}
use Rattle.cl_types.specs.Text.{text_eq}
use Rattle.cluster_types.specs.declared.change.Change.{Change}
use Rattle.cluster_types.specs.Cluster.{ClusterData, no_objects}
use Rattle.cluster_types.specs.Node.{NodeData}
use Rattle.cluster_objects.specs.declared.change.ClusterRefusal.{ClusterRefusal}
use Rattle.cluster_objects.specs.Changes.{Outcomes, after}
use Rattle.watch_streams.specs.declared.message.Msg.{Msg}
use Rattle.watch_streams.specs.HeldEvaluation.{HeldMaps}
use Rattle.watch_streams.specs.Stream.{after_message}
use Rattle.stream_messages.specs.Laws as history
use Rattle.stream_messages.specs.Messages as message
use Rattle.held_maps.specs.Held.{map_on, with_map, revision_of}

-- ---- the world

-- a thing for each of the three streams
pub record OfStreams (T : Type 0) : Type 0 where
  pub policies : T
  pub addresses : T
  pub applied : T

abbrev pub on : {T : Type 0} → Stream → OfStreams T → T
on Policies things = things.policies
on Addresses things = things.addresses
on Applied things = things.applied

abbrev pub put_on : {T : Type 0} → Stream → T → OfStreams T → OfStreams T
put_on Policies x things = record things { policies = x }
put_on Addresses x things = record things { addresses = x }
put_on Applied x things = record things { applied = x }

abbrev pub on_all : {T : Type 0} → T → OfStreams T
on_all x = record { policies = x; addresses = x; applied = x }

-- whether the controller sends on a stream, and what it sent there that wasn't taken, the oldest first
pub record ChannelData : Type 0 where
  pub live : Bool
  pub queue : List Msg

-- a node: what is on its streams, the maps that its agent holds, and the revision of each of them
pub record SiteData : Type 0 where
  pub node : List ℕ
  pub channels : OfStreams ChannelData
  pub maps : HeldMaps
  pub revisions : OfStreams ℕ

-- The cluster, the clusters of revision 0 and of all later ones, for how many messages a stream has places, and the
-- nodes once they are fixed. (Before, there is no revision.)
pub record WorldData : Type 0 where
  pub cluster : ClusterData
  pub history : List ClusterData
  pub ring : ℕ
  pub sites : List SiteData

-- before the first event
abbrev pub first_world : ℕ → WorldData
first_world ring = record { cluster = no_objects; history = []; ring = ring; sites = [] }

abbrev pub last_revision : WorldData → ℕ
last_revision w = length w.history - 1

-- the cluster of the last revision
abbrev pub last_cluster : WorldData → ClusterData
last_cluster w = history.last_cluster w.history

-- ---- events

-- a stream of a node
pub record StreamOf : Type 0 where
  pub node : List ℕ
  pub stream : Stream

-- The changes of a line, with the streams from which their messages came back; a stream that is cut; a stream that is
-- rejoined; a message that an agent takes. (What else an agent is told to do changes nothing of this.)
pub data Event : Type 0 where
  change : List Change → List StreamOf → Event
  cut : StreamOf → Event
  rejoin : StreamOf → Event
  take : StreamOf → Event

-- ---- what is done to a stream

abbrev pub channel_on : Stream → SiteData → ChannelData
channel_on s x = on s x.channels

abbrev pub with_channel : Stream → ChannelData → SiteData → SiteData
with_channel s channel x = record x { channels = put_on s channel x.channels }

-- nothing more is sent; what was sent stays
abbrev pub cut_off : ChannelData → ChannelData
cut_off channel = record channel { live = false }

-- the message stands behind the others
abbrev pub with_message : Msg → ChannelData → ChannelData
with_message m channel = record { live = true; queue = channel.queue ++ m ∷ [] }

-- A live stream has the message, and is cut where the message came back. On a cut stream nothing is sent.
abbrev pub sent : Msg → Bool → ChannelData → ChannelData
sent m back channel = if channel.live then (if back then cut_off channel else with_message m channel) else channel

-- a cut stream is live again, with all that belongs on it behind the messages that it has
abbrev pub rejoined : Msg → ChannelData → ChannelData
rejoined snapshot channel = if channel.live then channel else with_message snapshot channel

-- the agent's map after the message, at its revision
abbrev pub holding : Stream → Msg → SiteData → SiteData
holding s m x =
    record x {
      maps = with_map s (after_message s m (map_on s x.maps)) x.maps;
      revisions = put_on s (revision_of m).0 x.revisions;
    }

-- the oldest of these messages is taken, and the others stay on the stream
abbrev pub taken_of : List Msg → Stream → SiteData → SiteData
taken_of [] s x = x
taken_of (m ∷ messages) s x = holding s m (with_channel s (record (channel_on s x) { queue = messages }) x)

abbrev pub taken : Stream → SiteData → SiteData
taken s x = taken_of (channel_on s x).queue s x

abbrev pub cut_at : Stream → SiteData → SiteData
cut_at s x = with_channel s (cut_off (channel_on s x)) x

-- ---- the messages of a revision

-- what the next revision, which has this cluster, changes on a stream
abbrev pub delta : WorldData → ClusterData → Stream → List ℕ → Msg
delta w c s node =
    message.delta (last_cluster w) c (record { 0 = last_revision w + 1 }) s node

-- all that belongs on a stream at the last revision
abbrev pub snapshot : WorldData → Stream → List ℕ → Msg
snapshot w s node = message.snapshot (last_cluster w) (record { 0 = last_revision w }) s node

abbrev pub rejoined_at : WorldData → Stream → SiteData → SiteData
rejoined_at w s x = with_channel s (rejoined (snapshot w s x.node) (channel_on s x)) x

-- ---- changes

abbrev pub stream_eq : Stream → Stream → Bool
stream_eq Policies Policies = true
stream_eq Addresses Addresses = true
stream_eq Applied Applied = true
stream_eq _ _ = false

abbrev pub is_among : List StreamOf → Stream → List ℕ → Bool
is_among backs s node = list_any (λ (b : StreamOf). stream_eq b.stream s && text_eq b.node node) backs

-- the message of the next revision is sent on a stream
abbrev pub offered : WorldData → ClusterData → List StreamOf → Stream → SiteData → SiteData
offered w c backs s x = with_channel s (sent (delta w c s x.node) (is_among backs s x.node) (channel_on s x)) x

abbrev pub offered_all : WorldData → ClusterData → List StreamOf → SiteData → SiteData
offered_all w c backs x = offered w c backs Applied (offered w c backs Addresses (offered w c backs Policies x))

-- the next revision has this cluster, and each node is told
abbrev pub revised : List StreamOf → ClusterData → WorldData → WorldData
revised backs c w = record w { cluster = c; history = w.history ++ c ∷ []; sites = map (offered_all w c backs) w.sites }

-- the nodes and the static tiers
abbrev pub nodes_alone : ClusterData → ClusterData
nodes_alone c = record no_objects { nodes = c.nodes; fixed = true }

-- a node whose agent was told nothing
abbrev pub first_site : NodeData → SiteData
first_site n =
    record {
      node = n.name;
      channels = on_all (record { live = true; queue = [] });
      maps = record { policies = []; addresses = []; applied = [] };
      revisions = on_all 0;
    }

-- revision 0, at which the nodes stand alone
abbrev pub begun : ClusterData → WorldData → WorldData
begun c w = record w { history = nodes_alone c ∷ []; sites = map first_site c.nodes }

-- where the nodes of the cluster are fixed that weren't before
abbrev pub fixed_after : ClusterData → WorldData → WorldData
fixed_after c w = if c.fixed && not w.cluster.fixed then begun c w else w

-- A change of something other than a Node makes a revision.
abbrev pub changed : Outcomes → List StreamOf → WorldData → WorldData
changed o backs w =
    if o.other_changed
    then revised backs o.cluster (fixed_after o.cluster w)
    else record (fixed_after o.cluster w) { cluster = o.cluster }

-- a refused line changes nothing
abbrev pub accepted : Result Outcomes ClusterRefusal → List StreamOf → WorldData → WorldData
accepted (Ok o) backs w = changed o backs w
accepted (Err refusal) backs w = w

-- no place is left on a stream of the node
abbrev pub is_full : WorldData → Stream → List ℕ → Bool
is_full w s node = list_any (λ (x : SiteData). text_eq x.node node && nat_le w.ring (length (channel_on s x).queue)) w.sites

-- ---- what an event makes of the world

abbrev pub at_site : List ℕ → (SiteData → SiteData) → WorldData → WorldData
at_site node f w = record w { sites = map (λ (x : SiteData). if text_eq x.node node then f x else x) w.sites }

abbrev pub happens : Event → WorldData → WorldData
happens (change changes backs) w = accepted (after w.cluster changes) backs w
happens (cut at) w = at_site at.node (cut_at at.stream) w
happens (rejoin at) w = at_site at.node (rejoined_at w at.stream) w
happens (take at) w = at_site at.node (taken at.stream) w

-- one after another
abbrev pub all_happen : List Event → WorldData → WorldData
all_happen [] w = w
all_happen (e ∷ events) w = all_happen events (happens e w)
