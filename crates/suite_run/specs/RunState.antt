-- The controller with its queues and what each node's agent holds, as a world of the machine.
use Rattle.std.specs.Prelude.{◌≡◌, ℕ, List, [], ◌∷◌, ◌++◌, length, map, Bool, true, false}
use Rattle.std.specs.List.{AllByRecursion}
use Rattle.cl_types.specs.declared.stream.Rev.{Rev}
use Rattle.cluster_types.specs.Cluster.{ClusterData}
use Rattle.cluster_types.specs.Node.{NodeData}
use Rattle.ctl_core.specs.Controller.{ControllerData}
use Rattle.node_streams.specs.Streams.{NodeStreams, StreamData}
use Rattle.held_maps.specs.declared.held.Revisions.{Revisions}
use Rattle.held_maps.specs.Held.{HeldData, maps_of}
use Rattle.run_machine.specs.Machine.{ChannelData, Event, OfStreams, SiteData, WorldData, all_happen, first_site, last_cluster, last_revision}
use Rattle.watch_streams.specs.Ports.{QueueData}

-- ---- the nodes as sites of the machine

abbrev pub channel_of : StreamData QueueData → ChannelData
channel_of s = record { live = s.live; queue = s.port.messages }

abbrev pub channels_of : NodeStreams QueueData → OfStreams ChannelData
channels_of n = record { policies = channel_of n.policies; addresses = channel_of n.addresses; applied = channel_of n.applied }

abbrev pub numbers_of : Revisions → OfStreams ℕ
numbers_of revisions = record { policies = revisions.policies.0; addresses = revisions.addresses.0; applied = revisions.applied.0 }

abbrev pub site_of : NodeStreams QueueData → HeldData → SiteData
site_of n h = record { node = n.node; channels = channels_of n; maps = maps_of h; revisions = numbers_of h.revisions }

-- each node's streams with what its agent holds
abbrev pub sites_of : List (NodeStreams QueueData) → List HeldData → List SiteData
sites_of [] held = []
sites_of (n ∷ nodes) [] = []
sites_of (n ∷ nodes) (h ∷ held) = site_of n h ∷ sites_of nodes held

-- ---- a run whose nodes are fixed

pub record RunData : Type 0 where
  pub cluster : ClusterData
  pub revision : ℕ
  pub ring : ℕ
  pub sites : List SiteData

abbrev pub run_of : ControllerData QueueData → List HeldData → ℕ → RunData
run_of c held ring = record { cluster = c.cluster; revision = c.revision.0; ring = ring; sites = sites_of c.nodes held }

-- the queues of a node have this many places
pub record HasRings (ring : ℕ) (n : NodeStreams QueueData) : Type 0 where
  pub policies : n.policies.port.ring ≡ ring
  pub addresses : n.addresses.port.ring ≡ ring
  pub applied : n.applied.port.ring ≡ ring

-- what a run keeps: an agent for each node, and queues with the run's places
pub record IsRun (c : ControllerData QueueData) (held : List HeldData) (ring : ℕ) : Type 0 where
  pub unspent : c.spent ≡ false
  pub agents : length held ≡ length c.nodes
  pub rings : AllByRecursion (HasRings ring) c.nodes

-- ---- worlds

-- the run is the world of the machine, whatever came before
pub record Stands (r : RunData) (w : WorldData) : Type 0 where
  pub cluster : w.cluster ≡ r.cluster
  pub ring : w.ring ≡ r.ring
  pub sites : w.sites ≡ r.sites
  pub revision : last_revision w ≡ r.revision
  pub fixed : r.cluster.fixed ≡ true
  pub last : last_cluster w ≡ r.cluster

-- The bare cluster is the world of the machine as long as the nodes aren't fixed.
pub record StandsEarly (c : ClusterData) (places : ℕ) (w : WorldData) : Type 0 where
  pub cluster : w.cluster ≡ c
  pub early : c.fixed ≡ false
  pub ring : w.ring ≡ places
  pub sites : w.sites ≡ []
  pub history : w.history ≡ []

-- what was done to the run are these events of the machine
abbrev pub Does : (WorldData → List Event) → RunData → RunData → Type 0
Does events old new = (w : WorldData) → Stands old w → Stands new (all_happen (events w) w)

-- the nodes as they stand are fixed, at revision 0, and nothing was sent
abbrev pub begun_run : ClusterData → ℕ → RunData
begun_run c ring = record { cluster = record c { fixed = true }; revision = 0; ring = ring; sites = map first_site c.nodes }
