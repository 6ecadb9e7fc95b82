-- What the events of streams make of a run whose nodes are fixed (this project's own): the machine's own functions of a
-- site, at the run's cluster and revision.
use Rattle.std.specs.Prelude.{◌≡◌, ℕ, ◌<◌, List, [], ◌∷◌, length, get_or, map, Bool, true, if◌then◌else◌}
use Rattle.std.specs.List.{list_any}
use Rattle.cl_types.specs.declared.stream.Stream.{Stream}
use Rattle.cl_types.specs.Text.{text_eq}
use Rattle.watch_streams.specs.declared.message.Msg.{Msg}
use Rattle.watch_streams.specs.declared.message.Msg.TheVariants.{Snapshot}
use Rattle.watch_streams.specs.Projection.{projection}
use Rattle.run_machine.specs.Machine.{ChannelData, Event, SiteData, StreamOf, change, cut, rejoin, take as take_one, channel_on, cut_at, rejoined, taken, with_channel}
use Rattle.suite_run.specs.RunState.{RunData}

-- ---- nodes

abbrev pub node_names : List SiteData → List (List ℕ)
node_names sites = map (λ (x : SiteData). x.node) sites

-- whether a site has the name
abbrev pub is_listed : List ℕ → List SiteData → Bool
is_listed node sites = list_any (λ (x : SiteData). text_eq x.node node) sites

-- the name at a place
pub record NameAt (names : List (List ℕ)) (i : ℕ) (name : List ℕ) : Type 0 where
  pub within : i < length names
  pub is : get_or names i [] ≡ name

-- a stream of a node, by its name
abbrev pub stream_at : List ℕ → Stream → StreamOf
stream_at node s = record { node = node; stream = s }

-- the channel of a stream of the node; one with nothing on it where no site has the name
abbrev pub channel_at : StreamOf → List SiteData → ChannelData
channel_at at [] = record { live = true; queue = [] }
channel_at at (x ∷ sites) = if text_eq x.node at.node then channel_on at.stream x else channel_at at sites

-- the messages that wait on a stream of the node
abbrev pub waiting_at : StreamOf → List SiteData → List Msg
waiting_at at sites = (channel_at at sites).queue

-- ---- events

-- all that belongs on a stream at the run's revision
abbrev pub snapshot_now : RunData → Stream → List ℕ → Msg
snapshot_now r s node = Snapshot (record { 0 = r.revision }) (projection r.cluster s node)

abbrev pub rejoined_now : RunData → Stream → SiteData → SiteData
rejoined_now r s x = with_channel s (rejoined (snapshot_now r s x.node) (channel_on s x)) x

-- the site of the node alone becomes another
abbrev pub at_node : List ℕ → (SiteData → SiteData) → SiteData → SiteData
at_node node f x = if text_eq x.node node then f x else x

-- (Changes are not among the events of streams.)
abbrev pub site_after : RunData → Event → SiteData → SiteData
site_after r (change changes backs) x = x
site_after r (cut at) x = at_node at.node (cut_at at.stream) x
site_after r (rejoin at) x = at_node at.node (rejoined_now r at.stream) x
site_after r (take_one at) x = at_node at.node (taken at.stream) x

abbrev pub run_after : Event → RunData → RunData
run_after e r = record r { sites = map (site_after r e) r.sites }

-- one after another
abbrev pub run_after_all : List Event → RunData → RunData
run_after_all [] r = r
run_after_all (e ∷ events) r = run_after_all events (run_after e r)
