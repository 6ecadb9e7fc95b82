-- A message that is taken leaves all in step, and its stream's revision isn't before the old one.
use Rattle.std.proofs.Common.{◌≡◌, ℕ, ◌-◌, ◌≤◌, List, [], ◌∷◌, length, Bool, false, refl, ap, subst, ◌∙◌, arith}
use Rattle.std.specs.List.{AllByRecursion}
use Rattle.cl_types.specs.declared.stream.Stream.{Stream}
use Rattle.cl_types.specs.declared.stream.Stream.TheVariants.{Policies, Addresses, Applied}
use Rattle.cluster_types.specs.Cluster.{ClusterData, IsCluster}
use Rattle.watch_streams.specs.declared.message.Msg.{Msg}
use Rattle.watch_streams.specs.declared.message.Msg.TheVariants.{Delta, Snapshot}
use Rattle.watch_streams.specs.declared.message.StreamObject.{StreamObject}
use Rattle.watch_streams.specs.Laws.{LeadsOn, StreamsLeadOn}
use Rattle.watch_streams.specs.Stream.{Reads, IsStream, map_at, after_message}
use Rattle.held_maps.specs.Held.{map_on, revision_of}
use Rattle.run_machine.specs.Laws.{IsInStep}
use Rattle.run_machine.specs.Machine.{ChannelData, SiteData, WorldData, StreamOf, on, channel_on, with_channel, holding, taken_of, taken, at_site}
use Rattle.run_machine.proofs.Reading.{never}
use Rattle.run_machine.proofs.Sites.{all_at}

-- ---- the first message of a stream

-- the first message alone, and those after it
first_reads : (map : ℕ → List StreamObject) (last from : ℕ) (m : Msg) (messages : List Msg) (to : ℕ) → Reads map last from (m ∷ messages) to → Reads map last from (m ∷ []) (revision_of m).0
first_reads map last from (Delta rev changes) messages to r = (r.0, r.1, r.2, refl)
first_reads map last from (Snapshot rev objects) messages to r = (r.0, r.1, r.2, refl)

rest_reads : (map : ℕ → List StreamObject) (last from : ℕ) (m : Msg) (messages : List Msg) (to : ℕ) → Reads map last from (m ∷ messages) to → Reads map last (revision_of m).0 messages to
rest_reads map last from (Delta rev changes) messages to r = r.3
rest_reads map last from (Snapshot rev objects) messages to r = r.3

up_to_last : (map : ℕ → List StreamObject) (last from : ℕ) (m : Msg) (messages : List Msg) (to : ℕ) → Reads map last from (m ∷ messages) to → (revision_of m).0 ≤ last
up_to_last map last from (Delta rev changes) messages to r = r.1
up_to_last map last from (Snapshot rev objects) messages to r = r.1

module _ (history : List ClusterData) (s : Stream) (node : List ℕ) (live : Bool) (from : ℕ) (m : Msg) (messages : List Msg) (stream : IsStream history s node live from (m ∷ messages)) where
  first_stream : IsStream history s node false from (m ∷ [])
  first_stream = record {
    within = stream.within;
    to = (revision_of m).0;
    reads = first_reads (map_at history s node) (length history - 1) from m messages stream.to stream.reads;
    whole = λ is. absurd (never is);
  }

  rest_stream : IsStream history s node live (revision_of m).0 messages
  rest_stream = record {
    within = omega (arith, stream.within, up_to_last (map_at history s node) (length history - 1) from m messages stream.to stream.reads);
    to = stream.to;
    reads = rest_reads (map_at history s node) (length history - 1) from m messages stream.to stream.reads;
    whole = stream.whole;
  }

-- ---- what an agent holds after it

holding_keeps : (history : List ClusterData) (s : Stream) (m : Msg) (channel : ChannelData) (x : SiteData) → IsStream history s x.node channel.live (revision_of m).0 channel.queue
    → after_message s m (map_on s x.maps) ≡ map_at history s x.node (revision_of m).0 → IsInStep history x → IsInStep history (holding s m (with_channel s channel x))
holding_keeps history Policies m channel x rest now step Policies = record { queued = rest; up_to_date = now }
holding_keeps history Policies m channel x rest now step Addresses = record { queued = (step Addresses).queued; up_to_date = (step Addresses).up_to_date }
holding_keeps history Policies m channel x rest now step Applied = record { queued = (step Applied).queued; up_to_date = (step Applied).up_to_date }
holding_keeps history Addresses m channel x rest now step Policies = record { queued = (step Policies).queued; up_to_date = (step Policies).up_to_date }
holding_keeps history Addresses m channel x rest now step Addresses = record { queued = rest; up_to_date = now }
holding_keeps history Addresses m channel x rest now step Applied = record { queued = (step Applied).queued; up_to_date = (step Applied).up_to_date }
holding_keeps history Applied m channel x rest now step Policies = record { queued = (step Policies).queued; up_to_date = (step Policies).up_to_date }
holding_keeps history Applied m channel x rest now step Addresses = record { queued = (step Addresses).queued; up_to_date = (step Addresses).up_to_date }
holding_keeps history Applied m channel x rest now step Applied = record { queued = rest; up_to_date = now }

holding_later : (s : Stream) (m : Msg) (channel : ChannelData) (x : SiteData) → on s x.revisions ≤ (revision_of m).0 → (t : Stream)
    → on t x.revisions ≤ on t (holding s m (with_channel s channel x)).revisions
holding_later Policies m channel x later Policies = later
holding_later Policies m channel x later Addresses = omega arith
holding_later Policies m channel x later Applied = omega arith
holding_later Addresses m channel x later Policies = omega arith
holding_later Addresses m channel x later Addresses = later
holding_later Addresses m channel x later Applied = omega arith
holding_later Applied m channel x later Policies = omega arith
holding_later Applied m channel x later Addresses = omega arith
holding_later Applied m channel x later Applied = later

module _ (lead : StreamsLeadOn) (history : List ClusterData) (whole : AllByRecursion IsCluster history) (s : Stream) (x : SiteData) (step : IsInStep history x) where
  module _ (m : Msg) (messages : List Msg) (is : (channel_on s x).queue ≡ m ∷ messages) where
    waiting : IsStream history s x.node (channel_on s x).live (on s x.revisions) (m ∷ messages)
    waiting = subst (λ q. IsStream history s x.node (channel_on s x).live (on s x.revisions) q) is (step s).queued

    led : LeadsOn history s x.node (on s x.revisions) (revision_of m).0 (m ∷ [])
    unfolding first_stream
    led = lead history s x.node false (on s x.revisions) (m ∷ []) whole (first_stream history s x.node (channel_on s x).live (on s x.revisions) m messages waiting)

  taken_of_keeps : (queue : List Msg) → (channel_on s x).queue ≡ queue → IsInStep history (taken_of queue s x)
  taken_of_keeps [] is = step
  taken_of_keeps (m ∷ messages) is =
      holding_keeps history s m (record (channel_on s x) { queue = messages }) x
      (rest_stream history s x.node (channel_on s x).live (on s x.revisions) m messages (waiting m messages is))
      (ap (after_message s m) (step s).up_to_date ∙ (led m messages is).leads) step

  taken_of_later : (queue : List Msg) → (channel_on s x).queue ≡ queue → (t : Stream) → on t x.revisions ≤ on t (taken_of queue s x).revisions
  taken_of_later [] is t = omega arith
  taken_of_later (m ∷ messages) is t = holding_later s m (record (channel_on s x) { queue = messages }) x (led m messages is).later t

  -- no revision falls
  pub taken_later : (t : Stream) → on t x.revisions ≤ on t (taken s x).revisions
  taken_later = taken_of_later (channel_on s x).queue refl

  taken_keeps : IsInStep history (taken s x)
  taken_keeps = taken_of_keeps (channel_on s x).queue refl

pub take_keeps : StreamsLeadOn → (at : StreamOf) (w : WorldData) → AllByRecursion IsCluster w.history → AllByRecursion (IsInStep w.history) w.sites
    → AllByRecursion (IsInStep w.history) (at_site at.node (taken at.stream) w).sites
take_keeps lead at w whole all = all_at (IsInStep w.history) at.node (taken at.stream) (taken_keeps lead w.history whole at.stream) w.sites all
