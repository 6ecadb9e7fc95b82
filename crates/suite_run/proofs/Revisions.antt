-- A line makes at most one revision.
use Rattle.std.proofs.Common.{◌≡◌, ℕ, ◌+◌, ◌-◌, ◌≤◌, Bool, true, false, Result, Ok, Err, Option, List, [], ◌∷◌, ◌++◌, length, not, ◌&&◌, filter, map, if◌then◌else◌, refl, ap, ◌∙◌, arith, length-append}
use Rattle.std.specs.List.{AllByRecursion, flat_map}
use Rattle.cl_types.specs.declared.stream.Stream.{Stream}
use Rattle.cl_types.specs.declared.stream.Stream.TheVariants.{Policies, Addresses, Applied}
use Rattle.cl_types.specs.ListLaws.{all_each}
use Rattle.cluster_types.specs.declared.change.Change.{Change}
use Rattle.cluster_types.specs.Cluster.{ClusterData}
use Rattle.cluster_objects.specs.declared.change.ClusterRefusal.{ClusterRefusal}
use Rattle.cluster_objects.specs.Changes.{Outcomes, after}
use Rattle.watch_streams.specs.declared.message.Msg.{Msg}
use Rattle.watch_streams.specs.OneOfAll.{all_append, all_flat_map, all_map}
use Rattle.run_machine.specs.Lines.{LineData, objects, deliver, cut_stream, rejoin_stream, settle, quiet, after_line, delivering_site, delivering_stream, every_stream, first_of, full_streams, is_meant_node, is_meant_stream}
use Rattle.run_machine.specs.Machine.{ChannelData, Event, SiteData, StreamOf, WorldData, change, cut, rejoin, take, accepted, all_happen, begun, changed, channel_on, fixed_after, happens, is_full, last_revision, revised}
use Rattle.run_machine.specs.Settling.{settling_site, settling_stream, stream_of}
use Rattle.suite_run.specs.declared.item.Item.{Item}
use Rattle.suite_run.specs.World.{OutcomeData, happens_if, is_refusal, line_of, step, told_of_item}
use Rattle.suite_run.proofs.Standing.{IsOfStreams}

-- ---- events of streams leave the history

pub history_after : (events : List Event) (w : WorldData) → AllByRecursion IsOfStreams events → (all_happen events w).history ≡ w.history
history_after [] w of = refl
history_after (change changes backs ∷ events) w of = absurd of.0
history_after (cut at ∷ events) w of = history_after events (happens (cut at) w) of.1
history_after (rejoin at ∷ events) w of = history_after events (happens (rejoin at) w) of.1
history_after (take at ∷ events) w of = history_after events (happens (take at) w) of.1

takes_of : (at : StreamOf) (messages : List Msg) → AllByRecursion IsOfStreams (map (λ (m : Msg). take at) messages)
takes_of at messages = all_map IsOfStreams (λ (m : Msg). take at) messages (all_each _ (λ m. tt) messages)

delivering_of : (stream : Option Stream) (count : Option ℕ) (sites : List SiteData) → AllByRecursion IsOfStreams (flat_map (delivering_site stream count) sites)
delivering_of stream count sites =
    all_flat_map IsOfStreams (delivering_site stream count) sites
    (all_each _ (λ x. all_flat_map IsOfStreams (delivering_stream count x) (filter (is_meant_stream stream) every_stream)
    (all_each _ (λ s. takes_of (stream_of x s) (first_of count (channel_on s x).queue)) (filter (is_meant_stream stream) every_stream))) sites)

again_of : (at : StreamOf) (live : Bool) → AllByRecursion IsOfStreams (if live then [] else rejoin at ∷ take at ∷ [])
again_of at true = tt
again_of at false = (tt, (tt, tt))

settling_stream_of : (at : StreamOf) (x : SiteData) → AllByRecursion IsOfStreams (settling_stream at x)
settling_stream_of at x =
    all_append IsOfStreams (map (λ (m : Msg). take at) (channel_on at.stream x).queue) (if (channel_on at.stream x).live then [] else rejoin at ∷ take at ∷ [])
    (takes_of at (channel_on at.stream x).queue) (again_of at (channel_on at.stream x).live)

settling_site_of : (x : SiteData) → AllByRecursion IsOfStreams (settling_site x)
settling_site_of x =
    all_append IsOfStreams (settling_stream (stream_of x Policies) x) (settling_stream (stream_of x Addresses) x ++ settling_stream (stream_of x Applied) x)
    (settling_stream_of (stream_of x Policies) x)
    (all_append IsOfStreams (settling_stream (stream_of x Addresses) x) (settling_stream (stream_of x Applied) x) (settling_stream_of (stream_of x Addresses) x) (settling_stream_of (stream_of x Applied) x))

-- ---- changes

fixed_length : (b : Bool) (c : ClusterData) (w : WorldData) → length (if b then begun c w else w).history ≤ last_revision w + 1
fixed_length true c w = omega arith
fixed_length false c w = omega arith

changed_last : (other : Bool) (o : Outcomes) (backs : List StreamOf) (w d : WorldData) → length d.history ≤ last_revision w + 1
    → last_revision (if other then revised backs o.cluster d else record d { cluster = o.cluster }) ≤ last_revision w + 1
changed_last true o backs w d most = omega (arith, most, length-append d.history (o.cluster ∷ []))
changed_last false o backs w d most = omega (arith, most)

accepted_last : (r : Result Outcomes ClusterRefusal) (backs : List StreamOf) (w : WorldData) → last_revision (accepted r backs w) ≤ last_revision w + 1
accepted_last (Ok o) backs w = changed_last o.other_changed o backs w (fixed_after o.cluster w) (fixed_length (o.cluster.fixed && not w.cluster.fixed) o.cluster w)
accepted_last (Err refusal) backs w = omega arith

-- ---- lines

kept_last : (events : List Event) (w : WorldData) → AllByRecursion IsOfStreams events → last_revision (all_happen events w) ≤ last_revision w + 1
kept_last events w of = let e = ap (λ (h : List ClusterData). length h - 1) (history_after events w of) in omega arith

rejoin_last : (full : Bool) (at : StreamOf) (w : WorldData) → last_revision (all_happen (if full then [] else rejoin at ∷ []) w) ≤ last_revision w + 1
rejoin_last true at w = omega arith
rejoin_last false at w = omega arith

line_last : (line : LineData) (w : WorldData) → last_revision (after_line line w) ≤ last_revision w + 1
line_last (objects changes) w = accepted_last (after w.cluster changes) (full_streams w) w
line_last (deliver node stream count) w =
    kept_last _ w (delivering_of stream count (filter (λ (x : SiteData). is_meant_node node x.node) w.sites))
line_last (cut_stream at) w = omega arith
line_last (rejoin_stream at) w = rejoin_last (is_full w at.stream at.node) at w
line_last settle w = kept_last _ w (all_flat_map IsOfStreams settling_site w.sites (all_each _ settling_site_of w.sites))
line_last quiet w = omega arith

if_last : (o : OutcomeData) (line : LineData) (w : WorldData) → last_revision (happens_if o line w) ≤ last_revision w + 1
if_last o line w = by_refusal (is_refusal o)
  where
    by_refusal : (b : Bool) → last_revision (if b then w else after_line line w) ≤ last_revision w + 1
    by_refusal true = omega arith
    by_refusal false = line_last line w

pub revision-step : (w : WorldData) (item : Item) → last_revision (step w item).world ≤ last_revision w + 1
unfolding step
revision-step w item = if_last (told_of_item w item) (line_of item) w
