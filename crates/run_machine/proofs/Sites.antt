-- A node that is in step stays so where one of its streams is another that may stand there.
use Rattle.std.proofs.Common.{ℕ, List, Bool, true, false, map, if◌then◌else◌}
use Rattle.std.specs.List.{AllByRecursion}
use Rattle.cl_types.specs.ListLaws.{all_weaker}
use Rattle.cl_types.specs.Text.{text_eq}
use Rattle.cl_types.specs.declared.stream.Stream.{Stream}
use Rattle.cl_types.specs.declared.stream.Stream.TheVariants.{Policies, Addresses, Applied}
use Rattle.cluster_types.specs.Cluster.{ClusterData}
use Rattle.watch_streams.specs.OneOfAll.{all_map}
use Rattle.watch_streams.specs.Stream.{IsStream}
use Rattle.run_machine.specs.Laws.{IsInStep}
use Rattle.run_machine.specs.Machine.{OfStreams, ChannelData, SiteData, WorldData, StreamOf, on, put_on, channel_on, with_channel, at_site}

-- what holds of one stream's new thing and of the others' old ones holds of each
pub on_each : {T : Type 0} (P : Stream → T → Type 0) (s : Stream) (new : T) (things : OfStreams T) → P s new → ((t : Stream) → P t (on t things))
    → (t : Stream) → P t (on t (put_on s new things))
on_each P Policies new things here there Policies = here
on_each P Policies new things here there Addresses = there Addresses
on_each P Policies new things here there Applied = there Applied
on_each P Addresses new things here there Policies = there Policies
on_each P Addresses new things here there Addresses = here
on_each P Addresses new things here there Applied = there Applied
on_each P Applied new things here there Policies = there Policies
on_each P Applied new things here there Addresses = there Addresses
on_each P Applied new things here there Applied = here

-- the channel may stand on a stream of the node
abbrev pub MayStand : List ClusterData → SiteData → Stream → ChannelData → Type 0
MayStand history x s channel = IsStream history s x.node channel.live (on s x.revisions) channel.queue

pub in_step_with : (history : List ClusterData) (s : Stream) (new : ChannelData) (x : SiteData) → MayStand history x s new → IsInStep history x
    → IsInStep history (with_channel s new x)
in_step_with history s new x may step t = record {
  queued = on_each (MayStand history x) s new x.channels may (λ u. (step u).queued) t;
  up_to_date = (step t).up_to_date;
}

-- ---- all nodes

-- what is done at a node keeps what it keeps of each node
pub all_at : (P : SiteData → Type 0) (node : List ℕ) (f : SiteData → SiteData) → ((x : SiteData) → P x → P (f x)) → (xs : List SiteData) → AllByRecursion P xs
    → AllByRecursion P (map (λ (x : SiteData). if text_eq x.node node then f x else x) xs)
all_at P node f keeps xs all =
    all_map P (λ (x : SiteData). if text_eq x.node node then f x else x) xs
    (all_weaker P (λ (x : SiteData). P (if text_eq x.node node then f x else x)) (λ x is. by_test x is (text_eq x.node node)) xs all)
  where
    by_test : (x : SiteData) → P x → (b : Bool) → P (if b then f x else x)
    by_test x is true = keeps x is
    by_test x is false = is

-- what is done to a stream leaves all in step where it leaves what may stand there
pub in_step_at : (at : StreamOf) (f : SiteData → ChannelData → ChannelData) (w : WorldData)
    → ((x : SiteData) (channel : ChannelData) → MayStand w.history x at.stream channel → MayStand w.history x at.stream (f x channel))
    → AllByRecursion (IsInStep w.history) w.sites
    → AllByRecursion (IsInStep w.history) (at_site at.node (λ x. with_channel at.stream (f x (channel_on at.stream x)) x) w).sites
in_step_at at f w keeps all =
    all_at (IsInStep w.history) at.node (λ x. with_channel at.stream (f x (channel_on at.stream x)) x)
    (λ x step. in_step_with w.history at.stream (f x (channel_on at.stream x)) x (keeps x (channel_on at.stream x) (step at.stream).queued) step) w.sites all
