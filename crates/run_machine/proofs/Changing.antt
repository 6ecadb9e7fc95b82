-- A line of changes leaves a history of clusters, and all in step.
use Rattle.std.proofs.Common.{ℕ, ◌≡◌, List, [], ◌∷◌, ◌++◌, Bool, true, false, Result, Ok, Err, if◌then◌else◌, refl, ◌∙◌}
use Rattle.std.specs.List.{AllByRecursion}
use Rattle.cl_types.specs.ListLaws.{all_weaker}
use Rattle.cl_types.specs.declared.stream.Stream.{Stream}
use Rattle.cl_types.specs.declared.stream.Stream.TheVariants.{Policies, Addresses, Applied}
use Rattle.cluster_types.specs.Cluster.{ClusterData, IsCluster}
use Rattle.cluster_types.specs.declared.change.Change.{Change}
use Rattle.cluster_objects.specs.declared.change.ClusterRefusal.{ClusterRefusal}
use Rattle.cluster_objects.specs.Changes.{Outcomes, after}
use Rattle.cluster_objects.specs.Laws.{IsWholeChange, ListsOfChangesKeepClusters}
use Rattle.watch_streams.specs.declared.message.Msg.{Msg}
use Rattle.watch_streams.specs.Stream.{map_at}
use Rattle.held_maps.specs.Held.{map_on}
use Rattle.watch_streams.specs.OneOfAll.{all_map, all_append}
use Rattle.run_machine.specs.Laws.{IsInStep}
use Rattle.run_machine.specs.Machine.{SiteData, WorldData, StreamOf, on, channel_on, sent, delta, is_among, offered_all, revised, begun, fixed_after, changed, accepted}
use Rattle.run_machine.specs.Streams.{LeadsOnFrom, ToldStreamsLeadOn}
use Rattle.run_machine.proofs.Reading.{same_at, longer_stream, told_stream}
use Rattle.run_machine.proofs.Sites.{MayStand}
use Rattle.run_machine.proofs.Starting.{nodes_alone_are, begun_in_step, fixed_cases}

-- ---- the message of the next revision

pub sent_leads : (w : WorldData) (c : ClusterData) (s : Stream) (node : List ℕ) (from : ℕ) (live back : Bool) (queue : List Msg)
    → LeadsOnFrom w.history s node from (record { live = live; queue = queue })
    → LeadsOnFrom (w.history ++ c ∷ []) s node from (sent (delta w c s node) back (record { live = live; queue = queue }))
sent_leads w c s node from true true queue leads = longer_stream w.history s node from queue c true leads
sent_leads w c s node from true false queue leads = told_stream w.history s node from queue c leads
sent_leads w c s node from false back queue leads = longer_stream w.history s node from queue c false leads

pub told_lead : ToldStreamsLeadOn
told_lead w c s node from back channel leads = sent_leads w c s node from channel.live back channel.queue leads

module _ (w : WorldData) (c : ClusterData) (x : SiteData) where
  module _ (backs : List StreamOf) (step : IsInStep w.history x) where
    offered_may : (s : Stream) → MayStand (w.history ++ c ∷ []) x s (sent (delta w c s x.node) (is_among backs s x.node) (channel_on s x))
    offered_may s = told_lead w c s x.node (on s x.revisions) (is_among backs s x.node) (channel_on s x) (step s).queued

    offered_up : (s : Stream) → map_on s x.maps ≡ map_at (w.history ++ c ∷ []) s x.node (on s x.revisions)
    offered_up s = (step s).up_to_date ∙ same_at w.history c s x.node (on s x.revisions) (step s).queued.within

    offered_in_step : IsInStep (w.history ++ c ∷ []) (offered_all w c backs x)
    offered_in_step Policies = record { queued = offered_may Policies; up_to_date = offered_up Policies }
    offered_in_step Addresses = record { queued = offered_may Addresses; up_to_date = offered_up Addresses }
    offered_in_step Applied = record { queued = offered_may Applied; up_to_date = offered_up Applied }

-- ---- worlds

-- the clusters are whole, and all nodes are in step
pub record IsKeptWorld (w : WorldData) : Type 0 where
  pub cluster : IsCluster w.cluster
  pub clusters : AllByRecursion IsCluster w.history
  pub in_step : AllByRecursion (IsInStep w.history) w.sites

module _ (backs : List StreamOf) (c : ClusterData) (whole : IsCluster c) where
  begun_keeps : (w : WorldData) → IsKeptWorld w → IsKeptWorld (begun c w)
  begun_keeps w kept = record { cluster = kept.cluster; clusters = (nodes_alone_are c whole, tt); in_step = begun_in_step c w }

  revised_keeps : (w : WorldData) → IsKeptWorld w → IsKeptWorld (revised backs c w)
  revised_keeps w kept = record {
    cluster = whole;
    clusters = all_append IsCluster w.history (c ∷ []) kept.clusters (whole, tt);
    in_step =
        all_map (IsInStep (w.history ++ c ∷ [])) (offered_all w c backs) w.sites
        (all_weaker (IsInStep w.history) (λ x. IsInStep (w.history ++ c ∷ []) (offered_all w c backs x)) (λ x step. offered_in_step w c x backs step) w.sites kept.in_step);
  }

  fixed_keeps : (w : WorldData) → IsKeptWorld w → IsKeptWorld (fixed_after c w)
  fixed_keeps w kept = fixed_cases IsKeptWorld c w kept (λ none. begun_keeps w kept)

changed_keeps : (o : Outcomes) (backs : List StreamOf) (w : WorldData) → IsCluster o.cluster → IsKeptWorld w → IsKeptWorld (changed o backs w)
changed_keeps o backs w whole kept = by_test o.other_changed
  where
    now : IsKeptWorld (fixed_after o.cluster w)
    now = fixed_keeps backs o.cluster whole w kept

    by_test : (b : Bool) → IsKeptWorld (if b then revised backs o.cluster (fixed_after o.cluster w) else record (fixed_after o.cluster w) { cluster = o.cluster })
    by_test true = revised_keeps backs o.cluster whole (fixed_after o.cluster w) now
    by_test false = record { cluster = whole; clusters = now.clusters; in_step = now.in_step }

pub change_keeps : ListsOfChangesKeepClusters → (changes : List Change) (backs : List StreamOf) (w : WorldData) → AllByRecursion IsWholeChange changes → IsKeptWorld w
    → IsKeptWorld (accepted (after w.cluster changes) backs w)
change_keeps lists changes backs w whole kept = by_result (after w.cluster changes) refl
  where
    by_result : (r : Result Outcomes ClusterRefusal) → after w.cluster changes ≡ r → IsKeptWorld (accepted r backs w)
    by_result (Ok o) is = changed_keeps o backs w (lists w.cluster changes o kept.cluster whole is) kept
    by_result (Err refusal) is = kept
