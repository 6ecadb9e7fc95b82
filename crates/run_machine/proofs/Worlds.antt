-- Every list of events leads to a sound world.
use Rattle.std.proofs.Common.{◌≡◌, ℕ, zero, suc, ◌+◌, ◌-◌, ◌≤◌, List, [], ◌∷◌, length, Bool, true, false, get_or, refl, sym, ap, subst, ◌∙◌, arith, true≢false}
use Rattle.std.specs.List.{AllByRecursion}
use Rattle.cl_types.specs.ListLaws.{all_weaker}
use Rattle.cl_types.specs.declared.stream.Stream.{Stream}
use Rattle.cl_types.specs.declared.stream.Stream.TheVariants.{Policies, Addresses, Applied}
use Rattle.cluster_types.specs.Cluster.{ClusterData, IsCluster, no_objects}
use Rattle.cluster_types.specs.Evaluation.{side}
use Rattle.cluster_types.specs.ClusterLaws.{no_objects_are}
use Rattle.cluster_objects.specs.Laws.{ChangesKeepClusters, ListsOfChangesKeepClusters, FixedNodesStay, UnchangedLeavesTheCluster}
use Rattle.watch_streams.specs.HeldEvaluation.{held_side}
use Rattle.watch_streams.specs.Laws.{held_of, OneRevisionIsThePoliciesVerdict, StreamsLeadOn}
use Rattle.watch_streams.specs.Stream.{IsStream, map_at}
use Rattle.held_maps.specs.Held.{map_on}
use Rattle.run_machine.specs.Laws.{IsWholeEvent, IsInStep, JudgesAsPolicies, IsSettled, JudgesAsPoliciesNow, HasNodes, IsPresent, IsSound, EventsLeadToSoundWorlds}
use Rattle.run_machine.specs.Machine.{ChannelData, SiteData, on, last_revision, WorldData, Event, change, cut, rejoin, take, first_world, happens, all_happen}
use Rattle.run_machine.proofs.Changing.{IsKeptWorld, change_keeps}
use Rattle.run_machine.proofs.Cutting.{cut_keeps}
use Rattle.run_machine.proofs.Falling.{event_falls, too_few}
use Rattle.run_machine.proofs.Nodes.{event_nodes}
use Rattle.run_machine.proofs.Present.{change_present}
use Rattle.run_machine.proofs.Rejoining.{rejoin_keeps}
use Rattle.run_machine.specs.Settling.{settling, settled, Settles, EveryWorldSettles}
use Rattle.run_machine.proofs.Settling.{IsLocal, local_is_whole, settling_is_local, same_history, same_cluster, settling_settles}
use Rattle.cl_types.specs.declared.question.Question.{Question}
use Rattle.watch_streams.specs.OneOfAll.{all_of_both}
use Rattle.run_machine.proofs.Taking.{take_keeps}

-- what holds of all items, and of the one that stands in where there is none
holds_at : {T : Type 0} (P : T → Type 0) (xs : List T) (i : ℕ) (d : T) → AllByRecursion P xs → P d → P (get_or xs i d)
holds_at P [] i d all none = none
holds_at P (x ∷ xs) zero d all none = all.0
holds_at P (x ∷ xs) (suc i) d all none = holds_at P xs i d all.1 none

-- what is known of each world
pub record IsKnown (w : WorldData) : Type 0 where
  pub kept : IsKeptWorld w
  pub present : IsPresent w
  pub nodes : HasNodes w

module _ (keep : ChangesKeepClusters) (lists : ListsOfChangesKeepClusters) (stay : FixedNodesStay) (leave : UnchangedLeavesTheCluster) (lead : StreamsLeadOn)
    (verdict : OneRevisionIsThePoliciesVerdict) where
  judges : (history : List ClusterData) → AllByRecursion IsCluster history → (x : SiteData) → IsInStep history x → JudgesAsPolicies history x
  judges history whole x step rev q one =
      let at : (s : Stream) → map_on s x.maps ≡ map_at history s x.node rev = λ s. (step s).up_to_date ∙ ap (map_at history s x.node) (one s) in
      let maps : x.maps ≡ held_of (get_or history rev no_objects) x.node = λ i. record { policies = at Policies i; addresses = at Addresses i; applied = at Applied i } in
      ap (λ h. held_side h q) maps ∙ verdict (get_or history rev no_objects) x.node q (holds_at IsCluster history rev no_objects whole no_objects_are)

  -- what is settled stands at the last revision
  settled_at : (history : List ClusterData) (x : SiteData) → IsInStep history x → IsSettled x → (s : Stream) → on s x.revisions ≡ length history - 1
  settled_at history x step settled s =
      let stream : IsStream history s x.node true (on s x.revisions) [] =
      subst (λ (c : ChannelData). IsStream history s x.node c.live (on s x.revisions) c.queue) (settled s) (step s).queued in
      omega (arith, stream.reads, stream.whole refl)

  judges_now : (w : WorldData) → IsKeptWorld w → IsPresent w → (x : SiteData) → IsInStep w.history x → JudgesAsPoliciesNow w x
  judges_now w kept present x step q settled = by_fixed w.cluster.fixed refl
    where
      by_fixed : (b : Bool) → w.cluster.fixed ≡ b → held_side x.maps q ≡ side w.cluster x.node q
      by_fixed true fixed =
          judges w.history kept.clusters x step (last_revision w) q (settled_at w.history x step settled) ∙ ap (λ c. side c x.node q) (present.last fixed)
      by_fixed false early = absurd (too_few _ (subst (λ h. on Policies x.revisions + 1 ≤ length h) (present.none early) (step Policies).queued.within))

  event_keeps : (e : Event) (w : WorldData) → IsWholeEvent e → IsKeptWorld w → IsKeptWorld (happens e w)
  event_keeps (change changes backs) w whole kept = change_keeps lists changes backs w whole kept
  event_keeps (cut at) w whole kept = record { cluster = kept.cluster; clusters = kept.clusters; in_step = cut_keeps at w kept.in_step }
  event_keeps (rejoin at) w whole kept = record { cluster = kept.cluster; clusters = kept.clusters; in_step = rejoin_keeps at w kept.in_step }
  event_keeps (take at) w whole kept = record { cluster = kept.cluster; clusters = kept.clusters; in_step = take_keeps lead at w kept.clusters kept.in_step }

  event_present : (e : Event) (w : WorldData) → IsWholeEvent e → IsCluster w.cluster → IsPresent w → IsPresent (happens e w)
  event_present (change changes backs) w whole is present = change_present keep stay leave changes backs w is whole present
  event_present (cut at) w whole is present = record { none = present.none; last = present.last }
  event_present (rejoin at) w whole is present = record { none = present.none; last = present.last }
  event_present (take at) w whole is present = record { none = present.none; last = present.last }

  event_known : (e : Event) (w : WorldData) → IsWholeEvent e → IsKnown w → IsKnown (happens e w)
  event_known e w whole known = record {
    kept = event_keeps e w whole known.kept;
    present = event_present e w whole known.kept.cluster known.present;
    nodes = event_nodes keep stay leave e w known.kept.cluster whole known.nodes;
  }

  events_known : (events : List Event) (w : WorldData) → AllByRecursion IsWholeEvent events → IsKnown w → IsKnown (all_happen events w)
  events_known [] w whole known = known
  events_known (e ∷ events) w whole known = events_known events (happens e w) whole.1 (event_known e w whole.0 known)

  known_is_sound : (w : WorldData) → IsKnown w → IsSound w
  known_is_sound w known =
      let kept = known.kept in
      record {
        cluster = kept.cluster;
        clusters = kept.clusters;
        present = known.present;
        nodes = known.nodes;
        in_step = kept.in_step;
        judges = all_weaker (IsInStep w.history) (JudgesAsPolicies w.history) (judges w.history kept.clusters) w.sites kept.in_step;
        judges_now = all_weaker (IsInStep w.history) (JudgesAsPoliciesNow w) (judges_now w kept known.present) w.sites kept.in_step;
        none_falls = event_falls w kept.in_step known.present lead kept.clusters;
      }

  first_known : (ring : ℕ) → IsKnown (first_world ring)
  first_known ring = record {
    kept = record { cluster = no_objects_are; clusters = tt; in_step = tt };
    present = record { none = λ early. refl; last = λ fixed. absurd (true≢false (sym fixed)) };
    nodes = refl;
  }

  pub events_lead : EventsLeadToSoundWorlds
  events_lead ring events whole = known_is_sound (all_happen events (first_world ring)) (events_known events (first_world ring) whole (first_known ring))

  world_settles : (w : WorldData) → IsKnown w → Settles w
  world_settles w known =
      let local = settling_is_local w in
      let whole = all_weaker IsLocal IsWholeEvent local_is_whole (settling w) local in
      let sound = known_is_sound (settled w) (events_known (settling w) w whole known) in
      let all = settling_settles w known.kept.cluster known.nodes in
      record {
        all = all;
        revisions =
            all_of_both IsSettled (IsInStep (settled w).history) (λ (x : SiteData). (s : Stream) → on s x.revisions ≡ last_revision w)
            (λ x is step s. settled_at (settled w).history x step is s ∙ ap (λ (h : List ClusterData). length h - 1) (same_history (settling w) w local)) (settled w).sites all sound.in_step;
        verdicts =
            all_of_both IsSettled (JudgesAsPoliciesNow (settled w)) (λ (x : SiteData). (q : Question) → held_side x.maps q ≡ side w.cluster x.node q)
            (λ x is judges q. judges q is ∙ ap (λ c. side c x.node q) (same_cluster (settling w) w local)) (settled w).sites all sound.judges_now;
      }

  pub every_settles : EveryWorldSettles
  every_settles ring events whole = world_settles (all_happen events (first_world ring)) (events_known events (first_world ring) whole (first_known ring))
