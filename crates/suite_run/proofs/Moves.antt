-- What the controller's calls on a stream, and its agent's, make of the run.
use Rattle.std.proofs.lemmas.Bool.Decides.{leb_tells}
use Rattle.std.specs.Prelude.{false, nat_le}
use Rattle.std.proofs.Common.{◌≡◌, ◌<◌, ◌⊎◌, inl, inr, ℕ, ◌-◌, ◌≤◌, List, [], ◌∷◌, length, get_or, set, Bool, true, Option, Some, None, Result, Ok, Err, if◌then◌else◌, option_map, refl, sym, ap, subst, ◌∙◌, arith}
use Rattle.std.specs.declared.cmp.Ordering.{Ordering}
use Rattle.std.specs.declared.cmp.Ordering.TheVariants.{Less, Equal, Greater}
use Rattle.std.specs.Ordering.{match_ordering}
use Rattle.cl_types.specs.AscendingLaws.{found_at, found_holds}
use Rattle.cl_types.specs.OrderLaws.{text_order_exact}
use Rattle.cl_types.specs.Text.{text_eq, text_order}
use Rattle.cl_types.specs.declared.stream.Rev.{Rev}
use Rattle.cl_types.specs.declared.stream.Stream.{Stream}
use Rattle.cl_types.specs.declared.stream.Stream.TheVariants.{Policies, Addresses, Applied}
use Rattle.ctl_core.specs.declared.outcome.RejoinFault.{RejoinFault}
use Rattle.ctl_core.specs.declared.outcome.RejoinFault.TheVariants.{NotCut, Full, NoMemory}
use Rattle.ctl_core.specs.Controller.{ChangesOneStream, ControllerData, IsController, live_at}
use Rattle.ctl_core.specs.Controller as controller
use Rattle.stream_messages.specs.Messages.{snapshot}
use Rattle.node_streams.specs.Streams.{IsBegunAgain, IsCut, IsFull, NodeStreams, StreamData, TakesFrom, at_node as compares, stream_of, streams_at, with_stream}
use Rattle.held_maps.specs.Held.{HeldData, IsTaken}
use Rattle.run_machine.specs.Machine.{ChannelData, SiteData, StreamOf, channel_on, cut, cut_at, cut_off, rejoin, rejoined, take, taken, taken_of, with_channel, with_message}
use Rattle.suite_run.specs.Cutting.{Rejoins, RejoinsAt, StaysFull}
use Rattle.suite_run.specs.Doing.{NameAt, channel_at, node_names, rejoined_now, run_after, stream_at, waiting_at}
use Rattle.suite_run.specs.RunState.{HasRings, IsRun, channel_of, numbers_of, run_of, site_of, sites_of}
use Rattle.suite_run.specs.Taking.{HasWaited}
use Rattle.suite_run.proofs.Changed.{KeepsRing, behind, one_name, run_changed, same_sites, sites_put, sites_put_held, some_one, still_run}
use Rattle.suite_run.proofs.Placing.{Nodes, site_names}
use Rattle.suite_run.proofs.Standing.{does_one}
use Rattle.watch_streams.specs.declared.message.Msg.{Msg}
use Rattle.watch_streams.specs.Ports.{HasSameRing, QueueData, queue_state}

-- ---- one site

site_with : (s : Stream) (stream : StreamData QueueData) (n : NodeStreams QueueData) (h : HeldData) → site_of (with_stream s stream n) h ≡ with_channel s (channel_of stream) (site_of n h)
site_with Policies stream n h = refl
site_with Addresses stream n h = refl
site_with Applied stream n h = refl

channel_is : (s : Stream) (n : NodeStreams QueueData) (h : HeldData) → channel_on s (site_of n h) ≡ channel_of (stream_of s n)
channel_is Policies n h = refl
channel_is Addresses n h = refl
channel_is Applied n h = refl

pub with_its_own : (s : Stream) (x : SiteData) → with_channel s (channel_on s x) x ≡ x
with_its_own Policies x = refl
with_its_own Addresses x = refl
with_its_own Applied x = refl

module _ (s : Stream) (n : NodeStreams QueueData) (stream : StreamData QueueData) where
  site_cut : (was_live : Bool) → IsCut was_live (stream_of s n) stream → (h : HeldData) → site_of (with_stream s stream n) h ≡ cut_at s (site_of n h)
  site_cut was_live is h =
      site_with s stream n h
      ∙ (ap (λ (c : ChannelData). with_channel s c (site_of n h)) (λ i. record { live = is.cut i; queue = (is.same i).messages })
      ∙ ap (λ (c : ChannelData). with_channel s (cut_off c) (site_of n h)) (sym (channel_is s n h)))

  site_begun : (m : Msg) → IsBegunAgain queue_state HasSameRing m (stream_of s n) stream → (h : HeldData) → site_of (with_stream s stream n) h ≡ with_channel s (rejoined m (channel_on s (site_of n h))) (site_of n h)
  site_begun m is h =
      let begun : channel_of stream ≡ with_message m (channel_of (stream_of s n)) = λ i. record { live = is.live i; queue = is.sent.sent i } in
      let again : with_message m (channel_of (stream_of s n)) ≡ rejoined m (channel_of (stream_of s n)) =
      ap (λ b. if b then channel_of (stream_of s n) else with_message m (channel_of (stream_of s n))) (sym is.was) in
      site_with s stream n h
      ∙ (ap (λ (c : ChannelData). with_channel s c (site_of n h)) (begun ∙ again)
      ∙ ap (λ (c : ChannelData). with_channel s (rejoined m c) (site_of n h)) (sym (channel_is s n h)))

  site_full : IsFull queue_state HasSameRing (stream_of s n) stream → (h : HeldData) → site_of (with_stream s stream n) h ≡ site_of n h
  site_full is h =
      let same : channel_of stream ≡ channel_of (stream_of s n) = λ i. record { live = (is.cut ∙ sym is.was) i; queue = is.sent i } in
      site_with s stream n h ∙ (ap (λ (c : ChannelData). with_channel s c (site_of n h)) (same ∙ sym (channel_is s n h)) ∙ with_its_own s (site_of n h))

  site_left : TakesFrom None (stream_of s n) stream → (h : HeldData) → site_of (with_stream s stream n) h ≡ site_of n h
  site_left is h =
      let same : channel_of stream ≡ channel_of (stream_of s n) = λ i. record { live = is.same i; queue = (is.taken.1 i).messages } in
      site_with s stream n h ∙ (ap (λ (c : ChannelData). with_channel s c (site_of n h)) (same ∙ sym (channel_is s n h)) ∙ with_its_own s (site_of n h))

  site_untaken : TakesFrom None (stream_of s n) stream → (h : HeldData) → site_of (with_stream s stream n) h ≡ taken s (site_of n h)
  site_untaken is h =
      let none : (channel_on s (site_of n h)).queue ≡ [] = ap (λ (c : ChannelData). c.queue) (channel_is s n h) ∙ is.taken.0 in
      site_left is h ∙ ap (λ q. taken_of q s (site_of n h)) (sym none)

site_taken : (s : Stream) (n : NodeStreams QueueData) (stream : StreamData QueueData) (was new : HeldData) (m : Msg) → TakesFrom (Some m) (stream_of s n) stream → IsTaken s m was new
    → site_of (with_stream s stream n) new ≡ taken s (site_of n was)
site_taken Policies n stream was new m is t =
    let waited : n.policies.port.messages ≡ m ∷ stream.port.messages = ap (λ (q : QueueData). q.messages) is.taken in
    (λ i. record {
      node = n.node;
      channels = record { policies = record { live = is.same i; queue = stream.port.messages }; addresses = channel_of n.addresses; applied = channel_of n.applied };
      maps = t.maps i;
      revisions = numbers_of (t.revisions i);
    })
    ∙ ap (λ q. taken_of q Policies (site_of n was)) (sym waited)
site_taken Addresses n stream was new m is t =
    let waited : n.addresses.port.messages ≡ m ∷ stream.port.messages = ap (λ (q : QueueData). q.messages) is.taken in
    (λ i. record {
      node = n.node;
      channels = record { policies = channel_of n.policies; addresses = record { live = is.same i; queue = stream.port.messages }; applied = channel_of n.applied };
      maps = t.maps i;
      revisions = numbers_of (t.revisions i);
    })
    ∙ ap (λ q. taken_of q Addresses (site_of n was)) (sym waited)
site_taken Applied n stream was new m is t =
    let waited : n.applied.port.messages ≡ m ∷ stream.port.messages = ap (λ (q : QueueData). q.messages) is.taken in
    (λ i. record {
      node = n.node;
      channels = record { policies = channel_of n.policies; addresses = channel_of n.addresses; applied = record { live = is.same i; queue = stream.port.messages } };
      maps = t.maps i;
      revisions = numbers_of (t.revisions i);
    })
    ∙ ap (λ q. taken_of q Applied (site_of n was)) (sym waited)

-- ---- the channel of a listed node

channel_found : (node : List ℕ) (s : Stream) (before : NodeStreams QueueData) (nodes : Nodes) (held : List HeldData) → length held ≡ length nodes → streams_at node nodes ≡ Some before
    → channel_at (stream_at node s) (sites_of nodes held) ≡ channel_of (stream_of s before)
channel_found node s before [] held same stands = cc
channel_found node s before (n ∷ nodes) [] same stands = absurd (omega (arith, same))
channel_found node s before (n ∷ nodes) (h ∷ held) same stands =
    by_order (text_order n.node node) refl stands (channel_found node s before nodes held (omega (arith, same)))
  where
    by_order : (r : Ordering) → text_order n.node node ≡ r → match_ordering r (streams_at node nodes) (Some n) None ≡ Some before
        → (streams_at node nodes ≡ Some before → channel_at (stream_at node s) (sites_of nodes held) ≡ channel_of (stream_of s before))
        → (if text_eq n.node node then channel_on s (site_of n h) else channel_at (stream_at node s) (sites_of nodes held)) ≡ channel_of (stream_of s before)
    by_order Less is f rest =
        ap (λ b. if b then channel_on s (site_of n h) else channel_at (stream_at node s) (sites_of nodes held)) (behind n.node node is) ∙ rest f
    by_order Equal is f rest =
        ap (λ b. if b then channel_on s (site_of n h) else channel_at (stream_at node s) (sites_of nodes held)) (one_name n.node node is)
        ∙ (channel_is s n h ∙ ap (λ m. channel_of (stream_of s m)) (some_one n before f))
    by_order Greater is f rest = cc

-- ---- rings

pub cut_ring : (was_live : Bool) → KeepsRing (IsCut was_live)
cut_ring was_live old new is = ap (λ (q : QueueData). q.ring) is.same

pub take_ring : (answer : Option Msg) → KeepsRing (TakesFrom answer)
take_ring None old new is = ap (λ (q : QueueData). q.ring) is.taken.1
take_ring (Some m) old new is = sym (ap (λ (q : QueueData). q.ring) is.taken)

below_ring : (ring queued : ℕ) → (ring - queued ≡ 0 → ⊥) → queued < ring
below_ring ring queued room = by_cases (leb_tells ring queued)
  where
    by_cases : ((nat_le ring queued ≡ true) × (ring ≤ queued)) ⊎ ((nat_le ring queued ≡ false) × (queued < ring)) → queued < ring
    by_cases (inl full) = absurd (room (omega (arith, full.1)))
    by_cases (inr left) = left.1

ring_on : (ring : ℕ) (s : Stream) (n : NodeStreams QueueData) → HasRings ring n → (stream_of s n).port.ring ≡ ring
ring_on ring Policies n has = has.policies
ring_on ring Addresses n has = has.addresses
ring_on ring Applied n has = has.applied

-- ---- the run

module _ (old new : ControllerData QueueData) (held : List HeldData) (ring : ℕ) (is : IsController old) (run : IsRun old held ring) (node : List ℕ) (s : Stream) where
  abbrev at : StreamOf
  at = stream_at node s

  module _ (was_live : Bool) (one : ChangesOneStream node s (IsCut was_live) old new) where
    pub cut_run : run_of new held ring ≡ run_after (cut at) (run_of old held ring)
    cut_run =
        run_changed node s (IsCut was_live) old new one held held ring _
        (
        ap (λ nodes. sites_of nodes held) one.streams.rest
        ∙ sites_put node (cut_at s) one.streams.before one.streams.after old.nodes held is.ascend one.streams.stands
        (λ h. ap (λ n. site_of n h) one.streams.changes.rest ∙ site_cut s one.streams.before (stream_of s one.streams.after) was_live one.streams.changes.how h)
        )

    pub cut_was : was_live ≡ (channel_at at (run_of old held ring).sites).live
    cut_was = one.streams.changes.how.was ∙ sym (ap (λ (c : ChannelData). c.live) (channel_found node s one.streams.before old.nodes held run.agents one.streams.stands))

  pub none_run : ChangesOneStream node s (TakesFrom None) old new → run_of new held ring ≡ run_after (take at) (run_of old held ring)
  none_run one =
      run_changed node s (TakesFrom None) old new one held held ring _
      (
      ap (λ nodes. sites_of nodes held) one.streams.rest
      ∙ sites_put node (taken s) one.streams.before one.streams.after old.nodes held is.ascend one.streams.stands
      (λ h. ap (λ n. site_of n h) one.streams.changes.rest ∙ site_untaken s one.streams.before (stream_of s one.streams.after) one.streams.changes.how h)
      )

  pub none_left : ChangesOneStream node s (TakesFrom None) old new → run_of new held ring ≡ run_of old held ring
  none_left one =
      run_changed node s (TakesFrom None) old new one held held ring _
      (
      ap (λ nodes. sites_of nodes held) one.streams.rest
      ∙ (sites_put node (λ x. x) one.streams.before one.streams.after old.nodes held is.ascend one.streams.stands
      (λ h. ap (λ n. site_of n h) one.streams.changes.rest ∙ site_left s one.streams.before (stream_of s one.streams.after) one.streams.changes.how h)
      ∙ same_sites node (sites_of old.nodes held))
      )

  pub none_waited : ChangesOneStream node s (TakesFrom None) old new → waiting_at at (run_of old held ring).sites ≡ []
  none_waited one =
      ap (λ (c : ChannelData). c.queue) (channel_found node s one.streams.before old.nodes held run.agents one.streams.stands) ∙ one.streams.changes.how.taken.0

  module _ (m : Msg) (one : ChangesOneStream node s (TakesFrom (Some m)) old new) where
    pub some_run : (i : ℕ) (was taker : HeldData) → NameAt (node_names (run_of old held ring).sites) i node → was ≡ get_or held i was → IsTaken s m was taker
        → run_of new (set held i taker) ring ≡ run_after (take at) (run_of old held ring)
    some_run i was taker p was_is took =
        run_changed node s (TakesFrom (Some m)) old new one held (set held i taker) ring _
        (
        ap (λ nodes. sites_of nodes (set held i taker)) one.streams.rest
        ∙ sites_put_held node (taken s) one.streams.before one.streams.after old.nodes held i was taker is.ascend run.agents
        (subst (λ names. NameAt names i node) (site_names old.nodes held run.agents) p) one.streams.stands was_is
        (ap (λ n. site_of n taker) one.streams.changes.rest ∙ site_taken s one.streams.before (stream_of s one.streams.after) was taker m one.streams.changes.how took)
        )

    pub some_waited : HasWaited (waiting_at at (run_of old held ring).sites) true
    some_waited = (
      m,
      (
        (stream_of s one.streams.after).port.messages,
        ap (λ (c : ChannelData). c.queue) (channel_found node s one.streams.before old.nodes held run.agents one.streams.stands) ∙ ap (λ (q : QueueData). q.messages) one.streams.changes.how.taken,
      ),
    )

  -- ---- a stream begins again

  pub still_rejoined : (result : Result Rev RejoinFault) → controller.Rejoins queue_state HasSameRing node s result old new → IsRun new held ring
  still_rejoined (Ok rev) r = still_run node s _ old new r.1 held held ring (λ a b how. how.same) refl run
  still_rejoined (Err NotCut) r = subst (λ (c : ControllerData QueueData). IsRun c held ring) (sym r.1) run
  still_rejoined (Err Full) r = still_run node s _ old new r held held ring (λ a b how. how.same) refl run
  still_rejoined (Err NoMemory) r = subst (λ (c : ControllerData QueueData). IsRun c held ring) (sym r.1) run

  begun_run : (rev : Rev) → rev ≡ old.revision → ChangesOneStream node s (IsBegunAgain queue_state HasSameRing (snapshot old.cluster old.revision s node)) old new
      → RejoinsAt at rev (run_of old held ring) (run_of new held ring)
  begun_run rev at_last one =
      let b = one.streams.before in
      let named : b.node ≡ node = text_order_exact b.node node (found_at (compares node) old.nodes b one.streams.stands) in
      let is_run : run_of new held ring ≡ run_after (rejoin at) (run_of old held ring) = run_changed node s _ old new one held held ring _
      (
      ap (λ nodes. sites_of nodes held) one.streams.rest
      ∙ sites_put node (rejoined_now (run_of old held ring) s) b one.streams.after old.nodes held is.ascend one.streams.stands
      (λ h.
      ap (λ n. site_of n h) one.streams.changes.rest
      ∙ (site_begun s b (stream_of s one.streams.after) (snapshot old.cluster old.revision s node) one.streams.changes.how h
      ∙ ap (λ t. with_channel s (rejoined (snapshot old.cluster old.revision s t) (channel_on s (site_of b h))) (site_of b h)) (sym named)))
      ) in
      let here : channel_at at (sites_of old.nodes held) ≡ channel_of (stream_of s b) = channel_found node s b old.nodes held run.agents one.streams.stands in
      let places : (stream_of s b).port.ring ≡ ring = ring_on ring s b (found_holds (compares node) (HasRings ring) old.nodes b run.rings one.streams.stands) in
      let left : length (stream_of s b).port.messages < ring =
      subst (λ n. length (stream_of s b).port.messages < n) places (below_ring (stream_of s b).port.ring (length (stream_of s b).port.messages) one.streams.changes.how.room) in
      record {
        revision = ap (λ (r : Rev). r.0) at_last;
        was = ap (λ (c : ChannelData). c.live) (channel_found node s b old.nodes held run.agents one.streams.stands) ∙ one.streams.changes.how.was;
        room = subst (λ (c : ChannelData). length c.queue < ring) (sym here) left;
        run = is_run;
        does = does_one (rejoin at) (run_of old held ring) (run_of new held ring) tt is_run;
      }

  full_run : ChangesOneStream node s (IsFull queue_state HasSameRing) old new → StaysFull at (run_of old held ring) (run_of new held ring)
  full_run one =
      let b = one.streams.before in
      let here : channel_at at (sites_of old.nodes held) ≡ channel_of (stream_of s b) = channel_found node s b old.nodes held run.agents one.streams.stands in
      let places : (stream_of s b).port.ring ≡ ring = ring_on ring s b (found_holds (compares node) (HasRings ring) old.nodes b run.rings one.streams.stands) in
      let none : (stream_of s b).port.ring - length (stream_of s b).port.messages ≡ 0 = one.streams.changes.how.room in
      let waits : ring ≤ length (stream_of s b).port.messages = omega (arith, places, none) in
      record {
        was = ap (λ (c : ChannelData). c.live) here ∙ one.streams.changes.how.was;
        full = subst (λ (c : ChannelData). ring ≤ length c.queue) (sym here) waits;
        same = run_changed node s _ old new one held held ring _
            (
            ap (λ nodes. sites_of nodes held) one.streams.rest
            ∙ (sites_put node (λ x. x) b one.streams.after old.nodes held is.ascend one.streams.stands
            (λ h. ap (λ n. site_of n h) one.streams.changes.rest ∙ site_full s b (stream_of s one.streams.after) one.streams.changes.how h)
            ∙ same_sites node (sites_of old.nodes held))
            );
      }

  pub live_run : (known : Bool) (o : Option (NodeStreams QueueData)) → streams_at node old.nodes ≡ o → option_map (λ n. (stream_of s n).live) o ≡ Some known
      → (channel_at at (run_of old held ring).sites).live ≡ known
  live_run known None stands live = cc
  live_run known (Some b) stands live = ap (λ (c : ChannelData). c.live) (channel_found node s b old.nodes held run.agents stands) ∙ some_one _ _ live

  pub rejoined_run : (result : Result Rev RejoinFault) → controller.Rejoins queue_state HasSameRing node s result old new → Rejoins at result (run_of old held ring) (run_of new held ring)
  rejoined_run (Ok rev) r = begun_run rev r.0 r.1
  rejoined_run (Err NotCut) r = (live_run true (streams_at node old.nodes) refl r.0, ap (λ (c : ControllerData QueueData). run_of c held ring) r.1)
  rejoined_run (Err Full) r = full_run r
  rejoined_run (Err NoMemory) r = ap (λ (c : ControllerData QueueData). run_of c held ring) r.1
