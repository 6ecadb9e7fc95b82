-- What a controller tells its streams is what the machine sends: a full stream is cut, and no other.
use Rattle.std.proofs.Common.{◌≡◌, ℕ, suc, Option, ◌+◌, ◌-◌, List, [], ◌∷◌, ◌++◌, length, map, filter, cond, Bool, true, false, not, ◌&&◌, nat_le, Some, None, if◌then◌else◌, refl, sym, ap, ap₂, ◌∙◌, arith}
use Rattle.std.proofs.lemmas.List.{map-append}
use Rattle.std.specs.List.{AllByRecursion}
use Rattle.std.specs.declared.cmp.Ordering.TheVariants.{Less}
use Rattle.cl_types.specs.Ascending.{Ascends}
use Rattle.cl_types.specs.Text.{text_order}
use Rattle.cl_types.specs.declared.stream.Rev.{Rev}
use Rattle.cl_types.specs.declared.stream.Stream.{Stream}
use Rattle.cl_types.specs.declared.stream.Stream.TheVariants.{Policies, Addresses, Applied}
use Rattle.cluster_types.specs.Cluster.{ClusterData}
use Rattle.stream_messages.specs.Messages.{delta}
use Rattle.node_streams.specs.Streams.{NodeStreams, StreamData}
use Rattle.ctl_core.specs.Telling.{listed_cuts, messages_of, names_of, streams_cut}
use Rattle.node_streams.specs.Telling.{AreTold, IsTold, NodeIsTold, cuts_of}
use Rattle.held_maps.specs.Held.{HeldData, maps_of}
use Rattle.run_machine.specs.Lines.{every_stream}
use Rattle.run_machine.specs.Machine.{SiteData, StreamOf, WorldData, channel_on, cut_off, delta as machine_delta, is_among, last_cluster, last_revision, offered_all, sent, with_message}
use Rattle.run_machine.specs.Settling.{stream_of}
use Rattle.watch_streams.specs.declared.message.Msg.{Msg}
use Rattle.watch_streams.specs.declared.message.Msg.TheVariants.{Delta}
use Rattle.watch_streams.specs.Difference.{difference}
use Rattle.watch_streams.specs.Projection.{projection}
use Rattle.watch_streams.specs.Ports.{HasSameRing, QueueData, queue_state}
use Rattle.suite_run.specs.Changing.{cuts_between, stream_told, was_cut as cut_between}
use Rattle.suite_run.specs.RunState.{HasRings, channel_of, numbers_of, site_of, sites_of}
use Rattle.suite_run.proofs.FullStreams.{node_of, has_no_place}

-- ---- one stream

some_place : (ring queued : ℕ) → (ring - queued ≡ 0 → ⊥) → nat_le ring queued ≡ false
some_place ring queued some = by_test (nat_le ring queued) refl
  where
    by_test : (b : Bool) → nat_le ring queued ≡ b → b ≡ false
    by_test true e = absurd (some (grind arith))
    by_test false e = refl

no_place : (ring queued : ℕ) → ring - queued ≡ 0 → nat_le ring queued ≡ true
no_place ring queued none = grind arith

abbrev Told : Bool → Msg → StreamData QueueData → StreamData QueueData → Type 0
Told live m old new = IsTold queue_state HasSameRing (if live then Some m else None) (live && not new.live) old new

told_channel : (ring : ℕ) (m : Msg) (old new : StreamData QueueData) → old.port.ring ≡ ring → Told old.live m old new
    → sent m (nat_le ring (length old.port.messages)) (channel_of old) ≡ channel_of new
told_channel ring m old new places told = by_live old.live refl new.live refl told
  where
    back : Bool
    back = nat_le ring (length old.port.messages)

    by_live : (live : Bool) → old.live ≡ live → (after : Bool) → new.live ≡ after
        → IsTold queue_state HasSameRing (if live then Some m else None) (live && not after) old new → sent m (nat_le ring (length old.port.messages)) (channel_of old) ≡ channel_of new
    by_live false is after is_after t = ap (λ l. if l then (if back then cut_off (channel_of old) else with_message m (channel_of old)) else channel_of old) is ∙ ap channel_of (sym t.1)
    by_live true is true is_after t =
        ap (λ l. if l then (if back then cut_off (channel_of old) else with_message m (channel_of old)) else channel_of old) is
        ∙ (ap (λ b. if b then cut_off (channel_of old) else with_message m (channel_of old)) (ap (λ r. nat_le r (length old.port.messages)) (sym places) ∙ some_place old.port.ring (length old.port.messages) t.1.room)
        ∙ λ i. record { live = sym is_after i; queue = sym t.1.sent.sent i })
    by_live true is false is_after t =
        ap (λ l. if l then (if back then cut_off (channel_of old) else with_message m (channel_of old)) else channel_of old) is
        ∙ (ap (λ b. if b then cut_off (channel_of old) else with_message m (channel_of old)) (ap (λ r. nat_le r (length old.port.messages)) (sym places) ∙ no_place old.port.ring (length old.port.messages) t.1.room)
        ∙ λ i. record { live = sym is_after i; queue = sym t.1.sent i })

same_ring : (m : Option Msg) (cut : Bool) (old new : StreamData QueueData) → IsTold queue_state HasSameRing m cut old new → new.port.ring ≡ old.port.ring
same_ring None cut old new t = ap (λ (z : StreamData QueueData). z.port.ring) t.1
same_ring (Some m) false old new t = t.1.same
same_ring (Some m) true old new t = t.1.same

-- ---- one node

-- a message of the stream comes back where no place is left
abbrev pub ComesBack : WorldData → List StreamOf → Stream → SiteData → Type 0
ComesBack w backs s x = is_among backs s x.node ≡ has_no_place w.ring s x

module _ (w : WorldData) (c d : ClusterData) (rev : Rev) (backs : List StreamOf) (last : last_cluster w ≡ c) (next : last_revision w + 1 ≡ rev.0) where
  same_message : (s : Stream) (node : List ℕ) → machine_delta w d s node ≡ delta c d rev s node
  same_message s node i = Delta (record { 0 = next i }) (difference (projection (last i) s node) (projection d s node))

  told_site : (old new : NodeStreams QueueData) (h : HeldData) → HasRings w.ring old → ((s : Stream) → ComesBack w backs s (site_of old h))
      → NodeIsTold queue_state HasSameRing (messages_of c d rev old) (cuts_of old new) old new → offered_all w d backs (site_of old h) ≡ site_of new h
  told_site old new h rings back t =
      λ i. record {
        node = sym t.node i;
        channels = record { policies = policies i; addresses = addresses i; applied = applied i };
        maps = maps_of h;
        revisions = numbers_of h.revisions;
      }
    where
      on_stream : (s : Stream) (a b : StreamData QueueData) → is_among backs s old.node ≡ nat_le w.ring (length a.port.messages) → a.port.ring ≡ w.ring → Told a.live (delta c d rev s old.node) a b
          → sent (machine_delta w d s old.node) (is_among backs s old.node) (channel_of a) ≡ channel_of b
      on_stream s a b among places told =
          ap₂ (λ m back. sent m back (channel_of a)) (same_message s old.node) among ∙ told_channel w.ring (delta c d rev s old.node) a b places told

      policies : sent (machine_delta w d Policies old.node) (is_among backs Policies old.node) (channel_of old.policies) ≡ channel_of new.policies
      policies = on_stream Policies old.policies new.policies (back Policies) rings.policies t.policies

      addresses : sent (machine_delta w d Addresses old.node) (is_among backs Addresses old.node) (channel_of old.addresses) ≡ channel_of new.addresses
      addresses = on_stream Addresses old.addresses new.addresses (back Addresses) rings.addresses t.addresses

      applied : sent (machine_delta w d Applied old.node) (is_among backs Applied old.node) (channel_of old.applied) ≡ channel_of new.applied
      applied = on_stream Applied old.applied new.applied (back Applied) rings.applied t.applied

  -- ---- all nodes

  pub told_sites : (olds news : List (NodeStreams QueueData)) (held : List HeldData) → AllByRecursion (HasRings w.ring) olds
      → ((s : Stream) → AllByRecursion (ComesBack w backs s) (sites_of olds held)) → AreTold queue_state HasSameRing (messages_of c d rev) olds news
      → map (offered_all w d backs) (sites_of olds held) ≡ sites_of news held
  told_sites [] [] held rings back told = refl
  told_sites [] (new ∷ news) held rings back told = absurd told
  told_sites (old ∷ olds) [] held rings back told = absurd told
  told_sites (old ∷ olds) (new ∷ news) [] rings back told = refl
  told_sites (old ∷ olds) (new ∷ news) (h ∷ held) rings back told =
      ap₂ (λ x xs. x ∷ xs) (told_site old new h rings.0 (λ s. (back s).0) told.0) (told_sites olds news held rings.1 (λ s. (back s).1) told.1)

module _ (c d : ClusterData) (rev : Rev) where
  told_rings_of : (ring : ℕ) (old new : NodeStreams QueueData) → HasRings ring old → NodeIsTold queue_state HasSameRing (messages_of c d rev old) (cuts_of old new) old new → HasRings ring new
  told_rings_of ring old new rings t = record {
    policies = same_ring (messages_of c d rev old).policies (cuts_of old new).policies old.policies new.policies t.policies ∙ rings.policies;
    addresses = same_ring (messages_of c d rev old).addresses (cuts_of old new).addresses old.addresses new.addresses t.addresses ∙ rings.addresses;
    applied = same_ring (messages_of c d rev old).applied (cuts_of old new).applied old.applied new.applied t.applied ∙ rings.applied;
  }

  pub told_rings : (ring : ℕ) (olds news : List (NodeStreams QueueData)) → AllByRecursion (HasRings ring) olds → AreTold queue_state HasSameRing (messages_of c d rev) olds news
      → AllByRecursion (HasRings ring) news
  told_rings ring [] [] rings told = tt
  told_rings ring [] (new ∷ news) rings told = absurd told
  told_rings ring (old ∷ olds) [] rings told = absurd told
  told_rings ring (old ∷ olds) (new ∷ news) rings told = (told_rings_of ring old new rings.0 told.0, told_rings ring olds news rings.1 told.1)

  pub told_length : (olds news : List (NodeStreams QueueData)) → AreTold queue_state HasSameRing (messages_of c d rev) olds news → length news ≡ length olds
  told_length [] [] told = refl
  told_length [] (new ∷ news) told = absurd told
  told_length (old ∷ olds) [] told = absurd told
  told_length (old ∷ olds) (new ∷ news) told = ap suc (told_length olds news told.1)

-- ---- names

abbrev stream_node : NodeStreams QueueData → List ℕ
stream_node n = n.node

sites_behind : (name : List ℕ) (nodes : List (NodeStreams QueueData)) (held : List HeldData) → AllByRecursion (λ n. text_order name (stream_node n) ≡ Less) nodes
    → AllByRecursion (λ (x : SiteData). text_order name x.node ≡ Less) (sites_of nodes held)
sites_behind name [] held all = tt
sites_behind name (n ∷ nodes) [] all = tt
sites_behind name (n ∷ nodes) (h ∷ held) all = (all.0, sites_behind name nodes held all.1)

pub sites_ascend : (nodes : List (NodeStreams QueueData)) (held : List HeldData) → Ascends stream_node text_order nodes → Ascends node_of text_order (sites_of nodes held)
sites_ascend [] held up = tt
sites_ascend (n ∷ nodes) [] up = tt
sites_ascend (n ∷ nodes) (h ∷ held) up = (sites_behind n.node nodes held up.0, sites_ascend nodes held up.1)

-- ---- which streams were cut

listed_at : (f : Stream → Bool) (x : SiteData)
    → map stream_told (listed_cuts (names_of x.node) (record { policies = f Policies; addresses = f Addresses; applied = f Applied })) ≡ map (stream_of x) (filter f every_stream)
listed_at f x = by_tests (f Policies) (f Addresses) (f Applied)
  where
    by_tests : (a b c : Bool)
        → map stream_told (listed_cuts (names_of x.node) (record { policies = a; addresses = b; applied = c }))
        ≡ map (stream_of x) (cond a (Policies ∷ cond b (Addresses ∷ cond c (Applied ∷ []) []) (cond c (Applied ∷ []) [])) (cond b (Addresses ∷ cond c (Applied ∷ []) []) (cond c (Applied ∷ []) [])))
    by_tests true true true = refl
    by_tests true true false = refl
    by_tests true false true = refl
    by_tests true false false = refl
    by_tests false true true = refl
    by_tests false true false = refl
    by_tests false false true = refl
    by_tests false false false = refl

pub cuts_listed : (olds news : List (NodeStreams QueueData)) (held : List HeldData) → length held ≡ length olds
    → map stream_told (streams_cut olds news) ≡ cuts_between (sites_of olds held) (sites_of news held)
cuts_listed [] news held e = refl
cuts_listed (old ∷ olds) [] [] e = refl
cuts_listed (old ∷ olds) [] (h ∷ held) e = refl
cuts_listed (old ∷ olds) (new ∷ news) [] e = absurd (omega arith)
cuts_listed (old ∷ olds) (new ∷ news) (h ∷ held) e =
    map-append stream_told (listed_cuts (names_of old.node) (cuts_of old new)) (streams_cut olds news)
    ∙ ap₂ (λ xs ys. xs ++ ys)
    (listed_at (λ s. cut_between (channel_on s (site_of old h)) (channel_on s (site_of new h))) (site_of old h))
    (cuts_listed olds news held (omega arith))
