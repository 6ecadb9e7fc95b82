-- No more messages wait on a stream than it has places.
use Rattle.std.proofs.Common.{◌≡◌, ℕ, suc, ◌≤◌, List, [], ◌∷◌, ◌++◌, length, Bool, true, false, ◌&&◌, ◌||◌, if◌then◌else◌, nat_le, Result, Ok, Err, refl, sym, subst, ◌∙◌, arith, true≢false}
use Rattle.std.proofs.lemmas.Bool.{leb-true, leb-false}
use Rattle.std.proofs.lemmas.List.{length-append}
use Rattle.std.specs.List.{AllByRecursion, list_any}
use Rattle.cl_types.specs.ListLaws.{all_each, all_weaker}
use Rattle.cl_types.specs.OrderLaws.{text_eq-itself}
use Rattle.cl_types.specs.Text.{text_eq}
use Rattle.cl_types.specs.declared.stream.Stream.{Stream}
use Rattle.cl_types.specs.declared.stream.Stream.TheVariants.{Policies, Addresses, Applied}
use Rattle.cluster_types.specs.Cluster.{ClusterData}
use Rattle.cluster_types.specs.Node.{NodeData}
use Rattle.cluster_objects.specs.declared.change.ClusterRefusal.{ClusterRefusal}
use Rattle.cluster_objects.specs.Changes.{Outcomes, after}
use Rattle.watch_streams.specs.declared.message.Msg.{Msg}
use Rattle.watch_streams.specs.OneOfAll.{all_map, all_of_both}
use Rattle.run_machine.specs.Laws.{FitsRings, AllFitRings, IsWithinRing, QueuesStayWithinRings}
use Rattle.run_machine.specs.Machine.{ChannelData, SiteData, WorldData, StreamOf, Event, change, cut, rejoin, take, channel_on, sent, rejoined, delta, snapshot, is_among, is_full, offered_all, revised, first_site, begun, fixed_after, changed, accepted, cut_at, rejoined_at, taken, taken_of, at_site, first_world, happens, all_happen}
use Rattle.run_machine.proofs.Sites.{on_each, all_at}
use Rattle.run_machine.proofs.Starting.{fixed_cases}

not_both : {b : Bool} → b ≡ true → b ≡ false → ⊥
not_both t f = true≢false (sym t ∙ f)

or_left : (a b : Bool) → a ≡ true → (a || b) ≡ true
or_left true b is = refl
or_left false b is = absurd (not_both is refl)

or_right : (a b : Bool) → b ≡ true → (a || b) ≡ true
or_right true b is = refl
or_right false b is = is

or_none : (a b : Bool) → (a || b) ≡ false → (a ≡ false) × (b ≡ false)
or_none true b none = absurd (true≢false none)
or_none false b none = (refl, none)

and_both : (a b : Bool) → a ≡ true → b ≡ true → (a && b) ≡ true
and_both true b is also = also
and_both false b is also = absurd (not_both is refl)

and_second : (a b : Bool) → a ≡ true → (a && b) ≡ false → b ≡ false
and_second true b is none = none
and_second false b is none = absurd (not_both is refl)

-- one more message fits where a place is left
more_fits : (ring : ℕ) (queue : List Msg) (m : Msg) → nat_le ring (length queue) ≡ false → length (queue ++ m ∷ []) ≤ ring
more_fits ring queue m left = omega (arith, leb-false ring (length queue) left, length-append queue (m ∷ []))

-- ---- what is full

module _ (ring : ℕ) where
  abbrev has_none_left : Stream → SiteData → Bool
  has_none_left s x = nat_le ring (length (channel_on s x).queue)

  abbrev is_at : Stream → List ℕ → SiteData → Bool
  is_at s node x = text_eq x.node node && has_none_left s x

  -- a node with a full stream is among the nodes with one
  full_is : (xs : List SiteData) → AllByRecursion (λ x. (s : Stream) → has_none_left s x ≡ true → list_any (is_at s x.node) xs ≡ true) xs
  full_is [] = tt
  full_is (x ∷ xs) = (
    λ s full. or_left (is_at s x.node x) (list_any (is_at s x.node) xs) (and_both (text_eq x.node x.node) (has_none_left s x) (text_eq-itself x.node) full),
    all_weaker (λ y. (s : Stream) → has_none_left s y ≡ true → list_any (is_at s y.node) xs ≡ true) (λ y. (s : Stream) → has_none_left s y ≡ true → list_any (is_at s y.node) (x ∷ xs) ≡ true)
        (λ y there s full. or_right (is_at s y.node x) (list_any (is_at s y.node) xs) (there s full)) xs (full_is xs),
  )

  none_full : (s : Stream) (node : List ℕ) (xs : List SiteData) → list_any (is_at s node) xs ≡ false → AllByRecursion (λ x. is_at s node x ≡ false) xs
  none_full s node [] none = tt
  none_full s node (x ∷ xs) none = let both = or_none (is_at s node x) (list_any (is_at s node) xs) none in (both.0, none_full s node xs both.1)

  -- ---- one node

  -- the node's queues fit, and messages come back from its full streams
  abbrev pub TellsFull : List StreamOf → SiteData → Type 0
  TellsFull backs x = (s : Stream) → has_none_left s x ≡ true → is_among backs s x.node ≡ true

  sent_fits : (m : Msg) (live back : Bool) (queue : List Msg) → length queue ≤ ring → (nat_le ring (length queue) ≡ true → back ≡ true)
      → length (sent m back (record { live = live; queue = queue })).queue ≤ ring
  sent_fits m true true queue fits tells = fits
  sent_fits m true false queue fits tells = by_test (nat_le ring (length queue)) refl
    where
      by_test : (b : Bool) → nat_le ring (length queue) ≡ b → length (queue ++ m ∷ []) ≤ ring
      by_test true full = absurd (not_both (tells full) refl)
      by_test false left = more_fits ring queue m left
  sent_fits m false back queue fits tells = fits

  offered_fits : (w : WorldData) (c : ClusterData) (backs : List StreamOf) (x : SiteData) → IsWithinRing ring x → TellsFull backs x → IsWithinRing ring (offered_all w c backs x)
  offered_fits w c backs x fits tells Policies = sent_fits (delta w c Policies x.node) (channel_on Policies x).live (is_among backs Policies x.node) (channel_on Policies x).queue (fits Policies) (tells Policies)
  offered_fits w c backs x fits tells Addresses = sent_fits (delta w c Addresses x.node) (channel_on Addresses x).live (is_among backs Addresses x.node) (channel_on Addresses x).queue (fits Addresses) (tells Addresses)
  offered_fits w c backs x fits tells Applied = sent_fits (delta w c Applied x.node) (channel_on Applied x).live (is_among backs Applied x.node) (channel_on Applied x).queue (fits Applied) (tells Applied)

  abbrev Fits : Stream → ChannelData → Type 0
  Fits s channel = length channel.queue ≤ ring

  cut_fits : (s : Stream) (x : SiteData) → IsWithinRing ring x → IsWithinRing ring (cut_at s x)
  cut_fits s x fits = on_each Fits s (record (channel_on s x) { live = false }) x.channels (fits s) fits

  rejoined_fits : (w : WorldData) (s : Stream) (x : SiteData) → IsWithinRing ring x → has_none_left s x ≡ false → IsWithinRing ring (rejoined_at w s x)
  rejoined_fits w s x fits left = on_each Fits s (rejoined (snapshot w s x.node) (channel_on s x)) x.channels (by_test (channel_on s x).live) fits
    where
      by_test : (b : Bool) → length (if b then channel_on s x else record { live = true; queue = (channel_on s x).queue ++ snapshot w s x.node ∷ [] }).queue ≤ ring
      by_test true = fits s
      by_test false = more_fits ring (channel_on s x).queue (snapshot w s x.node) left

  taken_of_fits : (s : Stream) (x : SiteData) → IsWithinRing ring x → (queue : List Msg) → (channel_on s x).queue ≡ queue → IsWithinRing ring (taken_of queue s x)
  taken_of_fits s x fits [] is = fits
  taken_of_fits s x fits (m ∷ messages) is =
      let shorter : suc (length messages) ≤ ring = subst (λ q. length q ≤ ring) is (fits s) in
      on_each Fits s (record (channel_on s x) { queue = messages }) x.channels (omega (arith, shorter)) fits

  taken_fits : (s : Stream) (x : SiteData) → IsWithinRing ring x → IsWithinRing ring (taken s x)
  taken_fits s x fits = taken_of_fits s x fits (channel_on s x).queue refl

-- ---- worlds

-- each stream has so many places, and no more messages wait
pub record IsRinged (ring : ℕ) (w : WorldData) : Type 0 where
  pub places : w.ring ≡ ring
  pub fit : AllByRecursion (IsWithinRing ring) w.sites

module _ (ring : ℕ) (some : 1 ≤ ring) where
  abbrev Tells : List StreamOf → SiteData → Type 0
  Tells backs x = IsWithinRing ring x × TellsFull ring backs x

  -- the world's nodes fit, and messages come back from their full streams
  abbrev IsTold : List StreamOf → WorldData → Type 0
  IsTold backs w = (w.ring ≡ ring) × AllByRecursion (Tells backs) w.sites

  begun_told : (c : ClusterData) (backs : List StreamOf) (w : WorldData) → w.ring ≡ ring → IsTold backs (begun c w)
  begun_told c backs w places = (places, all_map (Tells backs) first_site c.nodes (all_each (λ n. Tells backs (first_site n)) first c.nodes))
    where
      none : nat_le ring 0 ≡ true → ⊥
      none full = omega (arith, leb-true ring 0 full, some)

      first : (n : NodeData) → Tells backs (first_site n)
      first n = (
        λ s. on_first s,
        λ s full. absurd (none (subst (λ k. nat_le ring k ≡ true) (no_queue s) full)),
      )
        where
          no_queue : (s : Stream) → length (channel_on s (first_site n)).queue ≡ 0
          no_queue Policies = refl
          no_queue Addresses = refl
          no_queue Applied = refl

          on_first : (s : Stream) → length (channel_on s (first_site n)).queue ≤ ring
          on_first s = omega (arith, no_queue s)

  told_now : (backs : List StreamOf) (w : WorldData) → IsRinged ring w → ((s : Stream) (node : List ℕ) → is_full w s node ≡ true → is_among backs s node ≡ true) → IsTold backs w
  told_now backs w ringed tells = (
    ringed.places,
    all_of_both (IsWithinRing ring) (λ x. (s : Stream) → has_none_left ring s x ≡ true → list_any (is_at ring s x.node) w.sites ≡ true) (Tells backs)
        (λ x fits there. (fits, λ s full. tells s x.node (subst (λ r. list_any (is_at r s x.node) w.sites ≡ true) (sym ringed.places) (there s full)))) w.sites ringed.fit (full_is ring w.sites),
  )

  changed_ringed : (o : Outcomes) (backs : List StreamOf) (w : WorldData) → IsTold backs w → IsRinged ring (changed o backs w)
  changed_ringed o backs w told = by_test o.other_changed
    where
      now : IsTold backs (fixed_after o.cluster w)
      now = fixed_cases (IsTold backs) o.cluster w told (λ early. begun_told o.cluster backs w told.0)

      by_test : (b : Bool) → IsRinged ring (if b then revised backs o.cluster (fixed_after o.cluster w) else record (fixed_after o.cluster w) { cluster = o.cluster })
      by_test true = record {
        places = now.0;
        fit =
            all_map (IsWithinRing ring) (offered_all (fixed_after o.cluster w) o.cluster backs) (fixed_after o.cluster w).sites
            (all_weaker (Tells backs) (λ x. IsWithinRing ring (offered_all (fixed_after o.cluster w) o.cluster backs x))
            (λ x both. offered_fits ring (fixed_after o.cluster w) o.cluster backs x both.0 both.1) (fixed_after o.cluster w).sites now.1);
      }
      by_test false = record { places = now.0; fit = all_weaker (Tells backs) (IsWithinRing ring) (λ x both. both.0) (fixed_after o.cluster w).sites now.1 }

  accepted_ringed : (r : Result Outcomes ClusterRefusal) (backs : List StreamOf) (w : WorldData) → IsRinged ring w → IsTold backs w → IsRinged ring (accepted r backs w)
  accepted_ringed (Ok o) backs w ringed told = changed_ringed o backs w told
  accepted_ringed (Err refusal) backs w ringed told = ringed

  rejoin_ringed : (at : StreamOf) (w : WorldData) → IsRinged ring w → is_full w at.stream at.node ≡ false → IsRinged ring (at_site at.node (rejoined_at w at.stream) w)
  rejoin_ringed at w ringed left = record {
    places = ringed.places;
    fit =
        all_map (IsWithinRing ring) (λ (x : SiteData). if text_eq x.node at.node then rejoined_at w at.stream x else x) w.sites
        (all_of_both (IsWithinRing ring) (λ x. is_at ring at.stream at.node x ≡ false) (λ (x : SiteData). IsWithinRing ring (if text_eq x.node at.node then rejoined_at w at.stream x else x))
        (λ x fits none. by_test x fits none (text_eq x.node at.node) refl) w.sites ringed.fit
        (none_full ring at.stream at.node w.sites (subst (λ r. list_any (is_at r at.stream at.node) w.sites ≡ false) ringed.places left)));
  }
    where
      by_test : (x : SiteData) → IsWithinRing ring x → is_at ring at.stream at.node x ≡ false → (b : Bool) → text_eq x.node at.node ≡ b → IsWithinRing ring (if b then rejoined_at w at.stream x else x)
      by_test x fits none true is = rejoined_fits ring w at.stream x fits (and_second (text_eq x.node at.node) (has_none_left ring at.stream x) is none)
      by_test x fits none false is = fits

  event_ringed : (e : Event) (w : WorldData) → FitsRings w e → IsRinged ring w → IsRinged ring (happens e w)
  event_ringed (change changes backs) w tells ringed = accepted_ringed (after w.cluster changes) backs w ringed (told_now backs w ringed tells)
  event_ringed (cut at) w tells ringed =
      record { places = ringed.places; fit = all_at (IsWithinRing ring) at.node (cut_at at.stream) (cut_fits ring at.stream) w.sites ringed.fit }
  event_ringed (rejoin at) w left ringed = rejoin_ringed at w ringed left
  event_ringed (take at) w tells ringed =
      record { places = ringed.places; fit = all_at (IsWithinRing ring) at.node (taken at.stream) (taken_fits ring at.stream) w.sites ringed.fit }

  events_ringed : (events : List Event) (w : WorldData) → AllFitRings w events → IsRinged ring w → IsRinged ring (all_happen events w)
  events_ringed [] w fit ringed = ringed
  events_ringed (e ∷ events) w fit ringed = events_ringed events (happens e w) fit.1 (event_ringed e w fit.0 ringed)

pub queues_stay : QueuesStayWithinRings
queues_stay ring events some fit = (events_ringed ring some events (first_world ring) fit (record { places = refl; fit = tt })).fit
