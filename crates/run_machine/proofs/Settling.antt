-- Settling leaves nothing that waits.
use Rattle.std.proofs.Common.{◌≡◌, ◌≢◌, ℕ, List, [], ◌∷◌, ◌++◌, map, flat_map, Bool, true, false, if◌then◌else◌, refl, sym, ap, subst, ◌∙◌}
use Rattle.std.specs.List.{AllByRecursion}
use Rattle.std.proofs.lemmas.Cmp.{tied_itself}
use Rattle.std.specs.declared.cmp.Ordering.TheVariants.{Less, Equal}
use Rattle.cl_types.specs.Ascending.{Ascends}
use Rattle.cl_types.specs.ListLaws.{all_weaker}
use Rattle.cluster_types.specs.Cluster.{ClusterData, IsCluster}
use Rattle.cluster_types.specs.Node.{NodeData}
use Rattle.cl_types.specs.OrderLaws.{text_eq-itself, text_eq-not}
use Rattle.cl_types.specs.Text.{text_eq, text_order, text_order_total}
use Rattle.cl_types.specs.declared.stream.Stream.{Stream}
use Rattle.cl_types.specs.declared.stream.Stream.TheVariants.{Policies, Addresses, Applied}
use Rattle.watch_streams.specs.declared.message.Msg.{Msg}
use Rattle.watch_streams.specs.Names.{AreDistinct}
use Rattle.watch_streams.specs.OneOfAll.{all_map, all_append}
use Rattle.run_machine.specs.Laws.{IsWholeEvent, IsSettled, HasNodes, fixed_nodes}
use Rattle.run_machine.specs.Machine.{OfStreams, ChannelData, SiteData, WorldData, StreamOf, Event, change, cut, rejoin, take, on, put_on, channel_on, with_channel, rejoined, taken, taken_of, snapshot, happens, all_happen}
use Rattle.run_machine.specs.Settling.{settling_stream, stream_of, settling_site, settling, settled}

-- ---- one stream is another

-- the stream is this channel, and all else that is on the node's streams is as before
pub record Has (s : Stream) (channel : ChannelData) (x y : SiteData) : Type 0 where
  pub node : y.node ≡ x.node
  pub here : channel_on s y ≡ channel
  pub there : (t : Stream) → (s ≡ t → ⊥) → channel_on t y ≡ channel_on t x

on_put : {T : Type 0} (s : Stream) (new : T) (things : OfStreams T) → on s (put_on s new things) ≡ new
on_put Policies new things = refl
on_put Addresses new things = refl
on_put Applied new things = refl

on_other : {T : Type 0} (s t : Stream) (new : T) (things : OfStreams T) → (s ≡ t → ⊥) → on t (put_on s new things) ≡ on t things
on_other Policies Policies new things other = absurd (other refl)
on_other Policies Addresses new things other = refl
on_other Policies Applied new things other = refl
on_other Addresses Policies new things other = refl
on_other Addresses Addresses new things other = absurd (other refl)
on_other Addresses Applied new things other = refl
on_other Applied Policies new things other = refl
on_other Applied Addresses new things other = refl
on_other Applied Applied new things other = absurd (other refl)

has_then : (s : Stream) (c d : ChannelData) (x y z : SiteData) → Has s c x y → Has s d y z → Has s d x z
has_then s c d x y z first next = record {
  node = next.node ∙ first.node;
  here = next.here;
  there = λ t other. next.there t other ∙ first.there t other;
}

put_has : (s : Stream) (channel : ChannelData) (x : SiteData) → Has s channel x (with_channel s channel x)
put_has s channel x = record { node = refl; here = on_put s channel x.channels; there = λ t other. on_other s t channel x.channels other }

took_has : (s : Stream) (x : SiteData) (m : Msg) (messages : List Msg) → (channel_on s x).queue ≡ m ∷ messages
    → Has s (record { live = (channel_on s x).live; queue = messages }) x (taken s x)
took_has s x m messages is =
    subst (λ q. Has s (record { live = (channel_on s x).live; queue = messages }) x (taken_of q s x)) (sym is)
    (record { node = refl; here = on_put s _ x.channels; there = λ t other. on_other s t _ x.channels other })

-- ---- what events that take and rejoin do at a node

module _ (told : Stream → List ℕ → Msg) where
  abbrev again : Stream → SiteData → SiteData
  again s x = with_channel s (rejoined (told s x.node) (channel_on s x)) x

  -- (no change and no cut is among them)
  abbrev one : Event → SiteData → SiteData
  one (change changes backs) x = x
  one (cut at) x = x
  one (rejoin at) x = if text_eq x.node at.node then again at.stream x else x
  one (take at) x = if text_eq x.node at.node then taken at.stream x else x

  abbrev run : List Event → SiteData → SiteData
  run [] x = x
  run (e ∷ events) x = run events (one e x)

  run_append : (front back : List Event) (x : SiteData) → run (front ++ back) x ≡ run back (run front x)
  run_append [] back x = refl
  run_append (e ∷ front) back x = run_append front back (one e x)

  abbrev IsOf : List ℕ → Event → Type 0
  IsOf node (change changes backs) = ⊥
  IsOf node (cut at) = ⊥
  IsOf node (rejoin at) = at.node ≡ node
  IsOf node (take at) = at.node ≡ node

  -- events of another node leave this one
  one_other : (node : List ℕ) (x : SiteData) → text_eq x.node node ≡ false → (e : Event) → IsOf node e → one e x ≡ x
  one_other node x other (change changes backs) of = absurd of
  one_other node x other (cut at) of = absurd of
  one_other node x other (rejoin at) of = ap (λ b. if b then again at.stream x else x) (subst (λ n. text_eq x.node n ≡ false) (sym of) other)
  one_other node x other (take at) of = ap (λ b. if b then taken at.stream x else x) (subst (λ n. text_eq x.node n ≡ false) (sym of) other)

  run_other : (node : List ℕ) (x : SiteData) → text_eq x.node node ≡ false → (events : List Event) → AllByRecursion (IsOf node) events → run events x ≡ x
  run_other node x other [] of = refl
  run_other node x other (e ∷ events) of = ap (run events) (one_other node x other e of.0) ∙ run_other node x other events of.1

  -- ---- one stream of a node

  module _ (at : StreamOf) where
    taken_here : (x : SiteData) → x.node ≡ at.node → one (take at) x ≡ taken at.stream x
    taken_here x is = ap (λ b. if b then taken at.stream x else x) (subst (λ n. text_eq x.node n ≡ true) is (text_eq-itself x.node))

    again_here : (x : SiteData) → x.node ≡ at.node → one (rejoin at) x ≡ again at.stream x
    again_here x is = ap (λ b. if b then again at.stream x else x) (subst (λ n. text_eq x.node n ≡ true) is (text_eq-itself x.node))

    take_one : (x : SiteData) → x.node ≡ at.node → (m : Msg) (messages : List Msg) → (channel_on at.stream x).queue ≡ m ∷ messages
        → Has at.stream (record { live = (channel_on at.stream x).live; queue = messages }) x (one (take at) x)
    take_one x is m messages waits =
        subst (Has at.stream (record { live = (channel_on at.stream x).live; queue = messages }) x) (sym (taken_here x is)) (took_has at.stream x m messages waits)

    take_all : (queue : List Msg) (x : SiteData) → x.node ≡ at.node → (channel_on at.stream x).queue ≡ queue
        → Has at.stream (record { live = (channel_on at.stream x).live; queue = [] }) x (run (map (λ (m : Msg). take at) queue) x)
    take_all [] x is waits = record { node = refl; here = ap (λ q. record { live = (channel_on at.stream x).live; queue = q }) waits; there = λ t other. refl }
    take_all (m ∷ messages) x is waits =
        let first = take_one x is m messages waits in
        let next = take_all messages (one (take at) x) (first.node ∙ is) (ap (λ (c : ChannelData). c.queue) first.here) in
        has_then at.stream _ _ x (one (take at) x) _ first
        (subst (λ b. Has at.stream (record { live = b; queue = [] }) (one (take at) x) (run (map (λ (m : Msg). take at) messages) (one (take at) x)))
        (ap (λ (c : ChannelData). c.live) first.here) next)

    -- a cut stream with nothing that waits
    rejoin_one : (x : SiteData) → x.node ≡ at.node → channel_on at.stream x ≡ record { live = false; queue = [] }
        → Has at.stream (record { live = true; queue = [] }) x (run (rejoin at ∷ take at ∷ []) x)
    rejoin_one x is cut_off =
        let m : Msg = told at.stream x.node in
        let first : Has at.stream (record { live = true; queue = m ∷ [] }) x (one (rejoin at) x) =
        subst (Has at.stream (record { live = true; queue = m ∷ [] }) x) (sym (again_here x is))
        (subst (λ (c : ChannelData). Has at.stream (rejoined m c) x (again at.stream x)) cut_off (put_has at.stream (rejoined m (channel_on at.stream x)) x)) in
        let next = take_one (one (rejoin at) x) (first.node ∙ is) m [] (ap (λ (c : ChannelData). c.queue) first.here) in
        has_then at.stream _ _ x (one (rejoin at) x) _ first
        (subst (λ b. Has at.stream (record { live = b; queue = [] }) (one (rejoin at) x) (one (take at) (one (rejoin at) x))) (ap (λ (c : ChannelData). c.live) first.here) next)

    -- the stream is settled by the events that its first state asks for
    settle_one : (x y : SiteData) → y.node ≡ at.node → channel_on at.stream y ≡ channel_on at.stream x
        → Has at.stream (record { live = true; queue = [] }) y (run (settling_stream at x) y)
    settle_one x y is same =
        subst (Has at.stream (record { live = true; queue = [] }) y) (sym (run_append takes (rest (channel_on at.stream x).live) y))
        (by_live (channel_on at.stream x).live (ap (λ (c : ChannelData). c.live) same))
      where
        takes : List Event
        takes = map (λ (m : Msg). take at) (channel_on at.stream x).queue

        rest : Bool → List Event
        rest b = if b then [] else rejoin at ∷ take at ∷ []

        emptied : Has at.stream (record { live = (channel_on at.stream y).live; queue = [] }) y (run takes y)
        emptied = take_all (channel_on at.stream x).queue y is (ap (λ (c : ChannelData). c.queue) same)

        by_live : (b : Bool) → (channel_on at.stream y).live ≡ b → Has at.stream (record { live = true; queue = [] }) y (run (rest b) (run takes y))
        by_live true live = subst (λ b. Has at.stream (record { live = b; queue = [] }) y (run takes y)) live emptied
        by_live false live =
            has_then at.stream _ _ y (run takes y) _ emptied
            (rejoin_one (run takes y) (emptied.node ∙ is) (emptied.here ∙ ap (λ b. record { live = b; queue = [] }) live))

  -- ---- a node

  settle_site : (x : SiteData) → (IsSettled (run (settling_site x) x)) × ((run (settling_site x) x).node ≡ x.node)
  settle_site x =
      subst (λ z. IsSettled z × (z.node ≡ x.node)) (sym path) (by_stream, node)
    where
      on_stream : Stream → List Event
      on_stream s = settling_stream (stream_of x s) x

      y1 : SiteData
      y1 = run (on_stream Policies) x

      y2 : SiteData
      y2 = run (on_stream Addresses) y1

      y3 : SiteData
      y3 = run (on_stream Applied) y2

      path : run (settling_site x) x ≡ y3
      path = run_append (on_stream Policies) (on_stream Addresses ++ on_stream Applied) x ∙ run_append (on_stream Addresses) (on_stream Applied) y1

      h1 : Has Policies (record { live = true; queue = [] }) x y1
      h1 = settle_one (stream_of x Policies) x x refl refl

      h2 : Has Addresses (record { live = true; queue = [] }) y1 y2
      h2 = settle_one (stream_of x Addresses) x y1 h1.node (h1.there Addresses (λ e. cc))

      h3 : Has Applied (record { live = true; queue = [] }) y2 y3
      h3 = settle_one (stream_of x Applied) x y2 (h2.node ∙ h1.node) (h2.there Applied (λ e. cc) ∙ h1.there Applied (λ e. cc))

      node : y3.node ≡ x.node
      node = h3.node ∙ (h2.node ∙ h1.node)

      by_stream : IsSettled y3
      by_stream Policies = h3.there Policies (λ e. cc) ∙ (h2.there Policies (λ e. cc) ∙ h1.here)
      by_stream Addresses = h3.there Addresses (λ e. cc) ∙ h2.here
      by_stream Applied = h3.here

  -- ---- all nodes

  stream_of_node : (at : StreamOf) (x : SiteData) → AllByRecursion (IsOf at.node) (settling_stream at x)
  stream_of_node at x = all_append (IsOf at.node) (map (λ (m : Msg). take at) (channel_on at.stream x).queue) _ (takes (channel_on at.stream x).queue) (by_live (channel_on at.stream x).live)
    where
      takes : (queue : List Msg) → AllByRecursion (IsOf at.node) (map (λ (m : Msg). take at) queue)
      takes [] = tt
      takes (m ∷ queue) = (refl, takes queue)

      by_live : (b : Bool) → AllByRecursion (IsOf at.node) (if b then [] else rejoin at ∷ take at ∷ [])
      by_live true = tt
      by_live false = (refl, (refl, tt))

  site_of_node : (x : SiteData) → AllByRecursion (IsOf x.node) (settling_site x)
  site_of_node x =
      all_append (IsOf x.node) (settling_stream (stream_of x Policies) x) _ (stream_of_node (stream_of x Policies) x)
      (all_append (IsOf x.node) (settling_stream (stream_of x Addresses) x) _ (stream_of_node (stream_of x Addresses) x) (stream_of_node (stream_of x Applied) x))

  abbrev IsApart : List ℕ → SiteData → Type 0
  IsApart node y = (node ≢ y.node)

  -- the events of other nodes leave a node
  run_others : (z : SiteData) (xs : List SiteData) → AllByRecursion (IsApart z.node) xs → run (flat_map settling_site xs) z ≡ z
  run_others z [] apart = refl
  run_others z (x ∷ xs) apart =
      run_append (settling_site x) (flat_map settling_site xs) z
      ∙ (ap (run (flat_map settling_site xs)) (run_other x.node z (text_eq-not z.node x.node apart.0) (settling_site x) (site_of_node x)) ∙ run_others z xs apart.1)

  abbrev AreApart : List SiteData → Type 0
  AreApart [] = Unit {0}
  AreApart (x ∷ xs) = AllByRecursion (IsApart x.node) xs × AreApart xs

  later_settled : (x : SiteData) (events : List Event) (xs : List SiteData) → AllByRecursion (IsApart x.node) xs → AllByRecursion (λ y. IsSettled (run events y)) xs
      → AllByRecursion (λ y. IsSettled (run (settling_site x ++ events) y)) xs
  later_settled x events [] apart all = tt
  later_settled x events (y ∷ ys) apart all = (
    subst IsSettled
        (sym (run_append (settling_site x) events y ∙ ap (run events) (run_other x.node y (text_eq-not y.node x.node (λ e. apart.0 (sym e))) (settling_site x) (site_of_node x)))) all.0,
    later_settled x events ys apart.1 all.1,
  )

  settle_all : (xs : List SiteData) → AreApart xs → AllByRecursion (λ x. IsSettled (run (flat_map settling_site xs) x)) xs
  settle_all [] apart = tt
  settle_all (x ∷ xs) apart =
      let own = settle_site x in
      let moved : AllByRecursion (IsApart (run (settling_site x) x).node) xs = subst (λ n. AllByRecursion (IsApart n) xs) (sym own.1) apart.0 in (
        subst IsSettled (sym (run_append (settling_site x) (flat_map settling_site xs) x ∙ run_others (run (settling_site x) x) xs moved)) own.0,
        later_settled x (flat_map settling_site xs) xs apart.0 (settle_all xs apart.1),
      )

-- ---- the world

abbrev pub IsLocal : Event → Type 0
IsLocal (change changes backs) = ⊥
IsLocal (cut at) = ⊥
IsLocal (rejoin at) = Unit {0}
IsLocal (take at) = Unit {0}

abbrev told_of : WorldData → Stream → List ℕ → Msg
told_of w = λ s node. snapshot w s node

is_local : (w : WorldData) (node : List ℕ) (e : Event) → IsOf (told_of w) node e → IsLocal e
is_local w node (change changes backs) of = absurd of
is_local w node (cut at) of = absurd of
is_local w node (rejoin at) of = tt
is_local w node (take at) of = tt

pub local_is_whole : (e : Event) → IsLocal e → IsWholeEvent e
local_is_whole (change changes backs) local = absurd local
local_is_whole (cut at) local = tt
local_is_whole (rejoin at) local = tt
local_is_whole (take at) local = tt

all_local : (w : WorldData) (xs : List SiteData) → AllByRecursion IsLocal (flat_map settling_site xs)
all_local w [] = tt
all_local w (x ∷ xs) =
    all_append IsLocal (settling_site x) (flat_map settling_site xs)
    (all_weaker (IsOf (told_of w) x.node) IsLocal (is_local w x.node) (settling_site x) (site_of_node (told_of w) x)) (all_local w xs)

pub settling_is_local : (w : WorldData) → AllByRecursion IsLocal (settling w)
settling_is_local w = all_local w w.sites

map_same : (f : SiteData → SiteData) → ((x : SiteData) → f x ≡ x) → (xs : List SiteData) → xs ≡ map f xs
map_same f same [] = refl
map_same f same (x ∷ xs) = ap (λ y. y ∷ xs) (sym (same x)) ∙ ap (λ l. f x ∷ l) (map_same f same xs)

map_twice : (f g : SiteData → SiteData) (xs : List SiteData) → map f (map g xs) ≡ map (λ x. f (g x)) xs
map_twice f g [] = refl
map_twice f g (x ∷ xs) = ap (λ l. f (g x) ∷ l) (map_twice f g xs)

sites_run : (events : List Event) (w : WorldData) → AllByRecursion IsLocal events → (all_happen events w).sites ≡ map (run (told_of w) events) w.sites
sites_run [] w local = map_same (run (told_of w) []) (λ x. refl) w.sites
sites_run (change changes backs ∷ events) w local = absurd local.0
sites_run (cut at ∷ events) w local = absurd local.0
sites_run (rejoin at ∷ events) w local =
    sites_run events (happens (rejoin at) w) local.1 ∙ map_twice (run (told_of w) events) (one (told_of w) (rejoin at)) w.sites
sites_run (take at ∷ events) w local =
    sites_run events (happens (take at) w) local.1 ∙ map_twice (run (told_of w) events) (one (told_of w) (take at)) w.sites

pub same_cluster : (events : List Event) (w : WorldData) → AllByRecursion IsLocal events → (all_happen events w).cluster ≡ w.cluster
same_cluster [] w local = refl
same_cluster (change changes backs ∷ events) w local = absurd local.0
same_cluster (cut at ∷ events) w local = absurd local.0
same_cluster (rejoin at ∷ events) w local = same_cluster events (happens (rejoin at) w) local.1
same_cluster (take at ∷ events) w local = same_cluster events (happens (take at) w) local.1

pub same_history : (events : List Event) (w : WorldData) → AllByRecursion IsLocal events → (all_happen events w).history ≡ w.history
same_history [] w local = refl
same_history (change changes backs ∷ events) w local = absurd local.0
same_history (cut at ∷ events) w local = absurd local.0
same_history (rejoin at ∷ events) w local = same_history events (happens (rejoin at) w) local.1
same_history (take at ∷ events) w local = same_history events (happens (take at) w) local.1

-- ---- no two nodes have one name

unmapped : (P : List ℕ → Type 0) (xs : List SiteData) → AllByRecursion P (map (λ (x : SiteData). x.node) xs) → AllByRecursion (λ (x : SiteData). P x.node) xs
unmapped P [] all = tt
unmapped P (x ∷ xs) all = (all.0, unmapped P xs all.1)

apart_of : (w : WorldData) (xs : List SiteData) → AreDistinct (map (λ (x : SiteData). x.node) xs) → AreApart (told_of w) xs
apart_of w [] distinct = tt
apart_of w (x ∷ xs) distinct = (unmapped (λ n. x.node ≢ n) xs distinct.0, apart_of w xs distinct.1)

never_less : (t u : List ℕ) → text_order t u ≡ Less → t ≢ u
never_less t u less same = not_less (sym (tied_itself text_order_total t) ∙ (ap (text_order t) same ∙ less))
  where
    not_less : Equal ≡ Less → ⊥
    not_less e = cc

distinct_names : (ns : List NodeData) → Ascends (λ (n : NodeData). n.name) text_order ns → AreDistinct (map (λ (n : NodeData). n.name) ns)
distinct_names [] up = tt
distinct_names (n ∷ ns) up = (
  all_map (λ t. n.name ≢ t) (λ (m : NodeData). m.name) ns
      (all_weaker (λ (m : NodeData). text_order n.name m.name ≡ Less) (λ (m : NodeData). n.name ≢ m.name) (λ m less. never_less n.name m.name less) ns up.0),
  distinct_names ns up.1,
)

fixed_distinct : (c : ClusterData) → IsCluster c → AreDistinct (fixed_nodes c)
fixed_distinct c is = by_fixed c.fixed
  where
    by_fixed : (b : Bool) → AreDistinct (if b then map (λ (n : NodeData). n.name) c.nodes else [])
    by_fixed true = distinct_names c.nodes is.nodes_ascend
    by_fixed false = tt

pub settling_settles : (w : WorldData) → IsCluster w.cluster → HasNodes w → AllByRecursion IsSettled (settled w).sites
settling_settles w is has =
    subst (AllByRecursion IsSettled) (sym (sites_run (settling w) w (settling_is_local w)))
    (all_map IsSettled (run (told_of w) (settling w)) w.sites (settle_all (told_of w) w.sites (apart_of w w.sites (subst AreDistinct (sym has) (fixed_distinct w.cluster is)))))
