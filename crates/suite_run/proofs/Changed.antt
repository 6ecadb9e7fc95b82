-- What changes at one node of the controller, and at its agent, changes at its site.
use Rattle.std.proofs.Common.{◌≡◌, ℕ, zero, suc, List, [], ◌∷◌, length, get_or, set, map, Bool, true, false, Some, None, if◌then◌else◌, refl, sym, ap, subst, ◌∙◌, arith}
use Rattle.std.specs.Prelude.{find}
use Rattle.std.specs.List.{AllByRecursion}
use Rattle.std.specs.declared.cmp.Ordering.{Ordering}
use Rattle.std.specs.declared.cmp.Ordering.TheVariants.{Less, Equal, Greater}
use Rattle.std.specs.Ordering.{match_ordering, is_eq, ordering_reverse}
use Rattle.std.proofs.lemmas.Cmp.{tied_itself}
use Rattle.cl_types.specs.Ascending.{Ascends, put}
use Rattle.cl_types.specs.AscendingLaws.{all_put, found_holds}
use Rattle.cl_types.specs.OrderLaws.{text_eq-cmp, text_eq-itself, text_order_exact}
use Rattle.cl_types.specs.Text.{text_eq, text_order, text_order_total}
use Rattle.cl_types.specs.declared.stream.Stream.{Stream}
use Rattle.cl_types.specs.declared.stream.Stream.TheVariants.{Policies, Addresses, Applied}
use Rattle.ctl_core.specs.Controller.{ChangesOneStream, ControllerData}
use Rattle.node_streams.specs.Streams.{NodeStreams, StreamData, at_node as compares, stream_of, streams_at, with_stream}
use Rattle.held_maps.specs.Held.{HeldData}
use Rattle.run_machine.specs.Machine.{SiteData}
use Rattle.suite_run.specs.Doing.{NameAt, at_node}
use Rattle.suite_run.specs.RunState.{HasRings, IsRun, run_of, site_of, sites_of}
use Rattle.suite_run.specs.World.{has_name}
use Rattle.suite_run.proofs.Placing.{Nodes, less_there, name}
use Rattle.watch_streams.specs.Ports.{QueueData}

pub some_one : {T : Type 0} (x y : T) → Some x ≡ Some y → x ≡ y
some_one x y e = cc

-- names compare as they are equal
pub apart : (a b : List ℕ) → text_order b a ≡ Less → text_eq a b ≡ false
apart a b less = text_eq-cmp a b ∙ ap is_eq less

pub behind : (a b : List ℕ) → text_order a b ≡ Less → text_eq a b ≡ false
behind a b less = text_eq-cmp a b ∙ ap is_eq (text_order_total.antisymm b a ∙ ap ordering_reverse less)

pub one_name : (a b : List ℕ) → text_order a b ≡ Equal → text_eq a b ≡ true
one_name a b equal = subst (λ t. text_eq a t ≡ true) (text_order_exact a b equal) (text_eq-itself a)

module _ (node : List ℕ) (f : SiteData → SiteData) where
  -- the sites of later nodes stay
  later_stay : (nodes : Nodes) (held : List HeldData) → AllByRecursion (λ y. text_order node (name y) ≡ Less) nodes → map (at_node node f) (sites_of nodes held) ≡ sites_of nodes held
  later_stay [] held all = refl
  later_stay (y ∷ nodes) [] all = refl
  later_stay (y ∷ nodes) (h ∷ held) all =
      ap (λ b. (if b then f (site_of y h) else site_of y h) ∷ map (at_node node f) (sites_of nodes held)) (apart y.node node all.0)
      ∙ ap (λ xs. site_of y h ∷ xs) (later_stay nodes held all.1)

  module _ (before after : NodeStreams QueueData) where
    -- what is held stays
    pub sites_put : (nodes : Nodes) (held : List HeldData) → Ascends name text_order nodes → streams_at node nodes ≡ Some before → ((h : HeldData) → site_of after h ≡ f (site_of before h))
        → sites_of (put (compares node) after nodes) held ≡ map (at_node node f) (sites_of nodes held)
    sites_put [] held up stands becomes = cc
    sites_put (n ∷ nodes) [] up stands becomes = by_order (text_order n.node node)
      where
        by_order : (r : Ordering) → sites_of (match_ordering r (n ∷ put (compares node) after nodes) (after ∷ nodes) (after ∷ n ∷ nodes)) [] ≡ []
        by_order Less = refl
        by_order Equal = refl
        by_order Greater = refl
    sites_put (n ∷ nodes) (h ∷ held) up stands becomes = by_order (text_order n.node node) refl stands (λ s. sites_put nodes held up.1 s becomes)
      where
        by_order : (r : Ordering) → text_order n.node node ≡ r → match_ordering r (streams_at node nodes) (Some n) None ≡ Some before
            → (streams_at node nodes ≡ Some before → sites_of (put (compares node) after nodes) held ≡ map (at_node node f) (sites_of nodes held))
            → sites_of (match_ordering r (n ∷ put (compares node) after nodes) (after ∷ nodes) (after ∷ n ∷ nodes)) (h ∷ held)
            ≡ (if text_eq n.node node then f (site_of n h) else site_of n h) ∷ map (at_node node f) (sites_of nodes held)
        by_order Less is s rest =
            ap (λ xs. site_of n h ∷ xs) (rest s)
            ∙ ap (λ b. (if b then f (site_of n h) else site_of n h) ∷ map (at_node node f) (sites_of nodes held)) (sym (behind n.node node is))
        by_order Equal is s rest =
            let one : n ≡ before = some_one n before s in
            let here : site_of after h ≡ f (site_of n h) = becomes h ∙ ap (λ m. f (site_of m h)) (sym one) in
            let named : n.node ≡ node = text_order_exact n.node node is in
            ap (λ xs. site_of after h ∷ xs) (sym (later_stay nodes held (subst (λ t. AllByRecursion (λ y. text_order t (name y) ≡ Less) nodes) named up.0)))
            ∙ (ap (λ x. x ∷ map (at_node node f) (sites_of nodes held)) here
            ∙ ap (λ b. (if b then f (site_of n h) else site_of n h) ∷ map (at_node node f) (sites_of nodes held)) (sym (one_name n.node node is)))
        by_order Greater is s rest = cc

    -- the agent at the node's place holds something else
    pub sites_put_held : (nodes : Nodes) (held : List HeldData) (i : ℕ) (was new : HeldData) → Ascends name text_order nodes → length held ≡ length nodes → NameAt (map name nodes) i node
        → streams_at node nodes ≡ Some before → was ≡ get_or held i was → site_of after new ≡ f (site_of before was)
        → sites_of (put (compares node) after nodes) (set held i new) ≡ map (at_node node f) (sites_of nodes held)
    sites_put_held [] held i was new up same p stands is becomes = cc
    sites_put_held (n ∷ nodes) [] i was new up same p stands is becomes = absurd (omega (arith, same))
    sites_put_held (n ∷ nodes) (h ∷ held) zero was new up same p stands is becomes =
        let equal : text_order n.node node ≡ Equal = subst (λ t. text_order n.node t ≡ Equal) p.is (tied_itself text_order_total n.node) in
        let found_it : Some n ≡ Some before = rw equal at stands in
        let one : n ≡ before = some_one n before found_it in
        let here : site_of after new ≡ f (site_of n h) = becomes ∙ (ap (λ m. f (site_of m was)) (sym one) ∙ ap (λ k. f (site_of n k)) is) in
        rw equal
        (
        ap (λ xs. site_of after new ∷ xs) (sym (later_stay nodes held (subst (λ t. AllByRecursion (λ y. text_order t (name y) ≡ Less) nodes) p.is up.0)))
        ∙ (ap (λ x. x ∷ map (at_node node f) (sites_of nodes held)) here
        ∙ ap (λ b. (if b then f (site_of n h) else site_of n h) ∷ map (at_node node f) (sites_of nodes held)) (sym (one_name n.node node equal)))
        )
    sites_put_held (n ∷ nodes) (h ∷ held) (suc i) was new up same p stands is becomes =
        let there : NameAt (map name nodes) i node = record { within = omega (arith, p.within); is = p.is } in
        let less : text_order n.node node ≡ Less = less_there name node n nodes i up.0 there in
        let found_it : streams_at node nodes ≡ Some before = rw less at stands in
        rw less
        (
        ap (λ xs. site_of n h ∷ xs) (sites_put_held nodes held i was new up.1 (omega (arith, same)) there found_it is becomes)
        ∙ ap (λ b. (if b then f (site_of n h) else site_of n h) ∷ map (at_node node f) (sites_of nodes held)) (sym (behind n.node node less))
        )

-- a change that is none
pub same_sites : (node : List ℕ) (sites : List SiteData) → map (at_node node (λ x. x)) sites ≡ sites
same_sites node [] = refl
same_sites node (x ∷ sites) = ap (λ y. y ∷ map (at_node node (λ x. x)) sites) (by_test (text_eq x.node node)) ∙ ap (λ xs. x ∷ xs) (same_sites node sites)
  where
    by_test : (b : Bool) → (if b then x else x) ≡ x
    by_test true = refl
    by_test false = refl

-- ---- the site of an agent

pub agent_site : (node : List ℕ) (nodes : Nodes) (held : List HeldData) (i : ℕ) (h : HeldData) → Ascends name text_order nodes → length held ≡ length nodes → NameAt (map name nodes) i node
    → h ≡ get_or held i h → (n : NodeStreams QueueData) × (find (has_name node) (sites_of nodes held) ≡ Some (site_of n h))
agent_site node [] held i h up same p is = absurd (omega (arith, p.within))
agent_site node (n ∷ nodes) [] i h up same p is = absurd (omega (arith, same))
agent_site node (n ∷ nodes) (k ∷ held) zero h up same p is =
    let here : text_eq n.node node ≡ true = subst (λ t. text_eq n.node t ≡ true) p.is (text_eq-itself n.node) in
    (n, rw here (ap (λ a. Some (site_of n a)) (sym is)))
agent_site node (n ∷ nodes) (k ∷ held) (suc i) h up same p is =
    let there : NameAt (map name nodes) i node = record { within = omega (arith, p.within); is = p.is } in
    let other : text_eq n.node node ≡ false = behind n.node node (less_there name node n nodes i up.0 there) in
    let rest = agent_site node nodes held i h up.1 (omega (arith, same)) there is in
    (rest.0, rw other rest.1)

-- ---- what a run keeps

length_put : (node : List ℕ) (before after : NodeStreams QueueData) (nodes : Nodes) → streams_at node nodes ≡ Some before → length (put (compares node) after nodes) ≡ length nodes
length_put node before after [] stands = cc
length_put node before after (n ∷ nodes) stands = by_order (text_order n.node node) stands (length_put node before after nodes)
  where
    by_order : (r : Ordering) → match_ordering r (streams_at node nodes) (Some n) None ≡ Some before
        → (streams_at node nodes ≡ Some before → length (put (compares node) after nodes) ≡ length nodes)
        → length (match_ordering r (n ∷ put (compares node) after nodes) (after ∷ nodes) (after ∷ n ∷ nodes)) ≡ length (n ∷ nodes)
    by_order Less s rest = ap suc (rest s)
    by_order Equal s rest = refl
    by_order Greater s rest = cc

rings_with : (ring : ℕ) (s : Stream) (stream : StreamData QueueData) (n : NodeStreams QueueData) → stream.port.ring ≡ (stream_of s n).port.ring → HasRings ring n → HasRings ring (with_stream s stream n)
rings_with ring Policies stream n same has = record { policies = same ∙ has.policies; addresses = has.addresses; applied = has.applied }
rings_with ring Addresses stream n same has = record { policies = has.policies; addresses = same ∙ has.addresses; applied = has.applied }
rings_with ring Applied stream n same has = record { policies = has.policies; addresses = has.addresses; applied = same ∙ has.applied }

-- how a change of a stream leaves its places
abbrev pub KeepsRing : (StreamData QueueData → StreamData QueueData → Type 0) → Type 0
KeepsRing How = (old new : StreamData QueueData) → How old new → new.port.ring ≡ old.port.ring

module _ (node : List ℕ) (s : Stream) (How : StreamData QueueData → StreamData QueueData → Type 0) (old new : ControllerData QueueData) (one : ChangesOneStream node s How old new) where
  pub still_run : (held more : List HeldData) (ring : ℕ) → KeepsRing How → length more ≡ length held → IsRun old held ring → IsRun new more ring
  still_run held more ring keeps same run = record {
    unspent = ap (λ (c : ControllerData QueueData). c.spent) one.rest ∙ run.unspent;
    agents = same ∙ (run.agents ∙ (sym (length_put node one.streams.before one.streams.after old.nodes one.streams.stands) ∙ ap length (sym one.streams.rest)));
    rings = subst (AllByRecursion (HasRings ring)) (sym one.streams.rest) (all_put (compares node) (HasRings ring) one.streams.after old.nodes after_has run.rings);
  }
    where
      before_has : HasRings ring one.streams.before
      before_has = found_holds (compares node) (HasRings ring) old.nodes one.streams.before run.rings one.streams.stands

      after_has : HasRings ring one.streams.after
      after_has =
          subst (HasRings ring) (sym one.streams.changes.rest)
          (rings_with ring s (stream_of s one.streams.after) one.streams.before (keeps (stream_of s one.streams.before) (stream_of s one.streams.after) one.streams.changes.how) before_has)

  -- the run with these sites
  pub run_changed : (held more : List HeldData) (ring : ℕ) (sites : List SiteData) → sites_of new.nodes more ≡ sites → run_of new more ring ≡ record (run_of old held ring) { sites = sites }
  run_changed held more ring sites are = λ i. record { cluster = (one.rest i).cluster; revision = (one.rest i).revision.0; ring = ring; sites = are i }
