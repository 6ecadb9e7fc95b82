-- What is done stream by stream and node by node is done by the parts that the streams have before any of it.
use Rattle.std.proofs.Common.{◌≡◌, ℕ, zero, suc, ◌+◌, ◌<◌, ◌≤◌, List, [], ◌∷◌, ◌++◌, length, get_or, map, take as first, false, Some, Result, Ok, Err, IfOk, refl, sym, ap, subst, ◌∙◌, inl, inr, arith}
use Rattle.std.specs.List.{AllByRecursion, flat_map}
use Rattle.std.proofs.lemmas.List.{length-append, take_all, take_more}
use Rattle.std.proofs.lemmas.Grind.{flat_map-append}
use Rattle.std.specs.declared.cmp.Ordering.TheVariants.{Less}
use Rattle.cl_types.specs.Ascending.{Ascends}
use Rattle.cl_types.specs.ListLaws.{all_each, all_weaker}
use Rattle.cl_types.specs.Text.{text_eq, text_order}
use Rattle.cl_types.specs.declared.stream.Stream.{Stream}
use Rattle.cl_types.specs.declared.stream.Stream.TheVariants.{Policies, Addresses, Applied}
use Rattle.run_machine.specs.Lines.{every_stream}
use Rattle.run_machine.specs.Machine.{ChannelData, Event, SiteData, StreamOf, change, cut, rejoin, take}
use Rattle.suite_run.specs.Delivering.{HasDone, meant_streams, on_nodes, on_streams}
use Rattle.suite_run.specs.Doing.{NameAt, channel_at, node_names, run_after_all, stream_at}
use Rattle.ctl_core.specs.Controller.{ControllerData}
use Rattle.held_maps.specs.Held.{HeldData}
use Rattle.suite_run.specs.RunState.{RunData, sites_of}
use Rattle.suite_run.proofs.Placing.{name, site_names}
use Rattle.watch_streams.specs.Ports.{QueueData}
use Rattle.suite_run.proofs.Changed.{apart}
use Rattle.suite_run.proofs.Leaving.{IsEventOf, Leaves, channel_after, leaves_all, names_after}
use Rattle.suite_run.proofs.Standing.{IsOfStreams, after_append}
use Rattle.watch_streams.specs.OneOfAll.{all_flat_map, all_map}

-- ---- one thing after another

pub then_done : (first_events second_events : List Event) (a b c : RunData) (m n : ℕ) → HasDone first_events a b m → HasDone second_events b c n → HasDone (first_events ++ second_events) a c (m + n)
then_done first_events second_events a b c m n one two = record {
  run = two.run ∙ (ap (run_after_all second_events) one.run ∙ sym (after_append first_events second_events a));
  number = omega (arith, one.number, two.number, length-append first_events second_events);
}

pub done_of : (events : List Event) (a b : RunData) → b ≡ run_after_all events a → HasDone events a b (length events)
done_of events a b is = record { run = is; number = refl }

pub run_names : (events : List Event) (a b : RunData) → b ≡ run_after_all events a → node_names b.sites ≡ node_names a.sites
run_names events a b is = ap (λ (r : RunData). node_names r.sites) is ∙ names_after events a

pub done_names : (events : List Event) (a b : RunData) (n : ℕ) → HasDone events a b n → node_names b.sites ≡ node_names a.sites
done_names events a b n done = ap (λ (r : RunData). node_names r.sites) done.run ∙ names_after events a

-- counted by a sum, where that fits
pub sum_done : {E : Type 0} (events : List Event) (a b : RunData) (k : ℕ) (r : Result ℕ E) → IfOk r (λ n. n ≡ k) → HasDone events a b k → IfOk r (HasDone events a b)
sum_done events a b k (Ok n) is done = subst (HasDone events a b) (sym is) done
sum_done events a b k (Err e) is done = tt

pub append_nothing : (events : List Event) → events ++ [] ≡ events
append_nothing [] = refl
append_nothing (e ∷ events) = ap (λ l. e ∷ l) (append_nothing events)

pub meant_one : (s : Stream) → meant_streams (Some s) ≡ s ∷ []
meant_one Policies = refl
meant_one Addresses = refl
meant_one Applied = refl

of_streams : (at : StreamOf) (e : Event) → IsEventOf at e → IsOfStreams e
of_streams at (change changes backs) of = absurd of
of_streams at (cut other) of = absurd of
of_streams at (rejoin other) of = tt
of_streams at (take other) of = tt

-- ---- ascending names

abbrev pub AscendNames : List (List ℕ) → Type 0
AscendNames names = Ascends (λ (t : List ℕ). t) text_order names

pub names_ascend : {T : Type 0} (key : T → List ℕ) (xs : List T) → Ascends key text_order xs → AscendNames (map key xs)
names_ascend key [] up = tt
names_ascend key (x ∷ xs) up = (all_map (λ t. text_order (key x) t ≡ Less) key xs up.0, names_ascend key xs up.1)

pub run_ascends : (c : ControllerData QueueData) (held : List HeldData) → length held ≡ length c.nodes → Ascends name text_order c.nodes → AscendNames (node_names (sites_of c.nodes held))
run_ascends c held same up = subst AscendNames (sym (site_names c.nodes held same)) (names_ascend name c.nodes up)

before_name : (t node : List ℕ) (names : List (List ℕ)) (i : ℕ) → AllByRecursion (λ u. text_order t u ≡ Less) names → NameAt names i node → text_order t node ≡ Less
before_name t node [] i all p = absurd (omega (arith, p.within))
before_name t node (u ∷ names) zero all p = subst (λ v. text_order t v ≡ Less) p.is all.0
before_name t node (u ∷ names) (suc i) all p = before_name t node names i all.1 (record { within = omega (arith, p.within); is = p.is })

-- the names before one are others
earlier_apart : (name : List ℕ) (names : List (List ℕ)) (i : ℕ) → AscendNames names → NameAt names i name → AllByRecursion (λ t. text_eq name t ≡ false) (first i names)
earlier_apart name [] i up p = absurd (omega (arith, p.within))
earlier_apart name (t ∷ names) zero up p = tt
earlier_apart name (t ∷ names) (suc i) up p =
    let later : NameAt names i name = record { within = omega (arith, p.within); is = p.is } in
    (apart name t (before_name t name names i up.0 later), earlier_apart name names i up.1 later)

-- ---- parts

module _ (part : StreamOf → ChannelData → List Event) (of : (at : StreamOf) (channel : ChannelData) → AllByRecursion (IsEventOf at) (part at channel)) where
  -- the part of one stream
  abbrev pub own : List ℕ → Stream → List SiteData → List Event
  own node s sites = part (stream_at node s) (channel_at (stream_at node s) sites)

  pub own_streams : (streams : List Stream) (node : List ℕ) (sites : List SiteData) → AllByRecursion IsOfStreams (on_streams part streams node sites)
  own_streams streams node sites =
      all_flat_map IsOfStreams (λ s. own node s sites) streams
      (all_each _ (λ s. all_weaker (IsEventOf (stream_at node s)) IsOfStreams (of_streams (stream_at node s)) (own node s sites) (of (stream_at node s) _)) streams)

  pub all_streams : (streams : List Stream) (nodes : List (List ℕ)) (sites : List SiteData) → AllByRecursion IsOfStreams (on_nodes part streams sites nodes)
  all_streams streams nodes sites =
      all_flat_map IsOfStreams (λ node. on_streams part streams node sites) nodes (all_each _ (λ node. own_streams streams node sites) nodes)

  -- the part of another stream stays
  other_stays : (node : List ℕ) (s t : Stream) (a b : RunData) (n : ℕ) → (s ≡ t → ⊥) → HasDone (own node s a.sites) a b n → own node t b.sites ≡ own node t a.sites
  other_stays node s t a b n differs done =
      ap (part (stream_at node t))
      (
      ap (λ (r : RunData). channel_at (stream_at node t) r.sites) done.run
      ∙ channel_after (own node s a.sites) a (stream_at node t)
      (leaves_all (stream_at node s) (stream_at node t) (inl differs) (own node s a.sites) (of (stream_at node s) _))
      )

  pub one_done : (node : List ℕ) (s : Stream) (a b : RunData) (n : ℕ) → HasDone (own node s a.sites) a b n → HasDone (on_streams part (meant_streams (Some s)) node a.sites) a b n
  one_done node s a b n done =
      subst (λ streams. HasDone (on_streams part streams node a.sites) a b n) (sym (meant_one s))
      (subst (λ events. HasDone events a b n) (sym (append_nothing (own node s a.sites))) done)

  pub three_done : (node : List ℕ) (a b c d : RunData) (l m n : ℕ) → HasDone (own node Policies a.sites) a b l → HasDone (own node Addresses b.sites) b c m → HasDone (own node Applied c.sites) c d n
      → HasDone (on_streams part every_stream node a.sites) a d (l + (m + n))
  three_done node a b c d l m n one two three =
      let second : own node Addresses b.sites ≡ own node Addresses a.sites = other_stays node Policies Addresses a b l (λ e. cc) one in
      let third : own node Applied c.sites ≡ own node Applied a.sites =
      other_stays node Addresses Applied b c m (λ e. cc) two ∙ other_stays node Policies Applied a b l (λ e. cc) one in
      let last : HasDone (own node Applied a.sites ++ []) c d n = subst (λ events. HasDone events c d n) (third ∙ sym (append_nothing (own node Applied a.sites))) three in
      then_done (own node Policies a.sites) (own node Addresses a.sites ++ (own node Applied a.sites ++ [])) a b d l (m + n) one
      (then_done (own node Addresses a.sites) (own node Applied a.sites ++ []) b c d m n (subst (λ events. HasDone events b c m) second two) last)

  -- ---- nodes

  module _ (streams : List Stream) (old : RunData) (up : AscendNames (node_names old.sites)) where
    abbrev names : List (List ℕ)
    names = node_names old.sites

    -- the parts of a node stay while those before it have their turns
    part_stays : (now : RunData) (i : ℕ) (name : List ℕ) (n : ℕ) → NameAt names i name → HasDone (on_nodes part streams old.sites (first i names)) old now n
        → on_streams part streams name now.sites ≡ on_streams part streams name old.sites
    part_stays now i name n p done = ap (λ h. flat_map h streams) (λ j s. same s j)
      where
        others : (s : Stream) → AllByRecursion (Leaves (stream_at name s)) (on_nodes part streams old.sites (first i names))
        others s =
            all_flat_map (Leaves (stream_at name s)) (λ t. on_streams part streams t old.sites) (first i names)
            (all_weaker (λ t. text_eq name t ≡ false) (λ t. AllByRecursion (Leaves (stream_at name s)) (on_streams part streams t old.sites))
            (λ t differs.
            all_flat_map (Leaves (stream_at name s)) (λ u. own t u old.sites) streams
            (all_each _ (λ u. leaves_all (stream_at t u) (stream_at name s) (inr differs) (own t u old.sites) (of (stream_at t u) _)) streams))
            (first i names) (earlier_apart name names i up p))

        same : (s : Stream) → own name s now.sites ≡ own name s old.sites
        same s =
            ap (part (stream_at name s))
            (ap (λ (r : RunData). channel_at (stream_at name s) r.sites) done.run ∙ channel_after (on_nodes part streams old.sites (first i names)) old (stream_at name s) (others s))

    pub none_done : HasDone (on_nodes part streams old.sites (first 0 names)) old old 0
    none_done = record { run = refl; number = refl }

    pub one_more : (now new : RunData) (i : ℕ) (m n : ℕ) → i < length names → node_names now.sites ≡ names → HasDone (on_nodes part streams old.sites (first i names)) old now m
        → HasDone (on_streams part streams (get_or (node_names now.sites) i []) now.sites) now new n → HasDone (on_nodes part streams old.sites (first (i + 1) names)) old new (m + n)
    one_more now new i m n below same done next =
        let name : List ℕ = get_or names i [] in
        let p : NameAt names i name = record { within = below; is = refl } in
        let named : HasDone (on_streams part streams name now.sites) now new n = subst (λ ts. HasDone (on_streams part streams (get_or ts i []) now.sites) now new n) same next in
        let turn : HasDone (on_streams part streams name old.sites) now new n = subst (λ events. HasDone events now new n) (part_stays now i name m p done) named in
        let both = then_done (on_nodes part streams old.sites (first i names)) (on_streams part streams name old.sites) old now new m n done turn in
        subst (λ events. HasDone events old new (m + n))
        (sym (ap (flat_map (λ t. on_streams part streams t old.sites)) (take_more names i [] below)
        ∙ (flat_map-append (λ t. on_streams part streams t old.sites) (first i names) (name ∷ []) ∙ ap (λ l. on_nodes part streams old.sites (first i names) ++ l) (append_nothing (on_streams part streams name old.sites)))))
        both

    pub all_done : (now : RunData) (i n : ℕ) → length names ≤ i → HasDone (on_nodes part streams old.sites (first i names)) old now n → HasDone (on_nodes part streams old.sites names) old now n
    all_done now i n ended done = subst (λ ts. HasDone (on_nodes part streams old.sites ts) old now n) (take_all i names ended) done
