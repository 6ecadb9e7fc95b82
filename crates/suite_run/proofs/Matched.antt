-- The parts of a run's streams are those of the machine's sites.
use Rattle.std.proofs.Common.{◌≡◌, ℕ, List, [], ◌∷◌, ◌++◌, length, filter, Bool, true, false, ◌||◌, if◌then◌else◌, Option, Some, None, Result, Ok, Err, IfOk, OnOk, refl, sym, ap, subst, ◌∙◌}
use Rattle.std.specs.List.{AllByRecursion, flat_map}
use Rattle.std.specs.declared.cmp.Ordering.TheVariants.{Less}
use Rattle.cl_types.specs.ListLaws.{all_each, filter_all}
use Rattle.cl_types.specs.OrderLaws.{text_eq-itself, text_eq-not, text_eq-one}
use Rattle.cl_types.specs.Text.{text_eq, text_order}
use Rattle.cl_types.specs.declared.stream.Stream.{Stream}
use Rattle.cl_types.specs.declared.stream.Stream.TheVariants.{Policies, Addresses, Applied}
use Rattle.run_machine.specs.Lines.{delivering, delivering_site, every_stream, is_meant_node}
use Rattle.run_machine.specs.Settling.{settling, settling_site, settling_stream, stream_of}
use Rattle.run_machine.specs.Machine.{ChannelData, Event, SiteData, StreamOf, WorldData, all_happen, channel_on}
use Rattle.suite_run.specs.Delivering.{Delivers, HasDone, delivering_on, meant_streams, on_nodes, on_streams}
use Rattle.suite_run.specs.Doing.{channel_at, is_listed, node_names, run_after_all, stream_at}
use Rattle.suite_run.specs.RunState.{Does, RunData, Stands}
use Rattle.suite_run.specs.Resting.{settling_on}
use Rattle.suite_run.proofs.Changed.{behind}
use Rattle.suite_run.proofs.Parts.{delivering_of, settling_of}
use Rattle.suite_run.proofs.Rounds.{AscendNames, all_streams, append_nothing, own_streams}
use Rattle.suite_run.proofs.Standing.{IsOfStreams, stands_all}

-- ---- the channels of a listed node

abbrev pub HasOwn : List SiteData → SiteData → Type 0
HasOwn sites x = (s : Stream) → channel_at (stream_at x.node s) sites ≡ channel_on s x

later_own : (x : SiteData) (rest ys : List SiteData) → AllByRecursion (λ u. text_order x.node u ≡ Less) (node_names ys) → AllByRecursion (HasOwn rest) ys → AllByRecursion (HasOwn (x ∷ rest)) ys
later_own x rest [] less all = tt
later_own x rest (y ∷ ys) less all = (
  λ s. ap (λ b. if b then channel_on s x else channel_at (stream_at y.node s) rest) (behind x.node y.node less.0) ∙ all.0 s,
  later_own x rest ys less.1 all.1,
)

pub own_channels : (sites : List SiteData) → AscendNames (node_names sites) → AllByRecursion (HasOwn sites) sites
own_channels [] up = tt
own_channels (x ∷ sites) up = (
  λ s. ap (λ b. if b then channel_on s x else channel_at (stream_at x.node s) sites) (text_eq-itself x.node),
  later_own x sites sites up.0 (own_channels sites up.1),
)

-- the one site of the name
record OneSite (node : List ℕ) (sites : List SiteData) : Type 0 where
  site : SiteData
  alone : filter (λ (x : SiteData). text_eq node x.node) sites ≡ site ∷ []
  named : site.node ≡ node
  channels : (s : Stream) → channel_at (stream_at node s) sites ≡ channel_on s site

none_later : (node : List ℕ) (sites : List SiteData) → AllByRecursion (λ u. text_order node u ≡ Less) (node_names sites) → filter (λ (x : SiteData). text_eq node x.node) sites ≡ []
none_later node [] less = refl
none_later node (x ∷ sites) less =
    ap (λ b. if b then x ∷ filter (λ (y : SiteData). text_eq node y.node) sites else filter (λ (y : SiteData). text_eq node y.node) sites) (behind node x.node less.0) ∙ none_later node sites less.1

abbrev those : List ℕ → List SiteData → List SiteData
those node sites = filter (λ (y : SiteData). text_eq node y.node) sites

one_site : (node : List ℕ) (sites : List SiteData) → AscendNames (node_names sites) → is_listed node sites ≡ true → OneSite node sites
one_site node [] up listed = cc
one_site node (x ∷ sites) up listed = by_test (text_eq x.node node) refl (one_site node sites up.1)
  where
    by_test : (b : Bool) → text_eq x.node node ≡ b → (is_listed node sites ≡ true → OneSite node sites) → OneSite node (x ∷ sites)
    by_test true is rest =
        let same : x.node ≡ node = text_eq-one x.node node is in
        let back : text_eq node x.node ≡ true = subst (λ t. text_eq node t ≡ true) (sym same) (text_eq-itself node) in
        record {
          site = x;
          alone = ap (λ b. if b then x ∷ those node sites else those node sites) back ∙ ap (λ l. x ∷ l) (none_later node sites (subst (λ t. AllByRecursion (λ u. text_order t u ≡ Less) (node_names sites)) same up.0));
          named = same;
          channels = λ s. ap (λ b. if b then channel_on s x else channel_at (stream_at node s) sites) is;
        }
    by_test false is rest =
        let later : is_listed node sites ≡ true = sym (ap (λ b. b || is_listed node sites) is) ∙ listed in
        let one = rest later in
        let other : text_eq node x.node ≡ false = text_eq-not node x.node (λ e. not_both is (subst (λ t. text_eq t node ≡ true) e (text_eq-itself node))) in
        record {
          site = one.site;
          alone = ap (λ b. if b then x ∷ those node sites else those node sites) other ∙ one.alone;
          named = one.named;
          channels = λ s. ap (λ b. if b then channel_on s x else channel_at (stream_at node s) sites) is ∙ one.channels s;
        }
      where
        not_both : text_eq x.node node ≡ false → text_eq x.node node ≡ true → ⊥
        not_both differs equal = cc

-- ---- parts

module _ (part : StreamOf → ChannelData → List Event) (streams : List Stream) where
  -- the parts of a site's own channels
  abbrev pub site_part : SiteData → List Event
  site_part x = flat_map (λ (s : Stream). part (stream_at x.node s) (channel_on s x)) streams

  all_match : (sites xs : List SiteData) → AllByRecursion (HasOwn sites) xs → flat_map site_part xs ≡ on_nodes part streams sites (node_names xs)
  all_match sites [] own = refl
  all_match sites (x ∷ xs) own =
      ap (λ l. l ++ flat_map site_part xs) (λ i. flat_map (λ (s : Stream). part (stream_at x.node s) (sym (own.0 s) i)) streams)
      ∙ ap (λ l. on_streams part streams x.node sites ++ l) (all_match sites xs own.1)

  pub all_sites : (sites : List SiteData) → AscendNames (node_names sites) → flat_map site_part sites ≡ on_nodes part streams sites (node_names sites)
  all_sites sites up = all_match sites sites (own_channels sites up)

  pub named_site : (node : List ℕ) (sites : List SiteData) → AscendNames (node_names sites) → is_listed node sites ≡ true
      → flat_map site_part (filter (λ (x : SiteData). text_eq node x.node) sites) ≡ on_streams part streams node sites
  named_site node sites up listed =
      let one = one_site node sites up listed in
      ap (flat_map site_part) one.alone
      ∙ (append_nothing (site_part one.site) ∙ (λ i. flat_map (λ (s : Stream). part (stream_at (one.named i) s) (sym (one.channels s) i)) streams))

-- what follows from an answer
pub if_ok : {T E : Type 0} (r : Result T E) (P Q : T → Type 0) → ((x : T) → P x → Q x) → IfOk r P → IfOk r Q
if_ok (Ok x) P Q f p = f x p
if_ok (Err e) P Q f p = tt

pub on_ok : {T E : Type 0} (r : Result T E) (P Q : Type 0) → (P → Q) → OnOk r P → OnOk r Q
on_ok (Ok x) P Q f p = f p
on_ok (Err e) P Q f p = tt

-- ---- what is delivered

delivers : (node : Option (List ℕ)) (stream : Option Stream) (most : Option ℕ) (events : List Event) (old new : RunData) (n : ℕ) → AllByRecursion IsOfStreams events
    → ((w : WorldData) → Stands old w → delivering node stream most w ≡ events) → HasDone events old new n → Delivers node stream most old new n
delivers node stream most events old new n of same done = record {
  does = λ w st.
      subst (λ (r : RunData). Stands r (all_happen (delivering node stream most w) w)) (sym done.run)
      (subst (λ e. Stands (run_after_all events old) (all_happen e w)) (sym (same w st)) (stands_all events old w of st));
  number = λ w st. done.number ∙ ap length (sym (same w st));
}

pub all_delivered : (stream : Option Stream) (most : Option ℕ) (old new : RunData) (n : ℕ) → AscendNames (node_names old.sites)
    → HasDone (on_nodes (delivering_on most) (meant_streams stream) old.sites (node_names old.sites)) old new n → Delivers None stream most old new n
all_delivered stream most old new n up done =
    delivers None stream most (on_nodes (delivering_on most) (meant_streams stream) old.sites (node_names old.sites)) old new n
    (all_streams (delivering_on most) (delivering_of most) (meant_streams stream) (node_names old.sites) old.sites)
    (λ w st.
    ap (λ sites. flat_map (delivering_site stream most) (filter (λ (x : SiteData). is_meant_node None x.node) sites)) st.sites
    ∙ (ap (flat_map (delivering_site stream most)) (filter_all (λ (x : SiteData). is_meant_node None x.node) old.sites (all_each _ (λ x. refl) old.sites))
    ∙ all_sites (delivering_on most) (meant_streams stream) old.sites up))
    done

pub node_delivered : (node : List ℕ) (stream : Option Stream) (most : Option ℕ) (old new : RunData) (n : ℕ) → AscendNames (node_names old.sites) → is_listed node old.sites ≡ true
    → HasDone (on_streams (delivering_on most) (meant_streams stream) node old.sites) old new n → Delivers (Some node) stream most old new n
node_delivered node stream most old new n up listed done =
    delivers (Some node) stream most (on_streams (delivering_on most) (meant_streams stream) node old.sites) old new n
    (own_streams (delivering_on most) (delivering_of most) (meant_streams stream) node old.sites)
    (λ w st.
    ap (λ sites. flat_map (delivering_site stream most) (filter (λ (x : SiteData). is_meant_node (Some node) x.node) sites)) st.sites
    ∙ named_site (delivering_on most) (meant_streams stream) node old.sites up listed)
    done

-- ---- what is settled

settling_parts : (x : SiteData) → settling_site x ≡ site_part settling_on every_stream x
settling_parts x =
    ap
    (λ l. settling_stream (stream_of x Policies) x ++ (settling_stream (stream_of x Addresses) x ++ l))
    (sym (append_nothing (settling_stream (stream_of x Applied) x)))

pub settled_all : (old new : RunData) → AscendNames (node_names old.sites) → new ≡ run_after_all (on_nodes settling_on every_stream old.sites (node_names old.sites)) old → Does settling old new
settled_all old new up is w st =
    let events : List Event = on_nodes settling_on every_stream old.sites (node_names old.sites) in
    let same : settling w ≡ events =
    ap (flat_map settling_site) st.sites ∙ ((λ i. flat_map (λ (x : SiteData). settling_parts x i) old.sites) ∙ all_sites settling_on every_stream old.sites up) in
    subst (λ (r : RunData). Stands r (all_happen (settling w) w)) (sym is)
    (subst (λ e. Stands (run_after_all events old) (all_happen e w)) (sym same)
    (stands_all events old w (all_streams settling_on settling_of every_stream (node_names old.sites) old.sites) st))
