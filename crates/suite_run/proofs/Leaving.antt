-- What events of one stream leave of the others.
use Rattle.std.proofs.Common.{◌≡◌, ℕ, zero, suc, List, [], ◌∷◌, map, Bool, true, false, ◌||◌, if◌then◌else◌, refl, sym, ap, subst, ◌∙◌, ◌⊎◌, inl, inr, arith}
use Rattle.std.specs.List.{AllByRecursion, list_any}
use Rattle.cl_types.specs.ListLaws.{all_weaker}
use Rattle.cl_types.specs.OrderLaws.{text_eq-itself, text_eq-one}
use Rattle.cl_types.specs.Text.{text_eq}
use Rattle.cl_types.specs.declared.stream.Stream.{Stream}
use Rattle.cl_types.specs.declared.stream.Stream.TheVariants.{Policies, Addresses, Applied}
use Rattle.run_machine.specs.Machine.{Event, OfStreams, SiteData, StreamOf, change, channel_on, cut, cut_at, on, put_on, rejoin, take, taken, taken_of}
use Rattle.suite_run.specs.Doing.{NameAt, at_node, channel_at, is_listed, node_names, rejoined_now, run_after, run_after_all, site_after}
use Rattle.suite_run.specs.RunState.{RunData}
use Rattle.watch_streams.specs.declared.message.Msg.{Msg}

-- ---- names stay

taken_of_stays : (queue : List Msg) (s : Stream) (x : SiteData) → (taken_of queue s x).node ≡ x.node
taken_of_stays [] s x = refl
taken_of_stays (m ∷ messages) s x = refl

at_node_stays : (node : List ℕ) (f : SiteData → SiteData) (x : SiteData) → (f x).node ≡ x.node → (at_node node f x).node ≡ x.node
at_node_stays node f x stays = by_test (text_eq x.node node)
  where
    by_test : (b : Bool) → (if b then f x else x).node ≡ x.node
    by_test true = stays
    by_test false = refl

pub node_stays : (r : RunData) (e : Event) (x : SiteData) → (site_after r e x).node ≡ x.node
node_stays r (change changes backs) x = refl
node_stays r (cut at) x = at_node_stays at.node (cut_at at.stream) x refl
node_stays r (rejoin at) x = at_node_stays at.node (rejoined_now r at.stream) x refl
node_stays r (take at) x = at_node_stays at.node (taken at.stream) x (taken_of_stays (channel_on at.stream x).queue at.stream x)

names_map : (f : SiteData → SiteData) → ((x : SiteData) → (f x).node ≡ x.node) → (sites : List SiteData) → node_names (map f sites) ≡ node_names sites
names_map f stays [] = refl
names_map f stays (x ∷ sites) = ap (λ n. n ∷ node_names (map f sites)) (stays x) ∙ ap (λ names. x.node ∷ names) (names_map f stays sites)

pub names_after : (events : List Event) (r : RunData) → node_names (run_after_all events r).sites ≡ node_names r.sites
names_after [] r = refl
names_after (e ∷ events) r = names_after events (run_after e r) ∙ names_map (site_after r e) (node_stays r e) r.sites

by_names : (node : List ℕ) (sites : List SiteData) → is_listed node sites ≡ list_any (λ t. text_eq t node) (node_names sites)
by_names node [] = refl
by_names node (x ∷ sites) = ap (λ b. text_eq x.node node || b) (by_names node sites)

pub listed_after : (node : List ℕ) (old new : List SiteData) → node_names new ≡ node_names old → is_listed node old ≡ true → is_listed node new ≡ true
listed_after node old new same listed = by_names node new ∙ (ap (list_any (λ t. text_eq t node)) same ∙ (sym (by_names node old) ∙ listed))

pub named_listed : (node : List ℕ) (sites : List SiteData) (i : ℕ) → NameAt (node_names sites) i node → is_listed node sites ≡ true
named_listed node [] i p = absurd (omega (arith, p.within))
named_listed node (x ∷ sites) zero p =
    let here : text_eq x.node node ≡ true = subst (λ t. text_eq x.node t ≡ true) p.is (text_eq-itself x.node) in
    ap (λ b. b || is_listed node sites) here
named_listed node (x ∷ sites) (suc i) p = or_later (text_eq x.node node) (named_listed node sites i (record { within = omega (arith, p.within); is = p.is }))
  where
    or_later : (b : Bool) → is_listed node sites ≡ true → (b || is_listed node sites) ≡ true
    or_later true later = refl
    or_later false later = later

-- ---- channels stay

channel_kept : (at : StreamOf) (f : SiteData → SiteData) → ((x : SiteData) → (f x).node ≡ x.node) → ((x : SiteData) → text_eq x.node at.node ≡ true → channel_on at.stream (f x) ≡ channel_on at.stream x)
    → (sites : List SiteData) → channel_at at (map f sites) ≡ channel_at at sites
channel_kept at f stays same [] = refl
channel_kept at f stays same (x ∷ sites) =
    ap (λ n. if text_eq n at.node then channel_on at.stream (f x) else channel_at at (map f sites)) (stays x) ∙ by_test (text_eq x.node at.node) refl (channel_kept at f stays same sites)
  where
    by_test : (b : Bool) → text_eq x.node at.node ≡ b → channel_at at (map f sites) ≡ channel_at at sites → (if b then channel_on at.stream (f x) else channel_at at (map f sites)) ≡ (if b then channel_on at.stream x else channel_at at sites)
    by_test true is rest = same x is
    by_test false is rest = rest

-- an event that an agent's turn on the stream has
abbrev pub IsEventOf : StreamOf → Event → Type 0
IsEventOf at (change changes backs) = ⊥
IsEventOf at (cut other) = ⊥
IsEventOf at (rejoin other) = other ≡ at
IsEventOf at (take other) = other ≡ at

-- another stream, or that of another node
abbrev pub Apart : StreamOf → StreamOf → Type 0
Apart at other = (at.stream ≡ other.stream → ⊥) ⊎ (text_eq other.node at.node ≡ false)

on_other : {T : Type 0} (s t : Stream) (new : T) (things : OfStreams T) → (s ≡ t → ⊥) → on t (put_on s new things) ≡ on t things
on_other Policies Policies new things other = absurd (other refl)
on_other Policies Addresses new things other = refl
on_other Policies Applied new things other = refl
on_other Addresses Policies new things other = refl
on_other Addresses Addresses new things other = absurd (other refl)
on_other Addresses Applied new things other = refl
on_other Applied Policies new things other = refl
on_other Applied Addresses new things other = refl
on_other Applied Applied new things other = absurd (other refl)

taken_other : (queue : List Msg) (s t : Stream) (x : SiteData) → (s ≡ t → ⊥) → channel_on t (taken_of queue s x) ≡ channel_on t x
taken_other [] s t x other = refl
taken_other (m ∷ messages) s t x other = on_other s t (record (channel_on s x) { queue = messages }) x.channels other

here_or_not : (f : SiteData → SiteData) (t : Stream) (x : SiteData) → channel_on t (f x) ≡ channel_on t x → (b : Bool) → channel_on t (if b then f x else x) ≡ channel_on t x
here_or_not f t x same true = same
here_or_not f t x same false = refl

not_here : (node other : List ℕ) (x : SiteData) → text_eq x.node other ≡ true → text_eq other node ≡ false → text_eq x.node node ≡ false
not_here node other x is differs = subst (λ n. text_eq n node ≡ false) (sym (text_eq-one x.node other is)) differs

event_apart : (r : RunData) (e : Event) (at other : StreamOf) → IsEventOf at e → Apart at other → (x : SiteData) → text_eq x.node other.node ≡ true
    → channel_on other.stream (site_after r e x) ≡ channel_on other.stream x
event_apart r (change changes backs) at other of apart x is = absurd of
event_apart r (cut b) at other of apart x is = absurd of
event_apart r (rejoin b) at other of (inl differs) x is =
    here_or_not (rejoined_now r b.stream) other.stream x (on_other b.stream other.stream _ x.channels (λ e. differs (ap (λ (z : StreamOf). z.stream) (sym of) ∙ e))) (text_eq x.node b.node)
event_apart r (rejoin b) at other of (inr differs) x is =
    let none : text_eq x.node b.node ≡ false = not_here b.node other.node x is (subst (λ (z : StreamOf). text_eq other.node z.node ≡ false) (sym of) differs) in
    ap (λ t. channel_on other.stream (if t then rejoined_now r b.stream x else x)) none
event_apart r (take b) at other of (inl differs) x is =
    here_or_not (taken b.stream) other.stream x (taken_other (channel_on b.stream x).queue b.stream other.stream x (λ e. differs (ap (λ (z : StreamOf). z.stream) (sym of) ∙ e))) (text_eq x.node b.node)
event_apart r (take b) at other of (inr differs) x is =
    let none : text_eq x.node b.node ≡ false = not_here b.node other.node x is (subst (λ (z : StreamOf). text_eq other.node z.node ≡ false) (sym of) differs) in
    ap (λ t. channel_on other.stream (if t then taken b.stream x else x)) none

-- the event is of a stream apart from this one
pub record Leaves (other : StreamOf) (e : Event) : Type 0 where
  pub at : StreamOf
  pub of : IsEventOf at e
  pub apart : Apart at other

pub channel_after : (events : List Event) (r : RunData) (other : StreamOf) → AllByRecursion (Leaves other) events → channel_at other (run_after_all events r).sites ≡ channel_at other r.sites
channel_after [] r other all = refl
channel_after (e ∷ events) r other all =
    channel_after events (run_after e r) other all.1
    ∙ channel_kept other (site_after r e) (node_stays r e) (event_apart r e all.0.at other all.0.of all.0.apart) r.sites

pub leaves_all : (at other : StreamOf) → Apart at other → (events : List Event) → AllByRecursion (IsEventOf at) events → AllByRecursion (Leaves other) events
leaves_all at other apart events of = all_weaker (IsEventOf at) (Leaves other) (λ e of. record { at = at; of = of; apart = apart }) events of
