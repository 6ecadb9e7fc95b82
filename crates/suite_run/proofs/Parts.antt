-- The parts of streams, one after another.
use Rattle.std.proofs.Common.{◌≡◌, ℕ, ◌+◌, ◌<◌, ◌≤◌, List, [], ◌∷◌, ◌++◌, length, get_or, map, take as first, drop, Bool, true, false, if◌then◌else◌, Option, Some, None, refl, sym, ap, ◌∙◌, arith}
use Rattle.std.specs.List.{AllByRecursion}
use Rattle.std.proofs.lemmas.List.{drop_more, length-drop, length-map, length-take-le, map_more, take_all}
use Rattle.cl_types.specs.Text.{text_eq}
use Rattle.cl_types.specs.declared.stream.Stream.{Stream}
use Rattle.cl_types.specs.declared.stream.Stream.TheVariants.{Policies, Addresses, Applied}
use Rattle.run_machine.specs.Lines.{first_of}
use Rattle.run_machine.specs.Machine.{ChannelData, Event, SiteData, StreamOf, channel_on, rejoin, take, taken, taken_of}
use Rattle.suite_run.specs.Delivering.{HasDone, delivering_on, takes}
use Rattle.suite_run.specs.Doing.{channel_at, node_names, run_after, run_after_all, site_after, waiting_at}
use Rattle.suite_run.specs.Resting.{settling_on}
use Rattle.suite_run.specs.RunState.{RunData}
use Rattle.watch_streams.specs.OneOfAll.{all_append}
use Rattle.suite_run.specs.Taking.{HasWaited}
use Rattle.suite_run.proofs.Leaving.{IsEventOf, names_after, node_stays}
use Rattle.suite_run.proofs.Standing.{after_append}
use Rattle.watch_streams.specs.declared.message.Msg.{Msg}

-- ---- one stream

takes_of : (at : StreamOf) (messages : List Msg) → AllByRecursion (IsEventOf at) (takes at messages)
takes_of at [] = tt
takes_of at (m ∷ messages) = (refl, takes_of at messages)

pub delivering_of : (count : Option ℕ) (at : StreamOf) (channel : ChannelData) → AllByRecursion (IsEventOf at) (delivering_on count at channel)
delivering_of count at channel = takes_of at (first_of count channel.queue)

pub settling_of : (at : StreamOf) (channel : ChannelData) → AllByRecursion (IsEventOf at) (settling_on at channel)
settling_of at channel = all_append (IsEventOf at) (takes at channel.queue) _ (takes_of at channel.queue) (by_live channel.live)
  where
    by_live : (b : Bool) → AllByRecursion (IsEventOf at) (if b then [] else rejoin at ∷ take at ∷ [])
    by_live true = tt
    by_live false = (refl, (refl, tt))

-- the oldest message left the stream
queue_put : (s : Stream) (x : SiteData) (queue : List Msg) → (channel_on s x).queue ≡ queue → (channel_on s (taken_of queue s x)).queue ≡ drop 1 queue
queue_put Policies x [] is = is
queue_put Addresses x [] is = is
queue_put Applied x [] is = is
queue_put Policies x (m ∷ messages) is = refl
queue_put Addresses x (m ∷ messages) is = refl
queue_put Applied x (m ∷ messages) is = refl

-- the first i messages that waited were taken, and the others wait
pub record TakenSoFar (at : StreamOf) (old new : RunData) (i : ℕ) : Type 0 where
  pub within : i ≤ length (waiting_at at old.sites)
  pub run : new ≡ run_after_all (takes at (first i (waiting_at at old.sites))) old
  pub rest : waiting_at at new.sites ≡ drop i (waiting_at at old.sites)
  pub names : node_names new.sites ≡ node_names old.sites

waiting_taken : (r : RunData) (at : StreamOf) (sites : List SiteData) → waiting_at at (map (site_after r (take at)) sites) ≡ drop 1 (waiting_at at sites)
waiting_taken r at [] = refl
waiting_taken r at (x ∷ sites) =
    ap (λ n. (if text_eq n at.node then channel_on at.stream (site_after r (take at) x) else channel_at at (map (site_after r (take at)) sites)).queue) (node_stays r (take at) x)
    ∙ by_test (text_eq x.node at.node) (waiting_taken r at sites)
  where
    by_test : (b : Bool) → waiting_at at (map (site_after r (take at)) sites) ≡ drop 1 (waiting_at at sites)
        → (if b then channel_on at.stream (if b then taken at.stream x else x) else channel_at at (map (site_after r (take at)) sites)).queue
        ≡ drop 1 (if b then channel_on at.stream x else channel_at at sites).queue
    by_test true rest = queue_put at.stream x (channel_on at.stream x).queue refl
    by_test false rest = rest

pub none_waited : (messages : List Msg) (took : Bool) → HasWaited messages took → took ≡ false → messages ≡ []
none_waited messages true waited is = cc
none_waited messages false waited is = waited

module _ (at : StreamOf) (old : RunData) where
  pub none_taken : TakenSoFar at old old 0
  none_taken = record { within = omega arith; run = refl; rest = refl; names = refl }

  module _ (now : RunData) (i : ℕ) (so : TakenSoFar at old now i) where
    abbrev queue : List Msg
    queue = waiting_at at old.sites

    pub one_more : (new : RunData) → new ≡ run_after (take at) now → HasWaited (waiting_at at now.sites) true → TakenSoFar at old new (i + 1)
    one_more new is waited =
        let m : Msg = waited.0 in
        let there : drop i queue ≡ m ∷ waited.1.0 = sym so.rest ∙ waited.1.1 in
        let below : i < length queue = omega (arith, length-drop i queue, ap length there) in
        let more : drop i queue ≡ get_or queue i m ∷ drop (i + 1) queue = drop_more queue i m below in
        let others : waited.1.0 ≡ drop (i + 1) queue = cc in
        record {
          within = omega (arith, below);
          run = is
              ∙ (ap (run_after (take at)) so.run
              ∙ (sym (after_append (takes at (first i queue)) (take at ∷ []) old) ∙ ap (λ events. run_after_all events old) (sym (map_more (λ (m : Msg). take at) queue i m below))));
          rest = ap (λ (r : RunData). waiting_at at r.sites) is ∙ (waiting_taken now at now.sites ∙ (ap (drop 1) waited.1.1 ∙ others));
          names = ap (λ (r : RunData). node_names r.sites) is ∙ (names_after (take at ∷ []) now ∙ so.names);
        }

    number_so_far : i ≡ length (takes at (first i queue))
    number_so_far = sym (length-map (first i queue) (λ (m : Msg). take at) ∙ length-take-le i queue so.within)

    done_so_far : (count : Option ℕ) → first_of count queue ≡ first i queue → HasDone (delivering_on count at (channel_at at old.sites)) old now i
    done_so_far count same = record {
      run = so.run ∙ ap (λ messages. run_after_all (takes at messages) old) (sym same);
      number = number_so_far ∙ ap (λ messages. length (takes at messages)) (sym same);
    }

    -- nothing waits any more
    pub all_done : (count : Option ℕ) → ((c : ℕ) → count ≡ Some c → i ≤ c) → waiting_at at now.sites ≡ [] → HasDone (delivering_on count at (channel_at at old.sites)) old now i
    all_done None within none = done_so_far None (sym (take_all i queue (omega (arith, length-drop i queue, ap length (sym so.rest ∙ none)))))
    all_done (Some c) within none =
        let ended : length queue ≤ i = omega (arith, length-drop i queue, ap length (sym so.rest ∙ none)) in
        let last : i ≤ c = within c refl in
        done_so_far (Some c) (take_all c queue (omega (arith, ended, last)) ∙ sym (take_all i queue ended))

  -- as many as were asked for
  pub most_done : (now : RunData) (count : Option ℕ) (i : ℕ) → TakenSoFar at old now i → count ≡ Some i → HasDone (delivering_on count at (channel_at at old.sites)) old now i
  most_done now count i so is = done_so_far now i so count (ap (λ c. first_of c (waiting_at at old.sites)) is)

-- ---- a stream is settled

module _ (at : StreamOf) (old mid : RunData) (n : ℕ) (done : HasDone (delivering_on None at (channel_at at old.sites)) old mid n) where
  abbrev pub Settled : RunData → Type 0
  Settled new = new ≡ run_after_all (settling_on at (channel_at at old.sites)) old

  abbrev taken_all : List Event
  taken_all = takes at (channel_at at old.sites).queue

  pub cut_settled : (live : Bool) → live ≡ (channel_at at old.sites).live → live ≡ false → (new : RunData) → new ≡ run_after_all (rejoin at ∷ take at ∷ []) mid → Settled new
  cut_settled live is ends new again =
      again
      ∙ (ap (run_after_all (rejoin at ∷ take at ∷ [])) done.run
      ∙ (sym (after_append taken_all (rejoin at ∷ take at ∷ []) old)
      ∙ ap (λ b. run_after_all (taken_all ++ (if b then [] else rejoin at ∷ take at ∷ [])) old) (sym ends ∙ is)))
