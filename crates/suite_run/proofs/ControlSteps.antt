-- What control lines make of a run whose nodes are fixed, as steps of the machine.
use Rattle.std.proofs.Common.{◌≡◌, ℕ, List, [], ◌∷◌, length, map, Bool, true, false, ◌||◌, filter, ◌-◌, if◌then◌else◌, Option, Some, None, IfSome, is_some, option_copied, Bor, Result, Ok, Err, refl, sym, ap, subst, ◌∙◌}
use Rattle.std.specs.Prelude.{find, nat_le}
use Rattle.std.proofs.lemmas.Bool.{le-leb, lt-leb}
use Rattle.cl_types.specs.Judgement.{Judgement}
use Rattle.cl_types.specs.OrderLaws.{text_eq-one}
use Rattle.cl_types.specs.Text.{text_eq}
use Rattle.cl_types.specs.declared.question.Question.{Question}
use Rattle.cl_types.specs.declared.stream.Rev.{Rev}
use Rattle.cl_types.specs.declared.stream.Stream.{Stream}
use Rattle.cluster_types.specs.Evaluation.{side}
use Rattle.ctl_core.specs.declared.outcome.RejoinFault.{RejoinFault}
use Rattle.ctl_core.specs.declared.outcome.RejoinFault.TheVariants as fault
use Rattle.run_machine.specs.Lines.{after_line, delivering, delivering_site, is_meant_node}
use Rattle.run_machine.specs.Machine.{ChannelData, Event, OfStreams, SiteData, WorldData, all_happen, channel_on, cut, last_revision}
use Rattle.run_machine.specs.Settling.{settling, settling_site}
use Rattle.suite_run.specs.Answering.{AnswersOf, numbers_in_order}
use Rattle.suite_run.specs.Controls.{IsRunStep, RunMakes, TellsRejoined, is_served}
use Rattle.suite_run.specs.Cutting.{DoesLine, Rejoins}
use Rattle.suite_run.specs.Delivering.{Delivers}
use Rattle.suite_run.specs.Doing.{channel_at, is_listed, stream_at}
use Rattle.suite_run.specs.RunState.{Does, RunData, Stands}
use Rattle.suite_run.specs.Fixing.{StandsFor}
use Rattle.suite_run.specs.Shown.{IsReady, IsStep, IsWorld, Makes, outcome_of, three}
use Rattle.cluster_types.specs.Cluster.{ClusterData}
use Rattle.std.specs.List.{flat_map}
use Rattle.suite_run.specs.World.{OutcomeData, Step, step, answered, answered_at, at_name, cut_told, delivered, happens_if, has_name, is_refusal, judged, judged_at, line_of, of_node, refused, rejoin_told, rejoined, settled, told_of_cut, told_of_item}
use Rattle.suite_run.specs.declared.item.Item.{Item}
use Rattle.suite_run.specs.declared.item.Item.TheVariants.{Ask, AskHeld, Cut, Deliver, Rejoin, Settle}
use Rattle.line_refusals.specs.declared.refusal.Refusal.{Refusal}
use Rattle.line_refusals.specs.declared.refusal.Refusal.TheVariants.{Full, NoNode, NotCut}
use Rattle.suite_run.specs.declared.world.LineOutcome.{LineOutcome}
use Rattle.suite_run.specs.declared.fixing.Early.{Early}
use Rattle.suite_run.specs.declared.fixing.Early.TheVariants.{Bare, Fixed}
use Rattle.suite_run.specs.declared.world.World.{World}
use Rattle.suite_run.proofs.Changed.{some_one}
use Rattle.watch_streams.specs.HeldEvaluation.{held_side}

-- ---- steps

abbrev pub step_of : (w : WorldData) → Item → OutcomeData → Step
step_of w item o = record { world = happens_if o (line_of item) w; outcome = o }

pub step_is : (w : WorldData) (item : Item) (o : OutcomeData) → told_of_item w item ≡ o → step w item ≡ step_of w item o
unfolding step
step_is w item o is = ap (step_of w item) is

-- the line is done, and this is told of it
pub line_done : (w : WorldData) (item : Item) (o : OutcomeData) (new : RunData) (said : LineOutcome) → told_of_item w item ≡ o → is_refusal o ≡ false → outcome_of said ≡ o
    → Stands new (after_line (line_of item) w) → IsRunStep (step w item) new said
line_done w item o new said is fine told st =
    subst (λ (z : Step). IsRunStep z new said) (sym (step_is w item o is)) (record {
      stands = subst (λ b. Stands new (if b then w else after_line (line_of item) w)) (sym fine) st;
      told = told;
    })

-- the line is refused
pub line_refused : (w : WorldData) (item : Item) (r : Refusal) (run : RunData) (said : LineOutcome) → told_of_item w item ≡ refused r → outcome_of said ≡ refused r → Stands run w
    → IsRunStep (step w item) run said
line_refused w item r run said is told st =
    subst (λ (z : Step). IsRunStep z run said) (sym (step_is w item (refused r) is)) (record { stands = st; told = told })

-- ---- the site of a name

pub record Named (node : List ℕ) (sites : List SiteData) : Type 0 where
  pub site : SiteData
  pub found : find (has_name node) sites ≡ Some site
  pub named : site.node ≡ node
  pub channels : (s : Stream) → channel_at (stream_at node s) sites ≡ channel_on s site

pub named : (node : List ℕ) (sites : List SiteData) → is_listed node sites ≡ true → Named node sites
named node [] listed = cc
named node (x ∷ sites) listed = by_test (text_eq x.node node) refl listed (named node sites)
  where
    by_test : (b : Bool) → text_eq x.node node ≡ b → (b || is_listed node sites) ≡ true → (is_listed node sites ≡ true → Named node sites) → Named node (x ∷ sites)
    by_test true is here rest = record {
      site = x;
      found = ap (λ b. if b then Some x else find (has_name node) sites) is;
      named = text_eq-one x.node node is;
      channels = λ s. ap (λ b. if b then channel_on s x else channel_at (stream_at node s) sites) is;
    }
    by_test false is here rest =
        let one = rest here in
        record {
          site = one.site;
          found = ap (λ b. if b then Some x else find (has_name node) sites) is ∙ one.found;
          named = one.named;
          channels = λ s. ap (λ b. if b then channel_on s x else channel_at (stream_at node s) sites) is ∙ one.channels s;
        }

none_named : (node : List ℕ) (sites : List SiteData) → is_listed node sites ≡ false → find (has_name node) sites ≡ None
none_named node [] not_so = refl
none_named node (x ∷ sites) not_so = by_test (text_eq x.node node) not_so (none_named node sites)
  where
    by_test : (b : Bool) → (b || is_listed node sites) ≡ false → (is_listed node sites ≡ false → find (has_name node) sites ≡ None) → (if b then Some x else find (has_name node) sites) ≡ None
    by_test true here rest = cc
    by_test false here rest = rest here

-- the revisions of the streams, in their order
three_are : (revisions : List Rev) (r : OfStreams ℕ) → map (λ (rev : Rev). rev.0) revisions ≡ numbers_in_order r → three revisions ≡ r
three_are [] r e = cc
three_are (p ∷ []) r e = cc
three_are (p ∷ a ∷ []) r e = cc
three_are (p ∷ a ∷ g ∷ more) r e =
    let policies : p.0 ≡ r.policies = cc in
    let addresses : a.0 ≡ r.addresses = cc in
    let applied : g.0 ≡ r.applied = cc in
    λ i. record { policies = policies i; addresses = addresses i; applied = applied i }

-- ---- lines of a run

module _ (old : RunData) (w : WorldData) (st : Stands old w) where
  -- no node has the name
  pub unlisted : (node : List ℕ) (item : Item) (tell : SiteData → OutcomeData) (said : LineOutcome) → told_of_item w item ≡ of_node (at_name node w) tell → is_listed node old.sites ≡ false
      → outcome_of said ≡ refused NoNode → IsRunStep (step w item) old said
  unlisted node item tell said is not_so told =
      let none : at_name node w ≡ None = ap (find (has_name node)) st.sites ∙ none_named node old.sites not_so in
      line_refused w item NoNode old said (is ∙ ap (λ o. of_node o tell) none) told st

  pub unserved : (node : Option (List ℕ)) (stream : Option Stream) (count : Option ℕ) (said : LineOutcome) → is_served node old.sites ≡ false → outcome_of said ≡ refused NoNode
      → IsRunStep (step w (Deliver node stream count)) old said
  unserved None stream count said not_so told = cc
  unserved (Some node) stream count said not_so told =
      unlisted node (Deliver (Some node) stream count) (λ x. delivered (length (delivering (Some node) stream count w))) said refl not_so told

  pub settled_step : (new : RunData) (said : LineOutcome) → Does settling old new → outcome_of said ≡ settled old.revision → IsRunStep (step w Settle) new said
  settled_step new said does told = line_done w Settle (settled old.revision) new said (ap settled st.revision) refl told (does w st)

  module _ (node : List ℕ) (listed : is_listed node old.sites ≡ true) where
    -- what is told of the node
    told_there : (tell : SiteData → OutcomeData) → of_node (at_name node w) tell ≡ tell (named node old.sites listed).site
    told_there tell = ap (λ o. of_node o tell) (ap (find (has_name node)) st.sites ∙ (named node old.sites listed).found)

    pub judged_step : (q : Question) (j : Judgement) (said : LineOutcome) → j ≡ side old.cluster node q → outcome_of said ≡ judged old.revision j → IsRunStep (step w (Ask node q)) old said
    judged_step q j said is told =
        let x = named node old.sites listed in
        let same : judged (last_revision w) (side w.cluster x.site.node q) ≡ judged old.revision j =
        (λ i. judged (st.revision i) (side (st.cluster i) (x.named i) q)) ∙ ap (judged old.revision) (sym is) in
        line_done w (Ask node q) (judged old.revision j) old said (told_there (judged_at w q) ∙ same) refl told st

    pub answered_step : (q : Question) (revisions : List Rev) (j : Judgement) (said : LineOutcome) → AnswersOf node q old.sites revisions j → outcome_of said ≡ answered node (three revisions) j
        → IsRunStep (step w (AskHeld node q)) old said
    answered_step q revisions j said a told =
        let x = named node old.sites listed in
        let one : x.site ≡ a.site = some_one x.site a.site (sym x.found ∙ a.stands) in
        let same : answered_at q x.site ≡ answered node (three revisions) j =
        (λ i. answered (x.named i) (one i).revisions (held_side (one i).maps q))
        ∙ (λ i. answered node (sym (three_are revisions a.site.revisions a.numbers) i) (sym a.judged i)) in
        line_done w (AskHeld node q) (answered node (three revisions) j) old said (told_there (answered_at q) ∙ same) refl told st

    delivered_step : (stream : Option Stream) (count : Option ℕ) (new : RunData) (n : ℕ) (said : LineOutcome) → Delivers (Some node) stream count old new n → outcome_of said ≡ delivered n
        → IsRunStep (step w (Deliver (Some node) stream count)) new said
    delivered_step stream count new n said d told =
        line_done w (Deliver (Some node) stream count) (delivered n) new said
        (told_there (λ x. delivered (length (delivering (Some node) stream count w))) ∙ ap delivered (sym (d.number w st))) refl told (d.does w st)

    pub cut_step : (s : Stream) (live : Bool) (new : RunData) (said : LineOutcome) → live ≡ (channel_at (stream_at node s) old.sites).live → Does (λ w. cut (stream_at node s) ∷ []) old new
        → outcome_of said ≡ told_of_cut live → IsRunStep (step w (Cut node s)) new said
    cut_step s live new said was does told =
        let x = named node old.sites listed in
        let same : told_of_cut (channel_on s x.site).live ≡ told_of_cut live = ap told_of_cut (ap (λ (c : ChannelData). c.live) (sym (x.channels s)) ∙ sym was) in
        line_done w (Cut node s) (told_of_cut live) new said (told_there (cut_told s) ∙ same) (fine live) told (does w st)
      where
        fine : (b : Bool) → is_refusal (told_of_cut b) ≡ false
        fine true = refl
        fine false = refl

    abbrev told_again : ChannelData → OutcomeData
    told_again c = if c.live then refused NotCut else (if nat_le w.ring (length c.queue) then refused Full else rejoined (last_revision w))

    told_again_there : (s : Stream) → of_node (at_name node w) (rejoin_told w s) ≡ told_again (channel_at (stream_at node s) old.sites)
    told_again_there s = told_there (rejoin_told w s) ∙ ap told_again (sym ((named node old.sites listed).channels s))

    cut_again : (s : Stream) → (channel_at (stream_at node s) old.sites).live ≡ false
        → told_again (channel_at (stream_at node s) old.sites) ≡ (if nat_le w.ring (length (channel_at (stream_at node s) old.sites).queue) then refused Full else rejoined (last_revision w))
    cut_again s was =
        ap (λ b. if b then refused NotCut else (if nat_le w.ring (length (channel_at (stream_at node s) old.sites).queue) then refused Full else rejoined (last_revision w))) was

    pub rejoined_step : (s : Stream) (result : Result Rev RejoinFault) (new : RunData) (said : LineOutcome) → Rejoins (stream_at node s) result old new → DoesLine (stream_at node s) result old new
        → TellsRejoined result (outcome_of said) → IsRunStep (step w (Rejoin node s)) new said
    rejoined_step s (Ok rev) new said r does told =
        let room : nat_le w.ring (length (channel_at (stream_at node s) old.sites).queue) ≡ false =
        ap (λ n. nat_le n (length (channel_at (stream_at node s) old.sites).queue)) st.ring ∙ lt-leb old.ring (length (channel_at (stream_at node s) old.sites).queue) r.room in
        let is : told_of_item w (Rejoin node s) ≡ rejoined rev.0 =
        told_again_there s ∙ (cut_again s r.was ∙ (ap (λ b. if b then refused Full else rejoined (last_revision w)) room ∙ ap rejoined (st.revision ∙ sym r.revision))) in
        line_done w (Rejoin node s) (rejoined rev.0) new said is refl told (does w st)
    rejoined_step s (Err fault.NotCut) new said r does told =
        let is : told_of_item w (Rejoin node s) ≡ refused NotCut =
        told_again_there s
        ∙ ap (λ b. if b then refused NotCut else (if nat_le w.ring (length (channel_at (stream_at node s) old.sites).queue) then refused Full else rejoined (last_revision w))) r.0 in
        line_refused w (Rejoin node s) NotCut new said is told (subst (λ (z : RunData). Stands z w) (sym r.1) st)
    rejoined_step s (Err fault.Full) new said r does told =
        let full : nat_le w.ring (length (channel_at (stream_at node s) old.sites).queue) ≡ true =
        ap (λ n. nat_le n (length (channel_at (stream_at node s) old.sites).queue)) st.ring ∙ le-leb old.ring (length (channel_at (stream_at node s) old.sites).queue) r.full in
        let is : told_of_item w (Rejoin node s) ≡ refused Full =
        told_again_there s ∙ (cut_again s r.was ∙ ap (λ b. if b then refused Full else rejoined (last_revision w)) full) in
        line_refused w (Rejoin node s) Full new said is told (subst (λ (z : RunData). Stands z w) (sym r.same) st)
    rejoined_step s (Err fault.NoMemory) new said r does told = absurd told

module _ (old : RunData) (w : WorldData) (st : Stands old w) where
  pub delivered_line : (node : Option (List ℕ)) (stream : Option Stream) (count : Option ℕ) (new : RunData) (n : ℕ) (said : LineOutcome) → is_served node old.sites ≡ true → Delivers node stream count old new n
      → outcome_of said ≡ delivered n → IsRunStep (step w (Deliver node stream count)) new said
  delivered_line None stream count new n said served d told = line_done w (Deliver None stream count) (delivered n) new said (ap delivered (sym (d.number w st))) refl told (d.does w st)
  delivered_line (Some node) stream count new n said served d told = delivered_step old w st node served stream count new n said d told

-- a named node is listed
pub named_listed : (node : Option (Bor (List ℕ))) (sites : List SiteData) → is_served (option_copied node) sites ≡ true → IfSome node (λ name. is_listed name.now sites ≡ true)
named_listed None sites served = tt
named_listed (Some node) sites served = served

-- ---- worlds

-- what is done to the run is done to the world
pub in_run : (item : Item) (world : World) (old new : RunData) (said : LineOutcome) → world.early ≡ Fixed old → IsReady world → RunMakes item old new said
    → Makes item world (record world { early = Fixed new }) said
in_run item world old new said is ready makes w st =
    let s = makes w (subst (λ (e : Early). StandsFor world.ring e w) is st) in
    record { ready = record { some = ready.some; most = ready.most; bare = tt }; world_is = s.stands; told = s.told }

-- the nodes aren't fixed
abbrev pub IsBare : Early → Type 0
IsBare (Bare c) = Unit {0}
IsBare (Fixed run) = ⊥

bare_sites : (places : ℕ) (early : Early) (w : WorldData) → IsBare early → StandsFor places early w → w.sites ≡ []
bare_sites places (Bare c) w bare st = st.sites
bare_sites places (Fixed run) w bare st = absurd bare

bare_history : (places : ℕ) (early : Early) (w : WorldData) → IsBare early → StandsFor places early w → w.history ≡ []
bare_history places (Bare c) w bare st = st.history
bare_history places (Fixed run) w bare st = absurd bare

module _ (world : World) (bare : IsBare world.early) (ready : IsReady world) where
  -- no node is listed
  pub bare_unlisted : (item : Item) (node : List ℕ) (tell : WorldData → SiteData → OutcomeData) (said : LineOutcome) → ((w : WorldData) → told_of_item w item ≡ of_node (at_name node w) (tell w))
      → outcome_of said ≡ refused NoNode → Makes item world world said
  bare_unlisted item node tell said is told w st =
      let none : at_name node w ≡ None = ap (find (has_name node)) (bare_sites world.ring world.early w bare st) in
      subst (λ (z : Step). IsStep z world said) (sym (step_is w item (refused NoNode) (is w ∙ ap (λ o. of_node o (tell w)) none)))
      (record { ready = ready; world_is = st; told = told })

  -- nothing happens
  bare_step : (w : WorldData) (item : Item) (o : OutcomeData) (said : LineOutcome) → IsWorld world w → told_of_item w item ≡ o → is_refusal o ≡ false → outcome_of said ≡ o
      → after_line (line_of item) w ≡ w → IsStep (step w item) world said
  bare_step w item o said st is fine told same =
      subst (λ (z : Step). IsStep z world said) (sym (step_is w item o is))
      (record {
        ready = ready;
        world_is = subst (λ b. IsWorld world (if b then w else after_line (line_of item) w)) (sym fine) (subst (IsWorld world) (sym same) st);
        told = told;
      })

  bare_delivered : (stream : Option Stream) (count : Option ℕ) (said : LineOutcome) → outcome_of said ≡ delivered 0 → Makes (Deliver None stream count) world world said
  bare_delivered stream count said told w st =
      let none : delivering None stream count w ≡ [] =
      ap (λ sites. flat_map (delivering_site stream count) (filter (λ (x : SiteData). is_meant_node None x.node) sites)) (bare_sites world.ring world.early w bare st) in
      bare_step w (Deliver None stream count) (delivered 0) said st (ap (λ (events : List Event). delivered (length events)) none) refl told (ap (λ events. all_happen events w) none)

  pub bare_settled : (said : LineOutcome) → outcome_of said ≡ settled 0 → Makes Settle world world said
  bare_settled said told w st =
      let none : settling w ≡ [] = ap (flat_map settling_site) (bare_sites world.ring world.early w bare st) in
      bare_step w Settle (settled 0) said st (ap (λ (h : List ClusterData). settled (length h - 1)) (bare_history world.ring world.early w bare st)) refl told (ap (λ events. all_happen events w) none)

  -- a delivery to one node, and to all
  pub bare_named : (node : Option (Bor (List ℕ))) (stream : Option Stream) (count : Option ℕ) (said : LineOutcome) → is_some node ≡ true → outcome_of said ≡ refused NoNode
      → Makes (Deliver (option_copied node) stream count) world world said
  bare_named None stream count said some told = cc
  bare_named (Some name) stream count said some told =
      bare_unlisted (Deliver (Some name.now) stream count) name.now (λ w x. delivered (length (delivering (Some name.now) stream count w))) said (λ w. refl) told

  pub bare_all : (node : Option (Bor (List ℕ))) (stream : Option Stream) (count : Option ℕ) (said : LineOutcome) → is_some node ≡ false → outcome_of said ≡ delivered 0
      → Makes (Deliver (option_copied node) stream count) world world said
  bare_all None stream count said none told = bare_delivered stream count said told
  bare_all (Some name) stream count said none told = cc
