-- What a line of changes makes of the world, as a step of the machine.
use Rattle.std.proofs.Common.{◌≡◌, ℕ, ◌≤◌, Bool, true, false, Result, Ok, Err, List, [], ◌∷◌, length, map, if◌then◌else◌, refl, sym, ap, subst, ◌∙◌}
use Rattle.cl_types.specs.declared.stream.Rev.{Rev}
use Rattle.command_words.specs.Words.{IsRing}
use Rattle.cluster_types.specs.declared.change.Change.{Change}
use Rattle.cluster_types.specs.Cluster.{ClusterData, IsCluster}
use Rattle.cluster_objects.specs.declared.change.ClusterRefusal.{ClusterRefusal}
use Rattle.cluster_objects.specs.declared.change.ClusterRefusal.TheVariants as cluster
use Rattle.cluster_objects.specs.Changes.{Outcomes, after}
use Rattle.ctl_core.specs.declared.outcome.Outcome.{Outcome}
use Rattle.ctl_core.specs.declared.outcome.Outcome.TheVariants.{Revision, Unchanged}
use Rattle.ctl_core.specs.declared.outcome.StreamOf as told
use Rattle.ctl_core.specs.Line.{Came, came, came_to}
use Rattle.line_refusals.specs.declared.refusal.Refusal.TheVariants.{Applying}
use Rattle.run_machine.specs.Lines.{after_line, objects}
use Rattle.run_machine.specs.Machine.{SiteData, StreamOf, WorldData, all_happen, last_revision}
use Rattle.suite_run.specs.declared.fixing.Early.{Early}
use Rattle.suite_run.specs.declared.fixing.Early.TheVariants.{Bare, Fixed}
use Rattle.suite_run.specs.declared.fixing.First.{First}
use Rattle.suite_run.specs.declared.item.Item.TheVariants.{Objects}
use Rattle.suite_run.specs.declared.world.LineOutcome.{LineOutcome}
use Rattle.suite_run.specs.declared.world.World.{World}
use Rattle.suite_run.specs.Changing.{MakesNoRevision, MakesRevision, RefusesLine, TakesLine, changing, cuts_between, stream_told}
use Rattle.suite_run.specs.Fixing.{AnswersFirst, RefusesFirst, StandsFor, TakesFirst, cluster_of, outcomes_of, revision_of}
use Rattle.suite_run.specs.RunState.{RunData, Stands, StandsEarly}
use Rattle.suite_run.specs.Shown.{IsAnswerTold, IsEarly, IsReady, IsStep, IsTold, IsWorld, counted, first_told, outcome_of}
use Rattle.suite_run.specs.World.{OutcomeData, Step, is_refusal, no_change, node_count, refused, revision, step, told_of, told_of_changes, told_refusal}
use Rattle.suite_run.proofs.FrontChanges.{late_after, ordered}

-- ---- steps

-- the world with what it is made of
abbrev pub world_with : ℕ → Early → World
world_with ring early = record { ring = ring; early = early }

pub IsStep-of : (s t : Step) (world : World) (told : LineOutcome) → s ≡ t → IsReady world → IsWorld world t.world → outcome_of told ≡ t.outcome → IsStep s world told
IsStep-of s t world told e ready is said = subst (λ (x : Step). IsStep x world told) (sym e) (record { ready = ready; world_is = is; told = said })

-- the same of an equal world, and of an outcome that says the same
pub IsStep-as : (s : Step) (world world' : World) (told told' : LineOutcome) → world' ≡ world → outcome_of told' ≡ outcome_of told → IsStep s world told → IsStep s world' told'
IsStep-as s world world' told told' e f st = subst (λ (x : World). IsStep s x told') (sym e) (record { ready = st.ready; world_is = st.world_is; told = f ∙ st.told })

-- no changes that are made are told as a refusal
told_of-made : (o : Outcomes) (w new : WorldData) → is_refusal (told_of o w new) ≡ false
told_of-made o w new = by_both o.other_changed o.node_changed
  where
    by_both : (other node : Bool) → is_refusal (if other then revision (last_revision new) (cuts_between w.sites new.sites) else (if node then node_count (length o.cluster.nodes) else no_change)) ≡ false
    by_both true node = refl
    by_both false true = refl
    by_both false false = refl

abbrev step_by : WorldData → List Change → Bool → OutcomeData → Step
step_by w changes is_refused outcome = record { world = if is_refused then w else after_line (objects changes) w; outcome = outcome }

abbrev pub made_by : WorldData → List Change → Outcomes → Step
made_by w changes o = record { world = after_line (objects changes) w; outcome = told_of o w (after_line (objects changes) w) }

pub step-made : (w : WorldData) (changes : List Change) (o : Outcomes) → after w.cluster changes ≡ Ok o → step w (Objects changes) ≡ made_by w changes o
unfolding step
step-made w changes o e =
    let here : told_of_changes w changes (after w.cluster changes) ≡ told_of o w (after_line (objects changes) w) = ap (told_of_changes w changes) e in
    ap (λ b. step_by w changes b (told_of_changes w changes (after w.cluster changes))) (ap is_refusal here ∙ told_of-made o w (after_line (objects changes) w))
    ∙ ap (step_by w changes false) here

-- ---- refusals

pub told_is : (refusal : ClusterRefusal) (told : LineOutcome) → IsTold refusal told → (outcome_of told ≡ told_refusal refusal) × (is_refusal (told_refusal refusal) ≡ true)
told_is cluster.NoMemory told t = absurd t
told_is cluster.NodesFixed told t = (t, refl)
told_is (cluster.CidrOverlap x) told t = (t, refl)
told_is cluster.TierFixed told t = (t, refl)
told_is (cluster.TierTaken x) told t = (t, refl)
told_is (cluster.TierInUse x) told t = (t, refl)
told_is (cluster.NoSuchTier x) told t = (t, refl)
told_is (cluster.AddressInUse x) told t = (t, refl)
told_is (cluster.TooMany x) told t = (t, refl)
told_is (cluster.TooManyMarks x) told t = (t, refl)

first_refused : (changes : List Change) (c : ClusterData) (places : ℕ) (refusal : ClusterRefusal) (told : LineOutcome) → AnswersFirst changes c places (Err refusal) → IsTold refusal told
    → RefusesFirst changes c places refusal
first_refused changes c places cluster.NoMemory told a t = absurd t
first_refused changes c places cluster.NodesFixed told a t = a
first_refused changes c places (cluster.CidrOverlap x) told a t = a
first_refused changes c places cluster.TierFixed told a t = a
first_refused changes c places (cluster.TierTaken x) told a t = a
first_refused changes c places (cluster.TierInUse x) told a t = a
first_refused changes c places (cluster.NoSuchTier x) told a t = a
first_refused changes c places (cluster.AddressInUse x) told a t = a
first_refused changes c places (cluster.TooMany x) told a t = a
first_refused changes c places (cluster.TooManyMarks x) told a t = a

abbrev refused_by : WorldData → ClusterRefusal → Step
refused_by w refusal = record { world = w; outcome = told_refusal refusal }

step-refused : (w : WorldData) (changes : List Change) (refusal : ClusterRefusal) → after w.cluster changes ≡ Err refusal → is_refusal (told_refusal refusal) ≡ true → step w (Objects changes) ≡ refused_by w refusal
unfolding step
step-refused w changes refusal e is =
    let here : told_of_changes w changes (after w.cluster changes) ≡ told_refusal refusal = ap (told_of_changes w changes) e in
    ap (λ b. step_by w changes b (told_of_changes w changes (after w.cluster changes))) (ap is_refusal here ∙ is) ∙ ap (step_by w changes true) here

-- a refused line leaves the world
pub refused-step : (w : WorldData) (changes : List Change) (refusal : ClusterRefusal) (world : World) (told : LineOutcome) → after w.cluster changes ≡ Err refusal → IsTold refusal told → IsReady world → IsWorld world w
    → IsStep (step w (Objects changes)) world told
refused-step w changes refusal world told e t ready is =
    let parts = told_is refusal told t in
    IsStep-of (step w (Objects changes)) (refused_by w refusal) world told (step-refused w changes refusal e parts.1) ready is parts.0

-- ---- while the nodes aren't fixed

early_of : (ring : ℕ) (early : Early) (w : WorldData) → StandsFor ring early w → IsEarly early
early_of ring (Bare c) w st = st.early
early_of ring (Fixed run) w st = tt

pub ready_of : (ring : ℕ) (early : Early) (w : WorldData) → IsRing ring → StandsFor ring early w → IsReady (world_with ring early)
ready_of ring early w is st = record { some = is.0; most = is.1; bare = early_of ring early w st }

-- the last revision is the world's own
pub number_of : (ring : ℕ) (early : Early) (w : WorldData) → StandsFor ring early w → last_revision w ≡ revision_of early
number_of ring (Bare c) w st = ap (λ (history : List ClusterData). last_revision (record w { history = history })) st.history
number_of ring (Fixed run) w st = st.revision

first_revision : (w new : WorldData) (counts : OutcomeData) (other : Bool) → (other ≡ true → last_revision new ≡ 1) → w.sites ≡ []
    → (if other then revision 1 [] else counts) ≡ (if other then revision (last_revision new) (cuts_between w.sites new.sites) else counts)
first_revision w new counts true one none =
    ap (λ n. revision n []) (sym (one refl)) ∙ ap (λ (sites : List SiteData). revision (last_revision new) (cuts_between sites new.sites)) (sym none)
first_revision w new counts false one none = refl

first_told-made : (ring : ℕ) (first : First) (w new : WorldData) → w.sites ≡ [] → StandsFor ring first.early new → revision_of first.early ≡ (if first.other then 1 else 0)
    → first_told first ≡ told_of (outcomes_of first) w new
first_told-made ring first w new none st number =
    first_revision w new (counted (cluster_of first.early) first.node) first.other
    (λ e. number_of ring first.early new st ∙ (number ∙ ap (λ z. if z then 1 else 0) e)) none

pub bare-made : (changes : List Change) (c : ClusterData) (ring : ℕ) (first : First) (told : LineOutcome) (w : WorldData) → IsRing ring → TakesFirst changes c ring first → outcome_of told ≡ first_told first → StandsEarly c ring w
    → IsStep (step w (Objects changes)) (world_with ring first.early) told
bare-made changes c ring first told w is takes said st =
    let leads : StandsFor ring first.early (all_happen (changing changes w) w) = takes.leads w st in
    IsStep-of (step w (Objects changes)) (made_by w changes (outcomes_of first)) (world_with ring first.early) told
    (step-made w changes (outcomes_of first) (ap (λ d. after d changes) st.cluster ∙ takes.made))
    (ready_of ring first.early (all_happen (changing changes w) w) is leads) leads
    (said ∙ first_told-made ring first w (all_happen (changing changes w) w) st.sites leads takes.revision)

pub bare-refused : (changes : List Change) (c : ClusterData) (ring : ℕ) (refusal : ClusterRefusal) (world : World) (told : LineOutcome) (w : WorldData) → AnswersFirst changes c ring (Err refusal) → IsTold refusal told
    → StandsEarly c ring w → IsReady world → IsWorld world w → IsStep (step w (Objects changes)) world told
bare-refused changes c ring refusal world told w answers t st ready is =
    let r = first_refused changes c ring refusal told answers t in
    refused-step w changes refusal world told (ap (λ d. after d changes) st.cluster ∙ r.refused) t ready is

-- ---- once the nodes are fixed

-- what changes came to
record CameFrom (r : Result Outcomes ClusterRefusal) (c : ClusterData) (differs : Bool) : Type 0 where
  o : Outcomes
  is : r ≡ Ok o
  cluster : o.cluster ≡ c
  other : o.other_changed ≡ differs

ok_came : {x y : Came} → (let r : Result Came ClusterRefusal = Ok x in r) ≡ Ok y → x ≡ y
ok_came e = cc

came_from : (r : Result Outcomes ClusterRefusal) (c : ClusterData) (differs : Bool) → came r ≡ Ok (came_to c differs) → CameFrom r c differs
came_from (Ok o) c differs e = record { o = o; is = refl; cluster = ap (λ (x : Came). x.cluster) (ok_came e); other = ap (λ (x : Came). x.differs) (ok_came e) }
came_from (Err refusal) c differs e = cc

told_of-revision : (o : Outcomes) (w new : WorldData) → o.other_changed ≡ true → told_of o w new ≡ revision (last_revision new) (cuts_between w.sites new.sites)
told_of-revision o w new e = ap (λ z. if z then revision (last_revision new) (cuts_between w.sites new.sites) else (if o.node_changed then node_count (length o.cluster.nodes) else no_change)) e

told_of-none : (o : Outcomes) (w new : WorldData) → o.other_changed ≡ false → o.node_changed ≡ false → told_of o w new ≡ no_change
told_of-none o w new e f =
    ap (λ z. if z then revision (last_revision new) (cuts_between w.sites new.sites) else (if o.node_changed then node_count (length o.cluster.nodes) else no_change)) e
    ∙ ap (λ z. if z then node_count (length o.cluster.nodes) else no_change) f

run-revised : (changes : List Change) (rev : Rev) (cut : List told.StreamOf) (old new : RunData) (ring : ℕ) (told : LineOutcome) (w : WorldData) → IsRing ring → MakesRevision changes rev cut old new
    → outcome_of told ≡ revision rev.0 (map stream_told cut) → Stands old w → Stands new (all_happen (changing changes w) w) → IsStep (step w (Objects changes)) (world_with ring (Fixed new)) told
run-revised changes rev cut old new ring told w is makes said st after_st =
    let new_w = all_happen (changing changes w) w in
    let f = came_from (after old.cluster changes) new.cluster true makes.made in
    let here : revision rev.0 (map stream_told cut) ≡ revision (last_revision new_w) (cuts_between w.sites new_w.sites) =
    ap (λ n. revision n (map stream_told cut)) (sym makes.revision ∙ sym after_st.revision)
    ∙ ap (revision (last_revision new_w)) (makes.listed ∙ (ap (λ sites. cuts_between sites new.sites) (sym st.sites) ∙ ap (cuts_between w.sites) (sym after_st.sites))) in
    IsStep-of (step w (Objects changes)) (made_by w changes f.o) (world_with ring (Fixed new)) told
    (step-made w changes f.o (ap (λ d. after d changes) st.cluster ∙ f.is))
    (ready_of ring (Fixed new) new_w is after_st) after_st
    (said ∙ (here ∙ sym (told_of-revision f.o w new_w f.other)))

run-unchanged : (changes : List Change) (old new : RunData) (ring : ℕ) (told : LineOutcome) (w : WorldData) → IsCluster old.cluster → IsRing ring → MakesNoRevision changes old new
    → outcome_of told ≡ no_change → Stands old w → Stands new (all_happen (changing changes w) w) → IsStep (step w (Objects changes)) (world_with ring (Fixed new)) told
run-unchanged changes old new ring told w whole is makes said st after_st =
    let new_w = all_happen (changing changes w) w in
    let f = came_from (after old.cluster changes) old.cluster false makes.made in
    let late = late_after old.cluster (ordered old.cluster whole) st.fixed changes f.o f.is in
    IsStep-of (step w (Objects changes)) (made_by w changes f.o) (world_with ring (Fixed new)) told
    (step-made w changes f.o (ap (λ d. after d changes) st.cluster ∙ f.is))
    (ready_of ring (Fixed new) new_w is after_st) after_st
    (said ∙ sym (told_of-none f.o w new_w f.other late.node))

pub run-step : (changes : List Change) (answer : Result Outcome ClusterRefusal) (old new : RunData) (ring : ℕ) (told : LineOutcome) (w : WorldData) → IsCluster old.cluster → IsRing ring → TakesLine changes answer old new
    → IsAnswerTold answer told → Stands old w → IsStep (step w (Objects changes)) (world_with ring (Fixed new)) told
run-step changes (Ok (Revision rev cut)) old new ring told w whole is takes said st = run-revised changes rev cut old new ring told w is takes.answered said st (takes.does w st)
run-step changes (Ok Unchanged) old new ring told w whole is takes said st = run-unchanged changes old new ring told w whole is takes.answered said st (takes.does w st)
run-step changes (Err refusal) old new ring told w whole is takes said st =
    let here : Stands new w = subst (λ (r : RunData). Stands r w) (sym takes.answered.same) st in
    refused-step w changes refusal (world_with ring (Fixed new)) told (ap (λ d. after d changes) st.cluster ∙ takes.answered.refused) said (ready_of ring (Fixed new) w is here) here
