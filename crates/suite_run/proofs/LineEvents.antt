-- A line of changes that a controller took is the machine's event.
use Rattle.std.proofs.Common.{◌≡◌, ◌≢◌, ℕ, ◌+◌, ◌-◌, List, [], ◌∷◌, ◌++◌, length, map, Bool, true, false, not, ◌&&◌, Result, Ok, Err, get_or, if◌then◌else◌, refl, sym, ap, subst, ◌∙◌, arith, true≢false}
use Rattle.std.proofs.Math.Seq.{get_or-append_seam}
use Rattle.std.proofs.lemmas.List.{length-append}
use Rattle.std.specs.List.{AllByRecursion}
use Rattle.cl_types.specs.Ascending.{Ascends}
use Rattle.cl_types.specs.Text.{text_order}
use Rattle.cl_types.specs.declared.stream.Rev.{Rev}
use Rattle.cluster_types.specs.declared.change.Change.{Change}
use Rattle.cluster_types.specs.Cluster.{ClusterData, no_objects}
use Rattle.cluster_objects.specs.declared.change.ClusterRefusal.{ClusterRefusal}
use Rattle.cluster_objects.specs.declared.change.ClusterRefusal.TheVariants as cluster
use Rattle.cluster_objects.specs.Changes.{Outcomes, after}
use Rattle.ctl_core.specs.declared.outcome.Outcome as outcome
use Rattle.ctl_core.specs.declared.outcome.Outcome.TheVariants.{Revision, Unchanged}
use Rattle.ctl_core.specs.declared.outcome.StreamOf as told
use Rattle.ctl_core.specs.Controller.{ControllerData, IsController}
use Rattle.ctl_core.specs.Line.{MakesRevision, RefusesLine, TakesLine, Came, came, came_to}
use Rattle.held_maps.specs.Held.{HeldData}
use Rattle.run_machine.specs.Lines.{full_streams}
use Rattle.run_machine.specs.Machine.{StreamOf, WorldData, accepted, begun, fixed_after, offered_all, revised}
use Rattle.watch_streams.specs.OneOfAll.{and_false}
use Rattle.watch_streams.specs.Ports.{HasSameRing, QueueData, queue_state}
use Rattle.suite_run.specs.Changing.{IsHeard, TakesLine as RunTakesLine, changing, stream_told}
use Rattle.suite_run.specs.RunState.{Does, HasRings, IsRun, RunData, Stands, run_of}
use Rattle.suite_run.proofs.FullStreams.{full_alone, node_of}
use Rattle.suite_run.proofs.ToldSites.{ComesBack, cuts_listed, sites_ascend, told_length, told_rings, told_sites}

-- ---- worlds whose nodes are fixed

pub fixed_late : (d : ClusterData) (w : WorldData) → w.cluster.fixed ≡ true → fixed_after d w ≡ w
fixed_late d w is = ap (λ b. if d.fixed && not b then begun d w else w) is ∙ ap (λ b. if b then begun d w else w) (and_false d.fixed)

-- a run stands for a world with a history
has_history : (history : List ClusterData) → (get_or history (length history - 1) no_objects).fixed ≡ true → length history - 1 + 1 ≡ length history
has_history [] fixed = absurd (true≢false (sym fixed))
has_history (c ∷ history) fixed = omega arith

last_of_more : (history : List ClusterData) (c : ClusterData) → get_or (history ++ c ∷ []) (length (history ++ c ∷ []) - 1) no_objects ≡ c
last_of_more history c =
    let at : length (history ++ c ∷ []) - 1 ≡ length history = omega (arith, length-append history (c ∷ [])) in
    ap (λ i. get_or (history ++ c ∷ []) i no_objects) at ∙ get_or-append_seam history c [] no_objects

-- ---- what is accepted

abbrev came_of : ClusterData → Bool → Result Came ClusterRefusal
came_of c differs = Ok (came_to c differs)

came_is : {c d : ClusterData} {a b : Bool} → came_of c a ≡ came_of d b → came_to c a ≡ came_to d b
came_is e = cc

accepted_changed : (r : Result Outcomes ClusterRefusal) (d : ClusterData) (backs : List StreamOf) (w : WorldData) → came r ≡ Ok (came_to d true) → w.cluster.fixed ≡ true
    → accepted r backs w ≡ revised backs d w
accepted_changed (Ok o) d backs w e is =
    let other : o.other_changed ≡ true = ap (λ (x : Came). x.differs) (came_is e) in
    let here : o.cluster ≡ d = ap (λ (x : Came). x.cluster) (came_is e) in
    ap (λ b. if b then revised backs o.cluster (fixed_after o.cluster w) else record (fixed_after o.cluster w) { cluster = o.cluster }) other
    ∙ (ap (λ z. revised backs z (fixed_after z w)) here ∙ ap (revised backs d) (fixed_late d w is))
accepted_changed (Err refusal) d backs w e is = cc

accepted_same : (r : Result Outcomes ClusterRefusal) (backs : List StreamOf) (w : WorldData) → came r ≡ Ok (came_to w.cluster false) → w.cluster.fixed ≡ true
    → accepted r backs w ≡ w
accepted_same (Ok o) backs w e is =
    let other : o.other_changed ≡ false = ap (λ (x : Came). x.differs) (came_is e) in
    let here : o.cluster ≡ w.cluster = ap (λ (x : Came). x.cluster) (came_is e) in
    ap (λ b. if b then revised backs o.cluster (fixed_after o.cluster w) else record (fixed_after o.cluster w) { cluster = o.cluster }) other
    ∙ (ap (λ z. record (fixed_after z w) { cluster = z }) here ∙ ap (λ (v : WorldData). record v { cluster = w.cluster }) (fixed_late w.cluster w is))
accepted_same (Err refusal) backs w e is = cc

-- ---- lines

module _ (changes : List Change) (old new : ControllerData QueueData) (held : List HeldData) (ring : ℕ) where
  abbrev Old : RunData
  Old = run_of old held ring

  abbrev New : RunData
  New = run_of new held ring

  does_revision : (rev : Rev) (cut : List told.StreamOf) → IsController old → IsController new → IsRun old held ring → MakesRevision queue_state HasSameRing changes rev cut old new
      → Does (changing changes) Old New
  does_revision rev cut was is run makes w stands = subst (Stands New) (sym happened) after_it
    where
      fixed : w.cluster.fixed ≡ true
      fixed = ap (λ (c : ClusterData). c.fixed) stands.cluster ∙ stands.fixed

      happened : accepted (after w.cluster changes) (full_streams w) w ≡ revised (full_streams w) new.cluster w
      happened =
          ap (λ c. accepted (after c changes) (full_streams w) w) stands.cluster
          ∙ accepted_changed (after old.cluster changes) new.cluster (full_streams w) w makes.made fixed

      up : Ascends node_of text_order w.sites
      up = subst (Ascends node_of text_order) (sym stands.sites) (sites_ascend old.nodes held was.ascend)

      count : length w.history - 1 + 1 ≡ length w.history
      count = has_history w.history (ap (λ (c : ClusterData). c.fixed) stands.last ∙ stands.fixed)

      number : length (w.history ++ new.cluster ∷ []) - 1 ≡ length w.history - 1 + 1
      number = omega (arith, length-append w.history (new.cluster ∷ []), count)

      after_it : Stands New (revised (full_streams w) new.cluster w)
      after_it = record {
        cluster = refl;
        ring = stands.ring;
        sites =
            ap (map (offered_all w new.cluster (full_streams w))) stands.sites
            ∙ told_sites w old.cluster new.cluster rev (full_streams w) (stands.last) (ap (λ n. n + 1) stands.revision ∙ sym makes.revised.next) old.nodes new.nodes held
            (subst (λ r. AllByRecursion (HasRings r) old.nodes) (sym stands.ring) run.rings)
            (λ s. subst (λ xs. AllByRecursion (ComesBack w (full_streams w) s) xs) stands.sites (full_alone w s up)) makes.revised.told;
        revision = number ∙ (ap (λ n. n + 1) stands.revision ∙ (sym makes.revised.next ∙ ap (λ (r : Rev). r.0) (sym makes.revised.revision)));
        fixed = is.fixed;
        last = last_of_more w.history new.cluster;
      }

  does_nothing : (was : came (after old.cluster changes) ≡ Ok (came_to old.cluster false)) → new ≡ old → Does (changing changes) Old New
  does_nothing made same w stands = subst (Stands New) (sym happened) (subst (λ (c : ControllerData QueueData). Stands (run_of c held ring) w) (sym same) stands)
    where
      happened : accepted (after w.cluster changes) (full_streams w) w ≡ w
      happened =
          accepted_same (after w.cluster changes) (full_streams w) w
          (subst (λ c. came (after c changes) ≡ Ok (came_to c false)) (sym stands.cluster) made)
          (ap (λ (c : ClusterData). c.fixed) stands.cluster ∙ stands.fixed)

  refuses : (refusal : ClusterRefusal) → after old.cluster changes ≡ Err refusal → new ≡ old → Does (changing changes) Old New
  refuses refusal refused same w stands =
      subst (Stands New) (sym (ap (λ r. accepted r (full_streams w) w) (ap (λ c. after c changes) stands.cluster ∙ refused)))
      (subst (λ (c : ControllerData QueueData). Stands (run_of c held ring) w) (sym same) stands)

  refused_line : (refusal : ClusterRefusal) → (Err refusal ≢ (let given : Result outcome.Outcome ClusterRefusal = Err cluster.NoMemory in given)) → TakesLine queue_state HasSameRing changes (Err refusal) old new → RefusesLine changes refusal old new
  refused_line cluster.NoMemory sufficed t = absurd (sufficed refl)
  refused_line cluster.NodesFixed sufficed t = t
  refused_line (cluster.CidrOverlap x) sufficed t = t
  refused_line cluster.TierFixed sufficed t = t
  refused_line (cluster.TierTaken x) sufficed t = t
  refused_line (cluster.TierInUse x) sufficed t = t
  refused_line (cluster.NoSuchTier x) sufficed t = t
  refused_line (cluster.AddressInUse x) sufficed t = t
  refused_line (cluster.TooMany x) sufficed t = t
  refused_line (cluster.TooManyMarks x) sufficed t = t

  module _ (was : IsController old) (is : IsController new) (run : IsRun old held ring) where
    keeps_answered : (answer : Result outcome.Outcome ClusterRefusal) → answer ≢ Err cluster.NoMemory → TakesLine queue_state HasSameRing changes answer old new → IsRun new held ring
    keeps_answered (Ok (Revision rev cut)) sufficed t = record {
      unspent = t.revised.spent;
      agents = run.agents ∙ sym (told_length old.cluster new.cluster rev old.nodes new.nodes t.revised.told);
      rings = told_rings old.cluster new.cluster rev ring old.nodes new.nodes run.rings t.revised.told;
    }
    keeps_answered (Ok Unchanged) sufficed t = subst (λ (c : ControllerData QueueData). IsRun c held ring) (sym t.same) run
    keeps_answered (Err refusal) sufficed t = subst (λ (c : ControllerData QueueData). IsRun c held ring) (sym (refused_line refusal sufficed t).same) run

    takes_answered : (answer : Result outcome.Outcome ClusterRefusal) → answer ≢ Err cluster.NoMemory → TakesLine queue_state HasSameRing changes answer old new → RunTakesLine changes answer Old New
    takes_answered (Ok (Revision rev cut)) sufficed t = record {
      answered = record {
        made = t.made;
        next = t.revised.next;
        revision = ap (λ (r : Rev). r.0) t.revised.revision;
        listed = ap (map stream_told) t.revised.listed ∙ cuts_listed old.nodes new.nodes held run.agents;
      };
      does = does_revision rev cut was is run t;
    }
    takes_answered (Ok Unchanged) sufficed t = record {
      answered = record { made = t.made; same = ap (λ (c : ControllerData QueueData). run_of c held ring) t.same };
      does = does_nothing t.made t.same;
    }
    takes_answered (Err refusal) sufficed t =
        let r = refused_line refusal sufficed t in
        record {
          answered = record { refused = r.refused; same = ap (λ (c : ControllerData QueueData). run_of c held ring) r.same };
          does = refuses refusal r.refused r.same;
        }

    -- the controller that took the line is a run's
    pub keeps_run : (answer heard : Result outcome.Outcome ClusterRefusal) → IsHeard answer heard → TakesLine queue_state HasSameRing changes answer old new → IsRun new held ring
    keeps_run answer heard h t = keeps_answered answer h.sufficed t

    -- what it answered is what the run answers
    pub takes_line : (answer heard : Result outcome.Outcome ClusterRefusal) (seen : RunData) → Old ≡ seen → IsHeard answer heard → TakesLine queue_state HasSameRing changes answer old new
        → RunTakesLine changes heard seen New
    takes_line answer heard seen view h t =
        subst (λ r. RunTakesLine changes heard r New) view (subst (λ a. RunTakesLine changes a Old New) (sym h.same) (takes_answered answer h.sufficed t))
