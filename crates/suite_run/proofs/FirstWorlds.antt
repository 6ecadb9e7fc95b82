-- A line that comes while the nodes aren't fixed is the machine's event.
use Rattle.std.proofs.Common.{◌≡◌, ℕ, suc, ◌≤◌, Bool, true, false, not, ◌&&◌, nat_le, Result, Ok, Err, List, [], ◌∷◌, ◌++◌, length, map, filter, take, drop, if◌then◌else◌, refl, sym, ap, subst, ◌∙◌, arith, true≢false}
use Rattle.std.proofs.lemmas.List.{take-append-drop}
use Rattle.std.specs.Bool.{◌==◌}
use Rattle.std.specs.Result.{IsErrAnd}
use Rattle.cl_types.specs.Text.{text_eq}
use Rattle.cl_types.specs.declared.stream.Stream.{Stream}
use Rattle.cl_types.specs.declared.stream.Stream.TheVariants.{Policies, Addresses, Applied}
use Rattle.cluster_types.specs.declared.change.Change.{Change}
use Rattle.cluster_types.specs.Cluster.{ClusterData, ClusterState, HasNodesAlone, IsCluster, no_objects}
use Rattle.cluster_types.specs.Node.{NodeData}
use Rattle.cluster_objects.specs.declared.change.ClusterRefusal.{ClusterRefusal}
use Rattle.cluster_objects.specs.declared.change.ClusterRefusal.TheVariants as cluster
use Rattle.cluster_objects.specs.Apply.{fixed_nodes}
use Rattle.cluster_objects.specs.Changes.{Outcomes, after}
use Rattle.ctl_core.specs.Line.{Came, came, came_to}
use Rattle.run_machine.specs.Lines.{every_stream, full_at, full_streams}
use Rattle.run_machine.specs.Settling.{stream_of}
use Rattle.run_machine.specs.Machine.{SiteData, StreamOf, WorldData, accepted, all_happen, begun, channel_on, first_site, fixed_after, is_full, revised}
use Rattle.watch_streams.specs.OneOfAll.{and_false, flat_map-none, list_any-each, list_any-map, list_any-none, or_false}
use Rattle.suite_run.specs.Changing.{changing}
use Rattle.suite_run.specs.Fixing.{AnswersFirst, Begins, BeginsRun, LeadsTo, RefusesFirst, TakesFirst, nodes_in_front}
use Rattle.suite_run.specs.RunState.{Does, RunData, Stands, StandsEarly, begun_run}
use Rattle.suite_run.specs.Shown.{ComesTo}
use Rattle.suite_run.specs.declared.fixing.First.{First}
use Rattle.suite_run.specs.declared.fixing.Early.TheVariants.{Bare, Fixed}
use Rattle.suite_run.specs.declared.world.Differences.{Differences}
use Rattle.suite_run.proofs.FrontChanges.{AllNodes, BeginsOther, LeavesFixed, after_append, fixes_all, front_after, front_nodes, late_after, ordered, rest_other, then_after}
use Rattle.suite_run.proofs.ChangeFacts.{IsOrdered}
use Rattle.suite_run.proofs.Gathered.{gathered}
use Rattle.suite_run.proofs.LineEvents.{fixed_late}

-- ---- worlds in which nothing was sent

-- no stream is full before there are any
abbrev pub early_world : ClusterData → ℕ → WorldData
early_world c places = record { cluster = c; history = []; ring = places; sites = [] }

world_is : (c : ClusterData) (places : ℕ) (w : WorldData) → StandsEarly c places w → w ≡ early_world c places
world_is c places w s i = record { cluster = s.cluster i; history = s.history i; ring = s.ring i; sites = s.sites i }

pub leads_from : (P : WorldData → Type 0) (changes : List Change) (c : ClusterData) (places : ℕ) (r : Result Outcomes ClusterRefusal) → after c changes ≡ r
    → P (accepted r [] (early_world c places)) → LeadsTo P changes c places
leads_from P changes c places r is here w s =
    subst (λ (v : WorldData). P (all_happen (changing changes v) v)) (sym (world_is c places w s)) (subst (λ (z : Result Outcomes ClusterRefusal). P (accepted z [] (early_world c places))) (sym is) here)

-- the nodes alone were told
abbrev pub begun_world : List NodeData → ClusterData → ℕ → WorldData
begun_world nodes c places = record { cluster = c; history = record no_objects { nodes = nodes; fixed = true } ∷ []; ring = places; sites = map first_site nodes }

no_place_used : (places : ℕ) → 1 ≤ places → nat_le places 0 ≡ false
no_place_used places some = by_test (nat_le places 0) refl
  where
    by_test : (b : Bool) → nat_le places 0 ≡ b → b ≡ false
    by_test true e = absurd (grind arith)
    by_test false e = refl

module _ (nodes : List NodeData) (c : ClusterData) (places : ℕ) (some : 1 ≤ places) where
  none_full : (s : Stream) (node : List ℕ) → is_full (begun_world nodes c places) s node ≡ false
  none_full s node =
      list_any-map (λ (x : SiteData). text_eq x.node node && nat_le places (length (channel_on s x).queue)) first_site nodes
      ∙ (list_any-each (λ (n : NodeData). text_eq (first_site n).node node && nat_le places (length (channel_on s (first_site n)).queue)) (λ n. false) (none s) nodes
      ∙ list_any-none nodes)
    where
      none : (s : Stream) (n : NodeData) → (text_eq (first_site n).node node && nat_le places (length (channel_on s (first_site n)).queue)) ≡ false
      none Policies n = ap (λ b. text_eq n.name node && b) (no_place_used places some) ∙ and_false (text_eq n.name node)
      none Addresses n = ap (λ b. text_eq n.name node && b) (no_place_used places some) ∙ and_false (text_eq n.name node)
      none Applied n = ap (λ b. text_eq n.name node && b) (no_place_used places some) ∙ and_false (text_eq n.name node)

  no_full_streams : full_streams (begun_world nodes c places) ≡ []
  no_full_streams = flat_map-none (full_at (begun_world nodes c places)) none (map first_site nodes)
    where
      none : (x : SiteData) → full_at (begun_world nodes c places) x ≡ []
      none x =
          ap (λ (full : Stream → Bool). map (stream_of x) (filter full every_stream)) (λ i s. none_full s x.node i)

-- ---- nodes alone

pub leads_bare : (changes : List Change) (c d : ClusterData) (places : ℕ) (node : Bool) → after c changes ≡ Ok (record { cluster = d; node_changed = node; other_changed = false })
    → d.fixed ≡ false → LeadsTo (StandsEarly d places) changes c places
leads_bare changes c d places node made early =
    leads_from (StandsEarly d places) changes c places (Ok (record { cluster = d; node_changed = node; other_changed = false })) made
    (subst (λ (v : WorldData). StandsEarly d places (record v { cluster = d })) (sym still) (record { cluster = refl; early = early; ring = refl; sites = refl; history = refl }))
  where
    still : fixed_after d (early_world c places) ≡ early_world c places
    still = ap (λ b. if b && not c.fixed then begun d (early_world c places) else early_world c places) early

-- ---- something else

abbrev settled_to : Bool → ClusterData → WorldData → WorldData
settled_to differs c w = if differs then revised [] c w else record w { cluster = c }

-- the present cluster has no part in it
settled_alike : (differs : Bool) (nodes : List NodeData) (c d e : ClusterData) (places : ℕ) → settled_to differs c (begun_world nodes d places) ≡ settled_to differs c (begun_world nodes e places)
settled_alike true nodes c d e places = refl
settled_alike false nodes c d e places = refl

module _ (c d : ClusterData) (places : ℕ) (changes rest : List Change) (run : RunData) (node other : Bool) (some : 1 ≤ places) (early : c.fixed ≡ false) (alone : HasNodesAlone d)
    (fixed : run.cluster.fixed ≡ true) (nodes : run.cluster.nodes ≡ d.nodes) where
  abbrev Made : Bool → Result Outcomes ClusterRefusal
  Made any_node = Ok (record { cluster = run.cluster; node_changed = any_node; other_changed = other })

  abbrev first_run_world : WorldData
  first_run_world = begun_world d.nodes (fixed_nodes d) places

  begun_stands : Stands (begun_run d places) first_run_world
  begun_stands = record {
    cluster = refl;
    ring = refl;
    sites = refl;
    revision = refl;
    fixed = refl;
    last =
        λ i. record {
          nodes = d.nodes;
          fixed = true;
          namespaces = sym alone.namespaces i;
          pods = sym alone.pods i;
          tiers = sym alone.tiers i;
          policies = sym alone.policies i;
          egresses = sym alone.egresses i;
        };
  }

  settles : after (fixed_nodes d) rest ≡ Made false → Does (changing rest) (begun_run d places) run → Stands run (settled_to other run.cluster first_run_world)
  settles made does =
      subst (λ (v : WorldData). Stands run (if other then revised [] run.cluster v else record v { cluster = run.cluster })) (fixed_late run.cluster first_run_world refl)
      (subst (λ (r : Result Outcomes ClusterRefusal). Stands run (accepted r [] first_run_world)) made
      (subst (λ (backs : List StreamOf). Stands run (accepted (after (fixed_nodes d) rest) backs first_run_world)) (no_full_streams d.nodes (fixed_nodes d) places some) (does first_run_world begun_stands)))

  pub leads_fixed : after c changes ≡ Made node → after (fixed_nodes d) rest ≡ Made false → Does (changing rest) (begun_run d places) run → LeadsTo (Stands run) changes c places
  leads_fixed all_made made does =
      leads_from (Stands run) changes c places (Made node) all_made
      (subst (λ (v : WorldData). Stands run (if other then revised [] run.cluster v else record v { cluster = run.cluster })) (sym turned)
      (subst (Stands run) (settled_alike other run.cluster.nodes run.cluster (fixed_nodes d) c places)
      (subst (λ (ns : List NodeData). Stands run (settled_to other run.cluster (begun_world ns (fixed_nodes d) places))) (sym nodes) (settles made does))))
    where
      turned : fixed_after run.cluster (early_world c places) ≡ begun_world run.cluster.nodes c places
      turned =
          ap (λ b. if b && not c.fixed then begun run.cluster (early_world c places) else early_world c places) fixed
          ∙ ap (λ b. if not b then begun run.cluster (early_world c places) else early_world c places) early

-- ---- refusals

refused_leads : (changes : List Change) (c : ClusterData) (places : ℕ) (refusal : ClusterRefusal) → c.fixed ≡ false → after c changes ≡ Err refusal → RefusesFirst changes c places refusal
refused_leads changes c places refusal early e = record {
  refused = e;
  leads = leads_from (StandsEarly c places) changes c places (Err refusal) e (record { cluster = refl; early = early; ring = refl; sites = refl; history = refl });
}

-- a refusal of a part is the answer
module _ (changes : List Change) (c : ClusterData) (places : ℕ) (early : c.fixed ≡ false) where
  front_refused : (here : Result Outcomes ClusterRefusal) (d : ClusterData) (refusal : ClusterRefusal) → (here ≡ Err refusal → after c changes ≡ Err refusal) → ComesTo here (Err refusal) d
      → AnswersFirst changes c places (Err refusal)
  front_refused here d cluster.NoMemory h e = tt
  front_refused here d cluster.NodesFixed h e = refused_leads changes c places _ early (h e)
  front_refused here d (cluster.CidrOverlap x) h e = refused_leads changes c places _ early (h e)
  front_refused here d cluster.TierFixed h e = refused_leads changes c places _ early (h e)
  front_refused here d (cluster.TierTaken x) h e = refused_leads changes c places _ early (h e)
  front_refused here d (cluster.TierInUse x) h e = refused_leads changes c places _ early (h e)
  front_refused here d (cluster.NoSuchTier x) h e = refused_leads changes c places _ early (h e)
  front_refused here d (cluster.AddressInUse x) h e = refused_leads changes c places _ early (h e)
  front_refused here d (cluster.TooMany x) h e = refused_leads changes c places _ early (h e)
  front_refused here d (cluster.TooManyMarks x) h e = refused_leads changes c places _ early (h e)

begin_comes : (rest : List Change) (d : ClusterData) (places : ℕ) (refusal : ClusterRefusal) → Begins rest d places (Err refusal) → ComesTo (after (fixed_nodes d) rest) (Err refusal) d
begin_comes rest d places cluster.NoMemory e = tt
begin_comes rest d places cluster.NodesFixed e = e
begin_comes rest d places (cluster.CidrOverlap x) e = e
begin_comes rest d places cluster.TierFixed e = e
begin_comes rest d places (cluster.TierTaken x) e = e
begin_comes rest d places (cluster.TierInUse x) e = e
begin_comes rest d places (cluster.NoSuchTier x) e = e
begin_comes rest d places (cluster.AddressInUse x) e = e
begin_comes rest d places (cluster.TooMany x) e = e
begin_comes rest d places (cluster.TooManyMarks x) e = e

-- ---- a line in two parts

-- the changes of Nodes in front, and the others
pub record Parts (changes front rest : List Change) : Type 0 where
  pub all : front ++ rest ≡ changes
  pub nodes : AllNodes front
  pub other : BeginsOther rest

pub parts : (changes front rest : List Change) (count : ℕ) → count ≡ nodes_in_front changes → front ≡ take count changes → rest ≡ drop count changes → Parts changes front rest
parts changes front rest count is front_is rest_is = record {
  all = ap (λ xs. xs ++ rest) front_is ∙ (ap (λ ys. take count changes ++ ys) rest_is ∙ take-append-drop count changes);
  nodes = subst AllNodes (sym (front_is ∙ ap (λ n. take n changes) is)) (front_nodes changes);
  other = subst BeginsOther (sym (rest_is ∙ ap (λ n. drop n changes) is)) (rest_other changes);
}

not_none : (n : ℕ) → (suc n == 0) ≡ true → ⊥
not_none n e = grind arith

-- no change is left, or one is
pub none_left : (rest : List Change) (empty : Bool) → empty ≡ (length rest == 0) → empty ≡ true → rest ≡ []
none_left [] empty e is = refl
none_left (change ∷ rest) empty e is = absurd (not_none (length rest) (sym e ∙ is))

abbrev pub HasSome : List Change → Type 0
HasSome [] = ⊥
HasSome (change ∷ changes) = Unit {0}

pub some_left : (rest : List Change) (empty : Bool) → empty ≡ (length rest == 0) → empty ≡ false → HasSome rest
some_left [] empty e is = absurd (true≢false (sym e ∙ is))
some_left (change ∷ rest) empty e is = tt

rest_after : (d : ClusterData) (rest : List Change) → BeginsOther rest → HasSome rest → after (fixed_nodes d) rest ≡ after d rest
rest_after d [] other some = absurd some
rest_after d (change ∷ rest) other some = fixes_all d change rest other

-- what comes to this, as outcomes
record CameFrom (r : Result Outcomes ClusterRefusal) (x : ClusterData) (differs : Bool) : Type 0 where
  o : Outcomes
  is : r ≡ Ok o
  cluster_is : o.cluster ≡ x
  other_is : o.other_changed ≡ differs

came_is : {c d : ClusterData} {a b : Bool} → (let r : Result Came ClusterRefusal = Ok (came_to c a) in r) ≡ Ok (came_to d b) → came_to c a ≡ came_to d b
came_is e = cc

came_from : (r : Result Outcomes ClusterRefusal) (x : ClusterData) (differs : Bool) → came r ≡ Ok (came_to x differs) → CameFrom r x differs
came_from (Ok o) x differs e = record { o = o; is = refl; cluster_is = ap (λ (z : Came). z.cluster) (came_is e); other_is = ap (λ (z : Came). z.differs) (came_is e) }
came_from (Err refusal) x differs e = cc

ordered_fixed : (d : ClusterData) → IsOrdered d → IsOrdered (fixed_nodes d)
ordered_fixed d u = record { nodes = u.nodes; namespaces = u.namespaces; pods = u.pods; tiers = u.tiers; policies = u.policies; egresses = u.egresses }

-- what a call answered is that refusal
pub as_answered : (changes : List Change) (c : ClusterData) (places : ℕ) (r : Result First ClusterRefusal) (refusal : ClusterRefusal) → IsErrAnd r (λ e. e ≡ refusal)
    → AnswersFirst changes c places (Err refusal) → AnswersFirst changes c places r
as_answered changes c places (Ok first) refusal e a = absurd e
as_answered changes c places (Err other) refusal e a = subst (λ z. AnswersFirst changes c places (Err z)) (sym e) a

module _ (changes front rest : List Change) (p : Parts changes front rest) (c : ClusterData) (is : IsCluster c) (early : c.fixed ≡ false) (places : ℕ) where
  all_after : after c changes ≡ then_after (after c front) rest
  all_after = ap (after c) (sym p.all) ∙ after_append c front rest

  pub refused_front : (d : ClusterData) (refusal : ClusterRefusal) → ComesTo (after c front) (Err refusal) d → AnswersFirst changes c places (Err refusal)
  refused_front d refusal e = front_refused changes c places early (after c front) d refusal (λ here. all_after ∙ ap (λ r. then_after r rest) here) e

  module _ (d : ClusterData) (made : Differences) (front_made : after c front ≡ Ok (record { cluster = d; node_changed = made.node; other_changed = made.other })) where
    pub still_open : d.fixed ≡ false
    still_open = (front_after c (ordered c is) front p.nodes _ front_made).open_still ∙ early

    none_other : made.other ≡ false
    none_other = (front_after c (ordered c is) front p.nodes _ front_made).other

    then_rest : after c changes ≡ gathered made.node false (after d rest)
    then_rest = all_after ∙ (ap (λ r. then_after r rest) front_made ∙ ap (λ b. gathered made.node b (after d rest)) none_other)

    gathered_bare : (some : List Change) → some ≡ [] → gathered made.node false (after d some) ≡ Ok (record { cluster = d; node_changed = made.node; other_changed = false })
    gathered_bare some e = ap (λ xs. gathered made.node false (after d xs)) e ∙ ap (λ b. Ok (record { cluster = d; node_changed = b; other_changed = false })) (or_false made.node)

    pub takes_bare : (state : ClusterState) → state.cluster ≡ d → rest ≡ [] → TakesFirst changes c places (record { early = Bare state; node = made.node; other = false })
    takes_bare state is_d none = record {
      made = subst (λ (z : ClusterData). after c changes ≡ Ok (record { cluster = z; node_changed = made.node; other_changed = false })) (sym is_d) (then_rest ∙ gathered_bare rest none);
      revision = refl;
      leads = subst (λ (z : ClusterData). LeadsTo (StandsEarly z places) changes c places) (sym is_d) (leads_bare changes c d places made.node (then_rest ∙ gathered_bare rest none) still_open);
    }

    module _ (whole : IsCluster d) (some : HasSome rest) (run : RunData) (other : Bool) (begins : BeginsRun rest d places run other) where
      from : CameFrom (after (fixed_nodes d) rest) run.cluster other
      from = came_from (after (fixed_nodes d) rest) run.cluster other begins.made

      late : LeavesFixed (fixed_nodes d) from.o
      late = late_after (fixed_nodes d) (ordered_fixed d (ordered d whole)) refl rest from.o from.is

      rest_made : after (fixed_nodes d) rest ≡ Ok (record { cluster = run.cluster; node_changed = false; other_changed = other })
      rest_made = from.is ∙ λ i. Ok (record { cluster = from.cluster_is i; node_changed = late.node i; other_changed = from.other_is i })

      all_made : after c changes ≡ Ok (record { cluster = run.cluster; node_changed = made.node; other_changed = other })
      all_made =
          then_rest
          ∙ (ap (gathered made.node false) (sym (rest_after d rest p.other some) ∙ rest_made)
          ∙ ap (λ b. Ok (record { cluster = run.cluster; node_changed = b; other_changed = other })) (or_false made.node))

      pub takes_fixed : 1 ≤ places → TakesFirst changes c places (record { early = Fixed run; node = made.node; other = other })
      takes_fixed one = record {
        made = all_made;
        revision = begins.revision;
        leads =
            leads_fixed c d places changes rest run made.node other one early (whole.early still_open)
            (ap (λ (z : ClusterData). z.fixed) (sym from.cluster_is) ∙ late.fixed) (ap (λ (z : ClusterData). z.nodes) (sym from.cluster_is) ∙ late.nodes)
            all_made rest_made begins.does;
      }

    pub refused_rest : HasSome rest → (refusal : ClusterRefusal) → Begins rest d places (Err refusal) → AnswersFirst changes c places (Err refusal)
    refused_rest some refusal e =
        front_refused changes c places early (after (fixed_nodes d) rest) d refusal
        (λ here. then_rest ∙ ap (gathered made.node false) (sym (rest_after d rest p.other some) ∙ here)) (begin_comes rest d places refusal e)
