-- What a list of changes leaves once the nodes are fixed, and before.
use Rattle.std.proofs.Common.{◌≡◌, Bool, true, false, not, ◌&&◌, ◌||◌, Option, Some, None, Result, Ok, Err, List, [], ◌∷◌, refl, sym, ap, subst, ◌∙◌, ◌⊎◌, inl, inr, true≢false}
use Rattle.std.specs.List.{AllByRecursion}
use Rattle.cluster_types.specs.declared.change.Change.{Change}
use Rattle.cluster_types.specs.declared.change.Change.TheVariants.{Put, Remove}
use Rattle.cluster_types.specs.declared.change.Object.TheVariants as object
use Rattle.cluster_types.specs.declared.change.ObjectKey.TheVariants as key
use Rattle.cluster_types.specs.Cluster.{ClusterData, IsCluster}
use Rattle.cluster_objects.specs.declared.change.Applied.{Applied}
use Rattle.cluster_objects.specs.declared.change.Applied.TheVariants.{Changed, Unchanged}
use Rattle.cluster_objects.specs.declared.change.ClusterRefusal.{ClusterRefusal}
use Rattle.cluster_objects.specs.Apply.{Outcome, makes_difference, made, numbered}
use Rattle.cluster_objects.specs.Changes.{Outcomes, after, and_then, apply, is_node, joined, unless}
use Rattle.cluster_objects.specs.Laws.{IsWholeChange, ChangesKeepClusters, FixedNodesStay, UnchangedLeavesTheCluster}
use Rattle.cluster_objects.specs.Refusals.{checks, first_refusal}
use Rattle.run_machine.specs.Machine.{nodes_alone}

ok_is : {A E : Type 0} {x y : A} {r : Result A E} → r ≡ Ok x → r ≡ Ok y → x ≡ y
ok_is e f = cc

-- ---- one change

pub record ChangeFacts (c : ClusterData) (change : Change) (o : Outcome) : Type 0 where
  pub whole : IsCluster o.cluster
  pub unchanged : makes_difference o.applied ≡ false → o.cluster ≡ record c { fixed = o.cluster.fixed }
  pub nodes_stay : c.fixed ≡ true → o.cluster.nodes ≡ c.nodes
  pub fixed_stays : c.fixed ≡ true → o.cluster.fixed ≡ true
  pub fixes : is_node change ≡ false → o.cluster.fixed ≡ true
  pub node_alone : is_node change ≡ true → o.cluster ≡ record c { nodes = o.cluster.nodes }

-- a change of another kind than Node fixes the nodes
made_fixes : (c : ClusterData) (change : Change) → is_node change ≡ false → (made c (numbered c change)).cluster.fixed ≡ true
made_fixes c (Put (object.Node n)) other = absurd (true≢false other)
made_fixes c (Put (object.Namespace n)) other = refl
made_fixes c (Put (object.Pod p)) other = refl
made_fixes c (Put (object.Tier t)) other = refl
made_fixes c (Put (object.Policy p)) other = refl
made_fixes c (Put (object.Egress e)) other = refl
made_fixes c (Remove (key.Node name)) other = absurd (true≢false other)
made_fixes c (Remove (key.Namespace name)) other = refl
made_fixes c (Remove (key.Pod name)) other = refl
made_fixes c (Remove (key.Tier name)) other = refl
made_fixes c (Remove (key.Policy name)) other = refl
made_fixes c (Remove (key.Egress name)) other = refl

-- a change of a Node leaves all else
made_alone : (c : ClusterData) (change : Change) → is_node change ≡ true → (made c (numbered c change)).cluster ≡ record c { nodes = (made c (numbered c change)).cluster.nodes }
made_alone c (Put (object.Node n)) node = refl
made_alone c (Put (object.Namespace n)) node = absurd (true≢false (sym node))
made_alone c (Put (object.Pod p)) node = absurd (true≢false (sym node))
made_alone c (Put (object.Tier t)) node = absurd (true≢false (sym node))
made_alone c (Put (object.Policy p)) node = absurd (true≢false (sym node))
made_alone c (Put (object.Egress e)) node = absurd (true≢false (sym node))
made_alone c (Remove (key.Node name)) node = refl
made_alone c (Remove (key.Namespace name)) node = absurd (true≢false (sym node))
made_alone c (Remove (key.Pod name)) node = absurd (true≢false (sym node))
made_alone c (Remove (key.Tier name)) node = absurd (true≢false (sym node))
made_alone c (Remove (key.Policy name)) node = absurd (true≢false (sym node))
made_alone c (Remove (key.Egress name)) node = absurd (true≢false (sym node))

-- a change that isn't refused is made
unless_made : (f : Option ClusterRefusal) (m o : Outcome) → unless f m ≡ Ok o → m ≡ o
unless_made None m o e = ok_is refl e
unless_made (Some refusal) m o e = cc

no_difference : (a : Applied) → makes_difference a ≡ false → a ≡ Unchanged
no_difference Changed none = absurd (true≢false none)
no_difference Unchanged none = refl

module _ (keep : ChangesKeepClusters) (stay : FixedNodesStay) (leave : UnchangedLeavesTheCluster) where
  change_facts : (c : ClusterData) (change : Change) (o : Outcome) → IsCluster c → IsWholeChange change → apply c change ≡ Ok o → ChangeFacts c change o
  change_facts c change o is whole e =
      let made_is : made c (numbered c change) ≡ o = unless_made (first_refusal (checks c (numbered c change))) (made c (numbered c change)) o e in
      record {
        whole = keep c change o is whole e;
        unchanged = λ none. leave c change o is e (no_difference o.applied none);
        nodes_stay = λ fixed. (stay c change o is fixed e).0;
        fixed_stays = λ fixed. (stay c change o is fixed e).1;
        fixes = λ other. subst (λ (z : Outcome). z.cluster.fixed ≡ true) made_is (made_fixes c change other);
        node_alone = λ node. subst (λ (z : Outcome). z.cluster ≡ record c { nodes = z.cluster.nodes }) made_is (made_alone c change node);
      }

-- ---- lists of changes once the nodes are fixed

or_false : (a b : Bool) → (a || b) ≡ false → (a ≡ false) × (b ≡ false)
or_false true b e = absurd (true≢false e)
or_false false b e = (refl, e)

late_same : (c : ClusterData) (change : Change) (o : Outcome) → ChangeFacts c change o → c.fixed ≡ true
    → (node : Bool) → is_node change ≡ node → (not node && makes_difference o.applied) ≡ false → o.cluster ≡ c
late_same c change o f fixed true e none = f.node_alone e ∙ ap (λ nodes. record c { nodes = nodes }) (f.nodes_stay fixed)
late_same c change o f fixed false e none = f.unchanged none ∙ ap (λ (z : Bool). record c { fixed = z }) (f.fixed_stays fixed ∙ sym fixed)

-- The nodes stay fixed, and the cluster is another only by a change that isn't a Node's.
pub record StaysLate (c : ClusterData) (o : Outcomes) : Type 0 where
  pub fixed : o.cluster.fixed ≡ true
  pub nodes : o.cluster.nodes ≡ c.nodes
  pub same : o.other_changed ≡ false → o.cluster ≡ c

abbrev IsLate : ClusterData → Result Outcomes ClusterRefusal → Type 0
IsLate c r = (o : Outcomes) → r ≡ Ok o → StaysLate c o

late-joined : (c d : ClusterData) (change : Change) (applied : Applied) (r : Result Outcomes ClusterRefusal)
    → d.nodes ≡ c.nodes → ((not (is_node change) && makes_difference applied) ≡ false → d ≡ c) → IsLate d r → IsLate c (joined change applied r)
late-joined c d change applied (Ok later) nodes same l o e =
    let s = l later refl in
    subst (StaysLate c) (ok_is refl e) (record { fixed = s.fixed; nodes = s.nodes ∙ nodes; same = λ none. let both = or_false _ _ none in s.same both.1 ∙ same both.0 })
late-joined c d change applied (Err refusal) nodes same l o e = cc

late-and_then : (c : ClusterData) (change : Change) (changes : List Change) (r : Result Outcome ClusterRefusal) → c.fixed ≡ true
    → ((o : Outcome) → r ≡ Ok o → ChangeFacts c change o)
    → ((d : ClusterData) → IsCluster d → d.fixed ≡ true → IsLate d (after d changes)) → IsLate c (and_then change r (λ d. after d changes))
late-and_then c change changes (Ok o) fixed facts rest =
    let f = facts o refl in
    late-joined c o.cluster change o.applied (after o.cluster changes) (f.nodes_stay fixed) (late_same c change o f fixed (is_node change) refl) (rest o.cluster f.whole (f.fixed_stays fixed))
late-and_then c change changes (Err refusal) fixed facts rest = λ o e. cc

-- ---- lists of changes before

-- nothing but nodes is there, and they are fixed
abbrev pub IsBare : ClusterData → Type 0
IsBare c = c ≡ nodes_alone c

-- the nodes aren't fixed still, or they are now
abbrev pub HasTurned : Outcomes → Type 0
HasTurned o = ((o.other_changed ≡ false) × (o.cluster.fixed ≡ false)) ⊎ ((o.cluster.fixed ≡ true) × (o.other_changed ≡ false → IsBare o.cluster))

abbrev IsTurned : Result Outcomes ClusterRefusal → Type 0
IsTurned r = (o : Outcomes) → r ≡ Ok o → HasTurned o

-- while the nodes aren't fixed, they stand alone
early_alone : (c : ClusterData) → IsCluster c → c.fixed ≡ false → record c { fixed = true } ≡ nodes_alone c
early_alone c is early =
    let alone = is.early early in
    λ i. record {
      nodes = c.nodes;
      fixed = true;
      namespaces = alone.namespaces i;
      pods = alone.pods i;
      tiers = alone.tiers i;
      policies = alone.policies i;
      egresses = alone.egresses i;
    }

turned-node : (change : Change) (applied : Applied) (r : Result Outcomes ClusterRefusal) → is_node change ≡ true → IsTurned r → IsTurned (joined change applied r)
turned-node change applied (Ok later) node t o e =
    subst HasTurned
    (
    ap
    (λ (z : Bool).
    record {
      cluster = later.cluster;
      node_changed = (is_node change && makes_difference applied) || later.node_changed;
      other_changed = (not z && makes_difference applied) || later.other_changed;
    })
    (sym node)
    ∙ ok_is refl e
    )
    (t later refl)
turned-node change applied (Err refusal) node t o e = cc

-- a change of another kind fixes the nodes
turned-other : (c : ClusterData) (first : Outcome) (change : Change) (r : Result Outcomes ClusterRefusal) → ChangeFacts c change first → IsCluster c → c.fixed ≡ false
    → is_node change ≡ false → IsLate first.cluster r → IsTurned (joined change first.applied r)
turned-other c first change (Ok later) f is early node l o e =
    let s = l later refl in
    let bare : makes_difference first.applied ≡ false → IsBare first.cluster = λ none.
    f.unchanged none ∙ (ap (λ (z : Bool). record c { fixed = z }) (f.fixes node) ∙ (early_alone c is early ∙ ap nodes_alone (sym (f.unchanged none)))) in
    subst HasTurned (ok_is refl e) (inr (
      s.fixed,
      λ none.
          let both = or_false _ _ none in
          let none_first : makes_difference first.applied ≡ false = ap (λ z. not z && makes_difference first.applied) (sym node) ∙ both.0 in
          s.same both.1 ∙ (bare none_first ∙ ap nodes_alone (sym (s.same both.1))),
    ))
turned-other c first change (Err refusal) f is early node l o e = cc

turned-and_then : (c : ClusterData) (change : Change) (changes : List Change) (r : Result Outcome ClusterRefusal) → IsCluster c → c.fixed ≡ false
    → ((o : Outcome) → r ≡ Ok o → ChangeFacts c change o)
    → ((d : ClusterData) → IsCluster d → d.fixed ≡ false → IsTurned (after d changes))
    → ((d : ClusterData) → IsCluster d → d.fixed ≡ true → IsLate d (after d changes))
    → (node : Bool) → is_node change ≡ node → IsTurned (and_then change r (λ d. after d changes))
turned-and_then c change changes (Ok o) is early facts rest late true e =
    let f = facts o refl in
    turned-node change o.applied (after o.cluster changes) e (rest o.cluster f.whole (ap (λ (z : ClusterData). z.fixed) (f.node_alone e) ∙ early))
turned-and_then c change changes (Ok o) is early facts rest late false e =
    let f = facts o refl in turned-other c o change (after o.cluster changes) f is early e (late o.cluster f.whole (f.fixes e))
turned-and_then c change changes (Err refusal) is early facts rest late node e = λ o x. cc

-- ---- all lists

module _ (keep : ChangesKeepClusters) (stay : FixedNodesStay) (leave : UnchangedLeavesTheCluster) where
  pub late_after : (c : ClusterData) → IsCluster c → (changes : List Change) → AllByRecursion IsWholeChange changes → c.fixed ≡ true → IsLate c (after c changes)
  late_after c is [] whole fixed o e = subst (StaysLate c) (ok_is refl e) (record { fixed = fixed; nodes = refl; same = λ none. refl })
  late_after c is (change ∷ changes) whole fixed o e =
      late-and_then c change changes (apply c change) fixed (λ o e. change_facts keep stay leave c change o is whole.0 e) (λ d d_is f. late_after d d_is changes whole.1 f) o e

  pub turned_after : (c : ClusterData) → IsCluster c → (changes : List Change) → AllByRecursion IsWholeChange changes → c.fixed ≡ false → IsTurned (after c changes)
  turned_after c is [] whole early o e = subst HasTurned (ok_is refl e) (inl (refl, early))
  turned_after c is (change ∷ changes) whole early o e =
      turned-and_then c change changes (apply c change) is early (λ o e. change_facts keep stay leave c change o is whole.0 e) (λ d d_is f. turned_after d d_is changes whole.1 f)
      (λ d d_is f. late_after d d_is changes whole.1 f) (is_node change) refl o e
