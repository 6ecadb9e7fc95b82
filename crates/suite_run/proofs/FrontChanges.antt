-- What changes come to that begin with changes of Nodes.
use Rattle.std.proofs.Common.{◌≡◌, suc, ◌≤◌, Bool, true, false, not, ◌&&◌, ◌||◌, Result, Ok, Err, List, [], ◌∷◌, ◌++◌, length, take, drop, if◌then◌else◌, refl, sym, ap, subst, ◌∙◌, arith, true≢false}
use Rattle.std.specs.List.{AllByRecursion}
use Rattle.cluster_types.specs.declared.change.Change.{Change}
use Rattle.cluster_types.specs.declared.change.Change.TheVariants.{Put, Remove}
use Rattle.cluster_types.specs.declared.change.Object.TheVariants as object
use Rattle.cluster_types.specs.declared.change.ObjectKey.TheVariants as key
use Rattle.cluster_types.specs.Cluster.{ClusterData, IsCluster}
use Rattle.cluster_objects.specs.declared.change.Applied.{Applied}
use Rattle.cluster_objects.specs.declared.change.ClusterRefusal.{ClusterRefusal}
use Rattle.cluster_objects.specs.Apply.{Outcome, fixed_nodes, makes_difference}
use Rattle.cluster_objects.specs.Changes.{Outcomes, after, and_then, apply, is_node, joined}
use Rattle.suite_run.specs.Fixing.{nodes_in_front}
use Rattle.suite_run.proofs.ChangeFacts.{IsOrdered, change_facts}
use Rattle.suite_run.proofs.Gathered.{gathered}

ok_is : {A E : Type 0} {x y : A} → (let r : Result A E = Ok x in r) ≡ Ok y → x ≡ y
ok_is e = cc

pub ordered : (c : ClusterData) → IsCluster c → IsOrdered c
ordered c is = record {
  nodes = is.nodes_ascend;
  namespaces = is.namespaces_ascend;
  pods = is.pods_ascend;
  tiers = is.tiers_ascend;
  policies = is.policies_ascend;
  egresses = is.egresses_ascend;
}

-- ---- changes of Nodes in front

abbrev pub AllNodes : List Change → Type 0
AllNodes changes = AllByRecursion (λ change. is_node change ≡ true) changes

-- there is no change, or the first isn't a Node's
abbrev pub BeginsOther : List Change → Type 0
BeginsOther [] = Unit {0}
BeginsOther (change ∷ changes) = is_node change ≡ false

pub within_front : (changes : List Change) → nodes_in_front changes ≤ length changes
within_front [] = omega arith
within_front (change ∷ changes) = by_node (is_node change) (within_front changes)
  where
    by_node : (b : Bool) → nodes_in_front changes ≤ length changes → (if b then suc (nodes_in_front changes) else 0) ≤ length (change ∷ changes)
    by_node true rest = omega arith
    by_node false rest = omega arith

pub front_nodes : (changes : List Change) → AllNodes (take (nodes_in_front changes) changes)
front_nodes [] = tt
front_nodes (change ∷ changes) = by_node (is_node change) refl (front_nodes changes)
  where
    by_node : (b : Bool) → is_node change ≡ b → AllNodes (take (nodes_in_front changes) changes) → AllNodes (take (if b then suc (nodes_in_front changes) else 0) (change ∷ changes))
    by_node true is rest = (is, rest)
    by_node false is rest = tt

pub rest_other : (changes : List Change) → BeginsOther (drop (nodes_in_front changes) changes)
rest_other [] = tt
rest_other (change ∷ changes) = by_node (is_node change) refl (rest_other changes)
  where
    by_node : (b : Bool) → is_node change ≡ b → BeginsOther (drop (nodes_in_front changes) changes) → BeginsOther (drop (if b then suc (nodes_in_front changes) else 0) (change ∷ changes))
    by_node true is rest = rest
    by_node false is rest = is

-- ---- one change and the others

abbrev joined_outcomes : Change → Applied → Outcomes → Outcomes
joined_outcomes change applied later = record {
  cluster = later.cluster;
  node_changed = (is_node change && makes_difference applied) || later.node_changed;
  other_changed = (not (is_node change) && makes_difference applied) || later.other_changed;
}

record Steps (c : ClusterData) (change : Change) (changes : List Change) (o : Outcomes) : Type 0 where
  first : Outcome
  made : apply c change ≡ Ok first
  later : Outcomes
  is : after first.cluster changes ≡ Ok later
  whole : joined_outcomes change first.applied later ≡ o

steps_of : (c : ClusterData) (change : Change) (changes : List Change) (o : Outcomes) → after c (change ∷ changes) ≡ Ok o → Steps c change changes o
steps_of c change changes o e = by_first (apply c change) refl e
  where
    by_later : (first : Outcome) → apply c change ≡ Ok first → (r : Result Outcomes ClusterRefusal) → after first.cluster changes ≡ r → joined change first.applied r ≡ Ok o → Steps c change changes o
    by_later first made (Ok later) is e = record { first = first; made = made; later = later; is = is; whole = ok_is e }
    by_later first made (Err refusal) is e = cc

    by_first : (r : Result Outcome ClusterRefusal) → apply c change ≡ r → and_then change r (λ d. after d changes) ≡ Ok o → Steps c change changes o
    by_first (Ok first) made e = by_later first made (after first.cluster changes) refl e
    by_first (Err refusal) made e = cc

-- changes of Nodes leave the nodes open, and change nothing else
pub record LeavesOpen (c : ClusterData) (o : Outcomes) : Type 0 where
  pub open_still : o.cluster.fixed ≡ c.fixed
  pub other : o.other_changed ≡ false

pub front_after : (c : ClusterData) → IsOrdered c → (changes : List Change) → AllNodes changes → (o : Outcomes) → after c changes ≡ Ok o → LeavesOpen c o
front_after c u [] all o e = subst (LeavesOpen c) (ok_is e) (record { open_still = refl; other = refl })
front_after c u (change ∷ changes) all o e =
    let s = steps_of c change changes o e in
    let f = change_facts c u change s.first s.made in
    let l = front_after s.first.cluster f.ordered changes all.1 s.later s.is in
    record {
      open_still = ap (λ (z : Outcomes). z.cluster.fixed) (sym s.whole) ∙ (l.open_still ∙ ap (λ (z : ClusterData). z.fixed) (f.node_alone all.0));
      other =
          ap (λ (z : Outcomes). z.other_changed) (sym s.whole)
          ∙ (ap (λ b. (not b && makes_difference s.first.applied) || s.later.other_changed) all.0 ∙ l.other);
    }

-- once the nodes are fixed they stay, and no Node changes
pub record LeavesFixed (c : ClusterData) (o : Outcomes) : Type 0 where
  pub fixed : o.cluster.fixed ≡ true
  pub nodes : o.cluster.nodes ≡ c.nodes
  pub node : o.node_changed ≡ false

and_none : (a b : Bool) → (a ≡ true → b ≡ false) → (a && b) ≡ false
and_none true b none = none refl
and_none false b none = refl

pub late_after : (c : ClusterData) → IsOrdered c → c.fixed ≡ true → (changes : List Change) (o : Outcomes) → after c changes ≡ Ok o → LeavesFixed c o
late_after c u fixed [] o e = subst (LeavesFixed c) (ok_is e) (record { fixed = fixed; nodes = refl; node = refl })
late_after c u fixed (change ∷ changes) o e =
    let s = steps_of c change changes o e in
    let f = change_facts c u change s.first s.made in
    let l = late_after s.first.cluster f.ordered (f.fixed_stays fixed) changes s.later s.is in
    record {
      fixed = ap (λ (z : Outcomes). z.cluster.fixed) (sym s.whole) ∙ l.fixed;
      nodes = ap (λ (z : Outcomes). z.cluster.nodes) (sym s.whole) ∙ (l.nodes ∙ f.nodes_stay fixed);
      node =
          ap (λ (z : Outcomes). z.node_changed) (sym s.whole)
          ∙ (ap (λ b. b || s.later.node_changed) (and_none (is_node change) (makes_difference s.first.applied) (f.late fixed)) ∙ l.node);
    }

-- ---- some changes, and then others

abbrev pub then_after : Result Outcomes ClusterRefusal → List Change → Result Outcomes ClusterRefusal
then_after (Ok o) rest = gathered o.node_changed o.other_changed (after o.cluster rest)
then_after (Err refusal) rest = Err refusal

or_assoc : (a b c : Bool) → (a || (b || c)) ≡ ((a || b) || c)
or_assoc true b c = refl
or_assoc false b c = refl

gathered_none : (r : Result Outcomes ClusterRefusal) → r ≡ gathered false false r
gathered_none (Ok o) = refl
gathered_none (Err refusal) = refl

joined_gathered : (change : Change) (applied : Applied) (node other : Bool) (r : Result Outcomes ClusterRefusal)
    → joined change applied (gathered node other r) ≡ gathered ((is_node change && makes_difference applied) || node) ((not (is_node change) && makes_difference applied) || other) r
joined_gathered change applied node other (Ok l) =
    λ i. Ok (record {
      cluster = l.cluster;
      node_changed = or_assoc (is_node change && makes_difference applied) node l.node_changed i;
      other_changed = or_assoc (not (is_node change) && makes_difference applied) other l.other_changed i;
    })
joined_gathered change applied node other (Err refusal) = refl

joined_then : (change : Change) (applied : Applied) (r : Result Outcomes ClusterRefusal) (rest : List Change)
    → joined change applied (then_after r rest) ≡ then_after (joined change applied r) rest
joined_then change applied (Ok o) rest = joined_gathered change applied o.node_changed o.other_changed (after o.cluster rest)
joined_then change applied (Err refusal) rest = refl

pub after_append : (c : ClusterData) (front rest : List Change) → after c (front ++ rest) ≡ then_after (after c front) rest
after_append c [] rest = gathered_none (after c rest)
after_append c (change ∷ front) rest = by_first (apply c change) (λ d. after_append d front rest)
  where
    by_first : (r : Result Outcome ClusterRefusal) → ((d : ClusterData) → after d (front ++ rest) ≡ then_after (after d front) rest)
        → and_then change r (λ d. after d (front ++ rest)) ≡ then_after (and_then change r (λ d. after d front)) rest
    by_first (Ok first) later = ap (joined change first.applied) (later first.cluster) ∙ joined_then change first.applied (after first.cluster front) rest
    by_first (Err refusal) later = refl

-- ---- the first change of something other than a Node

-- whether the nodes are fixed is nothing to it
fixes : (c : ClusterData) (change : Change) → is_node change ≡ false → apply (fixed_nodes c) change ≡ apply c change
fixes c (Put (object.Node n)) other = absurd (true≢false other)
fixes c (Put (object.Namespace n)) other = refl
fixes c (Put (object.Pod p)) other = refl
fixes c (Put (object.Tier t)) other = refl
fixes c (Put (object.Policy p)) other = refl
fixes c (Put (object.Egress e)) other = refl
fixes c (Remove (key.Node name)) other = absurd (true≢false other)
fixes c (Remove (key.Namespace name)) other = refl
fixes c (Remove (key.Pod name)) other = refl
fixes c (Remove (key.Tier name)) other = refl
fixes c (Remove (key.Policy name)) other = refl
fixes c (Remove (key.Egress name)) other = refl

pub fixes_all : (c : ClusterData) (change : Change) (changes : List Change) → is_node change ≡ false → after (fixed_nodes c) (change ∷ changes) ≡ after c (change ∷ changes)
fixes_all c change changes other = ap (λ r. and_then change r (λ d. after d changes)) (fixes c change other)
