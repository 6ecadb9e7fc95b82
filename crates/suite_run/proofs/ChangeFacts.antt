-- What a change that isn't refused leaves.
use Rattle.std.proofs.Common.{rules, subst, ◌≡◌, Bool, true, false, not, ◌&&◌, Result, Ok, List, [], ◌∷◌, Option, Some, None, is_some, if◌then◌else◌, refl, sym, ap, ◌∙◌, true≢false}
use base.Stored.{Coded}
use Rattle.std.specs.declared.cmp.Ordering.{Ordering}
use Rattle.std.specs.declared.cmp.Ordering.TheVariants.{Less, Equal, Greater}
use Rattle.std.specs.Cmp.{IsTotalOrder}
use Rattle.std.specs.Ordering.{match_ordering, is_eq, nat_cmp, ordering_reverse}
use Rattle.std.proofs.lemmas.Cmp.{nat_cmp_total}
use Rattle.cl_types.specs.Ascending.{Ascends, found, put, without}
use Rattle.cl_types.specs.AscendingLaws.{ascends_put, ascends_without, found_without, equal_maps}
use Rattle.cl_types.specs.Equality.{is_same}
use Rattle.cl_types.specs.EqualityLaws.{is_same-one}
use Rattle.cl_types.specs.RuleOrder.{pod_order, pod_order_total, policy_order, policy_order_total}
use Rattle.cl_types.specs.Text.{text_order, text_order_total}
use Rattle.cluster_types.specs.declared.change.Change.{Change}
use Rattle.cluster_types.specs.declared.change.Change.TheVariants.{Put, Remove}
use Rattle.cluster_objects.specs.declared.change.ClusterRefusal.{ClusterRefusal}
use Rattle.cluster_types.specs.declared.change.Object.TheVariants as object
use Rattle.cluster_types.specs.declared.change.ObjectKey.TheVariants as key
use Rattle.cluster_types.specs.declared.egress.EgressObj as egress
use Rattle.cluster_types.specs.declared.node.Namespace as namespace
use Rattle.cluster_types.specs.declared.node.NodeInfo as node
use Rattle.cluster_types.specs.declared.pod.Pod as pod
use Rattle.cluster_types.specs.declared.policy.Policy as policy
use Rattle.cluster_types.specs.declared.policy.Tier as tier
use Rattle.cluster_objects.specs.Apply.{Outcome, Placed, makes_difference, difference, is_there, placed, removed, without_tier, made, numbered}
use Rattle.cluster_objects.specs.Changes.{apply, apply_numbered, is_node, unless}
use Rattle.cluster_types.specs.Cluster.{ClusterData, no_objects}
use Rattle.cluster_types.specs.Egress.{EgressData}
use Rattle.cluster_types.specs.Node.{NamespaceData, NodeData}
use Rattle.cluster_types.specs.Pod.{PodData}
use Rattle.cluster_types.specs.Policy.{PolicyData}
use Rattle.cluster_objects.specs.Refusals.{first_refusal, checks, when}
use Rattle.cluster_types.specs.Tier.{TierData, tier_named}

-- the objects of each kind ascend by their keys
pub record IsOrdered (c : ClusterData) : Type 0 where
  pub nodes : Ascends (λ (n : NodeData). n.name) text_order c.nodes
  pub namespaces : Ascends (λ (n : NamespaceData). n.name) text_order c.namespaces
  pub pods : Ascends (λ (p : PodData). p.key) pod_order c.pods
  pub tiers : Ascends (λ (t : TierData). t.priority) nat_cmp c.tiers
  pub policies : Ascends (λ (p : PolicyData). p.key) policy_order c.policies
  pub egresses : Ascends (λ (e : EgressData). e.name) text_order c.egresses

pub record ChangeFacts (c : ClusterData) (change : Change) (o : Outcome) : Type 0 where
  pub ordered : IsOrdered o.cluster
  pub unchanged : makes_difference o.applied ≡ false → o.cluster ≡ record c { fixed = o.cluster.fixed }
  pub fixed_stays : c.fixed ≡ true → o.cluster.fixed ≡ true
  pub nodes_stay : c.fixed ≡ true → o.cluster.nodes ≡ c.nodes
  pub late : c.fixed ≡ true → is_node change ≡ true → makes_difference o.applied ≡ false
  pub fixes : is_node change ≡ false → o.cluster.fixed ≡ true
  pub node_alone : is_node change ≡ true → o.cluster ≡ record c { nodes = o.cluster.nodes }

-- ---- one kind of objects

-- what makes no difference leaves the list, which ascends as before
pub record KindFacts {T K : Type 0} (key : T → K) (cmp : K → K → Ordering) (xs : List T) (p : Placed T) : Type 0 where
  pub same : makes_difference p.applied ≡ false → p.items ≡ xs
  pub ascends : Ascends key cmp p.items

put_found : {T : Type 0} (at : T → Ordering) (x : T) (xs : List T) → found at xs ≡ Some x → put at x xs ≡ xs
put_found at x [] e = cc
put_found at x (y ∷ ys) e = by_order (at y) e (put_found at x ys)
  where
    by_order : (r : Ordering) → match_ordering r (found at ys) (Some y) None ≡ Some x → (found at ys ≡ Some x → put at x ys ≡ ys)
        → match_ordering r (y ∷ put at x ys) (x ∷ ys) (x ∷ y ∷ ys) ≡ y ∷ ys
    by_order Less f rest = ap (λ zs. y ∷ zs) (rest f)
    by_order Equal f rest = let one : y ≡ x = cc in ap (λ z. z ∷ ys) (sym one)
    by_order Greater f rest = cc

no_difference : (b : Bool) → makes_difference (difference b) ≡ false → b ≡ false
no_difference true e = absurd (true≢false e)
no_difference false e = refl

not_false : (b : Bool) → not b ≡ false → b ≡ true
not_false true e = refl
not_false false e = absurd (true≢false e)

there_is : {T : Type 0} (coded : Coded T) (x : T) (o : Option T) → is_there (is_same coded) x o ≡ true → o ≡ Some x
there_is coded x None e = cc
there_is coded x (Some y) e = ap Some (is_same-one coded y x e)

none_there : {T : Type 0} (o : Option T) → is_some o ≡ false → o ≡ None
none_there None e = refl
none_there (Some x) e = absurd (true≢false e)

-- places that compare alike have the same
found_alike : {T : Type 0} (f g : T → Ordering) → ((y : T) → f y ≡ g y) → (xs : List T) → found f xs ≡ found g xs
found_alike f g e [] = refl
found_alike f g e (x ∷ xs) =
    ap (λ r. match_ordering r (found f xs) (Some x) None) (e x) ∙ ap (λ z. match_ordering (g x) z (Some x) None) (found_alike f g e xs)

module _ {T K : Type 0} (key : T → K) {cmp : K → K → Ordering} (o : IsTotalOrder cmp) where
  placed_facts : (coded : Coded T) (x : T) (xs : List T) → Ascends key cmp xs → KindFacts key cmp xs (placed (is_same coded) (λ y. cmp (key y) (key x)) x xs)
  placed_facts coded x xs up = record {
    same = λ none. put_found (λ y. cmp (key y) (key x)) x xs (there_is coded x _ (not_false _ (no_difference _ none)));
    ascends = ascends_put key o x xs up;
  }

  removed_facts : (k : K) (xs : List T) → Ascends key cmp xs → KindFacts key cmp xs (removed (λ y. cmp (key y) k) xs)
  removed_facts k xs up = record {
    same = λ none.
        let gone = none_there _ (no_difference _ none) in
        equal_maps key o (without (λ y. cmp (key y) k) xs) xs (ascends_without key o k xs up) up (λ j. found_without key o k j xs up ∙ nothing gone j (cmp k j) refl);
    ascends = ascends_without key o k xs up;
  }
    where
      alike : (j : K) → cmp k j ≡ Equal → (y : T) → cmp (key y) k ≡ cmp (key y) j
      alike j is y = o.antisymm (key y) k ∙ (ap ordering_reverse (o.congr k j (key y) is) ∙ sym (o.antisymm (key y) j))

      nothing : found (λ y. cmp (key y) k) xs ≡ None → (j : K) (r : Ordering) → cmp k j ≡ r
          → (if is_eq r then None else found (λ y. cmp (key y) j) xs) ≡ found (λ y. cmp (key y) j) xs
      nothing gone j Less is = refl
      nothing gone j Equal is = sym gone ∙ found_alike (λ y. cmp (key y) k) (λ y. cmp (key y) j) (alike j is) xs
      nothing gone j Greater is = refl

without_tier_facts : (t : Option TierData) (tiers : List TierData) → Ascends (λ (t : TierData). t.priority) nat_cmp tiers
    → KindFacts (λ (t : TierData). t.priority) nat_cmp tiers (without_tier t tiers)
without_tier_facts None tiers up = record { same = λ none. refl; ascends = up }
without_tier_facts (Some t) tiers up = removed_facts (λ (t : TierData). t.priority) nat_cmp_total t.priority tiers up

-- ---- a change of a Node

ok_is : {A E : Type 0} {x y : A} {r : Result A E} → r ≡ Ok x → r ≡ Ok y → x ≡ y
ok_is e f = cc

first_none : (f : Option ClusterRefusal) (rest : List (Option ClusterRefusal)) → first_refusal (f ∷ rest) ≡ None → f ≡ None
first_none None rest e = refl
first_none (Some r) rest e = cc

when_none : (b : Bool) (r : ClusterRefusal) → when b r ≡ None → b ≡ false
when_none true r e = cc
when_none false r e = refl

and_none : (a b : Bool) → a ≡ true → (a && b) ≡ false → b ≡ false
and_none true b e none = none
and_none false b e none = absurd (true≢false (sym e))

-- the nodes of a cluster are now those
node_facts : (c : ClusterData) → IsOrdered c → (change : Change) → is_node change ≡ true → (p : Placed NodeData) → KindFacts (λ (n : NodeData). n.name) text_order c.nodes p
    → (c.fixed ≡ true → makes_difference p.applied ≡ false)
    → ChangeFacts c change (record { cluster = record c { nodes = p.items }; applied = p.applied })
node_facts c ordered change node p k late = record {
  ordered = record { nodes = k.ascends; namespaces = ordered.namespaces; pods = ordered.pods; tiers = ordered.tiers; policies = ordered.policies; egresses = ordered.egresses };
  unchanged = λ none. ap (λ nodes. record c { nodes = nodes }) (k.same none);
  fixed_stays = λ f. f;
  nodes_stay = λ f. k.same (late f);
  late = λ f is. late f;
  fixes = λ other. absurd (true≢false (sym node ∙ other));
  node_alone = λ is. refl;
}

-- ---- a change of another kind

other_facts : {T K : Type 0} (key : T → K) (cmp : K → K → Ordering) (c : ClusterData) (xs : List T) (with : List T → ClusterData) (change : Change) → is_node change ≡ false
    → (p : Placed T) → KindFacts key cmp xs p → (Ascends key cmp p.items → IsOrdered (with p.items))
    → with xs ≡ record c { fixed = true } → ((ys : List T) → (with ys).fixed ≡ true) → ((ys : List T) → (with ys).nodes ≡ c.nodes)
    → ChangeFacts c change (record { cluster = with p.items; applied = p.applied })
other_facts key cmp c xs with change other p k ordered same fixed nodes = record {
  ordered = ordered k.ascends;
  unchanged = λ none. ap with (k.same none) ∙ (same ∙ ap (λ (z : Bool). record c { fixed = z }) (sym (fixed p.items)));
  fixed_stays = λ f. fixed p.items;
  nodes_stay = λ f. nodes p.items;
  late = λ f is. absurd (true≢false (sym is ∙ other));
  fixes = λ is. fixed p.items;
  node_alone = λ is. absurd (true≢false (sym is ∙ other));
}

-- ---- all changes

node_late : (c : ClusterData) (change : Change) (d : Bool) (rest : List (Option ClusterRefusal)) (r : ClusterRefusal)
    → first_refusal (when (c.fixed && d) r ∷ rest) ≡ None → c.fixed ≡ true → d ≡ false
node_late c change d rest r none f = and_none c.fixed d f (when_none (c.fixed && d) r (first_none (when (c.fixed && d) r) rest none))

made_facts : (c : ClusterData) → IsOrdered c → (change : Change) → first_refusal (checks c change) ≡ None → ChangeFacts c change (made c change)
made_facts c u (Put (object.Node n)) none =
    node_facts c u (Put (object.Node n)) refl _ (placed_facts (λ (n : NodeData). n.name) text_order_total node.the_code n c.nodes u.nodes) (node_late c (Put (object.Node n)) _ _ _ none)
made_facts c u (Put (object.Namespace n)) none =
    other_facts (λ (n : NamespaceData). n.name) text_order c c.namespaces (λ xs. record c { fixed = true; namespaces = xs }) (Put (object.Namespace n)) refl _
    (placed_facts (λ (n : NamespaceData). n.name) text_order_total namespace.the_code n c.namespaces u.namespaces)
    (λ up. record { nodes = u.nodes; namespaces = up; pods = u.pods; tiers = u.tiers; policies = u.policies; egresses = u.egresses }) refl (λ ys. refl) (λ ys. refl)
made_facts c u (Put (object.Pod p)) none =
    other_facts (λ (p : PodData). p.key) pod_order c c.pods (λ xs. record c { fixed = true; pods = xs }) (Put (object.Pod p)) refl _
    (placed_facts (λ (p : PodData). p.key) pod_order_total pod.the_code p c.pods u.pods)
    (λ up. record { nodes = u.nodes; namespaces = u.namespaces; pods = up; tiers = u.tiers; policies = u.policies; egresses = u.egresses }) refl (λ ys. refl) (λ ys. refl)
made_facts c u (Put (object.Tier t)) none =
    other_facts (λ (t : TierData). t.priority) nat_cmp c c.tiers (λ xs. record c { fixed = true; tiers = xs }) (Put (object.Tier t)) refl _
    (placed_facts (λ (t : TierData). t.priority) nat_cmp_total tier.the_code t c.tiers u.tiers)
    (λ up. record { nodes = u.nodes; namespaces = u.namespaces; pods = u.pods; tiers = up; policies = u.policies; egresses = u.egresses }) refl (λ ys. refl) (λ ys. refl)
made_facts c u (Put (object.Policy p)) none =
    other_facts (λ (p : PolicyData). p.key) policy_order c c.policies (λ xs. record c { fixed = true; policies = xs }) (Put (object.Policy p)) refl _
    (placed_facts (λ (p : PolicyData). p.key) policy_order_total policy.the_code p c.policies u.policies)
    (λ up. record { nodes = u.nodes; namespaces = u.namespaces; pods = u.pods; tiers = u.tiers; policies = up; egresses = u.egresses }) refl (λ ys. refl) (λ ys. refl)
made_facts c u (Put (object.Egress e)) none =
    other_facts (λ (e : EgressData). e.name) text_order c c.egresses (λ xs. record c { fixed = true; egresses = xs }) (Put (object.Egress e)) refl _
    (placed_facts (λ (e : EgressData). e.name) text_order_total egress.the_code e c.egresses u.egresses)
    (λ up. record { nodes = u.nodes; namespaces = u.namespaces; pods = u.pods; tiers = u.tiers; policies = u.policies; egresses = up }) refl (λ ys. refl) (λ ys. refl)
made_facts c u (Remove (key.Node name)) none =
    node_facts c u (Remove (key.Node name)) refl _ (removed_facts (λ (n : NodeData). n.name) text_order_total name c.nodes u.nodes) (node_late c (Remove (key.Node name)) _ _ _ none)
made_facts c u (Remove (key.Namespace name)) none =
    other_facts (λ (n : NamespaceData). n.name) text_order c c.namespaces (λ xs. record c { fixed = true; namespaces = xs }) (Remove (key.Namespace name)) refl _
    (removed_facts (λ (n : NamespaceData). n.name) text_order_total name c.namespaces u.namespaces)
    (λ up. record { nodes = u.nodes; namespaces = up; pods = u.pods; tiers = u.tiers; policies = u.policies; egresses = u.egresses }) refl (λ ys. refl) (λ ys. refl)
made_facts c u (Remove (key.Pod name)) none =
    other_facts (λ (p : PodData). p.key) pod_order c c.pods (λ xs. record c { fixed = true; pods = xs }) (Remove (key.Pod name)) refl _
    (removed_facts (λ (p : PodData). p.key) pod_order_total name c.pods u.pods)
    (λ up. record { nodes = u.nodes; namespaces = u.namespaces; pods = up; tiers = u.tiers; policies = u.policies; egresses = u.egresses }) refl (λ ys. refl) (λ ys. refl)
made_facts c u (Remove (key.Tier name)) none =
    other_facts (λ (t : TierData). t.priority) nat_cmp c c.tiers (λ xs. record c { fixed = true; tiers = xs }) (Remove (key.Tier name)) refl _
    (without_tier_facts (tier_named name c.tiers) c.tiers u.tiers)
    (λ up. record { nodes = u.nodes; namespaces = u.namespaces; pods = u.pods; tiers = up; policies = u.policies; egresses = u.egresses }) refl (λ ys. refl) (λ ys. refl)
made_facts c u (Remove (key.Policy name)) none =
    other_facts (λ (p : PolicyData). p.key) policy_order c c.policies (λ xs. record c { fixed = true; policies = xs }) (Remove (key.Policy name)) refl _
    (removed_facts (λ (p : PolicyData). p.key) policy_order_total name c.policies u.policies)
    (λ up. record { nodes = u.nodes; namespaces = u.namespaces; pods = u.pods; tiers = u.tiers; policies = up; egresses = u.egresses }) refl (λ ys. refl) (λ ys. refl)
made_facts c u (Remove (key.Egress name)) none =
    other_facts (λ (e : EgressData). e.name) text_order c c.egresses (λ xs. record c { fixed = true; egresses = xs }) (Remove (key.Egress name)) refl _
    (removed_facts (λ (e : EgressData). e.name) text_order_total name c.egresses u.egresses)
    (λ up. record { nodes = u.nodes; namespaces = u.namespaces; pods = u.pods; tiers = u.tiers; policies = u.policies; egresses = up }) refl (λ ys. refl) (λ ys. refl)

-- a change that isn't refused is made
unless_made : (f : Option ClusterRefusal) (m o : Outcome) → unless f m ≡ Ok o → (f ≡ None) × (m ≡ o)
unless_made None m o e = (refl, ok_is refl e)
unless_made (Some r) m o e = cc

numbered_facts : (c : ClusterData) → IsOrdered c → (change : Change) (o : Outcome) → apply_numbered c change ≡ Ok o → ChangeFacts c change o
numbered_facts c u change o e =
    let parts = unless_made (first_refusal (checks c change)) (made c change) o e in
    subst (ChangeFacts c change) parts.1 (made_facts c u change parts.0)

-- the tier number of a policy's rules has no part in these facts
of_kind : (c : ClusterData) (change change' : Change) (o : Outcome) → is_node change ≡ is_node change' → ChangeFacts c change' o → ChangeFacts c change o
of_kind c change change' o e f = record {
  ordered = f.ordered;
  unchanged = f.unchanged;
  fixed_stays = f.fixed_stays;
  nodes_stay = f.nodes_stay;
  late = λ fixed node. f.late fixed (sym e ∙ node);
  fixes = λ other. f.fixes (sym e ∙ other);
  node_alone = λ node. f.node_alone (sym e ∙ node);
}

same_kind : (c : ClusterData) (change : Change) → is_node change ≡ is_node (numbered c change)
same_kind c (Put (object.Node n)) = refl
same_kind c (Put (object.Namespace n)) = refl
same_kind c (Put (object.Pod p)) = refl
same_kind c (Put (object.Tier t)) = refl
same_kind c (Put (object.Policy p)) = refl
same_kind c (Put (object.Egress e)) = refl
same_kind c (Remove k) = refl

pub change_facts : (c : ClusterData) → IsOrdered c → (change : Change) (o : Outcome) → apply c change ≡ Ok o → ChangeFacts c change o
change_facts c u change o e = of_kind c change (numbered c change) o (same_kind c change) (numbered_facts c u (numbered c change) o e)

pub none_ordered : IsOrdered no_objects
none_ordered = record { nodes = tt; namespaces = tt; pods = tt; tiers = search rules; policies = tt; egresses = tt }
