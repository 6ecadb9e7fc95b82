-- What changes keep, what they leave as it was, and that they are taken back.
use Rattle.std.proofs.Common.{◌≡◌, List, [], ◌∷◌, ◌++◌, ℕ, Bool, true, false, ◌&&◌, Option, Some, None, find, if◌then◌else◌, Result, Ok, Err, refl, sym, ap, subst, ◌∙◌, option_map}
use Rattle.std.specs.List.{AllByRecursion}
use Rattle.std.specs.Option.{option_map_or}
use Rattle.std.specs.declared.cmp.Ordering.{Ordering}
use Rattle.std.specs.declared.cmp.Ordering.TheVariants.{Less, Equal, Greater}
use Rattle.std.specs.Ordering.{match_ordering}
use Rattle.std.proofs.lemmas.Cmp.{nat_cmp_total, tied_itself}
use Rattle.cl_types.specs.Ascending.{found, put, without}
use Rattle.cl_types.specs.AscendingLaws.{found_at}
use Rattle.cl_types.specs.OrderLaws.{nat_exact, pod_order_exact, policy_order_exact, text_eq-itself, text_order_exact}
use Rattle.cl_types.specs.RuleOrder.{pod_order_total, policy_order_total}
use Rattle.cl_types.specs.Text.{text_eq, text_order_total}
use Rattle.cluster_types.specs.declared.change.Change.{Change}
use Rattle.cluster_types.specs.declared.change.Change.TheVariants.{Put, Remove}
use Rattle.cluster_types.specs.declared.change.Object.{Object}
use Rattle.cluster_types.specs.declared.change.Object.TheVariants as object
use Rattle.cluster_types.specs.declared.change.ObjectKey.TheVariants as key
use Rattle.cluster_types.specs.declared.egress.EgressObj as egress
use Rattle.cluster_types.specs.declared.node.Namespace as namespace
use Rattle.cluster_types.specs.declared.node.NodeInfo as node
use Rattle.cluster_types.specs.declared.pod.Pod as pod
use Rattle.cluster_types.specs.declared.policy.Policy as policy
use Rattle.cluster_types.specs.declared.policy.Tier as tier
use Rattle.cluster_types.specs.Cluster.{ClusterData, IsCluster}
use Rattle.cluster_types.specs.Egress.{EgressData}
use Rattle.cluster_types.specs.Node.{NamespaceData, NodeData}
use Rattle.cluster_types.specs.Pod.{PodData}
use Rattle.cluster_types.specs.Policy.{PolicyData}
use Rattle.cluster_types.specs.Steps.{is_kube}
use Rattle.cluster_types.specs.Tier.{TierData, tier_named}
use Rattle.cluster_types.specs.Whole.{IsWholePolicy}
use Rattle.cluster_objects.specs.declared.change.Applied.{Applied}
use Rattle.cluster_objects.specs.declared.change.Applied.TheVariants.{Changed, Unchanged}
use Rattle.cluster_objects.specs.declared.change.ClusterRefusal.{ClusterRefusal}
use Rattle.cluster_objects.specs.declared.change.ClusterRefusal.TheVariants.{NodesFixed}
use Rattle.cluster_objects.specs.declared.change.Undo.{Undo}
use Rattle.cluster_objects.specs.Apply.{Outcome, made, makes_difference, numbered, numbered_policy, without_tier, at_node, at_namespace, at_pod, at_tier, at_policy, at_egress}
use Rattle.cluster_objects.specs.Changes.{Outcomes, after, and_then, apply, unless, key_of, standing, stood_again, cleared_again, taken_back, undo_of}
use Rattle.cluster_objects.specs.Laws.{IsWholeChange, undoes_of, all_taken_back}
use Rattle.cluster_objects.specs.Refusals.{checks, first_refusal, nodes_fixed}
use Rattle.cluster_objects.proofs.Keeping.{numbered_again, node_put, node_removed, namespace_put, namespace_removed, pod_put, pod_removed, tier_put, tier_removed, policy_put, policy_removed, egress_put, egress_removed, fixed_none, taken_none}
use Rattle.cluster_objects.proofs.Numbered.{is_whole_policy_still}
use Rattle.cluster_objects.proofs.Refusals.{not_when, none_first}
use Rattle.cluster_objects.proofs.TakenBack.{put_undone, remove_undone, put_unchanged, remove_unchanged, without_put, put_without, put_back}
use Rattle.cluster_objects.proofs.Tiers.{one_tier, stands_there}
use Rattle.cluster_objects.proofs.TiersKept.{number, with_number}

-- ---- changes that aren't refused

ok_one : {A B : Type 0} {x y : A} → (let r : Result A B = Ok x in r) ≡ Ok y → x ≡ y
ok_one e = cc

unless_ok : (r : Option ClusterRefusal) (out o : Outcome) → unless r out ≡ Ok o → (r ≡ None) × (out ≡ o)
unless_ok None out o e = (refl, ok_one e)
unless_ok (Some r) out o e = cc

applied_ok : (c : ClusterData) (d : Change) (o : Outcome) → apply c d ≡ Ok o → (first_refusal (checks c (numbered c d)) ≡ None) × (made c (numbered c d) ≡ o)
applied_ok c d o e = unless_ok (first_refusal (checks c (numbered c d))) (made c (numbered c d)) o e

-- ---- what changes keep

policy_one : {p q : PolicyData} → Put (object.Policy p) ≡ Put (object.Policy q) → p ≡ q
policy_one e = cc

made_keeps : (c : ClusterData) → IsCluster c → (d : Change) → IsWholeChange d → numbered c d ≡ d → first_refusal (checks c d) ≡ None → IsCluster (made c d).cluster
made_keeps c was (Put (object.Node n)) whole same none = node_put c was n whole none
made_keeps c was (Put (object.Namespace n)) whole same none = namespace_put c was n whole none
made_keeps c was (Put (object.Pod p)) whole same none = pod_put c was p whole none
made_keeps c was (Put (object.Tier t)) whole same none = tier_put c was t none
made_keeps c was (Put (object.Policy p)) whole same none = policy_put c was p whole (policy_one same) none
made_keeps c was (Put (object.Egress e)) whole same none = egress_put c was e whole none
made_keeps c was (Remove (key.Node name)) whole same none = node_removed c was name
made_keeps c was (Remove (key.Namespace name)) whole same none = namespace_removed c was name
made_keeps c was (Remove (key.Pod name)) whole same none = pod_removed c was name
made_keeps c was (Remove (key.Tier name)) whole same none = tier_removed c was name none
made_keeps c was (Remove (key.Policy name)) whole same none = policy_removed c was name
made_keeps c was (Remove (key.Egress name)) whole same none = egress_removed c was name

-- a policy keeps its form and its key when its rules get their number
module _ (c : ClusterData) (p : PolicyData) where
  by_kind : (P : PolicyData → Type 0) → (is_kube p.key.kind ≡ true → P p) → (is_kube p.key.kind ≡ false → P (with_number c p)) → P (numbered_policy c p)
  by_kind P kube native = by_test (is_kube p.key.kind) refl
    where
      by_test : (b : Bool) → is_kube p.key.kind ≡ b → P (if b then p else with_number c p)
      by_test true is = kube is
      by_test false is = native is

  numbered_is_policy : IsWholePolicy p → IsWholePolicy (numbered_policy c p)
  numbered_is_policy form = by_kind IsWholePolicy (λ kube. form) (λ native. is_whole_policy_still (number c p) p native form)

  numbered_key : (numbered_policy c p).key ≡ p.key
  numbered_key = by_kind (λ (q : PolicyData). q.key ≡ p.key) (λ kube. refl) (λ native. refl)

whole_numbered : (c : ClusterData) (d : Change) → IsWholeChange d → IsWholeChange (numbered c d)
whole_numbered c (Put (object.Node n)) whole = whole
whole_numbered c (Put (object.Namespace n)) whole = whole
whole_numbered c (Put (object.Pod p)) whole = whole
whole_numbered c (Put (object.Tier t)) whole = whole
whole_numbered c (Put (object.Policy p)) whole = numbered_is_policy c p whole
whole_numbered c (Put (object.Egress e)) whole = whole
whole_numbered c (Remove k) whole = whole

pub change_keeps : (c : ClusterData) (d : Change) (o : Outcome) → IsCluster c → IsWholeChange d → apply c d ≡ Ok o → IsCluster o.cluster
change_keeps c d o was whole e =
    let ok = applied_ok c d o e in
    subst (λ (out : Outcome). IsCluster out.cluster) ok.1 (made_keeps c was (numbered c d) (whole_numbered c d whole) (numbered_again c d) ok.0)

-- what holds of a list of changes that aren't refused: of the first, and of the later ones
module _ (c : ClusterData) (d : Change) (ds : List Change) (o : Outcomes) where
  pub by_first : (P : Type 0) → ((first : Outcome) (later : Outcomes) → apply c d ≡ Ok first → after first.cluster ds ≡ Ok later → later.cluster ≡ o.cluster → P) → after c (d ∷ ds) ≡ Ok o → P
  by_first P f e = at_first (apply c d) refl e
    where
      at_first : (r : Result Outcome ClusterRefusal) → apply c d ≡ r → and_then d r (λ changed. after changed ds) ≡ Ok o → P
      at_first (Err x) is g = cc
      at_first (Ok first) is g = at_later (after first.cluster ds) refl g
        where
          at_later : (r : Result Outcomes ClusterRefusal) → after first.cluster ds ≡ r → and_then d (Ok first) (λ changed. r) ≡ Ok o → P
          at_later (Err x) are h = cc
          at_later (Ok later) are h = f first later is are (ap (λ (out : Outcomes). out.cluster) (ok_one h))

pub changes_keep : (c : ClusterData) (ds : List Change) (o : Outcomes) → IsCluster c → AllByRecursion IsWholeChange ds → after c ds ≡ Ok o → IsCluster o.cluster
changes_keep c [] o was whole e = subst (λ (out : Outcomes). IsCluster out.cluster) (ok_one e) was
changes_keep c (d ∷ ds) o was whole e =
    by_first c d ds o (IsCluster o.cluster)
    (λ first later is are one. subst IsCluster one (changes_keep first.cluster ds later (change_keeps c d first was whole.0 is) whole.1 are)) e

-- ---- what changes leave as it was

module _ (c : ClusterData) (was : IsCluster c) where
  unchanged : (d : Change) → (made c d).applied ≡ Unchanged → (made c d).cluster ≡ record c { fixed = (made c d).cluster.fixed }
  unchanged (Put (object.Node n)) same = ap (λ (ns : List NodeData). record c { nodes = ns }) (put_unchanged node.the_code (at_node n.name) n c.nodes same)
  unchanged (Put (object.Namespace n)) same =
      ap (λ (ns : List NamespaceData). record c { fixed = true; namespaces = ns }) (put_unchanged namespace.the_code (at_namespace n.name) n c.namespaces same)
  unchanged (Put (object.Pod p)) same = ap (λ (ps : List PodData). record c { fixed = true; pods = ps }) (put_unchanged pod.the_code (at_pod p.key) p c.pods same)
  unchanged (Put (object.Tier t)) same = ap (λ (ts : List TierData). record c { fixed = true; tiers = ts }) (put_unchanged tier.the_code (at_tier t.priority) t c.tiers same)
  unchanged (Put (object.Policy p)) same =
      ap (λ (ps : List PolicyData). record c { fixed = true; policies = ps }) (put_unchanged policy.the_code (at_policy p.key) p c.policies same)
  unchanged (Put (object.Egress e)) same =
      ap (λ (es : List EgressData). record c { fixed = true; egresses = es }) (put_unchanged egress.the_code (at_egress e.name) e c.egresses same)
  unchanged (Remove (key.Node name)) same =
      ap (λ (ns : List NodeData). record c { nodes = ns }) (remove_unchanged (λ (n : NodeData). n.name) text_order_total name c.nodes was.nodes_ascend same)
  unchanged (Remove (key.Namespace name)) same =
      ap (λ (ns : List NamespaceData). record c { fixed = true; namespaces = ns })
      (remove_unchanged (λ (n : NamespaceData). n.name) text_order_total name c.namespaces was.namespaces_ascend same)
  unchanged (Remove (key.Pod name)) same =
      ap (λ (ps : List PodData). record c { fixed = true; pods = ps }) (remove_unchanged (λ (p : PodData). p.key) pod_order_total name c.pods was.pods_ascend same)
  unchanged (Remove (key.Tier name)) same = ap (λ (ts : List TierData). record c { fixed = true; tiers = ts }) (by_tier (tier_named name c.tiers) same)
    where
      by_tier : (o : Option TierData) → (without_tier o c.tiers).applied ≡ Unchanged → (without_tier o c.tiers).items ≡ c.tiers
      by_tier None e = refl
      by_tier (Some t) e = remove_unchanged (λ (s : TierData). s.priority) nat_cmp_total t.priority c.tiers was.tiers_ascend e
  unchanged (Remove (key.Policy name)) same =
      ap (λ (ps : List PolicyData). record c { fixed = true; policies = ps }) (remove_unchanged (λ (p : PolicyData). p.key) policy_order_total name c.policies was.policies_ascend same)
  unchanged (Remove (key.Egress name)) same =
      ap (λ (es : List EgressData). record c { fixed = true; egresses = es }) (remove_unchanged (λ (e : EgressData). e.name) text_order_total name c.egresses was.egresses_ascend same)

  pub unchanged_leaves : (d : Change) (o : Outcome) → apply c d ≡ Ok o → o.applied ≡ Unchanged → o.cluster ≡ record c { fixed = o.cluster.fixed }
  unchanged_leaves d o e same =
      let ok = applied_ok c d o e in
      subst (λ (out : Outcome). out.cluster ≡ record c { fixed = out.cluster.fixed }) ok.1
      (unchanged (numbered c d) (ap (λ (out : Outcome). out.applied) ok.1 ∙ same))

  module _ (fixed : c.fixed ≡ true) where
    no_difference : (d : Change) → nodes_fixed c d ≡ None → (made c d).applied ≡ Unchanged
    no_difference d none = by_fixed c.fixed (made c d).applied fixed (not_when (c.fixed && makes_difference (made c d).applied) NodesFixed none)
      where
        by_fixed : (f : Bool) (a : Applied) → f ≡ true → (f && makes_difference a) ≡ false → a ≡ Unchanged
        by_fixed true Unchanged e g = refl
        by_fixed true Changed e g = cc
        by_fixed false a e g = cc

    nodes_stay : (d : Change) → first_refusal (checks c d) ≡ None → ((made c d).cluster.nodes ≡ c.nodes) × ((made c d).cluster.fixed ≡ true)
    nodes_stay (Put (object.Node n)) none =
        (ap (λ (k : ClusterData). k.nodes) (unchanged (Put (object.Node n)) (no_difference (Put (object.Node n)) (none_first (nodes_fixed c (Put (object.Node n))) _ none))), fixed)
    nodes_stay (Put (object.Namespace n)) none = (refl, refl)
    nodes_stay (Put (object.Pod p)) none = (refl, refl)
    nodes_stay (Put (object.Tier t)) none = (refl, refl)
    nodes_stay (Put (object.Policy p)) none = (refl, refl)
    nodes_stay (Put (object.Egress e)) none = (refl, refl)
    nodes_stay (Remove (key.Node name)) none =
        (ap (λ (k : ClusterData). k.nodes) (unchanged (Remove (key.Node name)) (no_difference (Remove (key.Node name)) (none_first (nodes_fixed c (Remove (key.Node name))) [] none))), fixed)
    nodes_stay (Remove (key.Namespace name)) none = (refl, refl)
    nodes_stay (Remove (key.Pod name)) none = (refl, refl)
    nodes_stay (Remove (key.Tier name)) none = (refl, refl)
    nodes_stay (Remove (key.Policy name)) none = (refl, refl)
    nodes_stay (Remove (key.Egress name)) none = (refl, refl)

    pub fixed_nodes_stay : (d : Change) (o : Outcome) → apply c d ≡ Ok o → (o.cluster.nodes ≡ c.nodes) × (o.cluster.fixed ≡ true)
    fixed_nodes_stay d o e =
        let ok = applied_ok c d o e in
        subst (λ (out : Outcome). (out.cluster.nodes ≡ c.nodes) × (out.cluster.fixed ≡ true)) ok.1 (nodes_stay (numbered c d) ok.0)

-- ---- taking back

mapped : {A B C : Type 0} (g : A → B) (f : B → C) (p : Option A) (z : C) → option_map_or f (option_map g p) z ≡ option_map_or (λ a. f (g a)) p z
mapped g f None z = refl
mapped g f (Some a) z = refl

-- what a test finds once an item that passes is put where none passed
find_put : {T : Type 0} (p : T → Bool) (at : T → Ordering) (x : T) (xs : List T) → p x ≡ true → find p xs ≡ None → find p (put at x xs) ≡ Some x
find_put p at x [] passes none = ap (λ b. if b then Some x else None) passes
find_put p at x (y ∷ ys) passes none = by_test (p y) refl none (find_put p at x ys passes)
  where
    by_test : (b : Bool) → p y ≡ b → (if b then Some y else find p ys) ≡ None → (find p ys ≡ None → find p (put at x ys) ≡ Some x) → find p (put at x (y ∷ ys)) ≡ Some x
    by_test true is e rest = cc
    by_test false is e rest = by_place (at y)
      where
        by_place : (r : Ordering) → find p (match_ordering r (y ∷ put at x ys) (x ∷ ys) (x ∷ y ∷ ys)) ≡ Some x
        by_place Less = ap (λ b. if b then Some y else find p (put at x ys)) is ∙ rest e
        by_place Equal = ap (λ b. if b then Some x else find p ys) passes
        by_place Greater = ap (λ b. if b then Some x else find p (y ∷ ys)) passes

module _ (c : ClusterData) (was : IsCluster c) where
  -- the cluster of before, whatever the nodes' fixing
  abbrev back : ClusterData → Change → ClusterData
  back now d = taken_back now (undo_of c d)

  tier_put_back : (t : TierData) → first_refusal (checks c (Put (object.Tier t))) ≡ None → back (made c (Put (object.Tier t))).cluster (Put (object.Tier t)) ≡ c
  tier_put_back t none = mapped object.Tier (λ (o : Object). stood_again changed o c.fixed) (tier_named t.name c.tiers) (cleared_again changed (key.Tier t.name) c.fixed) ∙ by_tier (tier_named t.name c.tiers) refl
    where
      changed : ClusterData
      changed = (made c (Put (object.Tier t))).cluster

      one : found (at_tier t.priority) c.tiers ≡ tier_named t.name c.tiers
      one = one_tier t c.tiers was.tiers_ascend (fixed_none c was t none) (taken_none c was t none)

      by_tier : (o : Option TierData) → tier_named t.name c.tiers ≡ o
          → option_map_or (λ (s : TierData). stood_again changed (object.Tier s) c.fixed) o (cleared_again changed (key.Tier t.name) c.fixed) ≡ c
      by_tier None e =
          ap (λ (o : Option TierData). record c { tiers = (without_tier o changed.tiers).items })
          (find_put (λ (s : TierData). text_eq s.name t.name) (at_tier t.priority) t c.tiers (text_eq-itself t.name) e)
          ∙ ap (λ (ts : List TierData). record c { tiers = ts })
          (without_put (λ (s : TierData). s.priority) nat_cmp_total t.priority t (tied_itself nat_cmp_total t.priority) c.tiers was.tiers_ascend (one ∙ e))
      by_tier (Some s) e =
          let same = nat_exact s.priority t.priority (found_at (at_tier t.priority) c.tiers s (one ∙ e)) in
          ap (λ k. record c { tiers = put (at_tier k) s changed.tiers }) same
          ∙ ap (λ (ts : List TierData). record c { tiers = ts })
          (put_back (λ (u : TierData). u.priority) nat_cmp_total t.priority t s (tied_itself nat_cmp_total t.priority) c.tiers (one ∙ e))

  tier_removal_back : (name : List ℕ) → back (made c (Remove (key.Tier name))).cluster (Remove (key.Tier name)) ≡ c
  tier_removal_back name = mapped object.Tier (λ (o : Object). stood_again changed o c.fixed) (tier_named name c.tiers) (cleared_again changed (key.Tier name) c.fixed) ∙ by_tier (tier_named name c.tiers) refl
    where
      changed : ClusterData
      changed = (made c (Remove (key.Tier name))).cluster

      by_tier : (o : Option TierData) → tier_named name c.tiers ≡ o
          → option_map_or (λ (s : TierData). stood_again changed (object.Tier s) c.fixed) o (cleared_again changed (key.Tier name) c.fixed) ≡ c
      by_tier None e =
          let gone : changed.tiers ≡ c.tiers = ap (λ (o : Option TierData). (without_tier o c.tiers).items) e in
          ap (λ (ts : List TierData). record c { tiers = (without_tier (tier_named name ts) ts).items }) gone
          ∙ ap (λ (o : Option TierData). record c { tiers = (without_tier o c.tiers).items }) e
      by_tier (Some t) e =
          let gone : changed.tiers ≡ without (at_tier t.priority) c.tiers = ap (λ (o : Option TierData). (without_tier o c.tiers).items) e in
          ap (λ (ts : List TierData). record c { tiers = put (at_tier t.priority) t ts }) gone
          ∙ ap (λ (ts : List TierData). record c { tiers = ts })
          (put_without (λ (s : TierData). s.priority) nat_cmp_total t.priority t c.tiers was.tiers_ascend (stands_there (λ (s : TierData). text_eq s.name name) t c.tiers was.tiers_ascend e))

  abbrev again : Change → Object → ClusterData
  again d o = stood_again (made c d).cluster o c.fixed

  abbrev cleared : Change → ClusterData
  cleared d = cleared_again (made c d).cluster (key_of d) c.fixed

  made_back : (d : Change) → first_refusal (checks c d) ≡ None → back (made c d).cluster d ≡ c
  made_back (Put (object.Node n)) none =
      mapped object.Node (again (Put (object.Node n))) (found (at_node n.name) c.nodes) (cleared (Put (object.Node n))) ∙ put_undone (λ (m : NodeData). m.name) text_order_total text_order_exact (λ (ns : List NodeData). record c { nodes = ns }) n c.nodes was.nodes_ascend
  made_back (Put (object.Namespace n)) none =
      mapped object.Namespace (again (Put (object.Namespace n))) (found (at_namespace n.name) c.namespaces) (cleared (Put (object.Namespace n)))
      ∙ put_undone (λ (m : NamespaceData). m.name) text_order_total text_order_exact (λ (ns : List NamespaceData). record c { namespaces = ns }) n c.namespaces was.namespaces_ascend
  made_back (Put (object.Pod p)) none =
      mapped object.Pod (again (Put (object.Pod p))) (found (at_pod p.key) c.pods) (cleared (Put (object.Pod p))) ∙ put_undone (λ (q : PodData). q.key) pod_order_total pod_order_exact (λ (ps : List PodData). record c { pods = ps }) p c.pods was.pods_ascend
  made_back (Put (object.Tier t)) none = tier_put_back t none
  made_back (Put (object.Policy p)) none =
      mapped object.Policy (again (Put (object.Policy p))) (found (at_policy p.key) c.policies) (cleared (Put (object.Policy p)))
      ∙ put_undone (λ (q : PolicyData). q.key) policy_order_total policy_order_exact (λ (ps : List PolicyData). record c { policies = ps }) p c.policies was.policies_ascend
  made_back (Put (object.Egress e)) none =
      mapped object.Egress (again (Put (object.Egress e))) (found (at_egress e.name) c.egresses) (cleared (Put (object.Egress e)))
      ∙ put_undone (λ (f : EgressData). f.name) text_order_total text_order_exact (λ (es : List EgressData). record c { egresses = es }) e c.egresses was.egresses_ascend
  made_back (Remove (key.Node name)) none =
      mapped object.Node (again (Remove (key.Node name))) (found (at_node name) c.nodes) (cleared (Remove (key.Node name))) ∙ remove_undone (λ (m : NodeData). m.name) text_order_total text_order_exact (λ (ns : List NodeData). record c { nodes = ns }) name c.nodes was.nodes_ascend
  made_back (Remove (key.Namespace name)) none =
      mapped object.Namespace (again (Remove (key.Namespace name))) (found (at_namespace name) c.namespaces) (cleared (Remove (key.Namespace name)))
      ∙ remove_undone (λ (m : NamespaceData). m.name) text_order_total text_order_exact (λ (ns : List NamespaceData). record c { namespaces = ns }) name c.namespaces was.namespaces_ascend
  made_back (Remove (key.Pod name)) none =
      mapped object.Pod (again (Remove (key.Pod name))) (found (at_pod name) c.pods) (cleared (Remove (key.Pod name))) ∙ remove_undone (λ (q : PodData). q.key) pod_order_total pod_order_exact (λ (ps : List PodData). record c { pods = ps }) name c.pods was.pods_ascend
  made_back (Remove (key.Tier name)) none = tier_removal_back name
  made_back (Remove (key.Policy name)) none =
      mapped object.Policy (again (Remove (key.Policy name))) (found (at_policy name) c.policies) (cleared (Remove (key.Policy name)))
      ∙ remove_undone (λ (q : PolicyData). q.key) policy_order_total policy_order_exact (λ (ps : List PolicyData). record c { policies = ps }) name c.policies was.policies_ascend
  made_back (Remove (key.Egress name)) none =
      mapped object.Egress (again (Remove (key.Egress name))) (found (at_egress name) c.egresses) (cleared (Remove (key.Egress name)))
      ∙ remove_undone (λ (f : EgressData). f.name) text_order_total text_order_exact (λ (es : List EgressData). record c { egresses = es }) name c.egresses was.egresses_ascend

-- what takes a change back doesn't look at the tier number
same_undo : (c : ClusterData) (d : Change) → undo_of c (numbered c d) ≡ undo_of c d
same_undo c (Put (object.Node n)) = refl
same_undo c (Put (object.Namespace n)) = refl
same_undo c (Put (object.Pod p)) = refl
same_undo c (Put (object.Tier t)) = refl
same_undo c (Put (object.Policy p)) = ap (λ k. record { key = key.Policy k; old = standing c (key.Policy k); fixed = c.fixed }) (numbered_key c p)
same_undo c (Put (object.Egress e)) = refl
same_undo c (Remove k) = refl

pub undo_takes_back : (c : ClusterData) (d : Change) (o : Outcome) → IsCluster c → apply c d ≡ Ok o → taken_back o.cluster (undo_of c d) ≡ c
undo_takes_back c d o was e =
    let ok = applied_ok c d o e in
    ap (λ (out : Outcome). taken_back out.cluster (undo_of c d)) (sym ok.1)
    ∙ ap (λ (u : Undo). taken_back (made c (numbered c d)).cluster u) (sym (same_undo c d))
    ∙ made_back c was (numbered c d) ok.0

back_in_turn : (c : ClusterData) (us : List Undo) (u : Undo) → all_taken_back c (us ++ u ∷ []) ≡ taken_back (all_taken_back c us) u
back_in_turn c [] u = refl
back_in_turn c (v ∷ us) u = back_in_turn (taken_back c v) us u

pub undoes_take_back : (c : ClusterData) (ds : List Change) (o : Outcomes) → IsCluster c → AllByRecursion IsWholeChange ds → after c ds ≡ Ok o → all_taken_back o.cluster (undoes_of c ds) ≡ c
undoes_take_back c [] o was whole e = ap (λ (out : Outcomes). out.cluster) (sym (ok_one e))
undoes_take_back c (d ∷ ds) o was whole e =
    by_first c d ds o (all_taken_back o.cluster (undoes_of c (d ∷ ds)) ≡ c)
    (λ first later is are one.
    let ok = applied_ok c d first is in
    ap (λ (k : ClusterData). all_taken_back k (undoes_of c (d ∷ ds))) (sym one)
    ∙ back_in_turn later.cluster (undoes_of (made c (numbered c d)).cluster ds) (undo_of c d)
    ∙ ap (λ (out : Outcome). taken_back (all_taken_back later.cluster (undoes_of out.cluster ds)) (undo_of c d)) ok.1
    ∙ ap (λ (k : ClusterData). taken_back k (undo_of c d)) (undoes_take_back first.cluster ds later (change_keeps c d first was whole.0 is) whole.1 are)
    ∙ undo_takes_back c d first was is) e
