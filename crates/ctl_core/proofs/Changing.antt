-- What one change makes of the groups that are named, and of the cluster for which an index stands.
use Rattle.std.proofs.Common.{◌≡◌, ◌≢◌, ℕ, ◌+◌, List, [], ◌∷◌, ◌++◌, map, Bool, true, false, not as negated, ◌&&◌, cond, Option, Some, None, IsSome, option_map, Result, Ok, Err, if◌then◌else◌, refl, sym, ap, ap₂, subst, ◌∙◌, arith}
use Rattle.std.specs.List.{AllByRecursion, flat_map}
use Rattle.std.specs.Cmp.{IsTotalOrder}
use Rattle.std.specs.declared.cmp.Ordering.{Ordering}
use Rattle.std.specs.declared.cmp.Ordering.TheVariants.{Less, Equal, Greater}
use Rattle.std.specs.Option.{is_some, option_map_or}
use Rattle.std.specs.Ordering.{is_eq, match_ordering, ordering_reverse}
use Rattle.cl_types.specs.declared.keys.PodKey.{PodKey}
use Rattle.cl_types.specs.Ascending.{Ascends, found, put, without}
use Rattle.cl_types.specs.ListLaws.{all_weaker, filter_all}
use Rattle.cl_types.specs.PolicyName.{PolicyName}
use Rattle.cl_types.specs.RuleOrder.{policy_order, policy_order_total}
use Rattle.cl_types.specs.Text.{text_order, text_order_total}
use Rattle.label_select.specs.Group.{Group}
use Rattle.cluster_types.specs.declared.change.Change.{Change}
use Rattle.cluster_types.specs.declared.change.Change.TheVariants.{Put, Remove}
use Rattle.cluster_types.specs.declared.change.Object.{Object}
use Rattle.cluster_types.specs.declared.change.Object.TheVariants as object
use Rattle.cluster_types.specs.declared.change.ObjectKey.{ObjectKey}
use Rattle.cluster_types.specs.declared.change.ObjectKey.TheVariants as key
use Rattle.cluster_types.specs.declared.policy.Rule.{Rule}
use Rattle.cluster_types.specs.Cluster.{ClusterData, IsCluster}
use Rattle.cluster_types.specs.Counts.{total}
use Rattle.cluster_types.specs.Egress.{EgressData}
use Rattle.cluster_types.specs.Node.{NamespaceData}
use Rattle.cluster_types.specs.Pod.{PodData}
use Rattle.cluster_types.specs.Policy.{PolicyData}
use Rattle.cluster_types.specs.Steps.{is_kube}
use Rattle.cluster_objects.specs.declared.change.Applied.{Applied}
use Rattle.cluster_objects.specs.declared.change.Applied.TheVariants.{Changed, Unchanged}
use Rattle.cluster_objects.specs.Apply.{Outcome, at_egress, at_namespace, at_node, at_pod, at_policy, in_tier, made, makes_difference, numbered, numbered_policy, outcome, tier_of_policy}
use Rattle.cluster_types.specs.Tier.{TierData, tier_named}
use Rattle.cluster_objects.specs.Changes.{apply, is_node, key_of, standing}
use Rattle.group_index.specs.Before.{StandsBeforeNamespacePut, StandsBeforeNamespaceRemoved, StandsBeforePodPut, StandsBeforePodRemoved}
use Rattle.group_index.specs.Changes.{before_namespace, before_pod}
use Rattle.group_index.specs.Index.{EntryData, StandsFor}
use Rattle.group_index.specs.Members.{members_of}
use Rattle.watch_streams.specs.Projection.{policy_groups, rule_groups}
use Rattle.touched_names.specs.Touching.{counting_group, groups_named, named_groups}
use Rattle.ctl_core.specs.Following.{StandsBefore, namespace_in, pod_in}
use Rattle.ctl_core.specs.Line.{other_differs}
use Rattle.ctl_core.specs.Uses.{CountsBefore, IsCounted, named_by, named_if_any, new_object, once, times, uses_of}
use Rattle.ctl_core.proofs.Coming.{unless_ok}
use Rattle.ctl_core.proofs.Counting.{total-append}

-- ---- totals

abbrev counted : {T : Type 0} → (T → ℕ) → Option T → ℕ
counted f o = option_map_or f o 0

total-put : {T : Type 0} (f : T → ℕ) (at : T → Ordering) (x : T) (xs : List T) → total f (put at x xs) + counted f (found at xs) ≡ total f xs + f x
total-put f at x [] = omega arith
total-put f at x (y ∷ ys) = by_order (at y) (total-put f at x ys)
  where
    by_order : (r : Ordering) → total f (put at x ys) + counted f (found at ys) ≡ total f ys + f x
        → total f (match_ordering r (y ∷ put at x ys) (x ∷ ys) (x ∷ y ∷ ys)) + counted f (match_ordering r (found at ys) (Some y) None) ≡ (f y + total f ys) + f x
    by_order Less rest = omega arith
    by_order Equal rest = omega arith
    by_order Greater rest = omega arith

module _ {T K : Type 0} (f : T → ℕ) (key : T → K) {cmp : K → K → Ordering} (o : IsTotalOrder cmp) (k : K) where
  -- behind an item that isn't before the key nothing has the key
  none_behind : (x : T) (xs : List T) (r : Ordering) → cmp (key x) k ≡ r → r ≢ Less → AllByRecursion (λ z. cmp (key x) (key z) ≡ Less) xs → without (λ y. cmp (key y) k) xs ≡ xs
  none_behind x xs Less is not behind = absurd (not refl)
  none_behind x xs Equal is not behind =
      filter_all (λ z. negated (is_eq (cmp (key z) k))) xs
      (all_weaker (λ z. cmp (key x) (key z) ≡ Less) (λ z. negated (is_eq (cmp (key z) k)) ≡ true)
      (λ z less. ap (λ r. negated (is_eq r)) (o.antisymm (key z) k ∙ ap ordering_reverse (sym (o.congr (key x) k (key z) is) ∙ less))) xs behind)
  none_behind x xs Greater is not behind =
      let before : cmp k (key x) ≡ Less = o.antisymm k (key x) ∙ ap ordering_reverse is in
      filter_all (λ z. negated (is_eq (cmp (key z) k))) xs
      (all_weaker (λ z. cmp (key x) (key z) ≡ Less) (λ z. negated (is_eq (cmp (key z) k)) ≡ true)
      (λ z less. ap (λ r. negated (is_eq r)) (o.antisymm (key z) k ∙ ap ordering_reverse (o.trans k (key x) (key z) before less))) xs behind)

  total-without : (xs : List T) → Ascends key cmp xs → total f (without (λ y. cmp (key y) k) xs) + counted f (found (λ y. cmp (key y) k) xs) ≡ total f xs
  total-without [] up = omega arith
  total-without (x ∷ xs) up = by_order (cmp (key x) k) refl (total-without xs up.1)
    where
      by_order : (r : Ordering) → cmp (key x) k ≡ r → total f (without (λ y. cmp (key y) k) xs) + counted f (found (λ y. cmp (key y) k) xs) ≡ total f xs
          → total f (cond (negated (is_eq r)) (x ∷ without (λ y. cmp (key y) k) xs) (without (λ y. cmp (key y) k) xs)) + counted f (match_ordering r (found (λ y. cmp (key y) k) xs) (Some x) None) ≡ f x + total f xs
      by_order Less is rest = omega arith
      by_order Equal is rest = let same = ap (total f) (none_behind x xs Equal is (λ e. cc) up.0) in omega arith
      by_order Greater is rest = let same = ap (total f) (none_behind x xs Greater is (λ e. cc) up.0) in omega arith

total-flat : {T : Type 0} (g : Group) (names : T → List Group) (xs : List T) → times g (flat_map names xs) ≡ total (λ x. times g (names x)) xs
total-flat g names [] = refl
total-flat g names (x ∷ xs) = total-append (once g) (names x) (flat_map names xs) ∙ ap (λ n. times g (names x) + n) (total-flat g names xs)

-- ---- the groups that are named

abbrev by_policies : ClusterData → Group → ℕ
by_policies c g = total (λ (p : PolicyData). times g (groups_named p)) c.policies

abbrev by_egresses : ClusterData → Group → ℕ
by_egresses c g = total (λ (e : EgressData). times g (counting_group c e)) c.egresses

named_times : (c : ClusterData) (g : Group) → times g (named_groups c) ≡ by_policies c g + by_egresses c g
named_times c g =
    total-append (once g) (flat_map groups_named c.policies) (flat_map (counting_group c) c.egresses)
    ∙ ap₂ (λ a b. a + b) (total-flat g groups_named c.policies) (total-flat g (counting_group c) c.egresses)

-- the tier's number in a policy's rules names no group
same_rules : (number : ℕ) (rules : List Rule) → flat_map (λ (r : Rule). rule_groups r r.peers) (map (in_tier number) rules) ≡ flat_map (λ (r : Rule). rule_groups r r.peers) rules
same_rules number [] = refl
same_rules number (r ∷ rules) = ap (λ gs. rule_groups r r.peers ++ gs) (same_rules number rules)

pub numbered_names : (c : ClusterData) (p : PolicyData) → groups_named (numbered_policy c p) ≡ groups_named p
numbered_names c p = by_kind (is_kube p.key.kind)
  where
    by_kind : (b : Bool) → groups_named (if b then p else record p { rules = map (in_tier (option_map_or (λ (t : TierData). t.priority) (tier_of_policy c p) 0)) p.rules }) ≡ groups_named p
    by_kind true = refl
    by_kind false = ap (λ gs. p.applied ++ gs) (same_rules (option_map_or (λ (t : TierData). t.priority) (tier_of_policy c p) 0) p.rules)

pub numbered_key : (c : ClusterData) (p : PolicyData) → (numbered_policy c p).key ≡ p.key
numbered_key c p = by_kind (is_kube p.key.kind)
  where
    by_kind : (b : Bool) → (if b then p else record p { rules = map (in_tier (option_map_or (λ (t : TierData). t.priority) (tier_of_policy c p) 0)) p.rules }).key ≡ p.key
    by_kind true = refl
    by_kind false = refl

-- ---- what stood there

policy_stood : (c : ClusterData) (g : Group) (o : Option PolicyData) → times g (named_if_any c (option_map object.Policy o)) ≡ counted (λ (p : PolicyData). times g (groups_named p)) o
policy_stood c g None = refl
policy_stood c g (Some p) = refl

egress_stood : (c : ClusterData) (g : Group) (o : Option EgressData) → times g (named_if_any c (option_map object.Egress o)) ≡ counted (λ (e : EgressData). times g (counting_group c e)) o
egress_stood c g None = refl
egress_stood c g (Some e) = refl

-- a namespace, a pod and a tier name no group
none_stood : {T : Type 0} (c : ClusterData) (g : Group) (to : T → Object) → ((x : T) → named_by c (to x) ≡ []) → (o : Option T) → times g (named_if_any c (option_map to o)) ≡ 0
none_stood c g to none None = refl
none_stood c g to none (Some x) = ap (times g) (none x)

-- the policies changed so, and nothing else
policies_changed : (c new : ClusterData) (g : Group) (old more : ℕ) → by_policies new g + old ≡ by_policies c g + more → by_egresses new g ≡ by_egresses c g
    → times g (named_groups new) + old ≡ times g (named_groups c) + more
policies_changed c new g old more changed same = let after = named_times new g in let before = named_times c g in omega arith

egresses_changed : (c new : ClusterData) (g : Group) (old more : ℕ) → by_egresses new g + old ≡ by_egresses c g + more → by_policies new g ≡ by_policies c g
    → times g (named_groups new) + old ≡ times g (named_groups c) + more
egresses_changed c new g old more changed same = let after = named_times new g in let before = named_times c g in omega arith

abbrev NamesChange : ClusterData → Change → Group → ClusterData → Type 0
NamesChange c change g new =
    times g (named_groups new) + times g (named_if_any new (standing c (key_of change))) ≡ times g (named_groups c) + times g (named_if_any new (new_object change))

names_made : (c : ClusterData) (change : Change) (g : Group) → IsCluster c → is_node change ≡ false → NamesChange c change g (made c (numbered c change)).cluster
names_made c (Put (object.Node n)) g whole is = cc
names_made c (Put (object.Namespace n)) g whole is =
    ap (λ k. times g (named_groups c) + k) (none_stood (made c (Put (object.Namespace n))).cluster g object.Namespace (λ x. refl) (found (at_namespace n.name) c.namespaces))
names_made c (Put (object.Pod p)) g whole is =
    ap (λ k. times g (named_groups c) + k) (none_stood (made c (Put (object.Pod p))).cluster g object.Pod (λ x. refl) (found (at_pod p.key) c.pods))
names_made c (Put (object.Tier t)) g whole is =
    ap (λ k. times g (named_groups c) + k) (none_stood (made c (Put (object.Tier t))).cluster g object.Tier (λ x. refl) (tier_named t.name c.tiers))
names_made c (Put (object.Policy p)) g whole is =
    let new : ClusterData = (made c (numbered c (Put (object.Policy p)))).cluster in
    let stood = policy_stood new g (found (at_policy p.key) c.policies) in
    let names = ap (times g) (numbered_names c p) in
    let at_key = ap (λ k. counted (λ (q : PolicyData). times g (groups_named q)) (found (at_policy k) c.policies)) (numbered_key c p) in
    let put = total-put (λ (q : PolicyData). times g (groups_named q)) (at_policy (numbered_policy c p).key) (numbered_policy c p) c.policies in
    policies_changed c new g (times g (named_if_any new (standing c (key.Policy p.key)))) (times g (groups_named p)) (omega arith) refl
names_made c (Put (object.Egress e)) g whole is =
    let new : ClusterData = (made c (Put (object.Egress e))).cluster in
    let stood = egress_stood new g (found (at_egress e.name) c.egresses) in
    let put = total-put (λ (q : EgressData). times g (counting_group c q)) (at_egress e.name) e c.egresses in
    egresses_changed c new g (times g (named_if_any new (standing c (key.Egress e.name)))) (times g (counting_group c e)) (omega arith) refl
names_made c (Remove (key.Node name)) g whole is = cc
names_made c (Remove (key.Namespace name)) g whole is =
    ap (λ k. times g (named_groups c) + k) (none_stood (made c (Remove (key.Namespace name))).cluster g object.Namespace (λ x. refl) (found (at_namespace name) c.namespaces))
names_made c (Remove (key.Pod name)) g whole is =
    ap (λ k. times g (named_groups c) + k) (none_stood (made c (Remove (key.Pod name))).cluster g object.Pod (λ x. refl) (found (at_pod name) c.pods))
names_made c (Remove (key.Tier name)) g whole is =
    ap (λ k. times g (named_groups c) + k) (none_stood (made c (Remove (key.Tier name))).cluster g object.Tier (λ x. refl) (tier_named name c.tiers))
names_made c (Remove (key.Policy name)) g whole is =
    let new : ClusterData = (made c (Remove (key.Policy name))).cluster in
    let stood = policy_stood new g (found (at_policy name) c.policies) in
    let gone = total-without (λ (q : PolicyData). times g (groups_named q)) (λ (q : PolicyData). q.key) policy_order_total name c.policies whole.policies_ascend in
    policies_changed c new g (times g (named_if_any new (standing c (key.Policy name)))) 0 (omega arith) refl
names_made c (Remove (key.Egress name)) g whole is =
    let new : ClusterData = (made c (Remove (key.Egress name))).cluster in
    let stood = egress_stood new g (found (at_egress name) c.egresses) in
    let gone = total-without (λ (q : EgressData). times g (counting_group c q)) (λ (q : EgressData). q.name) text_order_total name c.egresses whole.egresses_ascend in
    egresses_changed c new g (times g (named_if_any new (standing c (key.Egress name)))) 0 (omega arith) refl

-- an index that counts the uses before a change counts what was named before it
pub counts_before : (c : ClusterData) (change : Change) (o : Outcome) (old : Option Object) (index : List EntryData) → IsCluster c → is_node change ≡ false → apply c change ≡ Ok o
    → old ≡ standing c (key_of change) → IsCounted c index → CountsBefore o.cluster old (new_object change) index
counts_before c change o old index whole is e stood counted = λ g.
    let changed : NamesChange c change g o.cluster = subst (λ (z : Outcome). NamesChange c change g z.cluster) (unless_ok _ (made c (numbered c change)) o e) (names_made c change g whole is) in
    let uses = counted.uses g in
    let same = ap (λ x. times g (named_if_any o.cluster x)) stood in
    omega arith

-- ---- the members

pod_back : (o : Option PodData) → pod_in (option_map object.Pod o) ≡ o
pod_back None = refl
pod_back (Some p) = refl

namespace_back : (o : Option NamespaceData) → namespace_in (option_map object.Namespace o) ≡ o
namespace_back None = refl
namespace_back (Some n) = refl

-- members hang on nothing but pods and namespaces
other_stands : (c new : ClusterData) (index : List EntryData) → new ≡ record c { fixed = new.fixed; tiers = new.tiers; policies = new.policies; egresses = new.egresses } → StandsFor index c → StandsFor index new
unfolding members_of
other_stands c new index is stands = subst (StandsFor index) (sym is) stands

pub stands_before : StandsBeforePodPut → StandsBeforePodRemoved → StandsBeforeNamespacePut → StandsBeforeNamespaceRemoved
    → (c : ClusterData) (change : Change) (o : Outcome) (old : Option Object) (index : List EntryData) → IsCluster c → is_node change ≡ false → o.applied ≡ Changed → apply c change ≡ Ok o
    → old ≡ standing c (key_of change) → StandsFor index c → StandsBefore change old index o.cluster
stands_before pod_put pod_removed namespace_put namespace_removed c change o old index whole is differs e stood stands =
    subst (λ x. StandsBefore change x index o.cluster) (sym stood) (by_change change is e)
  where
    made_is : (d : Change) → apply c d ≡ Ok o → made c (numbered c d) ≡ o
    made_is d f = unless_ok _ (made c (numbered c d)) o f

    other : (d : Change) → apply c d ≡ Ok o → ((z : Outcome) → made c (numbered c d) ≡ z → z.cluster ≡ record c { fixed = z.cluster.fixed; tiers = z.cluster.tiers; policies = z.cluster.policies; egresses = z.cluster.egresses }) → StandsFor index o.cluster
    other d f same = other_stands c o.cluster index (same o (made_is d f)) stands

    removed_pod : (name : PodKey) → apply c (Remove (key.Pod name)) ≡ Ok o → (r : Option PodData) → found (at_pod name) c.pods ≡ r → StandsFor index (before_pod (pod_in (option_map object.Pod r)) None o.cluster)
    removed_pod name f None none =
        let unchanged : o.applied ≡ Unchanged = sym (ap (λ (z : Outcome). z.applied) (made_is (Remove (key.Pod name)) f)) ∙ ap (λ r. if is_some r then Changed else Unchanged) none in
        cc
    removed_pod name f (Some p) there = pod_removed index c name p o whole f there stands

    by_change : (d : Change) → is_node d ≡ false → apply c d ≡ Ok o → StandsBefore d (standing c (key_of d)) index o.cluster
    by_change (Put (object.Node n)) is f = cc
    by_change (Put (object.Namespace n)) is f =
        subst (λ r. StandsFor index (before_namespace r n.name o.cluster)) (sym (namespace_back (found (at_namespace n.name) c.namespaces))) (namespace_put index c n o whole f stands)
    by_change (Put (object.Pod p)) is f =
        subst (λ r. StandsFor index (before_pod r (Some p) o.cluster)) (sym (pod_back (found (at_pod p.key) c.pods))) (pod_put index c p o whole f stands)
    by_change (Put (object.Tier t)) is f = other (Put (object.Tier t)) f (λ z m. subst (λ (y : Outcome). y.cluster ≡ record c { fixed = y.cluster.fixed; tiers = y.cluster.tiers; policies = y.cluster.policies; egresses = y.cluster.egresses }) m refl)
    by_change (Put (object.Policy p)) is f = other (Put (object.Policy p)) f (λ z m. subst (λ (y : Outcome). y.cluster ≡ record c { fixed = y.cluster.fixed; tiers = y.cluster.tiers; policies = y.cluster.policies; egresses = y.cluster.egresses }) m refl)
    by_change (Put (object.Egress x)) is f = other (Put (object.Egress x)) f (λ z m. subst (λ (y : Outcome). y.cluster ≡ record c { fixed = y.cluster.fixed; tiers = y.cluster.tiers; policies = y.cluster.policies; egresses = y.cluster.egresses }) m refl)
    by_change (Remove (key.Node name)) is f = cc
    by_change (Remove (key.Namespace name)) is f =
        subst (λ r. StandsFor index (before_namespace r name o.cluster)) (sym (namespace_back (found (at_namespace name) c.namespaces))) (namespace_removed index c name o whole f stands)
    by_change (Remove (key.Pod name)) is f = removed_pod name f (found (at_pod name) c.pods) refl
    by_change (Remove (key.Tier name)) is f = other (Remove (key.Tier name)) f (λ z m. subst (λ (y : Outcome). y.cluster ≡ record c { fixed = y.cluster.fixed; tiers = y.cluster.tiers; policies = y.cluster.policies; egresses = y.cluster.egresses }) m refl)
    by_change (Remove (key.Policy name)) is f = other (Remove (key.Policy name)) f (λ z m. subst (λ (y : Outcome). y.cluster ≡ record c { fixed = y.cluster.fixed; tiers = y.cluster.tiers; policies = y.cluster.policies; egresses = y.cluster.egresses }) m refl)
    by_change (Remove (key.Egress name)) is f = other (Remove (key.Egress name)) f (λ z m. subst (λ (y : Outcome). y.cluster ≡ record c { fixed = y.cluster.fixed; tiers = y.cluster.tiers; policies = y.cluster.policies; egresses = y.cluster.egresses }) m refl)

-- a change of something other than a Node made a difference
pub differs_so : (change : Change) (applied : Applied) → other_differs change applied ≡ true → (is_node change ≡ false) × (applied ≡ Changed)
differs_so change applied differs = by_both (is_node change) applied differs
  where
    by_both : (b : Bool) (a : Applied) → (negated b && makes_difference a) ≡ true → (b ≡ false) × (a ≡ Changed)
    by_both true a e = cc
    by_both false Unchanged e = cc
    by_both false Changed e = (refl, refl)

pub same_counted : (c new : ClusterData) (index : List EntryData) → new ≡ c → IsCounted c index → IsCounted new index
same_counted c new index same counted = subst (λ d. IsCounted d index) (sym same) counted
