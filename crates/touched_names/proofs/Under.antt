-- What is found under a name in what belongs on a stream.
use Rattle.std.proofs.Common.{◌≡◌, ℕ, List, [], ◌∷◌, ◌++◌, codes, Bool, true, false, ◌&&◌, ◌||◌, Option, Some, None, option_map, if◌then◌else◌, map, flat_map, refl, sym, ap, ap₂, ◌∙◌}
use Rattle.std.specs.List.{AllByRecursion, list_any}
use Rattle.std.specs.Cmp.{IsTotalOrder}
use Rattle.std.specs.declared.cmp.Ordering.{Ordering}
use Rattle.std.specs.declared.cmp.Ordering.TheVariants.{Less, Equal, Greater}
use Rattle.std.specs.Ordering.{is_eq, match_ordering}
use Rattle.std.proofs.lemmas.Cmp.{tied_itself}
use Rattle.std.proofs.lemmas.List.Folds.{list_any-append}
use Rattle.cl_types.specs.declared.stream.Stream.TheVariants.{Policies, Addresses, Applied}
use Rattle.cl_types.specs.Ascending.{Ascends, found}
use Rattle.cl_types.specs.AscendingLaws.{ascends_filter, found_filter, none_behind}
use Rattle.cl_types.specs.ListLaws.{all_filter, all_weaker}
use Rattle.cl_types.specs.OrderLaws.{policy_order_exact, text_order_exact}
use Rattle.cl_types.specs.PolicyName.{PolicyName, IsPolicyName}
use Rattle.cl_types.specs.RuleOrder.{policy_order, policy_order_total}
use Rattle.cl_types.specs.Text.{text_order, text_order_total}
use Rattle.cl_types.specs.Written.{policy_text}
use Rattle.label_select.specs.Group.{Group, IsGroup}
use Rattle.label_select.specs.Written.{group_text}
use Rattle.cluster_types.specs.Cluster.{ClusterData, IsCluster}
use Rattle.cluster_types.specs.Egress.{EgressData}
use Rattle.cluster_types.specs.Policy.{PolicyData}
use Rattle.cluster_types.specs.Whole.{IsWholePolicy}
use Rattle.watch_streams.specs.declared.message.StreamName.TheVariants as name
use Rattle.watch_streams.specs.declared.message.StreamObject.{StreamObject}
use Rattle.watch_streams.specs.MapLaws.{first_at, found_by_name}
use Rattle.watch_streams.specs.Names.{at_text, by_name, object_text}
use Rattle.watch_streams.specs.Net.{MemberData}
use Rattle.watch_streams.specs.OneOfAll.{all_append, all_flat_map, all_map, all_of, list_any-filter, list_any-flat_map, list_any-map}
use Rattle.watch_streams.specs.Projection.{egress_is_on, egresses_on, group_members, group_object, members_on, on_policies, policies_on, policy_groups, policy_is_on}
use Rattle.watch_streams.proofs.GroupForms.{policy_forms}
use Rattle.touched_names.specs.Standing.{NamesStandAlone, egress_object, egress_standing, group_standing, has_group, is_applied_on, is_group, policy_object, policy_standing}
use Rattle.touched_names.proofs.NameTexts.{group_no_egress, group_no_policy, policy_no_egress}

-- ---- tests of texts

both_ways : (r s : Ordering) → (r ≡ Equal → s ≡ Equal) → (s ≡ Equal → r ≡ Equal) → is_eq r ≡ is_eq s
both_ways Less Less f g = refl
both_ways Less Equal f g = let e : Less ≡ Equal = g refl in cc
both_ways Less Greater f g = refl
both_ways Equal Less f g = let e : Less ≡ Equal = f refl in cc
both_ways Equal Equal f g = refl
both_ways Equal Greater f g = let e : Greater ≡ Equal = f refl in cc
both_ways Greater Less f g = refl
both_ways Greater Equal f g = let e : Greater ≡ Equal = g refl in cc
both_ways Greater Greater f g = refl

-- keys that texts tell apart are one where their texts are
tests_agree : {K : Type 0} {cmp : K → K → Ordering} → IsTotalOrder cmp → (text : K → List ℕ) (a b : K) → (text a ≡ text b → a ≡ b) → (cmp a b ≡ Equal → a ≡ b)
    → is_eq (text_order (text a) (text b)) ≡ is_eq (cmp a b)
tests_agree {cmp = cmp} o text a b by_text by_cmp =
    both_ways (text_order (text a) (text b)) (cmp a b)
    (λ e. ap (cmp a) (sym (by_text (text_order_exact (text a) (text b) e))) ∙ tied_itself o a)
    (λ e. ap (λ z. text_order (text a) (text z)) (sym (by_cmp e)) ∙ tied_itself text_order_total (text a))

other_text : (u t : List ℕ) → (u ≡ t → ⊥) → is_eq (text_order u t) ≡ false
other_text u t differ = by_order (text_order u t) refl
  where
    by_order : (r : Ordering) → text_order u t ≡ r → is_eq r ≡ false
    by_order Less is = refl
    by_order Equal is = absurd (differ (text_order_exact u t is))
    by_order Greater is = refl

-- ---- the first object of a name

abbrev or_else : Option StreamObject → Option StreamObject → Option StreamObject
or_else None y = y
or_else (Some x) y = Some x

or_none : (x : Option StreamObject) → or_else x None ≡ x
or_none None = refl
or_none (Some o) = refl

first_at-append : (t : List ℕ) (xs ys : List StreamObject) → first_at t (xs ++ ys) ≡ or_else (first_at t xs) (first_at t ys)
first_at-append t [] ys = refl
first_at-append t (x ∷ xs) ys = by_test (is_eq (text_order (object_text x) t)) (first_at-append t xs ys)
  where
    by_test : (b : Bool) → first_at t (xs ++ ys) ≡ or_else (first_at t xs) (first_at t ys)
        → (if b then Some x else first_at t (xs ++ ys)) ≡ or_else (if b then Some x else first_at t xs) (first_at t ys)
    by_test true rest = refl
    by_test false rest = rest

-- where all have other names nothing is found
abbrev HasOther : List ℕ → StreamObject → Type 0
HasOther t o = object_text o ≡ t → ⊥

none_at : (t : List ℕ) (os : List StreamObject) → AllByRecursion (HasOther t) os → first_at t os ≡ None
none_at t [] all = refl
none_at t (o ∷ os) all = ap (λ b. if b then Some o else first_at t os) (other_text (object_text o) t all.0) ∙ none_at t os all.1

-- the first of the objects that are made of an ascending list is made of what is found there
module _ {T K : Type 0} (key : T → K) {cmp : K → K → Ordering} (o : IsTotalOrder cmp) (make : T → StreamObject) (k : K) (t : List ℕ) where
  abbrev IsTold : T → Type 0
  IsTold x = is_eq (text_order (object_text (make x)) t) ≡ is_eq (cmp (key x) k)

  first_made : (xs : List T) → Ascends key cmp xs → AllByRecursion IsTold xs → first_at t (map make xs) ≡ option_map make (found (λ x. cmp (key x) k) xs)
  first_made [] up all = refl
  first_made (x ∷ xs) up all =
      ap (λ b. if b then Some (make x) else first_at t (map make xs)) all.0 ∙ by_order (cmp (key x) k) refl (first_made xs up.1 all.1)
    where
      by_order : (r : Ordering) → cmp (key x) k ≡ r → first_at t (map make xs) ≡ option_map make (found (λ y. cmp (key y) k) xs)
          → (if is_eq r then Some (make x) else first_at t (map make xs)) ≡ option_map make (match_ordering r (found (λ y. cmp (key y) k) xs) (Some x) None)
      by_order Less is rest = rest
      by_order Equal is rest = refl
      by_order Greater is rest = rest ∙ ap (option_map make) (none_behind key o k x xs Greater is (λ q. cc) up.0)

-- ---- policies and Egresses

on_policies_at : (c : ClusterData) (node t : List ℕ)
    → found (at_text t) (by_name (on_policies c node)) ≡ or_else (first_at t (map policy_object (policies_on c node))) (first_at t (map egress_object (egresses_on c node)))
on_policies_at c node t = found_by_name t (on_policies c node) ∙ first_at-append t (map policy_object (policies_on c node)) (map egress_object (egresses_on c node))

no_policy_at : (t : List ℕ) (ps : List PolicyData) → ((p : PolicyData) → policy_text p.key ≡ t → ⊥) → first_at t (map policy_object ps) ≡ None
no_policy_at t ps others = none_at t (map policy_object ps) (all_map (HasOther t) policy_object ps (all_of (λ p. HasOther t (policy_object p)) others ps))

no_egress_at : (t : List ℕ) (es : List EgressData) → ((e : EgressData) → codes "egress:" ++ e.name ≡ t → ⊥) → first_at t (map egress_object es) ≡ None
no_egress_at t es others = none_at t (map egress_object es) (all_map (HasOther t) egress_object es (all_of (λ e. HasOther t (egress_object e)) others es))

egress_text_one : (a b : List ℕ) → codes "egress:" ++ a ≡ codes "egress:" ++ b → a ≡ b
egress_text_one a b e = cc

under_egress : (c : ClusterData) (node text : List ℕ) → IsCluster c → found (at_text (codes "egress:" ++ text)) (by_name (on_policies c node)) ≡ egress_standing c node text
under_egress c node text whole =
    on_policies_at c node t
    ∙ (ap (λ z. or_else z (first_at t (map egress_object (egresses_on c node)))) (no_policy_at t (policies_on c node) (λ p e. policy_no_egress p.key text e))
    ∙ (first_made (λ (e : EgressData). e.name) text_order_total egress_object text t (egresses_on c node)
    (ascends_filter (λ (e : EgressData). e.name) text_order_total (egress_is_on c node) c.egresses whole.egresses_ascend)
    (all_of (IsTold (λ (e : EgressData). e.name) text_order_total egress_object text t) told (egresses_on c node))
    ∙ ap (option_map egress_object) (found_filter (λ (e : EgressData). e.name) text_order_total (egress_is_on c node) text c.egresses whole.egresses_ascend)))
  where
    t : List ℕ
    t = codes "egress:" ++ text

    told : (e : EgressData) → is_eq (text_order (codes "egress:" ++ e.name) (codes "egress:" ++ text)) ≡ is_eq (text_order e.name text)
    told e = tests_agree text_order_total (λ z. codes "egress:" ++ z) e.name text (egress_text_one e.name text) (text_order_exact e.name text)

under_group_none : (c : ClusterData) (node : List ℕ) (g : Group) → IsGroup g → found (at_text (group_text g)) (by_name (on_policies c node)) ≡ None
under_group_none c node g form =
    on_policies_at c node (group_text g)
    ∙ ap₂ or_else (no_policy_at (group_text g) (policies_on c node) (λ p e. group_no_policy g p.key form (sym e))) (no_egress_at (group_text g) (egresses_on c node) (λ e same. group_no_egress g e.name form (sym same)))

module _ (policies_differ : (a b : PolicyName) → IsPolicyName a.kind a.namespace a.name → IsPolicyName b.kind b.namespace b.name → policy_text a ≡ policy_text b → a ≡ b) where
  under_policy : (c : ClusterData) (node : List ℕ) (key : PolicyName) → IsCluster c → IsPolicyName key.kind key.namespace key.name
      → found (at_text (policy_text key)) (by_name (on_policies c node)) ≡ policy_standing c node key
  under_policy c node key whole form =
      on_policies_at c node (policy_text key)
      ∙ (ap (or_else first) (no_egress_at (policy_text key) (egresses_on c node) (λ e same. policy_no_egress key e.name (sym same)))
      ∙ (or_none first
      ∙ (first_made (λ (p : PolicyData). p.key) policy_order_total policy_object key (policy_text key) (policies_on c node)
      (ascends_filter (λ (p : PolicyData). p.key) policy_order_total (policy_is_on c node) c.policies whole.policies_ascend)
      (all_weaker IsWholePolicy (IsTold (λ (p : PolicyData). p.key) policy_order_total policy_object key (policy_text key)) told (policies_on c node) (all_filter IsWholePolicy (policy_is_on c node) c.policies whole.parts.policies))
      ∙ ap (option_map policy_object) (found_filter (λ (p : PolicyData). p.key) policy_order_total (policy_is_on c node) key c.policies whole.policies_ascend))))
    where
      first : Option StreamObject
      first = first_at (policy_text key) (map policy_object (policies_on c node))

      told : (p : PolicyData) → IsWholePolicy p → is_eq (text_order (policy_text p.key) (policy_text key)) ≡ is_eq (policy_order p.key key)
      told p is = tests_agree policy_order_total policy_text p.key key (policies_differ p.key key is.name form) (policy_order_exact p.key key)

-- ---- groups

no_group_at : (t : List ℕ) (f : Group → List MemberData) (gs : List Group) → AllByRecursion IsGroup gs → ((g : Group) → IsGroup g → group_text g ≡ t → ⊥) → found (at_text t) (by_name (map (group_object f) gs)) ≡ None
no_group_at t f gs forms others =
    found_by_name t (map (group_object f) gs)
    ∙ none_at t (map (group_object f) gs) (all_map (HasOther t) (group_object f) gs (all_weaker IsGroup (λ g. HasOther t (group_object f g)) others gs forms))

module _ (groups_differ : (a b : Group) → IsGroup a → IsGroup b → group_text a ≡ group_text b → a ≡ b) (f : Group → List MemberData) (g : Group) (form : IsGroup g) where
  first_group : (gs : List Group) → AllByRecursion IsGroup gs → first_at (group_text g) (map (group_object f) gs) ≡ group_standing (has_group gs g) f g
  first_group [] forms = refl
  first_group (h ∷ hs) forms = by_order (text_order (group_text h) (group_text g)) refl (first_group hs forms.1)
    where
      by_order : (r : Ordering) → text_order (group_text h) (group_text g) ≡ r → first_at (group_text g) (map (group_object f) hs) ≡ group_standing (has_group hs g) f g
          → (if is_eq r then Some (group_object f h) else first_at (group_text g) (map (group_object f) hs)) ≡ group_standing (is_eq r || has_group hs g) f g
      by_order Less is rest = rest
      by_order Equal is rest = ap (λ z. Some (group_object f z)) (groups_differ h g forms.0 form (text_order_exact (group_text h) (group_text g) is))
      by_order Greater is rest = rest

  under_group : (gs : List Group) → AllByRecursion IsGroup gs → found (at_text (group_text g)) (by_name (map (group_object f) gs)) ≡ group_standing (has_group gs g) f g
  under_group gs forms = found_by_name (group_text g) (map (group_object f) gs) ∙ first_group gs forms

-- the groups that the policies on a node name, by any of their lists
named_on : (c : ClusterData) (node : List ℕ) (f : PolicyData → List Group) (g : Group)
    → has_group (flat_map f (policies_on c node)) g ≡ list_any (λ p. policy_is_on c node p && has_group (f p) g) c.policies
named_on c node f g = list_any-flat_map (is_group g) f (policies_on c node) ∙ list_any-filter (λ p. has_group (f p) g) (policy_is_on c node) c.policies

whole_on : (c : ClusterData) (node : List ℕ) → IsCluster c → AllByRecursion IsWholePolicy (policies_on c node)
whole_on c node whole = all_filter IsWholePolicy (policy_is_on c node) c.policies whole.parts.policies

peers_are_groups : (c : ClusterData) (node : List ℕ) → IsCluster c → AllByRecursion IsGroup (flat_map policy_groups (policies_on c node))
peers_are_groups c node whole =
    all_flat_map IsGroup policy_groups (policies_on c node) (all_weaker IsWholePolicy (λ p. AllByRecursion IsGroup (policy_groups p)) policy_forms (policies_on c node) (whole_on c node whole))

abbrev applied_on : ClusterData → List ℕ → List Group
applied_on c node = flat_map (λ (p : PolicyData). p.applied) (policies_on c node) ++ map (λ (e : EgressData). e.applied) (egresses_on c node)

applied_are_groups : (c : ClusterData) (node : List ℕ) → IsCluster c → AllByRecursion IsGroup (applied_on c node)
applied_are_groups c node whole =
    all_append IsGroup (flat_map (λ (p : PolicyData). p.applied) (policies_on c node)) (map (λ (e : EgressData). e.applied) (egresses_on c node))
    (all_flat_map IsGroup (λ (p : PolicyData). p.applied) (policies_on c node) (all_weaker IsWholePolicy (λ (p : PolicyData). AllByRecursion IsGroup p.applied) (λ p is. is.applied) (policies_on c node) (whole_on c node whole)))
    (all_map IsGroup (λ (e : EgressData). e.applied) (egresses_on c node) (all_filter (λ (e : EgressData). IsGroup e.applied) (egress_is_on c node) c.egresses whole.parts.egresses))

applied_named : (c : ClusterData) (node : List ℕ) (g : Group) → has_group (applied_on c node) g ≡ is_applied_on c node g
applied_named c node g =
    list_any-append (is_group g) (flat_map (λ (p : PolicyData). p.applied) (policies_on c node)) (map (λ (e : EgressData). e.applied) (egresses_on c node))
    ∙ ap₂ ◌||◌ (named_on c node (λ (p : PolicyData). p.applied) g)
    (list_any-map (is_group g) (λ (e : EgressData). e.applied) (egresses_on c node) ∙ list_any-filter (λ (e : EgressData). is_group g e.applied) (egress_is_on c node) c.egresses)

-- ---- names

pub names_stand_alone : ((a b : Group) → IsGroup a → IsGroup b → group_text a ≡ group_text b → a ≡ b)
    → ((a b : PolicyName) → IsPolicyName a.kind a.namespace a.name → IsPolicyName b.kind b.namespace b.name → policy_text a ≡ policy_text b → a ≡ b)
    → NamesStandAlone
names_stand_alone groups_differ policies_differ c Policies node (name.Policy key) whole form = under_policy policies_differ c node key whole form
names_stand_alone groups_differ policies_differ c Policies node (name.Egress text) whole form = under_egress c node text whole
names_stand_alone groups_differ policies_differ c Policies node (name.Group g) whole form = under_group_none c node g form
names_stand_alone groups_differ policies_differ c Addresses node (name.Policy key) whole form =
    no_group_at (policy_text key) (group_members c) (flat_map policy_groups (policies_on c node)) (peers_are_groups c node whole) (λ g is. group_no_policy g key is)
names_stand_alone groups_differ policies_differ c Addresses node (name.Egress text) whole form =
    no_group_at (codes "egress:" ++ text) (group_members c) (flat_map policy_groups (policies_on c node)) (peers_are_groups c node whole) (λ g is. group_no_egress g text is)
names_stand_alone groups_differ policies_differ c Addresses node (name.Group g) whole form =
    under_group groups_differ (group_members c) g form (flat_map policy_groups (policies_on c node)) (peers_are_groups c node whole)
    ∙ ap (λ b. group_standing b (group_members c) g) (named_on c node policy_groups g)
names_stand_alone groups_differ policies_differ c Applied node (name.Policy key) whole form =
    no_group_at (policy_text key) (members_on c node) (applied_on c node) (applied_are_groups c node whole) (λ g is. group_no_policy g key is)
names_stand_alone groups_differ policies_differ c Applied node (name.Egress text) whole form =
    no_group_at (codes "egress:" ++ text) (members_on c node) (applied_on c node) (applied_are_groups c node whole) (λ g is. group_no_egress g text is)
names_stand_alone groups_differ policies_differ c Applied node (name.Group g) whole form =
    under_group groups_differ (members_on c node) g form (applied_on c node) (applied_are_groups c node whole)
    ∙ ap (λ b. group_standing b (members_on c node) g) (applied_named c node g)
