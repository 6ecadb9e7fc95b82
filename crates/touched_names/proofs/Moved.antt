-- Groups that move touch their own names and those that come and go with them.
use Rattle.std.proofs.Common.{◌≡◌, ℕ, List, [], ◌∷◌, ◌++◌, Bool, true, false, ◌&&◌, ◌||◌, cond, filter, map, flat_map, refl, sym, ap, ap₂, ◌∙◌}
use Rattle.std.specs.List.{AllByRecursion, list_any}
use Rattle.std.specs.declared.cmp.Ordering.{Ordering}
use Rattle.std.specs.declared.cmp.Ordering.TheVariants.{Less, Equal, Greater}
use Rattle.std.specs.Ordering.{is_eq}
use Rattle.std.proofs.lemmas.List.Folds.{list_any-append}
use Rattle.cl_types.specs.declared.stream.Stream.{Stream}
use Rattle.cl_types.specs.declared.stream.Stream.TheVariants.{Policies, Addresses, Applied}
use Rattle.cl_types.specs.Ascending.{found}
use Rattle.cl_types.specs.OrderLaws.{text_order_exact}
use Rattle.cl_types.specs.Text.{text_eq, text_order}
use Rattle.label_select.specs.Group.{Group}
use Rattle.label_select.specs.Written.{group_text}
use Rattle.cluster_types.specs.Choice.{egress_counts}
use Rattle.cluster_types.specs.Cluster.{ClusterData}
use Rattle.cluster_types.specs.Egress.{EgressData}
use Rattle.cluster_types.specs.Evaluation.{applies}
use Rattle.cluster_types.specs.Groups.{in_group}
use Rattle.cluster_types.specs.Node.{NodeData}
use Rattle.cluster_types.specs.Policy.{PolicyData}
use Rattle.watch_streams.specs.declared.message.StreamName.{StreamName}
use Rattle.watch_streams.specs.declared.message.StreamObject.TheVariants as object
use Rattle.watch_streams.specs.Names.{at_text, name_text}
use Rattle.watch_streams.specs.Net.{MemberData}
use Rattle.watch_streams.specs.OneOfAll.{all_back, all_front, all_of_both, all_parts, list_any-all, list_any-each, list_any-filter, list_any-flat_map, list_any-none, list_any-swap}
use Rattle.watch_streams.specs.Projection.{egress_is_on, group_members, group_object, is_on, members_on, policy_groups, policy_is_on, projection}
use Rattle.touched_names.specs.Elsewhere.{is_named}
use Rattle.touched_names.specs.Standing.{has_group}
use Rattle.touched_names.specs.Touching.{MovedGroupsTouch, SameMembers, SameRules, Stays, applies_to_some, counting_group, egress_applies_to_some, egress_names, group_names, groups_named, has_pod_on, moved_names, policy_names}
use Rattle.touched_names.proofs.Brought.{egress_brings, egress_brings_nothing, egress_part, has_group_text, here, here_if, is_named-groups, policy_brings, policy_brings_nothing, policy_part, same_found}
use Rattle.touched_names.proofs.Elsewhere.{flat_map-same, neither}

-- ---- tests of lists

none_passes : {T : Type 0} (q : T → Bool) (xs : List T) → list_any q xs ≡ false → AllByRecursion (λ x. q x ≡ false) xs
none_passes q [] e = tt
none_passes q (x ∷ xs) e = let parts = neither (q x) (list_any q xs) e in (parts.0, none_passes q xs parts.1)

and_any : {T : Type 0} (b : Bool) (q : T → Bool) (xs : List T) → (b && list_any q xs) ≡ list_any (λ x. b && q x) xs
and_any true q xs = refl
and_any false q xs = sym (list_any-none xs)

-- none of the names that those bring has the text which pass the test
none_kept : {T : Type 0} (names : T → List StreamName) (k : T → Bool) (xs : List T) (t : List ℕ) → is_named (flat_map names (filter k xs)) t ≡ false
    → AllByRecursion (λ x. (k x && is_named (names x) t) ≡ false) xs
none_kept names k xs t lacking =
    none_passes (λ x. k x && is_named (names x) t) xs
    (sym (list_any-flat_map (λ n. is_eq (text_order (name_text n) t)) names (filter k xs) ∙ list_any-filter (λ x. is_named (names x) t) k xs) ∙ lacking)

same_text : (u t : List ℕ) → is_eq (text_order u t) ≡ true → u ≡ t
same_text u t e = by_order (text_order u t) refl e
  where
    by_order : (r : Ordering) → text_order u t ≡ r → is_eq r ≡ true → u ≡ t
    by_order Less is f = cc
    by_order Equal is f = text_order_exact u t is
    by_order Greater is f = cc

-- ---- where a policy concerns a node

-- it does where it applies to a group that has a pod there
span_of : (c : ClusterData) (node : List ℕ) (p : PolicyData) → policy_is_on c node p ≡ list_any (has_pod_on c node) p.applied
span_of c node p =
    list_any-each (λ q. is_on node q && applies c p q) (λ q. list_any (λ g. is_on node q && in_group c g q) p.applied) (λ q. and_any (is_on node q) (λ g. in_group c g q) p.applied) c.pods
    ∙ list_any-swap (λ q g. is_on node q && in_group c g q) c.pods p.applied

module _ (moved spread : List Group) (c d : ClusterData) (rules : SameRules c d) where
  abbrev IsKept : Group → Type 0
  IsKept g = Stays moved spread c d g

  counts_same : (e : EgressData) → egress_counts c e ≡ egress_counts d e
  counts_same e = ap (λ ns. list_any (λ (n : NodeData). text_eq n.name e.node) ns) (sym rules.nodes)

  module _ (s : Stream) (node t : List ℕ) (not_moved : has_group_text t moved ≡ false) where
    text_stays : (g : Group) → is_eq (text_order (group_text g) t) ≡ true → has_group moved g ≡ false
    text_stays g e = ap (λ z. list_any (λ h. is_eq (text_order (group_text h) z)) moved) (same_text (group_text g) t e) ∙ not_moved

    same_members : (f h : Group → List MemberData) → ((g : Group) → SameMembers c d g → f g ≡ h g) → (gs : List Group) → AllByRecursion IsKept gs → here t (map (group_object f) gs) ≡ here t (map (group_object h) gs)
    same_members f h same [] stays = refl
    same_members f h same (g ∷ gs) stays = by_test (is_eq (text_order (group_text g) t)) refl (same_members f h same gs stays.1)
      where
        by_test : (b : Bool) → is_eq (text_order (group_text g) t) ≡ b → here t (map (group_object f) gs) ≡ here t (map (group_object h) gs)
            → cond b (group_object f g ∷ here t (map (group_object f) gs)) (here t (map (group_object f) gs)) ≡ cond b (group_object h g ∷ here t (map (group_object h) gs)) (here t (map (group_object h) gs))
        by_test true is rest = ap₂ (λ m z. object.Group g m ∷ z) (same g (stays.0.members (text_stays g is))) rest
        by_test false is rest = rest

    -- ---- a policy

    policy_part_same : (at : Stream) (p : PolicyData) → AllByRecursion IsKept (groups_named p) → here t (policy_part c at node p) ≡ here t (policy_part d at node p)
    policy_part_same Policies p stays = refl
    policy_part_same Addresses p stays = same_members (group_members c) (group_members d) (λ g z. z.members) (policy_groups p) (all_back IsKept p.applied (policy_groups p) stays)
    policy_part_same Applied p stays = same_members (members_on c node) (members_on d node) (λ g z. z.members_on node) p.applied (all_front IsKept p.applied (policy_groups p) stays)

    policy_on_same : (p : PolicyData) → applies_to_some spread p ≡ false → AllByRecursion IsKept (groups_named p) → policy_is_on c node p ≡ policy_is_on d node p
    policy_on_same p none stays =
        span_of c node p
        ∙ (list_any-all (has_pod_on c node) (has_pod_on d node) p.applied
        (all_of_both (λ g. has_group spread g ≡ false) IsKept (λ g. has_pod_on c node g ≡ has_pod_on d node g) (λ g other stay. stay.span other node) p.applied (none_passes (has_group spread) p.applied none) (all_front IsKept p.applied (policy_groups p) stays))
        ∙ sym (span_of d node p))

    policy_same : (p : PolicyData) → (applies_to_some spread p && is_named (policy_names p) t) ≡ false → AllByRecursion IsKept (groups_named p) → here t (policy_brings c s node p) ≡ here t (policy_brings d s node p)
    policy_same p lacking stays = by_test (applies_to_some spread p) refl lacking
      where
        by_test : (b : Bool) → applies_to_some spread p ≡ b → (b && is_named (policy_names p) t) ≡ false → here t (policy_brings c s node p) ≡ here t (policy_brings d s node p)
        by_test true is lacking = policy_brings_nothing c s node t p lacking ∙ sym (policy_brings_nothing d s node t p lacking)
        by_test false is lacking =
            here_if t (policy_is_on c node p) (policy_part c s node p)
            ∙ (ap₂ (λ b z. cond b z []) (policy_on_same p is stays) (policy_part_same s p stays) ∙ sym (here_if t (policy_is_on d node p) (policy_part d s node p)))

    -- ---- an Egress

    egress_part_same : (at : Stream) (e : EgressData) → AllByRecursion IsKept (e.applied ∷ []) → here t (egress_part c at node e) ≡ here t (egress_part d at node e)
    egress_part_same Policies e stays = refl
    egress_part_same Addresses e stays = refl
    egress_part_same Applied e stays = same_members (members_on c node) (members_on d node) (λ g z. z.members_on node) (e.applied ∷ []) stays

    egress_off : (x : ClusterData) (e : EgressData) → egress_counts x e ≡ false → here t (egress_brings x s node e) ≡ []
    egress_off x e off = ap (λ b. here t (cond (b && (text_eq e.node node || has_pod_on x node e.applied)) (egress_part x s node e) [])) off

    egress_same : (e : EgressData) → (egress_applies_to_some spread e && is_named (egress_names e) t) ≡ false → AllByRecursion IsKept (counting_group c e) → here t (egress_brings c s node e) ≡ here t (egress_brings d s node e)
    egress_same e lacking stays = by_test (egress_applies_to_some spread e) refl lacking (egress_counts c e) refl stays
      where
        by_test : (b : Bool) → egress_applies_to_some spread e ≡ b → (b && is_named (egress_names e) t) ≡ false → (counts : Bool) → egress_counts c e ≡ counts → AllByRecursion IsKept (cond counts (e.applied ∷ []) [])
            → here t (egress_brings c s node e) ≡ here t (egress_brings d s node e)
        by_test true is lacking counts is_counts stays = egress_brings_nothing c s node t e lacking ∙ sym (egress_brings_nothing d s node t e lacking)
        by_test false is lacking false is_counts stays = egress_off c e is_counts ∙ sym (egress_off d e (sym (counts_same e) ∙ is_counts))
        by_test false is lacking true is_counts stays =
            here_if t (egress_is_on c node e) (egress_part c s node e)
            ∙ (ap₂ (λ b z. cond b z []) (ap₂ (λ a b. a && (text_eq e.node node || b)) (counts_same e) (stays.0.span is node)) (egress_part_same s e stays)
            ∙ sym (here_if t (egress_is_on d node e) (egress_part d s node e)))

pub moved_groups_touch : MovedGroupsTouch
moved_groups_touch moved spread c d rules stay = record { same = λ s node t lacking. at_text_same s node t lacking }
  where
    passing : List StreamName
    passing = flat_map policy_names (filter (applies_to_some spread) c.policies)

    leaving : List StreamName
    leaving = flat_map egress_names (filter (egress_applies_to_some spread) c.egresses)

    Kept : Group → Type 0
    Kept g = Stays moved spread c d g

    policies_stay : AllByRecursion (λ p. AllByRecursion Kept (groups_named p)) c.policies
    policies_stay = all_parts Kept groups_named c.policies (all_front Kept (flat_map groups_named c.policies) (flat_map (counting_group c) c.egresses) stay)

    egresses_stay : AllByRecursion (λ e. AllByRecursion Kept (counting_group c e)) c.egresses
    egresses_stay = all_parts Kept (counting_group c) c.egresses (all_back Kept (flat_map groups_named c.policies) (flat_map (counting_group c) c.egresses) stay)

    at_text_same : (s : Stream) (node t : List ℕ) → is_named (moved_names moved spread c) t ≡ false → found (at_text t) (projection c s node) ≡ found (at_text t) (projection d s node)
    at_text_same s node t lacking =
        let test : StreamName → Bool = λ n. is_eq (text_order (name_text n) t) in
        let parts = neither (is_named (group_names moved) t) (is_named (passing ++ leaving) t) (sym (list_any-append test (group_names moved) (passing ++ leaving)) ∙ lacking) in
        let more = neither (is_named passing t) (is_named leaving t) (sym (list_any-append test passing leaving) ∙ parts.1) in
        let not_moved : has_group_text t moved ≡ false = sym (is_named-groups t moved) ∙ parts.0 in
        same_found c d s node t
        (flat_map-same (λ p. here t (policy_brings c s node p)) (λ p. here t (policy_brings d s node p)) c.policies
        (all_of_both (λ p. (applies_to_some spread p && is_named (policy_names p) t) ≡ false) (λ p. AllByRecursion Kept (groups_named p)) (λ p. here t (policy_brings c s node p) ≡ here t (policy_brings d s node p))
        (λ p lacks stays. policy_same moved spread c d rules s node t not_moved p lacks stays) c.policies (none_kept policy_names (applies_to_some spread) c.policies t more.0) policies_stay)
        ∙ ap (flat_map (λ p. here t (policy_brings d s node p))) (sym rules.policies))
        (flat_map-same (λ e. here t (egress_brings c s node e)) (λ e. here t (egress_brings d s node e)) c.egresses
        (all_of_both (λ e. (egress_applies_to_some spread e && is_named (egress_names e) t) ≡ false) (λ e. AllByRecursion Kept (counting_group c e)) (λ e. here t (egress_brings c s node e) ≡ here t (egress_brings d s node e))
        (λ e lacks stays. egress_same moved spread c d rules s node t not_moved e lacks stays) c.egresses (none_kept egress_names (egress_applies_to_some spread) c.egresses t more.1) egresses_stay)
        ∙ ap (flat_map (λ e. here t (egress_brings d s node e))) (sym rules.egresses))
