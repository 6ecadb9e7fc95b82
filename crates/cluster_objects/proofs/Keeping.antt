-- A change against which nothing stands keeps what every cluster keeps.
use Rattle.std.proofs.Common.{◌≡◌, ℕ, List, [], ◌∷◌, length, Bool, true, false, not, ◌&&◌, Option, Some, None, find, if◌then◌else◌, refl, sym, ap, subst, ◌∙◌, arith, option_map}
use Rattle.std.specs.Prelude.{nat_lt}
use Rattle.std.specs.List.{AllByRecursion, list_any}
use Rattle.std.specs.Option.{is_some}
use Rattle.std.proofs.lemmas.Bool.{true≢false}
use Rattle.std.proofs.lemmas.Cmp.{nat_cmp_total}
use Rattle.cl_types.specs.Addr.{addr_order}
use Rattle.cl_types.specs.Ascending.{found, put, without, sorted_set}
use Rattle.cl_types.specs.AscendingLaws.{all_put, ascends_put, ascends_filter}
use Rattle.cl_types.specs.Equality.{is_same}
use Rattle.cl_types.specs.EqualityLaws.{is_same-one}
use Rattle.cl_types.specs.ListLaws.{all_each, all_filter}
use Rattle.cl_types.specs.PolicyName.{PolicyName}
use Rattle.cl_types.specs.RuleOrder.{pod_order_total, policy_order_total}
use Rattle.cl_types.specs.Text.{text_eq, text_order_total}
use Rattle.cl_types.specs.declared.keys.PodKey.{PodKey}
use Rattle.cluster_types.specs.declared.change.Change.{Change}
use Rattle.cluster_types.specs.declared.change.Change.TheVariants.{Put, Remove}
use Rattle.cluster_types.specs.declared.change.Object.TheVariants as object
use Rattle.cluster_types.specs.declared.change.ObjectKey.TheVariants as key
use Rattle.cluster_types.specs.declared.node.NodeInfo as node
use Rattle.cluster_types.specs.Cluster.{ClusterData, IsCluster, HasMarksEnough, IsPodWithinLimits, IsPolicyWithinLimits, HasTier}
use Rattle.cluster_types.specs.Counts.{count_of_kind, native_rule_count, kube_rule_count}
use Rattle.cluster_types.specs.Egress.{EgressData, addresses_beside}
use Rattle.cluster_types.specs.Limits.{max_nodes, max_namespaces, max_pods, max_tiers, max_policies, max_egresses, max_native_rules, max_kube_rules, max_named_ports, max_marks}
use Rattle.cluster_types.specs.Node.{NamespaceData, NodeData}
use Rattle.cluster_types.specs.Pod.{PodData}
use Rattle.cluster_types.specs.Policy.{PolicyData}
use Rattle.cluster_types.specs.Tier.{TierData, tier_named, is_static}
use Rattle.cluster_types.specs.Whole.{IsWholeNode, IsWholeNamespace, IsWholePod, IsWholePolicy, IsWholeEgress}
use Rattle.cluster_objects.specs.declared.change.ClusterRefusal.{ClusterRefusal}
use Rattle.cluster_objects.specs.declared.change.ClusterRefusal.TheVariants.{NodesFixed, CidrOverlap, TierFixed, TierTaken, TierInUse, AddressInUse, TooManyMarks}
use Rattle.cluster_objects.specs.Apply.{made, makes_difference, difference, is_there, without_tier, numbered, numbered_policy, at_node, at_namespace, at_pod, at_tier, at_policy, at_egress}
use Rattle.cluster_objects.specs.Refusals.{checks, first_refusal, over, nodes_fixed, cidr_overlap, address_in_use, address_taker, tier_fixed, tier_taken, static_removed, tier_in_use, no_such_tier, names_tier, policy_limits, too_many_marks}
use Rattle.cluster_objects.proofs.Apart.{put_apart, kept_apart}
use Rattle.cluster_objects.proofs.BlocksApart.{none_met, put_blocks_apart, kept_blocks_apart}
use Rattle.cluster_objects.proofs.OneKind.{nodes_kept, namespaces_kept, pods_kept, tiers_kept as tiers_stay, policies_kept, egresses_kept}
use Rattle.cluster_objects.proofs.Marks.{marks_put, marks_left}
use Rattle.cluster_objects.proofs.Refusals.{none_first, none_later, not_when, map_none}
use Rattle.cluster_objects.proofs.Tiers.{keeps, takes}
use Rattle.cluster_objects.proofs.TiersKept.{put_keeps, put_same, static_kept, tiers_kept, static_left, tiers_left, has_tier, numbered_twice}
use Rattle.cluster_objects.proofs.Within.{within, kept_length_within, kept_total_within, kind_within, other_kind, native_within, kube_within, policy_within}

-- a change whose tier number is set keeps it
pub numbered_again : (c : ClusterData) (d : Change) → numbered c (numbered c d) ≡ numbered c d
numbered_again c (Put (object.Node n)) = refl
numbered_again c (Put (object.Namespace n)) = refl
numbered_again c (Put (object.Pod p)) = refl
numbered_again c (Put (object.Tier t)) = refl
numbered_again c (Put (object.Policy p)) = ap (λ (q : PolicyData). Put (object.Policy q)) (numbered_twice c p)
numbered_again c (Put (object.Egress e)) = refl
numbered_again c (Remove k) = refl

module _ (c : ClusterData) (was : IsCluster c) where
  -- ---- nodes

  module _ (n : NodeData) (form : IsWholeNode n) (none : first_refusal (checks c (Put (object.Node n))) ≡ None) where
    abbrev many : Option ClusterRefusal
    many = over max_nodes (length (put (at_node n.name) n c.nodes))

    abbrev there : Option NodeData
    there = found (at_node n.name) c.nodes

    not_fixed : nodes_fixed c (Put (object.Node n)) ≡ None
    not_fixed = none_first (nodes_fixed c (Put (object.Node n))) (cidr_overlap c n ∷ many ∷ []) none

    later : first_refusal (cidr_overlap c n ∷ many ∷ []) ≡ None
    later = none_later (nodes_fixed c (Put (object.Node n))) (cidr_overlap c n ∷ many ∷ []) none

    -- nothing stands against it once the nodes are fixed where it is there already
    is_the_same : c.fixed ≡ true → there ≡ Some n
    is_the_same fixed = by_found there refl
      where
        unless_there : (d : Bool) → (c.fixed && makes_difference (difference (not d))) ≡ false → d ≡ true
        unless_there true e = refl
        unless_there false e = absurd (true≢false (sym fixed ∙ by_fixed c.fixed e))
          where
            by_fixed : (f : Bool) → (f && true) ≡ false → f ≡ false
            by_fixed true e = e
            by_fixed false e = refl

        same : is_there (is_same node.the_code) n there ≡ true
        same = unless_there (is_there (is_same node.the_code) n there) (not_when (c.fixed && makes_difference (made c (Put (object.Node n))).applied) NodesFixed not_fixed)

        by_found : (o : Option NodeData) → there ≡ o → o ≡ Some n
        by_found None e = absurd (true≢false (sym same ∙ ap (λ o. is_there (is_same node.the_code) n o) e))
        by_found (Some m) e = ap (λ (k : NodeData). Some k) (is_same-one node.the_code m n (sym (ap (λ o. is_there (is_same node.the_code) n o) e) ∙ same))

    -- before that there is no Egress
    marks : AllByRecursion (HasMarksEnough c.egresses) (put (at_node n.name) n c.nodes)
    marks = by_fixed c.fixed refl
      where
        by_fixed : (f : Bool) → c.fixed ≡ f → AllByRecursion (HasMarksEnough c.egresses) (put (at_node n.name) n c.nodes)
        by_fixed true fixed = subst (λ (ns : List NodeData). AllByRecursion (HasMarksEnough c.egresses) ns) (sym (put_same (at_node n.name) n c.nodes (is_the_same fixed))) was.marks
        by_fixed false early =
            subst (λ (es : List EgressData). AllByRecursion (HasMarksEnough es) (put (at_node n.name) n c.nodes)) (sym (was.early early).egresses)
            (all_each (HasMarksEnough []) (λ m. omega arith) (put (at_node n.name) n c.nodes))

    pub node_put : IsCluster (made c (Put (object.Node n))).cluster
    node_put = nodes_kept c (put (at_node n.name) n c.nodes) (record {
      up = ascends_put (λ (m : NodeData). m.name) text_order_total n c.nodes was.nodes_ascend;
      apart = put_blocks_apart n c.nodes was.nodes_ascend (none_met n c.nodes (map_none (λ (m : NodeData). CidrOverlap m.name) _ (none_first (cidr_overlap c n) (many ∷ []) later))) was.blocks_apart;
      few = within max_nodes (length (put (at_node n.name) n c.nodes)) (none_first many [] (none_later (cidr_overlap c n) (many ∷ []) later));
      marks = marks;
      parts = all_put (at_node n.name) IsWholeNode n c.nodes form was.parts.nodes;
    }) was

  pub node_removed : (name : List ℕ) → IsCluster (made c (Remove (key.Node name))).cluster
  node_removed name = nodes_kept c (without (at_node name) c.nodes) (record {
    up = ascends_filter (λ (m : NodeData). m.name) text_order_total _ c.nodes was.nodes_ascend;
    apart = kept_blocks_apart _ c.nodes was.blocks_apart;
    few = kept_length_within max_nodes _ c.nodes was.limits.nodes;
    marks = all_filter (HasMarksEnough c.egresses) _ c.nodes was.marks;
    parts = all_filter IsWholeNode _ c.nodes was.parts.nodes;
  }) was

  -- ---- namespaces

  pub namespace_put : (n : NamespaceData) → IsWholeNamespace n → first_refusal (checks c (Put (object.Namespace n))) ≡ None → IsCluster (made c (Put (object.Namespace n))).cluster
  namespace_put n form none = namespaces_kept c (put (at_namespace n.name) n c.namespaces) (record {
    up = ascends_put (λ (m : NamespaceData). m.name) text_order_total n c.namespaces was.namespaces_ascend;
    few = within max_namespaces (length (put (at_namespace n.name) n c.namespaces)) (none_first (over max_namespaces (length (put (at_namespace n.name) n c.namespaces))) [] none);
    parts = all_put (at_namespace n.name) IsWholeNamespace n c.namespaces form was.parts.namespaces;
  }) was

  pub namespace_removed : (name : List ℕ) → IsCluster (made c (Remove (key.Namespace name))).cluster
  namespace_removed name = namespaces_kept c (without (at_namespace name) c.namespaces) (record {
    up = ascends_filter (λ (m : NamespaceData). m.name) text_order_total _ c.namespaces was.namespaces_ascend;
    few = kept_length_within max_namespaces _ c.namespaces was.limits.namespaces;
    parts = all_filter IsWholeNamespace _ c.namespaces was.parts.namespaces;
  }) was

  -- ---- pods

  module _ (p : PodData) (form : IsWholePod p) (none : first_refusal (checks c (Put (object.Pod p))) ≡ None) where
    abbrev many_pods : Option ClusterRefusal
    many_pods = over max_pods (length (put (at_pod p.key) p c.pods))

    abbrev many_ports : Option ClusterRefusal
    many_ports = over max_named_ports (length p.ports)

    pub no_taker : address_taker c p ≡ None
    no_taker = map_none (λ (q : PodData). AddressInUse q.key) (address_taker c p) (none_first (address_in_use c p) (many_pods ∷ many_ports ∷ []) none)

    pods_fit : first_refusal (many_pods ∷ many_ports ∷ []) ≡ None
    pods_fit = none_later (address_in_use c p) (many_pods ∷ many_ports ∷ []) none

    pub pod_put : IsCluster (made c (Put (object.Pod p))).cluster
    pod_put = pods_kept c (put (at_pod p.key) p c.pods) (record {
      up = ascends_put (λ (q : PodData). q.key) pod_order_total p c.pods was.pods_ascend;
      apart = put_apart p c.pods was.pods_ascend no_taker was.apart;
      few = within max_pods (length (put (at_pod p.key) p c.pods)) (none_first many_pods (many_ports ∷ []) pods_fit);
      each = all_put (at_pod p.key) IsPodWithinLimits p c.pods (within max_named_ports (length p.ports) (none_first many_ports [] (none_later many_pods (many_ports ∷ []) pods_fit))) was.limits.each_pod;
      parts = all_put (at_pod p.key) IsWholePod p c.pods form was.parts.pods;
    }) was

  pub pod_removed : (name : PodKey) → IsCluster (made c (Remove (key.Pod name))).cluster
  pod_removed name = pods_kept c (without (at_pod name) c.pods) (record {
    up = ascends_filter (λ (q : PodData). q.key) pod_order_total _ c.pods was.pods_ascend;
    apart = kept_apart _ c.pods was.apart;
    few = kept_length_within max_pods _ c.pods was.limits.pods;
    each = all_filter IsPodWithinLimits _ c.pods was.limits.each_pod;
    parts = all_filter IsWholePod _ c.pods was.parts.pods;
  }) was

  -- ---- tiers

  module _ (t : TierData) (none : first_refusal (checks c (Put (object.Tier t))) ≡ None) where
    abbrev many_tiers : Option ClusterRefusal
    many_tiers = over max_tiers (length (put (at_tier t.priority) t c.tiers))

    pub fixed_none : keeps t (tier_named t.name c.tiers) ≡ false
    fixed_none = not_when (keeps t (tier_named t.name c.tiers)) TierFixed (none_first (tier_fixed c t) (tier_taken c t ∷ many_tiers ∷ []) none)

    taken_later : first_refusal (tier_taken c t ∷ many_tiers ∷ []) ≡ None
    taken_later = none_later (tier_fixed c t) (tier_taken c t ∷ many_tiers ∷ []) none

    pub taken_none : find (takes t) c.tiers ≡ None
    taken_none = map_none (λ (s : TierData). TierTaken s.name) (find (takes t) c.tiers) (none_first (tier_taken c t) (many_tiers ∷ []) taken_later)

    abbrev after : List TierData
    after = put (at_tier t.priority) t c.tiers

    pub tier_put : IsCluster (made c (Put (object.Tier t))).cluster
    tier_put = tiers_stay c after (record {
      up = ascends_put (λ (s : TierData). s.priority) nat_cmp_total t c.tiers was.tiers_ascend;
      few = within max_tiers (length after) (none_first many_tiers [] (none_later (tier_taken c t) (many_tiers ∷ []) taken_later));
      static = static_kept c.tiers after (put_keeps t c.tiers was.tiers_ascend fixed_none taken_none) was.static;
      meant = tiers_kept c.tiers after (put_keeps t c.tiers was.tiers_ascend fixed_none taken_none) c.policies was.in_tiers;
    }) was

  module _ (name : List ℕ) (none : first_refusal (checks c (Remove (key.Tier name))) ≡ None) where
    not_static : is_static name ≡ false
    not_static = not_when (is_static name) TierFixed (none_first (static_removed name) (tier_in_use c name ∷ []) none)

    in_use_none : tier_in_use c name ≡ None
    in_use_none = none_first (tier_in_use c name) [] (none_later (static_removed name) (tier_in_use c name ∷ []) none)

    abbrev users : Option PolicyData
    users = find (names_tier name) c.policies

    unused : (t : TierData) → tier_named name c.tiers ≡ Some t → users ≡ None
    unused t e =
        map_none (λ (p : PolicyData). TierInUse p.key) users
        (sym (ap (λ (o : Option TierData). if is_some o then option_map (λ (p : PolicyData). TierInUse p.key) users else None) e) ∙ in_use_none)

    pub tier_removed : IsCluster (made c (Remove (key.Tier name))).cluster
    tier_removed = by_tier (tier_named name c.tiers) refl
      where
        by_tier : (o : Option TierData) → tier_named name c.tiers ≡ o → IsCluster (record c { fixed = true; tiers = (without_tier o c.tiers).items })
        by_tier None e = tiers_stay c c.tiers (record { up = was.tiers_ascend; few = was.limits.tiers; static = was.static; meant = was.in_tiers }) was
        by_tier (Some t) e = tiers_stay c (without (at_tier t.priority) c.tiers) (record {
          up = ascends_filter (λ (s : TierData). s.priority) nat_cmp_total _ c.tiers was.tiers_ascend;
          few = kept_length_within max_tiers _ c.tiers was.limits.tiers;
          static = static_left name t c.tiers was.tiers_ascend e not_static was.static;
          meant = tiers_left name t c.tiers was.tiers_ascend e c.policies (unused t e) was.in_tiers;
        }) was

  -- ---- policies

  module _ (p : PolicyData) (form : IsWholePolicy p) (has_number : numbered_policy c p ≡ p) (none : first_refusal (checks c (Put (object.Policy p))) ≡ None) where
    has_its_tier : HasTier c.tiers p
    has_its_tier = has_tier c p has_number (none_first (no_such_tier c p) (policy_limits c.policies p) none)

    fits : first_refusal (policy_limits c.policies p) ≡ None
    fits = none_later (no_such_tier c p) (policy_limits c.policies p) none

    pub policy_put : IsCluster (made c (Put (object.Policy p))).cluster
    policy_put = policies_kept c (put (at_policy p.key) p c.policies) (record {
      up = ascends_put (λ (q : PolicyData). q.key) policy_order_total p c.policies was.policies_ascend;
      in_tiers = all_put (at_policy p.key) (HasTier c.tiers) p c.policies has_its_tier was.in_tiers;
      few = λ kind. other_kind kind c.policies p was.policies_ascend (kind_within c.policies p fits) (was.limits.policies kind);
      each = all_put (at_policy p.key) IsPolicyWithinLimits p c.policies (policy_within c.policies p fits) was.limits.each_policy;
      native_rules = native_within c.policies p fits;
      kube_rules = kube_within c.policies p fits;
      parts = all_put (at_policy p.key) IsWholePolicy p c.policies form was.parts.policies;
    }) was

  pub policy_removed : (name : PolicyName) → IsCluster (made c (Remove (key.Policy name))).cluster
  policy_removed name = policies_kept c (without (at_policy name) c.policies) (record {
    up = ascends_filter (λ (q : PolicyData). q.key) policy_order_total _ c.policies was.policies_ascend;
    in_tiers = all_filter (HasTier c.tiers) _ c.policies was.in_tiers;
    few = λ kind. kept_total_within max_policies (count_of_kind kind) _ c.policies (was.limits.policies kind);
    each = all_filter IsPolicyWithinLimits _ c.policies was.limits.each_policy;
    native_rules = kept_total_within max_native_rules native_rule_count _ c.policies was.limits.native_rules;
    kube_rules = kept_total_within max_kube_rules kube_rule_count _ c.policies was.limits.kube_rules;
    parts = all_filter IsWholePolicy _ c.policies was.parts.policies;
  }) was

  -- ---- Egresses

  module _ (e : EgressData) (form : IsWholeEgress e) (none : first_refusal (checks c (Put (object.Egress e))) ≡ None) where
    abbrev many_egresses : Option ClusterRefusal
    many_egresses = over max_egresses (length (put (at_egress e.name) e c.egresses))

    few_marks : (list_any (λ (n : NodeData). text_eq n.name e.node) c.nodes && nat_lt max_marks (length (sorted_set addr_order (addresses_beside e c.egresses)))) ≡ false
    few_marks = not_when _ (TooManyMarks e.node) (none_first (too_many_marks c e) [] (none_later many_egresses (too_many_marks c e ∷ []) none))

    pub egress_put : IsCluster (made c (Put (object.Egress e))).cluster
    egress_put = egresses_kept c (put (at_egress e.name) e c.egresses) (record {
      up = ascends_put (λ (f : EgressData). f.name) text_order_total e c.egresses was.egresses_ascend;
      few = within max_egresses (length (put (at_egress e.name) e c.egresses)) (none_first many_egresses (too_many_marks c e ∷ []) none);
      marks = marks_put e c.egresses was.egresses_ascend c.nodes few_marks was.marks;
      parts = all_put (at_egress e.name) IsWholeEgress e c.egresses form was.parts.egresses;
    }) was

  pub egress_removed : (name : List ℕ) → IsCluster (made c (Remove (key.Egress name))).cluster
  egress_removed name = egresses_kept c (without (at_egress name) c.egresses) (record {
    up = ascends_filter (λ (f : EgressData). f.name) text_order_total _ c.egresses was.egresses_ascend;
    few = kept_length_within max_egresses _ c.egresses was.limits.egresses;
    marks = marks_left _ c.egresses c.nodes was.marks;
    parts = all_filter IsWholeEgress _ c.egresses was.parts.egresses;
  }) was
