-- The verdict of what an agent holds whose three streams stand at one cluster is the policies' own.
use Rattle.std.proofs.Common.{◌≡◌, ℕ, List, [], ◌++◌, map, filter, flat_map, cond, Equal, Bool, true, false, ◌&&◌, Option, Some, None, refl, sym, ap, ap₂, ◌∙◌}
use Rattle.std.specs.List.{AllByRecursion, list_any}
use Rattle.std.specs.Option.{option_map_or}
use Rattle.cl_types.specs.declared.addr.Addr.{Addr}
use Rattle.cl_types.specs.declared.keys.Dir.{Dir}
use Rattle.cl_types.specs.declared.keys.Dir.TheVariants.{Ingress, Egress}
use Rattle.cl_types.specs.declared.question.Question.{Question}
use Rattle.cl_types.specs.Addr.{addr_order}
use Rattle.cl_types.specs.Ascending.{Ascends}
use Rattle.cl_types.specs.Text.{text_eq}
use Rattle.cl_types.specs.Dir.{dir_eq}
use Rattle.cl_types.specs.RuleOrder.{policy_order}
use Rattle.label_select.specs.Group.{Group, IsGroup}
use Rattle.cluster_types.specs.Egress.{EgressData}
use Rattle.cluster_types.specs.declared.policy.Rule.{Rule}
use Rattle.cluster_types.specs.Pod.{has_address}
use Rattle.cluster_types.specs.Evaluation.{peers_contain, services_match, applies, rule_matches, rule_key, rule_action, side_of, pod_on}
use Rattle.cluster_types.specs.Pod.{counts}
use Rattle.cluster_types.specs.Pod.{PodData}
use Rattle.cluster_types.specs.Policy.{PolicyData, isolates}
use Rattle.cluster_types.specs.Cluster.{ClusterData, IsCluster}
use Rattle.cluster_types.specs.declared.steps.Stage.{Stage}
use Rattle.cluster_types.specs.Steps.{first, in_stage, is_kube, allowed_by_default, verdict_of}
use Rattle.watch_streams.specs.declared.net.NetRule.{NetRule}
use Rattle.watch_streams.specs.HeldEvaluation.{HeldMaps, held_member, is_at, held_rule_matches, held_rules_with, held_isolated, net_rule_key}
use Rattle.cluster_types.specs.Whole.{AreWholePeers, IsWholePolicy}
use Rattle.watch_streams.specs.Laws.{held_of, OneRevisionIsThePoliciesVerdict}
use Rattle.watch_streams.specs.Net.{NetPolicyData, net_isolates}
use Rattle.watch_streams.specs.Projection.{net_rule, net_policy, members_on, group_members, is_on, policy_is_on, egress_is_on, policies_on, egresses_on, rule_groups, policy_groups}
use Rattle.watch_streams.proofs.FirstRules.{verdict_told}
use Rattle.watch_streams.proofs.HeldGroups.{GroupTextsDiffer, HeldAs, held_all}
use Rattle.watch_streams.proofs.HeldPolicies.{PolicyTextsDiffer, any_held, first_held}
use Rattle.watch_streams.proofs.GroupForms.{policy_forms}
use Rattle.watch_streams.proofs.HeldRules.{no_rule, PeersAreHeld, AppliedAreHeld, applies_same, rule_same}
use Rattle.cl_types.specs.RuleOrder.{policy_order_total}
use Rattle.cl_types.specs.AscendingLaws.{ascends_filter}
use Rattle.cl_types.specs.ListLaws.{all_weaker, all_filter}
use Rattle.watch_streams.specs.OneOfAll.{all_of_both, all_map, all_append, all_front, all_flat_map, all_parts, all_kept, and_false, list_any-all, list_any-each, list_any-none, list_any-filter, found-passes, found-fails, filter-map, filter-all, filter-none, flat_map-none, flat_map-kept, map-flat_map}

isolates_same : (p : PolicyData) (d : Dir) → net_isolates (net_policy p) d ≡ isolates p d
isolates_same p Ingress = refl
isolates_same p Egress = refl

on_and : (a b c d : Bool) → ((a && b) && c) ≡ true → (b && d) ≡ false → d ≡ false
on_and a true c d e off = off
on_and true false c d e off = cc
on_and false false c d e off = cc

-- ---- what the policies say of a pod, where there is one

abbrev own_applies : ClusterData → Option PodData → PolicyData → Bool
own_applies c o p = option_map_or (applies c p) o false

module _ (c : ClusterData) (q : Question) (o : Option PodData) where
  abbrev asked : Stage → PolicyData → Rule → Bool
  asked stage p r = in_stage stage p.key.kind r.key && option_map_or (λ pod. rule_matches c p r pod q) o false

  abbrev rules_at : Stage → List Rule
  rules_at stage = flat_map (λ p. filter (asked stage p) p.rules) c.policies

  abbrev isolated_at : Bool
  isolated_at = list_any (λ p. (is_kube p.key.kind && isolates p q.dir) && own_applies c o p) c.policies

-- where the policy doesn't apply no rule has anything
unasked : (c : ClusterData) (q : Question) (o : Option PodData) (stage : Stage) (p : PolicyData) → own_applies c o p ≡ false → (r : Rule) → asked c q o stage p r ≡ false
unasked c q o stage p none r = ap (λ b. in_stage stage p.key.kind r.key && b) (by_cases o none) ∙ and_false (in_stage stage p.key.kind r.key)
  where
    by_cases : (o : Option PodData) → own_applies c o p ≡ false → option_map_or (λ pod. rule_matches c p r pod q) o false ≡ false
    by_cases None none = refl
    by_cases (Some pod) none = no_rule (dir_eq r.key.dir q.dir) (applies c p pod) (peers_contain c q.peer r.peers) (services_match c r pod q r.services) none

-- this is the policies' verdict: where there is no pod everything is allowed
side_is : (c : ClusterData) (q : Question) (o : Option PodData) → verdict_of rule_key rule_action (rules_at c q o) (isolated_at c q o) ≡ option_map_or (λ pod. side_of c pod q) o allowed_by_default
side_is c q None = ap₂ (verdict_of rule_key rule_action) (λ i stage. no_rules stage i) (list_any-each _ (λ p. false) (λ p. and_false (is_kube p.key.kind && isolates p q.dir)) c.policies ∙ list_any-none c.policies)
  where
    no_rules : (stage : Stage) → rules_at c q None stage ≡ []
    no_rules stage = flat_map-none (λ p. filter (asked c q None stage p) p.rules) (λ p. filter-none (asked c q None stage p) (unasked c q None stage p refl) p.rules) c.policies
side_is c q (Some pod) = refl

-- ---- what an agent holds

-- what is known of a policy on the node
record IsOnNode (c : ClusterData) (node : List ℕ) (p : PolicyData) : Type 0 where
  whole : IsWholePolicy p
  applied : AppliedAreHeld c node (held_of c node) p
  peers : AllByRecursion (λ (r : Rule). PeersAreHeld c (held_of c node) r r.peers) p.rules

module _ (groups_differ : GroupTextsDiffer) (policies_differ : PolicyTextsDiffer) (exact : (a b : Addr) → addr_order a b ≡ Equal → a ≡ b)
    (c : ClusterData) (node : List ℕ) (q : Question) (whole : IsCluster c) where
  abbrev held : HeldMaps
  held = held_of c node

  whole_on : AllByRecursion IsWholePolicy (policies_on c node)
  whole_on = all_filter IsWholePolicy (policy_is_on c node) c.policies whole.parts.policies

  -- the groups to which a policy on the node applies are held
  applied_on : AllByRecursion (λ p. policy_is_on c node p ≡ true → AppliedAreHeld c node held p) c.policies
  applied_on =
      all_kept (HeldAs (members_on c node) held.applied) (λ (p : PolicyData). p.applied) (policy_is_on c node) c.policies
      (all_front (HeldAs (members_on c node) held.applied) of_policies of_egresses (held_all groups_differ (members_on c node) (of_policies ++ of_egresses) (all_append IsGroup of_policies of_egresses policies_are egresses_are)))
    where
      of_policies : List Group
      of_policies = flat_map (λ (p : PolicyData). p.applied) (policies_on c node)

      of_egresses : List Group
      of_egresses = map (λ (e : EgressData). e.applied) (egresses_on c node)

      policies_are : AllByRecursion IsGroup of_policies
      policies_are = all_flat_map IsGroup (λ (p : PolicyData). p.applied) (policies_on c node) (all_weaker IsWholePolicy (λ p. AllByRecursion IsGroup p.applied) (λ p is. is.applied) (policies_on c node) whole_on)

      egresses_are : AllByRecursion IsGroup of_egresses
      egresses_are = all_map IsGroup (λ (e : EgressData). e.applied) (egresses_on c node) (all_filter (λ (e : EgressData). IsGroup e.applied) (egress_is_on c node) c.egresses whole.parts.egresses)

  -- the groups of the peers of a policy on the node are held
  peers_on : AllByRecursion (λ p. policy_is_on c node p ≡ true → AllByRecursion (HeldAs (group_members c) held.addresses) (policy_groups p)) c.policies
  peers_on =
      all_kept (HeldAs (group_members c) held.addresses) policy_groups (policy_is_on c node) c.policies
      (held_all groups_differ (group_members c) (flat_map policy_groups (policies_on c node)) (all_flat_map IsGroup policy_groups (policies_on c node) (all_weaker IsWholePolicy _ policy_forms (policies_on c node) whole_on)))

  all_on : AllByRecursion (λ p. policy_is_on c node p ≡ true → IsOnNode c node p) c.policies
  all_on = all_of_both IsWholePolicy Both (λ p. policy_is_on c node p ≡ true → IsOnNode c node p) known c.policies whole.parts.policies (all_of_both _ _ Both (λ p applied peers. (applied, peers)) c.policies applied_on peers_on)
    where
      Both : PolicyData → Type 0
      Both p = (policy_is_on c node p ≡ true → AppliedAreHeld c node held p) × (policy_is_on c node p ≡ true → AllByRecursion (HeldAs (group_members c) held.addresses) (policy_groups p))

      known : (p : PolicyData) → IsWholePolicy p → Both p → policy_is_on c node p ≡ true → IsOnNode c node p
      known p is both on =
          record { whole = is; applied = both.0 on; peers = all_parts (HeldAs (group_members c) held.addresses) (λ (r : Rule). rule_groups r r.peers) p.rules (both.1 on) }

  -- ---- what is asked of a policy

  -- the pod at the question's own address
  abbrev own : Option PodData
  own = pod_on c node q.own

  abbrev told : Stage → PolicyData → NetRule → Bool
  told stage p r = in_stage stage p.key.kind r.key && held_rule_matches held q (net_policy p) r

  abbrev told_isolates : NetPolicyData → Bool
  told_isolates p = (is_kube p.key.kind && net_isolates p q.dir) && list_any (held_member (is_at q.own) held.applied) p.applied

  -- a policy that isn't on the node doesn't apply to its pods
  off_node : (o : Option PodData) → pod_on c node q.own ≡ o → (p : PolicyData) → policy_is_on c node p ≡ false → own_applies c o p ≡ false
  off_node None is p off = refl
  off_node (Some pod) is p off =
      on_and (counts pod) (is_on node pod) (has_address q.own pod) (applies c p pod)
      (found-passes (λ x. counts x && text_eq x.node node && has_address q.own x) c.pods pod is)
      (found-fails (λ x. counts x && text_eq x.node node && has_address q.own x) (λ x. is_on node x && applies c p x) c.pods pod is off)

  rules_same : (stage : Stage) (p : PolicyData) → IsOnNode c node p → filter (told stage p) (map net_rule p.rules) ≡ map net_rule (filter (asked c q own stage p) p.rules)
  rules_same stage p is =
      filter-map (told stage p) net_rule p.rules
      ∙ ap (map net_rule) (filter-all (λ r. told stage p (net_rule r)) (asked c q own stage p) p.rules (all_of_both (λ (r : Rule). AreWholePeers r.peers) (λ (r : Rule). PeersAreHeld c held r r.peers) (λ r. told stage p (net_rule r) ≡ asked c q own stage p r) one p.rules is.whole.peers is.peers))
    where
      one : (r : Rule) → AreWholePeers r.peers → PeersAreHeld c held r r.peers → told stage p (net_rule r) ≡ asked c q own stage p r
      one r whole_r held_r = ap (λ b. in_stage stage p.key.kind r.key && b) (rule_same groups_differ exact c node held whole.apart p is.applied r q whole_r held_r)

  rules_of : (stage : Stage) (p : PolicyData) → (policy_is_on c node p ≡ true → IsOnNode c node p)
      → cond (policy_is_on c node p) (filter (told stage p) (map net_rule p.rules)) [] ≡ map net_rule (filter (asked c q own stage p) p.rules)
  rules_of stage p known = by_cases (policy_is_on c node p) refl
    where
      by_cases : (b : Bool) → policy_is_on c node p ≡ b → cond b (filter (told stage p) (map net_rule p.rules)) [] ≡ map net_rule (filter (asked c q own stage p) p.rules)
      by_cases true on = rules_same stage p (known on)
      by_cases false off = ap (map net_rule) (sym (filter-none (asked c q own stage p) (unasked c q own stage p (off_node own refl p off)) p.rules))

  isolated_of : (p : PolicyData) → (policy_is_on c node p ≡ true → IsOnNode c node p)
      → (policy_is_on c node p && told_isolates (net_policy p)) ≡ ((is_kube p.key.kind && isolates p q.dir) && own_applies c own p)
  isolated_of p known = by_cases (policy_is_on c node p) refl
    where
      by_cases : (b : Bool) → policy_is_on c node p ≡ b → (b && told_isolates (net_policy p)) ≡ ((is_kube p.key.kind && isolates p q.dir) && own_applies c own p)
      by_cases true on = (λ i. (is_kube p.key.kind && isolates_same p q.dir i) && applies_same groups_differ exact c node held whole.apart p (known on).applied q i)
      by_cases false off = sym (ap (λ b. (is_kube p.key.kind && isolates p q.dir) && b) (off_node own refl p off) ∙ and_false (is_kube p.key.kind && isolates p q.dir))

  -- ---- what is asked of all policies

  ascend_on : Ascends (λ (p : PolicyData). p.key) policy_order (policies_on c node)
  ascend_on = ascends_filter (λ (p : PolicyData). p.key) policy_order_total (policy_is_on c node) c.policies whole.policies_ascend

  first_same : (stage : Stage) → first net_rule_key (held_rules_with held q stage) ≡ first net_rule_key (map net_rule (rules_at c q own stage))
  first_same stage =
      first_held policies_differ (policies_on c node) (egresses_on c node) whole_on ascend_on (λ p r. in_stage stage p.key.kind r.key && held_rule_matches held q p r)
      ∙ ap (first net_rule_key)
      (flat_map-kept (λ p. filter (told stage p) (map net_rule p.rules)) (λ p. map net_rule (filter (asked c q own stage p) p.rules)) (policy_is_on c node) c.policies (all_weaker _ _ (rules_of stage) c.policies all_on)
      ∙ sym (map-flat_map net_rule (λ p. filter (asked c q own stage p) p.rules) c.policies))

  isolated_same : held_isolated held q ≡ isolated_at c q own
  isolated_same =
      any_held policies_differ (policies_on c node) (egresses_on c node) whole_on ascend_on told_isolates
      ∙ list_any-filter (λ p. told_isolates (net_policy p)) (policy_is_on c node) c.policies
      ∙ list_any-all _ _ c.policies (all_weaker _ _ isolated_of c.policies all_on)

pub one_revision : GroupTextsDiffer → PolicyTextsDiffer → ((a b : Addr) → addr_order a b ≡ Equal → a ≡ b) → OneRevisionIsThePoliciesVerdict
one_revision groups_differ policies_differ exact c node q whole =
    verdict_told (held_rules_with (held_of c node) q) (rules_at c q (pod_on c node q.own)) (held_isolated (held_of c node) q) (isolated_at c q (pod_on c node q.own))
    (first_same groups_differ policies_differ exact c node q whole) (isolated_same groups_differ policies_differ exact c node q whole)
    ∙ side_is c q (pod_on c node q.own)
