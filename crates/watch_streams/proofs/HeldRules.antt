-- A rule of a held policy has a question of a pod where the policy's own rule has it.
use Rattle.std.proofs.Common.{◌≡◌, ℕ, List, [], ◌∷◌, flat_map, Equal, Bool, true, false, not, ◌&&◌, ◌||◌, if◌then◌else◌, Option, Some, None, option_map, refl, sym, ap, ◌∙◌}
use Rattle.std.specs.List.{AllByRecursion, list_any, list_all}
use Rattle.std.specs.Option.{option_map_or}
use Rattle.cl_types.specs.declared.addr.Addr.{Addr}
use Rattle.cl_types.specs.declared.keys.Dir.{Dir}
use Rattle.cl_types.specs.declared.keys.Dir.TheVariants.{Ingress, Egress}
use Rattle.cl_types.specs.declared.service.PortName.{PortName}
use Rattle.cl_types.specs.declared.question.Question.{Question}
use Rattle.cl_types.specs.Addr.{addr_order, addr_eq}
use Rattle.cl_types.specs.Dir.{dir_eq}
use Rattle.cl_types.specs.Proto.{proto_eq}
use Rattle.cl_types.specs.Service.{PortRange}
use Rattle.label_select.specs.Group.{Group}
use Rattle.cluster_types.specs.declared.policy.Peer.{Peer}
use Rattle.cluster_types.specs.declared.policy.Peer.TheVariants as peer
use Rattle.cluster_types.specs.declared.policy.Rule.{Rule}
use Rattle.cluster_types.specs.Pod.{has_address}
use Rattle.cluster_types.specs.Evaluation.{block_contains, group_contains, peer_contains, peers_contain, service_matches, is_port, defines, peer_contains_pod, peers_contain_pod, name_matches, services_match, applies, rule_matches, pod_on}
use Rattle.cluster_types.specs.Pod.{counts}
use Rattle.cluster_types.specs.Groups.{in_group}
use Rattle.cluster_types.specs.Cluster.{AllApart}
use Rattle.cluster_types.specs.Pod.{PodData}
use Rattle.cluster_types.specs.Policy.{PolicyData}
use Rattle.cluster_types.specs.Cluster.{ClusterData}
use Rattle.watch_streams.specs.HeldEvaluation.{HeldMaps, held_member, is_held, is_at, groups_of, resolves, is_complete, held_peers_contain, destination, member_defines, held_name_matches, held_services_match, held_rule_matches}
use Rattle.cluster_types.specs.Whole.{AreWholePeers}
use Rattle.watch_streams.specs.Projection.{groups_by_text, peer_groups, peer_blocks, net_peers, net_rule, net_policy, members_on, group_members, all_pods, is_egress, has_names, rule_groups}
use Rattle.watch_streams.proofs.GroupForms.{groups_are}
use Rattle.watch_streams.proofs.HeldGroups.{GroupTextsDiffer, HeldAs, held_is_held, list_any-groups_by_text, all_groups_by_text}
use Rattle.watch_streams.proofs.HeldMembers.{AsksOfPods, peer_member, own_any}
use Rattle.cl_types.specs.ListLaws.{all_weaker}
use Rattle.watch_streams.specs.OneOfAll.{or_false, and_false, and_true, and_assoc, list_any-all, list_any-each, list_any-and, list_any-or, list_any-flat_map, list_any-swap, list_all-all}

-- ---- tests

same_rule : (k d a b c a' b' c' : Bool) → k ≡ true → a ≡ a' → b ≡ b' → (d ≡ true → a' ≡ true → c ≡ c') → ((((k && d) && a) && b) && c) ≡ (((d && a') && b') && c')
same_rule k d a b c a' b' c' of_k of_a of_b of_c = (λ i. (((of_k i && d) && of_a i) && of_b i) && c) ∙ by_cases d a' of_c
  where
    by_cases : (d a' : Bool) → (d ≡ true → a' ≡ true → c ≡ c') → (((d && a') && b') && c) ≡ (((d && a') && b') && c')
    by_cases false a' of_c = refl
    by_cases true false of_c = refl
    by_cases true true of_c = ap (λ z. b' && z) (of_c refl refl)

pub no_rule : (k a b c : Bool) → a ≡ false → (((k && a) && b) && c) ≡ false
no_rule k a b c e = ap (λ z. ((k && z) && b) && c) e ∙ ap (λ z. (z && b) && c) (and_false k)

-- ---- directions

dir_same : (a b : Dir) → dir_eq a b ≡ true → a ≡ b
dir_same Ingress Ingress e = refl
dir_same Ingress Egress e = cc
dir_same Egress Ingress e = cc
dir_same Egress Egress e = refl

-- ---- peers

module _ (c : ClusterData) where
  -- the groups and the blocks of peers have the addresses that the peers have
  peers_split : (a : Addr) (peers : List Peer) → (list_any (λ g. group_contains c g a) (flat_map peer_groups peers) || list_any (λ b. block_contains b a) (flat_map peer_blocks peers)) ≡ list_any (peer_contains c a) peers
  peers_split a peers =
      (λ i. list_any-flat_map (λ g. group_contains c g a) peer_groups peers i || list_any-flat_map (λ b. block_contains b a) peer_blocks peers i)
      ∙ sym (list_any-or (λ p. list_any (λ g. group_contains c g a) (peer_groups p)) (λ p. list_any (λ b. block_contains b a) (peer_blocks p)) peers)
      ∙ list_any-each _ (peer_contains c a) one peers
    where
      one : (p : Peer) → (list_any (λ g. group_contains c g a) (peer_groups p) || list_any (λ b. block_contains b a) (peer_blocks p)) ≡ peer_contains c a p
      one (peer.Group g) = or_false (group_contains c g a || false) ∙ or_false (group_contains c g a)
      one (peer.Block b) = or_false (block_contains b a)
      one peer.Never = refl

  -- the groups of peers have the pods that the peers have
  peers_are_groups : (d : PodData) (peers : List Peer) → list_any (λ g. in_group c g d) (flat_map peer_groups peers) ≡ list_any (peer_contains_pod c d) peers
  peers_are_groups d peers = list_any-flat_map (λ g. in_group c g d) peer_groups peers ∙ list_any-each (λ p. list_any (λ g. in_group c g d) (peer_groups p)) (peer_contains_pod c d) one peers
    where
      one : (p : Peer) → list_any (λ g. in_group c g d) (peer_groups p) ≡ peer_contains_pod c d p
      one (peer.Group g) = or_false (in_group c g d)
      one (peer.Block b) = refl
      one peer.Never = refl

-- ---- what is asked of members

asks_at : (a : Addr) → AsksOfPods (is_at a) (λ pod. has_address a pod && true)
asks_at a pod = sym (and_true (has_address a pod))

asks_port : (q : Question) (name : PortName) → AsksOfPods (member_defines q name) (λ pod. has_address (destination q q.dir) pod && defines q name pod)
asks_port q name pod =
    list_any-each _ (λ a. addr_eq a (destination q q.dir) && defines q name pod) (λ a. and_assoc (addr_eq a (destination q q.dir)) (proto_eq name.proto q.proto) (list_any (is_port q name) pod.ports)) pod.addresses
    ∙ list_any-and (λ a. addr_eq a (destination q q.dir)) (defines q name pod) pod.addresses

-- where there are names, two tests of them that agree answer alike
named_alike : (f g : PortName → Bool) (names : List PortName) → (has_names names ≡ true → (name : PortName) → f name ≡ g name) → list_any f names ≡ list_any g names
named_alike f g [] same = refl
named_alike f g (name ∷ names) same = list_any-each f g (same refl) (name ∷ names)

-- the groups of the rule's peers are held, with all their members
abbrev pub PeersAreHeld : ClusterData → HeldMaps → Rule → Option (List Peer) → Type 0
PeersAreHeld c h r peers = AllByRecursion (HeldAs (group_members c) h.addresses) (rule_groups r peers)

-- the groups to which the policy applies are held, with their members on the node
abbrev pub AppliedAreHeld : ClusterData → List ℕ → HeldMaps → PolicyData → Type 0
AppliedAreHeld c node h p = AllByRecursion (HeldAs (members_on c node) h.applied) p.applied

module _ (differ : GroupTextsDiffer) (exact : (a b : Addr) → addr_order a b ≡ Equal → a ≡ b) (c : ClusterData) (node : List ℕ) (h : HeldMaps) where
  -- ---- complete rules

  all_held : (gs : List Group) → AllByRecursion (HeldAs (group_members c) h.addresses) gs → list_all (is_held h.addresses) (groups_by_text gs) ≡ true
  all_held gs held =
      list_all-all (is_held h.addresses) (groups_by_text gs)
      (all_groups_by_text (λ g. is_held h.addresses g ≡ true) gs (all_weaker (HeldAs (group_members c) h.addresses) (λ g. is_held h.addresses g ≡ true) (held_is_held (group_members c) h.addresses) gs held))

  applied_held : (p : PolicyData) → AppliedAreHeld c node h p → list_all (is_held h.applied) p.applied ≡ true
  applied_held p held =
      list_all-all (is_held h.applied) p.applied (all_weaker (HeldAs (members_on c node) h.applied) (λ g. is_held h.applied g ≡ true) (held_is_held (members_on c node) h.applied) p.applied held)

  peers_held : (r : Rule) (peers : Option (List Peer)) → PeersAreHeld c h r peers → list_all (is_held h.addresses) (groups_of (option_map net_peers peers)) ≡ true
  peers_held r None held = refl
  peers_held r (Some peers) held = all_held (flat_map peer_groups peers) held

  -- the rule with this direction, these peers and these names
  abbrev rule_of : Rule → Dir → Option (List Peer) → List PortName → Rule
  rule_of r d peers names = record r { key = record r.key { dir = d }; peers = peers; named = names }

  names_held : (p : PolicyData) (r : Rule) (d : Dir) (peers : Option (List Peer)) (names : List PortName) → AppliedAreHeld c node h p → PeersAreHeld c h (rule_of r d peers names) peers
      → (not (has_names names) || resolves h (net_policy p) (net_rule (rule_of r d peers names))) ≡ true
  names_held p r d peers [] applied held = refl
  names_held p r Ingress peers (n ∷ ns) applied held = applied_held p applied
  names_held p r Egress None (n ∷ ns) applied held = ap (λ b. b && true) (held_is_held (group_members c) h.addresses all_pods held.0)
  names_held p r Egress (Some peers) (n ∷ ns) applied held = all_held (flat_map peer_groups peers) held

  complete : (p : PolicyData) (r : Rule) → AppliedAreHeld c node h p → PeersAreHeld c h r r.peers → is_complete h (net_policy p) (net_rule r) ≡ true
  complete p r applied held =
      (λ i. (peers_held r r.peers held i && applied_held p applied i) && (not (has_names r.named) || resolves h (net_policy p) (net_rule r)))
      ∙ names_held p r r.key.dir r.peers r.named applied held

  -- ---- peers

  at_member : (a : Addr) (g : Group) → HeldAs (group_members c) h.addresses g → held_member (is_at a) h.addresses g ≡ group_contains c g a
  at_member a g is = peer_member exact c h.addresses (is_at a) (has_address a) (λ pod. refl) g is

  peers_same : (a : Addr) (r : Rule) (peers : Option (List Peer)) → AreWholePeers peers → PeersAreHeld c h r peers → held_peers_contain h a (option_map net_peers peers) ≡ peers_contain c a peers
  peers_same a r None whole held = refl
  peers_same a r (Some peers) whole held =
      ap (λ b. b || list_any (λ b. block_contains b a) (flat_map peer_blocks peers))
      (list_any-groups_by_text differ (held_member (is_at a) h.addresses) (flat_map peer_groups peers) (groups_are peers whole)
      ∙ list_any-all (held_member (is_at a) h.addresses) (λ g. group_contains c g a) (flat_map peer_groups peers) (all_weaker (HeldAs (group_members c) h.addresses) _ (at_member a) (flat_map peer_groups peers) held))
      ∙ peers_split c a peers

  -- ---- named ports of peers

  all_pods_held : (d : Dir) (b : Bool) → d ≡ Egress → b ≡ true → AllByRecursion (HeldAs (group_members c) h.addresses) (if is_egress d && b then all_pods ∷ [] else []) → HeldAs (group_members c) h.addresses all_pods
  all_pods_held Ingress b of_d of_b held = cc
  all_pods_held Egress true of_d of_b held = held.0
  all_pods_held Egress false of_d of_b held = cc

  and_move : (a b c : Bool) → (b && (a && c)) ≡ ((a && b) && c)
  and_move true b c = refl
  and_move false b c = and_false b

  -- on egress a name has the ports of the members of the peers' groups
  egress_name : (p : PolicyData) (r : Rule) (q : Question) (name : PortName) (peers : Option (List Peer)) (pod : PodData) → AreWholePeers peers → PeersAreHeld c h r peers → r.key.dir ≡ Egress → has_names r.named ≡ true
      → held_name_matches h (net_policy p) (net_rule (record r { peers = peers })) (record q { dir = Egress }) name ≡ name_matches c (record r { peers = peers }) pod (record q { dir = Egress }) name
  egress_name p r q name None pod whole held of_d of_n =
      or_false (held_member (member_defines asked name) h.addresses all_pods)
      ∙ peer_member exact c h.addresses (member_defines asked name) _ (asks_port asked name) all_pods (all_pods_held r.key.dir (has_names r.named) of_d of_n held)
      ∙ list_any-each _ _ (λ d. ap (λ b. b && (has_address q.peer d && defines asked name d)) (and_true (counts d)) ∙ and_move (has_address q.peer d) (counts d) (defines asked name d)) c.pods
    where
      asked : Question
      asked = record q { dir = Egress }
  egress_name p r q name (Some peers) pod whole held of_d of_n =
      list_any-groups_by_text differ (held_member (member_defines asked name) h.addresses) gs (groups_are peers whole)
      ∙ list_any-all (held_member (member_defines asked name) h.addresses) _ gs (all_weaker (HeldAs (group_members c) h.addresses) _ (peer_member exact c h.addresses (member_defines asked name) passes (asks_port asked name)) gs held)
      ∙ list_any-swap (λ g d. in_group c g d && passes d) gs c.pods
      ∙ list_any-each _ _ (λ d. list_any-and (λ g. in_group c g d) (passes d) gs ∙ ap (λ b. b && passes d) (peers_are_groups c d peers) ∙ and_move (has_address q.peer d) (peers_contain_pod c d (Some peers)) (defines asked name d)) c.pods
    where
      asked : Question
      asked = record q { dir = Egress }

      gs : List Group
      gs = flat_map peer_groups peers

      passes : PodData → Bool
      passes d = has_address q.peer d && defines asked name d

  -- ---- rules

  module _ (apart : AllApart c.pods) (p : PolicyData) (applied : AppliedAreHeld c node h p) where
    -- some member at the question's own address is of a group to which the policy applies where the policy applies to that pod
    pub applies_same : (q : Question) → list_any (held_member (is_at q.own) h.applied) p.applied ≡ option_map_or (applies c p) (pod_on c node q.own) false
    applies_same q = own_any exact c node apart h.applied q.own (is_at q.own) (λ pod. true) (asks_at q.own) p.applied applied ∙ by_cases (pod_on c node q.own)
      where
        by_cases : (o : Option PodData) → option_map_or (λ pod. applies c p pod && true) o false ≡ option_map_or (applies c p) o false
        by_cases None = refl
        by_cases (Some pod) = and_true (applies c p pod)

    name_same : (r : Rule) (q : Question) (d : Dir) (name : PortName) (pod : PodData) → AreWholePeers r.peers → PeersAreHeld c h r r.peers → pod_on c node q.own ≡ Some pod → r.key.dir ≡ d → applies c p pod ≡ true → has_names r.named ≡ true
        → held_name_matches h (net_policy p) (net_rule r) (record q { dir = d }) name ≡ name_matches c r pod (record q { dir = d }) name
    name_same r q Ingress name pod whole held own of_d of_a of_n =
        own_any exact c node apart h.applied q.own (member_defines asked name) (defines asked name) (asks_port asked name) p.applied applied
        ∙ ap (λ (o : Option PodData). option_map_or (λ x. applies c p x && defines asked name x) o false) own
        ∙ ap (λ b. b && defines asked name pod) of_a
      where
        asked : Question
        asked = record q { dir = Ingress }
    name_same r q Egress name pod whole held own of_d of_a of_n = egress_name p r q name r.peers pod whole held of_d of_n

    services_same : (r : Rule) (q : Question) (pod : PodData) (services : Option (List PortRange)) → AreWholePeers r.peers → PeersAreHeld c h r r.peers → pod_on c node q.own ≡ Some pod → r.key.dir ≡ q.dir → applies c p pod ≡ true
        → held_services_match h (net_policy p) (net_rule r) q services ≡ services_match c r pod q services
    services_same r q pod None whole held own of_d of_a = refl
    services_same r q pod (Some services) whole held own of_d of_a =
        ap (λ b. list_any (service_matches q) services || b)
        (named_alike (held_name_matches h (net_policy p) (net_rule r) q) (name_matches c r pod q) r.named (λ of_n name. name_same r q q.dir name pod whole held own of_d of_a of_n))

    -- the rule that is held has the question where the policy's rule has it, of the pod at its own address
    pub rule_same : (r : Rule) (q : Question) → AreWholePeers r.peers → PeersAreHeld c h r r.peers → held_rule_matches h q (net_policy p) (net_rule r) ≡ option_map_or (λ pod. rule_matches c p r pod q) (pod_on c node q.own) false
    rule_same r q whole held = by_cases (pod_on c node q.own) refl (applies_same q)
      where
        told : Bool
        told = list_any (held_member (is_at q.own) h.applied) p.applied

        by_cases : (o : Option PodData) → pod_on c node q.own ≡ o → told ≡ option_map_or (applies c p) o false → held_rule_matches h q (net_policy p) (net_rule r) ≡ option_map_or (λ pod. rule_matches c p r pod q) o false
        by_cases None own of_a = no_rule (is_complete h (net_policy p) (net_rule r) && dir_eq r.key.dir q.dir) told _ _ of_a
        by_cases (Some pod) own of_a =
            same_rule (is_complete h (net_policy p) (net_rule r)) (dir_eq r.key.dir q.dir) told (held_peers_contain h q.peer (option_map net_peers r.peers)) _ (applies c p pod) (peers_contain c q.peer r.peers) _
            (complete p r applied held) of_a (peers_same q.peer r r.peers whole held)
            (λ of_d of_p. services_same r q pod r.services whole held own (dir_same r.key.dir q.dir of_d) of_p)
