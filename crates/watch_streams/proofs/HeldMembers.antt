-- The members that an agent holds of a group, as the pods of the cluster: on its node one pod at most has an address.
use Rattle.std.proofs.Common.{◌≡◌, ℕ, List, [], ◌∷◌, Equal, Bool, true, false, ◌&&◌, ◌||◌, cond, Option, Some, None, find, refl, ap, ◌∙◌}
use Rattle.std.specs.List.{AllByRecursion, list_any}
use Rattle.std.specs.Option.{option_map_or}
use Rattle.cl_types.specs.declared.addr.Addr.{Addr}
use Rattle.cl_types.specs.Addr.{addr_order}
use Rattle.cl_types.specs.Text.{text_eq}
use Rattle.label_select.specs.Group.{Group, group_has}
use Rattle.cluster_types.specs.Pod.{has_address}
use Rattle.cluster_types.specs.Evaluation.{pod_on}
use Rattle.cluster_types.specs.Pod.{counts}
use Rattle.cluster_types.specs.Groups.{in_group, ns_labels}
use Rattle.cluster_types.specs.Cluster.{AreApart, AllApart}
use Rattle.cluster_types.specs.Pod.{PodData}
use Rattle.cluster_types.specs.Cluster.{ClusterData}
use Rattle.watch_streams.specs.declared.message.StreamObject.{StreamObject}
use Rattle.watch_streams.specs.HeldEvaluation.{held_member}
use Rattle.watch_streams.specs.Net.{MemberData}
use Rattle.watch_streams.specs.Projection.{is_on, members_on, group_members}
use Rattle.watch_streams.proofs.HeldGroups.{HeldAs, held_member_is, list_any-members}
use Rattle.cl_types.specs.ListLaws.{all_weaker}
use Rattle.watch_streams.specs.OneOfAll.{or_false, and_false, list_any-all, list_any-each, list_any-none, list_any-and}

only_one : (cnt on at g d : Bool) → ((cnt && on) && at) ≡ true → ((on && (cnt && g)) && (at && d)) ≡ ((cnt && g) && d)
only_one true true true g d e = refl
only_one true true false g d e = cc
only_one true false at g d e = cc
only_one false on at g d e = cc

none_other : (cnt on at g d : Bool) → ((cnt && on) && at) ≡ false → ((on && (cnt && g)) && (at && d)) ≡ false
none_other true true true g d e = cc
none_other true true false g d e = and_false g
none_other true false at g d e = refl
none_other false true at g d e = refl
none_other false false at g d e = refl

all_three : (a b c : Bool) → ((a && b) && c) ≡ true → (a ≡ true) × (c ≡ true)
all_three true true c e = (refl, e)
all_three true false c e = cc
all_three false b c e = cc

module _ (c : ClusterData) (node : List ℕ) (a : Addr) (g : Group) (d : PodData → Bool) where
  -- the pod is of the group, on the node, at the address and passes
  abbrev is_there : PodData → Bool
  is_there p = (is_on node p && in_group c g p) && (has_address a p && d p)

  there-apart : (p r : PodData) → counts p ≡ true → has_address a p ≡ true → AreApart p r → is_there r ≡ false
  there-apart p r counts_p at_p apart = by_cases (counts r) (has_address a r) _ refl refl
    where
      by_cases : (cnt at x : Bool) → counts r ≡ cnt → has_address a r ≡ at → ((is_on node r && (cnt && x)) && (at && d r)) ≡ false
      by_cases true true x counts_r at_r = absurd (apart counts_p counts_r a at_p at_r)
      by_cases true false x counts_r at_r = and_false (is_on node r && x)
      by_cases false at x counts_r at_r = ap (λ b. b && (at && d r)) (and_false (is_on node r))

  -- such a pod is the one that is found on the node at the address
  there-found : (pods : List PodData) → AllApart pods → list_any is_there pods ≡ option_map_or (λ p. in_group c g p && d p) (find (λ p. counts p && text_eq p.node node && has_address a p) pods) false
  there-found [] apart = refl
  there-found (p ∷ ps) apart = by_cases (counts p && text_eq p.node node && has_address a p) refl (there-found ps apart.1)
    where
      rest : Option PodData
      rest = find (λ r. counts r && text_eq r.node node && has_address a r) ps

      by_cases : (b : Bool) → (counts p && text_eq p.node node && has_address a p) ≡ b → list_any is_there ps ≡ option_map_or (λ r. in_group c g r && d r) rest false
          → (is_there p || list_any is_there ps) ≡ option_map_or (λ r. in_group c g r && d r) (cond b (Some p) rest) false
      by_cases true is later =
          let own = all_three (counts p) (text_eq p.node node) (has_address a p) is in
          let others = list_any-all is_there (λ r. false) ps (all_weaker (AreApart p) (λ r. is_there r ≡ false) (λ r. there-apart p r own.0 own.1) ps apart.0) ∙ list_any-none ps in
          ap (λ b. is_there p || b) others ∙ or_false (is_there p) ∙ only_one (counts p) (text_eq p.node node) (has_address a p) (group_has g p.key.namespace (ns_labels c p.key.namespace) p.labels) (d p) is
      by_cases false is later = ap (λ b. b || list_any is_there ps) (none_other (counts p) (text_eq p.node node) (has_address a p) (group_has g p.key.namespace (ns_labels c p.key.namespace) p.labels) (d p) is) ∙ later

-- p asks of a pod's members what t asks of the pod
abbrev pub AsksOfPods : (MemberData → Bool) → (PodData → Bool) → Type 0
AsksOfPods p t = (pod : PodData) → list_any (λ a. p (record { address = a; ports = pod.ports })) pod.addresses ≡ t pod

module _ (exact : (a b : Addr) → addr_order a b ≡ Equal → a ≡ b) (c : ClusterData) where
  -- some member of the group passes where a pod of it does
  pub peer_member : (held : List StreamObject) (p : MemberData → Bool) (t : PodData → Bool) → AsksOfPods p t → (g : Group) → HeldAs (group_members c) held g → held_member p held g ≡ list_any (λ pod. in_group c g pod && t pod) c.pods
  peer_member held p t asks g is =
      held_member_is (group_members c) held p g is
      ∙ list_any-members exact p (in_group c g) c.pods
      ∙ list_any-each _ _ (λ pod. ap (λ b. in_group c g pod && b) (asks pod)) c.pods

  module _ (node : List ℕ) (apart : AllApart c.pods) (held : List StreamObject) (a : Addr) (p : MemberData → Bool) (d : PodData → Bool) (asks : AsksOfPods p (λ pod. has_address a pod && d pod)) where
    own_member : (g : Group) → HeldAs (members_on c node) held g → held_member p held g ≡ option_map_or (λ pod. in_group c g pod && d pod) (pod_on c node a) false
    own_member g is =
        held_member_is (members_on c node) held p g is
        ∙ list_any-members exact p (λ pod. is_on node pod && in_group c g pod) c.pods
        ∙ list_any-each _ _ (λ pod. ap (λ b. (is_on node pod && in_group c g pod) && b) (asks pod)) c.pods
        ∙ there-found c node a g d c.pods apart

    -- some member at the address passes where the pod is of one of the groups and passes
    pub own_any : (gs : List Group) → AllByRecursion (HeldAs (members_on c node) held) gs → list_any (held_member p held) gs ≡ option_map_or (λ pod. list_any (λ g. in_group c g pod) gs && d pod) (pod_on c node a) false
    own_any gs all = list_any-all (held_member p held) _ gs (all_weaker (HeldAs (members_on c node) held) _ own_member gs all) ∙ by_cases (pod_on c node a)
      where
        by_cases : (o : Option PodData) → list_any (λ g. option_map_or (λ pod. in_group c g pod && d pod) o false) gs ≡ option_map_or (λ pod. list_any (λ g. in_group c g pod) gs && d pod) o false
        by_cases None = list_any-none gs
        by_cases (Some pod) = list_any-and (λ g. in_group c g pod) (d pod) gs
