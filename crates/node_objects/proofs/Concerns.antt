-- Who concerns a node by an index of groups, and what the index tells of members, is so at its cluster.
use Rattle.std.proofs.Common.{◌≡◌, ℕ, List, [], ◌∷◌, Bool, true, false, ◌&&◌, ◌||◌, filter, map, refl, ap, ap₂, ◌∙◌}
use Rattle.std.specs.List.{AllByRecursion, list_any}
use Rattle.cl_types.specs.Text.{text_eq}
use Rattle.label_select.specs.Group.{Group}
use Rattle.cluster_types.specs.Choice.{egress_counts}
use Rattle.cluster_types.specs.Cluster.{ClusterData, IsCluster}
use Rattle.cluster_types.specs.Egress.{EgressData}
use Rattle.cluster_types.specs.Groups.{in_group}
use Rattle.cluster_types.specs.Pod.{PodData}
use Rattle.cluster_types.specs.Policy.{PolicyData}
use Rattle.group_index.specs.Index.{EntryData, StandsFor, has_node}
use Rattle.group_index.specs.Members as index
use Rattle.group_index.specs.MemberLaws.{members_are_told, members_on_are_told}
use Rattle.watch_streams.specs.MemberOrder.{member_order_total}
use Rattle.watch_streams.specs.Projection.{egress_is_on, group_members, is_on, members_on, policy_is_on}
use Rattle.node_objects.specs.Indexed.{all_told, is_egress_on, is_policy_on, on_told, told}
use Rattle.node_objects.specs.Sides.{IsInUse}
use Rattle.node_objects.specs.NodeLaws.{pods_on_is}
use Rattle.node_objects.specs.SideLaws.{follows, in_use_members}

-- ---- members

pub all_told_is : (c : ClusterData) → IsCluster c → (groups : List EntryData) → StandsFor groups c → (g : Group) → IsInUse groups g → all_told groups g ≡ group_members c g
all_told_is c whole groups stands g used = ap (map told) (in_use_members c groups stands g used) ∙ members_are_told told member_order_total follows c whole g

pub on_told_is : (c : ClusterData) → IsCluster c → (groups : List EntryData) → StandsFor groups c → (node : List ℕ) (g : Group) → IsInUse groups g → on_told groups node g ≡ members_on c node g
on_told_is c whole groups stands node g used =
    ap (λ ms. map told (filter (index.is_member_on node) ms)) (in_use_members c groups stands g used) ∙ members_on_are_told told member_order_total follows c whole node g

-- ---- nodes

-- a member is on the node where a pod of the group is
group_on_is : (c : ClusterData) → IsCluster c → (groups : List EntryData) → StandsFor groups c → (node : List ℕ) (g : Group) → IsInUse groups g
    → has_node groups g node ≡ list_any (λ p. is_on node p && in_group c g p) c.pods
group_on_is c whole groups stands node g used = ap (list_any (index.is_member_on node)) (in_use_members c groups stands g used) ∙ pods_on_is c whole node g

-- ---- policies and Egresses

any-or : {T : Type 0} (k l : T → Bool) (xs : List T) → list_any (λ x. k x || l x) xs ≡ (list_any k xs || list_any l xs)
any-or k l [] = refl
any-or k l (x ∷ xs) = ap (λ b. (k x || l x) || b) (any-or k l xs) ∙ four (k x) (l x) (list_any k xs) (list_any l xs)
  where
    four : (a b d e : Bool) → ((a || b) || (d || e)) ≡ ((a || d) || (b || e))
    four true b d e = refl
    four false true true e = refl
    four false true false e = refl
    four false false d e = refl

any-none : {T : Type 0} (xs : List T) → list_any (λ (x : T). false) xs ≡ false
any-none [] = refl
any-none (x ∷ xs) = any-none xs

any-and : {T : Type 0} (b : Bool) (k : T → Bool) (xs : List T) → list_any (λ x. b && k x) xs ≡ (b && list_any k xs)
any-and true k xs = refl
any-and false k xs = any-none xs

pub any-same : {T : Type 0} (k l : T → Bool) (xs : List T) → AllByRecursion (λ x. k x ≡ l x) xs → list_any k xs ≡ list_any l xs
any-same k l [] all = refl
any-same k l (x ∷ xs) all = ap₂ (λ a b. a || b) all.0 (any-same k l xs all.1)

-- some group has some pod where some pod is in some group
any_swap : (c : ClusterData) (node : List ℕ) (gs : List Group) (ps : List PodData)
    → list_any (λ g. list_any (λ p. is_on node p && in_group c g p) ps) gs ≡ list_any (λ p. is_on node p && list_any (λ g. in_group c g p) gs) ps
any_swap c node gs [] = any-none gs
any_swap c node gs (p ∷ ps) =
    any-or (λ g. is_on node p && in_group c g p) (λ g. list_any (λ q. is_on node q && in_group c g q) ps) gs
    ∙ ap₂ (λ a b. a || b) (any-and (is_on node p) (λ g. in_group c g p) gs) (any_swap c node gs ps)

all_on : (c : ClusterData) → IsCluster c → (groups : List EntryData) → StandsFor groups c → (node : List ℕ) (gs : List Group) → AllByRecursion (IsInUse groups) gs
    → AllByRecursion (λ g. has_node groups g node ≡ list_any (λ p. is_on node p && in_group c g p) c.pods) gs
all_on c whole groups stands node [] used = tt
all_on c whole groups stands node (g ∷ gs) used = (group_on_is c whole groups stands node g used.0, all_on c whole groups stands node gs used.1)

pub policy_on_is : (c : ClusterData) → IsCluster c → (groups : List EntryData) → StandsFor groups c → (node : List ℕ) (p : PolicyData) → AllByRecursion (IsInUse groups) p.applied
    → is_policy_on groups node p ≡ policy_is_on c node p
policy_on_is c whole groups stands node p used =
    any-same (λ g. has_node groups g node) (λ g. list_any (λ q. is_on node q && in_group c g q) c.pods) p.applied (all_on c whole groups stands node p.applied used)
    ∙ any_swap c node p.applied c.pods

pub egress_on_is : (c : ClusterData) → IsCluster c → (groups : List EntryData) → StandsFor groups c → (node : List ℕ) (e : EgressData) → (egress_counts c e ≡ true → IsInUse groups e.applied)
    → is_egress_on c groups node e ≡ egress_is_on c node e
egress_on_is c whole groups stands node e used = by_count (egress_counts c e) refl
  where
    by_count : (b : Bool) → egress_counts c e ≡ b
        → (b && (text_eq e.node node || has_node groups e.applied node)) ≡ (b && (text_eq e.node node || list_any (λ p. is_on node p && in_group c e.applied p) c.pods))
    by_count true counts = ap (λ b. text_eq e.node node || b) (group_on_is c whole groups stands node e.applied (used counts))
    by_count false counts = refl
