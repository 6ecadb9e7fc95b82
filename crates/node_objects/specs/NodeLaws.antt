-- Laws of the nodes that a group's members are on.
use Rattle.std.proofs.Common.{◌≡◌, ℕ, List, [], ◌∷◌, ◌++◌, Bool, true, false, ◌&&◌, ◌||◌, not, cond, filter, map, refl, ap, ◌∙◌}
use Rattle.std.specs.List.{flat_map, list_any}
use Rattle.std.specs.declared.cmp.Ordering.{Ordering}
use Rattle.std.specs.declared.cmp.Ordering.TheVariants.{Less, Equal, Greater}
use Rattle.std.specs.Ordering.{match_ordering}
use Rattle.cl_types.specs.declared.addr.Addr.{Addr}
use Rattle.cl_types.specs.Ascending.{put, sorted_set}
use Rattle.label_select.specs.Group.{Group}
use Rattle.cluster_types.specs.Cluster.{ClusterData, IsCluster}
use Rattle.cluster_types.specs.Groups.{in_group}
use Rattle.cluster_types.specs.Pod.{PodData, counts, has_some}
use Rattle.group_index.specs.Members as index
use Rattle.group_index.specs.MemberLaws.{members_on_are_told}
use Rattle.watch_streams.specs.MemberOrder.{member_order_total}
use Rattle.watch_streams.specs.Net.{member_order}
use Rattle.watch_streams.specs.Projection.{is_on, pod_members}
use Rattle.node_objects.specs.Indexed.{told}
use Rattle.node_objects.specs.SideLaws.{follows}

-- ---- whether there are some

abbrev some : {T : Type 0} → List T → Bool
some [] = false
some (x ∷ xs) = true

some-filter : {A B : Type 0} (f : A → B) (k : A → Bool) (xs : List A) → list_any k xs ≡ some (map f (filter k xs))
some-filter f k [] = refl
some-filter f k (x ∷ xs) = by_test (k x) (some-filter f k xs)
  where
    by_test : (b : Bool) → list_any k xs ≡ some (map f (filter k xs)) → (b || list_any k xs) ≡ some (map f (cond b (x ∷ filter k xs) (filter k xs)))
    by_test true rest = refl
    by_test false rest = rest

some-put : {T : Type 0} (at : T → Ordering) (x : T) (xs : List T) → some (put at x xs) ≡ true
some-put at x [] = refl
some-put at x (y ∷ ys) = by_order (at y)
  where
    by_order : (r : Ordering) → some (match_ordering r (y ∷ put at x ys) (x ∷ ys) (x ∷ y ∷ ys)) ≡ true
    by_order Less = refl
    by_order Equal = refl
    by_order Greater = refl

some-sorted : {T : Type 0} (cmp : T → T → Ordering) (xs : List T) → some (sorted_set cmp xs) ≡ some xs
some-sorted cmp [] = refl
some-sorted cmp (x ∷ xs) = some-put (λ y. cmp y x) x (sorted_set cmp xs)

some-append : {T : Type 0} (xs ys : List T) → some (xs ++ ys) ≡ (some xs || some ys)
some-append [] ys = refl
some-append (x ∷ xs) ys = refl

some-map : {A B : Type 0} (f : A → B) (xs : List A) → some (map f xs) ≡ some xs
some-map f [] = refl
some-map f (x ∷ xs) = refl

some-addresses : (addresses : List Addr) → has_some addresses ≡ true → some addresses ≡ true
some-addresses [] h = cc
some-addresses (a ∷ addresses) h = refl

pub both_true : (a b : Bool) → (a && b) ≡ true → (a ≡ true) × (b ≡ true)
both_true true b h = (refl, h)
both_true false b h = cc

has_address : (c : ClusterData) (g : Group) (p : PodData) → in_group c g p ≡ true → some (pod_members p) ≡ true
has_address c g p h =
    some-map (λ a. record { address = a; ports = p.ports }) p.addresses
    ∙ some-addresses p.addresses (both_true (has_some p.addresses) (not p.host) (both_true (has_some p.addresses && not p.host) (not p.ended) (both_true (counts p) _ h).0).0).0

module _ (c : ClusterData) (node : List ℕ) (g : Group) where
  some-pods : (ps : List PodData) → some (flat_map pod_members (filter (λ p. is_on node p && in_group c g p) ps)) ≡ list_any (λ p. is_on node p && in_group c g p) ps
  some-pods [] = refl
  some-pods (p ∷ ps) = by_test (is_on node p && in_group c g p) refl (some-pods ps)
    where
      by_test : (b : Bool) → (is_on node p && in_group c g p) ≡ b
          → some (flat_map pod_members (filter (λ p. is_on node p && in_group c g p) ps)) ≡ list_any (λ p. is_on node p && in_group c g p) ps
          → some (flat_map pod_members (cond b (p ∷ filter (λ p. is_on node p && in_group c g p) ps) (filter (λ p. is_on node p && in_group c g p) ps))) ≡ (b || list_any (λ p. is_on node p && in_group c g p) ps)
      by_test true is rest =
          some-append (pod_members p) (flat_map pod_members (filter (λ p. is_on node p && in_group c g p) ps))
          ∙ ap (λ b. b || some (flat_map pod_members (filter (λ p. is_on node p && in_group c g p) ps))) (has_address c g p (both_true (is_on node p) (in_group c g p) is).1)
      by_test false is rest = rest

-- a member of the group is on the node where a pod of it is
pub pods_on_is : (c : ClusterData) → IsCluster c → (node : List ℕ) (g : Group) → list_any (index.is_member_on node) (index.members_of c g) ≡ list_any (λ p. is_on node p && in_group c g p) c.pods
pods_on_is c whole node g =
    some-filter told (index.is_member_on node) (index.members_of c g)
    ∙ (ap some (members_on_are_told told member_order_total follows c whole node g)
    ∙ (some-sorted member_order (flat_map pod_members (filter (λ p. is_on node p && in_group c g p) c.pods))
    ∙ some-pods c node g c.pods))
