-- A group has a pod on a node where it has a member there.
use Rattle.std.proofs.Common.{◌≡◌, ℕ, List, [], ◌∷◌, ◌++◌, Bool, true, false, not, ◌&&◌, ◌||◌, filter, map, flat_map, refl, sym, ap, ◌∙◌}
use Rattle.std.specs.List.{list_any}
use Rattle.std.specs.declared.cmp.Ordering.{Ordering}
use Rattle.std.specs.declared.cmp.Ordering.TheVariants.{Less, Equal, Greater}
use Rattle.std.specs.Ordering.{match_ordering}
use Rattle.cl_types.specs.Ascending.{put}
use Rattle.cl_types.specs.declared.addr.Addr.{Addr}
use Rattle.label_select.specs.Group.{Group, group_has}
use Rattle.cluster_types.specs.Cluster.{ClusterData}
use Rattle.cluster_types.specs.Groups.{in_group, ns_labels}
use Rattle.cluster_types.specs.Pod.{PodData, has_some}
use Rattle.watch_streams.specs.Net.{MemberData, ascending_members, member_order}
use Rattle.watch_streams.specs.OneOfAll.{and_false, and_true, list_any-each, list_any-filter}
use Rattle.watch_streams.specs.Projection.{held_member, is_on, members_on, pod_members}
use Rattle.touched_names.specs.Touching.{MembersTellSpans, has_pod_on}

abbrev has_any : {T : Type 0} → List T → Bool
has_any [] = false
has_any (x ∷ xs) = true

has_any-append : {T : Type 0} (xs ys : List T) → has_any (xs ++ ys) ≡ (has_any xs || has_any ys)
has_any-append [] ys = refl
has_any-append (x ∷ xs) ys = refl

has_any-flat_map : {A T : Type 0} (f : A → List T) (xs : List A) → has_any (flat_map f xs) ≡ list_any (λ x. has_any (f x)) xs
has_any-flat_map f [] = refl
has_any-flat_map f (x ∷ xs) = has_any-append (f x) (flat_map f xs) ∙ ap (λ b. has_any (f x) || b) (has_any-flat_map f xs)

has_any-put : {T : Type 0} (at : T → Ordering) (x : T) (xs : List T) → has_any (put at x xs) ≡ true
has_any-put at x [] = refl
has_any-put at x (y ∷ ys) = by_order (at y)
  where
    by_order : (r : Ordering) → has_any (match_ordering r (y ∷ put at x ys) (x ∷ ys) (x ∷ y ∷ ys)) ≡ true
    by_order Less = refl
    by_order Equal = refl
    by_order Greater = refl

has_any-members : (ms : List MemberData) → has_any (ascending_members ms) ≡ has_any ms
has_any-members [] = refl
has_any-members (m ∷ ms) = has_any-put (λ n. member_order n m) m (ascending_members ms)

-- a pod that counts has a member
has_member : (c : ClusterData) (node : List ℕ) (g : Group) (p : PodData) → ((is_on node p && in_group c g p) && has_any (pod_members p)) ≡ (is_on node p && in_group c g p)
has_member c node g p = by_addresses p.addresses
  where
    rest : Bool
    rest = group_has g p.key.namespace (ns_labels c p.key.namespace) p.labels

    by_addresses : (addresses : List Addr) → ((is_on node p && ((has_some addresses && not p.host && not p.ended) && rest)) && has_any (map (held_member p) addresses)) ≡ (is_on node p && ((has_some addresses && not p.host && not p.ended) && rest))
    by_addresses [] = and_false (is_on node p && false) ∙ sym (and_false (is_on node p))
    by_addresses (a ∷ addresses) = and_true (is_on node p && ((true && not p.host && not p.ended) && rest))

has_any-members_on : (c : ClusterData) (node : List ℕ) (g : Group) → has_any (members_on c node g) ≡ has_pod_on c node g
has_any-members_on c node g =
    has_any-members (flat_map pod_members (filter (λ p. is_on node p && in_group c g p) c.pods))
    ∙ (has_any-flat_map pod_members (filter (λ p. is_on node p && in_group c g p) c.pods)
    ∙ (list_any-filter (λ p. has_any (pod_members p)) (λ p. is_on node p && in_group c g p) c.pods
    ∙ list_any-each (λ p. (is_on node p && in_group c g p) && has_any (pod_members p)) (λ p. is_on node p && in_group c g p) (has_member c node g) c.pods))

pub members_tell : MembersTellSpans
members_tell c d g same node = sym (has_any-members_on c node g) ∙ (ap has_any (same.members_on node) ∙ has_any-members_on d node g)
