-- What a change of a pod or of a namespace leaves: at each address that it doesn't concern, the members of every group.
use Rattle.std.proofs.Common.{◌≡◌, ◌++◌, ℕ, List, [], ◌∷◌, map, filter, find, Bool, true, false, ◌&&◌, ◌||◌, not, cond, Option, Some, None, Result, Ok, Err, if◌then◌else◌, refl, sym, ap, subst, ◌∙◌}
use Rattle.std.specs.List.{AllByRecursion, flat_map}
use Rattle.std.specs.Option.{option_map, unwrap_or}
use Rattle.std.specs.Result.{IfOk}
use Rattle.std.specs.Ordering.{is_eq, match_ordering}
use Rattle.std.specs.Cmp.{IsTotalOrder}
use Rattle.std.specs.declared.cmp.Ordering.{Ordering}
use Rattle.std.specs.declared.cmp.Ordering.TheVariants.{Less, Equal, Greater}
use Rattle.std.proofs.lemmas.List.Folds.{list_any-append}
use Rattle.cl_types.specs.declared.addr.Addr.{Addr}
use Rattle.cl_types.specs.declared.keys.PodKey.{PodKey}
use Rattle.cl_types.specs.Addr.{addr_eq, addr_order_total}
use Rattle.cl_types.specs.AddrEq.{addr_eq-one, addr_eq_by_order}
use Rattle.cl_types.specs.Ascending.{Ascends, found, put, without}
use Rattle.cl_types.specs.AscendingLaws.{found_at, found_put, found_without, none_behind, passed}
use Rattle.cl_types.specs.OrderLaws.{pod_order_exact, text_eq-cmp, text_eq-one}
use Rattle.cl_types.specs.RuleOrder.{pod_order_total}
use Rattle.cl_types.specs.Text.{text_eq, text_order, text_order_total}
use Rattle.label_select.specs.declared.group.Scope.{Scope}
use Rattle.label_select.specs.declared.group.Scope.TheVariants.{Namespace, Namespaces}
use Rattle.label_select.specs.Group.{Group, group_has, in_scope}
use Rattle.label_select.specs.Selection.{put_label, selects}
use Rattle.cluster_objects.specs.Addresses.{IsOnlyPodAt, is_among}
use Rattle.cluster_types.specs.Cluster.{ClusterData, IsCluster}
use Rattle.cluster_types.specs.Groups.{in_group, name_label, ns_labels}
use Rattle.cluster_types.specs.Node.{NamespaceData}
use Rattle.cluster_types.specs.Pod.{PodData, counts, has_address}
use Rattle.group_index.specs.Changes.{at_namespace, at_pod, before_namespace, before_pod, namespaces_before, pods_before}
use Rattle.group_index.specs.Members.{MemberData, by_address, member_of, members_of}
use Rattle.group_index.specs.Settled.{ShareNamespace, addresses_if, addresses_of, addresses_where, at_address, can_contain, contains, follows_labels, has_either, is_concerned, is_named, is_of_pods, is_selector, is_stray, namespace_addresses, pod_addresses, pod_now}
use Rattle.group_index.proofs.Editing.{address_of}
use Rattle.group_index.proofs.Settling.{AreAlike}

and_false : (b : Bool) → b && false ≡ false
and_false true = refl
and_false false = refl

and_first : (b d : Bool) → b && d ≡ true → b ≡ true
and_first true d h = refl
and_first false d h = cc

neither : (b d : Bool) → (b || d) ≡ false → (b ≡ false) × (d ≡ false)
neither true d h = cc
neither false d h = (refl, h)

-- ---- the member at an address

abbrev made : PodData → List MemberData
made p = map (member_of p) p.addresses

found_made : (p : PodData) (a : Addr) (addresses : List Addr) (ms : List MemberData)
    → found (at_address a) (by_address (map (member_of p) addresses ++ ms)) ≡ (if is_among a addresses then Some (member_of p a) else found (at_address a) (by_address ms))
found_made p a [] ms = refl
found_made p a (x ∷ xs) ms =
    found_put address_of addr_order_total a (member_of p x) (by_address (map (member_of p) xs ++ ms))
    ∙ (ap (λ v. if v then Some (member_of p x) else found (at_address a) (by_address (map (member_of p) xs ++ ms))) (sym (addr_eq_by_order x a))
    ∙ by_test (addr_eq x a) refl (found_made p a xs ms))
  where
    by_test : (t : Bool) → addr_eq x a ≡ t
        → found (at_address a) (by_address (map (member_of p) xs ++ ms)) ≡ (if is_among a xs then Some (member_of p a) else found (at_address a) (by_address ms))
        → (if t then Some (member_of p x) else found (at_address a) (by_address (map (member_of p) xs ++ ms))) ≡ (if (t || is_among a xs) then Some (member_of p a) else found (at_address a) (by_address ms))
    by_test true same later = ap (λ z. Some (member_of p z)) (addr_eq-one x a same)
    by_test false same later = later

module _ (keep : PodData → Bool) (a : Addr) where
  abbrev here : PodData → Bool
  here p = keep p && has_address a p

  -- the member at an address is of the first pod that is kept and has it
  found_first : (ps : List PodData) → found (at_address a) (by_address (flat_map made (filter keep ps))) ≡ option_map (λ p. member_of p a) (find here ps)
  found_first [] = refl
  found_first (p ∷ ps) = by_test (keep p) (found_first ps)
    where
      by_has : (h : Bool) → found (at_address a) (by_address (flat_map made (filter keep ps))) ≡ option_map (λ p. member_of p a) (find here ps)
          → (if h then Some (member_of p a) else found (at_address a) (by_address (flat_map made (filter keep ps)))) ≡ option_map (λ p. member_of p a) (cond h (Some p) (find here ps))
      by_has true later = refl
      by_has false later = later

      by_test : (b : Bool) → found (at_address a) (by_address (flat_map made (filter keep ps))) ≡ option_map (λ p. member_of p a) (find here ps)
          → found (at_address a) (by_address (flat_map made (cond b (p ∷ filter keep ps) (filter keep ps)))) ≡ option_map (λ p. member_of p a) (cond (b && has_address a p) (Some p) (find here ps))
      by_test true later = found_made p a p.addresses (flat_map made (filter keep ps)) ∙ by_has (has_address a p) later
      by_test false later = later

first_member : (c : ClusterData) (g : Group) (a : Addr) → found (at_address a) (members_of c g) ≡ option_map (λ p. member_of p a) (find (λ p. in_group c g p && has_address a p) c.pods)
unfolding members_of
first_member c g a = found_first (in_group c g) a c.pods

-- the one counting pod at an address tells the group's member there
pub member_here : (c : ClusterData) (g : Group) (a : Addr) (o : Option PodData) → IsOnlyPodAt c.pods a o → found (at_address a) (members_of c g) ≡ option_map (λ p. member_of p a) (passed (in_group c g) o)
member_here c g a o only = first_member c g a ∙ ap (option_map (λ p. member_of p a)) (only (in_group c g) (λ p h. and_first (counts p) _ h))

-- the one counting pod's member, where the group contains it
pub member_if : (c : ClusterData) (g : Group) (a : Addr) (p : PodData) → IsOnlyPodAt c.pods a (Some p) → (if in_group c g p then Some (member_of p a) else None) ≡ found (at_address a) (members_of c g)
member_if c g a p only = by_test (in_group c g p) ∙ sym (member_here c g a (Some p) only)
  where
    by_test : (b : Bool) → (if b then Some (member_of p a) else None) ≡ option_map (λ p. member_of p a) (if b then Some p else None)
    by_test true = refl
    by_test false = refl

pub no_member : (c : ClusterData) (g : Group) (a : Addr) → IsOnlyPodAt c.pods a None → None ≡ found (at_address a) (members_of c g)
no_member c g a only = sym (member_here c g a None only)

pub answered : {E : Type 0} (r : Result (Option MemberData) E) (x y : Option MemberData) → x ≡ y → IfOk r (λ m. m ≡ x) → IfOk r (λ m. m ≡ y)
answered (Ok m) x y same is = is ∙ same
answered (Err e) x y same is = is

-- ---- a pod that changed

module _ {T : Type 0} (at : T → Ordering) (test : T → Bool) where
  find_put : (x : T) (xs : List T) → test x ≡ false → AllByRecursion (λ y. at y ≡ Equal → test y ≡ false) xs → find test (put at x xs) ≡ find test xs
  find_put x [] lacks all = ap (λ v. cond v (Some x) None) lacks
  find_put x (y ∷ ys) lacks all = by_order (at y) refl (find_put x ys lacks all.1)
    where
      by_order : (r : Ordering) → at y ≡ r → find test (put at x ys) ≡ find test ys → find test (match_ordering r (y ∷ put at x ys) (x ∷ ys) (x ∷ y ∷ ys)) ≡ find test (y ∷ ys)
      by_order Less is later = ap (cond (test y) (Some y)) later
      by_order Equal is later = ap (λ v. cond v (Some x) (find test ys)) lacks ∙ sym (ap (λ v. cond v (Some y) (find test ys)) (all.0 is))
      by_order Greater is later = ap (λ v. cond v (Some x) (find test (y ∷ ys))) lacks

  find_without : (xs : List T) → AllByRecursion (λ y. at y ≡ Equal → test y ≡ false) xs → find test (without at xs) ≡ find test xs
  find_without [] all = refl
  find_without (y ∷ ys) all = by_order (at y) refl (find_without ys all.1)
    where
      by_order : (r : Ordering) → at y ≡ r → find test (without at ys) ≡ find test ys → find test (cond (not (is_eq r)) (y ∷ without at ys) (without at ys)) ≡ find test (y ∷ ys)
      by_order Less is later = ap (cond (test y) (Some y)) later
      by_order Equal is later = later ∙ sym (ap (λ v. cond v (Some y) (find test ys)) (all.0 is))
      by_order Greater is later = ap (cond (test y) (Some y)) later

module _ {T K : Type 0} (key : T → K) {cmp : K → K → Ordering} (o : IsTotalOrder cmp) (k : K) (P : T → Type 0) where
  none_some : (x : T) → (let none : Option T = None in none) ≡ Some x → ⊥
  none_some x e = cc

  -- what holds of the item that is found at a key holds of all with the key
  all_at : (xs : List T) → Ascends key cmp xs → ((x : T) → found (λ y. cmp (key y) k) xs ≡ Some x → P x) → AllByRecursion (λ x. cmp (key x) k ≡ Equal → P x) xs
  all_at [] up f = tt
  all_at (x ∷ xs) up f = ((λ is. f x (rw is refl)), by_order (cmp (key x) k) refl (all_at xs up.1))
    where
      by_order : (r : Ordering) → cmp (key x) k ≡ r → (((y : T) → found (λ z. cmp (key z) k) xs ≡ Some y → P y) → AllByRecursion (λ x. cmp (key x) k ≡ Equal → P x) xs) → AllByRecursion (λ x. cmp (key x) k ≡ Equal → P x) xs
      by_order Less is later = later (λ y e. f y (rw is e))
      by_order Equal is later = later (λ y e. absurd (none_some y (sym (none_behind key o k x xs Equal is (λ q. cc) up.0) ∙ e)))
      by_order Greater is later = later (λ y e. absurd (none_some y (sym (none_behind key o k x xs Greater is (λ q. cc) up.0) ∙ e)))

module _ (c : ClusterData) (whole : IsCluster c) (g : Group) (a : Addr) where
  abbrev test_at : PodData → Bool
  test_at p = in_group c g p && has_address a p

  fails : (p : PodData) → has_address a p ≡ false → test_at p ≡ false
  fails p lacks = ap (λ b. in_group c g p && b) lacks ∙ and_false (in_group c g p)

  others_fail : (key : PodKey) → is_among a (addresses_of (found (at_pod key) c.pods)) ≡ false → AllByRecursion (λ p. at_pod key p ≡ Equal → test_at p ≡ false) c.pods
  others_fail key off =
      all_at (λ (p : PodData). p.key) pod_order_total key (λ p. test_at p ≡ false) c.pods whole.pods_ascend
      (λ p is. fails p (sym (ap (λ o. is_among a (addresses_of o)) is) ∙ off))

  find_before : (old new : Option PodData) → is_among a (pod_addresses old (pod_now old new c.pods)) ≡ false → find test_at (pods_before old new c.pods) ≡ find test_at c.pods
  find_before (Some old) new off =
      let both = neither (is_among a old.addresses) _ (sym (list_any-append (λ b. addr_eq b a) old.addresses (addresses_of (found (at_pod old.key) c.pods))) ∙ off) in
      find_put (at_pod old.key) test_at old c.pods (fails old both.0) (others_fail old.key both.1)
  find_before None (Some new) off = find_without (at_pod new.key) test_at c.pods (others_fail new.key off)
  find_before None None off = refl

  -- a group has no member of a pod that it doesn't contain
  out : (p : PodData) → in_group c g p ≡ false → test_at p ≡ false
  out p off = ap (λ b. b && has_address a p) off

  all_out : (key : PodKey) → contains c g (found (at_pod key) c.pods) ≡ false → AllByRecursion (λ p. at_pod key p ≡ Equal → test_at p ≡ false) c.pods
  all_out key off =
      all_at (λ (p : PodData). p.key) pod_order_total key (λ p. test_at p ≡ false) c.pods whole.pods_ascend
      (λ p is. out p (sym (ap (contains c g) is) ∙ off))

  -- a group that contains neither the pod as it was nor the pod as it is has the same members
  find_neither : (old new : Option PodData) → has_either c old (pod_now old new c.pods) g ≡ false → find test_at (pods_before old new c.pods) ≡ find test_at c.pods
  find_neither (Some old) new off =
      let both = neither (in_group c g old) (contains c g (found (at_pod old.key) c.pods)) off in
      find_put (at_pod old.key) test_at old c.pods (out old both.0) (all_out old.key both.1)
  find_neither None (Some new) off = find_without (at_pod new.key) test_at c.pods (all_out new.key off)
  find_neither None None off = refl

  find_same : (old new : Option PodData) → is_among a (addresses_where (has_either c old (pod_now old new c.pods) g) (pod_addresses old (pod_now old new c.pods))) ≡ false
      → find test_at (pods_before old new c.pods) ≡ find test_at c.pods
  find_same old new = by_test (has_either c old (pod_now old new c.pods) g) refl
    where
      by_test : (b : Bool) → has_either c old (pod_now old new c.pods) g ≡ b → is_among a (addresses_where b (pod_addresses old (pod_now old new c.pods))) ≡ false → find test_at (pods_before old new c.pods) ≡ find test_at c.pods
      by_test true is off = find_before old new off
      by_test false is off = find_neither old new is

pub pod_leaves : (c : ClusterData) → IsCluster c → (old new : Option PodData) → AreAlike (has_either c old (pod_now old new c.pods)) (pod_addresses old (pod_now old new c.pods)) (before_pod old new c) c
pod_leaves c whole old new = λ g a off.
    first_member (before_pod old new c) g a
    ∙ (ap (option_map (λ p. member_of p a)) (find_same c whole g a old new off) ∙ sym (first_member c g a))

-- the pod that is there now is at the key of the one that was there
pub share_namespace : (old new : Option PodData) (pods : List PodData) → ShareNamespace old (pod_now old new pods)
share_namespace (Some p) new pods = by_found (found (at_pod p.key) pods) refl
  where
    by_found : (o : Option PodData) → found (at_pod p.key) pods ≡ o → ShareNamespace (Some p) o
    by_found (Some q) is = ap (λ k. k.namespace) (pod_order_exact q.key p.key (found_at (at_pod p.key) pods q is))
    by_found None is = tt
share_namespace None new pods = tt

-- a group whose scope isn't the pod's namespace, and no selector, doesn't contain the pod
out_of_scope : (c : ClusterData) (g : Group) (p : PodData) → is_named p.key.namespace g.scope ≡ false → is_selector g.scope ≡ false → in_group c g p ≡ false
out_of_scope c g p other chosen = ap (λ b. counts p && (b && selects g.pods p.labels)) (by_scope g.scope other chosen) ∙ and_false (counts p)
  where
    by_scope : (s : Scope) → is_named p.key.namespace s ≡ false → is_selector s ≡ false → in_scope s p.key.namespace (ns_labels c p.key.namespace) ≡ false
    by_scope (Namespace name) other chosen = other
    by_scope (Namespaces selector) other chosen = cc

pub contains_neither : (c : ClusterData) (g : Group) (old now : Option PodData) → ShareNamespace old now → can_contain old now g.scope ≡ false → has_either c old now g ≡ false
contains_neither c g old now share off = by_pods old now share (neither (is_of_pods old now g.scope) (is_selector g.scope) off)
  where
    by_pods : (old now : Option PodData) → ShareNamespace old now → (is_of_pods old now g.scope ≡ false) × (is_selector g.scope ≡ false) → has_either c old now g ≡ false
    by_pods (Some p) (Some q) share both =
        ap (λ b. b || in_group c g q) (out_of_scope c g p both.0 both.1)
        ∙ out_of_scope c g q (subst (λ t. is_named t g.scope ≡ false) (sym share) both.0) both.1
    by_pods (Some p) None share both = ap (λ b. b || false) (out_of_scope c g p both.0 both.1)
    by_pods None (Some q) share both = out_of_scope c g q both.0 both.1
    by_pods None None share both = refl

-- ---- a namespace that changed

module _ (c : ClusterData) (whole : IsCluster c) (old : Option NamespaceData) (name : List ℕ) where
  abbrev before : ClusterData
  before = before_namespace old name c

  -- another namespace is as it was
  found_other : (o : Option NamespaceData) → is_stray o name ≡ false → (other : List ℕ) → text_eq other name ≡ false
      → found (at_namespace other) (namespaces_before o name c.namespaces) ≡ found (at_namespace other) c.namespaces
  found_other (Some n) own other apart =
      let same : n.name ≡ name = text_eq-one n.name name (not_false (text_eq n.name name) own) in
      let off : is_eq (text_order n.name other) ≡ false = subst (λ t. is_eq (text_order t other) ≡ false) (sym same) (sym (text_eq-cmp other name) ∙ apart) in
      subst (λ t. found (at_namespace other) (put (at_namespace t) n c.namespaces) ≡ found (at_namespace other) c.namespaces) same
      (found_put (λ (m : NamespaceData). m.name) text_order_total other n c.namespaces
      ∙ ap (λ v. if v then Some n else found (at_namespace other) c.namespaces) off)
    where
      not_false : (b : Bool) → not b ≡ false → b ≡ true
      not_false true h = refl
      not_false false h = cc
  found_other None own other apart =
      found_without (λ (m : NamespaceData). m.name) text_order_total name other c.namespaces whole.namespaces_ascend
      ∙ ap (λ v. if v then None else found (at_namespace other) c.namespaces) (sym (text_eq-cmp other name) ∙ apart)

  module _ (g : Group) (a : Addr) where
    same_group : (p : PodData) → is_concerned old name p ≡ false → in_group before g p ≡ in_group c g p
    same_group p not =
        let parts = neither (is_stray old name) (text_eq p.key.namespace name) not in
        ap (λ o. counts p && group_has g p.key.namespace (put_label (unwrap_or (option_map (λ (n : NamespaceData). n.labels) o) []) name_label p.key.namespace) p.labels)
        (found_other old parts.0 p.key.namespace parts.1)

    same_test : (p : PodData) → is_among a (addresses_if old name p) ≡ false → (in_group before g p && has_address a p) ≡ (in_group c g p && has_address a p)
    same_test p off = by_test (is_concerned old name p) refl off
      where
        by_test : (b : Bool) → is_concerned old name p ≡ b → is_among a (if b then p.addresses else []) ≡ false → (in_group before g p && has_address a p) ≡ (in_group c g p && has_address a p)
        by_test true is lacks = (ap (λ b. in_group before g p && b) lacks ∙ and_false (in_group before g p)) ∙ sym (ap (λ b. in_group c g p && b) lacks ∙ and_false (in_group c g p))
        by_test false is lacks = ap (λ b. b && has_address a p) (same_group p is)

    same_find : (ps : List PodData) → is_among a (flat_map (addresses_if old name) ps) ≡ false
        → find (λ p. in_group before g p && has_address a p) ps ≡ find (λ p. in_group c g p && has_address a p) ps
    same_find [] off = refl
    same_find (p ∷ ps) off =
        let both = neither (is_among a (addresses_if old name p)) _ (sym (list_any-append (λ b. addr_eq b a) (addresses_if old name p) (flat_map (addresses_if old name) ps)) ∙ off) in
        ap (λ v. cond v (Some p) (find (λ p. in_group before g p && has_address a p) ps)) (same_test p both.0)
        ∙ ap (cond (in_group c g p && has_address a p) (Some p)) (same_find ps both.1)

    -- the pods of a group whose scope is one namespace don't follow the labels of namespaces
    same_scope : (name : List ℕ) → g.scope ≡ Namespace name → (p : PodData) → in_group before g p ≡ in_group c g p
    same_scope name is p =
        ap (λ s. counts p && (in_scope s p.key.namespace (ns_labels before p.key.namespace) && selects g.pods p.labels)) is
        ∙ sym (ap (λ s. counts p && (in_scope s p.key.namespace (ns_labels c p.key.namespace) && selects g.pods p.labels)) is)

    find_of_scope : (s : Scope) → g.scope ≡ s → is_among a (addresses_where (is_selector s) (namespace_addresses old name c.pods)) ≡ false
        → find (λ p. in_group before g p && has_address a p) c.pods ≡ find (λ p. in_group c g p && has_address a p) c.pods
    find_of_scope (Namespace named) is off = ap (λ (test : PodData → Bool). find (λ p. test p && has_address a p) c.pods) (λ i p. same_scope named is p i)
    find_of_scope (Namespaces selector) is off = same_find c.pods off

pub namespace_leaves : (c : ClusterData) → IsCluster c → (old : Option NamespaceData) (name : List ℕ) → AreAlike follows_labels (namespace_addresses old name c.pods) (before_namespace old name c) c
namespace_leaves c whole old name = λ g a off.
    first_member (before_namespace old name c) g a
    ∙ (ap (option_map (λ p. member_of p a)) (find_of_scope c whole old name g a g.scope refl off) ∙ sym (first_member c g a))
