-- At a cluster no address is of two members of a group. So what is told of the members by address is ascending in each
-- order that follows the addresses first.
use Rattle.std.proofs.Common.{◌≡◌, ◌≢◌, ℕ, List, [], ◌∷◌, ◌++◌, Bool, true, false, ◌&&◌, ◌||◌, filter, map, not, cond, if◌then◌else◌, refl, sym, ap, subst, ◌∙◌}
use Rattle.std.specs.List.{AllByRecursion, flat_map, list_any}
use Rattle.std.specs.declared.cmp.Ordering.{Ordering}
use Rattle.std.specs.declared.cmp.Ordering.TheVariants.{Less, Equal, Greater}
use Rattle.std.specs.Ordering.{is_eq, match_ordering, ordering_reverse}
use Rattle.std.specs.Cmp.{IsTotalOrder}
use Rattle.std.proofs.lemmas.List.{map-append}
use Rattle.std.proofs.lemmas.List.Folds.{list_any-append}
use Rattle.std.proofs.lemmas.Simd.{map-map}
use Rattle.cl_types.specs.declared.addr.Addr.{Addr}
use Rattle.cl_types.specs.declared.addr.Addr.TheVariants.{V4, V6}
use Rattle.cl_types.specs.declared.keys.PodKey.{PodKey}
use Rattle.cl_types.specs.Addr.{addr_eq, addr_order, addr_order_total}
use Rattle.cl_types.specs.AddrEq.{addr_eq-itself}
use Rattle.cl_types.specs.Ascending.{Ascends, put, sorted_set}
use Rattle.cl_types.specs.AscendingLaws.{all_sorted, ascends_sorted, list_any-put}
use Rattle.cl_types.specs.ListLaws.{all_filter, all_weaker}
use Rattle.cl_types.specs.OrderLaws.{addr_order_exact}
use Rattle.cl_types.specs.RuleOrder.{pod_order}
use Rattle.cl_types.specs.Text.{text_eq}
use Rattle.label_select.specs.Group.{Group}
use Rattle.cluster_types.specs.Pod.{PodData, AreAddresses, counts, has_address, has_some}
use Rattle.cluster_types.specs.Cluster.{ClusterData, AreApart, AllApart, IsCluster}
use Rattle.cluster_types.specs.Groups.{in_group, members_by}
use Rattle.cluster_types.specs.Whole.{IsWholePod}
use Rattle.group_index.specs.Members.{MemberData, by_address, is_member_on, is_of, member_of, members_of}
use Rattle.group_index.specs.Index.{EntryData, StandsFor, contains_pod, group_if_has, groups_of, groups_with, is_pod_in}

-- the member has another address
abbrev pub IsElsewhere : Addr → MemberData → Type 0
IsElsewhere a m = addr_order m.address a ≢ Equal

-- no two members have one address
abbrev pub AllElsewhere : List MemberData → Type 0
AllElsewhere [] = Unit {0}
AllElsewhere (m ∷ ms) = AllByRecursion (IsElsewhere m.address) ms × AllElsewhere ms

-- ---- what is told, in order

module _ {M : Type 0} (told : MemberData → M) {cmp : M → M → Ordering} (o : IsTotalOrder cmp)
    (follows : (a b : MemberData) → addr_order a.address b.address ≡ Less → cmp (told a) (told b) ≡ Less) where
  put_told : (m : MemberData) (ms : List MemberData) → AllByRecursion (IsElsewhere m.address) ms
      → map told (put (λ (n : MemberData). addr_order n.address m.address) m ms) ≡ put (λ z. cmp z (told m)) (told m) (map told ms)
  put_told m [] apart = refl
  put_told m (n ∷ ns) apart = by_order (addr_order n.address m.address) refl (put_told m ns apart.1)
    where
      by_order : (r : Ordering) → addr_order n.address m.address ≡ r
          → map told (put (λ (n : MemberData). addr_order n.address m.address) m ns) ≡ put (λ z. cmp z (told m)) (told m) (map told ns)
          → map told (match_ordering r (n ∷ put (λ (n : MemberData). addr_order n.address m.address) m ns) (m ∷ ns) (m ∷ n ∷ ns))
          ≡ match_ordering (cmp (told n) (told m)) (told n ∷ put (λ z. cmp z (told m)) (told m) (map told ns)) (told m ∷ map told ns) (told m ∷ told n ∷ map told ns)
      by_order Less is rest = rw (follows n m is) (ap (λ zs. told n ∷ zs) rest)
      by_order Equal is rest = absurd (apart.0 is)
      by_order Greater is rest =
          let less : addr_order m.address n.address ≡ Less = addr_order_total.antisymm m.address n.address ∙ ap ordering_reverse is in
          let after : cmp (told n) (told m) ≡ Greater = o.antisymm (told n) (told m) ∙ ap ordering_reverse (follows m n less) in
          rw after refl

  sorted_told : (ms : List MemberData) → AllElsewhere ms → map told (by_address ms) ≡ sorted_set cmp (map told ms)
  sorted_told [] apart = refl
  sorted_told (m ∷ ms) apart =
      put_told m (by_address ms) (all_sorted (λ (n : MemberData). n.address) addr_order (IsElsewhere m.address) ms apart.0)
      ∙ ap (put (λ z. cmp z (told m)) (told m)) (sorted_told ms apart.1)

-- ---- no address twice

all_append : {T : Type 0} (P : T → Type 0) (xs ys : List T) → AllByRecursion P xs → AllByRecursion P ys → AllByRecursion P (xs ++ ys)
all_append P [] ys all rest = rest
all_append P (x ∷ xs) ys all rest = (all.0, all_append P xs ys all.1 rest)

elsewhere-append : (ms ns : List MemberData) → AllElsewhere ms → AllElsewhere ns → AllByRecursion (λ (m : MemberData). AllByRecursion (IsElsewhere m.address) ns) ms → AllElsewhere (ms ++ ns)
elsewhere-append [] ns own rest across = rest
elsewhere-append (m ∷ ms) ns own rest across = (all_append (IsElsewhere m.address) ms ns own.0 across.0, elsewhere-append ms ns own.1 rest across.1)

-- a pod's addresses are of different families
own_members : (p : PodData) (addresses : List Addr) → AreAddresses addresses → AllElsewhere (map (member_of p) addresses)
own_members p [] h = tt
own_members p (a ∷ []) h = (tt, tt)
own_members p (V4 a ∷ V4 b ∷ rest) h = absurd h
own_members p (V4 a ∷ V6 b ∷ []) h = (((λ e. cc), tt), (tt, tt))
own_members p (V4 a ∷ V6 b ∷ c ∷ rest) h = absurd h
own_members p (V6 a ∷ b ∷ rest) h = absurd h

or_true : (b : Bool) → (b || true) ≡ true
or_true true = refl
or_true false = refl

and_first : (b d : Bool) → b && d ≡ true → b ≡ true
and_first true d h = refl
and_first false d h = cc

-- each address of a list is among them
all_among : (addresses : List Addr) → AllByRecursion (λ a. list_any (λ b. addr_eq b a) addresses ≡ true) addresses
all_among [] = tt
all_among (a ∷ addresses) = (
  ap (λ b. b || list_any (λ b. addr_eq b a) addresses) (addr_eq-itself a),
  all_weaker (λ d. list_any (λ b. addr_eq b d) addresses ≡ true) (λ d. (addr_eq a d || list_any (λ b. addr_eq b d) addresses) ≡ true) (λ d h. ap (λ b. addr_eq a d || b) h ∙ or_true (addr_eq a d)) addresses (all_among addresses),
)

all_map : {A B : Type 0} (f : A → B) (P : B → Type 0) (xs : List A) → AllByRecursion (λ x. P (f x)) xs → AllByRecursion P (map f xs)
all_map f P [] all = tt
all_map f P (x ∷ xs) all = (all.0, all_map f P xs all.1)

module _ (c : ClusterData) (g : Group) where
  abbrev made : PodData → List MemberData
  made p = map (member_of p) p.addresses

  counts_in : (p : PodData) → in_group c g p ≡ true → counts p ≡ true
  counts_in p h = and_first (counts p) _ h

  -- the members of later pods have no address of the pod
  later_members : (p : PodData) → counts p ≡ true → (a : Addr) → has_address a p ≡ true → (ps : List PodData) → AllByRecursion (AreApart p) ps → AllByRecursion (IsElsewhere a) (flat_map made (filter (in_group c g) ps))
  later_members p counting a has [] apart = tt
  later_members p counting a has (q ∷ qs) apart = by_test (in_group c g q) refl (later_members p counting a has qs apart.1)
    where
      one : counts q ≡ true → AllByRecursion (IsElsewhere a) (made q)
      one other =
          all_map (member_of q) (IsElsewhere a) q.addresses
          (all_weaker (λ b. has_address b q ≡ true) (λ b. addr_order b a ≢ Equal)
          (λ b h e. apart.0 counting other a has (subst (λ d. has_address d q ≡ true) (addr_order_exact b a e) h)) q.addresses (all_among q.addresses))

      by_test : (b : Bool) → in_group c g q ≡ b → AllByRecursion (IsElsewhere a) (flat_map made (filter (in_group c g) qs))
          → AllByRecursion (IsElsewhere a) (flat_map made (cond b (q ∷ filter (in_group c g) qs) (filter (in_group c g) qs)))
      by_test true is rest = all_append (IsElsewhere a) (made q) (flat_map made (filter (in_group c g) qs)) (one (counts_in q is)) rest
      by_test false is rest = rest

  members_elsewhere : (ps : List PodData) → AllApart ps → AllByRecursion (λ (p : PodData). AreAddresses p.addresses) ps → AllElsewhere (flat_map made (filter (in_group c g) ps))
  members_elsewhere [] apart families = tt
  members_elsewhere (p ∷ ps) apart families = by_test (in_group c g p) refl (members_elsewhere ps apart.1 families.1)
    where
      by_test : (b : Bool) → in_group c g p ≡ b → AllElsewhere (flat_map made (filter (in_group c g) ps))
          → AllElsewhere (flat_map made (cond b (p ∷ filter (in_group c g) ps) (filter (in_group c g) ps)))
      by_test true is rest =
          elsewhere-append (made p) (flat_map made (filter (in_group c g) ps)) (own_members p p.addresses families.0) rest
          (all_map (member_of p) (λ (m : MemberData). AllByRecursion (IsElsewhere m.address) (flat_map made (filter (in_group c g) ps))) p.addresses
          (all_weaker (λ a. has_address a p ≡ true) (λ a. AllByRecursion (IsElsewhere a) (flat_map made (filter (in_group c g) ps)))
          (λ a h. later_members p (counts_in p is) a h ps apart.0) p.addresses (all_among p.addresses)))
      by_test false is rest = rest

told_each : {M : Type 0} (told : MemberData → M) (ps : List PodData)
    → map told (flat_map (λ (p : PodData). map (member_of p) p.addresses) ps) ≡ flat_map (λ (p : PodData). map (λ a. told (member_of p a)) p.addresses) ps
told_each told [] = refl
told_each told (p ∷ ps) =
    map-append told (map (member_of p) p.addresses) (flat_map (λ (p : PodData). map (member_of p) p.addresses) ps)
    ∙ (ap (λ xs. xs ++ map told (flat_map (λ (p : PodData). map (member_of p) p.addresses) ps)) (map-map told (member_of p) p.addresses)
    ∙ ap (λ ys. map (λ a. told (member_of p a)) p.addresses ++ ys) (told_each told ps))

-- Members by address, as a part of each is told, are the ascending set of what is told of them, in each order that follows
-- the addresses first.
pub members_are_told : {M : Type 0} (told : MemberData → M) {cmp : M → M → Ordering} → IsTotalOrder cmp
    → ((a b : MemberData) → addr_order a.address b.address ≡ Less → cmp (told a) (told b) ≡ Less)
    → (c : ClusterData) → IsCluster c → (g : Group) → map told (members_of c g) ≡ sorted_set cmp (members_by (λ p a. told (member_of p a)) c g)
unfolding members_of
members_are_told told {cmp = cmp} o follows c whole g =
    sorted_told told o follows (members_by member_of c g)
    (members_elsewhere c g c.pods whole.apart (all_weaker IsWholePod (λ (p : PodData). AreAddresses p.addresses) (λ p w. w.pod.families) c.pods whole.parts.pods))
    ∙ ap (sorted_set cmp) (told_each told (filter (in_group c g) c.pods))

-- ---- the members on a node

module _ (keep : MemberData → Bool) where
  put_first : (m : MemberData) (ms : List MemberData) → AllByRecursion (λ (n : MemberData). addr_order n.address m.address ≡ Greater) ms → put (λ (n : MemberData). addr_order n.address m.address) m ms ≡ m ∷ ms
  put_first m [] all = refl
  put_first m (n ∷ ns) all = rw all.0 refl

  -- all behind one that is greater are greater
  all_greater : (m n : MemberData) (ns : List MemberData) → addr_order n.address m.address ≡ Greater → AllByRecursion (λ (x : MemberData). addr_order n.address x.address ≡ Less) ns
      → AllByRecursion (λ (x : MemberData). addr_order x.address m.address ≡ Greater) ns
  all_greater m n ns is up =
      let less : addr_order m.address n.address ≡ Less = addr_order_total.antisymm m.address n.address ∙ ap ordering_reverse is in
      all_weaker _ _ (λ x after. addr_order_total.antisymm x.address m.address ∙ ap ordering_reverse (addr_order_total.trans m.address n.address x.address less after)) ns up

  filter_put : (m : MemberData) (ms : List MemberData) → Ascends (λ (n : MemberData). n.address) addr_order ms → AllByRecursion (IsElsewhere m.address) ms
      → filter keep (put (λ (n : MemberData). addr_order n.address m.address) m ms) ≡ cond (keep m) (put (λ (n : MemberData). addr_order n.address m.address) m (filter keep ms)) (filter keep ms)
  filter_put m [] up apart = refl
  filter_put m (n ∷ ns) up apart = by_order (addr_order n.address m.address) refl (filter_put m ns up.1 apart.1)
    where
      behind : addr_order n.address m.address ≡ Less → (b d : Bool)
          → cond d (n ∷ cond b (put (λ (n : MemberData). addr_order n.address m.address) m (filter keep ns)) (filter keep ns)) (cond b (put (λ (n : MemberData). addr_order n.address m.address) m (filter keep ns)) (filter keep ns))
          ≡ cond b (put (λ (n : MemberData). addr_order n.address m.address) m (cond d (n ∷ filter keep ns) (filter keep ns))) (cond d (n ∷ filter keep ns) (filter keep ns))
      behind is true true = rw is refl
      behind is true false = refl
      behind is false true = refl
      behind is false false = refl

      by_order : (r : Ordering) → addr_order n.address m.address ≡ r
          → filter keep (put (λ (n : MemberData). addr_order n.address m.address) m ns) ≡ cond (keep m) (put (λ (n : MemberData). addr_order n.address m.address) m (filter keep ns)) (filter keep ns)
          → filter keep (match_ordering r (n ∷ put (λ (n : MemberData). addr_order n.address m.address) m ns) (m ∷ ns) (m ∷ n ∷ ns))
          ≡ cond (keep m) (put (λ (n : MemberData). addr_order n.address m.address) m (filter keep (n ∷ ns))) (filter keep (n ∷ ns))
      by_order Less is rest = ap (λ xs. cond (keep n) (n ∷ xs) xs) rest ∙ behind is (keep m) (keep n)
      by_order Equal is rest = absurd (apart.0 is)
      by_order Greater is rest =
          ap (λ xs. cond (keep m) xs (filter keep (n ∷ ns)))
          (sym (put_first m (filter keep (n ∷ ns)) (all_filter (λ (x : MemberData). addr_order x.address m.address ≡ Greater) keep (n ∷ ns) (is, all_greater m n ns is up.0))))

  filter_by_address : (ms : List MemberData) → AllElsewhere ms → filter keep (by_address ms) ≡ by_address (filter keep ms)
  filter_by_address [] apart = refl
  filter_by_address (m ∷ ms) apart =
      filter_put m (by_address ms) (ascends_sorted (λ (n : MemberData). n.address) addr_order_total ms) (all_sorted (λ (n : MemberData). n.address) addr_order (IsElsewhere m.address) ms apart.0)
      ∙ by_test (keep m) (filter_by_address ms apart.1)
    where
      by_test : (b : Bool) → filter keep (by_address ms) ≡ by_address (filter keep ms)
          → cond b (put (λ (n : MemberData). addr_order n.address m.address) m (filter keep (by_address ms))) (filter keep (by_address ms)) ≡ by_address (cond b (m ∷ filter keep ms) (filter keep ms))
      by_test true rest = ap (put (λ (n : MemberData). addr_order n.address m.address) m) rest
      by_test false rest = rest

  kept_elsewhere : (ms : List MemberData) → AllElsewhere ms → AllElsewhere (filter keep ms)
  kept_elsewhere [] apart = tt
  kept_elsewhere (m ∷ ms) apart = by_test (keep m) (kept_elsewhere ms apart.1)
    where
      by_test : (b : Bool) → AllElsewhere (filter keep ms) → AllElsewhere (cond b (m ∷ filter keep ms) (filter keep ms))
      by_test true rest = (all_filter (IsElsewhere m.address) keep ms apart.0, rest)
      by_test false rest = rest

module _ (node : List ℕ) where
  filter_all : (p : PodData) (b : Bool) → text_eq p.node node ≡ b → (addresses : List Addr) (rest : List MemberData)
      → filter (is_member_on node) (map (member_of p) addresses ++ rest) ≡ cond b (map (member_of p) addresses) [] ++ filter (is_member_on node) rest
  filter_all p true is [] rest = refl
  filter_all p false is [] rest = refl
  filter_all p true is (a ∷ addresses) rest = rw is (ap (λ xs. member_of p a ∷ xs) (filter_all p true is addresses rest))
  filter_all p false is (a ∷ addresses) rest = rw is (filter_all p false is addresses rest)

  on_node : (keep : PodData → Bool) (ps : List PodData)
      → filter (is_member_on node) (flat_map (λ (p : PodData). map (member_of p) p.addresses) (filter keep ps)) ≡ flat_map (λ (p : PodData). map (member_of p) p.addresses) (filter (λ (p : PodData). text_eq p.node node && keep p) ps)
  on_node keep [] = refl
  on_node keep (p ∷ ps) = by_tests (text_eq p.node node) refl (keep p) (on_node keep ps)
    where
      by_tests : (b : Bool) → text_eq p.node node ≡ b → (d : Bool)
          → filter (is_member_on node) (flat_map (λ (p : PodData). map (member_of p) p.addresses) (filter keep ps)) ≡ flat_map (λ (p : PodData). map (member_of p) p.addresses) (filter (λ (p : PodData). text_eq p.node node && keep p) ps)
          → filter (is_member_on node) (flat_map (λ (p : PodData). map (member_of p) p.addresses) (cond d (p ∷ filter keep ps) (filter keep ps)))
          ≡ flat_map (λ (p : PodData). map (member_of p) p.addresses) (cond (b && d) (p ∷ filter (λ (p : PodData). text_eq p.node node && keep p) ps) (filter (λ (p : PodData). text_eq p.node node && keep p) ps))
      by_tests true is true rest = filter_all p true is p.addresses (flat_map (λ (p : PodData). map (member_of p) p.addresses) (filter keep ps)) ∙ ap (λ xs. map (member_of p) p.addresses ++ xs) rest
      by_tests true is false rest = rest
      by_tests false is true rest = filter_all p false is p.addresses (flat_map (λ (p : PodData). map (member_of p) p.addresses) (filter keep ps)) ∙ rest
      by_tests false is false rest = rest

-- The same of the members on a node.
pub members_on_are_told : {M : Type 0} (told : MemberData → M) {cmp : M → M → Ordering} → IsTotalOrder cmp
    → ((a b : MemberData) → addr_order a.address b.address ≡ Less → cmp (told a) (told b) ≡ Less)
    → (c : ClusterData) → IsCluster c → (node : List ℕ) (g : Group)
    → map told (filter (is_member_on node) (members_of c g))
    ≡ sorted_set cmp (flat_map (λ (p : PodData). map (λ a. told (member_of p a)) p.addresses) (filter (λ (p : PodData). text_eq p.node node && in_group c g p) c.pods))
unfolding members_of
members_on_are_told told {cmp = cmp} o follows c whole node g =
    let apart : AllElsewhere (members_by member_of c g) = members_elsewhere c g c.pods whole.apart (all_weaker IsWholePod (λ (p : PodData). AreAddresses p.addresses) (λ p w. w.pod.families) c.pods whole.parts.pods) in
    ap (map told) (filter_by_address (is_member_on node) (members_by member_of c g) apart)
    ∙ (sorted_told told o follows (filter (is_member_on node) (members_by member_of c g)) (kept_elsewhere (is_member_on node) (members_by member_of c g) apart)
    ∙ (ap (λ ms. sorted_set cmp (map told ms)) (on_node node (in_group c g) c.pods)
    ∙ ap (sorted_set cmp) (told_each told (filter (λ (p : PodData). text_eq p.node node && in_group c g p) c.pods))))

-- ---- the groups of a pod

or_false : (b : Bool) → (b || false) ≡ b
or_false true = refl
or_false false = refl

or_same : (b d : Bool) → (b || (b || d)) ≡ (b || d)
or_same true d = refl
or_same false d = refl

first_of_three : (a b d : Bool) → a && b && d ≡ true → a ≡ true
first_of_three true b d h = refl
first_of_three false b d h = cc

-- some member passes in the order of addresses where some does in any order
any_by_address : (q : MemberData → Bool) (ms : List MemberData) → AllElsewhere ms → list_any q (by_address ms) ≡ list_any q ms
any_by_address q [] apart = refl
any_by_address q (m ∷ ms) apart =
    list_any-put (λ (n : MemberData). addr_order n.address m.address) q m (by_address ms)
    (all_weaker (IsElsewhere m.address) (λ (n : MemberData). addr_order n.address m.address ≡ Equal → q n ≡ q m) (λ n h e. absurd (h e)) (by_address ms)
    (all_sorted (λ (n : MemberData). n.address) addr_order (IsElsewhere m.address) ms apart.0))
    ∙ ap (λ b. q m || b) (any_by_address q ms apart.1)

any_of_pod : (p : PodData) (key : PodKey) (addresses : List Addr) → has_some addresses ≡ true → list_any (is_of key) (map (member_of p) addresses) ≡ is_eq (pod_order p.key key)
any_of_pod p key [] h = cc
any_of_pod p key (a ∷ []) h = or_false (is_eq (pod_order p.key key))
any_of_pod p key (a ∷ b ∷ addresses) h = or_same (is_eq (pod_order p.key key)) (list_any (is_of key) (map (member_of p) addresses)) ∙ any_of_pod p key (b ∷ addresses) refl

module _ (c : ClusterData) (g : Group) (key : PodKey) where
  any_of_group : (ps : List PodData) → list_any (is_of key) (flat_map (λ (p : PodData). map (member_of p) p.addresses) (filter (in_group c g) ps)) ≡ list_any (is_pod_in c g key) ps
  any_of_group [] = refl
  any_of_group (p ∷ ps) = by_test (in_group c g p) refl (any_of_group ps)
    where
      by_test : (b : Bool) → in_group c g p ≡ b
          → list_any (is_of key) (flat_map (λ (p : PodData). map (member_of p) p.addresses) (filter (in_group c g) ps)) ≡ list_any (is_pod_in c g key) ps
          → list_any (is_of key) (flat_map (λ (p : PodData). map (member_of p) p.addresses) (cond b (p ∷ filter (in_group c g) ps) (filter (in_group c g) ps))) ≡ ((b && is_eq (pod_order p.key key)) || list_any (is_pod_in c g key) ps)
      by_test true is rest =
          list_any-append (is_of key) (map (member_of p) p.addresses) (flat_map (λ (p : PodData). map (member_of p) p.addresses) (filter (in_group c g) ps))
          ∙ (ap (λ b. b || list_any (is_of key) (flat_map (λ (p : PodData). map (member_of p) p.addresses) (filter (in_group c g) ps)))
          (any_of_pod p key p.addresses (first_of_three (has_some p.addresses) (not p.host) (not p.ended) (counts_in c g p is)))
          ∙ ap (λ b. is_eq (pod_order p.key key) || b) rest)
      by_test false is rest = rest

-- a group has a member of a pod where it contains the pod
pub pod_is_in : (c : ClusterData) → IsCluster c → (g : Group) (key : PodKey) → list_any (is_of key) (members_of c g) ≡ contains_pod c key g
unfolding members_of
pod_is_in c whole g key =
    any_by_address (is_of key) (members_by member_of c g)
    (members_elsewhere c g c.pods whole.apart (all_weaker IsWholePod (λ (p : PodData). AreAddresses p.addresses) (λ p w. w.pod.families) c.pods whole.parts.pods))
    ∙ any_of_group c g key c.pods

-- the groups that have a member of the pod are those that contain it
pub groups_are_with : (c : ClusterData) → IsCluster c → (key : PodKey) (index : List EntryData) → StandsFor index c → groups_of index key ≡ groups_with c key (map (λ (e : EntryData). e.group) index)
unfolding groups_of
groups_are_with c whole key [] stands = refl
groups_are_with c whole key (e ∷ es) stands =
    ap (λ b. (if b then e.group ∷ [] else []) ++ flat_map (group_if_has key) es) (ap (list_any (is_of key)) stands.0 ∙ pod_is_in c whole e.group key)
    ∙ by_test (contains_pod c key e.group) (groups_are_with c whole key es stands.1)
  where
    by_test : (b : Bool) → flat_map (group_if_has key) es ≡ groups_with c key (map (λ (e : EntryData). e.group) es)
        → (if b then e.group ∷ [] else []) ++ flat_map (group_if_has key) es ≡ cond b (e.group ∷ groups_with c key (map (λ (e : EntryData). e.group) es)) (groups_with c key (map (λ (e : EntryData). e.group) es))
    by_test true rest = ap (λ gs. e.group ∷ gs) rest
    by_test false rest = rest
