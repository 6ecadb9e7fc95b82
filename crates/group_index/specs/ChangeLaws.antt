-- A group without a change has the same members.
use Rattle.std.proofs.Common.{◌≡◌, List, [], ◌∷◌, Bool, true, false, ◌||◌, not, cond, Option, Some, None, refl, sym, subst, ◌∙◌}
use Rattle.std.specs.List.{AllByRecursion}
use Rattle.std.specs.declared.cmp.Ordering.{Ordering}
use Rattle.std.specs.declared.cmp.Ordering.TheVariants.{Less}
use Rattle.cl_types.specs.declared.addr.Addr.{Addr}
use Rattle.cl_types.specs.Addr.{addr_order, addr_order_total}
use Rattle.cl_types.specs.Ascending.{Ascends, found}
use Rattle.cl_types.specs.AscendingLaws.{ascends_sorted, equal_maps, first_found, found_at, found_holds}
use Rattle.cl_types.specs.Equality.{is_same}
use Rattle.cl_types.specs.EqualityLaws.{is_same-one}
use Rattle.cl_types.specs.OrderLaws.{addr_order_exact}
use Rattle.label_select.specs.Group.{Group}
use Rattle.cluster_types.specs.Cluster.{ClusterData}
use Rattle.cluster_types.specs.Groups.{members_by}
use Rattle.group_index.specs.declared.member.Member as member
use Rattle.group_index.specs.Changes.{change_if_any, group_change, has_member, members_without}
use Rattle.group_index.specs.Members.{MemberData, member_of, members_of}

abbrev address_of : MemberData → Addr
address_of m = m.address

abbrev at : Addr → MemberData → Ordering
at a m = addr_order m.address a

not_empty : {T : Type 0} (x : T) (xs : List T) → x ∷ xs ≡ [] → ⊥
not_empty x xs e = cc

-- where none is lacking, each is there
each_there : (others ms : List MemberData) → members_without ms others ≡ [] → AllByRecursion (λ m. has_member others m ≡ true) ms
each_there others [] e = tt
each_there others (m ∷ ms) e = by_test (has_member others m) refl (each_there others ms) e
  where
    by_test : (b : Bool) → has_member others m ≡ b → (members_without ms others ≡ [] → AllByRecursion (λ m. has_member others m ≡ true) ms) → cond (not b) (m ∷ members_without ms others) (members_without ms others) ≡ [] → AllByRecursion (λ m. has_member others m ≡ true) (m ∷ ms)
    by_test true is later rest = (is, later rest)
    by_test false is later rest = absurd (not_empty m (members_without ms others) rest)

-- a member of an ascending list is found at its address
pub found_member : (ms : List MemberData) (m : MemberData) → Ascends address_of addr_order ms → has_member ms m ≡ true → found (at m.address) ms ≡ Some m
found_member [] m up h = cc
found_member (n ∷ ns) m up h = by_test (is_same member.the_code m n) refl (found_member ns m up.1) h
  where
    by_test : (b : Bool) → is_same member.the_code m n ≡ b → (has_member ns m ≡ true → found (at m.address) ns ≡ Some m) → (b || has_member ns m) ≡ true → found (at m.address) (n ∷ ns) ≡ Some m
    by_test true is find rest = subst (λ (x : MemberData). found (at x.address) (n ∷ ns) ≡ Some x) (sym (is_same-one member.the_code m n is)) (first_found address_of addr_order_total n ns)
    by_test false is find rest =
        let later : found (at m.address) ns ≡ Some m = find rest in
        let less : addr_order n.address m.address ≡ Less = found_holds (at m.address) (λ (z : MemberData). addr_order n.address z.address ≡ Less) ns m up.0 later in
        rw less later

there_too : (ms others : List MemberData) → Ascends address_of addr_order others → AllByRecursion (λ m. has_member others m ≡ true) ms → (a : Addr) (m : MemberData) → found (at a) ms ≡ Some m → found (at a) others ≡ Some m
there_too ms others up all a m is =
    subst (λ k. found (at k) others ≡ Some m) (addr_order_exact m.address a (found_at (at a) ms m is))
    (found_member others m up (found_holds (at a) (λ m. has_member others m ≡ true) ms m all is))

one_list : (ms ns : List MemberData) → Ascends address_of addr_order ms → Ascends address_of addr_order ns → members_without ms ns ≡ [] → members_without ns ms ≡ [] → ms ≡ ns
one_list ms ns up vp e f = equal_maps address_of addr_order_total ms ns up vp (λ a. by_found a (found (at a) ms) refl (found (at a) ns) refl)
  where
    by_found : (a : Addr) (o : Option MemberData) → found (at a) ms ≡ o → (p : Option MemberData) → found (at a) ns ≡ p → found (at a) ms ≡ found (at a) ns
    by_found a (Some m) is p at_p = is ∙ sym (there_too ms ns vp (each_there ns ms e) a m is)
    by_found a None is (Some n) at_p = there_too ns ms up (each_there ms ns f) a n at_p ∙ sym at_p
    by_found a None is None at_p = is ∙ sym at_p

nothing_changed : (g : Group) (added removed : List MemberData) → change_if_any g added removed ≡ [] → (added ≡ []) × (removed ≡ [])
nothing_changed g [] [] e = (refl, refl)
nothing_changed g [] (r ∷ rs) e = absurd (not_empty _ _ e)
nothing_changed g (x ∷ xs) removed e = absurd (not_empty _ _ e)

pub members_ascend : (c : ClusterData) (g : Group) → Ascends address_of addr_order (members_of c g)
unfolding members_of
members_ascend c g = ascends_sorted address_of addr_order_total (members_by member_of c g)

-- a group of which no change is told has the same members
pub unchanged_is_same : (before after : ClusterData) (g : Group) → group_change g (members_of before g) (members_of after g) ≡ [] → members_of before g ≡ members_of after g
unfolding group_change
unchanged_is_same before after g e =
    let none = nothing_changed g (members_without (members_of after g) (members_of before g)) (members_without (members_of before g) (members_of after g)) e in
    one_list (members_of before g) (members_of after g) (members_ascend before g) (members_ascend after g) none.1 none.0
