-- A group is on the same nodes unless it is told to have spread.
use Rattle.std.proofs.Common.{◌≡◌, ℕ, ◌+◌, ◌<◌, List, [], ◌∷◌, ◌++◌, length, get_or, take, Bool, true, false, ◌&&◌, ◌||◌, not, cond, filter, map, Option, Some, None, option_map, refl, sym, ap, subst, ◌∙◌}
use Rattle.std.specs.List.{AllByRecursion, flat_map, list_any}
use Rattle.std.specs.declared.cmp.Ordering.{Ordering}
use Rattle.std.specs.declared.cmp.Ordering.TheVariants.{Less, Equal, Greater}
use Rattle.std.specs.Ordering.{match_ordering}
use Rattle.std.proofs.lemmas.List.{map-append}
use Rattle.std.proofs.lemmas.List.Elements.{filter_more}
use Rattle.cl_types.specs.Addr.{addr_eq}
use Rattle.cl_types.specs.AddrEq.{addr_eq-itself}
use Rattle.cl_types.specs.Ascending.{found}
use Rattle.cl_types.specs.AscendingLaws.{found_holds}
use Rattle.cl_types.specs.Equality.{is_same}
use Rattle.cl_types.specs.EqualityLaws.{is_same-one}
use Rattle.cl_types.specs.ListLaws.{all_weaker}
use Rattle.cl_types.specs.OrderLaws.{text_eq-one}
use Rattle.cl_types.specs.Text.{text_eq}
use Rattle.label_select.specs.Group.{Group}
use Rattle.cluster_types.specs.Cluster.{ClusterData}
use Rattle.group_index.specs.declared.change.GroupChange.{GroupChange}
use Rattle.group_index.specs.declared.member.Member as member
use Rattle.group_index.specs.Changes.{at_cluster, change_if_any, changes_between, entry_at, group_change, has_member, members_without}
use Rattle.group_index.specs.Index.{EntryData, at_group, entry_of, members_in}
use Rattle.group_index.specs.Members.{MemberData, is_member_on, members_of}
use Rattle.watch_streams.specs.OneOfAll.{list_any-filter, list_any-flat_map}
use Rattle.touched_names.specs.Standing.{has_group, is_group}
use Rattle.node_objects.specs.NodeLaws.{both_true}
use Rattle.node_objects.specs.Sides.{IsInUse}
use Rattle.ctl_core.specs.Spread.{has_come, has_spread, some_alone, spread_groups, stays_on}

-- ---- tests

pub or_both : (a b : Bool) → (a || b) ≡ false → (a ≡ false) × (b ≡ false)
or_both true b h = cc
or_both false b h = (refl, h)

or_cases : (a b : Bool) {Q : Type 0} → (a ≡ true → Q) → (b ≡ true → Q) → (a || b) ≡ true → Q
or_cases true b left right h = left refl
or_cases false b left right h = right h

or_left : (a b : Bool) → a ≡ true → (a || b) ≡ true
or_left true b h = refl
or_left false b h = cc

or_right : (a b : Bool) → b ≡ true → (a || b) ≡ true
or_right true b h = refl
or_right false b h = h

not_false : (b : Bool) → not b ≡ false → b ≡ true
not_false true h = refl
not_false false h = cc

one_way : (a b : Bool) → (a ≡ true → b ≡ true) → (b ≡ true → a ≡ true) → a ≡ b
one_way true b there back = sym (there refl)
one_way false true there back = back refl
one_way false false there back = refl

-- ---- lists

weaker : {T : Type 0} (p q : T → Bool) → ((x : T) → p x ≡ true → q x ≡ true) → (xs : List T) → list_any p xs ≡ true → list_any q xs ≡ true
weaker p q f [] h = cc
weaker p q f (x ∷ xs) h = or_cases (p x) (list_any p xs) (λ here. or_left (q x) (list_any q xs) (f x here)) (λ there. or_right (q x) (list_any q xs) (weaker p q f xs there)) h

any_gives : {T : Type 0} (p : T → Bool) (P : T → Type 0) {Q : Type 0} → ((x : T) → P x → p x ≡ true → Q) → (xs : List T) → AllByRecursion P xs → list_any p xs ≡ true → Q
any_gives p P f [] all h = cc
any_gives p P f (x ∷ xs) all h = or_cases (p x) (list_any p xs) (f x all.0) (any_gives p P f xs all.1) h

none_passes : {T : Type 0} (q : T → Bool) (xs : List T) → list_any q xs ≡ false → AllByRecursion (λ x. q x ≡ false) xs
none_passes q [] h = tt
none_passes q (x ∷ xs) h = let both = or_both (q x) (list_any q xs) h in (both.0, none_passes q xs both.1)

list_any-of : {A T : Type 0} (p : T → Bool) (f : A → T) (xs : List A) → list_any p (map f xs) ≡ list_any (λ x. p (f x)) xs
list_any-of p f [] = refl
list_any-of p f (x ∷ xs) = ap (λ b. p (f x) || b) (list_any-of p f xs)

-- of the first elements those that pass, where one more was looked at
pub kept_more : {A B : Type 0} (f : A → B) (p : A → Bool) (xs : List A) (i : ℕ) (x : A) (old new : List B) → i < length xs → x ≡ get_or xs i x → old ≡ map f (filter p (take i xs)) → new ≡ old ++ cond (p x) (f x ∷ []) []
    → new ≡ map f (filter p (take (i + 1) xs))
kept_more {A = A} f p xs i x old new within is so more =
    more
    ∙ (ap (λ ys. ys ++ cond (p x) (f x ∷ []) []) so
    ∙ (ap (λ ys. map f (filter p (take i xs)) ++ ys) (mapped (p x) x)
    ∙ (sym (map-append f (filter p (take i xs)) (cond (p x) (x ∷ []) []))
    ∙ (ap (λ y. map f (filter p (take i xs) ++ cond (p y) (y ∷ []) [])) is ∙ sym (ap (map f) (filter_more p xs i x within))))))
  where
    mapped : (b : Bool) (y : A) → cond b (f y ∷ []) [] ≡ map f (cond b (y ∷ []) [])
    mapped true y = refl
    mapped false y = refl

-- ---- members that moved

-- one that passes is among the others, or is one of those that they lack
crossing : (p alone : MemberData → Bool) (others : List MemberData) {Q : Type 0} → ((x : MemberData) → has_member others x ≡ true → p x ≡ true → Q) → ((x : MemberData) → p x ≡ true → alone x ≡ false → Q)
    → (xs : List MemberData) → list_any p xs ≡ true → list_any alone (members_without xs others) ≡ false → Q
crossing p alone others stay gone [] h none = cc
crossing p alone others {Q = Q} stay gone (x ∷ xs) h none = by_test (has_member others x) refl (crossing p alone others stay gone xs) none
  where
    by_test : (b : Bool) → has_member others x ≡ b → (list_any p xs ≡ true → list_any alone (members_without xs others) ≡ false → Q) → list_any alone (cond (not b) (x ∷ members_without xs others) (members_without xs others)) ≡ false → Q
    by_test true is rest lacking = or_cases (p x) (list_any p xs) (stay x is) (λ there. rest there lacking) h
    by_test false is rest lacking =
        let both = or_both (alone x) (list_any alone (members_without xs others)) lacking in
        or_cases (p x) (list_any p xs) (λ here. gone x here both.0) (λ there. rest there both.1) h

-- one that the others lack has come
come_all : (others xs : List MemberData) → AllByRecursion (λ m. has_member others m ≡ false → has_come (members_without xs others) m ≡ true) xs
come_all others [] = tt
come_all others (x ∷ xs) = by_test (has_member others x) refl (come_all others xs)
  where
    by_test : (b : Bool) → has_member others x ≡ b → AllByRecursion (λ m. has_member others m ≡ false → has_come (members_without xs others) m ≡ true) xs
        → AllByRecursion (λ m. has_member others m ≡ false → has_come (cond (not b) (x ∷ members_without xs others) (members_without xs others)) m ≡ true) (x ∷ xs)
    by_test true is rest = (λ lacks. cc, rest)
    by_test false is rest = (
      λ lacks. or_left (addr_eq x.address x.address) (has_come (members_without xs others) x) (addr_eq-itself x.address),
      all_weaker (λ m. has_member others m ≡ false → has_come (members_without xs others) m ≡ true) (λ m. has_member others m ≡ false → has_come (x ∷ members_without xs others) m ≡ true)
          (λ m come lacks. or_right (addr_eq x.address m.address) (has_come (members_without xs others) m) (come lacks)) xs rest,
    )

module _ (node : List ℕ) where
  -- the very member is on the node, too
  held_on : (members : List MemberData) (x : MemberData) → has_member members x ≡ true → is_member_on node x ≡ true → list_any (is_member_on node) members ≡ true
  held_on members x held here = weaker (is_same member.the_code x) (is_member_on node) (λ y same. subst (λ (m : MemberData). is_member_on node m ≡ true) (is_same-one member.the_code x y same) here) members held

  on_same : (x m : MemberData) → is_member_on node x ≡ true → is_member_on x.node m ≡ true → is_member_on node m ≡ true
  on_same x m here there = subst (λ t. text_eq m.node t ≡ true) (text_eq-one x.node node here) there

  module _ (old new : List MemberData) where
    went_on : some_alone new (members_without new old) (members_without old new) ≡ false → list_any (is_member_on node) old ≡ true → list_any (is_member_on node) new ≡ true
    went_on none here =
        crossing (is_member_on node) (λ (m : MemberData). not (stays_on new (members_without new old) m.node)) new
        (λ x held on. held_on new x held on)
        (λ x on alone.
        weaker (λ m. is_member_on x.node m && not (has_come (members_without new old) m)) (is_member_on node)
        (λ m stays. on_same x m on (both_true (is_member_on x.node m) (not (has_come (members_without new old) m)) stays).0) new (not_false (stays_on new (members_without new old) x.node) alone))
        old here none

    was_held : (x m : MemberData) → is_member_on node x ≡ true → (has_member old m ≡ false → has_come (members_without new old) m ≡ true) → (is_member_on x.node m && not (has_come (members_without new old) m)) ≡ true
        → list_any (is_member_on node) old ≡ true
    was_held x m on come stays = by_test (has_member old m) refl
      where
        both : (is_member_on x.node m ≡ true) × (not (has_come (members_without new old) m) ≡ true)
        both = both_true (is_member_on x.node m) (not (has_come (members_without new old) m)) stays

        by_test : (b : Bool) → has_member old m ≡ b → list_any (is_member_on node) old ≡ true
        by_test true is = held_on old m is (on_same x m on both.0)
        by_test false is = let came = come is in let gone = both.1 in cc

    was_on : some_alone new (members_without new old) (members_without new old) ≡ false → list_any (is_member_on node) new ≡ true → list_any (is_member_on node) old ≡ true
    was_on none here =
        crossing (is_member_on node) (λ (m : MemberData). not (stays_on new (members_without new old) m.node)) old
        (λ x held on. held_on old x held on)
        (λ x on alone.
        any_gives (λ m. is_member_on x.node m && not (has_come (members_without new old) m)) (λ m. has_member old m ≡ false → has_come (members_without new old) m ≡ true)
        (λ m come stays. was_held x m on come stays) new (come_all old new) (not_false (stays_on new (members_without new old) x.node) alone))
        new here none

    same_nodes : (some_alone new (members_without new old) (members_without new old) || some_alone new (members_without new old) (members_without old new)) ≡ false
        → list_any (is_member_on node) old ≡ list_any (is_member_on node) new
    same_nodes none =
        let both = or_both (some_alone new (members_without new old) (members_without new old)) (some_alone new (members_without new old) (members_without old new)) none in
        one_way (list_any (is_member_on node) old) (list_any (is_member_on node) new) (went_on both.1) (was_on both.0)

-- ---- groups in use

module _ (d : ClusterData) (g : Group) where
  found-at : (entries : List EntryData) → found (at_group g) (map (entry_at d) entries) ≡ option_map (entry_at d) (found (at_group g) entries)
  found-at [] = refl
  found-at (e ∷ entries) = by_order (at_group g e) (found-at entries)
    where
      by_order : (r : Ordering) → found (at_group g) (map (entry_at d) entries) ≡ option_map (entry_at d) (found (at_group g) entries)
          → match_ordering r (found (at_group g) (map (entry_at d) entries)) (Some (entry_at d e)) None ≡ option_map (entry_at d) (match_ordering r (found (at_group g) entries) (Some e) None)
      by_order Less rest = rest
      by_order Equal rest = refl
      by_order Greater rest = refl

  -- the index at a cluster has the members there
  members_at : (entries : List EntryData) → IsInUse entries g → members_in (entry_of (at_cluster d entries) g) ≡ members_of d g
  unfolding at_cluster
  members_at entries used = ap members_in (found-at entries) ∙ by_entry (entry_of entries g) used
    where
      by_entry : (o : Option EntryData) → option_map (λ (e : EntryData). e.group) o ≡ Some g → members_in (option_map (entry_at d) o) ≡ members_of d g
      by_entry None same = cc
      by_entry (Some e) same = let same : e.group ≡ g = cc in ap (members_of d) same

and_left : (a b : Bool) → b ≡ true → ((a && b) || false) ≡ false → a ≡ false
and_left true true is h = cc
and_left true false is h = cc
and_left false b is h = refl

module _ (index : List EntryData) (g : Group) where
  abbrev is_spread_there : GroupChange → Bool
  is_spread_there x = has_spread (members_in (entry_of index x.group)) x && is_group g x.group

  stays_if_any : is_group g g ≡ true → (added removed : List MemberData) → list_any is_spread_there (change_if_any g added removed) ≡ false
      → (some_alone (members_in (entry_of index g)) added added || some_alone (members_in (entry_of index g)) added removed) ≡ false
  stays_if_any itself [] [] none = refl
  stays_if_any itself [] (r ∷ removed) none = and_left (some_alone (members_in (entry_of index g)) [] [] || some_alone (members_in (entry_of index g)) [] (r ∷ removed)) (is_group g g) itself none
  stays_if_any itself (a ∷ added) removed none = and_left (some_alone (members_in (entry_of index g)) (a ∷ added) (a ∷ added) || some_alone (members_in (entry_of index g)) (a ∷ added) removed) (is_group g g) itself none

  module _ (before after : ClusterData) where
    abbrev change_of : EntryData → List GroupChange
    change_of e = group_change e.group (members_of before e.group) (members_of after e.group)

    none_spread : (entries : List EntryData) → has_group (spread_groups index (changes_between before after entries)) g ≡ false → AllByRecursion (λ (e : EntryData). list_any is_spread_there (change_of e) ≡ false) entries
    unfolding changes_between
    none_spread entries none =
        none_passes (λ e. list_any is_spread_there (change_of e)) entries
        (sym (list_any-flat_map is_spread_there change_of entries)
        ∙ (sym (list_any-filter (λ (x : GroupChange). is_group g x.group) (λ (x : GroupChange). has_spread (members_in (entry_of index x.group)) x) (flat_map change_of entries))
        ∙ (sym (list_any-of (is_group g) (λ (x : GroupChange). x.group) (filter (λ (x : GroupChange). has_spread (members_in (entry_of index x.group)) x) (flat_map change_of entries))) ∙ none)))

    stays_between : (node : List ℕ) → is_group g g ≡ true → members_in (entry_of index g) ≡ members_of after g → list_any is_spread_there (group_change g (members_of before g) (members_of after g)) ≡ false
        → list_any (is_member_on node) (members_of before g) ≡ list_any (is_member_on node) (members_of after g)
    unfolding group_change
    stays_between node itself members none =
        same_nodes node (members_of before g) (members_of after g)
        (subst (λ ms. (some_alone ms (members_without (members_of after g) (members_of before g)) (members_without (members_of after g) (members_of before g)) || some_alone ms (members_without (members_of after g) (members_of before g)) (members_without (members_of before g) (members_of after g))) ≡ false) members
        (stays_if_any itself (members_without (members_of after g) (members_of before g)) (members_without (members_of before g) (members_of after g)) none))

    -- a group in use that isn't told to have spread has members on the same nodes
    pub spread_tells : (entries : List EntryData) (node : List ℕ) → is_group g g ≡ true → members_in (entry_of index g) ≡ members_of after g → IsInUse entries g
        → has_group (spread_groups index (changes_between before after entries)) g ≡ false
        → list_any (is_member_on node) (members_of before g) ≡ list_any (is_member_on node) (members_of after g)
    spread_tells entries node itself members used none = by_entry (entry_of entries g) refl used
      where
        by_entry : (o : Option EntryData) → entry_of entries g ≡ o → option_map (λ (e : EntryData). e.group) o ≡ Some g → list_any (is_member_on node) (members_of before g) ≡ list_any (is_member_on node) (members_of after g)
        by_entry None is same = cc
        by_entry (Some e) is same =
            let same : e.group ≡ g = cc in
            let here : list_any is_spread_there (change_of e) ≡ false = found_holds (at_group g) (λ (x : EntryData). list_any is_spread_there (change_of x) ≡ false) entries e (none_spread entries none) is in
            stays_between node itself members (subst (λ h. list_any is_spread_there (group_change h (members_of before h) (members_of after h)) ≡ false) same here)

-- ---- all groups

pub spread_stays : (before after : ClusterData) (g : Group) (entries : List EntryData) (node : List ℕ) → is_group g g ≡ true → IsInUse entries g
    → has_group (spread_groups (at_cluster after entries) (changes_between before after entries)) g ≡ false
    → list_any (is_member_on node) (members_of before g) ≡ list_any (is_member_on node) (members_of after g)
spread_stays before after g entries node itself used none = spread_tells (at_cluster after entries) g before after entries node itself (members_at after g entries used) used none
