-- Members that move at some addresses: what is found at each address, and what changes.
use Rattle.std.proofs.Common.{◌≡◌, ◌<◌, ◌≤◌, ◌++◌, ℕ, zero, suc, List, [], ◌∷◌, length, get_or, set, take, Bool, true, false, ◌||◌, not, Option, Some, None, if◌then◌else◌, refl, sym, ap, subst, ◌∙◌, arith}
use Rattle.std.specs.List.{AllByRecursion, AllWithin, flat_map}
use Rattle.std.proofs.lemmas.Grind.{flat_map-append}
use Rattle.std.proofs.lemmas.List.{append-nil, append_assoc, take_all}
use Rattle.std.proofs.lemmas.List.Elements.{All-from_recursion}
use Rattle.std.specs.Option.{option_to_list}
use Rattle.std.specs.Ordering.{is_eq}
use Rattle.std.specs.declared.cmp.Ordering.TheVariants.{Less}
use Rattle.cl_types.specs.declared.addr.Addr.{Addr}
use Rattle.cl_types.specs.Addr.{addr_eq, addr_order, addr_order_total}
use Rattle.cl_types.specs.AddrEq.{addr_eq-one, addr_eq_by_order}
use Rattle.cl_types.specs.Ascending.{found}
use Rattle.cl_types.specs.AscendingLaws.{ascends_filter, ascends_sorted, equal_maps, found_at, found_filter, found_holds, found_put, passed}
use Rattle.cl_types.specs.ListLaws.{all_weaker}
use Rattle.cl_types.specs.OrderLaws.{addr_order_exact}
use Rattle.cl_types.specs.Text.{text_order}
use Rattle.cluster_objects.specs.Addresses.{is_among}
use Rattle.cluster_types.specs.Cluster.{ClusterData}
use Rattle.label_select.specs.Group.{Group}
use Rattle.group_index.specs.declared.draft.Draft.{Draft}
use Rattle.group_index.specs.declared.draft.Drafts.{Drafts}
use Rattle.group_index.specs.declared.moves.Edit.{Edit}
use Rattle.group_index.specs.declared.moves.Moves.{Moves}
use Rattle.group_index.specs.declared.stretch.Stretch.{Stretch}
use Rattle.group_index.specs.declared.stretch.Stretches.{Stretches}
use Rattle.group_index.specs.ChangeLaws.{found_member, members_ascend}
use Rattle.group_index.specs.Changes.{at_cluster, change_at, change_if_any, entry_at, group_change, has_member, members_without}
use Rattle.group_index.specs.Index.{EntryData, IsIndex, StandsFor, entry_text}
use Rattle.group_index.specs.Members.{MemberData, by_address, members_of}
use Rattle.group_index.specs.Settled.{AreDrafts, AreStretches, AscendByAddress, DiffersAt, Fits, FitsAt, FitsIf, HavePlaces, IsStretch, MovesAt, Stays, addresses_where, at_address, draft_at, edited_by, here_at, moved_if, picked, settled_at, settled_by, with_members}
use Rattle.group_index.proofs.Editing.{address_of}
use Rattle.group_index.proofs.Unchanged.{all_there, unchanged}

nothing : (b : Bool) → (let none : Option MemberData = None in if b then none else none) ≡ None
nothing true = refl
nothing false = refl

-- ---- what is found

-- at each of the addresses what stands there
pub found_picked : (ms : List MemberData) (addresses : List Addr) (b : Addr) → found (at_address b) (picked addresses ms) ≡ (if is_among b addresses then found (at_address b) ms else None)
found_picked ms [] b = refl
found_picked ms (a ∷ addresses) b = by_found (found (at_address a) ms) refl (addr_eq a b) refl (found_picked ms addresses b)
  where
    test : (m : MemberData) → found (at_address a) ms ≡ Some m → is_eq (addr_order m.address b) ≡ addr_eq a b
    test m is = ap (λ x. is_eq (addr_order x b)) (addr_order_exact m.address a (found_at (at_address a) ms m is)) ∙ sym (addr_eq_by_order a b)

    by_found : (o : Option MemberData) → found (at_address a) ms ≡ o → (t : Bool) → addr_eq a b ≡ t
        → found (at_address b) (picked addresses ms) ≡ (if is_among b addresses then found (at_address b) ms else None)
        → found (at_address b) (by_address (option_to_list o ++ flat_map (here_at ms) addresses)) ≡ (if (t || is_among b addresses) then found (at_address b) ms else None)
    by_found None is true same later =
        let none : found (at_address b) ms ≡ None = subst (λ x. found (at_address x) ms ≡ None) (addr_eq-one a b same) is in
        later ∙ (ap (λ o. if is_among b addresses then o else None) none ∙ (nothing (is_among b addresses) ∙ sym none))
    by_found None is false same later = later
    by_found (Some m) is true same later =
        found_put address_of addr_order_total b m (picked addresses ms)
        ∙ (ap (λ v. if v then Some m else found (at_address b) (picked addresses ms)) (test m is ∙ same)
        ∙ sym (subst (λ x. found (at_address x) ms ≡ Some m) (addr_eq-one a b same) is))
    by_found (Some m) is false same later =
        found_put address_of addr_order_total b m (picked addresses ms)
        ∙ (ap (λ v. if v then Some m else found (at_address b) (picked addresses ms)) (test m is ∙ same) ∙ later)

pub differs_nowhere : (ms new : List MemberData) → DiffersAt [] ms new → ms ≡ new
differs_nowhere ms new d = equal_maps address_of addr_order_total ms new d.old_ascends d.new_ascends (λ a. d.alike a refl)

-- where the members at the addresses are the same, all are
pub same_picked : (addresses : List Addr) (old new : List MemberData) → DiffersAt addresses old new → picked addresses old ≡ picked addresses new → old ≡ new
same_picked addresses old new d e = equal_maps address_of addr_order_total old new d.old_ascends d.new_ascends (λ b. by_test b (is_among b addresses) refl)
  where
    here : (b : Addr) (ms : List MemberData) → is_among b addresses ≡ true → found (at_address b) (picked addresses ms) ≡ found (at_address b) ms
    here b ms is = found_picked ms addresses b ∙ ap (λ v. if v then found (at_address b) ms else None) is

    by_test : (b : Addr) (t : Bool) → is_among b addresses ≡ t → found (at_address b) old ≡ found (at_address b) new
    by_test b true is = sym (here b old is) ∙ (ap (found (at_address b)) e ∙ here b new is)
    by_test b false is = d.alike b is

-- ---- what changes

found_has : (ms : List MemberData) (b : Addr) (m : MemberData) → found (at_address b) ms ≡ Some m → has_member ms m ≡ true
found_has ms b m is = found_holds (at_address b) (λ n. has_member ms n ≡ true) ms m (all_there ms) is

-- lists that are alike at a member's address both have it or lack it
has_alike : (xs ys : List MemberData) (m : MemberData) → AscendByAddress xs → AscendByAddress ys → found (at_address m.address) xs ≡ found (at_address m.address) ys → has_member xs m ≡ has_member ys m
has_alike xs ys m up vp alike = by_tests (has_member xs m) refl (has_member ys m) refl
  where
    by_tests : (b : Bool) → has_member xs m ≡ b → (d : Bool) → has_member ys m ≡ d → has_member xs m ≡ has_member ys m
    by_tests true is d at_d = is ∙ sym (found_has ys m.address m (sym alike ∙ found_member xs m up is))
    by_tests false is true at_d = found_has xs m.address m (alike ∙ found_member ys m vp at_d) ∙ sym at_d
    by_tests false is false at_d = is ∙ sym at_d

picked_ascends : (addresses : List Addr) (ms : List MemberData) → AscendByAddress (picked addresses ms)
picked_ascends addresses ms = ascends_sorted address_of addr_order_total (flat_map (here_at ms) addresses)

lacking_picked : (addresses : List Addr) (old new : List MemberData) → DiffersAt addresses old new → members_without (picked addresses new) (picked addresses old) ≡ members_without new old
lacking_picked addresses old new d =
    equal_maps address_of addr_order_total (members_without (picked addresses new) (picked addresses old)) (members_without new old)
    (ascends_filter address_of addr_order_total (λ m. not (has_member (picked addresses old) m)) (picked addresses new) (picked_ascends addresses new))
    (ascends_filter address_of addr_order_total (λ m. not (has_member old m)) new d.new_ascends)
    (λ b. found_filter address_of addr_order_total (λ m. not (has_member (picked addresses old) m)) b (picked addresses new) (picked_ascends addresses new)
    ∙ (ap (passed (λ m. not (has_member (picked addresses old) m))) (found_picked new addresses b)
    ∙ (by_test b (is_among b addresses) refl (found (at_address b) new) refl
    ∙ sym (found_filter address_of addr_order_total (λ m. not (has_member old m)) b new d.new_ascends))))
  where
    by_test : (b : Addr) (t : Bool) → is_among b addresses ≡ t → (o : Option MemberData) → found (at_address b) new ≡ o
        → passed (λ m. not (has_member (picked addresses old) m)) (if t then found (at_address b) new else None) ≡ passed (λ m. not (has_member old m)) (found (at_address b) new)
    by_test b true is None e = rw e refl
    by_test b true is (Some m) e =
        let here : is_among m.address addresses ≡ true = subst (λ x. is_among x addresses ≡ true) (sym (addr_order_exact m.address b (found_at (at_address b) new m e))) is in
        let alike : found (at_address m.address) (picked addresses old) ≡ found (at_address m.address) old = found_picked old addresses m.address ∙ ap (λ v. if v then found (at_address m.address) old else None) here in
        let both : has_member (picked addresses old) m ≡ has_member old m = has_alike (picked addresses old) old m (picked_ascends addresses old) d.old_ascends alike in
        rw e (ap (λ v. if not v then Some m else None) both)
    by_test b false is None e = rw e refl
    by_test b false is (Some m) e = rw e (sym (ap (λ v. if not v then Some m else None) (found_has old b m (d.alike b is ∙ e))))

pub change_picked : (g : Group) (addresses : List Addr) (old new : List MemberData) → DiffersAt addresses old new → group_change g (picked addresses old) (picked addresses new) ≡ group_change g old new
unfolding group_change
change_picked g addresses old new d =
    ap (λ xs. change_if_any g xs (members_without (picked addresses old) (picked addresses new))) (lacking_picked addresses old new d)
    ∙ ap (change_if_any g (members_without new old))
    (lacking_picked addresses new old (record { old_ascends = d.new_ascends; new_ascends = d.old_ascends; alike = λ b off. sym (d.alike b off) }))

-- ---- drafts

-- the draft at the end is settled first
pub settled_last : (ds : List Draft) (d : Draft) (es : List EntryData) → settled_by (ds ++ d ∷ []) es ≡ settled_by ds (settled_at d.place d.moves.edits.items es)
settled_last [] d es = refl
settled_last (x ∷ ds) d es = ap (settled_at x.place x.moves.edits.items) (settled_last ds d es)

settled_behind : (first : List EntryData) (edits : List Edit) (e : EntryData) (rest : List EntryData) → settled_at (length first) edits (first ++ e ∷ rest) ≡ first ++ with_members (edited_by edits e.members) e ∷ rest
settled_behind [] edits e rest = refl
settled_behind (x ∷ first) edits e rest = ap (λ es. x ∷ es) (settled_behind first edits e rest)

pub settled_here : (i : ℕ) (edits : List Edit) (es : List EntryData) (x y : EntryData) → i < length es → x ≡ get_or es i x → y ≡ with_members (edited_by edits x.members) x → set es i y ≡ settled_at i edits es
settled_here i edits [] x y h here is = absurd (omega arith)
settled_here zero edits (e ∷ es) x y h here is = ap (λ z. z ∷ es) (is ∙ ap (λ (z : EntryData). with_members (edited_by edits z.members) z) here)
settled_here (suc i) edits (e ∷ es) x y h here is = ap (λ zs. e ∷ zs) (settled_here i edits es x y (omega arith) here is)

-- ---- places for the members

pub fits_within : (i : ℕ) (m : Moves) (es : List EntryData) → FitsAt i m es → i < length es
fits_within i m [] fits = absurd fits
fits_within zero m (e ∷ es) fits = omega arith
fits_within (suc i) m (e ∷ es) fits = let h = fits_within i m es fits in omega arith

pub fits_here : (i : ℕ) (m : Moves) (es : List EntryData) (x : EntryData) → FitsAt i m es → x ≡ get_or es i x → Fits m x.members
fits_here i m [] x fits is = absurd fits
fits_here zero m (e ∷ es) x fits is = subst (λ (z : EntryData). Fits m z.members) (sym is) fits
fits_here (suc i) m (e ∷ es) x fits is = fits_here i m es x fits is

fits_behind : (first : List EntryData) (m : Moves) (e : EntryData) (rest : List EntryData) → Fits m e.members → FitsAt (length first) m (first ++ e ∷ rest)
fits_behind [] m e rest fits = fits
fits_behind (x ∷ first) m e rest fits = fits_behind first m e rest fits

places_more : (ds : List Draft) (d : Draft) (es : List EntryData) → HavePlaces ds (settled_at d.place d.moves.edits.items es) → FitsAt d.place d.moves es → HavePlaces (ds ++ d ∷ []) es
places_more [] d es all fits = (fits, tt)
places_more (x ∷ ds) d es all fits = (subst (FitsAt x.place x.moves) (sym (settled_last ds d es)) all.0, places_more ds d es all.1 fits)

pub places_less : (ds : List Draft) (d : Draft) (es : List EntryData) → HavePlaces (ds ++ d ∷ []) es → HavePlaces ds (settled_at d.place d.moves.edits.items es) × FitsAt d.place d.moves es
places_less [] d es all = (tt, all.0)
places_less (x ∷ ds) d es all = let later = places_less ds d es all.1 in ((subst (FitsAt x.place x.moves) (settled_last ds d es) all.0, later.0), later.1)

-- the groups stay in order
later_stay : (t : List ℕ) (i : ℕ) (edits : List Edit) (es : List EntryData) → AllByRecursion (λ y. text_order t (entry_text y) ≡ Less) es → AllByRecursion (λ y. text_order t (entry_text y) ≡ Less) (settled_at i edits es)
later_stay t i edits [] all = tt
later_stay t zero edits (e ∷ es) all = all
later_stay t (suc i) edits (e ∷ es) all = (all.0, later_stay t i edits es all.1)

at_ascends : (i : ℕ) (edits : List Edit) (es : List EntryData) → IsIndex es → IsIndex (settled_at i edits es)
at_ascends i edits [] up = tt
at_ascends zero edits (e ∷ es) up = up
at_ascends (suc i) edits (e ∷ es) up = (later_stay (entry_text e) i edits es up.0, at_ascends i edits es up.1)

pub settled_ascends : (ds : List Draft) (es : List EntryData) → IsIndex es → IsIndex (settled_by ds es)
settled_ascends [] es up = up
settled_ascends (d ∷ ds) es up = at_ascends d.place d.moves.edits.items (settled_by ds es) (settled_ascends ds es up)

at_more : (c : ClusterData) (first : List EntryData) (e : EntryData) (rest : List EntryData) → at_cluster c first ++ entry_at c e ∷ rest ≡ at_cluster c (first ++ e ∷ []) ++ rest
unfolding at_cluster
at_more c [] e rest = refl
at_more c (x ∷ first) e rest = ap (λ es. entry_at c x ∷ es) (at_more c first e rest)

at_none : (c : ClusterData) → at_cluster c [] ≡ []
unfolding at_cluster
at_none c = refl

module _ (c : ClusterData) where
  pub drafts_none : (d : Drafts) → d.changes.items ≡ [] → d.drafts.items ≡ [] → AreDrafts c [] d
  drafts_none d changes drafts = record {
    changes = changes;
    places = λ rest. subst (λ ds. HavePlaces ds rest) (sym drafts) tt;
    settle = λ rest. ap (λ ds. settled_by ds rest) drafts ∙ sym (ap (λ es. es ++ rest) (at_none c));
  }

  drafts_fit : (first : List EntryData) (ds : List Draft) (e : EntryData) (o : Option Moves) → FitsIf o e.members → ((rest : List EntryData) → HavePlaces ds (first ++ rest))
      → (rest : List EntryData) → HavePlaces (ds ++ draft_at (length first) o) ((first ++ e ∷ []) ++ rest)
  drafts_fit first ds e None fits all rest = subst (λ xs. HavePlaces xs ((first ++ e ∷ []) ++ rest)) (sym (append-nil ds)) (subst (HavePlaces ds) (sym (append_assoc first (e ∷ []) rest)) (all (e ∷ rest)))
  drafts_fit first ds e (Some m) fits all rest =
      subst (HavePlaces (ds ++ draft_at (length first) (Some m))) (sym (append_assoc first (e ∷ []) rest))
      (places_more ds (record { place = length first; moves = m }) (first ++ e ∷ rest)
      (subst (HavePlaces ds) (sym (settled_behind first m.edits.items e rest)) (all (with_members (edited_by m.edits.items e.members) e ∷ rest)))
      (fits_behind first m e rest fits))

  drafts_lead : (first : List EntryData) (ds : List Draft) (e : EntryData) (o : Option Moves) → moved_if o e.members ≡ members_of c e.group
      → ((rest : List EntryData) → settled_by ds (first ++ rest) ≡ at_cluster c first ++ rest)
      → (rest : List EntryData) → settled_by (ds ++ draft_at (length first) o) ((first ++ e ∷ []) ++ rest) ≡ at_cluster c (first ++ e ∷ []) ++ rest
  drafts_lead first ds e None is lead rest =
      ap (λ xs. settled_by xs ((first ++ e ∷ []) ++ rest)) (append-nil ds)
      ∙ (ap (settled_by ds) (append_assoc first (e ∷ []) rest)
      ∙ (lead (e ∷ rest)
      ∙ (ap (λ ms. at_cluster c first ++ with_members ms e ∷ rest) is ∙ at_more c first e rest)))
  drafts_lead first ds e (Some m) is lead rest =
      ap (settled_by (ds ++ draft_at (length first) (Some m))) (append_assoc first (e ∷ []) rest)
      ∙ (settled_last ds (record { place = length first; moves = m }) (first ++ e ∷ rest)
      ∙ (ap (settled_by ds) (settled_behind first m.edits.items e rest)
      ∙ (lead (with_members (edited_by m.edits.items e.members) e ∷ rest)
      ∙ (ap (λ ms. at_cluster c first ++ with_members ms e ∷ rest) is ∙ at_more c first e rest))))

  -- one group more, with its draft and its change
  pub drafts_more : (first : List EntryData) (d new : Drafts) (e : EntryData) (o : Option Moves) → moved_if o e.members ≡ members_of c e.group → FitsIf o e.members
      → new.drafts.items ≡ d.drafts.items ++ draft_at (length first) o → new.changes.items ≡ d.changes.items ++ change_at c e → AreDrafts c first d → AreDrafts c (first ++ e ∷ []) new
  drafts_more first d new e o is fits drafts changes h = record {
    changes =
        changes
        ∙ (ap (λ xs. xs ++ change_at c e) h.changes
        ∙ sym (flat_map-append (change_at c) first (e ∷ []) ∙ ap (λ ys. flat_map (change_at c) first ++ ys) (append-nil (change_at c e))));
    places = λ rest. subst (λ ds. HavePlaces ds ((first ++ e ∷ []) ++ rest)) (sym drafts) (drafts_fit first d.drafts.items e o fits h.places rest);
    settle = λ rest. ap (λ ds. settled_by ds ((first ++ e ∷ []) ++ rest)) drafts ∙ drafts_lead first d.drafts.items e o is h.settle rest;
  }

  -- one group more, whose members stay
  pub drafts_same : (first : List EntryData) (d : Drafts) (e : EntryData) → Stays c e → AreDrafts c first d → AreDrafts c (first ++ e ∷ []) d
  drafts_same first d e stays h = drafts_more first d d e None stays tt (sym (append-nil d.drafts.items)) (unchanged d.changes.items e.group e.members (members_of c e.group) stays) h

  nothing_taken : (i : ℕ) → (let none : List EntryData = [] in take i none) ≡ []
  nothing_taken zero = refl
  nothing_taken (suc i) = refl

  -- the groups between two places, whose members stay
  drafts_between : (first : List EntryData) (d : Drafts) (es : List EntryData) (i j : ℕ) → i ≤ j → AllWithin (Stays c) es i j → AreDrafts c (first ++ take i es) d → AreDrafts c (first ++ take j es) d
  drafts_between first d [] i j le all h = subst (λ xs. AreDrafts c (first ++ xs) d) (nothing_taken i ∙ sym (nothing_taken j)) h
  drafts_between first d (e ∷ es) zero zero le all h = h
  drafts_between first d (e ∷ es) zero (suc j) le all h =
      subst (λ xs. AreDrafts c xs d) (append_assoc first (e ∷ []) (take j es))
      (drafts_between (first ++ e ∷ []) d es 0 j (omega arith) (λ k x lo hi. all (suc k) x (omega arith) (omega arith))
      (subst (λ xs. AreDrafts c xs d) (sym (append-nil (first ++ e ∷ [])))
      (drafts_same first d e (all 0 e (omega arith) (omega arith)) (subst (λ xs. AreDrafts c xs d) (append-nil first) h))))
  drafts_between first d (e ∷ es) (suc i) zero le all h = absurd (omega arith)
  drafts_between first d (e ∷ es) (suc i) (suc j) le all h =
      subst (λ xs. AreDrafts c xs d) (append_assoc first (e ∷ []) (take j es))
      (drafts_between (first ++ e ∷ []) d es i j (omega arith) (λ k x lo hi. all (suc k) x (omega arith) (omega arith))
      (subst (λ xs. AreDrafts c xs d) (sym (append_assoc first (e ∷ []) (take i es))) h))

  pub drafts_places : (index : List EntryData) (d : Drafts) → AreDrafts c index d → HavePlaces d.drafts.items index
  drafts_places index d h = subst (HavePlaces d.drafts.items) (append-nil index) (h.places [])

  pub drafts_settled : (index : List EntryData) (d : Drafts) → AreDrafts c index d → settled_by d.drafts.items index ≡ at_cluster c index
  drafts_settled index d h =
      ap (settled_by d.drafts.items) (sym (append-nil index)) ∙ (h.settle [] ∙ append-nil (at_cluster c index))

-- ---- from one cluster to another

-- at every other address the groups have the same members at both clusters
abbrev pub AreAlike : (Group → Bool) → List Addr → ClusterData → ClusterData → Type 0
AreAlike concerns addresses before c = (g : Group) (a : Addr) → is_among a (addresses_where (concerns g) addresses) ≡ false → found (at_address a) (members_of before g) ≡ found (at_address a) (members_of c g)

pub moves : (concerns : Group → Bool) (addresses : List Addr) (before c : ClusterData) → AreAlike concerns addresses before c → (index : List EntryData) → StandsFor index before → AllByRecursion (MovesAt concerns addresses c) index
moves concerns addresses before c alike index stands =
    all_weaker (λ (e : EntryData). e.members ≡ members_of before e.group) (MovesAt concerns addresses c)
    (λ e is. subst (λ ms. DiffersAt (addresses_where (concerns e.group) addresses) ms (members_of c e.group)) (sym is)
    (record { old_ascends = members_ascend before e.group; new_ascends = members_ascend c e.group; alike = alike e.group }))
    index stands

-- a group that a change doesn't concern stays
pub unconcerned : (concerns : Group → Bool) (addresses : List Addr) (c : ClusterData) (e : EntryData) → concerns e.group ≡ false → MovesAt concerns addresses c e → Stays c e
unconcerned concerns addresses c e off moves = differs_nowhere e.members (members_of c e.group) (subst (λ b. DiffersAt (addresses_where b addresses) e.members (members_of c e.group)) off moves)

module _ (concerns : Group → Bool) (addresses : List Addr) (c : ClusterData) (index : List EntryData) (all : AllByRecursion (MovesAt concerns addresses c) index) where
  -- groups that a change doesn't concern are passed over
  passed_over : (d : Drafts) (i j : ℕ) → i ≤ j → j ≤ length index → AllWithin (λ (e : EntryData). concerns e.group ≡ false) index i j → AreDrafts c (take i index) d → AreDrafts c (take j index) d
  passed_over d i j le within off = drafts_between c [] d index i j le (λ k e lo hi. unconcerned concerns addresses c (get_or index k e) (off k e lo hi) (All-from_recursion (MovesAt concerns addresses c) index all k e (omega arith)))

  from_none : (d : Drafts) → AreDrafts c [] d → AreDrafts c (take 0 index) d
  from_none d h = subst (λ xs. AreDrafts c xs d) (sym (take_none index)) h
    where
      take_none : (es : List EntryData) → take 0 es ≡ []
      take_none [] = refl
      take_none (e ∷ es) = refl

  to_end : (d : Drafts) → AreDrafts c (take (length index) index) d → AreDrafts c index d
  to_end d h = subst (λ xs. AreDrafts c xs d) (take_all (length index) index (omega arith)) h

  -- those of one stretch have their drafts, and the others stay
  pub one_stretch : (s : Stretch) (none one : Drafts) → IsStretch (λ (e : EntryData). concerns e.group ≡ false) index s → AreDrafts c [] none
      → (AreDrafts c (take s.start index) none → AreDrafts c (take s.end index) one) → AreDrafts c index one
  one_stretch s none one is h step =
      to_end one (passed_over one s.end (length index) is.within (omega arith) is.after (step (passed_over none 0 s.start (omega arith) (let o = is.order in let w = is.within in omega arith) is.before (from_none none h))))

  -- those of two stretches have their drafts, and the others stay
  pub two_stretches : (s : Stretches) (none one two : Drafts) → AreStretches (λ (e : EntryData). concerns e.group ≡ false) index s → AreDrafts c [] none
      → (AreDrafts c (take s.first.start index) none → AreDrafts c (take s.first.end index) one) → (AreDrafts c (take s.second.start index) one → AreDrafts c (take s.second.end index) two) → AreDrafts c index two
  two_stretches s none one two are h first second =
      let second_within : s.second.start ≤ length index = (let o = are.second in let w = are.within in omega arith) in
      let first_within : s.first.start ≤ length index = (let o = are.first in let a = are.apart in omega arith) in
      to_end two (passed_over two s.second.end (length index) are.within (omega arith) are.after
      (second (passed_over one s.first.end s.second.start are.apart second_within are.between
      (first (passed_over none 0 s.first.start (omega arith) first_within are.before (from_none none h))))))
