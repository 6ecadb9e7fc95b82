-- Which flows a search by the index considers.
use Rattle.std.proofs.Common.{◌≡◌, ℕ, zero, suc, ◌+◌, ◌-◌, ◌/◌, ◌^◌, ◌<◌, Bool, true, false, ◌&&◌, ◌||◌, not, List, [], ◌∷◌, ◌++◌, length, drop, get_or, drop-cons, Option, Some, None, refl, sym, ap, ◌∙◌, subst, add-one, arith, eqb}
use Rattle.std.specs.Prelude.{is_none, nat_le, if◌then◌else◌}
use Rattle.std.specs.List.{list_any, slice_get, flat_map}
use Rattle.std.specs.Option.{option_map_or}
use Rattle.std.proofs.lemmas.Bool.{eqb-true}
use borrow.Author.Tests.{eq-eqb}
use Rattle.std.proofs.lemmas.Grind.{flat_map-append}
use Rattle.std.proofs.lemmas.List.Folds.{list_any-append}
use Rattle.std.proofs.lemmas.Option.{slice_get_within}
use Rattle.cl_types.specs.declared.addr.Addr.{Addr}
use Rattle.cl_types.specs.Prefix.{PrefixData, holds}
use Rattle.cl_types.specs.Addr.{width_of, number_of}
use Rattle.flow_tables.specs.declared.class.Block.TheVariants.{Source, Destination, Any}
use Rattle.flow_tables.specs.declared.class.Role.{Role}
use Rattle.flow_tables.specs.declared.class.Role.TheVariants.{Start, Giving, Conj}
use Rattle.flow_entries.specs.declared.flow.Clause.{Clause}
use Rattle.flow_entries.specs.declared.flow.Does.{Does}
use Rattle.flow_entries.specs.declared.flow.Does.TheVariants as does
use Rattle.flow_entries.specs.declared.flow.Flow.{Flow}
use Rattle.flow_tables.specs.declared.index.Index.{Index}
use Rattle.flow_tables.specs.declared.lookup.Arrival.{Arrival}
use Rattle.flow_tables.specs.Class.{bits_of, block_of, block_at, shape_eq, shape_of, scope_of, class_of, class_at, conj_class}
use Rattle.flow_tables.specs.Index.{listed, noted, is_in, has_shape, has_dimension, is_start, IsDimension, IsListed, IsFree, IsKnownBy, Covers}
use Rattle.flow_tables.specs.Lookup.{meets, gives, is_clauses, clauses_of, is_clause, is_complete, can_be_hit, conj_holds}
use Rattle.flow_entries.specs.Matching.{if_given}
use Rattle.flow_tables.specs.Search.{Found, all_considered, visited, all_visited, does_places, is_shared, places_if, shared_places, common_places, partner_at, partner_places, pair_places, in_role, gives_at}
use Rattle.flow_entries.specs.Table.{table_place}
use Rattle.flow_tables.proofs.Classes.{made, scoped, classed, shape_eq-one}
use Rattle.flow_tables.proofs.Hits.{all_considered-append, all_visited-append, Reaches}

-- ---- tests

both : (p q : Bool) → p && q ≡ true → (p ≡ true) × (q ≡ true)
both true q h = (refl, h)
both false q h = cc

or_left : (p q : Bool) → p ≡ true → p || q ≡ true
or_left true q h = refl
or_left false q h = cc

or_right : (p q : Bool) → q ≡ true → p || q ≡ true
or_right true q h = refl
or_right false q h = h

none_of : (o : Option ℕ) → is_none o ≡ true → o ≡ None
none_of None h = refl
none_of (Some x) h = cc

not_true : (b : Bool) → not b ≡ true → b ≡ false
not_true true h = cc
not_true false h = refl

-- two tests of which each follows from the other are one
same_test : (p q : Bool) → (p ≡ true → q ≡ true) → (q ≡ true → p ≡ true) → p ≡ q
same_test true q f g = sym (f refl)
same_test false true f g = g refl
same_test false false f g = refl

module _ {X : Type 0} (p : X → Bool) where
  pub any_left : (xs ys : List X) → list_any p xs ≡ true → list_any p (xs ++ ys) ≡ true
  any_left xs ys h = list_any-append p xs ys ∙ or_left (list_any p xs) (list_any p ys) h

  pub any_right : (xs ys : List X) → list_any p ys ≡ true → list_any p (xs ++ ys) ≡ true
  any_right xs ys h = list_any-append p xs ys ∙ or_right (list_any p xs) (list_any p ys) h

  pub any_neither : (xs ys : List X) → list_any p xs ≡ false → list_any p ys ≡ false → list_any p (xs ++ ys) ≡ false
  any_neither xs ys e f = list_any-append p xs ys ∙ rw (e, f) refl

-- what passes stands at some place
pub record At {X : Type 0} (p : X → Bool) (xs : List X) : Type 0 where
  pub place : ℕ
  pub item : X
  pub is : slice_get xs place ≡ Some item
  pub passes : p item ≡ true

module _ {X : Type 0} (p : X → Bool) where
  pub any_at : (xs : List X) → list_any p xs ≡ true → At p xs
  any_at [] h = cc
  any_at (x ∷ xs) h = by_test (any_at xs) (p x) refl h
    where
      by_test : (list_any p xs ≡ true → At p xs) → (b : Bool) → p x ≡ b → b || list_any p xs ≡ true → At p (x ∷ xs)
      by_test later true on h = record { place = zero; item = x; is = refl; passes = on }
      by_test later false off h = let rest = later h in record { place = suc rest.place; item = rest.item; is = rest.is; passes = rest.passes }

  pub at_any : (xs : List X) (i : ℕ) (x : X) → slice_get xs i ≡ Some x → p x ≡ true → list_any p xs ≡ true
  at_any [] i x is on = cc
  at_any (y ∷ ys) zero x is on = let one : y ≡ x = cc in or_left (p y) (list_any p ys) (subst (λ z. p z ≡ true) (sym one) on)
  at_any (y ∷ ys) (suc i) x is on = or_right (p y) (list_any p ys) (at_any ys i x is on)

-- a place that is among others and passes
pub among_any : (g : ℕ → Bool) (ps : List ℕ) (p : ℕ) → is_in p ps ≡ true → g p ≡ true → list_any g ps ≡ true
among_any g ps p h on =
    let there = any_at (λ (q : ℕ). eqb q p) ps h in
    let one : there.item ≡ p = eqb-true there.item p there.passes in
    at_any g ps there.place there.item there.is (subst (λ q. g q ≡ true) (sym one) on)

-- ---- lists made of lists

module _ {X Y : Type 0} (g : Y → Bool) (q : X → Bool) (F : X → List Y) where
  -- what passes in the list of each item that is meant passes in all the lists, where such an item is there
  pub any_flat : (xs : List X) → ((x : X) → q x ≡ true → list_any g (F x) ≡ true) → list_any q xs ≡ true → list_any g (flat_map F xs) ≡ true
  any_flat [] each h = cc
  any_flat (x ∷ xs) each h = by_test (any_flat xs each) (q x) refl h
    where
      by_test : (list_any q xs ≡ true → list_any g (flat_map F xs) ≡ true) → (b : Bool) → q x ≡ b → b || list_any q xs ≡ true → list_any g (flat_map F (x ∷ xs)) ≡ true
      by_test later true is h = any_left g (F x) (flat_map F xs) (each x is)
      by_test later false is h = any_right g (F x) (flat_map F xs) (later h)

-- the items from a place on
pub split_at : {X : Type 0} (xs : List X) (i : ℕ) (d : X) → i < length xs → drop i xs ≡ get_or xs i d ∷ drop (i + 1) xs
split_at xs i d within = rw (add-one, drop-cons xs i d within) refl

module _ (flows : List Flow) (a : Arrival) where
  -- the best once the places of one more item are considered
  pub one_more : {X : Type 0} (F : X → List ℕ) (xs : List X) (i : ℕ) (d : X) → i < length xs → (b : Option Found) → all_considered flows a (all_considered flows a b (F (get_or xs i d))) (flat_map F (drop (i + 1) xs)) ≡ all_considered flows a b (flat_map F (drop i xs))
  one_more F xs i d within b =
      sym (all_considered-append flows a b (F (get_or xs i d)) (flat_map F (drop (i + 1) xs)))
      ∙ ap (λ ys. all_considered flows a b (flat_map F ys)) (sym (split_at xs i d within))

  -- the same, where each item has a list of items
  pub many_more : {X : Type 0} (G : ℕ → List ℕ) (F : X → List ℕ) (xs : List X) (i : ℕ) (d : X) → i < length xs → (b : Option Found) → all_considered flows a (all_considered flows a b (flat_map G (F (get_or xs i d)))) (flat_map G (flat_map F (drop (i + 1) xs))) ≡ all_considered flows a b (flat_map G (flat_map F (drop i xs)))
  many_more G F xs i d within b =
      sym (all_considered-append flows a b (flat_map G (F (get_or xs i d))) (flat_map G (flat_map F (drop (i + 1) xs))))
      ∙ ap (λ ps. all_considered flows a b ps) (sym (flat_map-append G (F (get_or xs i d)) (flat_map F (drop (i + 1) xs))))
      ∙ ap (λ ys. all_considered flows a b (flat_map G (flat_map F ys))) (sym (split_at xs i d within))

module _ (index : Index) (flows : List Flow) (a : Arrival) where
  -- the best once one more place is visited
  pub one_more_visited : (ps : List ℕ) (i : ℕ) → i < length ps → (b : Option Found) → all_visited index flows a (visited index flows a b (get_or ps i 0)) (drop (i + 1) ps) ≡ all_visited index flows a b (drop i ps)
  one_more_visited ps i within b = ap (λ ys. all_visited index flows a b ys) (sym (split_at ps i 0 within))

  -- the same of the places of one more item
  pub many_more_visited : {X : Type 0} (F : X → List ℕ) (xs : List X) (i : ℕ) (d : X) → i < length xs → (b : Option Found) → all_visited index flows a (all_visited index flows a b (F (get_or xs i d))) (flat_map F (drop (i + 1) xs)) ≡ all_visited index flows a b (flat_map F (drop i xs))
  many_more_visited F xs i d within b =
      sym (all_visited-append flows a index b (F (get_or xs i d)) (flat_map F (drop (i + 1) xs)))
      ∙ ap (λ ys. all_visited index flows a b (flat_map F ys)) (sym (split_at xs i d within))

-- ---- the classes of a packet

bits_same : (x y : Addr) (len : ℕ) → width_of x ≡ width_of y → number_of x / 2 ^ (width_of x - len) ≡ number_of y / 2 ^ (width_of x - len) → bits_of x len ≡ bits_of y len
bits_same x y len width bits =
    ap (λ w. made w len (number_of x / 2 ^ (width_of x - len))) width
    ∙ ap (λ n. made (width_of y) len n) (bits ∙ ap (λ w. number_of y / 2 ^ (w - len)) width)

-- what a block has in common with an address that it holds
held_bits : (b : PrefixData) (x : Addr) → holds b x ≡ true → bits_of b.base b.len ≡ bits_of x b.len
held_bits b x h =
    let parts = both _ _ h in
    bits_same b.base x b.len (sym (eqb-true _ _ parts.0)) (sym (eqb-true _ _ parts.1))

block_shared : (a : Arrival) (src dst : Option PrefixData) → if_given src (λ b. holds b a.packet.src) ≡ true → if_given dst (λ b. holds b a.packet.dst) ≡ true → block_of src dst ≡ block_at a (shape_of src dst)
block_shared a (Some b) dst h k = ap Source (held_bits b a.packet.src h)
block_shared a None (Some b) h k = ap Destination (held_bits b a.packet.dst k)
block_shared a None None h k = refl

-- a flow that the packet meets is of the table
meeting_table : (a : Arrival) (f : Flow) → meets a f ≡ true → table_place f.table ≡ table_place a.table
meeting_table a f h = eqb-true _ _ (both _ _ h).0

-- a flow that the packet meets is in the packet's class of its shape
meeting_shared : (a : Arrival) (f : Flow) (role : Role) → meets a f ≡ true → class_of role f ≡ class_at a role (shape_of f.fields.src f.fields.dst)
meeting_shared a f role h =
    let parts = both _ _ h in
    let inner = both _ _ parts.1 in
    let ends = both _ _ (both _ _ inner.0).0 in
    let sources = both _ _ ends.0 in
    ap (λ t. classed (scoped t role) (block_of f.fields.src f.fields.dst)) (meeting_table a f h)
    ∙ ap (λ b. classed (scope_of a.table role) b) (block_shared a f.fields.src f.fields.dst sources.1 ends.1)

is_clause-dimension : (id k : ℕ) (cs : List Clause) → list_any (is_clause id k) cs ≡ true → has_dimension k cs ≡ true
is_clause-dimension id k [] h = cc
is_clause-dimension id k (c ∷ cs) h = by_test (is_clause-dimension id k cs) (is_clause id k c) refl h
  where
    by_test : (list_any (is_clause id k) cs ≡ true → has_dimension k cs ≡ true) → (b : Bool) → is_clause id k c ≡ b → b || list_any (is_clause id k) cs ≡ true → has_dimension k (c ∷ cs) ≡ true
    by_test later true is h = or_left (eqb c.k k) (has_dimension k cs) (both _ _ is).1
    by_test later false is h = or_right (eqb c.k k) (has_dimension k cs) (later h)

-- a search starts with a flow that has a first dimension
dimension_starts : (d : Does) → has_dimension 1 (clauses_of d) ≡ true → is_start d ≡ true
dimension_starts does.Next h = refl
dimension_starts (does.Goto t) h = refl
dimension_starts does.Skip h = refl
dimension_starts (does.Port q) h = refl
dimension_starts (does.Tunnel n) h = refl
dimension_starts does.Leave h = refl
dimension_starts (does.Mark m x) h = refl
dimension_starts (does.Remote n x) h = refl
dimension_starts does.Spoof h = refl
dimension_starts does.NoPort h = refl
dimension_starts does.Isolate h = refl
dimension_starts (does.Clauses cs) h = h
dimension_starts (does.Verdict x r) h = refl
dimension_starts does.Output h = refl

module _ (index : Index) (flows : List Flow) (covers : Covers index flows) (a : Arrival) where
  -- a flow that the packet meets is among those in the packet's classes of a role in which it is listed
  found_in_role : (role : Role) (g : ℕ → Bool) (place : ℕ) (f : Flow) → IsListed index.classes index.shapes role place f → meets a f ≡ true → g place ≡ true → list_any g (in_role index a role) ≡ true
  found_in_role role g place f l h on =
      any_flat g (λ s. shape_eq s (shape_of f.fields.src f.fields.dst)) (λ s. listed index (class_at a role s)) (noted index (scope_of a.table role))
      (λ s is.
      subst (λ t. list_any g (listed index (class_at a role t)) ≡ true) (sym (shape_eq-one s (shape_of f.fields.src f.fields.dst) is))
      (subst (λ c. list_any g (listed index c) ≡ true) (meeting_shared a f role h) (among_any g (listed index (class_of role f)) place l.class on)))
      (subst (λ t. has_shape (shape_of f.fields.src f.fields.dst) (noted index (scoped t role)) ≡ true) (meeting_table a f h) l.shape)

  -- what is known of a flow without the field `conj`
  known_free : (place : ℕ) (f : Flow) → slice_get flows place ≡ Some f → f.fields.conj ≡ None → IsFree index.classes index.shapes place f
  known_free place f is none = subst (λ o. IsKnownBy index.classes index.shapes place f o) none (covers.known place f (slice_get_within flows place f is) is).it

  -- what a flow gives
  record IsGiver (priority id k : ℕ) (f : Flow) : Type 0 where
    met : meets a f ≡ true
    free : f.fields.conj ≡ None
    at : f.priority ≡ priority
    has : list_any (is_clause id k) (clauses_of f.does) ≡ true

  gives_facts : (priority id k : ℕ) (f : Flow) → gives a priority id k f ≡ true → IsGiver priority id k f
  gives_facts priority id k f h =
      let parts = both _ _ h in
      let more = both _ _ parts.0 in
      let first = both _ _ more.0 in
      record { met = first.0; free = none_of f.fields.conj more.1; at = eqb-true f.priority priority first.1; has = parts.1 }

  -- such a flow is among those in the packet's classes of its dimension
  giver_in_role : (priority id k : ℕ) → IsDimension k → (g : ℕ → Bool) (place : ℕ) (f : Flow) → slice_get flows place ≡ Some f → IsGiver priority id k f → g place ≡ true → list_any g (in_role index a (Giving priority k)) ≡ true
  giver_in_role priority id k d g place f is giver on =
      let l = (known_free place f is giver.free).giving.at k d.0 d.1 (is_clause-dimension id k (clauses_of f.does) giver.has) in
      subst (λ p. list_any g (in_role index a (Giving p k)) ≡ true) giver.at (found_in_role (Giving f.priority k) g place f l giver.met on)

  module _ (priority id k : ℕ) (d : IsDimension k) where
    from_place : (place : ℕ) (o : Option Flow) → slice_get flows place ≡ o → option_map_or (gives a priority id k) o false ≡ true → list_any (gives a priority id k) flows ≡ true
    from_place place None is h = cc
    from_place place (Some f) is h = at_any (gives a priority id k) flows place f is h

    -- a dimension is given by some flow exactly where it is by one in the packet's classes
    pub given_in_role : list_any (gives_at flows a priority id k) (in_role index a (Giving priority k)) ≡ list_any (gives a priority id k) flows
    given_in_role = same_test _ _
        (λ h. let there = any_at (gives_at flows a priority id k) (in_role index a (Giving priority k)) h in from_place there.item (slice_get flows there.item) refl there.passes)
        (λ h.
        let there = any_at (gives a priority id k) flows h in
        giver_in_role priority id k d (gives_at flows a priority id k) there.place there.item there.is (gives_facts priority id k there.item there.passes)
        (ap (λ o. option_map_or (gives a priority id k) o false) there.is ∙ there.passes))

  -- ---- what is visited

  -- a search starts with such a flow
  starts_there : (place : ℕ) (f : Flow) → slice_get flows place ≡ Some f → meets a f ≡ true → f.fields.conj ≡ None → is_start f.does ≡ true → is_in place (in_role index a Start) ≡ true
  starts_there place f is h none start = found_in_role Start (λ q. eqb q place) place f ((known_free place f is none).start start) h (eq-eqb place place refl)

  -- a flow that is no conj flow and has no clauses is visited
  plain_visited : (place : ℕ) (f : Flow) → slice_get flows place ≡ Some f → meets a f ≡ true → f.fields.conj ≡ None → is_clauses f.does ≡ false → Reaches flows a index (in_role index a Start) place f
  plain_visited place f is h none off = record {
    from = place;
    start = starts_there place f is h none (starts f.does off);
    to = record { flow = f; here = is; alike = refl; among = itself f.does off };
  }
    where
      starts : (d : Does) → is_clauses d ≡ false → is_start d ≡ true
      starts does.Next off = refl
      starts (does.Goto t) off = refl
      starts does.Skip off = refl
      starts (does.Port q) off = refl
      starts (does.Tunnel n) off = refl
      starts does.Leave off = refl
      starts (does.Mark m x) off = refl
      starts (does.Remote n x) off = refl
      starts does.Spoof off = refl
      starts does.NoPort off = refl
      starts does.Isolate off = refl
      starts (does.Clauses cs) off = cc
      starts (does.Verdict x r) off = refl
      starts does.Output off = refl

      alone : is_in place (place ∷ []) ≡ true
      alone = or_left (eqb place place) false (eq-eqb place place refl)

      itself : (d : Does) → is_clauses d ≡ false → is_in place (does_places index flows a place f d) ≡ true
      itself does.Next off = alone
      itself (does.Goto t) off = alone
      itself does.Skip off = alone
      itself (does.Port q) off = alone
      itself (does.Tunnel n) off = alone
      itself does.Leave off = alone
      itself (does.Mark m x) off = alone
      itself (does.Remote n x) off = alone
      itself does.Spoof off = alone
      itself does.NoPort off = alone
      itself does.Isolate off = alone
      itself (does.Clauses cs) off = cc
      itself (does.Verdict x r) off = alone
      itself does.Output off = alone

  -- the conj flows of an id are among those of the ids that clauses share with others
  among_shared : (g : ℕ → Bool) (f : Flow) (id k l : ℕ) (others clauses : List Clause) → list_any (is_clause id k) clauses ≡ true → list_any (is_clause id l) others ≡ true → list_any g (listed index (conj_class f.table f.priority id)) ≡ true → list_any g (shared_places index f k l others clauses) ≡ true
  among_shared g f id k l others clauses h other on = any_flat g (is_clause id k) (λ c. places_if (is_shared k l others c) index f c) clauses each h
    where
      each : (c : Clause) → is_clause id k c ≡ true → list_any g (places_if (is_shared k l others c) index f c) ≡ true
      each c is =
          let parts = both _ _ is in
          let one : c.id ≡ id = eqb-true c.id id parts.0 in
          rw (parts.1, one, other) on

  among_common : (g : ℕ → Bool) (f : Flow) (id : ℕ) (mine theirs : List Clause) → list_any (is_clause id 1) mine ≡ true → list_any (is_clause id 2) theirs ≡ true → list_any g (listed index (conj_class f.table f.priority id)) ≡ true → list_any g (common_places index f mine theirs) ≡ true
  among_common g f id mine theirs h k on = by_test (nat_le (length mine) (length theirs))
    where
      by_test : (b : Bool) → list_any g (if b then shared_places index f 1 2 theirs mine else shared_places index f 2 1 mine theirs) ≡ true
      by_test true = among_shared g f id 1 2 theirs mine h k on
      by_test false = among_shared g f id 2 1 mine theirs k h on

  -- the first two dimensions of a complete id are given
  complete_parts : (priority id : ℕ) → is_complete flows a priority id ≡ true → (list_any (gives a priority id 1) flows ≡ true) × (list_any (gives a priority id 2) flows ≡ true)
  complete_parts priority id complete = both _ _ (both _ _ complete).0

  -- a conj flow whose id is complete is visited
  conj_visited : (place : ℕ) (f : Flow) (id : ℕ) → slice_get flows place ≡ Some f → meets a f ≡ true → f.fields.conj ≡ Some id → is_complete flows a f.priority id ≡ true → Reaches flows a index (in_role index a Start) place f
  conj_visited place f id is h some complete = record {
    from = first.place;
    start = starts_there first.place first.item first.is one.met one.free starts;
    to = record { flow = first.item; here = first.is; alike = one.at; among = from_does first.item.does one.has };
  }
    where
      here : ℕ → Bool
      here q = eqb q place

      first : At (gives a f.priority id 1) flows
      first = any_at (gives a f.priority id 1) flows (complete_parts f.priority id complete).0

      second : At (gives a f.priority id 2) flows
      second = any_at (gives a f.priority id 2) flows (complete_parts f.priority id complete).1

      one : IsGiver f.priority id 1 first.item
      one = gives_facts f.priority id 1 first.item first.passes

      two : IsGiver f.priority id 2 second.item
      two = gives_facts f.priority id 2 second.item second.passes

      starts : is_start first.item.does ≡ true
      starts = dimension_starts first.item.does (is_clause-dimension id 1 (clauses_of first.item.does) one.has)

      class : conj_class f.table f.priority id ≡ conj_class first.item.table first.item.priority id
      class =
          ap (λ t. classed (scoped t (Conj f.priority id)) Any) (meeting_table a f h ∙ sym (meeting_table a first.item one.met))
          ∙ ap (λ p. conj_class first.item.table p id) (sym one.at)

      conjs : is_in place (listed index (conj_class first.item.table first.item.priority id)) ≡ true
      conjs = subst (λ c. is_in place (listed index c) ≡ true) class (subst (λ o. IsKnownBy index.classes index.shapes place f o) some (covers.known place f (slice_get_within flows place f is) is).it)

      common : is_in place (common_places index first.item (clauses_of first.item.does) (clauses_of second.item.does)) ≡ true
      common = among_common here first.item id (clauses_of first.item.does) (clauses_of second.item.does) one.has two.has conjs

      partner : is_in place (partner_places index flows a first.item second.place) ≡ true
      partner = ap (λ o. is_in place (partner_at index a first.item o)) second.is ∙ rw two.met common

      pairs : is_in place (pair_places index flows a first.item (in_role index a (Giving first.item.priority 2))) ≡ true
      pairs = any_flat here (λ q. eqb q second.place) (partner_places index flows a first.item) (in_role index a (Giving first.item.priority 2))
          (λ q same. subst (λ r. is_in place (partner_places index flows a first.item r) ≡ true) (sym (eqb-true q second.place same)) partner)
          (subst (λ p. is_in second.place (in_role index a (Giving p 2)) ≡ true) (sym one.at) (giver_in_role f.priority id 2 (omega arith, omega arith) (λ q. eqb q second.place) second.place second.item second.is two (eq-eqb second.place second.place refl)))

      from_does : (d : Does) → list_any (is_clause id 1) (clauses_of d) ≡ true → is_in place (does_places index flows a first.place first.item d) ≡ true
      from_does (does.Clauses cs) on = rw one.met pairs
      from_does does.Next on = cc
      from_does (does.Goto t) on = cc
      from_does does.Skip on = cc
      from_does (does.Port q) on = cc
      from_does (does.Tunnel n) on = cc
      from_does does.Leave on = cc
      from_does (does.Mark m x) on = cc
      from_does (does.Remote n x) on = cc
      from_does does.Spoof on = cc
      from_does does.NoPort on = cc
      from_does does.Isolate on = cc
      from_does (does.Verdict x r) on = cc
      from_does does.Output on = cc

  -- each flow that can be hit is visited
  pub able_visited : (place : ℕ) (f : Flow) → slice_get flows place ≡ Some f → can_be_hit flows a f ≡ true → Reaches flows a index (in_role index a Start) place f
  able_visited place f is able = by_conj f.fields.conj refl parts.1
    where
      parts : (not (is_clauses f.does) && meets a f ≡ true) × (conj_holds flows a f.priority f.fields.conj ≡ true)
      parts = both _ _ able

      first : (not (is_clauses f.does) ≡ true) × (meets a f ≡ true)
      first = both _ _ parts.0

      by_conj : (o : Option ℕ) → f.fields.conj ≡ o → conj_holds flows a f.priority o ≡ true → Reaches flows a index (in_role index a Start) place f
      by_conj None none h = plain_visited place f is first.1 none (not_true (is_clauses f.does) first.0)
      by_conj (Some id) some h = conj_visited place f id is first.1 some h
