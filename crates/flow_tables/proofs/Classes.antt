-- Classes as keys of an index.
use Rattle.std.proofs.Common.{◌≡◌, ℕ, ◌+◌, ◌<◌, ⊎_elim, Bool, true, false, ◌&&◌, List, [], ◌∷◌, ◌++◌, ◌||◌, refl, sym, ap, ◌∙◌, subst, arith, eqb, Option, Some, None}
use Rattle.std.proofs.lemmas.Bool.{eqb-true, cases_lt}
use Rattle.std.proofs.lemmas.List.Folds.{list_any-append}
use borrow.Author.Tests.{eq-eqb}
use Rattle.smallvec.specs.SmallVec.{SmallVec}
use Rattle.indexmap.specs.IndexMap.{IndexMap, Updates, get}
use Rattle.std.specs.List.{slice_get, list_any}
use Rattle.std.specs.Option.{option_map_or}
use Rattle.std.specs.declared.alloc.Global.{Global}
use Rattle.std.specs.declared.hash.FoldHasher.{FoldHasher}
use Rattle.std.specs.declared.hash.BuildHasherDefault.{BuildHasherDefault}
use Rattle.std.specs.declared.vec.Vec.{Vec}
use Rattle.cl_types.specs.Ascending.{Ascends}
use Rattle.flow_tables.specs.declared.class.Bits.{Bits}
use Rattle.flow_tables.specs.declared.class.Block.{Block}
use Rattle.flow_tables.specs.declared.class.Block.TheVariants.{Source, Destination, Any}
use Rattle.flow_tables.specs.declared.class.Class.{Class}
use Rattle.flow_tables.specs.declared.class.Role.{Role}
use Rattle.flow_tables.specs.declared.class.Role.TheVariants.{Start, Giving, Conj}
use Rattle.flow_tables.specs.declared.class.Scope.{Scope}
use Rattle.flow_tables.specs.contracts.class.BitsPartialEq.TheImpl as bits
use Rattle.flow_tables.specs.contracts.class.BlockPartialEq.TheImpl as block
use Rattle.flow_tables.specs.contracts.class.RolePartialEq.TheImpl as role
use Rattle.flow_tables.specs.declared.class.Shape.{Shape}
use Rattle.flow_tables.specs.declared.class.Shape.TheVariants as shape
use Rattle.flow_entries.specs.declared.flow.Flow.{Flow}
use Rattle.flow_tables.specs.Class.{shape_eq, conj_class}
use Rattle.flow_tables.specs.Lookup.{clauses_of}
use Rattle.flow_tables.specs.Index.{Places, Shapes, clause_order, class_eq, scope_eq, listed_in, noted_in, Adds, Lists, Notes, Has, IsListed, IsListedTo, IsFree, IsKnown, IsKnownBy, Learns, CoversTo}

-- ---- keys that are equal are one

both : (p q : Bool) → p && q ≡ true → (p ≡ true) × (q ≡ true)
both true q h = (refl, h)
both false q h = cc

abbrev pub made : ℕ → ℕ → ℕ → Bits
made w l n = record { width = w; len = l; bits = n }

bits_eq-one : (a b : Bits) → bits.eq-value.it a b ≡ true → a ≡ b
bits_eq-one a b h =
    let first = both _ _ h in
    let second = both _ _ first.1 in
    ap (λ w. made w a.len a.bits) (eqb-true a.width b.width first.0)
    ∙ ap (λ l. made b.width l a.bits) (eqb-true a.len b.len second.0)
    ∙ ap (λ n. made b.width b.len n) (eqb-true a.bits b.bits second.1)

block_eq-one : (a b : Block) → block.eq-value.it a b ≡ true → a ≡ b
block_eq-one (Source x) (Source y) h = ap Source (bits_eq-one x y h)
block_eq-one (Source x) (Destination y) h = cc
block_eq-one (Source x) Any h = cc
block_eq-one (Destination x) (Source y) h = cc
block_eq-one (Destination x) (Destination y) h = ap Destination (bits_eq-one x y h)
block_eq-one (Destination x) Any h = cc
block_eq-one Any (Source y) h = cc
block_eq-one Any (Destination y) h = cc
block_eq-one Any Any h = refl

role_eq-one : (a b : Role) → role.eq-value.it a b ≡ true → a ≡ b
role_eq-one Start Start h = refl
role_eq-one Start (Giving p k) h = cc
role_eq-one Start (Conj p i) h = cc
role_eq-one (Giving q l) Start h = cc
role_eq-one (Giving q l) (Giving p k) h =
    let parts = both _ _ h in
    let e1 = eqb-true q p parts.0 in
    let e2 = eqb-true l k parts.1 in
    cc
role_eq-one (Giving q l) (Conj p i) h = cc
role_eq-one (Conj q j) Start h = cc
role_eq-one (Conj q j) (Giving p k) h = cc
role_eq-one (Conj q j) (Conj p i) h =
    let parts = both _ _ h in
    let e1 = eqb-true q p parts.0 in
    let e2 = eqb-true j i parts.1 in
    cc

abbrev pub scoped : ℕ → Role → Scope
scoped t r = record { table = t; role = r }

pub scope_eq-one : (a b : Scope) → scope_eq a b ≡ true → a ≡ b
scope_eq-one a b h =
    let parts = both _ _ h in
    ap (λ t. scoped t a.role) (eqb-true a.table b.table parts.0) ∙ ap (λ r. scoped b.table r) (role_eq-one a.role b.role parts.1)

abbrev pub classed : Scope → Block → Class
classed s b = record { scope = s; block = b }

pub class_eq-one : (a b : Class) → class_eq a b ≡ true → a ≡ b
class_eq-one a b h =
    let parts = both _ _ h in
    ap (λ s. classed s a.block) (scope_eq-one a.scope b.scope parts.0) ∙ ap (λ k. classed b.scope k) (block_eq-one a.block b.block parts.1)

pub shape_eq-one : (s t : Shape) → shape_eq s t ≡ true → s ≡ t
shape_eq-one (shape.Source a) (shape.Source b) h = ap shape.Source (eqb-true a b h)
shape_eq-one (shape.Source a) (shape.Destination b) h = cc
shape_eq-one (shape.Source a) shape.Any h = cc
shape_eq-one (shape.Destination a) (shape.Source b) h = cc
shape_eq-one (shape.Destination a) (shape.Destination b) h = ap shape.Destination (eqb-true a b h)
shape_eq-one (shape.Destination a) shape.Any h = cc
shape_eq-one shape.Any (shape.Source b) h = cc
shape_eq-one shape.Any (shape.Destination b) h = cc
shape_eq-one shape.Any shape.Any h = refl

shape_eq-itself : (s : Shape) → shape_eq s s ≡ true
shape_eq-itself (shape.Source a) = eq-eqb a a refl
shape_eq-itself (shape.Destination a) = eq-eqb a a refl
shape_eq-itself shape.Any = refl

-- ---- one more item under a key

or_left : (p q : Bool) → p ≡ true → p || q ≡ true
or_left true q h = refl
or_left false q h = cc

or_last : (p q : Bool) → q ≡ true → p || (q || false) ≡ true
or_last true q h = refl
or_last false true h = refl
or_last false false h = cc

module _ {K V L : Type 0} (items : L → List V) (eq : K → K → Bool) (one : (a b : K) → eq a b ≡ true → a ≡ b) (test : V → V → Bool) (itself : (v : V) → test v v ≡ true) where
  abbrev has : V → List V → Bool
  has v vs = list_any (λ w. test w v) vs

  abbrev items_of : Option L → List V
  items_of o = option_map_or items o []

  abbrev under : IndexMap K L (BuildHasherDefault FoldHasher) → K → List V
  under map k = items_of (get eq map k)

  module _ (key : K) (v : V) (old mid new : IndexMap K L (BuildHasherDefault FoldHasher)) (vs : L) (more : items vs ≡ under old key ++ (v ∷ [])) (others : (k : K) → eq key k ≡ false → under mid k ≡ under old k) (put : Updates eq mid new key (Some vs)) where
    whole : under new key ≡ under old key ++ (v ∷ [])
    whole = ap items_of put.1 ∙ more

    pub added_here : has v (under new key) ≡ true
    added_here = subst (λ ws. has v ws ≡ true) (sym whole) (list_any-append (λ (w : V). test w v) (under old key) (v ∷ []) ∙ or_last (has v (under old key)) (test v v) (itself v))

    pub added_kept : (k : K) (w : V) → has w (under old k) ≡ true → has w (under new k) ≡ true
    added_kept k w h = by_test (eq key k) refl
      where
        more_has : has w (under old key) ≡ true → has w (under new key) ≡ true
        more_has h = subst (λ ws. has w ws ≡ true) (sym whole) (list_any-append (λ (u : V). test u w) (under old key) (v ∷ []) ∙ or_left (has w (under old key)) (has w (v ∷ [])) h)

        by_test : (b : Bool) → eq key k ≡ b → has w (under new k) ≡ true
        by_test true is =
            let same = one key k is in
            subst (λ j. has w (under new j) ≡ true) same (more_has (subst (λ j. has w (under old j) ≡ true) (sym same) h))
        by_test false is = subst (λ ws. has w ws ≡ true) (sym (ap items_of (put.2 k is) ∙ others k is)) h

-- what a class's places become once one more is put behind them
pub adds_from : (c : Class) (place : ℕ) (old mid new : Places) (places : SmallVec ℕ) → places.items ≡ listed_in old c ++ (place ∷ []) → ((d : Class) → class_eq c d ≡ false → listed_in mid d ≡ listed_in old d) → Updates class_eq mid new c (Some places) → Adds c place old new
adds_from c place old mid new places more others put = record {
  here = added_here (λ (ps : SmallVec ℕ). ps.items) class_eq class_eq-one eqb (λ p. eq-eqb p p refl) c place old mid new places more others put;
  lists = record { kept = added_kept (λ (ps : SmallVec ℕ). ps.items) class_eq class_eq-one eqb (λ p. eq-eqb p p refl) c place old mid new places more others put };
}

-- what a scope's shapes become once one more is put behind them
pub notes_from : (c : Scope) (s : Shape) (old mid new : Shapes) (shapes : Vec Shape Global) → shapes.items ≡ noted_in old c ++ (s ∷ []) → ((d : Scope) → scope_eq c d ≡ false → noted_in mid d ≡ noted_in old d) → Updates scope_eq mid new c (Some shapes) → Notes c s old new
notes_from c s old mid new shapes more others put = record {
  here = added_here (λ (ss : Vec Shape Global). ss.items) scope_eq scope_eq-one shape_eq shape_eq-itself c s old mid new shapes more others put;
  has = record { kept = added_kept (λ (ss : Vec Shape Global). ss.items) scope_eq scope_eq-one shape_eq shape_eq-itself c s old mid new shapes more others put };
}

-- ---- what is listed stays listed

pub lists_same : (classes : Places) → Lists classes classes
lists_same classes = record { kept = λ c p h. h }

pub has_same : (shapes : Shapes) → Has shapes shapes
has_same shapes = record { kept = λ t s h. h }

pub lists_more : (a b c : Places) → Lists a b → Lists b c → Lists a c
lists_more a b c x y = record { kept = λ k p h. y.kept k p (x.kept k p h) }

pub has_more : (a b c : Shapes) → Has a b → Has b c → Has a c
has_more a b c x y = record { kept = λ t s h. y.kept t s (x.kept t s h) }

module _ (old new : Places) (before after : Shapes) (lists : Lists old new) (has : Has before after) (place : ℕ) (f : Flow) where
  pub listed_still : (role : Role) → IsListed old before role place f → IsListed new after role place f
  listed_still role l = record { class = lists.kept _ place l.class; shape = has.kept _ _ l.shape }

  pub listed_to_still : (n : ℕ) → IsListedTo old before place f n → IsListedTo new after place f n
  listed_to_still n l = record { at = λ k low high h. listed_still (Giving f.priority k) (l.at k low high h) }

  free_still : IsFree old before place f → IsFree new after place f
  free_still free = record { start = λ h. listed_still Start (free.start h); giving = listed_to_still 4 free.giving }

  known_still_by : (o : Option ℕ) → IsKnownBy old before place f o → IsKnownBy new after place f o
  known_still_by None free = free_still free
  known_still_by (Some id) h = lists.kept (conj_class f.table f.priority id) place h

  pub known_still : IsKnown old before place f → IsKnown new after place f
  known_still k = record { it = known_still_by f.fields.conj k.it }

-- one more flow is covered once it is known
pub covers_more : (old new : Places) (before after : Shapes) (was is_now : Bool) (flows : List Flow) (i : ℕ) (f : Flow) → slice_get flows i ≡ Some f → CoversTo old before was flows i → (is_now ≡ true → (was ≡ true) × Ascends (λ c. c) clause_order (clauses_of f.does)) → Learns i f old new before after → CoversTo new after is_now flows (i + 1)
covers_more old new before after was is_now flows i f here covers order learns = record { known = knows; by_order = orders }
  where
    knows : (place : ℕ) (g : Flow) → place < i + 1 → slice_get flows place ≡ Some g → IsKnown new after place g
    knows place g lt is = ⊎_elim
        (λ less. known_still old new before after learns.lists learns.has place g (covers.known place g less is))
        (λ more.
        let same : place ≡ i = omega arith in
        let one : f ≡ g = cc in
        subst (λ p. IsKnown new after p g) (sym same) (subst (λ h. IsKnown new after i h) one learns.here))
        (cases_lt place i)

    orders : (place : ℕ) (g : Flow) → place < i + 1 → slice_get flows place ≡ Some g → is_now ≡ true → Ascends (λ c. c) clause_order (clauses_of g.does)
    orders place g lt is on = ⊎_elim
        (λ less. covers.by_order place g less is (order on).0)
        (λ more.
        let same : place ≡ i = omega arith in
        let one : f ≡ g = cc in
        subst (λ h. Ascends (λ c. c) clause_order (clauses_of h.does)) one (order on).1)
        (cases_lt place i)
