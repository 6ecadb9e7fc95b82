-- The places of flows by their classes.
use Rattle.std.specs.Prelude.{◌≡◌, ◌<◌, ◌≤◌, ℕ, length, Bool, true, ◌==◌, List, [], Option, Some, None}
use Rattle.std.specs.List.{list_any, slice_get}
use Rattle.std.specs.Option.{option_map_or}
use Rattle.std.specs.declared.hash.FoldHasher.{FoldHasher}
use Rattle.std.specs.declared.hash.BuildHasherDefault.{BuildHasherDefault}
use Rattle.std.specs.declared.alloc.Global.{Global}
use Rattle.std.specs.declared.vec.Vec.{Vec}
use Rattle.smallvec.specs.SmallVec.{SmallVec}
use Rattle.indexmap.specs.IndexMap.{IndexMap, get}
use Rattle.flow_tables.specs.declared.class.Class.{Class}
use Rattle.flow_tables.specs.declared.class.Role.{Role}
use Rattle.flow_tables.specs.declared.class.Role.TheVariants.{Start, Giving}
use Rattle.flow_tables.specs.declared.class.Scope.{Scope}
use Rattle.std.specs.declared.cmp.Ordering.{Ordering}
use Rattle.cl_types.specs.Ascending.{Ascends}
use Rattle.flow_entries.specs.declared.flow.Clause.{Clause}
use Rattle.flow_entries.specs.declared.flow.Does.{Does}
use Rattle.flow_entries.specs.declared.flow.Does.TheVariants as does
use Rattle.flow_entries.specs.declared.flow.Flow.{Flow}
use Rattle.flow_entries.specs.contracts.flow.ClauseOrd.TheImpl.{cmp-value}
use Rattle.flow_tables.specs.Lookup.{clauses_of}
use Rattle.flow_tables.specs.contracts.class.ClassPartialEq.TheImpl as class
use Rattle.flow_tables.specs.contracts.class.ScopePartialEq.TheImpl as scope
use Rattle.flow_tables.specs.declared.class.Shape.{Shape}
use Rattle.flow_tables.specs.declared.index.Index.{Index}
use Rattle.flow_tables.specs.Class.{class_of, conj_class, scope_of, shape_eq, shape_of}

-- ---- what is listed where

abbrev pub Places : Type 0
Places = IndexMap Class (SmallVec ℕ) (BuildHasherDefault FoldHasher)

abbrev pub Shapes : Type 0
Shapes = IndexMap Scope (Vec Shape Global) (BuildHasherDefault FoldHasher)

abbrev pub class_eq : Class → Class → Bool
class_eq = class.eq-value.it

abbrev pub scope_eq : Scope → Scope → Bool
scope_eq = scope.eq-value.it

-- the places under a class
abbrev pub listed_in : Places → Class → List ℕ
listed_in classes c = option_map_or (λ places. places.items) (get class_eq classes c) []

abbrev pub listed : Index → Class → List ℕ
listed index c = listed_in index.classes c

-- the shapes under a scope
abbrev pub noted_in : Shapes → Scope → List Shape
noted_in shapes s = option_map_or (λ noted. noted.items) (get scope_eq shapes s) []

abbrev pub noted : Index → Scope → List Shape
noted index s = noted_in index.shapes s

abbrev pub is_in : ℕ → List ℕ → Bool
is_in place places = list_any (λ p. p == place) places

abbrev pub has_shape : Shape → List Shape → Bool
has_shape shape shapes = list_any (λ s. shape_eq s shape) shapes

-- ---- what is added

-- all that was listed still is
pub record Lists (old new : Places) : Type 0 where
  pub kept : (c : Class) (p : ℕ) → is_in p (listed_in old c) ≡ true → is_in p (listed_in new c) ≡ true

-- the place is under the class, and all that was listed still is
pub record Adds (c : Class) (place : ℕ) (old new : Places) : Type 0 where
  pub here : is_in place (listed_in new c) ≡ true
  pub lists : Lists old new

-- all shapes that were there still are
pub record Has (old new : Shapes) : Type 0 where
  pub kept : (t : Scope) (s : Shape) → has_shape s (noted_in old t) ≡ true → has_shape s (noted_in new t) ≡ true

-- the shape is there, and all that were there still are
pub record Notes (scope : Scope) (shape : Shape) (old new : Shapes) : Type 0 where
  pub here : has_shape shape (noted_in new scope) ≡ true
  pub has : Has old new

-- ---- what is known of a flow

-- the flow's place is under its class in the role, and its shape is noted there
pub record IsListed (classes : Places) (shapes : Shapes) (role : Role) (place : ℕ) (f : Flow) : Type 0 where
  pub class : is_in place (listed_in classes (class_of role f)) ≡ true
  pub shape : has_shape (shape_of f.fields.src f.fields.dst) (noted_in shapes (scope_of f.table role)) ≡ true

-- the flow is listed in the role, and all that was there still is
pub record Enters (role : Role) (place : ℕ) (f : Flow) (old new : Places) (before after : Shapes) : Type 0 where
  pub here : IsListed new after role place f
  pub lists : Lists old new
  pub has : Has before after

-- some id has its dimension k there
abbrev pub has_dimension : ℕ → List Clause → Bool
has_dimension k clauses = list_any (λ c. c.k == k) clauses

-- a search starts with plain flows, and with those that have a first dimension
abbrev pub is_start : Does → Bool
is_start (does.Clauses clauses) = has_dimension 1 clauses
is_start _ = true

abbrev pub IsDimension : ℕ → Type 0
IsDimension k = (1 ≤ k) × (k < 4)

-- the dimensions below n that the flow has are listed
pub record IsListedTo (classes : Places) (shapes : Shapes) (place : ℕ) (f : Flow) (n : ℕ) : Type 0 where
  pub at : (k : ℕ) → 1 ≤ k → k < n → has_dimension k (clauses_of f.does) ≡ true → IsListed classes shapes (Giving f.priority k) place f

-- a flow without the field `conj` is listed where a search starts with it, and in its dimensions
pub record IsFree (classes : Places) (shapes : Shapes) (place : ℕ) (f : Flow) : Type 0 where
  pub start : is_start f.does ≡ true → IsListed classes shapes Start place f
  pub giving : IsListedTo classes shapes place f 4

-- a conj flow's place is under its id
abbrev pub IsKnownBy : Places → Shapes → ℕ → Flow → Option ℕ → Type 0
IsKnownBy classes shapes place f None = IsFree classes shapes place f
IsKnownBy classes shapes place f (Some id) = is_in place (listed_in classes (conj_class f.table f.priority id)) ≡ true

-- what an index knows of a flow
pub record IsKnown (classes : Places) (shapes : Shapes) (place : ℕ) (f : Flow) : Type 0 where
  pub it : IsKnownBy classes shapes place f f.fields.conj

-- the flow is known, and all that was there still is
pub record Learns (place : ℕ) (f : Flow) (old new : Places) (before after : Shapes) : Type 0 where
  pub here : IsKnown new after place f
  pub lists : Lists old new
  pub has : Has before after

abbrev pub clause_order : Clause → Clause → Ordering
clause_order = cmp-value.it

-- the flows before n are known, and their clauses ascend where they are said to
pub record CoversTo (classes : Places) (shapes : Shapes) (in_order : Bool) (flows : List Flow) (n : ℕ) : Type 0 where
  pub known : (place : ℕ) (f : Flow) → place < n → slice_get flows place ≡ Some f → IsKnown classes shapes place f
  pub by_order : (place : ℕ) (f : Flow) → place < n → slice_get flows place ≡ Some f → in_order ≡ true → Ascends (λ c. c) clause_order (clauses_of f.does)

-- the clauses ascend, where they are said to
abbrev pub IsInOrder : Index → List Clause → Type 0
IsInOrder index clauses = index.in_order ≡ true → Ascends (λ c. c) clause_order clauses

abbrev pub Covers : Index → List Flow → Type 0
Covers index flows = CoversTo index.classes index.shapes index.in_order flows (length flows)
