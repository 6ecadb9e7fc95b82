-- What a search by the index looks at: in which order flows are considered, and what is best so far.
use Rattle.std.specs.Prelude.{◌≡◌, ℕ, Bool, false, ◌&&◌, ◌==◌, nat_le, nat_lt, List, [], ◌∷◌, length, Option, Some, None, if◌then◌else◌}
use Rattle.std.specs.List.{list_any, slice_get, flat_map, AllWithin}
use Rattle.std.specs.Option.{option_map_or, option_map}
use Rattle.std.specs.declared.cmp.Ordering.{Ordering}
use Rattle.std.specs.Ordering.{ordering_then, nat_cmp, is_lt}
use Rattle.std.specs.declared.cmp.Ordering.TheVariants.{Less}
use Rattle.cl_types.specs.First.{earlier}
use Rattle.flow_entries.specs.declared.flow.Clause.{Clause}
use Rattle.flow_entries.specs.declared.flow.Does.{Does}
use Rattle.flow_entries.specs.declared.flow.Does.TheVariants as does
use Rattle.flow_entries.specs.declared.flow.Flow.{Flow}
use Rattle.flow_tables.specs.declared.lookup.Arrival.{Arrival}
use Rattle.flow_tables.specs.declared.lookup.Hit.{Hit}
use Rattle.flow_tables.specs.declared.class.Role.{Role}
use Rattle.flow_tables.specs.declared.class.Role.TheVariants.{Giving}
use Rattle.flow_tables.specs.Class.{scope_of, conj_class, class_at}
use Rattle.flow_tables.specs.Index.{listed, noted, clause_order}
use Rattle.flow_tables.specs.declared.index.Index.{Index}
use Rattle.flow_tables.specs.Lookup.{meets, gives, is_clause, clauses_of, can_be_hit, hit_order}

-- a flow with its place in the listing
pub record Found : Type 0 where
  pub place : ℕ
  pub flow : Flow

abbrev pub found_of : Hit → Found
found_of h = record { place = h.place; flow = h.flow.now }

abbrev pub best_of : Option Hit → Option Found
best_of best = option_map found_of best

-- the order of hits; of flows that are alike in it the one that stands first
abbrev pub found_order : Found → Found → Ordering
found_order a b = ordering_then (hit_order a.flow b.flow) (nat_cmp a.place b.place)

-- ---- what is best so far

abbrev pub considered_flow : List Flow → Arrival → Option Found → ℕ → Option Flow → Option Found
considered_flow flows a best place None = best
considered_flow flows a best place (Some f) =
    if can_be_hit flows a f then Some (earlier found_order (record { place = place; flow = f }) best) else best

-- the better of the best so far and the flow at the place, where that can be hit
abbrev pub considered : List Flow → Arrival → Option Found → ℕ → Option Found
considered flows a best place = considered_flow flows a best place (slice_get flows place)

-- the best once the flows at these places are considered too
abbrev pub all_considered : List Flow → Arrival → Option Found → List ℕ → Option Found
all_considered flows a best [] = best
all_considered flows a best (place ∷ places) = all_considered flows a (considered flows a best place) places

-- ---- which places are considered

-- the places in the packet's classes of a role
abbrev pub in_role : Index → Arrival → Role → List ℕ
in_role index a role = flat_map (λ s. listed index (class_at a role s)) (noted index (scope_of a.table role))

-- the clause has dimension k of an id whose dimension l is among the others
abbrev pub is_shared : ℕ → ℕ → List Clause → Clause → Bool
is_shared k l others c = (c.k == k) && list_any (is_clause c.id l) others

-- the places of the conj flows of the clause's id, where it is shared
abbrev pub places_if : Bool → Index → Flow → Clause → List ℕ
places_if shared index f c = if shared then listed index (conj_class f.table f.priority c.id) else []

-- the places of the conj flows of the ids that clauses share with others
abbrev pub shared_places : Index → Flow → ℕ → ℕ → List Clause → List Clause → List ℕ
shared_places index f k l others clauses = flat_map (λ c. places_if (is_shared k l others c) index f c) clauses

-- the places of the conj flows of the ids whose first dimension is among the one's clauses, and the second
-- among the other's
abbrev pub common_places : Index → Flow → List Clause → List Clause → List ℕ
common_places index f mine theirs =
    if nat_le (length mine) (length theirs) then shared_places index f 1 2 theirs mine else shared_places index f 2 1 mine theirs

abbrev pub partner_at : Index → Arrival → Flow → Option Flow → List ℕ
partner_at index a f None = []
partner_at index a f (Some g) = if meets a g then common_places index f (clauses_of f.does) (clauses_of g.does) else []

abbrev pub partner_places : Index → List Flow → Arrival → Flow → ℕ → List ℕ
partner_places index flows a f place = partner_at index a f (slice_get flows place)

abbrev pub pair_places : Index → List Flow → Arrival → Flow → List ℕ → List ℕ
pair_places index flows a f places = flat_map (partner_places index flows a f) places

-- of a flow of clauses that matches, the conj flows of the ids that it shares with flows of second dimensions;
-- any other flow itself
abbrev pub does_places : Index → List Flow → Arrival → ℕ → Flow → Does → List ℕ
does_places index flows a place f (does.Clauses clauses) =
    if meets a f then pair_places index flows a f (in_role index a (Giving f.priority 2)) else []
does_places index flows a place f _ = place ∷ []

-- the best so far has a greater priority
abbrev pub outranks : Option Found → ℕ → Bool
outranks None priority = false
outranks (Some h) priority = nat_lt priority h.flow.priority

-- the best once what the flow leads to is considered, unless the best so far has a greater priority
abbrev pub visited_flow : Index → List Flow → Arrival → Option Found → ℕ → Option Flow → Option Found
visited_flow index flows a best place None = best
visited_flow index flows a best place (Some f) =
    if outranks best f.priority then best else all_considered flows a best (does_places index flows a place f f.does)

abbrev pub visited : Index → List Flow → Arrival → Option Found → ℕ → Option Found
visited index flows a best place = visited_flow index flows a best place (slice_get flows place)

-- the best once the flows at these places are visited too
abbrev pub all_visited : Index → List Flow → Arrival → Option Found → List ℕ → Option Found
all_visited index flows a best [] = best
all_visited index flows a best (place ∷ places) = all_visited index flows a (visited index flows a best place) places

-- a clause stands at the place, and is before dimension k of the id
abbrev pub is_before : ℕ → ℕ → List Clause → ℕ → Bool
is_before id k clauses at = option_map_or (λ c. is_lt (clause_order c (record { id = id; k = k }))) (slice_get clauses at) false

-- the clause has dimension k of an id whose dimension l stands at the place
abbrev pub is_shared_at : ℕ → ℕ → List Clause → ℕ → Clause → Bool
is_shared_at k l others at c = (c.k == k) && option_map_or (is_clause c.id l) (slice_get others at) false

-- what stands before the place is before dimension k of the id
abbrev pub IsPast : ℕ → ℕ → List Clause → ℕ → Type 0
IsPast id k clauses at = AllWithin (λ c. clause_order c (record { id = id; k = k }) ≡ Less) clauses 0 at

-- the place is the first at which that can stand
pub record IsMet (id k : ℕ) (clauses : List Clause) (at : ℕ) : Type 0 where
  pub past : IsPast id k clauses at
  pub here : (c : Clause) → slice_get clauses at ≡ Some c → is_lt (clause_order c (record { id = id; k = k })) ≡ false

-- the flow at the place gives dimension k of the id
abbrev pub gives_at : List Flow → Arrival → ℕ → ℕ → ℕ → ℕ → Bool
gives_at flows a priority id k place = option_map_or (gives a priority id k) (slice_get flows place) false
