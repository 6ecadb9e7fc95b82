-- The order of the listing, what tables keep, and what a bundle makes of them.
use Rattle.std.specs.Prelude.{◌≡◌, List, [], ◌∷◌, filter, map, not}
use Rattle.std.specs.declared.cmp.Ordering.{Ordering}
use Rattle.std.specs.List.{AllByRecursion}
use Rattle.std.specs.Ordering.{ordering_then, nat_cmp, is_eq}
use Rattle.std.specs.Cmp.{IsTotalOrder}
use Rattle.std.specs.Cmp.Lexicographic.{slice_cmp}
use Rattle.std.proofs.lemmas.Cmp.{on_total, then_total, nat_cmp_total, nat_list_cmp_total, back_total}
use Rattle.cl_types.specs.Ascending.{Ascends, put}
use Rattle.flow_entries.specs.declared.flow.Bundle.{Bundle}
use Rattle.flow_entries.specs.declared.flow.Flow.{Flow}
use Rattle.flow_tables.specs.declared.place.Place.{Place}
use Rattle.flow_entries.specs.Forward.{GoesForward}
use Rattle.flow_entries.specs.Listing.{match_text}
use Rattle.flow_entries.specs.Table.{table_place}

-- ---- the order of the listing

-- where a flow stands: its table, its priority and its match's text
abbrev pub place_of : Flow → Place
place_of f = record { table = f.table; priority = f.priority; text = match_text f.fields }

-- by table, then priority falling, then by the bytes of the text
abbrev pub place_order : Place → Place → Ordering
place_order a b =
    ordering_then (nat_cmp (table_place a.table) (table_place b.table))
    (ordering_then (nat_cmp b.priority a.priority) (slice_cmp nat_cmp a.text b.text))

pub place_order_total : IsTotalOrder place_order
place_order_total =
    then_total (on_total (λ (p : Place). table_place p.table) nat_cmp_total)
    (then_total (on_total (λ (p : Place). p.priority) (back_total nat_cmp_total)) (on_total (λ (p : Place). p.text) nat_list_cmp_total))

-- ---- what tables keep

-- The flows stand in the listing's order, so no two of them have the same table, priority and match. Each
-- Goto leads to a later table.
pub record IsTables (flows : List Flow) : Type 0 where
  pub listed : Ascends place_of place_order flows
  pub forward : AllByRecursion GoesForward flows

-- the places are those of the flows
pub record IsPlaced (flows : List Flow) (places : List Place) : Type 0 where
  pub tables : IsTables flows
  pub placed : places ≡ map place_of flows

-- ---- bundles

-- the flows without the one at the place
abbrev pub without_place : Place → List Flow → List Flow
without_place place flows = filter (λ f. not (is_eq (place_order (place_of f) place))) flows

-- the flows without those at the places of the removed ones
abbrev pub without : List Flow → List Flow → List Flow
without [] flows = flows
without (f ∷ removed) flows = without removed (without_place (place_of f) flows)

-- the flows with one more at its place, instead of what stood there
abbrev pub with_flow : Flow → List Flow → List Flow
with_flow f flows = put (λ g. place_order (place_of g) (place_of f)) f flows

-- the flows with these at their places
abbrev pub with_flows : List Flow → List Flow → List Flow
with_flows [] flows = flows
with_flows (f ∷ more) flows = with_flows more (with_flow f flows)

-- the old flows without the removed, with the changed in their places and the added put in
unfoldable pub applied : Bundle → List Flow → List Flow
applied b old = with_flows b.added (with_flows b.changed (without b.removed old))
