-- Walks lead from each table to a later one, and stops of a way are by their side.
use Rattle.std.proofs.Common.{◌≡◌, ℕ, suc, ◌<◌, ◌≤◌, List, [], ◌∷◌, Bool, true, false, Option, Some, None, cond, arith}
use Rattle.std.proofs.Common.{rules, ◌||◌}
use Rattle.std.proofs.lemmas.Bool.Decides.{nat_tests}
use Rattle.std.specs.List.{AllByRecursion}
use Rattle.std.specs.Ordering.{nat_cmp}
use Rattle.std.specs.declared.cmp.Ordering.TheVariants.{Less}
use Rattle.cl_types.specs.Ascending.{Ascends}
use Rattle.cl_types.specs.declared.question.Packet.{Packet}
use Rattle.flow_entries.specs.declared.flow.Flow.{Flow}
use Rattle.flow_entries.specs.declared.table.Table.{Table}
use Rattle.flow_entries.specs.declared.table.Table.TheVariants.{SpoofGuard}
use Rattle.flow_tables.specs.Lookup.{lookup}
use Rattle.flow_entries.specs.Table.{table_place}
use Rattle.flow_pipeline.specs.Walk.{visits, visit, leads_to, next_table, sets_skip, all_tables, all_visits}

-- the tables stand at rising places, of which the first is no less than n
Rises : ℕ → List Table → Type 0
Rises n [] = Unit {0}
Rises n (t ∷ ts) = (n ≤ table_place t) × Rises (suc (table_place t)) ts

before : (k n : ℕ) → k < n → nat_cmp k n ≡ Less
before k n h = grind (arith, nat_tests)

above : (look : Table → Bool → Option Flow) (k n : ℕ) → k < n → (ts : List Table) (next : Option Table) (skip : Bool) → Rises n ts → AllByRecursion (λ v. nat_cmp k (table_place v.table) ≡ Less) (visits look ts next skip)
unfolding Rises
above look k n lt [] next skip r = tt
above look k n lt (t ∷ ts) next skip r =
    elim (leads_to next t) as (λ b. AllByRecursion (λ v. nat_cmp k (table_place v.table) ≡ Less) (cond b (visit t (look t skip) (λ flow. visits look ts (next_table t flow.does) (skip || sets_skip flow.does))) (visits look ts next skip))) [
      | true ↦ above_hit look k t ts skip (before k (table_place t) (omega (arith, lt, r.0))) (λ (m : Option Table) (s : Bool). above look k (suc (table_place t)) (omega (arith, lt, r.0)) ts m s r.1) (look t skip)
      | false ↦ above look k (suc (table_place t)) (omega (arith, lt, r.0)) ts next skip r.1
    ]
  where
    above_hit : (look : Table → Bool → Option Flow) (k : ℕ) (t : Table) (ts : List Table) (skip : Bool) → nat_cmp k (table_place t) ≡ Less → ((m : Option Table) (s : Bool) → AllByRecursion (λ v. nat_cmp k (table_place v.table) ≡ Less) (visits look ts m s)) → (h : Option Flow) → AllByRecursion (λ v. nat_cmp k (table_place v.table) ≡ Less) (visit t h (λ flow. visits look ts (next_table t flow.does) (skip || sets_skip flow.does)))
    above_hit look k t ts skip here later None = tt
    above_hit look k t ts skip here later (Some flow) = (here, later (next_table t flow.does) (skip || sets_skip flow.does))

rising : (look : Table → Bool → Option Flow) (n : ℕ) (ts : List Table) (next : Option Table) (skip : Bool) → Rises n ts → Ascends (λ v. table_place v.table) nat_cmp (visits look ts next skip)
unfolding Rises
rising look n [] next skip r = tt
rising look n (t ∷ ts) next skip r =
    elim (leads_to next t) as (λ b. Ascends (λ v. table_place v.table) nat_cmp (cond b (visit t (look t skip) (λ flow. visits look ts (next_table t flow.does) (skip || sets_skip flow.does))) (visits look ts next skip))) [
      | true ↦ rising_hit look t ts skip (λ (m : Option Table) (s : Bool). above look (table_place t) (suc (table_place t)) (omega arith) ts m s r.1) (λ (m : Option Table) (s : Bool). rising look (suc (table_place t)) ts m s r.1) (look t skip)
      | false ↦ rising look (suc (table_place t)) ts next skip r.1
    ]
  where
    rising_hit : (look : Table → Bool → Option Flow) (t : Table) (ts : List Table) (skip : Bool) → ((m : Option Table) (s : Bool) → AllByRecursion (λ v. nat_cmp (table_place t) (table_place v.table) ≡ Less) (visits look ts m s)) → ((m : Option Table) (s : Bool) → Ascends (λ v. table_place v.table) nat_cmp (visits look ts m s)) → (h : Option Flow) → Ascends (λ v. table_place v.table) nat_cmp (visit t h (λ flow. visits look ts (next_table t flow.does) (skip || sets_skip flow.does)))
    rising_hit look t ts skip after later None = tt
    rising_hit look t ts skip after later (Some flow) =
        (after (next_table t flow.does) (skip || sets_skip flow.does), later (next_table t flow.does) (skip || sets_skip flow.does))

all_rise : Rises 0 all_tables
unfolding Rises
all_rise = search rules

pub visits-ascend : (flows : List Flow) (known : Bool) (p : Packet) → Ascends (λ v. table_place v.table) nat_cmp (all_visits flows known p)
unfolding all_visits
visits-ascend flows known p = rising (λ t skip. lookup flows t p known skip) 0 all_tables (Some SpoofGuard) false all_rise
