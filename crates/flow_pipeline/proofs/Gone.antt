-- What is known of a walk after all tables is what its visits say.
use Rattle.std.proofs.Common.{◌≡◌, ◌||◌, List, [], ◌∷◌, ◌++◌, ℕ, ◌+◌, ◌<◌, ◌≤◌, length, take, drop, get_or, Bool, true, false, Option, Some, None, cond, refl, ap, sym, ◌∙◌, append_assoc, drop-cons, add-one}
use Rattle.std.proofs.lemmas.List.{drop_all, take_all, append-nil}
use Rattle.std.proofs.lemmas.List.Sums.{fold_more}
use Rattle.cl_types.specs.declared.question.Packet.{Packet}
use Rattle.flow_tables.specs.Lookup.{lookup}
use Rattle.flow_entries.specs.declared.table.Table.TheVariants.{SpoofGuard}
use Rattle.std.specs.List.{fold, last_or}
use Rattle.std.specs.Option.{option_or, option_map_or}
use Rattle.cl_types.specs.declared.keys.Dir.{Dir}
use Rattle.cl_types.specs.declared.keys.Dir.TheVariants.{Ingress, Egress}
use Rattle.flow_entries.specs.declared.flow.Flow.{Flow}
use Rattle.flow_entries.specs.declared.table.Table.{Table}
use Rattle.flow_pipeline.specs.Walk.{Visited, visits, visit, leads_to, next_table, sets_skip, answer_of_side, first_answer, met_rules, side_said, keeps, kept_by, end_by, end_of, way_by, all_tables, all_visits, walk}
use Rattle.flow_pipeline.specs.Way.{Ending, no_port}
use Rattle.flow_pipeline.specs.Course.{Heard, Course, start, nothing_heard, heard, passed, passed_by, stepped, seen_at, said, concluded, run}

-- what is known after these visits
abbrev pub gone : Course → List Visited → Course
gone c vs = fold (λ c v. passed v c) c vs

or_assoc : {T : Type 0} (a b c : Option T) → option_or (option_or a b) c ≡ option_or a (option_or b c)
or_assoc None b c = refl
or_assoc (Some x) b c = refl

met_assoc : (a b c : Bool) → (a || b) || c ≡ a || (b || c)
met_assoc true b c = refl
met_assoc false b c = refl

-- ---- the tables by their visits

no_visits : (look : Table → Bool → Option Flow) (ts : List Table) (skip : Bool) → visits look ts None skip ≡ []
no_visits look [] skip = refl
no_visits look (t ∷ ts) skip = no_visits look ts skip

hit-visits : (look : Table → Bool → Option Flow) (t : Table) (ts : List Table) (c : Course) → ((d : Course) → concluded (fold (stepped look) d ts) ≡ concluded (gone d (visits look ts d.next d.skip))) → (h : Option Flow) → concluded (fold (stepped look) (passed_by t h c) ts) ≡ concluded (gone c (visit t h (λ flow. visits look ts (next_table t flow.does) (c.skip || sets_skip flow.does))))
hit-visits look t ts c later None =
    later (record c { next = None }) ∙ ap (λ vs. concluded (gone (record c { next = None }) vs)) (no_visits look ts c.skip)
hit-visits look t ts c later (Some flow) = later (passed (record { table = t; flow = flow }) c)

pub stepped-visits : (look : Table → Bool → Option Flow) (ts : List Table) (c : Course) → concluded (fold (stepped look) c ts) ≡ concluded (gone c (visits look ts c.next c.skip))
stepped-visits look [] c = refl
stepped-visits look (t ∷ ts) c =
    elim (leads_to c.next t) as (λ b. concluded (fold (stepped look) (cond b (passed_by t (look t c.skip) c) c) ts) ≡ concluded (gone c (cond b (visit t (look t c.skip) (λ flow. visits look ts (next_table t flow.does) (c.skip || sets_skip flow.does))) (visits look ts c.next c.skip)))) [
      | true ↦ hit-visits look t ts c (λ (d : Course). stepped-visits look ts d) (look t c.skip)
      | false ↦ stepped-visits look ts c
    ]

-- ---- a side

all_heard : Dir → Bool → Heard → List Visited → Heard
all_heard side skip h [] = h
all_heard side skip h (v ∷ vs) = all_heard side (skip || sets_skip v.flow.does) (heard side skip v h) vs

gone-egress : (vs : List Visited) (c : Course) → (gone c vs).egress ≡ all_heard Egress c.skip c.egress vs
unfolding all_heard
gone-egress [] c = refl
gone-egress (v ∷ vs) c = gone-egress vs (passed v c)

gone-ingress : (vs : List Visited) (c : Course) → (gone c vs).ingress ≡ all_heard Ingress c.skip c.ingress vs
unfolding all_heard
gone-ingress [] c = refl
gone-ingress (v ∷ vs) c = gone-ingress vs (passed v c)

all_heard-answer : (side : Dir) (vs : List Visited) (skip : Bool) (h : Heard) → (all_heard side skip h vs).answer ≡ option_or h.answer (first_answer side vs)
unfolding all_heard
all_heard-answer side [] skip h = or_none h.answer
  where
    or_none : {T : Type 0} (a : Option T) → a ≡ option_or a None
    or_none None = refl
    or_none (Some x) = refl
all_heard-answer side (v ∷ vs) skip h =
    all_heard-answer side vs (skip || sets_skip v.flow.does) (heard side skip v h) ∙ or_assoc h.answer (answer_of_side side v) (first_answer side vs)

all_heard-met : (side : Dir) (vs : List Visited) (skip : Bool) (h : Heard) → (all_heard side skip h vs).met ≡ h.met || met_rules side skip vs
unfolding all_heard
all_heard-met side [] skip h = or_false h.met
  where
    or_false : (a : Bool) → a ≡ a || false
    or_false true = refl
    or_false false = refl
all_heard-met side (v ∷ vs) skip h =
    all_heard-met side vs (skip || sets_skip v.flow.does) (heard side skip v h) ∙ met_assoc h.met _ _

all_heard-said : (side : Dir) (vs : List Visited) → said (all_heard side false nothing_heard vs) ≡ side_said side vs
all_heard-said side vs = simp (all_heard-answer, all_heard-met)

-- ---- the end

last_is : {V E : Type 0} (f : V → E) (v : V) (vs : List V) (d e : E) → option_map_or f (last_or (Some v) vs) d ≡ option_map_or f (last_or (Some v) vs) e
last_is f v [] d e = refl
last_is f v (w ∷ ws) d e = last_is f w ws d e

gone-end : (vs : List Visited) (c : Course) → (gone c vs).end ≡ option_map_or (λ v. end_by (option_or (kept_by vs) c.kept) v.table v.flow.does) (last_or None vs) c.end
gone-end [] c = refl
gone-end (v ∷ []) c = refl
gone-end (v ∷ w ∷ ws) c =
    gone-end (w ∷ ws) (passed v c)
    ∙ ap (λ kept. option_map_or (λ u. end_by kept u.table u.flow.does) (last_or (Some w) ws) (passed v c).end) (sym (or_assoc (kept_by (w ∷ ws)) (keeps v.flow.does) c.kept))
    ∙ last_is (λ u. end_by (option_or (kept_by (v ∷ w ∷ ws)) c.kept) u.table u.flow.does) w ws (passed v c).end c.end

kept_none : (kept : Option Ending) → option_or kept None ≡ kept
kept_none None = refl
kept_none (Some e) = refl

gone-end_of : (vs : List Visited) → (gone start vs).end ≡ end_of vs
gone-end_of vs = gone-end vs start ∙ ap (λ kept. option_map_or (λ v. end_by kept v.table v.flow.does) (last_or None vs) no_port) (kept_none (kept_by vs))

-- ---- the way

pub gone-way : (vs : List Visited) → concluded (gone start vs) ≡ way_by vs
gone-way vs = simp (gone-egress, gone-ingress, all_heard-said, gone-end_of)

-- the flow that a packet hits in a table
abbrev pub look_in : List Flow → Bool → Packet → Table → Bool → Option Flow
look_in flows known p t skip = lookup flows t p known skip

pub all_visits-is : (flows : List Flow) (known : Bool) (p : Packet) → visits (look_in flows known p) all_tables start.next start.skip ≡ all_visits flows known p
unfolding all_visits
all_visits-is flows known p = refl

-- after all tables the way is that of the visits
pub run-way : (flows : List Flow) (known : Bool) (p : Packet) → concluded (run (look_in flows known p) all_tables) ≡ walk flows known p
run-way flows known p =
    stepped-visits (look_in flows known p) all_tables start
    ∙ gone-way (visits (look_in flows known p) all_tables start.next start.skip)
    ∙ ap way_by (all_visits-is flows known p)

pub run-more : (flows : List Flow) (known : Bool) (p : Packet) (i : ℕ) (c d : Course) → i < length all_tables → d ≡ stepped (look_in flows known p) c (get_or all_tables i SpoofGuard) → c ≡ run (look_in flows known p) (take i all_tables) → d ≡ run (look_in flows known p) (take (i + 1) all_tables)
run-more flows known p i c d within one so_far =
    one
    ∙ ap (λ before. stepped (look_in flows known p) before (get_or all_tables i SpoofGuard)) so_far
    ∙ sym (fold_more (stepped (look_in flows known p)) start all_tables i SpoofGuard within)

pub run-all : (flows : List Flow) (known : Bool) (p : Packet) (i : ℕ) (c : Course) → length all_tables ≤ i → c ≡ run (look_in flows known p) (take i all_tables) → concluded c ≡ walk flows known p
run-all flows known p i c past so_far =
    ap concluded (so_far ∙ ap (run (look_in flows known p)) (take_all i all_tables past)) ∙ run-way flows known p

-- ---- the visits so far

seen-visits : (look : Table → Bool → Option Flow) (c : Course) (t : Table) (ts : List Table) → visits look (t ∷ ts) c.next c.skip ≡ seen_at look c t ++ visits look ts (stepped look c t).next (stepped look c t).skip
seen-visits look c t ts =
    elim (leads_to c.next t) as (λ b. cond b (visit t (look t c.skip) (λ flow. visits look ts (next_table t flow.does) (c.skip || sets_skip flow.does))) (visits look ts c.next c.skip) ≡ cond b (visit t (look t c.skip) (λ flow. [])) [] ++ visits look ts (cond b (passed_by t (look t c.skip) c) c).next (cond b (passed_by t (look t c.skip) c) c).skip) [
      | true ↦ hit_seen look c t ts (look t c.skip)
      | false ↦ refl
    ]
  where
    hit_seen : (look : Table → Bool → Option Flow) (c : Course) (t : Table) (ts : List Table) (h : Option Flow) → visit t h (λ flow. visits look ts (next_table t flow.does) (c.skip || sets_skip flow.does)) ≡ visit t h (λ flow. []) ++ visits look ts (passed_by t h c).next (passed_by t h c).skip
    hit_seen look c t ts None = sym (no_visits look ts c.skip)
    hit_seen look c t ts (Some flow) = refl

-- the visits so far and those that are left are all
abbrev pub SeenSoFar : List Flow → Bool → Packet → ℕ → Option Table → Bool → List Visited → Type 0
SeenSoFar flows known p i next skip seen =
    seen ++ visits (look_in flows known p) (drop i all_tables) next skip ≡ all_visits flows known p

pub seen-none : (flows : List Flow) (known : Bool) (p : Packet) (c : Course) (seen : List Visited) → c ≡ start → seen ≡ [] → SeenSoFar flows known p 0 c.next c.skip seen
seen-none flows known p c seen begun none =
    ap (λ vs. vs ++ visits (look_in flows known p) all_tables c.next c.skip) none
    ∙ ap (λ c'. visits (look_in flows known p) all_tables c'.next c'.skip) begun
    ∙ all_visits-is flows known p

next_left : (i : ℕ) → i < length all_tables → get_or all_tables i SpoofGuard ∷ drop (i + 1) all_tables ≡ drop i all_tables
next_left i within = rw add-one (sym (drop-cons all_tables i SpoofGuard within))

pub seen-more : (flows : List Flow) (known : Bool) (p : Packet) (i : ℕ) (c d : Course) (seen more : List Visited) → i < length all_tables → d ≡ stepped (look_in flows known p) c (get_or all_tables i SpoofGuard) → more ≡ seen ++ seen_at (look_in flows known p) c (get_or all_tables i SpoofGuard) → SeenSoFar flows known p i c.next c.skip seen → SeenSoFar flows known p (i + 1) d.next d.skip more
seen-more flows known p i c d seen more within one shown so_far =
    let look = look_in flows known p in
    let t = get_or all_tables i SpoofGuard in
    let left = drop (i + 1) all_tables in
    ap (λ vs. vs ++ visits look left d.next d.skip) shown
    ∙ ap (λ c'. (seen ++ seen_at look c t) ++ visits look left c'.next c'.skip) one
    ∙ append_assoc seen (seen_at look c t) _
    ∙ ap (λ vs. seen ++ vs) (sym (seen-visits look c t left))
    ∙ ap (λ ts. seen ++ visits look ts c.next c.skip) (next_left i within)
    ∙ so_far

pub seen-all : (flows : List Flow) (known : Bool) (p : Packet) (i : ℕ) (next : Option Table) (skip : Bool) (seen : List Visited) → length all_tables ≤ i → SeenSoFar flows known p i next skip seen → seen ≡ all_visits flows known p
seen-all flows known p i next skip seen past so_far =
    sym (append-nil seen)
    ∙ ap (λ ts. seen ++ visits (look_in flows known p) ts next skip) (sym (drop_all i all_tables past))
    ∙ so_far
