-- The best of the flows that are considered is the one that is hit.
use Rattle.std.proofs.Common.{◌≡◌, ℕ, ◌<◌, Bool, true, false, List, [], ◌∷◌, ◌++◌, length, get_or, Option, Some, None, if◌then◌else◌, ◌||◌, refl, sym, ap, ◌∙◌, subst, arith, eqb, option_map}
use Rattle.std.specs.declared.cmp.Ordering.{Ordering}
use Rattle.std.specs.declared.cmp.Ordering.TheVariants.{Less, Equal, Greater}
use Rattle.std.specs.Cmp.{IsTotalOrder}
use Rattle.std.specs.List.{slice_get, filter}
use Rattle.std.specs.Ordering.{is_gt, ordering_then, ordering_reverse, nat_cmp}
use Rattle.std.proofs.lemmas.Bool.{eqb-true, lt-ltb}
use Rattle.std.proofs.lemmas.Cmp.{on_total, then_total, back_total, nat_cmp_total}
use Rattle.std.proofs.lemmas.Option.{slice_get-get_or, slice_get_within}
use Rattle.cl_types.specs.declared.keys.RuleKey.{RuleKey}
use Rattle.cl_types.specs.First.{earlier, first}
use Rattle.cl_types.specs.RuleOrder.{rule_order_total}
use Rattle.flow_entries.specs.declared.flow.Flow.{Flow}
use Rattle.flow_tables.specs.declared.lookup.Arrival.{Arrival}
use Rattle.flow_tables.specs.Index.{is_in}
use Rattle.flow_tables.specs.Lookup.{can_be_hit, hit_order, hit_rank, hit_rule, rules_order, hit_of}
use Rattle.flow_tables.specs.declared.index.Index.{Index}
use Rattle.flow_tables.specs.Search.{Found, found_order, considered, considered_flow, all_considered, does_places, outranks, visited, visited_flow, all_visited}
use Rattle.flow_tables.proofs.Best.{IsBest, best_is_first, none_able}

-- ---- the orders are total

rules_order_total : IsTotalOrder rules_order
rules_order_total = record { antisymm = turned; trans = chained; congr = alike }
  where
    turned : (x y : Option RuleKey) → rules_order x y ≡ ordering_reverse (rules_order y x)
    turned None None = refl
    turned None (Some b) = refl
    turned (Some a) None = refl
    turned (Some a) (Some b) = rule_order_total.antisymm a b

    chained : (x y z : Option RuleKey) → rules_order x y ≡ Less → rules_order y z ≡ Less → rules_order x z ≡ Less
    chained None None z h k = cc
    chained None (Some b) z h k = cc
    chained (Some a) None None h k = cc
    chained (Some a) None (Some c) h k = cc
    chained (Some a) (Some b) None h k = refl
    chained (Some a) (Some b) (Some c) h k = rule_order_total.trans a b c h k

    alike : (x y z : Option RuleKey) → rules_order x y ≡ Equal → rules_order x z ≡ rules_order y z
    alike None None z h = refl
    alike None (Some b) z h = cc
    alike (Some a) None z h = cc
    alike (Some a) (Some b) None h = refl
    alike (Some a) (Some b) (Some c) h = rule_order_total.congr a b c h

pub hit_order_total : IsTotalOrder hit_order
hit_order_total =
    then_total (on_total (λ (f : Flow). f.priority) (back_total nat_cmp_total))
    (then_total (on_total hit_rank nat_cmp_total) (on_total hit_rule rules_order_total))

pub found_order_total : IsTotalOrder found_order
found_order_total =
    then_total (on_total (λ (h : Found). h.flow) hit_order_total) (on_total (λ (h : Found). h.place) nat_cmp_total)

-- ---- what leads

module _ {T : Type 0} {order : T → T → Ordering} (o : IsTotalOrder order) where
  itself : (x : T) → is_gt (order x x) ≡ false
  itself x = by_case (order x x) (o.antisymm x x)
    where
      by_case : (r : Ordering) → r ≡ ordering_reverse r → is_gt r ≡ false
      by_case Less e = cc
      by_case Equal e = refl
      by_case Greater e = cc

  flipped : (x y : T) → is_gt (order x y) ≡ true → is_gt (order y x) ≡ false
  flipped x y h = by_case (order x y) (o.antisymm y x) h
    where
      by_case : (r : Ordering) → order y x ≡ ordering_reverse r → is_gt r ≡ true → is_gt (order y x) ≡ false
      by_case Less e h = cc
      by_case Equal e h = cc
      by_case Greater e h = rw e refl

  chain : (x y z : T) → is_gt (order x y) ≡ false → is_gt (order y z) ≡ false → is_gt (order x z) ≡ false
  chain x y z h k = by_first (order x y) refl h
    where
      by_second : order x y ≡ Less → (r : Ordering) → order y z ≡ r → is_gt r ≡ false → is_gt (order x z) ≡ false
      by_second less Less is h = rw (o.trans x y z less is) refl
      by_second less Equal is h =
          let back : order z y ≡ Equal = o.antisymm z y ∙ ap ordering_reverse is in
          let up : order y x ≡ Greater = o.antisymm y x ∙ ap ordering_reverse less in
          let turned : order x z ≡ Less = o.antisymm x z ∙ ap ordering_reverse (o.congr z y x back ∙ up) in
          rw turned refl
      by_second less Greater is h = cc

      by_first : (r : Ordering) → order x y ≡ r → is_gt r ≡ false → is_gt (order x z) ≡ false
      by_first Less is h = by_second is (order y z) refl k
      by_first Equal is h = rw (o.congr x y z is) k
      by_first Greater is h = cc

-- the best so far is not behind the flow
abbrev pub Leads : Option Found → Found → Type 0
Leads None g = ⊥
Leads (Some h) g = is_gt (found_order h g) ≡ false

leads_more : (x : Found) (best : Option Found) (g : Found) → Leads best g → Leads (Some (earlier found_order x best)) g
leads_more x None g h = absurd h
leads_more x (Some y) g h = by_test (is_gt (found_order x y)) refl
  where
    by_test : (b : Bool) → is_gt (found_order x y) ≡ b → is_gt (found_order (if b then y else x) g) ≡ false
    by_test true is = h
    by_test false is = chain found_order_total x y g is h

leads_new : (x : Found) (best : Option Found) → Leads (Some (earlier found_order x best)) x
leads_new x None = itself found_order_total x
leads_new x (Some y) = by_test (is_gt (found_order x y)) refl
  where
    by_test : (b : Bool) → is_gt (found_order x y) ≡ b → is_gt (found_order (if b then y else x) x) ≡ false
    by_test true is = flipped found_order_total x y is
    by_test false is = itself found_order_total x

unable : (b : Bool) → (b ≡ true → ⊥) → b ≡ false
unable true never = absurd (never refl)
unable false never = refl

none_first : (can : Flow → Bool) (xs : List Flow) → ((j : ℕ) (f : Flow) → slice_get xs j ≡ Some f → can f ≡ false) → first hit_order (filter can xs) ≡ None
none_first can [] off = refl
none_first can (x ∷ xs) off = none_able hit_order_total can x (x ∷ xs) (λ j within. off j _ (slice_get-get_or (x ∷ xs) j x within))

less_if_behind : (r : Ordering) → is_gt (ordering_then r Greater) ≡ false → r ≡ Less
less_if_behind Less h = refl
less_if_behind Equal h = cc
less_if_behind Greater h = cc

not_behind : (r s : Ordering) → is_gt (ordering_then r s) ≡ false → is_gt r ≡ false
not_behind Less s h = refl
not_behind Equal s h = refl
not_behind Greater s h = cc

above : (m n : ℕ) → n < m → nat_cmp m n ≡ Greater
above m n lt =
    let less : nat_cmp n m ≡ Less = rw (lt-ltb n m lt) refl in
    nat_cmp_total.antisymm m n ∙ ap ordering_reverse less

some_first : (can : Flow → Bool) (xs : List Flow) (h : Found) → slice_get xs h.place ≡ Some h.flow → can h.flow ≡ true → ((j : ℕ) (f : Flow) → slice_get xs j ≡ Some f → can f ≡ true → is_gt (found_order h (record { place = j; flow = f })) ≡ false) → first hit_order (filter can xs) ≡ Some h.flow
some_first can xs h is able leads = best_is_first hit_order_total can h.flow xs h.place best ∙ ap Some here
  where
    inside : h.place < length xs
    inside = slice_get_within xs h.place h.flow is

    here : get_or xs h.place h.flow ≡ h.flow
    here = let found = slice_get-get_or xs h.place h.flow inside in cc

    ahead : (j : ℕ) → j < length xs → can (get_or xs j h.flow) ≡ true → is_gt (ordering_then (hit_order (get_or xs h.place h.flow) (get_or xs j h.flow)) (nat_cmp h.place j)) ≡ false
    ahead j within on = subst (λ f. is_gt (ordering_then (hit_order f (get_or xs j h.flow)) (nat_cmp h.place j)) ≡ false) (sym here) (leads j (get_or xs j h.flow) (slice_get-get_or xs j h.flow within) on)

    best : IsBest hit_order_total can h.flow xs h.place
    best = record {
      within = inside;
      able = subst (λ f. can f ≡ true) (sym here) able;
      before = λ j lt on. less_if_behind _ (subst (λ s. is_gt (ordering_then (hit_order (get_or xs h.place h.flow) (get_or xs j h.flow)) s) ≡ false) (above h.place j lt) (ahead j (omega (arith, inside)) on));
      after = λ j gt within on. not_behind _ (nat_cmp h.place j) (ahead j within on);
    }

module _ (flows : List Flow) (a : Arrival) where
  -- the flow stands at its place and can be hit
  pub record IsHit (h : Found) : Type 0 where
    pub is : slice_get flows h.place ≡ Some h.flow
    pub able : can_be_hit flows a h.flow ≡ true

  abbrev pub IfHit : Option Found → Type 0
  IfHit None = Unit {0}
  IfHit (Some h) = IsHit h

  chosen_hit : (x : Found) (best : Option Found) → IsHit x → IfHit best → IsHit (earlier found_order x best)
  chosen_hit x None one rest = one
  chosen_hit x (Some y) one rest = by_test (is_gt (found_order x y))
    where
      by_test : (b : Bool) → IsHit (if b then y else x)
      by_test true = rest
      by_test false = one

  considered_hit : (best : Option Found) (p : ℕ) → IfHit best → IfHit (considered flows a best p)
  considered_hit best p rest = by_flow (slice_get flows p) refl
    where
      by_able : (f : Flow) → slice_get flows p ≡ Some f → (b : Bool) → can_be_hit flows a f ≡ b → IfHit (if b then Some (earlier found_order (record { place = p; flow = f }) best) else best)
      by_able f is true on = chosen_hit (record { place = p; flow = f }) best (record { is = is; able = on }) rest
      by_able f is false off = rest

      by_flow : (o : Option Flow) → slice_get flows p ≡ o → IfHit (considered_flow flows a best p o)
      by_flow None is = rest
      by_flow (Some f) is = by_able f is (can_be_hit flows a f) refl

  considered_keeps : (best : Option Found) (p : ℕ) (g : Found) → Leads best g → Leads (considered flows a best p) g
  considered_keeps best p g h = by_flow (slice_get flows p)
    where
      by_able : (f : Flow) → (b : Bool) → Leads (if b then Some (earlier found_order (record { place = p; flow = f }) best) else best) g
      by_able f true = leads_more (record { place = p; flow = f }) best g h
      by_able f false = h

      by_flow : (o : Option Flow) → Leads (considered_flow flows a best p o) g
      by_flow None = h
      by_flow (Some f) = by_able f (can_be_hit flows a f)

  considered_leads : (best : Option Found) (p : ℕ) (f : Flow) → slice_get flows p ≡ Some f → can_be_hit flows a f ≡ true → Leads (considered flows a best p) (record { place = p; flow = f })
  considered_leads best p f is on = rw (is, on) (leads_new (record { place = p; flow = f }) best)

  pub all_hit : (best : Option Found) (ps : List ℕ) → IfHit best → IfHit (all_considered flows a best ps)
  all_hit best [] rest = rest
  all_hit best (p ∷ ps) rest = all_hit (considered flows a best p) ps (considered_hit best p rest)

  all_keeps : (best : Option Found) (ps : List ℕ) (g : Found) → Leads best g → Leads (all_considered flows a best ps) g
  all_keeps best [] g h = h
  all_keeps best (p ∷ ps) g h = all_keeps (considered flows a best p) ps g (considered_keeps best p g h)

  pub all_leads : (best : Option Found) (ps : List ℕ) (p : ℕ) (f : Flow) → is_in p ps ≡ true → slice_get flows p ≡ Some f → can_be_hit flows a f ≡ true → Leads (all_considered flows a best ps) (record { place = p; flow = f })
  all_leads best [] p f h is on = cc
  all_leads best (q ∷ ps) p f h is on = by_test (all_leads (considered flows a best q) ps p f) (eqb q p) refl h
    where
      by_test : (is_in p ps ≡ true → slice_get flows p ≡ Some f → can_be_hit flows a f ≡ true → Leads (all_considered flows a (considered flows a best q) ps) (record { place = p; flow = f })) → (b : Bool) → eqb q p ≡ b → b || is_in p ps ≡ true → Leads (all_considered flows a (considered flows a best q) ps) (record { place = p; flow = f })
      by_test later true same h =
          let one : q ≡ p = eqb-true q p same in
          all_keeps (considered flows a best q) ps (record { place = p; flow = f })
          (subst (λ r. Leads (considered flows a best r) (record { place = p; flow = f })) (sym one) (considered_leads best p f is on))
      by_test later false other h = later h is on

  pub all_considered-append : (best : Option Found) (ps qs : List ℕ) → all_considered flows a best (ps ++ qs) ≡ all_considered flows a (all_considered flows a best ps) qs
  all_considered-append best [] qs = refl
  all_considered-append best (p ∷ ps) qs = all_considered-append (considered flows a best p) ps qs

  -- what is no worse than each flow that can be hit, and can be hit itself, is the one that is hit
  module _ (best : Option Found) (leads : (p : ℕ) (f : Flow) → slice_get flows p ≡ Some f → can_be_hit flows a f ≡ true → Leads best (record { place = p; flow = f })) where
    none_hit : best ≡ None → hit_of flows a ≡ None
    none_hit e = none_first (can_be_hit flows a) flows (λ p f is. unable (can_be_hit flows a f) (λ on. subst (λ b. Leads b (record { place = p; flow = f })) e (leads p f is on)))

    some_hit : (h : Found) → best ≡ Some h → IsHit h → hit_of flows a ≡ Some h.flow
    some_hit h e hit = some_first (can_be_hit flows a) flows h hit.is hit.able (λ p f is on. subst (λ b. Leads b (record { place = p; flow = f })) e (leads p f is on))

    pub hit_is_best : IfHit best → option_map (λ (h : Found). h.flow) best ≡ hit_of flows a
    hit_is_best hit = by_best best refl hit
      where
        by_best : (b : Option Found) → best ≡ b → IfHit b → option_map (λ (h : Found). h.flow) b ≡ hit_of flows a
        by_best None e hit = sym (none_hit e)
        by_best (Some h) e hit = sym (some_hit h e hit)

  -- ---- what is visited

  module _ (index : Index) where
    -- the best so far leads what it outranks
    outranked : (best : Option Found) (g : Found) → outranks best g.flow.priority ≡ true → Leads best g
    outranked None g h = cc
    outranked (Some b) g h = rw h refl

    visited_hit : (best : Option Found) (p : ℕ) → IfHit best → IfHit (visited index flows a best p)
    visited_hit best p hit = by_flow (slice_get flows p)
      where
        by_rank : (f : Flow) (b : Bool) → IfHit (if b then best else all_considered flows a best (does_places index flows a p f f.does))
        by_rank f true = hit
        by_rank f false = all_hit best (does_places index flows a p f f.does) hit

        by_flow : (o : Option Flow) → IfHit (visited_flow index flows a best p o)
        by_flow None = hit
        by_flow (Some f) = by_rank f (outranks best f.priority)

    visited_keeps : (best : Option Found) (p : ℕ) (g : Found) → Leads best g → Leads (visited index flows a best p) g
    visited_keeps best p g h = by_flow (slice_get flows p)
      where
        by_rank : (f : Flow) (b : Bool) → Leads (if b then best else all_considered flows a best (does_places index flows a p f f.does)) g
        by_rank f true = h
        by_rank f false = all_keeps best (does_places index flows a p f f.does) g h

        by_flow : (o : Option Flow) → Leads (visited_flow index flows a best p o) g
        by_flow None = h
        by_flow (Some f) = by_rank f (outranks best f.priority)

    -- the flow at p leads to what stands at q
    pub record LeadsTo (p : ℕ) (q : ℕ) (g : Flow) : Type 0 where
      pub flow : Flow
      pub here : slice_get flows p ≡ Some flow
      pub alike : flow.priority ≡ g.priority
      pub among : is_in q (does_places index flows a p flow flow.does) ≡ true

    visited_leads : (best : Option Found) (p q : ℕ) (g : Flow) → LeadsTo p q g → slice_get flows q ≡ Some g → can_be_hit flows a g ≡ true → Leads (visited index flows a best p) (record { place = q; flow = g })
    visited_leads best p q g to is on = rw to.here (by_rank (outranks best to.flow.priority) refl)
      where
        by_rank : (b : Bool) → outranks best to.flow.priority ≡ b → Leads (if b then best else all_considered flows a best (does_places index flows a p to.flow to.flow.does)) (record { place = q; flow = g })
        by_rank true over = outranked best (record { place = q; flow = g }) (subst (λ n. outranks best n ≡ true) to.alike over)
        by_rank false under = all_leads best (does_places index flows a p to.flow to.flow.does) q g to.among is on

    pub all_visited_hit : (best : Option Found) (ps : List ℕ) → IfHit best → IfHit (all_visited index flows a best ps)
    all_visited_hit best [] hit = hit
    all_visited_hit best (p ∷ ps) hit = all_visited_hit (visited index flows a best p) ps (visited_hit best p hit)

    all_visited_keeps : (best : Option Found) (ps : List ℕ) (g : Found) → Leads best g → Leads (all_visited index flows a best ps) g
    all_visited_keeps best [] g h = h
    all_visited_keeps best (p ∷ ps) g h = all_visited_keeps (visited index flows a best p) ps g (visited_keeps best p g h)

    pub all_visited_leads : (best : Option Found) (ps : List ℕ) (p q : ℕ) (g : Flow) → is_in p ps ≡ true → LeadsTo p q g → slice_get flows q ≡ Some g → can_be_hit flows a g ≡ true → Leads (all_visited index flows a best ps) (record { place = q; flow = g })
    all_visited_leads best [] p q g h to is on = cc
    all_visited_leads best (r ∷ ps) p q g h to is on = by_test (all_visited_leads (visited index flows a best r) ps p q g) (eqb r p) refl h
      where
        by_test : (is_in p ps ≡ true → LeadsTo p q g → slice_get flows q ≡ Some g → can_be_hit flows a g ≡ true → Leads (all_visited index flows a (visited index flows a best r) ps) (record { place = q; flow = g })) → (b : Bool) → eqb r p ≡ b → b || is_in p ps ≡ true → Leads (all_visited index flows a (visited index flows a best r) ps) (record { place = q; flow = g })
        by_test later true same h =
            let one : r ≡ p = eqb-true r p same in
            all_visited_keeps (visited index flows a best r) ps (record { place = q; flow = g })
            (subst (λ s. Leads (visited index flows a best s) (record { place = q; flow = g })) (sym one) (visited_leads best p q g to is on))
        by_test later false other h = later h to is on

    pub all_visited-append : (best : Option Found) (ps qs : List ℕ) → all_visited index flows a best (ps ++ qs) ≡ all_visited index flows a (all_visited index flows a best ps) qs
    all_visited-append best [] qs = refl
    all_visited-append best (p ∷ ps) qs = all_visited-append (visited index flows a best p) ps qs

    -- where each flow that can be hit is led to from one of the places, the best is the one that is hit
    pub record Reaches (ps : List ℕ) (q : ℕ) (g : Flow) : Type 0 where
      pub from : ℕ
      pub start : is_in from ps ≡ true
      pub to : LeadsTo from q g

    pub visited_is_best : (ps : List ℕ) → ((q : ℕ) (g : Flow) → slice_get flows q ≡ Some g → can_be_hit flows a g ≡ true → Reaches ps q g) → option_map (λ (h : Found). h.flow) (all_visited index flows a None ps) ≡ hit_of flows a
    visited_is_best ps all =
        hit_is_best (all_visited index flows a None ps)
        (λ q g is on. let way = all q g is on in all_visited_leads None ps way.from q g way.start way.to is on)
        (all_visited_hit None ps tt)
