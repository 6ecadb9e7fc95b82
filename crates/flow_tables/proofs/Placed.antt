-- Edits of an ascending list, and of the list of its keys beside it.
use Rattle.std.proofs.Common.{◌≡◌, ℕ, zero, suc, ◌<◌, ◌≤◌, List, [], ◌∷◌, length, map, set, not, Bool, true, false, Result, Ok, Err, OnOk, OnErr, if◌then◌else◌, refl, sym, ap, ◌∙◌, subst, arith}
use Rattle.std.specs.declared.cmp.Ordering.{Ordering}
use Rattle.std.specs.declared.cmp.Ordering.TheVariants.{Less, Equal, Greater}
use Rattle.std.specs.Cmp.{IsTotalOrder}
use Rattle.std.specs.List.{filter, insert, remove, AllByRecursion, AllWithin, HoldsAt}
use Rattle.std.specs.Ordering.{is_eq, ordering_reverse}
use Rattle.std.proofs.lemmas.List.{get_or-map, map-set, length-map}
use Rattle.std.proofs.lemmas.List.Elements.{All-from_recursion}
use Rattle.cl_types.specs.Ascending.{Ascends, IsPlace, IsGap}
use Rattle.cl_types.specs.AscendingLaws.{put_at_place, put_in_gap, ascends_put, all_put}
use Rattle.flow_entries.specs.declared.flow.Flow.{Flow}
use Rattle.flow_tables.specs.declared.place.Place.{Place}
use Rattle.flow_entries.specs.Forward.{GoesForward}
use Rattle.flow_tables.specs.Order.{place_of, place_order, place_order_total, IsTables, IsPlaced, without_place, with_flow}

module _ {T K : Type 0} (key : T → K) where
  pub map-insert : (xs : List T) (i : ℕ) (x : T) → map key (insert xs i x) ≡ insert (map key xs) i (key x)
  map-insert xs zero x = refl
  map-insert [] (suc i) x = refl
  map-insert (y ∷ ys) (suc i) x = ap (λ zs. key y ∷ zs) (map-insert ys i x)

  pub map-remove : (xs : List T) (i : ℕ) → map key (remove xs i) ≡ remove (map key xs) i
  map-remove [] zero = refl
  map-remove [] (suc i) = refl
  map-remove (y ∷ ys) zero = refl
  map-remove (y ∷ ys) (suc i) = ap (λ zs. key y ∷ zs) (map-remove ys i)

  keys_from : (P : K → Type 0) (xs : List T) → AllByRecursion (λ x. P (key x)) xs → AllByRecursion P (map key xs)
  keys_from P [] all = tt
  keys_from P (x ∷ xs) all = (all.0, keys_from P xs all.1)

  -- the keys ascend
  pub ascends_keys : (cmp : K → K → Ordering) (xs : List T) → Ascends key cmp xs → Ascends (λ (k : K). k) cmp (map key xs)
  ascends_keys cmp [] up = tt
  ascends_keys cmp (x ∷ xs) up = (keys_from (λ k. cmp (key x) k ≡ Less) xs up.0, ascends_keys cmp xs up.1)

module _ {T K : Type 0} (key : T → K) (at : K → Ordering) (xs : List T) (i : ℕ) where
  abbrev at_key : T → Ordering
  at_key x = at (key x)

  within_of : (o : Ordering) (low high : ℕ) → high ≤ length xs → AllWithin (λ k. at k ≡ o) (map key xs) low high → AllWithin (λ x. at (key x) ≡ o) xs low high
  within_of o low high fits all j d lo hi = subst (λ k. at k ≡ o) (get_or-map key xs j d (key d) (omega arith)) (all j (key d) lo hi)

  -- where the key stands among the keys, its item stands in the list
  pub place_of_key : IsPlace at (map key xs) i → IsPlace (λ x. at (key x)) xs i
  place_of_key p =
      let inside : i < length xs = omega (arith, p.within, length-map xs key) in
      record {
        within = inside;
        here = λ d. subst (λ k. at k ≡ Equal) (get_or-map key xs i d (key d) inside) (p.here (key d));
        before = within_of Less 0 i (omega arith) p.before;
      }

  pub gap_of_key : IsGap at (map key xs) i → IsGap (λ x. at (key x)) xs i
  gap_of_key p =
      let inside : i ≤ length xs = omega (arith, p.within, length-map xs key) in
      record {
        within = inside;
        before = within_of Less 0 i inside p.before;
        after = within_of Greater i (length xs) (omega arith) (subst (λ n. AllWithin (λ k. at k ≡ Greater) (map key xs) i n) (length-map xs key) p.after);
      }

module _ {T : Type 0} (at : T → Ordering) where
  -- what does not stand at the key
  abbrev pub apart : T → Bool
  apart x = not (is_eq (at x))

  all_apart : (xs : List T) → AllWithin (λ y. at y ≡ Greater) xs 0 (length xs) → filter apart xs ≡ xs
  all_apart [] after = refl
  all_apart (x ∷ xs) after =
      rw (after 0 x (omega arith) (omega arith)) (ap (λ zs. x ∷ zs) (all_apart xs (λ k d lo hi. after (suc k) d (omega arith) (omega arith))))

  -- in a gap there is nothing to leave out
  pub filter_in_gap : (xs : List T) (i : ℕ) → i ≤ length xs → AllWithin (λ y. at y ≡ Less) xs 0 i → AllWithin (λ y. at y ≡ Greater) xs i (length xs) → filter apart xs ≡ xs
  filter_in_gap [] i within before after = refl
  filter_in_gap (x ∷ xs) zero within before after = all_apart (x ∷ xs) after
  filter_in_gap (x ∷ xs) (suc i) within before after =
      rw (before 0 x (omega arith) (omega arith)) (ap (λ zs. x ∷ zs) (filter_in_gap xs i (omega arith) (λ k d lo hi. before (suc k) d (omega arith) (omega arith)) (λ k d lo hi. after (suc k) d (omega arith) (omega arith))))

module _ {T : Type 0} (p : T → Bool) where
  pub all_filter : (P : T → Type 0) (xs : List T) → AllByRecursion P xs → AllByRecursion P (filter p xs)
  all_filter P [] all = tt
  all_filter P (x ∷ xs) all = by_cases (p x) (all_filter P xs all.1)
    where
      by_cases : (b : Bool) → AllByRecursion P (filter p xs) → AllByRecursion P (if b then x ∷ filter p xs else filter p xs)
      by_cases true rest = (all.0, rest)
      by_cases false rest = rest

  pub ascends_filter : {K : Type 0} (key : T → K) (cmp : K → K → Ordering) (xs : List T) → Ascends key cmp xs → Ascends key cmp (filter p xs)
  ascends_filter key cmp [] up = tt
  ascends_filter key cmp (x ∷ xs) up = by_cases (p x) (ascends_filter key cmp xs up.1)
    where
      by_cases : (b : Bool) → Ascends key cmp (filter p xs) → Ascends key cmp (if b then x ∷ filter p xs else filter p xs)
      by_cases true rest = (all_filter (λ y. cmp (key x) (key y) ≡ Less) xs up.0, rest)
      by_cases false rest = rest

module _ {T K : Type 0} (key : T → K) {cmp : K → K → Ordering} (o : IsTotalOrder cmp) (k : K) where
  -- what stands behind an item with the key is greater
  behind : (x : T) (ys : List T) → cmp (key x) k ≡ Equal → AllByRecursion (λ y. cmp (key x) (key y) ≡ Less) ys → AllByRecursion (λ y. cmp (key y) k ≡ Greater) ys
  behind x [] here all = tt
  behind x (y ∷ ys) here all =
      (o.antisymm (key y) k ∙ ap ordering_reverse (sym (o.congr (key x) k (key y) here) ∙ all.0), behind x ys here all.1)

  -- at a place there is one to leave out
  pub filter_at_place : (xs : List T) (i : ℕ) → Ascends key cmp xs → i < length xs → HoldsAt (λ y. cmp (key y) k ≡ Equal) xs i → AllWithin (λ y. cmp (key y) k ≡ Less) xs 0 i → filter (apart (λ y. cmp (key y) k)) xs ≡ remove xs i
  filter_at_place [] i up within here before = absurd (omega arith)
  filter_at_place (x ∷ xs) zero up within here before =
      rw (here x) (all_apart (λ y. cmp (key y) k) xs (λ j d lo hi. All-from_recursion (λ y. cmp (key y) k ≡ Greater) xs (behind x xs (here x) up.0) j d hi))
  filter_at_place (x ∷ xs) (suc i) up within here before =
      rw (before 0 x (omega arith) (omega arith)) (ap (λ zs. x ∷ zs) (filter_at_place xs i up.1 (omega arith) here (λ j d lo hi. before (suc j) d (omega arith) (omega arith))))

-- ---- edits of the flows of tables, with the places beside them

module _ (flows : List Flow) (places : List Place) (ok : IsPlaced flows places) where
  pub places_ascend : Ascends (λ (p : Place). p) place_order places
  places_ascend = subst (Ascends (λ (p : Place). p) place_order) (sym ok.placed) (ascends_keys place_of place_order flows ok.tables.listed)

  pub length_of : length places ≡ length flows
  length_of = ap length ok.placed ∙ length-map flows place_of

  module _ (k : Place) (i : ℕ) where
    at_place : IsPlace (λ p. place_order p k) places i → IsPlace (λ f. place_order (place_of f) k) flows i
    at_place p = place_of_key place_of (λ q. place_order q k) flows i (subst (λ ps. IsPlace (λ q. place_order q k) ps i) ok.placed p)

    in_gap : IsGap (λ p. place_order p k) places i → IsGap (λ f. place_order (place_of f) k) flows i
    in_gap p = gap_of_key place_of (λ q. place_order q k) flows i (subst (λ ps. IsGap (λ q. place_order q k) ps i) ok.placed p)

    pub removed_at : IsPlace (λ p. place_order p k) places i → remove flows i ≡ without_place k flows
    removed_at p =
        let here = at_place p in
        sym (filter_at_place place_of place_order_total k flows i ok.tables.listed here.within here.here here.before)

    pub removed_placed : IsPlace (λ p. place_order p k) places i → IsPlaced (remove flows i) (remove places i)
    removed_placed p = record {
      tables = subst IsTables (sym (removed_at p)) (record {
        listed = ascends_filter (apart (λ f. place_order (place_of f) k)) place_of place_order flows ok.tables.listed;
        forward = all_filter (apart (λ f. place_order (place_of f) k)) GoesForward flows ok.tables.forward;
      });
      placed = ap (λ ps. remove ps i) ok.placed ∙ sym (map-remove place_of flows i);
    }

    pub absent_in : IsGap (λ p. place_order p k) places i → flows ≡ without_place k flows
    absent_in p =
        let here = in_gap p in
        sym (filter_in_gap (λ f. place_order (place_of f) k) flows i here.within here.before here.after)

  module _ (f : Flow) (i : ℕ) (forward : GoesForward f) where
    with_placed : IsTables (with_flow f flows)
    with_placed = record {
      listed = ascends_put place_of place_order_total f flows ok.tables.listed;
      forward = all_put (λ g. place_order (place_of g) (place_of f)) GoesForward f flows forward ok.tables.forward;
    }

    pub written_at : IsPlace (λ p. place_order p (place_of f)) places i → set flows i f ≡ with_flow f flows
    written_at p =
        let here = at_place (place_of f) i p in
        sym (put_at_place (λ g. place_order (place_of g) (place_of f)) f flows i here.within here.here here.before)

    pub written_placed : IsPlace (λ p. place_order p (place_of f)) places i → IsPlaced (set flows i f) (set places i (place_of f))
    written_placed p = record {
      tables = subst IsTables (sym (written_at p)) with_placed;
      placed = ap (λ ps. set ps i (place_of f)) ok.placed ∙ sym (map-set place_of flows i f);
    }

    pub inserted_in : IsGap (λ p. place_order p (place_of f)) places i → insert flows i f ≡ with_flow f flows
    inserted_in p =
        let here = in_gap (place_of f) i p in
        sym (put_in_gap (λ g. place_order (place_of g) (place_of f)) f flows i here.within here.before here.after)

    pub inserted_placed : IsGap (λ p. place_order p (place_of f)) places i → IsPlaced (insert flows i f) (insert places i (place_of f))
    inserted_placed p = record {
      tables = subst IsTables (sym (inserted_in p)) with_placed;
      placed = ap (λ ps. insert ps i (place_of f)) ok.placed ∙ sym (map-insert place_of flows i f);
    }

-- both lists are edited, or neither
pub placed_either : {A E : Type 0} (r : Result A E) {flows flows' new : List Flow} {places places' more : List Place} → IsPlaced flows places → IsPlaced flows' places' → OnOk r ((new ≡ flows') × (more ≡ places')) → OnErr r ((new ≡ flows) × (more ≡ places)) → IsPlaced new more
placed_either (Ok x) old edited done failed = rw (done.0, done.1) edited
placed_either (Err e) old edited done failed = rw (failed.0, failed.1) old
