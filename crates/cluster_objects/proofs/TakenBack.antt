-- An edit of an ascending list is taken back, or makes no difference.
use Rattle.std.proofs.Common.{◌≡◌, List, [], ◌∷◌, Bool, true, false, not, Option, Some, None, if◌then◌else◌, refl, sym, ap, ◌∙◌}
use Rattle.std.specs.List.{AllByRecursion}
use Rattle.std.specs.Option.{is_some, option_map_or}
use Rattle.std.specs.Cmp.{IsTotalOrder}
use Rattle.std.specs.FinMap.{IsAntisymmetric}
use Rattle.std.specs.declared.cmp.Ordering.{Ordering}
use Rattle.std.specs.declared.cmp.Ordering.TheVariants.{Less, Equal, Greater}
use Rattle.std.specs.Ordering.{is_eq, match_ordering, ordering_reverse}
use Rattle.std.proofs.lemmas.Cmp.{tied_itself}
use base.Stored.{Coded}
use Rattle.cl_types.specs.Ascending.{Ascends, found, put, without}
use Rattle.cl_types.specs.AscendingLaws.{found_at}
use Rattle.cl_types.specs.Equality.{is_same}
use Rattle.cl_types.specs.EqualityLaws.{is_same-one}
use Rattle.cl_types.specs.ListLaws.{all_weaker, filter_all}
use Rattle.cluster_objects.specs.declared.change.Applied.TheVariants.{Unchanged}
use Rattle.cluster_objects.specs.Apply.{difference, is_there}
use Rattle.cluster_objects.proofs.Tiers.{some_one}
use Rattle.cluster_objects.proofs.TiersKept.{put_same}

module _ {T K : Type 0} (key : T → K) {cmp : K → K → Ordering} (o : IsTotalOrder cmp) where
  abbrev at : K → T → Ordering
  at k x = cmp (key x) k

  module _ (k : K) where
    -- behind an item that isn't before the key all are past it
    past : (y z : T) (r : Ordering) → at k y ≡ r → (r ≡ Less → ⊥) → cmp (key y) (key z) ≡ Less → at k z ≡ Greater
    past y z Less is not less = absurd (not refl)
    past y z Equal is not less = o.antisymm (key z) k ∙ ap ordering_reverse (sym (o.congr (key y) k (key z) is) ∙ less)
    past y z Greater is not less =
        o.antisymm (key z) k ∙ ap ordering_reverse (o.trans k (key y) (key z) (o.antisymm k (key y) ∙ ap ordering_reverse is) less)

    all_past : (y : T) (r : Ordering) → at k y ≡ r → (r ≡ Less → ⊥) → (zs : List T) → AllByRecursion (λ z. cmp (key y) (key z) ≡ Less) zs → AllByRecursion (λ z. at k z ≡ Greater) zs
    all_past y r is not zs less = all_weaker (λ z. cmp (key y) (key z) ≡ Less) (λ z. at k z ≡ Greater) (λ z e. past y z r is not e) zs less

    past_stays : (zs : List T) → AllByRecursion (λ z. at k z ≡ Greater) zs → without (at k) zs ≡ zs
    past_stays zs all = filter_all (λ z. not (is_eq (at k z))) zs (all_weaker (λ z. at k z ≡ Greater) (λ z. not (is_eq (at k z)) ≡ true) (λ z e. ap (λ r. not (is_eq r)) e) zs all)

    -- where nothing stands at the key a removal changes nothing
    pub without_none : (xs : List T) → Ascends key cmp xs → found (at k) xs ≡ None → without (at k) xs ≡ xs
    without_none [] up none = refl
    without_none (y ∷ ys) up none = by_place (at k y) refl none (without_none ys up.1)
      where
        by_place : (r : Ordering) → at k y ≡ r → match_ordering r (found (at k) ys) (Some y) None ≡ None → (found (at k) ys ≡ None → without (at k) ys ≡ ys)
            → (if not (is_eq r) then y ∷ without (at k) ys else without (at k) ys) ≡ y ∷ ys
        by_place Less is f rest = ap (λ zs. y ∷ zs) (rest f)
        by_place Equal is f rest = cc
        by_place Greater is f rest = ap (λ zs. y ∷ zs) (past_stays ys (all_past y Greater is (λ e. cc) ys up.0))

    -- what was put where nothing stood is removed
    pub without_put : (x : T) → at k x ≡ Equal → (xs : List T) → Ascends key cmp xs → found (at k) xs ≡ None → without (at k) (put (at k) x xs) ≡ xs
    without_put x tied [] up none = ap (λ r. if not (is_eq r) then x ∷ [] else []) tied
    without_put x tied (y ∷ ys) up none = by_place (at k y) refl none (without_put x tied ys up.1)
      where
        by_place : (r : Ordering) → at k y ≡ r → match_ordering r (found (at k) ys) (Some y) None ≡ None → (found (at k) ys ≡ None → without (at k) (put (at k) x ys) ≡ ys)
            → without (at k) (match_ordering r (y ∷ put (at k) x ys) (x ∷ ys) (x ∷ y ∷ ys)) ≡ y ∷ ys
        by_place Less is f rest =
            ap (λ r. if not (is_eq r) then y ∷ without (at k) (put (at k) x ys) else without (at k) (put (at k) x ys)) is ∙ ap (λ zs. y ∷ zs) (rest f)
        by_place Equal is f rest = cc
        by_place Greater is f rest =
            ap (λ r. if not (is_eq r) then x ∷ without (at k) (y ∷ ys) else without (at k) (y ∷ ys)) tied ∙ without_none (y ∷ ys) up none

    -- what stood there before a put stands there again
    pub put_back : (x y : T) → at k x ≡ Equal → (xs : List T) → found (at k) xs ≡ Some y → put (at k) y (put (at k) x xs) ≡ xs
    put_back x y tied [] e = cc
    put_back x y tied (z ∷ zs) e = by_place (at k z) refl e (put_back x y tied zs)
      where
        by_place : (r : Ordering) → at k z ≡ r → match_ordering r (found (at k) zs) (Some z) None ≡ Some y → (found (at k) zs ≡ Some y → put (at k) y (put (at k) x zs) ≡ zs)
            → put (at k) y (match_ordering r (z ∷ put (at k) x zs) (x ∷ zs) (x ∷ z ∷ zs)) ≡ z ∷ zs
        by_place Less is f rest =
            ap (λ r. match_ordering r (z ∷ put (at k) y (put (at k) x zs)) (y ∷ put (at k) x zs) (y ∷ z ∷ put (at k) x zs)) is ∙ ap (λ ws. z ∷ ws) (rest f)
        by_place Equal is f rest = ap (λ r. match_ordering r (x ∷ put (at k) y zs) (y ∷ zs) (y ∷ x ∷ zs)) tied ∙ ap (λ w. w ∷ zs) (sym (some_one f))
        by_place Greater is f rest = cc

    put_first : (y : T) (zs : List T) → AllByRecursion (λ z. at k z ≡ Greater) zs → put (at k) y zs ≡ y ∷ zs
    put_first y [] all = refl
    put_first y (z ∷ zs) all = ap (λ r. match_ordering r (z ∷ put (at k) y zs) (y ∷ zs) (y ∷ z ∷ zs)) all.0

    -- what was removed stands there again
    pub put_without : (y : T) (xs : List T) → Ascends key cmp xs → found (at k) xs ≡ Some y → put (at k) y (without (at k) xs) ≡ xs
    put_without y [] up e = cc
    put_without y (z ∷ zs) up e = by_place (at k z) refl e (put_without y zs up.1)
      where
        by_place : (r : Ordering) → at k z ≡ r → match_ordering r (found (at k) zs) (Some z) None ≡ Some y → (found (at k) zs ≡ Some y → put (at k) y (without (at k) zs) ≡ zs)
            → put (at k) y (if not (is_eq r) then z ∷ without (at k) zs else without (at k) zs) ≡ z ∷ zs
        by_place Less is f rest =
            ap (λ r. match_ordering r (z ∷ put (at k) y (without (at k) zs)) (y ∷ without (at k) zs) (y ∷ z ∷ without (at k) zs)) is ∙ ap (λ ws. z ∷ ws) (rest f)
        by_place Equal is f rest =
            let all = all_past z Equal is (λ e. cc) zs up.0 in
            ap (λ ws. put (at k) y ws) (past_stays zs all) ∙ put_first y zs all ∙ ap (λ w. w ∷ zs) (sym (some_one f))
        by_place Greater is f rest = cc

    -- a removal that makes no difference changes nothing
    pub remove_unchanged : (xs : List T) → Ascends key cmp xs → difference (is_some (found (at k) xs)) ≡ Unchanged → without (at k) xs ≡ xs
    remove_unchanged xs up same = by_found (found (at k) xs) refl same
      where
        by_found : (p : Option T) → found (at k) xs ≡ p → difference (is_some p) ≡ Unchanged → without (at k) xs ≡ xs
        by_found None e f = without_none xs up e
        by_found (Some y) e f = cc

  module _ (exact : IsAntisymmetric cmp) {C : Type 0} (with : List T → C) where
    -- a put is taken back
    pub put_undone : (x : T) (xs : List T) → Ascends key cmp xs
        → option_map_or (λ y. with (put (at (key y)) y (put (at (key x)) x xs))) (found (at (key x)) xs) (with (without (at (key x)) (put (at (key x)) x xs))) ≡ with xs
    put_undone x xs up = by_found (found (at (key x)) xs) refl
      where
        by_found : (p : Option T) → found (at (key x)) xs ≡ p
            → option_map_or (λ y. with (put (at (key y)) y (put (at (key x)) x xs))) p (with (without (at (key x)) (put (at (key x)) x xs))) ≡ with xs
        by_found None e = ap with (without_put (key x) x (tied_itself o (key x)) xs up e)
        by_found (Some y) e =
            let one : key y ≡ key x = exact (key y) (key x) (found_at (at (key x)) xs y e) in
            ap (λ k. with (put (at k) y (put (at (key x)) x xs))) one ∙ ap with (put_back (key x) x y (tied_itself o (key x)) xs e)

    -- a removal is taken back
    pub remove_undone : (k : K) (xs : List T) → Ascends key cmp xs
        → option_map_or (λ y. with (put (at (key y)) y (without (at k) xs))) (found (at k) xs) (with (without (at k) (without (at k) xs))) ≡ with xs
    remove_undone k xs up = by_found (found (at k) xs) refl
      where
        by_found : (p : Option T) → found (at k) xs ≡ p → option_map_or (λ y. with (put (at (key y)) y (without (at k) xs))) p (with (without (at k) (without (at k) xs))) ≡ with xs
        by_found None e = let gone = without_none k xs up e in ap with (ap (λ ws. without (at k) ws) gone ∙ gone)
        by_found (Some y) e =
            let one : key y ≡ k = exact (key y) k (found_at (at k) xs y e) in
            ap (λ j. with (put (at j) y (without (at k) xs))) one ∙ ap with (put_without k y xs up e)

-- a put that makes no difference changes nothing
pub put_unchanged : {T : Type 0} (coded : Coded T) (at : T → Ordering) (x : T) (xs : List T) → difference (not (is_there (is_same coded) x (found at xs))) ≡ Unchanged → put at x xs ≡ xs
put_unchanged {T = T} coded at x xs same = by_found (found at xs) refl same
  where
    by_found : (p : Option T) → found at xs ≡ p → difference (not (is_there (is_same coded) x p)) ≡ Unchanged → put at x xs ≡ xs
    by_found None e f = cc
    by_found (Some y) e f = by_test (is_same coded y x) refl f
      where
        by_test : (b : Bool) → is_same coded y x ≡ b → difference (not b) ≡ Unchanged → put at x xs ≡ xs
        by_test true is g = put_same at x xs (e ∙ ap (λ z. Some z) (is_same-one coded y x is))
        by_test false is g = cc
