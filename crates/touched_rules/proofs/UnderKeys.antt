-- What differs between two lists that ascend by a key differs under the keys that are touched.
use Rattle.std.proofs.Common.{◌≡◌, List, [], ◌∷◌, ◌++◌, ◌&&◌, Bool, true, false, not, cond, Option, Some, None, if◌then◌else◌, filter, map, refl, sym, ap, ap₂, ◌∙◌}
use base.Stored.{Coded}
use Rattle.std.specs.List.{AllByRecursion}
use Rattle.std.specs.Option.{is_none}
use Rattle.std.specs.declared.cmp.Ordering.{Ordering}
use Rattle.std.specs.declared.cmp.Ordering.TheVariants.{Less, Equal}
use Rattle.std.specs.Cmp.{IsTotalOrder}
use Rattle.std.specs.Ordering.{match_ordering}
use Rattle.cl_types.specs.Ascending.{Ascends, found, sorted_by}
use Rattle.cl_types.specs.AscendingLaws.{first_found, found_at, found_filter, passed}
use Rattle.cl_types.specs.EqualityLaws.{is_same-itself}
use Rattle.cl_types.specs.ListLaws.{all_weaker}
use Rattle.watch_streams.specs.KeyedChanges.{altered, changes_of, is_other, lacking}
use Rattle.watch_streams.specs.OneOfAll.{all_of_both}
use Rattle.touched_rules.specs.Touched.{under}

-- a test keeps what it keeps of those that pass another one, where it fails on all others
filter_within : {T : Type 0} (p f g : T → Bool) (xs : List T) → AllByRecursion (λ x. f x ≡ (p x && g x)) xs → filter f xs ≡ filter g (filter p xs)
filter_within p f g [] all = refl
filter_within {T = T} p f g (x ∷ xs) all = ap (λ b. cond b (x ∷ filter f xs) (filter f xs)) all.0 ∙ by_test (p x) (filter_within p f g xs all.1)
  where
    by_test : (b : Bool) → filter f xs ≡ filter g (filter p xs) → cond (b && g x) (x ∷ filter f xs) (filter f xs) ≡ filter g (cond b (x ∷ filter p xs) (filter p xs))
    by_test true rest = ap (λ (z : List T). cond (g x) (x ∷ z) z) rest
    by_test false rest = rest

module _ {T K : Type 0} (key : T → K) {cmp : K → K → Ordering} (o : IsTotalOrder cmp) where
  abbrev pub at : K → T → Ordering
  at k x = cmp (key x) k

  -- each item is found at its own key
  pub all_found : (xs : List T) → Ascends key cmp xs → AllByRecursion (λ x. found (at (key x)) xs ≡ Some x) xs
  all_found [] up = tt
  all_found (x ∷ xs) up = (
    first_found key o x xs,
    all_of_both (λ z. cmp (key x) (key z) ≡ Less) (λ z. found (at (key z)) xs ≡ Some z) (λ z. found (at (key z)) (x ∷ xs) ≡ Some z)
        (λ z less there. ap (λ r. match_ordering r (found (at (key z)) xs) (Some x) None) less ∙ there) xs up.0 (all_found xs up.1),
  )

  module _ (touched : K → Bool) (tied : (j k : K) → cmp j k ≡ Equal → touched j ≡ touched k) where
    -- what stands at a touched key stands there among the touched ones
    pub found_under : (k : K) (xs : List T) → Ascends key cmp xs → touched k ≡ true → found (at k) (under touched key xs) ≡ found (at k) xs
    found_under k xs up is = found_filter key o (λ x. touched (key x)) k xs up ∙ kept (found (at k) xs) refl
      where
        kept : (r : Option T) → found (at k) xs ≡ r → passed (λ x. touched (key x)) r ≡ r
        kept None e = refl
        kept (Some x) e = ap (λ b. if b then Some x else None) (tied (key x) k (found_at (at k) xs x e) ∙ is)

    module _ (xs ys : List T) (up : Ascends key cmp xs) (vp : Ascends key cmp ys) (same : (k : K) → touched k ≡ false → found (at k) xs ≡ found (at k) ys) where
      abbrev xs1 : List T
      xs1 = under touched key xs

      abbrev ys1 : List T
      ys1 = under touched key ys

      -- a test of what stands at an item's key in the other list, which fails on the item itself
      kept_under : (test : Option T → T → Bool) → ((x : T) → test (Some x) x ≡ false) → filter (λ x. test (found (at (key x)) ys) x) xs ≡ filter (λ x. test (found (at (key x)) ys1) x) xs1
      kept_under test never =
          filter_within (λ x. touched (key x)) (λ x. test (found (at (key x)) ys) x) (λ x. test (found (at (key x)) ys1) x) xs
          (all_weaker (λ x. found (at (key x)) xs ≡ Some x) (λ x. test (found (at (key x)) ys) x ≡ (touched (key x) && test (found (at (key x)) ys1) x)) (λ x here. each x here (touched (key x)) refl) xs (all_found xs up))
        where
          each : (x : T) → found (at (key x)) xs ≡ Some x → (b : Bool) → touched (key x) ≡ b → test (found (at (key x)) ys) x ≡ (b && test (found (at (key x)) ys1) x)
          each x here true is = ap (λ r. test r x) (sym (found_under (key x) ys vp is))
          each x here false is = ap (λ r. test r x) (sym (same (key x) is) ∙ here) ∙ never x

      pub lacking_under : lacking key cmp xs ys ≡ lacking key cmp xs1 ys1
      lacking_under = kept_under (λ r x. is_none r) (λ x. refl)

      pub altered_under : (coded : Coded T) → altered coded key cmp ys xs ≡ altered coded key cmp ys1 xs1
      altered_under coded = kept_under (is_other coded) (λ x. ap not (is_same-itself coded x))

    -- where the same stands under every other key, all changes are changes under the touched keys
    pub changes_under : (coded : Coded T) (ended : T → T) (xs ys : List T) → Ascends key cmp xs → Ascends key cmp ys → ((k : K) → touched k ≡ false → found (at k) xs ≡ found (at k) ys)
        → changes_of coded key cmp ended xs ys ≡ changes_of coded key cmp ended (under touched key xs) (under touched key ys)
    changes_under coded ended xs ys up vp same =
        let back : (k : K) → touched k ≡ false → found (at k) ys ≡ found (at k) xs = λ k is. sym (same k is) in
        ap (sorted_by key cmp)
        (ap₂ ◌++◌ (ap (map ended) (lacking_under xs ys up vp same)) (ap₂ ◌++◌ (lacking_under ys xs vp up back) (altered_under ys xs vp up back coded)))
