-- The changes from one map to another are those under names in an ascending list that holds each name under which they differ.
use Rattle.std.proofs.Common.{◌≡◌, ℕ, List, [], ◌∷◌, ◌++◌, Bool, true, false, ◌||◌, Option, Some, None, option_map, if◌then◌else◌, cond, filter, map, flat_map, refl, sym, ap, ◌∙◌}
use Rattle.std.specs.declared.cmp.Ordering.{Ordering}
use Rattle.std.specs.declared.cmp.Ordering.TheVariants.{Less, Equal, Greater}
use Rattle.std.specs.Ordering.{is_eq, match_ordering}
use Rattle.cl_types.specs.Ascending.{Ascends, found}
use Rattle.cl_types.specs.AscendingLaws.{ascends_filter, equal_maps, found_filter, none_behind, passed}
use Rattle.cl_types.specs.OrderLaws.{text_order_exact}
use Rattle.cl_types.specs.Text.{text_order, text_order_total}
use Rattle.watch_streams.specs.declared.message.StreamChange.{StreamChange}
use Rattle.watch_streams.specs.declared.message.StreamObject.{StreamObject}
use Rattle.watch_streams.specs.Difference.{all_texts, changed}
use Rattle.watch_streams.specs.MapLaws.{ascends_by_name, first_at, first_is_found, found_by_name}
use Rattle.watch_streams.specs.Names.{AscendByName, at_text, by_name, object_text}
use Rattle.watch_streams.specs.OneOfAll.{all_map}
use Rattle.touched_names.specs.Touched.{DifferencesAreOverTouchedNames, has_text}
use Rattle.touched_names.proofs.Itself.{changed_same}

-- ---- items that give something

abbrev gives : {A : Type 0} → List A → Bool
gives [] = false
gives (x ∷ xs) = true

module _ {T A : Type 0} (f : T → List A) where
  flat_map-giving : (xs : List T) → flat_map f xs ≡ flat_map f (filter (λ x. gives (f x)) xs)
  flat_map-giving [] = refl
  flat_map-giving (x ∷ xs) = by_cases (f x) refl (flat_map-giving xs)
    where
      by_cases : (r : List A) → f x ≡ r → flat_map f xs ≡ flat_map f (filter (λ y. gives (f y)) xs)
          → f x ++ flat_map f xs ≡ flat_map f (cond (gives r) (x ∷ filter (λ y. gives (f y)) xs) (filter (λ y. gives (f y)) xs))
      by_cases [] is rest = ap (λ z. z ++ flat_map f xs) is ∙ rest
      by_cases (y ∷ ys) is rest = ap (λ z. f x ++ z) rest

-- ---- ascending texts

abbrev Up : List (List ℕ) → Type 0
Up texts = Ascends (λ t. t) text_order texts

abbrev at : List ℕ → List ℕ → Ordering
at t u = text_order u t

not_some : (b : Bool) (t : List ℕ) → (if b then Some t else None) ≡ None → b ≡ false
not_some true t e = cc
not_some false t e = refl

-- in an ascending list a text is found where it is one of the list
found_text : (t : List ℕ) (us : List (List ℕ)) → Up us → found (at t) us ≡ (if has_text us t then Some t else None)
found_text t [] up = refl
found_text t (u ∷ us) up = by_order (text_order u t) refl (found_text t us up.1)
  where
    by_order : (r : Ordering) → text_order u t ≡ r → found (at t) us ≡ (if has_text us t then Some t else None)
        → match_ordering r (found (at t) us) (Some u) None ≡ (if is_eq r || has_text us t then Some t else None)
    by_order Less is rest = rest
    by_order Equal is rest = ap Some (text_order_exact u t is)
    by_order Greater is rest =
        let behind : found (at t) us ≡ None = none_behind (λ v. v) text_order_total t u us Greater is (λ q. cc) up.0 in
        let lacking : has_text us t ≡ false = not_some (has_text us t) t (sym rest ∙ behind) in
        sym (ap (λ b. if b then Some t else None) lacking)

-- ---- the texts of a map

-- the texts of things that ascend by them ascend
pub ascends_texts : {T : Type 0} (text : T → List ℕ) (xs : List T) → Ascends text text_order xs → Up (map text xs)
ascends_texts text [] up = tt
ascends_texts text (x ∷ xs) up = (all_map (λ u. text_order (text x) u ≡ Less) text xs up.0, ascends_texts text xs up.1)

found_map : (t : List ℕ) (os : List StreamObject) → found (at t) (map object_text os) ≡ option_map object_text (found (at_text t) os)
found_map t [] = refl
found_map t (o ∷ os) = by_order (text_order (object_text o) t) (found_map t os)
  where
    by_order : (r : Ordering) → found (at t) (map object_text os) ≡ option_map object_text (found (at_text t) os)
        → match_ordering r (found (at t) (map object_text os)) (Some (object_text o)) None ≡ option_map object_text (match_ordering r (found (at_text t) os) (Some o) None)
    by_order Less rest = rest
    by_order Equal rest = refl
    by_order Greater rest = refl

-- where neither of two lists has a name, none has it
abbrev BothNone : Option StreamObject → Option StreamObject → Option StreamObject → Type 0
BothNone None x y = (x ≡ None) × (y ≡ None)
BothNone (Some o) x y = Unit {0}

both_none : (t : List ℕ) (xs ys : List StreamObject) → BothNone (first_at t (xs ++ ys)) (first_at t xs) (first_at t ys)
both_none t [] ys = alone (first_at t ys)
  where
    alone : (y : Option StreamObject) → BothNone y None y
    alone None = (refl, refl)
    alone (Some o) = tt
both_none t (x ∷ xs) ys = by_test (is_eq (text_order (object_text x) t)) (both_none t xs ys)
  where
    by_test : (b : Bool) → BothNone (first_at t (xs ++ ys)) (first_at t xs) (first_at t ys)
        → BothNone (if b then Some x else first_at t (xs ++ ys)) (if b then Some x else first_at t xs) (first_at t ys)
    by_test true rest = tt
    by_test false rest = rest

no_object : (x : Option StreamObject) → option_map object_text x ≡ None → x ≡ None
no_object None e = refl
no_object (Some o) e = cc

none_of_both : (x a b : Option StreamObject) → x ≡ None → BothNone x a b → (a ≡ None) × (b ≡ None)
none_of_both None a b e both = both
none_of_both (Some o) a b e both = cc

-- ---- the changes

module _ (old new : List StreamObject) (old_up : AscendByName old) (new_up : AscendByName new) where
  abbrev under : List ℕ → List StreamChange
  under t = changed (found (at_text t) old) (found (at_text t) new)

  abbrev changes : List ℕ → Bool
  changes t = gives (under t)

  -- an ascending list that holds each text under which something changes
  kept : (us : List (List ℕ)) → Up us → ((t : List ℕ) → has_text us t ≡ false → under t ≡ []) → (t : List ℕ)
      → found (at t) (filter changes us) ≡ (if changes t then Some t else None)
  kept us up others t = found_filter (λ v. v) text_order_total changes t us up ∙ ap (passed changes) (found_text t us up) ∙ by_test (has_text us t) refl
    where
      by_test : (b : Bool) → has_text us t ≡ b → passed changes (if b then Some t else None) ≡ (if changes t then Some t else None)
      by_test true is = refl
      by_test false is = sym (ap (λ r. if gives r then Some t else None) (others t is))

  over_all : (t : List ℕ) → has_text (all_texts old new) t ≡ false → under t ≡ []
  over_all t lacking =
      let none : found (at t) (all_texts old new) ≡ None =
      found_text t (all_texts old new) (ascends_texts object_text (by_name (old ++ new)) (ascends_by_name (old ++ new))) ∙ ap (λ b. if b then Some t else None) lacking in
      let no_name : found (at_text t) (by_name (old ++ new)) ≡ None = no_object (found (at_text t) (by_name (old ++ new))) (sym (found_map t (by_name (old ++ new))) ∙ none) in
      let no_first : first_at t (old ++ new) ≡ None = sym (found_by_name t (old ++ new)) ∙ no_name in
      let neither = none_of_both (first_at t (old ++ new)) (first_at t old) (first_at t new) no_first (both_none t old new) in
      let not_old : found (at_text t) old ≡ None = sym (first_is_found t old old_up) ∙ neither.0 in
      let not_new : found (at_text t) new ≡ None = sym (first_is_found t new new_up) ∙ neither.1 in
      ap (λ x. changed x (found (at_text t) new)) not_old ∙ ap (changed None) not_new

pub differences_are_over : DifferencesAreOverTouchedNames
differences_are_over touched old new up old_up new_up elsewhere =
    flat_map-giving f all ∙ (ap (flat_map f) one_list ∙ sym (flat_map-giving f touched))
  where
    f : List ℕ → List StreamChange
    f t = changed (found (at_text t) old) (found (at_text t) new)

    all : List (List ℕ)
    all = all_texts old new

    all_up : Up all
    all_up = ascends_texts object_text (by_name (old ++ new)) (ascends_by_name (old ++ new))

    over_touched : (t : List ℕ) → has_text touched t ≡ false → f t ≡ []
    over_touched t lacking = ap (λ x. changed x (found (at_text t) new)) (elsewhere t lacking) ∙ changed_same (found (at_text t) new)

    one_list : filter (λ t. gives (f t)) all ≡ filter (λ t. gives (f t)) touched
    one_list =
        equal_maps (λ v. v) text_order_total (filter (λ t. gives (f t)) all) (filter (λ t. gives (f t)) touched)
        (ascends_filter (λ v. v) text_order_total (λ t. gives (f t)) all all_up) (ascends_filter (λ v. v) text_order_total (λ t. gives (f t)) touched up)
        (λ t. kept old new old_up new_up all all_up (over_all old new old_up new_up) t ∙ sym (kept old new old_up new_up touched up over_touched t))
