-- What changes on a stream changes under the names that are touched.
use Rattle.std.proofs.Common.{◌≡◌, ℕ, List, [], ◌∷◌, ◌++◌, Bool, true, false, ◌||◌, map, flat_map, refl, sym, ap, ap₂, ◌∙◌}
use Rattle.std.specs.List.{AllByRecursion}
use Rattle.std.specs.declared.cmp.Ordering.TheVariants.{Equal}
use Rattle.std.specs.Ordering.{is_eq}
use Rattle.std.proofs.lemmas.List.Folds.{list_any-append}
use Rattle.cl_types.specs.declared.stream.Stream.{Stream}
use Rattle.cl_types.specs.Ascending.{found}
use Rattle.cl_types.specs.AscendingLaws.{all_sorted, ascends_sorted, list_any-put}
use Rattle.cl_types.specs.ListLaws.{all_each, all_weaker}
use Rattle.cl_types.specs.OrderLaws.{text_order_exact}
use Rattle.cl_types.specs.Text.{text_order, text_order_total}
use Rattle.watch_streams.specs.declared.message.StreamChange.{StreamChange}
use Rattle.watch_streams.specs.declared.message.StreamName.{StreamName}
use Rattle.watch_streams.specs.Difference.{changed}
use Rattle.watch_streams.specs.Laws.{ProjectionsAreMaps}
use Rattle.watch_streams.specs.Names.{at_text, name_text}
use Rattle.watch_streams.specs.OneOfAll.{list_any-map}
use Rattle.watch_streams.specs.Projection.{projection}
use Rattle.touched_names.specs.Elsewhere.{NothingIsTouchedAtFirst, TouchedNamesJoin, TouchedNamesTellAll, is_named, names_by_text}
use Rattle.touched_names.specs.Standing.{IsName, NamesStandAlone, standing}
use Rattle.touched_names.specs.Touched.{DifferencesAreOverTouchedNames}
use Rattle.touched_names.proofs.Over.{ascends_texts}

pub neither : (a b : Bool) → (a || b) ≡ false → (a ≡ false) × (b ≡ false)
neither true b e = cc
neither false b e = (refl, e)

pub flat_map-same : {A B : Type 0} (f g : A → List B) (xs : List A) → AllByRecursion (λ x. f x ≡ g x) xs → flat_map f xs ≡ flat_map g xs
flat_map-same f g [] all = refl
flat_map-same f g (x ∷ xs) all = ap₂ ◌++◌ all.0 (flat_map-same f g xs all.1)

flat_map-map : {A B C : Type 0} (f : B → List C) (g : A → B) (xs : List A) → flat_map f (map g xs) ≡ flat_map (λ x. f (g x)) xs
flat_map-map f g [] = refl
flat_map-map f g (x ∷ xs) = ap (λ z. f (g x) ++ z) (flat_map-map f g xs)

-- ---- what changes

-- names in order are the names that they were
is_named-by_text : (names : List StreamName) (t : List ℕ) → is_named (names_by_text names) t ≡ is_named names t
is_named-by_text [] t = refl
is_named-by_text (n ∷ ns) t =
    list_any-put (λ m. text_order (name_text m) (name_text n)) (λ m. is_eq (text_order (name_text m) t)) n (names_by_text ns) (all_each (λ m. text_order (name_text m) (name_text n) ≡ Equal → is_eq (text_order (name_text m) t) ≡ is_eq (text_order (name_text n) t)) one (names_by_text ns))
    ∙ ap (λ b. is_eq (text_order (name_text n) t) || b) (is_named-by_text ns t)
  where
    one : (m : StreamName) → text_order (name_text m) (name_text n) ≡ Equal → is_eq (text_order (name_text m) t) ≡ is_eq (text_order (name_text n) t)
    one m e = ap (λ z. is_eq (text_order z t)) (text_order_exact (name_text m) (name_text n) e)

pub touched_tell : DifferencesAreOverTouchedNames → NamesStandAlone → ProjectionsAreMaps → TouchedNamesTellAll
touched_tell differences stand maps touched c d s node is_c is_d forms elsewhere =
    differences (map name_text names) (projection c s node) (projection d s node)
    (ascends_texts name_text names (ascends_sorted name_text text_order_total touched)) (maps c s node is_c).ascends (maps d s node is_d).ascends
    (λ t lacking. elsewhere.same s node t (sym (is_named-by_text touched t) ∙ (sym (list_any-map (λ u. is_eq (text_order u t)) name_text names) ∙ lacking)))
    ∙ (flat_map-map under name_text names ∙ flat_map-same (λ n. under (name_text n)) (λ n. changed (standing c s node n) (standing d s node n)) names each)
  where
    names : List StreamName
    names = names_by_text touched

    under : List ℕ → List StreamChange
    under t = changed (found (at_text t) (projection c s node)) (found (at_text t) (projection d s node))

    each : AllByRecursion (λ n. under (name_text n) ≡ changed (standing c s node n) (standing d s node n)) names
    each =
        all_weaker IsName (λ n. under (name_text n) ≡ changed (standing c s node n) (standing d s node n))
        (λ n form. ap₂ changed (stand c s node n is_c form) (stand d s node n is_d form)) names (all_sorted name_text text_order IsName touched forms)

-- ---- one change and another

pub nothing_at_first : NothingIsTouchedAtFirst
nothing_at_first c = record { same = λ s node t lacking. refl }

pub names_join : TouchedNamesJoin
names_join xs ys c d e first next = record { same = λ s node t lacking. joined s node t (neither (is_named xs t) (is_named ys t) (sym (list_any-append (λ n. is_eq (text_order (name_text n) t)) xs ys) ∙ lacking)) }
  where
    joined : (s : Stream) (node t : List ℕ) → (is_named xs t ≡ false) × (is_named ys t ≡ false) → found (at_text t) (projection c s node) ≡ found (at_text t) (projection e s node)
    joined s node t lacking = first.same s node t lacking.0 ∙ next.same s node t lacking.1
