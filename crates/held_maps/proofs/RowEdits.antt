-- Edits of objects with their texts beside them: at the place of a text, or in its gap.
use Rattle.std.proofs.Common.{Bool, true, if◌then◌else◌, ◌≡◌, ℕ, List, [], ◌∷◌, not, set, map, refl, sym, ap, subst, ◌∙◌}
use Rattle.std.specs.List.{insert, remove}
use Rattle.std.specs.declared.cmp.Ordering.{Ordering}
use Rattle.std.specs.declared.cmp.Ordering.TheVariants.{Less, Equal, Greater}
use Rattle.std.specs.Ordering.{is_eq, match_ordering}
use Rattle.std.proofs.lemmas.Cmp.{nat_list_cmp_total}
use Rattle.cl_types.specs.Ascending.{Ascends, IsPlace, IsGap, put, without}
use Rattle.cl_types.specs.AscendingLaws.{put_at_place, put_in_gap, without_at_place, without_in_gap, ascends_put, ascends_without}
use Rattle.cl_types.specs.Text.{text_order}
use Rattle.held_maps.specs.Shelf.{AreTitles}
use Rattle.watch_streams.specs.OneOfAll.{filter-map}
use Rattle.held_maps.proofs.Shelves.{placed, gap, titles_ascend}

module _ {T : Type 0} (title : T → List ℕ) where
  abbrev pub at : List ℕ → T → Ordering
  at t x = text_order (title x) t

  put_titles : (x : T) (xs : List T) → map title (put (at (title x)) x xs) ≡ put (λ t. text_order t (title x)) (title x) (map title xs)
  put_titles x [] = refl
  put_titles x (y ∷ ys) = by_order (text_order (title y) (title x)) (put_titles x ys)
    where
      by_order : (r : Ordering) → map title (put (at (title x)) x ys) ≡ put (λ t. text_order t (title x)) (title x) (map title ys)
          → map title (match_ordering r (y ∷ put (at (title x)) x ys) (x ∷ ys) (x ∷ y ∷ ys))
          ≡ match_ordering r (title y ∷ put (λ t. text_order t (title x)) (title x) (map title ys)) (title x ∷ map title ys) (title x ∷ title y ∷ map title ys)
      by_order Less rest = ap (λ ts. title y ∷ ts) rest
      by_order Equal rest = refl
      by_order Greater rest = refl

  module _ (t : List ℕ) (ts : List (List ℕ)) (xs : List T) (old : AreTitles title ts xs) where
    place_there : (i : ℕ) → IsPlace (λ u. text_order u t) ts i → IsPlace (at t) xs i
    place_there i p = placed title (λ u. text_order u t) xs i (subst (λ us. IsPlace (λ u. text_order u t) us i) old.same p)

    gap_there : (i : ℕ) → IsGap (λ u. text_order u t) ts i → IsGap (at t) xs i
    gap_there i p = gap title (λ u. text_order u t) xs i (subst (λ us. IsGap (λ u. text_order u t) us i) old.same p)

    -- ---- puts

    pub after_put : (x : T) (more : List (List ℕ)) (new : List T) → t ≡ title x → more ≡ put (λ u. text_order u t) t ts → new ≡ put (at (title x)) x xs → AreTitles title more new
    after_put x more new is titles objects = record {
      same = titles ∙ (λ i. put (λ u. text_order u (is i)) (is i) (old.same i)) ∙ sym (put_titles x xs) ∙ ap (map title) (sym objects);
      ascend = subst (Ascends title text_order) (sym objects) (ascends_put title nat_list_cmp_total x xs old.ascend);
    }

    pub titles_set : (i : ℕ) → IsPlace (λ u. text_order u t) ts i → set ts i t ≡ put (λ u. text_order u t) t ts
    titles_set i p = sym (put_at_place (λ u. text_order u t) t ts i p.within p.here p.before)

    pub objects_set : (x : T) (i : ℕ) → t ≡ title x → IsPlace (λ u. text_order u t) ts i → set xs i x ≡ put (at (title x)) x xs
    objects_set x i is p =
        let q : IsPlace (at t) xs i = place_there i p in
        sym (put_at_place (at t) x xs i q.within q.here q.before) ∙ ap (λ u. put (at u) x xs) is

    pub titles_insert : (i : ℕ) → IsGap (λ u. text_order u t) ts i → insert ts i t ≡ put (λ u. text_order u t) t ts
    titles_insert i p = sym (put_in_gap (λ u. text_order u t) t ts i p.within p.before p.after)

    pub objects_insert : (x : T) (i : ℕ) → t ≡ title x → IsGap (λ u. text_order u t) ts i → insert xs i x ≡ put (at (title x)) x xs
    objects_insert x i is p =
        let q : IsGap (at t) xs i = gap_there i p in
        sym (put_in_gap (at t) x xs i q.within q.before q.after) ∙ ap (λ u. put (at u) x xs) is

    -- the same of what an insertion left that succeeded
    pub titles_inserted : (i : ℕ) → IsGap (λ u. text_order u t) ts i → (new : List (List ℕ)) (done : Bool) → new ≡ (if done then insert ts i t else ts) → done ≡ true → new ≡ put (λ u. text_order u t) t ts
    titles_inserted i p new done left is = left ∙ ap (λ b. if b then insert ts i t else ts) is ∙ titles_insert i p

    pub objects_inserted : (x : T) (i : ℕ) → t ≡ title x → IsGap (λ u. text_order u t) ts i → (new : List T) (done : Bool) → new ≡ (if done then insert xs i x else xs) → done ≡ true → new ≡ put (at (title x)) x xs
    objects_inserted x i same p new done left is = left ∙ ap (λ b. if b then insert xs i x else xs) is ∙ objects_insert x i same p

    -- ---- removals

    pub after_without : (less : List (List ℕ)) (new : List T) → less ≡ without (λ u. text_order u t) ts → new ≡ without (at t) xs → AreTitles title less new
    after_without less new titles objects = record {
      same = titles ∙ ap (without (λ u. text_order u t)) old.same ∙ filter-map (λ u. not (is_eq (text_order u t))) title xs ∙ ap (map title) (sym objects);
      ascend = subst (Ascends title text_order) (sym objects) (ascends_without title nat_list_cmp_total t xs old.ascend);
    }

    pub titles_up : Ascends (λ u. u) text_order ts
    titles_up = subst (Ascends (λ u. u) text_order) (sym old.same) (titles_ascend title text_order xs old.ascend)

    pub titles_removed : (i : ℕ) → IsPlace (λ u. text_order u t) ts i → (new : List (List ℕ)) → new ≡ remove ts i → new ≡ without (λ u. text_order u t) ts
    titles_removed i p new left = left ∙ sym (without_at_place (λ u. u) nat_list_cmp_total t ts i titles_up p.within p.here p.before)

    pub objects_removed : (i : ℕ) → IsPlace (λ u. text_order u t) ts i → (new : List T) → new ≡ remove xs i → new ≡ without (at t) xs
    objects_removed i p new left =
        let q : IsPlace (at t) xs i = place_there i p in
        left ∙ sym (without_at_place title nat_list_cmp_total t xs i old.ascend q.within q.here q.before)

    pub objects_kept : (i : ℕ) → IsGap (λ u. text_order u t) ts i → xs ≡ without (at t) xs
    objects_kept i p =
        let q : IsGap (at t) xs i = gap_there i p in
        sym (without_in_gap (at t) xs i q.within q.before q.after)
