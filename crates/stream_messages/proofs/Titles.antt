-- The texts of names in order are those of the objects in order.
use Rattle.std.proofs.Common.{◌≡◌, List, [], ◌∷◌, ◌++◌, map, refl, sym, ap, ◌∙◌}
use Rattle.std.proofs.lemmas.List.{map-append}
use Rattle.std.specs.declared.cmp.Ordering.{Ordering}
use Rattle.std.specs.declared.cmp.Ordering.TheVariants.{Less, Equal, Greater}
use Rattle.std.specs.Ordering.{match_ordering}
use Rattle.cl_types.specs.Ascending.{put, sorted_set}
use Rattle.cl_types.specs.Text.{text_order}
use Rattle.watch_streams.specs.declared.message.StreamObject.{StreamObject}
use Rattle.watch_streams.specs.Difference.{all_texts}
use Rattle.watch_streams.specs.Names.{at_text, by_name, object_text}

put_text : (o : StreamObject) (os : List StreamObject)
    → put (λ t. text_order t (object_text o)) (object_text o) (map object_text os) ≡ map object_text (put (at_text (object_text o)) o os)
put_text o [] = refl
put_text o (p ∷ ps) = by_order (text_order (object_text p) (object_text o)) (put_text o ps)
  where
    by_order : (r : Ordering)
        → put (λ t. text_order t (object_text o)) (object_text o) (map object_text ps) ≡ map object_text (put (at_text (object_text o)) o ps)
        → match_ordering r (object_text p ∷ put (λ t. text_order t (object_text o)) (object_text o) (map object_text ps)) (object_text o ∷ map object_text ps) (object_text o ∷ object_text p ∷ map object_text ps)
        ≡ map object_text (match_ordering r (p ∷ put (at_text (object_text o)) o ps) (o ∷ ps) (o ∷ p ∷ ps))
    by_order Less rest = ap (λ ts. object_text p ∷ ts) rest
    by_order Equal rest = refl
    by_order Greater rest = refl

sorted_texts : (os : List StreamObject) → sorted_set text_order (map object_text os) ≡ map object_text (by_name os)
sorted_texts [] = refl
sorted_texts (o ∷ os) = ap (put (λ t. text_order t (object_text o)) (object_text o)) (sorted_texts os) ∙ put_text o (by_name os)

pub texts_of_both : (old new : List StreamObject) → sorted_set text_order (map object_text old ++ map object_text new) ≡ all_texts old new
texts_of_both old new = ap (sorted_set text_order) (sym (map-append object_text old new)) ∙ sorted_texts (old ++ new)
