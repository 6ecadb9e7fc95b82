-- Equality of things whose texts tell them apart.
use Rattle.std.proofs.Common.{◌≡◌, ◌↔◌, ℕ, List, Bool, true, false, IsTrue, refl, sym, ap, ◌∙◌}
use Rattle.std.specs.declared.cmp.Ordering.{Ordering}
use Rattle.std.specs.declared.cmp.Ordering.TheVariants.{Less, Equal, Greater}
use Rattle.std.specs.Ordering.{is_eq}
use Rattle.std.proofs.lemmas.Cmp.{nat_list_cmp_total, tied_itself}
use Rattle.cl_types.specs.OrderLaws.{text_order_exact}
use Rattle.cl_types.specs.Text.{text_order}

pub same_text : {T : Type 0} (text : T → List ℕ) (a b : T) → (text a ≡ text b → a ≡ b) → (r : Bool) → (IsTrue r ↔ (a ≡ b)) → r ≡ is_eq (text_order (text b) (text a))
same_text text a b apart true one = sym (ap is_eq (ap (λ x. text_order (text x) (text a)) (sym (one.0 refl)) ∙ tied_itself nat_list_cmp_total (text a)))
same_text text a b apart false one = by_order (text_order (text b) (text a)) refl
  where
    by_order : (o : Ordering) → text_order (text b) (text a) ≡ o → false ≡ is_eq o
    by_order Less is = refl
    by_order Greater is = refl
    by_order Equal is = one.1 (apart (sym (text_order_exact (text b) (text a) is)))
