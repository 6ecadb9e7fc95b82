-- What labels have at a key once one is set.
use Rattle.std.proofs.Common.{◌≡◌, ℕ, List, Bool, true, false, Option, Some, if◌then◌else◌, option_map, ◌≢◌, refl, ap, sym, ◌∙◌}
use Rattle.std.specs.declared.cmp.Ordering.{Ordering}
use Rattle.std.specs.declared.cmp.Ordering.TheVariants.{Less, Equal, Greater}
use Rattle.std.specs.Ordering.{is_eq}
use Rattle.std.proofs.lemmas.Cmp.{tied_itself}
use Rattle.cl_types.specs.AscendingLaws.{found_put}
use Rattle.cl_types.specs.Text.{text_eq, text_order, text_order_total}
use Rattle.cl_types.specs.OrderLaws.{text_eq-cmp, text_order_exact}
use Rattle.label_select.specs.declared.labels.Label.{Label}
use Rattle.label_select.specs.Selection.{value_at, put_label}

of_choice : (b : Bool) (x : Label) (o : Option Label) → option_map (λ (l : Label). l.value) (if b then Some x else o) ≡ (if b then Some x.value else option_map (λ (l : Label). l.value) o)
of_choice true x o = refl
of_choice false x o = refl

-- the value that was set, and at every other key the old one
pub value_put : (labels : List Label) (key value k : List ℕ) → value_at (put_label labels key value) k ≡ (if text_eq k key then Some value else value_at labels k)
value_put labels key value k =
    ap (option_map (λ (l : Label). l.value)) (found_put (λ (l : Label). l.key) text_order_total k (record { key = key; value = value }) labels)
    ∙ of_choice (is_eq (text_order key k)) (record { key = key; value = value }) _
    ∙ ap (λ b. if b then Some value else value_at labels k) (sym (text_eq-cmp k key))

pub value_put_same : (labels : List Label) (key value k : List ℕ) → text_eq k key ≡ true → value_at (put_label labels key value) k ≡ Some value
value_put_same labels key value k same = value_put labels key value k ∙ ap (λ b. if b then Some value else value_at labels k) same

pub value_put_other : (labels : List Label) (key value k : List ℕ) → text_eq k key ≡ false → value_at (put_label labels key value) k ≡ value_at labels k
value_put_other labels key value k other = value_put labels key value k ∙ ap (λ b. if b then Some value else value_at labels k) other

text_itself : (t : List ℕ) → text_eq t t ≡ true
text_itself t = text_eq-cmp t t ∙ ap is_eq (tied_itself text_order_total t)

texts_differ : (t u : List ℕ) → t ≢ u → text_eq t u ≡ false
texts_differ t u other = text_eq-cmp t u ∙ by_order (text_order u t) refl
  where
    by_order : (r : Ordering) → text_order u t ≡ r → is_eq r ≡ false
    by_order Less is = refl
    by_order Equal is = absurd (other (sym (text_order_exact u t is)))
    by_order Greater is = refl

pub there : (labels : List Label) (key value : List ℕ) → value_at (put_label labels key value) key ≡ Some value
there labels key value = value_put_same labels key value key (text_itself key)

pub others : (labels : List Label) (key value k : List ℕ) → k ≢ key → value_at (put_label labels key value) k ≡ value_at labels k
others labels key value k other = value_put_other labels key value k (texts_differ k key other)
