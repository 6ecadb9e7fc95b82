-- The texts of the groups of a scope, and what stands in front of them and behind them.
use Rattle.std.proofs.Common.{◌≡◌, ◌≢◌, ◌≤◌, ◌++◌, ℕ, List, [], ◌∷◌, Bool, true, false, length, get_or, refl, sym, ap, subst, ◌∙◌}
use Rattle.std.proofs.lemmas.Cmp.{tied_itself, nat_cmp_total}
use Rattle.std.specs.List.{AllWithin}
use Rattle.std.specs.Ordering.{nat_cmp, ordering_then}
use Rattle.std.specs.declared.cmp.Ordering.TheVariants.{Less}
use Rattle.cl_types.specs.OrderLaws.{text_eq-one}
use Rattle.cl_types.specs.Text.{text_order, text_order_total}
use Rattle.label_select.specs.declared.group.Scope.{Scope}
use Rattle.label_select.specs.declared.group.Scope.TheVariants.{Namespace, Namespaces}
use Rattle.label_select.specs.Written.{scope_text, selector_text}
use Rattle.group_index.specs.Index.{EntryData, entry_text}
use Rattle.group_index.specs.Settled.{IsStretch, is_named, is_selector}
use Rattle.group_index.proofs.Stretches.{in_order, never_less, not_true}

not_less : (t rest : List ℕ) (b : ℕ) → text_order (t ++ b ∷ rest) (t ++ b ∷ []) ≡ Less → ⊥
not_less [] rest b h = never_less rest (sym (ap (λ r. ordering_then r (text_order rest [])) (tied_itself nat_cmp_total b)) ∙ h)
not_less (x ∷ xs) rest b h = not_less xs rest b (sym (ap (λ r. ordering_then r (text_order (xs ++ b ∷ rest) (xs ++ b ∷ []))) (tied_itself nat_cmp_total x)) ∙ h)

less : (t rest : List ℕ) (b d : ℕ) → nat_cmp b d ≡ Less → text_order (t ++ b ∷ rest) (t ++ d ∷ []) ≡ Less
less [] rest b d lt = ap (λ r. ordering_then r (text_order rest [])) lt
less (x ∷ xs) rest b d lt = ap (λ r. ordering_then r (text_order (xs ++ b ∷ rest) (xs ++ d ∷ []))) (tied_itself nat_cmp_total x) ∙ less xs rest b d lt

named_low : (space : List ℕ) (s : Scope) (rest : List ℕ) → is_named space s ≡ true → text_order (scope_text s ++ 47 ∷ rest) (space ++ 47 ∷ []) ≡ Less → ⊥
named_low space (Namespace name) rest is = subst (λ t. text_order (t ++ 47 ∷ rest) (space ++ 47 ∷ []) ≡ Less → ⊥) (sym (text_eq-one name space is)) (not_less space rest 47)
named_low space (Namespaces selector) rest is = cc

named_high : (space : List ℕ) (s : Scope) (rest : List ℕ) → is_named space s ≡ true → text_order (scope_text s ++ 47 ∷ rest) (space ++ 48 ∷ []) ≡ Less
named_high space (Namespace name) rest is = subst (λ t. text_order (t ++ 47 ∷ rest) (space ++ 48 ∷ []) ≡ Less) (sym (text_eq-one name space is)) (less space rest 47 48 refl)
named_high space (Namespaces selector) rest is = cc

selector_low : (s : Scope) (rest : List ℕ) → is_selector s ≡ true → text_order (scope_text s ++ 47 ∷ rest) (91 ∷ []) ≡ Less → ⊥
selector_low (Namespace name) rest is = cc
selector_low (Namespaces selector) rest is = not_less [] _ 91

selector_high : (s : Scope) (rest : List ℕ) → is_selector s ≡ true → text_order (scope_text s ++ 47 ∷ rest) (92 ∷ []) ≡ Less
selector_high (Namespace name) rest is = cc
selector_high (Namespaces selector) rest is = refl

module _ (low high : List ℕ) (test : Scope → Bool) (index : List EntryData) where
  between : text_order low high ≡ Less → ((s : Scope) (rest : List ℕ) → test s ≡ true → text_order (scope_text s ++ 47 ∷ rest) low ≡ Less → ⊥) → ((s : Scope) (rest : List ℕ) → test s ≡ true → text_order (scope_text s ++ 47 ∷ rest) high ≡ Less)
      → (a b : List ℕ) (start end : ℕ) → a ≡ low → b ≡ high → start ≤ length index → end ≤ length index
      → AllWithin (λ (e : EntryData). text_order (entry_text e) a ≡ Less) index 0 start → AllWithin (λ (e : EntryData). text_order (entry_text e) b ≢ Less) index end (length index)
      → IsStretch (λ (e : EntryData). test e.group.scope ≡ false) index (record { start = start; end = end })
  between apart front behind a b start end is_a is_b starts within before after = record {
    order = in_order entry_text text_order_total a b (rw (is_a, is_b) apart) index start end starts before after;
    within = within;
    before = λ k e lo hi. not_true (test (get_or index k e).group.scope) (λ is. front (get_or index k e).group.scope (selector_text (get_or index k e).group.pods) is (subst (λ t. text_order (entry_text (get_or index k e)) t ≡ Less) is_a (before k e lo hi)));
    after = λ k e lo hi. not_true (test (get_or index k e).group.scope) (λ is. after k e lo hi (subst (λ t. text_order (entry_text (get_or index k e)) t ≡ Less) (sym is_b) (behind (get_or index k e).group.scope (selector_text (get_or index k e).group.pods) is)));
  }

pub named_stretch : (space : List ℕ) (index : List EntryData) (a b : List ℕ) (start end : ℕ) → a ≡ space ++ 47 ∷ [] → b ≡ space ++ 48 ∷ [] → start ≤ length index → end ≤ length index
    → AllWithin (λ (e : EntryData). text_order (entry_text e) a ≡ Less) index 0 start → AllWithin (λ (e : EntryData). text_order (entry_text e) b ≢ Less) index end (length index)
    → IsStretch (λ (e : EntryData). is_named space e.group.scope ≡ false) index (record { start = start; end = end })
named_stretch space index = between (space ++ 47 ∷ []) (space ++ 48 ∷ []) (is_named space) index (less space [] 47 48 refl) (named_low space) (named_high space)

pub selector_stretch : (index : List EntryData) (a b : List ℕ) (start end : ℕ) → a ≡ 91 ∷ [] → b ≡ 92 ∷ [] → start ≤ length index → end ≤ length index
    → AllWithin (λ (e : EntryData). text_order (entry_text e) a ≡ Less) index 0 start → AllWithin (λ (e : EntryData). text_order (entry_text e) b ≢ Less) index end (length index)
    → IsStretch (λ (e : EntryData). is_selector e.group.scope ≡ false) index (record { start = start; end = end })
selector_stretch index = between (91 ∷ []) (92 ∷ []) is_selector index refl selector_low selector_high
