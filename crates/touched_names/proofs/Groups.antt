-- When two groups are one, and whether one is among those of a list of lists.
use Rattle.std.proofs.Common.{◌≡◌, List, [], ◌∷◌, Bool, true, false, ◌||◌, ◌&&◌, IsTrue, ◌↔◌, refl, sym, ap, subst, ◌∙◌}
use Rattle.std.proofs.lemmas.List.Folds.{list_any-append}
use Rattle.std.specs.List.{flat_map, list_any}
use Rattle.cl_types.specs.OrderLaws.{text_eq-cmp, text_eq-itself, text_eq-one}
use Rattle.cl_types.specs.Text.{text_eq}
use Rattle.label_select.specs.declared.group.Scope.{Scope}
use Rattle.label_select.specs.declared.group.Scope.TheVariants.{Namespace, Namespaces}
use Rattle.label_select.specs.Group.{Group, IsGroup}
use Rattle.label_select.specs.Selection.{Requirement, Selection}
use Rattle.label_select.specs.Written.{group_text}
use Rattle.touched_names.specs.AllPods.{is_all_namespaces, is_none, selects_all}
use Rattle.touched_names.specs.Standing.{is_group}
use Rattle.watch_streams.specs.Projection.{all_pods}

abbrev pub GroupTextsDiffer : Type 0
GroupTextsDiffer = (a b : Group) → IsGroup a → IsGroup b → group_text a ≡ group_text b → a ≡ b

true_is_not : true ≡ false → ⊥
true_is_not e = cc

-- an answer that is true exactly where two groups are one
pub is_one_group : GroupTextsDiffer → (g other : Group) → IsGroup g → IsGroup other → (b : Bool) → (b ≡ true → g ≡ other) → (g ≡ other → b ≡ true) → b ≡ is_group g other
is_one_group differ g other is is_other b one back =
    by_texts (text_eq (group_text g) (group_text other)) refl b one back ∙ text_eq-cmp (group_text g) (group_text other)
  where
    by_texts : (e : Bool) → text_eq (group_text g) (group_text other) ≡ e → (b : Bool) → (b ≡ true → g ≡ other) → (g ≡ other → b ≡ true) → b ≡ text_eq (group_text g) (group_text other)
    by_texts true texts b one back = back (differ g other is is_other (text_eq-one (group_text g) (group_text other) texts)) ∙ sym texts
    by_texts false texts true one back =
        absurd (true_is_not (sym (text_eq-itself (group_text g)) ∙ (ap (λ (x : Group). text_eq (group_text g) (group_text x)) (one refl) ∙ texts)))
    by_texts false texts false one back = sym texts

pub same_group : GroupTextsDiffer → (g other : Group) → IsGroup g → IsGroup other → (b : Bool) → (IsTrue b ↔ (g ≡ other)) → b ≡ is_group g other
same_group differ g other is is_other b decides = is_one_group differ g other is is_other b decides.0 decides.1

all_pods_form : IsGroup all_pods
all_pods_form = record {
  scope_form = record { need_forms = tt; needs_ascend = tt; values_ascend = tt };
  pods_form = record { need_forms = tt; needs_ascend = tt; values_ascend = tt };
}

-- the group of all pods is told by its parts
pub all_by_parts : GroupTextsDiffer → (g : Group) → IsGroup g → (is_all_namespaces g.scope && selects_all g.pods) ≡ is_group g all_pods
all_by_parts differ g is = is_one_group differ g all_pods is all_pods_form (is_all_namespaces g.scope && selects_all g.pods) (one g) (λ same. subst (λ (x : Group). (is_all_namespaces x.scope && selects_all x.pods) ≡ true) (sym same) refl)
  where
    none : (needs : List Requirement) → is_none needs ≡ true → needs ≡ []
    none [] h = refl
    none (need ∷ needs) h = absurd (true_is_not (sym h))

    both : (a b : Bool) → (a && b) ≡ true → (a ≡ true) × (b ≡ true)
    both true b h = (refl, h)
    both false b h = absurd (true_is_not (sym h))

    whole : (scope : Scope) (pods : Selection) → (is_all_namespaces scope && selects_all pods) ≡ true → record { scope = scope; pods = pods } ≡ all_pods
    whole (Namespace name) pods h = absurd (true_is_not (sym h))
    whole (Namespaces selector) pods h =
        let parts = both (is_none selector.needs) (is_none pods.needs) h in
        ap (λ (needs : List Requirement). record { scope = Namespaces (record { needs = needs }); pods = pods }) (none selector.needs parts.0)
        ∙ ap (λ (needs : List Requirement). record { scope = all_pods.scope; pods = record { needs = needs } }) (none pods.needs parts.1)

    one : (x : Group) → (is_all_namespaces x.scope && selects_all x.pods) ≡ true → x ≡ all_pods
    one x h = whole x.scope x.pods h

-- an item of the lists that a function makes is an item of one of them
pub any_flat_map : {A B : Type 0} (p : B → Bool) (f : A → List B) (xs : List A) → list_any p (flat_map f xs) ≡ list_any (λ x. list_any p (f x)) xs
any_flat_map p f [] = refl
any_flat_map p f (x ∷ xs) = list_any-append p (f x) (flat_map f xs) ∙ ap (λ b. list_any p (f x) || b) (any_flat_map p f xs)
