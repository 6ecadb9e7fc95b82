-- Texts of groups tell groups apart: a text is read from the left, and each piece ends before a byte that
-- its form excludes.
use Rattle.std.proofs.Common.{◌≡◌, ℕ, List, [], ◌∷◌, ◌++◌, length, codes, Bool, true, false, not, ◌==◌, ◌⊎◌, inl, inr, ⊎_elim, map, refl, sym, ap, subst, ◌∙◌, append_assoc, append-nil, arith}
use Rattle.std.specs.List.{list_all, AllByRecursion}
use Rattle.std.proofs.lemmas.Bool.{and_parts, both_ways, eq-eqb, ne_eqb, true≢false}
use Rattle.label_select.specs.declared.selector.Op.{Op}
use Rattle.label_select.specs.declared.selector.Op.TheVariants.{OneOf, NoneOf, Present, Missing}
use Rattle.label_select.specs.declared.group.Scope.{Scope}
use Rattle.label_select.specs.declared.group.Scope.TheVariants.{Namespace, Namespaces}
use Rattle.label_select.specs.Forms.{is_label_byte, is_label_value, is_label_key, is_namespace_name}
use Rattle.label_select.specs.Selection.{Requirement, Selection, IsNeed, takes_values}
use Rattle.label_select.specs.Canonical.{IsSelection}
use Rattle.label_select.specs.Group.{Group, IsWholeScope, IsGroup}
use Rattle.label_select.specs.Written.{listed, op_text, need_text, selector_text, scope_text, group_text}
use Rattle.label_select.proofs.FormBytes.{is_key_byte, label_key-bytes, label_value-bytes, namespace_name-bytes, label_key-some, namespace_name-some}

-- the text begins with a byte that fails
abbrev Stops : (ℕ → Bool) → List ℕ → Type 0
Stops p [] = ⊥
Stops p (b ∷ bs) = p b ≡ false

-- two pieces whose bytes pass, each before a byte that fails, are equal where the whole texts are
pieces_same : (p : ℕ → Bool) (xs ys r s : List ℕ) → list_all p xs ≡ true → list_all p ys ≡ true → Stops p r → Stops p s → xs ++ r ≡ ys ++ s → (xs ≡ ys) × (r ≡ s)
pieces_same p [] [] r s all_x all_y stop_r stop_s e = (refl, e)
pieces_same p [] (y ∷ ys) r s all_x all_y stop_r stop_s e =
    let stop : p y ≡ false = subst (Stops p) e stop_r in
    absurd (true≢false (sym (and_parts (p y) (list_all p ys) all_y).0 ∙ stop))
pieces_same p (x ∷ xs) [] r s all_x all_y stop_r stop_s e =
    let stop : p x ≡ false = subst (Stops p) (sym e) stop_s in
    absurd (true≢false (sym (and_parts (p x) (list_all p xs) all_x).0 ∙ stop))
pieces_same p (x ∷ xs) (y ∷ ys) r s all_x all_y stop_r stop_s e =
    let tail : xs ++ r ≡ ys ++ s = cc in
    let head : x ≡ y = cc in
    let rest = pieces_same p xs ys r s (and_parts (p x) (list_all p xs) all_x).1 (and_parts (p y) (list_all p ys) all_y).1 stop_r stop_s tail in
    let same = rest.0 in
    (cc, rest.1)

-- the text begins with a comma or with the byte that ends the list
abbrev Follows : ℕ → List ℕ → Type 0
Follows end [] = ⊥
Follows end (b ∷ bs) = (b ≡ 44) ⊎ (b ≡ end)

module _ {T : Type 0} (text : T → List ℕ) (IsOne : T → Type 0) (end : ℕ) (apart : end ≡ 44 → ⊥)
    (one_same : (x y : T) (r s : List ℕ) → IsOne x → IsOne y → Follows end r → Follows end s → text x ++ r ≡ text y ++ s → (x ≡ y) × (r ≡ s)) where
  -- two lists that are not empty, each before the byte that ends it, are equal where the whole texts are
  list_same : (x y : T) (xs ys : List T) (r s : List ℕ) → AllByRecursion IsOne (x ∷ xs) → AllByRecursion IsOne (y ∷ ys) → listed (map text (x ∷ xs)) ++ end ∷ r ≡ listed (map text (y ∷ ys)) ++ end ∷ s → (x ∷ xs ≡ y ∷ ys) × (r ≡ s)
  list_same x y [] [] r s all_x all_y e =
      let first = one_same x y (end ∷ r) (end ∷ s) all_x.0 all_y.0 (inr refl) (inr refl) e in
      let head = first.0 in
      let tail = first.1 in
      (cc, cc)
  list_same x y [] (z ∷ zs) r s all_x all_y e =
      let first = one_same x y (end ∷ r) (44 ∷ (listed (map text (z ∷ zs)) ++ end ∷ s)) all_x.0 all_y.0 (inr refl) (inl refl) (e ∙ append_assoc (text y) (44 ∷ listed (map text (z ∷ zs))) (end ∷ s)) in
      let tail = first.1 in
      let comma : end ≡ 44 = cc in absurd (apart comma)
  list_same x y (z ∷ zs) [] r s all_x all_y e =
      let first = one_same x y (44 ∷ (listed (map text (z ∷ zs)) ++ end ∷ r)) (end ∷ s) all_x.0 all_y.0 (inl refl) (inr refl) (sym (append_assoc (text x) (44 ∷ listed (map text (z ∷ zs))) (end ∷ r)) ∙ e) in
      let tail = first.1 in
      let comma : end ≡ 44 = cc in absurd (apart comma)
  list_same x y (z ∷ zs) (w ∷ ws) r s all_x all_y e =
      let first = one_same x y (44 ∷ (listed (map text (z ∷ zs)) ++ end ∷ r)) (44 ∷ (listed (map text (w ∷ ws)) ++ end ∷ s)) all_x.0 all_y.0 (inl refl) (inl refl) (sym (append_assoc (text x) (44 ∷ listed (map text (z ∷ zs))) (end ∷ r)) ∙ (e ∙ append_assoc (text y) (44 ∷ listed (map text (w ∷ ws))) (end ∷ s))) in
      let tail = first.1 in
      let after : listed (map text (z ∷ zs)) ++ end ∷ r ≡ listed (map text (w ∷ ws)) ++ end ∷ s = cc in
      let rest = list_same z w zs ws r s all_x.1 all_y.1 after in
      let head = first.0 in
      let same = rest.0 in
      (cc, rest.1)

-- a value ends before `,` and `)`
abbrev IsValue : List ℕ → Type 0
IsValue v = is_label_value v ≡ true

value_stops : (r : List ℕ) → Follows 41 r → Stops is_label_byte r
value_stops [] f = f
value_stops (b ∷ bs) f = ⊎_elim (λ e. ap is_label_byte e) (λ e. ap is_label_byte e) f

value_same : (x y r s : List ℕ) → IsValue x → IsValue y → Follows 41 r → Follows 41 s → x ++ r ≡ y ++ s → (x ≡ y) × (r ≡ s)
value_same x y r s is_x is_y after_r after_s e =
    pieces_same is_label_byte x y r s (label_value-bytes x is_x) (label_value-bytes y is_y) (value_stops r after_r) (value_stops s after_s) e

map-itself : (xs : List (List ℕ)) → map (λ v. v) xs ≡ xs
map-itself [] = refl
map-itself (x ∷ xs) = ap (λ ys. x ∷ ys) (map-itself xs)

all_from_list_all : {T : Type 0} (p : T → Bool) (xs : List T) → list_all p xs ≡ true → AllByRecursion (λ x. p x ≡ true) xs
all_from_list_all p [] all = tt
all_from_list_all p (x ∷ xs) all =
    let parts = and_parts (p x) (list_all p xs) all in (parts.0, all_from_list_all p xs parts.1)

-- values in parentheses
values_same : (xs ys : List (List ℕ)) (r s : List ℕ) → list_all is_label_value xs ≡ true → list_all is_label_value ys ≡ true → (xs ≡ [] → ⊥) → (ys ≡ [] → ⊥) → listed xs ++ 41 ∷ r ≡ listed ys ++ 41 ∷ s → (xs ≡ ys) × (r ≡ s)
values_same [] ys r s all_x all_y some_x some_y e = absurd (some_x refl)
values_same (x ∷ xs) [] r s all_x all_y some_x some_y e = absurd (some_y refl)
values_same (x ∷ xs) (y ∷ ys) r s all_x all_y some_x some_y e =
    list_same (λ v. v) IsValue 41 (λ bad. absurd (omega arith)) value_same x y xs ys r s (all_from_list_all is_label_value (x ∷ xs) all_x) (all_from_list_all is_label_value (y ∷ ys) all_y)
    (ap (λ vs. listed vs ++ 41 ∷ r) (map-itself (x ∷ xs)) ∙ (e ∙ sym (ap (λ vs. listed vs ++ 41 ∷ s) (map-itself (y ∷ ys)))))

counted_none : (values : List (List ℕ)) → false ≡ not (length values == 0) → values ≡ []
counted_none [] e = refl
counted_none (v ∷ vs) e = absurd (true≢false (sym (e ∙ ap not (ne_eqb (length (v ∷ vs)) 0 (λ z. omega arith)))))

counted_some : (values : List (List ℕ)) → true ≡ not (length values == 0) → values ≡ [] → ⊥
counted_some [] e none = true≢false e
counted_some (v ∷ vs) e none = cc

bytes_differ : (a b : ℕ) → (a == b) ≡ false → a ≡ b → ⊥
bytes_differ a b no_test e = both_ways (a == b) no_test (eq-eqb a b e)

-- a key begins with no byte that keys exclude
key_first : (m : ℕ) → is_key_byte m ≡ false → (k t u : List ℕ) → is_label_key k ≡ true → k ++ t ≡ m ∷ u → ⊥
key_first m fails [] t u form e = label_key-some form
key_first m fails (b ∷ bs) t u form e =
    let same : b ≡ m = cc in
    let first = (and_parts (is_key_byte b) (list_all is_key_byte bs) (label_key-bytes (b ∷ bs) form)).0 in
    true≢false (sym first ∙ (ap is_key_byte same ∙ fails))

-- the text of a need is its mark, its key and what stands behind the key
abbrev is_marked : Op → Bool
is_marked OneOf = false
is_marked NoneOf = false
is_marked Present = false
is_marked Missing = true

abbrev mark_text : Bool → List ℕ
mark_text true = codes "!"
mark_text false = []

abbrev behind_key : Op → List (List ℕ) → List ℕ → List ℕ
behind_key OneOf values r = codes " in (" ++ (listed values ++ 41 ∷ r)
behind_key NoneOf values r = codes " notin (" ++ (listed values ++ 41 ∷ r)
behind_key Present values r = r
behind_key Missing values r = r

in_pieces : (op : Op) (key : List ℕ) (values : List (List ℕ)) (r : List ℕ) → op_text op key values ++ r ≡ mark_text (is_marked op) ++ (key ++ behind_key op values r)
in_pieces OneOf key values r = simp append_assoc
in_pieces NoneOf key values r = simp append_assoc
in_pieces Present key values r = refl
in_pieces Missing key values r = refl

behind_stops : (op : Op) (values : List (List ℕ)) (r : List ℕ) → Follows 93 r → Stops is_key_byte (behind_key op values r)
behind_stops OneOf values r after = refl
behind_stops NoneOf values r after = refl
behind_stops Present values [] after = after
behind_stops Present values (b ∷ bs) after = ⊎_elim (λ e. ap is_key_byte e) (λ e. ap is_key_byte e) after
behind_stops Missing values [] after = after
behind_stops Missing values (b ∷ bs) after = ⊎_elim (λ e. ap is_key_byte e) (λ e. ap is_key_byte e) after

not_blank : (r t : List ℕ) → Follows 93 r → r ≡ 32 ∷ t → ⊥
not_blank [] t after e = after
not_blank (b ∷ bs) t after e =
    let blank : b ≡ 32 = cc in ⊎_elim (λ (is : b ≡ 44). absurd (omega arith)) (λ (is : b ≡ 93). absurd (omega arith)) after

marks_same : (m n : Bool) (k l t u : List ℕ) → is_label_key k ≡ true → is_label_key l ≡ true → mark_text m ++ (k ++ t) ≡ mark_text n ++ (l ++ u) → (m ≡ n) × (k ++ t ≡ l ++ u)
marks_same true true k l t u key_k key_l e = (refl, cc)
marks_same true false k l t u key_k key_l e = absurd (key_first 33 refl l u (k ++ t) key_l (sym e))
marks_same false true k l t u key_k key_l e = absurd (key_first 33 refl k t (l ++ u) key_k e)
marks_same false false k l t u key_k key_l e = (refl, e)

module _ (v w : List (List ℕ)) (r s : List ℕ) (forms_v : list_all is_label_value v ≡ true) (forms_w : list_all is_label_value w ≡ true) (after_r : Follows 93 r) (after_s : Follows 93 s) where
  -- behind equal keys with equal marks stand equal operators and values
  behind_same : (o p : Op) → takes_values o ≡ not (length v == 0) → takes_values p ≡ not (length w == 0) → is_marked o ≡ is_marked p → behind_key o v r ≡ behind_key p w s → (o ≡ p) × (v ≡ w) × (r ≡ s)
  behind_same OneOf OneOf count_v count_w marks e =
      let tail : listed v ++ 41 ∷ r ≡ listed w ++ 41 ∷ s = cc in
      let same = values_same v w r s forms_v forms_w (counted_some v count_v) (counted_some w count_w) tail in
      (refl, same.0, same.1)
  behind_same OneOf NoneOf count_v count_w marks e =
      absurd (bytes_differ 105 110 refl cc)
  behind_same OneOf Present count_v count_w marks e = absurd (not_blank s _ after_s (sym e))
  behind_same OneOf Missing count_v count_w marks e = absurd (true≢false (sym marks))
  behind_same NoneOf OneOf count_v count_w marks e =
      absurd (bytes_differ 110 105 refl cc)
  behind_same NoneOf NoneOf count_v count_w marks e =
      let tail : listed v ++ 41 ∷ r ≡ listed w ++ 41 ∷ s = cc in
      let same = values_same v w r s forms_v forms_w (counted_some v count_v) (counted_some w count_w) tail in
      (refl, same.0, same.1)
  behind_same NoneOf Present count_v count_w marks e = absurd (not_blank s _ after_s (sym e))
  behind_same NoneOf Missing count_v count_w marks e = absurd (true≢false (sym marks))
  behind_same Present OneOf count_v count_w marks e = absurd (not_blank r _ after_r e)
  behind_same Present NoneOf count_v count_w marks e = absurd (not_blank r _ after_r e)
  behind_same Present Present count_v count_w marks e = (refl, counted_none v count_v ∙ sym (counted_none w count_w), e)
  behind_same Present Missing count_v count_w marks e = absurd (true≢false (sym marks))
  behind_same Missing OneOf count_v count_w marks e = absurd (true≢false marks)
  behind_same Missing NoneOf count_v count_w marks e = absurd (true≢false marks)
  behind_same Missing Present count_v count_w marks e = absurd (true≢false marks)
  behind_same Missing Missing count_v count_w marks e = (refl, counted_none v count_v ∙ sym (counted_none w count_w), e)

need_same : (x y : Requirement) (r s : List ℕ) → IsNeed x → IsNeed y → Follows 93 r → Follows 93 s → need_text x ++ r ≡ need_text y ++ s → (x ≡ y) × (r ≡ s)
need_same x y r s is_x is_y after_r after_s e =
    let marks = marks_same (is_marked x.op) (is_marked y.op) x.key y.key (behind_key x.op x.values r) (behind_key y.op y.values s) is_x.key_form is_y.key_form (sym (in_pieces x.op x.key x.values r) ∙ (e ∙ in_pieces y.op y.key y.values s)) in
    let keys = pieces_same is_key_byte x.key y.key (behind_key x.op x.values r) (behind_key y.op y.values s) (label_key-bytes x.key is_x.key_form) (label_key-bytes y.key is_y.key_form) (behind_stops x.op x.values r after_r) (behind_stops y.op y.values s after_s) marks.1 in
    let rest = behind_same x.values y.values r s is_x.value_forms is_y.value_forms after_r after_s x.op y.op is_x.value_count is_y.value_count marks.0 keys.1 in
    ((λ i. record { key = keys.0 i; op = rest.0 i; values = rest.1 i }), rest.2)

-- no need's text begins with the byte that ends the needs
need_first : (x : Requirement) → IsNeed x → (t u : List ℕ) → need_text x ++ t ≡ 93 ∷ u → ⊥
need_first x is t u e = by_mark (is_marked x.op) (sym (in_pieces x.op x.key x.values t) ∙ e)
  where
    by_mark : (m : Bool) → mark_text m ++ (x.key ++ behind_key x.op x.values t) ≡ 93 ∷ u → ⊥
    by_mark true e = bytes_differ 33 93 refl cc
    by_mark false e = key_first 93 refl x.key (behind_key x.op x.values t) u is.key_form e

listed_first : (x : Requirement) (xs : List Requirement) → IsNeed x → (t u : List ℕ) → listed (map need_text (x ∷ xs)) ++ t ≡ 93 ∷ u → ⊥
listed_first x [] is t u e = need_first x is t u e
listed_first x (y ∷ ys) is t u e =
    need_first x is (44 ∷ (listed (map need_text (y ∷ ys)) ++ t)) u (sym (append_assoc (need_text x) (44 ∷ listed (map need_text (y ∷ ys))) t) ∙ e)

needs_same : (xs ys : List Requirement) (r s : List ℕ) → AllByRecursion IsNeed xs → AllByRecursion IsNeed ys → listed (map need_text xs) ++ 93 ∷ r ≡ listed (map need_text ys) ++ 93 ∷ s → (xs ≡ ys) × (r ≡ s)
needs_same [] [] r s all_x all_y e = (refl, cc)
needs_same [] (y ∷ ys) r s all_x all_y e = absurd (listed_first y ys all_y.0 (93 ∷ s) r (sym e))
needs_same (x ∷ xs) [] r s all_x all_y e = absurd (listed_first x xs all_x.0 (93 ∷ r) s e)
needs_same (x ∷ xs) (y ∷ ys) r s all_x all_y e =
    list_same need_text IsNeed 93 (λ bad. absurd (omega arith)) need_same x y xs ys r s all_x all_y e

selector_same : (a b : Selection) (r s : List ℕ) → IsSelection a → IsSelection b → selector_text a ++ r ≡ selector_text b ++ s → (a ≡ b) × (r ≡ s)
selector_same a b r s is_a is_b e =
    let tail : (listed (map need_text a.needs) ++ codes "]") ++ r ≡ (listed (map need_text b.needs) ++ codes "]") ++ s = cc in
    let needs = needs_same a.needs b.needs r s is_a.need_forms is_b.need_forms (sym (append_assoc (listed (map need_text a.needs)) (codes "]") r) ∙ (tail ∙ append_assoc (listed (map need_text b.needs)) (codes "]") s)) in
    ((λ i. record { needs = needs.0 i }), needs.1)

-- a namespace's name doesn't begin as a selector does
name_first : (name t u : List ℕ) → is_namespace_name name ≡ true → name ++ t ≡ 91 ∷ u → ⊥
name_first [] t u form e = namespace_name-some form
name_first (b ∷ bs) t u form e =
    let same : b ≡ 91 = cc in
    let first = (and_parts (is_label_byte b) (list_all is_label_byte bs) (namespace_name-bytes (b ∷ bs) form)).0 in
    true≢false (sym first ∙ ap is_label_byte same)

scope_same : (a b : Scope) (r s : List ℕ) → IsWholeScope a → IsWholeScope b → scope_text a ++ 47 ∷ r ≡ scope_text b ++ 47 ∷ s → (a ≡ b) × (r ≡ s)
scope_same (Namespace a) (Namespace b) r s is_a is_b e =
    let names = pieces_same is_label_byte a b (47 ∷ r) (47 ∷ s) (namespace_name-bytes a is_a) (namespace_name-bytes b is_b) refl refl e in
    let tail = names.1 in
    (ap Namespace names.0, cc)
scope_same (Namespace a) (Namespaces b) r s is_a is_b e = absurd (name_first a (47 ∷ r) _ is_a e)
scope_same (Namespaces a) (Namespace b) r s is_a is_b e = absurd (name_first b (47 ∷ s) _ is_b (sym e))
scope_same (Namespaces a) (Namespaces b) r s is_a is_b e =
    let selectors = selector_same a b (47 ∷ r) (47 ∷ s) is_a is_b e in
    let tail = selectors.1 in
    (ap Namespaces selectors.0, cc)

-- two groups with one text are one group
pub group_same : (a b : Group) → IsGroup a → IsGroup b → group_text a ≡ group_text b → a ≡ b
group_same a b is_a is_b e =
    let scopes = scope_same a.scope b.scope (selector_text a.pods) (selector_text b.pods) is_a.scope_form is_b.scope_form e in
    let pods = selector_same a.pods b.pods [] [] is_a.pods_form is_b.pods_form (append-nil (selector_text a.pods) ∙ (scopes.1 ∙ sym (append-nil (selector_text b.pods)))) in
    (λ i. record { scope = scopes.0 i; pods = pods.0 i })
