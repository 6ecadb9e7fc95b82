-- What stands at a name after changes.
use Rattle.std.proofs.Common.{◌≡◌, ℕ, List, [], ◌∷◌, ◌++◌, Bool, true, false, not, Option, Some, None, map, if◌then◌else◌, refl, sym, ap, ◌∙◌}
use Rattle.std.specs.List.{flat_map}
use Rattle.std.specs.declared.cmp.Ordering.{Ordering}
use Rattle.std.specs.declared.cmp.Ordering.TheVariants.{Less, Equal, Greater}
use Rattle.std.specs.Ordering.{is_eq, match_ordering, ordering_reverse}
use Rattle.std.proofs.lemmas.Cmp.{nat_list_cmp_total}
use Rattle.cl_types.specs.declared.stream.Stream.{Stream}
use Rattle.cl_types.specs.Ascending.{found, put}
use Rattle.cl_types.specs.AscendingLaws.{found_put, ascends_put}
use Rattle.label_select.specs.Group.{Group}
use Rattle.label_select.specs.Written.{group_text}
use Rattle.watch_streams.specs.declared.message.StreamChange.{StreamChange}
use Rattle.watch_streams.specs.declared.message.StreamChange.TheVariants as change
use Rattle.watch_streams.specs.declared.message.StreamObject.{StreamObject}
use Rattle.watch_streams.specs.declared.message.StreamObject.TheVariants as object
use Rattle.watch_streams.specs.Difference.{belongs, name_belongs, settled, members_of, patched, put_object, without, after_change, after_changes}
use Rattle.cl_types.specs.Text.{text_order}
use Rattle.watch_streams.specs.Names.{name_of, changed_name, name_text, object_text, at_text, AscendByName}
use Rattle.watch_streams.specs.Net.{MemberData}
use Rattle.cl_types.specs.AscendingLaws.{passed, ascends_filter, found_filter, found_at}
use Rattle.cl_types.specs.AscendingLaws.{none_behind}
use Rattle.cl_types.specs.OrderLaws.{text_order_exact}

abbrev pub change_text : StreamChange → List ℕ
change_text c = name_text (changed_name c)

abbrev pub put_cell : Stream → StreamObject → Option StreamObject → Option StreamObject
put_cell s o x = if belongs s o then Some o else x

abbrev pub patched_object : Group → Option StreamObject → List MemberData → List MemberData → StreamObject
patched_object group x added removed = object.Group group (patched (members_of x) added removed)

-- what stands at a change's name after it
abbrev pub cell : Stream → StreamChange → Option StreamObject → Option StreamObject
cell s (change.Put o) x = put_cell s (settled o) x
cell s (change.Remove n) x = if name_belongs s n then None else x
cell s (change.Patch group added removed) x = put_cell s (patched_object group x added removed) x

abbrev pub cells : Stream → List StreamChange → Option StreamObject → Option StreamObject
cells s [] x = x
cells s (c ∷ cs) x = cells s cs (cell s c x)

pub settled_name : (o : StreamObject) → name_of (settled o) ≡ name_of o
settled_name (object.Policy p) = refl
settled_name (object.Egress e) = refl
settled_name (object.Group group members) = refl

pub either_way : {T : Type 0} (b : Bool) (x : T) → (if b then x else x) ≡ x
either_way true x = refl
either_way false x = refl

ascends_put_object : (s : Stream) (o : StreamObject) (held : List StreamObject) → AscendByName held → AscendByName (put_object s o held)
ascends_put_object s o held up = by_test (belongs s o)
  where
    by_test : (b : Bool) → AscendByName (if b then put (at_text (object_text o)) o held else held)
    by_test true = ascends_put object_text nat_list_cmp_total o held up
    by_test false = up

pub ascends_change : (s : Stream) (c : StreamChange) (held : List StreamObject) → AscendByName held → AscendByName (after_change s c held)
ascends_change s (change.Put o) held up = ascends_put_object s (settled o) held up
ascends_change s (change.Remove n) held up = by_test (name_belongs s n)
  where
    by_test : (b : Bool) → AscendByName (if b then without (name_text n) held else held)
    by_test true = ascends_filter object_text nat_list_cmp_total (λ o. not (is_eq (at_text (name_text n) o))) held up
    by_test false = up
ascends_change s (change.Patch group added removed) held up = ascends_put_object s (patched_object group (found (at_text (group_text group)) held) added removed) held up

pub ascends_changes : (s : Stream) (cs : List StreamChange) (held : List StreamObject) → AscendByName held → AscendByName (after_changes s cs held)
ascends_changes s [] held up = up
ascends_changes s (c ∷ cs) held up = ascends_changes s cs (after_change s c held) (ascends_change s c held up)

found_put_object : (s : Stream) (o : StreamObject) (t : List ℕ) (held : List StreamObject)
    → found (at_text t) (put_object s o held) ≡ (if is_eq (text_order (object_text o) t) then put_cell s o (found (at_text t) held) else found (at_text t) held)
found_put_object s o t held = by_test (belongs s o)
  where
    by_test : (b : Bool) → found (at_text t) (if b then put (at_text (object_text o)) o held else held)
        ≡ (if is_eq (text_order (object_text o) t) then (if b then Some o else found (at_text t) held) else found (at_text t) held)
    by_test true = found_put object_text nat_list_cmp_total t o held
    by_test false = sym (either_way (is_eq (text_order (object_text o) t)) (found (at_text t) held))

eq_back : (t u : List ℕ) → is_eq (text_order t u) ≡ is_eq (text_order u t)
eq_back t u = ap is_eq (nat_list_cmp_total.antisymm t u) ∙ back (text_order u t)
  where
    back : (r : Ordering) → is_eq (ordering_reverse r) ≡ is_eq r
    back Less = refl
    back Equal = refl
    back Greater = refl

turned : (b : Bool) (x : Option StreamObject) → (if not b then x else None) ≡ (if b then None else x)
turned true x = refl
turned false x = refl

-- an object under another name than a removed one stays
found_without : (u t : List ℕ) (held : List StreamObject) → AscendByName held
    → found (at_text t) (without u held) ≡ (if is_eq (text_order u t) then None else found (at_text t) held)
found_without u t held up =
    found_filter object_text nat_list_cmp_total (λ o. not (is_eq (at_text u o))) t held up ∙ kept (found (at_text t) held) refl
  where
    kept : (x : Option StreamObject) → found (at_text t) held ≡ x → passed (λ o. not (is_eq (at_text u o))) x ≡ (if is_eq (text_order u t) then None else x)
    kept None e = sym (either_way (is_eq (text_order u t)) None)
    kept (Some o) e =
        let there : object_text o ≡ t = text_order_exact (object_text o) t (found_at (at_text t) held o e) in
        ap (λ b. if not b then Some o else None) (ap (λ z. is_eq (text_order z u)) there ∙ eq_back t u) ∙ turned (is_eq (text_order u t)) (Some o)

pub found_change : (s : Stream) (c : StreamChange) (t : List ℕ) (held : List StreamObject) → AscendByName held
    → found (at_text t) (after_change s c held) ≡ (if is_eq (text_order (change_text c) t) then cell s c (found (at_text t) held) else found (at_text t) held)
found_change s (change.Put o) t held up =
    found_put_object s (settled o) t held
    ∙ ap (λ n. if is_eq (text_order (name_text n) t) then put_cell s (settled o) (found (at_text t) held) else found (at_text t) held) (settled_name o)
found_change s (change.Remove n) t held up = by_test (name_belongs s n) (found_without (name_text n) t held up)
  where
    by_test : (b : Bool) → found (at_text t) (without (name_text n) held) ≡ (if is_eq (text_order (name_text n) t) then None else found (at_text t) held)
        → found (at_text t) (if b then without (name_text n) held else held) ≡ (if is_eq (text_order (name_text n) t) then (if b then None else found (at_text t) held) else found (at_text t) held)
    by_test true rest = rest
    by_test false rest = sym (either_way (is_eq (text_order (name_text n) t)) (found (at_text t) held))
found_change s (change.Patch group added removed) t held up =
    found_put_object s (there (group_text group)) t held ∙ by_order (text_order (group_text group) t) refl
  where
    there : List ℕ → StreamObject
    there u = patched_object group (found (at_text u) held) added removed

    by_order : (r : Ordering) → text_order (group_text group) t ≡ r
        → (if is_eq r then put_cell s (there (group_text group)) (found (at_text t) held) else found (at_text t) held) ≡ (if is_eq r then put_cell s (there t) (found (at_text t) held) else found (at_text t) held)
    by_order Less is = refl
    by_order Equal is = ap (λ u. put_cell s (there u) (found (at_text t) held)) (text_order_exact (group_text group) t is)
    by_order Greater is = refl

-- at most one change, under this name
abbrev pub IsAt : List ℕ → List StreamChange → Type 0
IsAt u [] = Unit {0}
IsAt u (c ∷ []) = change_text c ≡ u
IsAt u (c ∷ d ∷ cs) = ⊥

found_changes_at : (s : Stream) (u t : List ℕ) (cs : List StreamChange) (held : List StreamObject) → AscendByName held → IsAt u cs
    → found (at_text t) (after_changes s cs held) ≡ (if is_eq (text_order u t) then cells s cs (found (at_text t) held) else found (at_text t) held)
found_changes_at s u t [] held up is = sym (either_way (is_eq (text_order u t)) (found (at_text t) held))
found_changes_at s u t (c ∷ []) held up is =
    found_change s c t held up ∙ ap (λ z. if is_eq (text_order z t) then cell s c (found (at_text t) held) else found (at_text t) held) is
found_changes_at s u t (c ∷ d ∷ cs) held up is = absurd is

after_both : (s : Stream) (xs ys : List StreamChange) (held : List StreamObject) → after_changes s (xs ++ ys) held ≡ after_changes s ys (after_changes s xs held)
after_both s [] ys held = refl
after_both s (x ∷ xs) ys held = after_both s xs ys (after_change s x held)

-- the one where something stands, and else the other
abbrev pub where_there : Option StreamObject → Option StreamObject → Option StreamObject → Option StreamObject
where_there None a b = b
where_there (Some m) a b = a

-- changes under the names of a map's objects, one after another
pub found_changes : (s : Stream) (changes : List ℕ → List StreamChange) → ((u : List ℕ) → IsAt u (changes u))
    → (map_of held : List StreamObject) → AscendByName map_of → AscendByName held → (t : List ℕ)
    → found (at_text t) (after_changes s (flat_map changes (map object_text map_of)) held) ≡ where_there (found (at_text t) map_of) (cells s (changes t) (found (at_text t) held)) (found (at_text t) held)
found_changes s changes each [] held mp up t = refl
found_changes s changes each (m ∷ ms) held mp up t =
    ap (found (at_text t)) (after_both s (changes u) (flat_map changes (map object_text ms)) held)
    ∙ (found_changes s changes each ms held1 mp.1 (ascends_changes s (changes u) held up) t
    ∙ by_order (text_order u t) refl)
  where
    u : List ℕ
    u = object_text m

    held1 : List StreamObject
    held1 = after_changes s (changes u) held

    first : found (at_text t) held1 ≡ (if is_eq (text_order u t) then cells s (changes u) (found (at_text t) held) else found (at_text t) held)
    first = found_changes_at s u t (changes u) held up (each u)

    none : (r : Ordering) → text_order u t ≡ r → (r ≡ Less → ⊥) → found (at_text t) ms ≡ None
    none r is not = none_behind object_text nat_list_cmp_total t m ms r is not mp.0

    by_order : (r : Ordering) → text_order u t ≡ r
        → where_there (found (at_text t) ms) (cells s (changes t) (found (at_text t) held1)) (found (at_text t) held1)
        ≡ where_there (match_ordering r (found (at_text t) ms) (Some m) None) (cells s (changes t) (found (at_text t) held)) (found (at_text t) held)
    by_order Less is =
        let same : found (at_text t) held1 ≡ found (at_text t) held = first ∙ ap (λ r. if is_eq r then cells s (changes u) (found (at_text t) held) else found (at_text t) held) is in
        ap (λ x. where_there (found (at_text t) ms) (cells s (changes t) x) x) same
    by_order Equal is =
        let here : found (at_text t) held1 ≡ cells s (changes u) (found (at_text t) held) = first ∙ ap (λ r. if is_eq r then cells s (changes u) (found (at_text t) held) else found (at_text t) held) is in
        ap (λ x. where_there x (cells s (changes t) (found (at_text t) held1)) (found (at_text t) held1)) (none Equal is (λ q. cc))
        ∙ (here ∙ ap (λ z. cells s (changes z) (found (at_text t) held)) (text_order_exact u t is))
    by_order Greater is =
        let same : found (at_text t) held1 ≡ found (at_text t) held = first ∙ ap (λ r. if is_eq r then cells s (changes u) (found (at_text t) held) else found (at_text t) held) is in
        ap (λ x. where_there x (cells s (changes t) (found (at_text t) held1)) (found (at_text t) held1)) (none Greater is (λ q. cc)) ∙ same
