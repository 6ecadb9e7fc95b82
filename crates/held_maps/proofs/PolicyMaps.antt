-- The map of policies and Egresses: what stands at each name, and what changes of either list are to it.
use Rattle.std.proofs.Common.{◌≡◌, ℕ, List, [], ◌∷◌, ◌++◌, map, flat_map, Bool, true, false, Option, Some, None, option_map, if◌then◌else◌, refl, sym, ap, ◌∙◌, arith}
use Rattle.std.specs.Option.{option_to_list}
use Rattle.std.specs.declared.cmp.Ordering.{Ordering}
use Rattle.std.specs.declared.cmp.Ordering.TheVariants.{Less, Equal, Greater}
use Rattle.std.specs.Ordering.{is_eq, match_ordering}
use Rattle.std.proofs.lemmas.Cmp.{nat_list_cmp_total}
use Rattle.cl_types.specs.declared.keys.PolicyKind.{PolicyKind}
use Rattle.cl_types.specs.declared.keys.PolicyKind.TheVariants.{Cluster, Antrea, Kube}
use Rattle.cl_types.specs.Ascending.{Ascends, found, put, without}
use Rattle.cl_types.specs.AscendingLaws.{found_put, found_without, ascends_put, ascends_without, found_at, equal_maps, none_behind}
use Rattle.cl_types.specs.OrderLaws.{text_order_exact}
use Rattle.cl_types.specs.Text.{text_order}
use Rattle.cl_types.specs.Written.{kind_text, name_text}
use Rattle.watch_streams.specs.declared.message.StreamObject.{StreamObject}
use Rattle.watch_streams.specs.declared.message.StreamObject.TheVariants as object
use Rattle.held_maps.specs.Held.{policy_title, egress_title, policy_object, egress_object, policies_map}
use Rattle.held_maps.proofs.Picked.{picked, part_of, picked_ascend, found_picked}
use Rattle.watch_streams.specs.HeldEvaluation.{egress_in, policy_in}
use Rattle.watch_streams.specs.Names.{object_text, at_text, AscendByName}
use Rattle.watch_streams.specs.Net.{NetPolicyData, NetEgressData}
use Rattle.watch_streams.specs.MapLaws.{first_at, found_by_name, ascends_by_name}

-- the first of the two that is there
abbrev pub or_else : Option StreamObject → Option StreamObject → Option StreamObject
or_else None y = y
or_else (Some x) y = Some x

pub map_ascends : (ps : List NetPolicyData) (es : List NetEgressData) → AscendByName (policies_map ps es)
map_ascends ps es = ascends_by_name (map policy_object ps ++ map egress_object es)

-- ---- what stands at a name

first_both : (t : List ℕ) (xs ys : List StreamObject) → first_at t (xs ++ ys) ≡ or_else (first_at t xs) (first_at t ys)
first_both t [] ys = refl
first_both t (x ∷ xs) ys = by_test (is_eq (text_order (object_text x) t)) (first_both t xs ys)
  where
    by_test : (b : Bool) → first_at t (xs ++ ys) ≡ or_else (first_at t xs) (first_at t ys)
        → (if b then Some x else first_at t (xs ++ ys)) ≡ or_else (if b then Some x else first_at t xs) (first_at t ys)
    by_test true rest = refl
    by_test false rest = rest

module _ {T : Type 0} (title : T → List ℕ) (f : T → StreamObject) (same : (x : T) → object_text (f x) ≡ title x) where
  first_map : (t : List ℕ) (xs : List T) → Ascends title text_order xs → first_at t (map f xs) ≡ option_map f (found (λ x. text_order (title x) t) xs)
  first_map t [] up = refl
  first_map t (x ∷ xs) up =
      ap (λ u. if is_eq (text_order u t) then Some (f x) else first_at t (map f xs)) (same x) ∙ by_order (text_order (title x) t) refl (first_map t xs up.1)
    where
      by_order : (r : Ordering) → text_order (title x) t ≡ r → first_at t (map f xs) ≡ option_map f (found (λ y. text_order (title y) t) xs)
          → (if is_eq r then Some (f x) else first_at t (map f xs)) ≡ option_map f (match_ordering r (found (λ y. text_order (title y) t) xs) (Some x) None)
      by_order Less is rest = rest
      by_order Equal is rest = refl
      by_order Greater is rest = rest ∙ ap (option_map f) (none_behind title nat_list_cmp_total t x xs Greater is (λ q. cc) up.0)

abbrev policy_at : List ℕ → List NetPolicyData → Option NetPolicyData
policy_at t ps = found (λ p. text_order (policy_title p) t) ps

abbrev egress_at : List ℕ → List NetEgressData → Option NetEgressData
egress_at t es = found (λ e. text_order (egress_title e) t) es

abbrev either_at : Option NetPolicyData → Option NetEgressData → Option StreamObject
either_at x y = or_else (option_map policy_object x) (option_map egress_object y)

abbrev Up : List NetPolicyData → Type 0
Up ps = Ascends policy_title text_order ps

abbrev UpToo : List NetEgressData → Type 0
UpToo es = Ascends egress_title text_order es

found_map : (t : List ℕ) (ps : List NetPolicyData) (es : List NetEgressData) → Up ps → UpToo es
    → found (at_text t) (policies_map ps es) ≡ either_at (policy_at t ps) (egress_at t es)
found_map t ps es up too =
    found_by_name t (map policy_object ps ++ map egress_object es)
    ∙ first_both t (map policy_object ps) (map egress_object es)
    ∙ (λ i. or_else (first_map policy_title policy_object (λ p. refl) t ps up i) (first_map egress_title egress_object (λ e. refl) t es too i))

abbrev head : List ℕ → ℕ
head [] = 0
head (x ∷ xs) = x

-- no policy has the text of an Egress's name
no_policy : (p : NetPolicyData) (e : NetEgressData) → policy_title p ≡ egress_title e → ⊥
no_policy p e same = by_kind p.key.kind (ap head same)
  where
    by_kind : (k : PolicyKind) → head (kind_text k ++ name_text k p.key.namespace p.key.name) ≡ 101 → ⊥
    by_kind Cluster e = omega (arith, e)
    by_kind Antrea e = omega (arith, e)
    by_kind Kube e = omega (arith, e)

-- ---- its policies and its Egresses

some_is : {T : Type 0} {x y : T} → Some x ≡ Some y → x ≡ y
some_is e = cc

abbrev policy_of : StreamObject → Option NetPolicyData
policy_of (object.Policy p) = Some p
policy_of (object.Egress e) = None
policy_of (object.Group g ms) = None

policy_named : (o : StreamObject) (p : NetPolicyData) → policy_of o ≡ Some p → object_text o ≡ policy_title p
policy_named (object.Policy q) p e = ap policy_title (some_is e)
policy_named (object.Egress d) p e = cc
policy_named (object.Group g ms) p e = cc

policy_listed : (o : StreamObject) → policy_in o ≡ option_to_list (policy_of o)
policy_listed (object.Policy p) = refl
policy_listed (object.Egress e) = refl
policy_listed (object.Group g ms) = refl

-- among Egresses no policy is found
egresses_alone : (t : List ℕ) (es : List NetEgressData) → part_of policy_title policy_of policy_named (first_at t (map egress_object es)) ≡ None
egresses_alone t [] = refl
egresses_alone t (e ∷ es) = by_test (is_eq (text_order (egress_title e) t)) (egresses_alone t es)
  where
    by_test : (b : Bool) → part_of policy_title policy_of policy_named (first_at t (map egress_object es)) ≡ None
        → part_of policy_title policy_of policy_named (if b then Some (egress_object e) else first_at t (map egress_object es)) ≡ None
    by_test true rest = refl
    by_test false rest = rest

-- the policies of the map are those that it was made of
pub policies_of_map : (ps : List NetPolicyData) (es : List NetEgressData) → Up ps → flat_map policy_in (policies_map ps es) ≡ ps
policies_of_map ps es up =
    (λ i. flat_map (λ o. policy_listed o i) (policies_map ps es))
    ∙ equal_maps policy_title nat_list_cmp_total (picked policy_title policy_of policy_named (policies_map ps es)) ps (picked_ascend policy_title policy_of policy_named (policies_map ps es) (map_ascends ps es)) up
    (λ t.
    found_picked policy_title policy_of policy_named t (policies_map ps es) (map_ascends ps es)
    ∙ ap (part_of policy_title policy_of policy_named)
    (found_by_name t (map policy_object ps ++ map egress_object es)
    ∙ first_both t (map policy_object ps) (map egress_object es)
    ∙ ap (λ x. or_else x (first_at t (map egress_object es))) (first_map policy_title policy_object (λ p. refl) t ps up))
    ∙ by_cases t (policy_at t ps))
  where
    by_cases : (t : List ℕ) (x : Option NetPolicyData) → part_of policy_title policy_of policy_named (or_else (option_map policy_object x) (first_at t (map egress_object es))) ≡ x
    by_cases t (Some p) = refl
    by_cases t None = egresses_alone t es

abbrev egress_of : StreamObject → Option NetEgressData
egress_of (object.Policy p) = None
egress_of (object.Egress e) = Some e
egress_of (object.Group g ms) = None

egress_named : (o : StreamObject) (e : NetEgressData) → egress_of o ≡ Some e → object_text o ≡ egress_title e
egress_named (object.Policy p) e f = cc
egress_named (object.Egress d) e f = ap egress_title (some_is f)
egress_named (object.Group g ms) e f = cc

egress_listed : (o : StreamObject) → egress_in o ≡ option_to_list (egress_of o)
egress_listed (object.Policy p) = refl
egress_listed (object.Egress e) = refl
egress_listed (object.Group g ms) = refl

-- the Egresses of the map are those that it was made of
pub egresses_of_map : (ps : List NetPolicyData) (es : List NetEgressData) → Up ps → UpToo es → flat_map egress_in (policies_map ps es) ≡ es
egresses_of_map ps es up too =
    (λ i. flat_map (λ o. egress_listed o i) (policies_map ps es))
    ∙ equal_maps egress_title nat_list_cmp_total (picked egress_title egress_of egress_named (policies_map ps es)) es (picked_ascend egress_title egress_of egress_named (policies_map ps es) (map_ascends ps es)) too
    (λ t.
    found_picked egress_title egress_of egress_named t (policies_map ps es) (map_ascends ps es)
    ∙ ap (part_of egress_title egress_of egress_named) (found_map t ps es up too)
    ∙ by_cases t (policy_at t ps) refl (egress_at t es) refl)
  where
    by_cases : (t : List ℕ) (x : Option NetPolicyData) → policy_at t ps ≡ x → (y : Option NetEgressData) → egress_at t es ≡ y → part_of egress_title egress_of egress_named (either_at x y) ≡ y
    by_cases t None p_is None e_is = refl
    by_cases t None p_is (Some e) e_is = refl
    by_cases t (Some p) p_is None e_is = refl
    by_cases t (Some p) p_is (Some e) e_is =
        absurd (no_policy p e (text_order_exact (policy_title p) t (found_at (λ q. text_order (policy_title q) t) ps p p_is) ∙ sym (text_order_exact (egress_title e) t (found_at (λ d. text_order (egress_title d) t) es e e_is))))

-- ---- its changes

abbrev chosen : {T : Type 0} → Bool → T → T → T
chosen b x y = if b then x else y

pub put_policy : (p : NetPolicyData) (ps : List NetPolicyData) (es : List NetEgressData) → Up ps → UpToo es
    → policies_map (put (λ q. text_order (policy_title q) (policy_title p)) p ps) es ≡ put (at_text (policy_title p)) (policy_object p) (policies_map ps es)
put_policy p ps es up too =
    equal_maps object_text nat_list_cmp_total _ _ (map_ascends (put (λ q. text_order (policy_title q) (policy_title p)) p ps) es) (ascends_put object_text nat_list_cmp_total (policy_object p) (policies_map ps es) (map_ascends ps es))
    (λ t.
    found_map t (put (λ q. text_order (policy_title q) (policy_title p)) p ps) es (ascends_put policy_title nat_list_cmp_total p ps up) too
    ∙ ap (λ x. either_at x (egress_at t es)) (found_put policy_title nat_list_cmp_total t p ps)
    ∙ by_test (is_eq (text_order (policy_title p) t)) (policy_at t ps) (egress_at t es)
    ∙ ap (λ x. chosen (is_eq (text_order (policy_title p) t)) (Some (policy_object p)) x) (sym (found_map t ps es up too))
    ∙ sym (found_put object_text nat_list_cmp_total t (policy_object p) (policies_map ps es)))
  where
    by_test : (b : Bool) (x : Option NetPolicyData) (y : Option NetEgressData) → either_at (if b then Some p else x) y ≡ chosen b (Some (policy_object p)) (either_at x y)
    by_test true x y = refl
    by_test false x y = refl

pub put_egress : (e : NetEgressData) (ps : List NetPolicyData) (es : List NetEgressData) → Up ps → UpToo es
    → policies_map ps (put (λ d. text_order (egress_title d) (egress_title e)) e es) ≡ put (at_text (egress_title e)) (egress_object e) (policies_map ps es)
put_egress e ps es up too =
    equal_maps object_text nat_list_cmp_total _ _ (map_ascends ps (put (λ d. text_order (egress_title d) (egress_title e)) e es)) (ascends_put object_text nat_list_cmp_total (egress_object e) (policies_map ps es) (map_ascends ps es))
    (λ t.
    found_map t ps (put (λ d. text_order (egress_title d) (egress_title e)) e es) up (ascends_put egress_title nat_list_cmp_total e es too)
    ∙ ap (λ y. either_at (policy_at t ps) y) (found_put egress_title nat_list_cmp_total t e es)
    ∙ by_order t (text_order (egress_title e) t) refl (policy_at t ps) refl (egress_at t es)
    ∙ ap (λ x. chosen (is_eq (text_order (egress_title e) t)) (Some (egress_object e)) x) (sym (found_map t ps es up too))
    ∙ sym (found_put object_text nat_list_cmp_total t (egress_object e) (policies_map ps es)))
  where
    by_order : (t : List ℕ) (r : Ordering) → text_order (egress_title e) t ≡ r → (x : Option NetPolicyData) → policy_at t ps ≡ x → (y : Option NetEgressData)
        → either_at x (if is_eq r then Some e else y) ≡ chosen (is_eq r) (Some (egress_object e)) (either_at x y)
    by_order t Less is x at y = refl
    by_order t Greater is x at y = refl
    by_order t Equal is None at y = refl
    by_order t Equal is (Some p) at y =
        absurd (no_policy p e (text_order_exact (policy_title p) t (found_at (λ q. text_order (policy_title q) t) ps p at) ∙ sym (text_order_exact (egress_title e) t is)))

pub without_name : (u : List ℕ) (ps : List NetPolicyData) (es : List NetEgressData) → Up ps → UpToo es
    → policies_map (without (λ p. text_order (policy_title p) u) ps) (without (λ e. text_order (egress_title e) u) es) ≡ without (at_text u) (policies_map ps es)
without_name u ps es up too =
    equal_maps object_text nat_list_cmp_total _ _ (map_ascends (without (λ p. text_order (policy_title p) u) ps) (without (λ e. text_order (egress_title e) u) es)) (ascends_without object_text nat_list_cmp_total u (policies_map ps es) (map_ascends ps es))
    (λ t.
    found_map t (without (λ p. text_order (policy_title p) u) ps) (without (λ e. text_order (egress_title e) u) es) (ascends_without policy_title nat_list_cmp_total u ps up) (ascends_without egress_title nat_list_cmp_total u es too)
    ∙ (λ i. either_at (found_without policy_title nat_list_cmp_total u t ps up i) (found_without egress_title nat_list_cmp_total u t es too i))
    ∙ by_test (is_eq (text_order u t)) (policy_at t ps) (egress_at t es)
    ∙ ap (λ x. chosen (is_eq (text_order u t)) None x) (sym (found_map t ps es up too))
    ∙ sym (found_without object_text nat_list_cmp_total u t (policies_map ps es) (map_ascends ps es)))
  where
    by_test : (b : Bool) (x : Option NetPolicyData) (y : Option NetEgressData) → either_at (if b then None else x) (if b then None else y) ≡ chosen b None (either_at x y)
    by_test true x y = refl
    by_test false x y = refl
