-- The different addresses of an egress node stay within the marks.
use Rattle.std.proofs.Common.{◌≡◌, ℕ, suc, ◌≤◌, List, [], ◌∷◌, length, map, filter, Bool, true, false, not, ◌&&◌, ◌||◌, if◌then◌else◌, refl, sym, ap, subst, ◌∙◌, arith}
use Rattle.std.specs.Prelude.{nat_lt}
use Rattle.std.specs.List.{AllByRecursion, list_any}
use Rattle.std.specs.declared.cmp.Ordering.{Ordering}
use Rattle.std.specs.declared.cmp.Ordering.TheVariants.{Less, Equal, Greater}
use Rattle.std.specs.Cmp.{IsTotalOrder}
use Rattle.std.specs.FinMap.{IsAntisymmetric}
use Rattle.std.specs.Ordering.{eq_by_cmp, is_eq, ordering_reverse}
use Rattle.std.proofs.lemmas.Bool.{true≢false, ltb-false}
use Rattle.std.proofs.lemmas.Cmp.{tied_itself}
use Rattle.cl_types.specs.declared.addr.Addr.{Addr}
use Rattle.cl_types.specs.Addr.{addr_order, addr_order_total}
use Rattle.cl_types.specs.Ascending.{Ascends, put, without, sorted_set}
use Rattle.cl_types.specs.AscendingLaws.{ascends_sorted}
use Rattle.cl_types.specs.ListLaws.{all_weaker}
use Rattle.cl_types.specs.OrderLaws.{addr_order_exact, text_eq-cmp, text_eq-itself, text_eq-one}
use Rattle.cl_types.specs.SortedSetLaws.{list_any-sorted_set, ascending_same}
use Rattle.cl_types.specs.Text.{text_eq, text_order, text_order_total}
use Rattle.cluster_objects.specs.Apply.{at_egress}
use Rattle.cluster_objects.proofs.Puts.{any_put}
use Rattle.cluster_objects.proofs.Refusals.{none_passes}
use Rattle.cluster_types.specs.Choice.{egress_counts, is_listed, marked_addresses}
use Rattle.cluster_types.specs.Cluster.{ClusterData, HasMarksEnough}
use Rattle.cluster_types.specs.Egress.{EgressData, addresses_of_node, addresses_beside}
use Rattle.cluster_types.specs.Limits.{max_marks}
use Rattle.cluster_types.specs.Node.{NodeData}

-- ---- of two ascending lists, one in the other, the other is no shorter

module _ {T : Type 0} {cmp : T → T → Ordering} (o : IsTotalOrder cmp) (exact : IsAntisymmetric cmp) where
  abbrev is_in : T → List T → Bool
  is_in x xs = list_any (eq_by_cmp cmp x) xs

  abbrev AllAfter : T → List T → Type 0
  AllAfter x xs = AllByRecursion (λ y. cmp x y ≡ Less) xs

  abbrev Within : List T → List T → Type 0
  Within xs ys = (z : T) → is_in z xs ≡ true → is_in z ys ≡ true

  not_in : (x : T) (xs : List T) → AllAfter x xs → is_in x xs ≡ false
  not_in x [] after = refl
  not_in x (y ∷ ys) after = ap (λ r. is_eq r || is_in x ys) after.0 ∙ not_in x ys after.1

  further : (x y : T) (ys : List T) → cmp x y ≡ Less → AllAfter y ys → AllAfter x ys
  further x y [] less after = tt
  further x y (z ∷ zs) less after = (o.trans x y z less after.0, further x y zs less after.1)

  in_first : (x : T) (xs : List T) → is_in x (x ∷ xs) ≡ true
  in_first x xs = ap (λ r. is_eq r || is_in x xs) (tied_itself o x)

  in_rest : (z y : T) (ys : List T) (r : Ordering) → cmp z y ≡ r → (r ≡ Equal → ⊥) → is_in z (y ∷ ys) ≡ true → is_in z ys ≡ true
  in_rest z y ys Less is not e = sym (ap (λ s. is_eq s || is_in z ys) is) ∙ e
  in_rest z y ys Equal is not e = absurd (not refl)
  in_rest z y ys Greater is not e = sym (ap (λ s. is_eq s || is_in z ys) is) ∙ e

  in_more : (z x : T) (xs : List T) → is_in z xs ≡ true → is_in z (x ∷ xs) ≡ true
  in_more z x xs e = by_test (is_eq (cmp z x)) e
    where
      by_test : (b : Bool) → is_in z xs ≡ true → (b || is_in z xs) ≡ true
      by_test true f = refl
      by_test false f = f

  pub no_longer : (xs ys : List T) → Ascends (λ x. x) cmp xs → Ascends (λ x. x) cmp ys → Within xs ys → length xs ≤ length ys
  no_longer [] ys up down within = omega arith
  no_longer (x ∷ xs) [] up down within = absurd (true≢false (sym (within x (in_first x xs))))
  no_longer (x ∷ xs) (y ∷ ys) up down within = by_order (cmp x y) refl (no_longer xs ys up.1 down.1) (no_longer (x ∷ xs) ys up down.1)
    where
      by_order : (r : Ordering) → cmp x y ≡ r → (Within xs ys → length xs ≤ length ys) → (Within (x ∷ xs) ys → suc (length xs) ≤ length ys) → suc (length xs) ≤ suc (length ys)
      by_order Less is both behind =
          absurd (true≢false (sym (within x (in_first x xs)) ∙ not_in x (y ∷ ys) (is, further x y ys is down.0)))
      by_order Equal is both behind =
          let same : x ≡ y = exact x y is in
          let rest = both (λ z e. in_rest z y ys (cmp z y) refl
          (λ tied. true≢false (sym e ∙ ap (λ w. is_in w xs) (exact z y tied ∙ sym same) ∙ not_in x xs up.0))
          (within z (in_more z x xs e))) in
          omega (arith, rest)
      by_order Greater is both behind =
          let less : cmp y x ≡ Less = o.antisymm y x ∙ ap ordering_reverse is in
          let rest = behind (λ z e. in_rest z y ys (cmp z y) refl
          (λ tied. true≢false (sym e ∙ ap (λ w. is_in w (x ∷ xs)) (exact z y tied) ∙ not_in y (x ∷ xs) (less, further y x xs less up.0)))
          (within z e)) in
          omega (arith, rest)

-- ---- what some item of a list passes

any_of_kept : {X Y : Type 0} (f : X → Y) (keep : X → Bool) (p : Y → Bool) (xs : List X) → list_any p (map f (filter keep xs)) ≡ list_any (λ x. keep x && p (f x)) xs
any_of_kept f keep p [] = refl
any_of_kept f keep p (x ∷ xs) = by_test (keep x) (any_of_kept f keep p xs)
  where
    by_test : (b : Bool) → list_any p (map f (filter keep xs)) ≡ list_any (λ y. keep y && p (f y)) xs
        → list_any p (map f (if b then x ∷ filter keep xs else filter keep xs)) ≡ ((b && p (f x)) || list_any (λ y. keep y && p (f y)) xs)
    by_test true rest = ap (λ b. p (f x) || b) rest
    by_test false rest = rest

any_kept : {X : Type 0} (keep p : X → Bool) (xs : List X) → list_any p (filter keep xs) ≡ list_any (λ x. keep x && p x) xs
any_kept keep p [] = refl
any_kept keep p (x ∷ xs) = by_test (keep x) (any_kept keep p xs)
  where
    by_test : (b : Bool) → list_any p (filter keep xs) ≡ list_any (λ y. keep y && p y) xs
        → list_any p (if b then x ∷ filter keep xs else filter keep xs) ≡ ((b && p x) || list_any (λ y. keep y && p y) xs)
    by_test true rest = ap (λ b. p x || b) rest
    by_test false rest = rest

any_same : {X : Type 0} (p q : X → Bool) → ((x : X) → p x ≡ q x) → (xs : List X) → list_any p xs ≡ list_any q xs
any_same p q same [] = refl
any_same p q same (x ∷ xs) = ap (λ b. b || list_any p xs) (same x) ∙ ap (λ b. q x || b) (any_same p q same xs)

-- what some kept item passes some item passes
any_before : {X : Type 0} (keep p : X → Bool) (xs : List X) → list_any p (filter keep xs) ≡ true → list_any p xs ≡ true
any_before keep p [] e = e
any_before keep p (x ∷ xs) e = by_test (keep x) (p x) refl e (any_before keep p xs)
  where
    by_test : (b t : Bool) → p x ≡ t → list_any p (if b then x ∷ filter keep xs else filter keep xs) ≡ true → (list_any p (filter keep xs) ≡ true → list_any p xs ≡ true) → (t || list_any p xs) ≡ true
    by_test b true is f rest = refl
    by_test true false is f rest = rest (sym (ap (λ s. s || list_any p (filter keep xs)) is) ∙ f)
    by_test false false is f rest = rest f

-- ---- the addresses of a node

abbrev address : EgressData → Addr
address e = e.address

abbrev name_of : EgressData → List ℕ
name_of e = e.name

-- some Egress of the node has an address that passes
abbrev passes : List ℕ → (Addr → Bool) → EgressData → Bool
passes node p e = text_eq e.node node && p e.address

addresses_pass : (node : List ℕ) (p : Addr → Bool) (es : List EgressData) → list_any p (addresses_of_node node es) ≡ list_any (passes node p) es
addresses_pass node p es = any_of_kept address (λ (e : EgressData). text_eq e.node node) p es

-- no more different addresses where all are among the others
fewer : (xs ys : List Addr) → ((p : Addr → Bool) → list_any p xs ≡ true → list_any p ys ≡ true) → length (sorted_set addr_order xs) ≤ length (sorted_set addr_order ys)
fewer xs ys among =
    no_longer addr_order_total addr_order_exact (sorted_set addr_order xs) (sorted_set addr_order ys) (ascends_sorted (λ a. a) addr_order_total xs) (ascends_sorted (λ a. a) addr_order_total ys)
    (λ z e. list_any-sorted_set addr_order_exact (eq_by_cmp addr_order z) ys ∙ among (eq_by_cmp addr_order z) (sym (list_any-sorted_set addr_order_exact (eq_by_cmp addr_order z) xs) ∙ e))

enough_among : (xs ys : List Addr) → ((p : Addr → Bool) → list_any p xs ≡ true → list_any p ys ≡ true) → length (sorted_set addr_order ys) ≤ max_marks → length (sorted_set addr_order xs) ≤ max_marks
enough_among xs ys among enough = let less = fewer xs ys among in omega (arith, less, enough)

-- ---- Egresses are left out

pub marks_left : (keep : EgressData → Bool) (es : List EgressData) (ns : List NodeData) → AllByRecursion (HasMarksEnough es) ns → AllByRecursion (HasMarksEnough (filter keep es)) ns
marks_left keep es ns enough = all_weaker (HasMarksEnough es) (HasMarksEnough (filter keep es)) one ns enough
  where
    one : (n : NodeData) → HasMarksEnough es n → HasMarksEnough (filter keep es) n
    one n =
        enough_among (addresses_of_node n.name (filter keep es)) (addresses_of_node n.name es)
        (λ p e. addresses_pass n.name p es ∙ any_before keep (passes n.name p) es (sym (addresses_pass n.name p (filter keep es)) ∙ e))

-- ---- an Egress is put

and_grouped : (a b c : Bool) → (a && (b && c)) ≡ ((a && b) && c)
and_grouped true b c = refl
and_grouped false b c = refl

back : (r : Ordering) → is_eq (ordering_reverse r) ≡ is_eq r
back Less = refl
back Equal = refl
back Greater = refl

module _ (e : EgressData) (es : List EgressData) (up : Ascends name_of text_order es) where
  abbrev after : List EgressData
  after = put (at_egress e.name) e es

  other : (x : EgressData) → text_eq x.name e.name ≡ is_eq (text_order x.name e.name)
  other x = text_eq-cmp x.name e.name ∙ ap is_eq (text_order_total.antisymm e.name x.name) ∙ back (text_order x.name e.name)

  put_passes : (p : EgressData → Bool) → list_any p after ≡ (p e || list_any p (without (at_egress e.name) es))
  put_passes p = any_put name_of text_order_total e p es up

  members : (p : Addr → Bool) → list_any p (addresses_of_node e.node after) ≡ list_any p (addresses_beside e es)
  members p =
      addresses_pass e.node p after
      ∙ put_passes (passes e.node p)
      ∙ ap (λ b. (b && p e.address) || list_any (passes e.node p) (without (at_egress e.name) es)) (text_eq-itself e.node)
      ∙ ap (λ b. p e.address || b)
      (any_kept (λ (x : EgressData). not (is_eq (at_egress e.name x))) (passes e.node p) es
      ∙ any_same (λ (x : EgressData). not (is_eq (at_egress e.name x)) && passes e.node p x) (λ (x : EgressData). (not (text_eq x.name e.name) && text_eq x.node e.node) && p x.address) each es
      ∙ sym (any_of_kept address (λ (x : EgressData). not (text_eq x.name e.name) && text_eq x.node e.node) p es))
    where
      each : (x : EgressData) → (not (is_eq (at_egress e.name x)) && passes e.node p x) ≡ ((not (text_eq x.name e.name) && text_eq x.node e.node) && p x.address)
      each x =
          and_grouped (not (is_eq (at_egress e.name x))) (text_eq x.node e.node) (p x.address)
          ∙ ap (λ b. (not b && text_eq x.node e.node) && p x.address) (sym (other x))

  -- the node's own addresses are those beside the Egress
  own : sorted_set addr_order (addresses_of_node e.node after) ≡ sorted_set addr_order (addresses_beside e es)
  own =
      ascending_same addr_order_total addr_order_exact (sorted_set addr_order (addresses_of_node e.node after)) (sorted_set addr_order (addresses_beside e es))
      (ascends_sorted (λ a. a) addr_order_total (addresses_of_node e.node after)) (ascends_sorted (λ a. a) addr_order_total (addresses_beside e es))
      (λ a. list_any-sorted_set addr_order_exact (eq_by_cmp addr_order a) (addresses_of_node e.node after)
      ∙ members (eq_by_cmp addr_order a)
      ∙ sym (list_any-sorted_set addr_order_exact (eq_by_cmp addr_order a) (addresses_beside e es)))

  at_other_node : (n : NodeData) → text_eq e.node n.name ≡ false → HasMarksEnough es n → HasMarksEnough after n
  at_other_node n differs =
      enough_among (addresses_of_node n.name after) (addresses_of_node n.name es)
      (λ p passing. addresses_pass n.name p es
      ∙ any_before (λ (x : EgressData). not (is_eq (at_egress e.name x))) (passes n.name p) es
      (sym (ap (λ b. (b && p e.address) || list_any (passes n.name p) (without (at_egress e.name) es)) differs)
      ∙ sym (put_passes (passes n.name p)) ∙ sym (addresses_pass n.name p after) ∙ passing))

  at_node : length (sorted_set addr_order (addresses_beside e es)) ≤ max_marks → (n : NodeData) → HasMarksEnough es n → HasMarksEnough after n
  at_node enough n before = by_name (text_eq e.node n.name) refl
    where
      by_name : (b : Bool) → text_eq e.node n.name ≡ b → HasMarksEnough after n
      by_name true is =
          subst (λ name. length (sorted_set addr_order (addresses_of_node name after)) ≤ max_marks) (text_eq-one e.node n.name is)
          (subst (λ marked. length marked ≤ max_marks) (sym own) enough)
      by_name false is = at_other_node n is before

  turned : (a b : List ℕ) → text_eq a b ≡ false → text_eq b a ≡ false
  turned a b differs = by_test (text_eq b a) refl
    where
      by_test : (t : Bool) → text_eq b a ≡ t → t ≡ false
      by_test true is = absurd (true≢false (sym (text_eq-itself a) ∙ ap (λ c. text_eq a c) (sym (text_eq-one b a is)) ∙ differs))
      by_test false is = refl

  unlisted : (ns : List NodeData) → AllByRecursion (λ (n : NodeData). text_eq n.name e.node ≡ false) ns → AllByRecursion (HasMarksEnough es) ns → AllByRecursion (HasMarksEnough after) ns
  unlisted [] others enough = tt
  unlisted (n ∷ ns) others enough = (at_other_node n (turned n.name e.node others.0) enough.0, unlisted ns others.1 enough.1)

  pub marks_put : (ns : List NodeData) → (list_any (λ (n : NodeData). text_eq n.name e.node) ns && nat_lt max_marks (length (sorted_set addr_order (addresses_beside e es)))) ≡ false
      → AllByRecursion (HasMarksEnough es) ns → AllByRecursion (HasMarksEnough after) ns
  marks_put ns none enough = by_listed (list_any (λ (n : NodeData). text_eq n.name e.node) ns) refl none
    where
      by_listed : (b : Bool) → list_any (λ (n : NodeData). text_eq n.name e.node) ns ≡ b → (b && nat_lt max_marks (length (sorted_set addr_order (addresses_beside e es)))) ≡ false → AllByRecursion (HasMarksEnough after) ns
      by_listed true is few = all_weaker (HasMarksEnough es) (HasMarksEnough after) (at_node (ltb-false max_marks (length (sorted_set addr_order (addresses_beside e es))) few)) ns enough
      by_listed false is few = unlisted ns (none_passes (λ (n : NodeData). text_eq n.name e.node) ns is) enough

-- ---- the marked addresses of any node

any_weaker : {X : Type 0} (p q : X → Bool) → ((x : X) → p x ≡ true → q x ≡ true) → (xs : List X) → list_any p xs ≡ true → list_any q xs ≡ true
any_weaker p q f [] e = e
any_weaker p q f (x ∷ xs) e = by_test (p x) (q x) refl refl e (any_weaker p q f xs)
  where
    by_test : (b t : Bool) → p x ≡ b → q x ≡ t → (b || list_any p xs) ≡ true → (list_any p xs ≡ true → list_any q xs ≡ true) → (t || list_any q xs) ≡ true
    by_test b true is are g rest = refl
    by_test true false is are g rest = absurd (true≢false (sym (f x is) ∙ are))
    by_test false false is are g rest = rest g

filter_none : {X : Type 0} (keep : X → Bool) → ((x : X) → keep x ≡ false) → (xs : List X) → filter keep xs ≡ []
filter_none keep fails [] = refl
filter_none keep fails (x ∷ xs) = ap (λ b. if b then x ∷ filter keep xs else filter keep xs) (fails x) ∙ filter_none keep fails xs

module _ (c : ClusterData) (node : List ℕ) (enough : AllByRecursion (HasMarksEnough c.egresses) c.nodes) where
  abbrev is_marking : EgressData → Bool
  is_marking e = egress_counts c e && text_eq e.node node

  among : (p : Addr → Bool) → list_any p (map address (filter is_marking c.egresses)) ≡ true → list_any p (addresses_of_node node c.egresses) ≡ true
  among p e =
      addresses_pass node p c.egresses
      ∙ any_weaker (λ (x : EgressData). is_marking x && p x.address) (passes node p) weaker c.egresses (sym (any_of_kept address is_marking p c.egresses) ∙ e)
    where
      by_test : (a b t : Bool) → ((a && b) && t) ≡ true → (b && t) ≡ true
      by_test true b t f = f
      by_test false b t f = cc

      weaker : (x : EgressData) → (is_marking x && p x.address) ≡ true → passes node p x ≡ true
      weaker x f = by_test (egress_counts c x) (text_eq x.node node) (p x.address) f

  listed_enough : (ns : List NodeData) → list_any (λ (n : NodeData). text_eq n.name node) ns ≡ true → AllByRecursion (HasMarksEnough c.egresses) ns
      → length (sorted_set addr_order (addresses_of_node node c.egresses)) ≤ max_marks
  listed_enough [] e all = cc
  listed_enough (n ∷ ns) e all = by_name (text_eq n.name node) refl e (λ f. listed_enough ns f all.1)
    where
      by_name : (b : Bool) → text_eq n.name node ≡ b → (b || list_any (λ (m : NodeData). text_eq m.name node) ns) ≡ true
          → (list_any (λ (m : NodeData). text_eq m.name node) ns ≡ true → length (sorted_set addr_order (addresses_of_node node c.egresses)) ≤ max_marks)
          → length (sorted_set addr_order (addresses_of_node node c.egresses)) ≤ max_marks
      by_name true is f rest = subst (λ name. length (sorted_set addr_order (addresses_of_node name c.egresses)) ≤ max_marks) (text_eq-one n.name node is) all.0
      by_name false is f rest = rest f

  none_marks : is_listed c node ≡ false → (e : EgressData) → is_marking e ≡ false
  none_marks absent e = by_name (text_eq e.node node) refl
    where
      not_both : (b : Bool) → (b && false) ≡ false
      not_both true = refl
      not_both false = refl

      by_name : (b : Bool) → text_eq e.node node ≡ b → (egress_counts c e && b) ≡ false
      by_name true is = ap (λ name. is_listed c name && true) (text_eq-one e.node node is) ∙ ap (λ t. t && true) absent
      by_name false is = not_both (egress_counts c e)

  pub marks_suffice : length (marked_addresses c node) ≤ max_marks
  marks_suffice = by_listed (is_listed c node) refl
    where
      by_listed : (b : Bool) → is_listed c node ≡ b → length (marked_addresses c node) ≤ max_marks
      by_listed true is = enough_among (map address (filter is_marking c.egresses)) (addresses_of_node node c.egresses) among (listed_enough c.nodes is enough)
      by_listed false is =
          subst (λ es. length (sorted_set addr_order (map address es)) ≤ max_marks) (sym (filter_none is_marking (none_marks is) c.egresses)) (omega arith)
