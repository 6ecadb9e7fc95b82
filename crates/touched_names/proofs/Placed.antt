-- A policy or an Egress that is put or removed touches what it brings and what the old one brought.
use Rattle.std.proofs.Common.{◌≡◌, ℕ, List, [], ◌∷◌, ◌++◌, false, not, Option, Some, None, cond, flat_map, refl, sym, ap, subst, ◌∙◌}
use Rattle.std.specs.List.{AllByRecursion}
use Rattle.std.specs.Option.{option_map_or}
use Rattle.std.specs.declared.cmp.Ordering.{Ordering}
use Rattle.std.specs.declared.cmp.Ordering.TheVariants.{Less, Equal, Greater}
use Rattle.std.specs.Ordering.{is_eq, match_ordering}
use Rattle.std.proofs.lemmas.List.Folds.{list_any-append}
use Rattle.cl_types.specs.declared.stream.Stream.{Stream}
use Rattle.cl_types.specs.declared.stream.Stream.TheVariants.{Policies, Addresses, Applied}
use Rattle.cl_types.specs.Ascending.{Ascends, found, put, without}
use Rattle.cl_types.specs.ListLaws.{all_weaker}
use Rattle.cl_types.specs.OrderLaws.{policy_order_exact, text_order_exact}
use Rattle.cl_types.specs.RuleOrder.{policy_order}
use Rattle.cl_types.specs.Text.{text_order}
use Rattle.cluster_types.specs.Cluster.{ClusterData, HasNodesAlone}
use Rattle.cluster_types.specs.Egress.{EgressData}
use Rattle.cluster_types.specs.Policy.{PolicyData}
use Rattle.watch_streams.specs.declared.message.StreamName.{StreamName}
use Rattle.watch_streams.specs.declared.message.StreamObject.{StreamObject}
use Rattle.watch_streams.specs.Names.{name_text}
use Rattle.watch_streams.specs.OneOfAll.{all_of_both}
use Rattle.touched_names.specs.Elsewhere.{is_named}
use Rattle.touched_names.specs.Standing.{at_egress, at_policy}
use Rattle.touched_names.specs.Touching.{NodesAloneTouchNothing, NothingElseTouches, PutEgressesTouch, PutPoliciesTouch, RemovedEgressesTouch, RemovedPoliciesTouch, SameGround, egress_names, names_at_egress, names_at_policy, policy_names}
use Rattle.touched_names.proofs.Brought.{egress_brings, egress_brings_nothing, here, of_egresses, of_policies, policy_brings, policy_brings_nothing, same_found}
use Rattle.touched_names.proofs.Elsewhere.{neither}

-- ---- lists with one item more or less

-- nothing comes of what was found
abbrev GivesNothing : {T A : Type 0} → (T → List A) → Option T → Type 0
GivesNothing h None = Unit {0}
GivesNothing h (Some x) = h x ≡ []

module _ {T A : Type 0} (at : T → Ordering) (h : T → List A) where
  flat_map-put : (x : T) (xs : List T) → h x ≡ [] → GivesNothing h (found at xs) → flat_map h (put at x xs) ≡ flat_map h xs
  flat_map-put x [] own old = ap (λ z. z ++ []) own
  flat_map-put x (y ∷ ys) own old = by_order (at y) old (flat_map-put x ys own)
    where
      by_order : (r : Ordering) → GivesNothing h (match_ordering r (found at ys) (Some y) None) → (GivesNothing h (found at ys) → flat_map h (put at x ys) ≡ flat_map h ys)
          → flat_map h (match_ordering r (y ∷ put at x ys) (x ∷ ys) (x ∷ y ∷ ys)) ≡ h y ++ flat_map h ys
      by_order Less old rest = ap (λ z. h y ++ z) (rest old)
      by_order Equal old rest = ap (λ z. z ++ flat_map h ys) (own ∙ sym old)
      by_order Greater old rest = ap (λ z. z ++ (h y ++ flat_map h ys)) own

  flat_map-without : (xs : List T) → AllByRecursion (λ y. at y ≡ Equal → h y ≡ []) xs → flat_map h (without at xs) ≡ flat_map h xs
  flat_map-without [] all = refl
  flat_map-without (y ∷ ys) all = by_order (at y) refl (flat_map-without ys all.1)
    where
      by_order : (r : Ordering) → at y ≡ r → flat_map h (without at ys) ≡ flat_map h ys → flat_map h (cond (not (is_eq r)) (y ∷ without at ys) (without at ys)) ≡ h y ++ flat_map h ys
      by_order Less is rest = ap (λ z. h y ++ z) rest
      by_order Equal is rest = rest ∙ ap (λ z. z ++ flat_map h ys) (sym (all.0 is))
      by_order Greater is rest = ap (λ z. h y ++ z) rest

-- each item of an ascending list that stands at a key is the one that is found there
module _ {T K : Type 0} (key : T → K) (cmp : K → K → Ordering) (exact : (a b : K) → cmp a b ≡ Equal → a ≡ b) (k : K) where
  all_found : (xs : List T) → Ascends key cmp xs → AllByRecursion (λ y. cmp (key y) k ≡ Equal → found (λ z. cmp (key z) k) xs ≡ Some y) xs
  all_found [] up = tt
  all_found (x ∷ xs) up = (λ e. ap (λ r. match_ordering r (found (λ z. cmp (key z) k) xs) (Some x) None) e, all_later up.0 (all_found xs up.1))
    where
      one : (y : T) → cmp (key x) (key y) ≡ Less → (cmp (key y) k ≡ Equal → found (λ z. cmp (key z) k) xs ≡ Some y) → cmp (key y) k ≡ Equal → found (λ z. cmp (key z) k) (x ∷ xs) ≡ Some y
      one y less later e =
          ap (λ r. match_ordering r (found (λ z. cmp (key z) k) xs) (Some x) None) (ap (cmp (key x)) (sym (exact (key y) k e)) ∙ less) ∙ later e

      all_later : AllByRecursion (λ y. cmp (key x) (key y) ≡ Less) xs → AllByRecursion (λ y. cmp (key y) k ≡ Equal → found (λ z. cmp (key z) k) xs ≡ Some y) xs
          → AllByRecursion (λ y. cmp (key y) k ≡ Equal → found (λ z. cmp (key z) k) (x ∷ xs) ≡ Some y) xs
      all_later less later = all_of_both (λ y. cmp (key x) (key y) ≡ Less) (λ y. cmp (key y) k ≡ Equal → found (λ z. cmp (key z) k) xs ≡ Some y) (λ y. cmp (key y) k ≡ Equal → found (λ z. cmp (key z) k) (x ∷ xs) ≡ Some y) one xs less later

  all_give_nothing : {A : Type 0} (h : T → List A) (xs : List T) → Ascends key cmp xs → GivesNothing h (found (λ z. cmp (key z) k) xs) → AllByRecursion (λ y. cmp (key y) k ≡ Equal → h y ≡ []) xs
  all_give_nothing h xs up none =
      all_weaker (λ y. cmp (key y) k ≡ Equal → found (λ z. cmp (key z) k) xs ≡ Some y) (λ y. cmp (key y) k ≡ Equal → h y ≡ [])
      (λ y is e. let P : Option T → Type 0 = GivesNothing h in subst P (is e) none) xs (all_found xs up)

flat_map-each : {A B : Type 0} (f g : A → List B) → ((x : A) → f x ≡ g x) → (xs : List A) → flat_map f xs ≡ flat_map g xs
flat_map-each f g same xs = ap (λ (r : _ → List _). flat_map r xs) (λ i x. same x i)

-- ---- what a policy or an Egress brings looks at nodes, namespaces and pods alone

-- the cluster with other rules
abbrev with_rules : ClusterData → ClusterData → ClusterData
with_rules c d = record { nodes = c.nodes; fixed = d.fixed; namespaces = c.namespaces; pods = c.pods; tiers = d.tiers; policies = d.policies; egresses = d.egresses }

grounded : (c d : ClusterData) → SameGround c d → with_rules c d ≡ d
grounded c d ground = sym (λ i. record { nodes = ground.nodes i; fixed = d.fixed; namespaces = ground.namespaces i; pods = ground.pods i; tiers = d.tiers; policies = d.policies; egresses = d.egresses })

policy_ground : (c d : ClusterData) (s : Stream) (node : List ℕ) (p : PolicyData) → policy_brings c s node p ≡ policy_brings (with_rules c d) s node p
policy_ground c d Policies node p = refl
policy_ground c d Addresses node p = refl
policy_ground c d Applied node p = refl

egress_ground : (c d : ClusterData) (s : Stream) (node : List ℕ) (e : EgressData) → egress_brings c s node e ≡ egress_brings (with_rules c d) s node e
egress_ground c d Policies node e = refl
egress_ground c d Addresses node e = refl
egress_ground c d Applied node e = refl

module _ (c d : ClusterData) (ground : SameGround c d) (s : Stream) (node t : List ℕ) where
  abbrev old_policy : PolicyData → List StreamObject
  old_policy p = here t (policy_brings c s node p)

  abbrev new_policy : PolicyData → List StreamObject
  new_policy p = here t (policy_brings d s node p)

  abbrev old_egress : EgressData → List StreamObject
  old_egress e = here t (egress_brings c s node e)

  abbrev new_egress : EgressData → List StreamObject
  new_egress e = here t (egress_brings d s node e)

  policies_alike : (ps : List PolicyData) → flat_map old_policy ps ≡ flat_map new_policy ps
  policies_alike = flat_map-each old_policy new_policy (λ p. ap (here t) (policy_ground c d s node p ∙ ap (λ z. policy_brings z s node p) (grounded c d ground)))

  egresses_alike : (es : List EgressData) → flat_map old_egress es ≡ flat_map new_egress es
  egresses_alike = flat_map-each old_egress new_egress (λ e. ap (here t) (egress_ground c d s node e ∙ ap (λ z. egress_brings z s node e) (grounded c d ground)))

  -- the same policies bring the same
  policies_same : d.policies ≡ c.policies → of_policies c s node t ≡ of_policies d s node t
  policies_same e = policies_alike c.policies ∙ ap (flat_map new_policy) (sym e)

  egresses_same : d.egresses ≡ c.egresses → of_egresses c s node t ≡ of_egresses d s node t
  egresses_same e = egresses_alike c.egresses ∙ ap (flat_map new_egress) (sym e)

  -- other policies that bring the same of the text
  policies_differ : (ps : List PolicyData) → d.policies ≡ ps → flat_map old_policy ps ≡ flat_map old_policy c.policies → of_policies c s node t ≡ of_policies d s node t
  policies_differ ps e same = sym same ∙ (policies_alike ps ∙ ap (flat_map new_policy) (sym e))

  egresses_differ : (es : List EgressData) → d.egresses ≡ es → flat_map old_egress es ≡ flat_map old_egress c.egresses → of_egresses c s node t ≡ of_egresses d s node t
  egresses_differ es e same = sym same ∙ (egresses_alike es ∙ ap (flat_map new_egress) (sym e))

  policy_gives_nothing : (o : Option PolicyData) → is_named (option_map_or policy_names o []) t ≡ false → GivesNothing old_policy o
  policy_gives_nothing None lacking = tt
  policy_gives_nothing (Some p) lacking = policy_brings_nothing c s node t p lacking

  egress_gives_nothing : (o : Option EgressData) → is_named (option_map_or egress_names o []) t ≡ false → GivesNothing old_egress o
  egress_gives_nothing None lacking = tt
  egress_gives_nothing (Some e) lacking = egress_brings_nothing c s node t e lacking

-- ---- the laws

both_lack : (xs ys : List StreamName) (t : List ℕ) → is_named (xs ++ ys) t ≡ false → (is_named xs t ≡ false) × (is_named ys t ≡ false)
both_lack xs ys t lacking = neither (is_named xs t) (is_named ys t) (sym (list_any-append (λ n. is_eq (text_order (name_text n) t)) xs ys) ∙ lacking)

pub put_policies : PutPoliciesTouch
put_policies c d p differ e = record {
  same = λ s node t lacking.
      let parts = both_lack (policy_names p) (names_at_policy c p.key) t lacking in
      same_found c d s node t
      (policies_differ c d differ.ground s node t (put (at_policy p.key) p c.policies) e
      (flat_map-put (at_policy p.key) (old_policy c d differ.ground s node t) p c.policies (policy_brings_nothing c s node t p parts.0) (policy_gives_nothing c d differ.ground s node t (found (at_policy p.key) c.policies) parts.1)))
      (egresses_same c d differ.ground s node t differ.egresses);
}

pub removed_policies : RemovedPoliciesTouch
removed_policies c d key whole differ e = record {
  same = λ s node t lacking.
      same_found c d s node t
      (policies_differ c d differ.ground s node t (without (at_policy key) c.policies) e
      (flat_map-without (at_policy key) (old_policy c d differ.ground s node t) c.policies
      (all_give_nothing (λ (q : PolicyData). q.key) policy_order policy_order_exact key (old_policy c d differ.ground s node t) c.policies whole.policies_ascend (policy_gives_nothing c d differ.ground s node t (found (at_policy key) c.policies) lacking))))
      (egresses_same c d differ.ground s node t differ.egresses);
}

pub put_egresses : PutEgressesTouch
put_egresses c d x differ e = record {
  same = λ s node t lacking.
      let parts = both_lack (egress_names x) (names_at_egress c x.name) t lacking in
      same_found c d s node t
      (policies_same c d differ.ground s node t differ.policies)
      (egresses_differ c d differ.ground s node t (put (at_egress x.name) x c.egresses) e
      (flat_map-put (at_egress x.name) (old_egress c d differ.ground s node t) x c.egresses (egress_brings_nothing c s node t x parts.0) (egress_gives_nothing c d differ.ground s node t (found (at_egress x.name) c.egresses) parts.1)));
}

pub removed_egresses : RemovedEgressesTouch
removed_egresses c d text whole differ e = record {
  same = λ s node t lacking.
      same_found c d s node t
      (policies_same c d differ.ground s node t differ.policies)
      (egresses_differ c d differ.ground s node t (without (at_egress text) c.egresses) e
      (flat_map-without (at_egress text) (old_egress c d differ.ground s node t) c.egresses
      (all_give_nothing (λ (x : EgressData). x.name) text_order text_order_exact text (old_egress c d differ.ground s node t) c.egresses whole.egresses_ascend (egress_gives_nothing c d differ.ground s node t (found (at_egress text) c.egresses) lacking))));
}

pub nothing_else : NothingElseTouches
nothing_else c d differ e = record { same = λ s node t lacking. same_found c d s node t (policies_same c d differ.ground s node t e) (egresses_same c d differ.ground s node t differ.egresses) }

-- without policies and Egresses nothing comes to a stream
nobody_brings : (c : ClusterData) (s : Stream) (node t : List ℕ) → HasNodesAlone c → (of_policies c s node t ≡ []) × (of_egresses c s node t ≡ [])
nobody_brings c s node t alone =
    (ap (flat_map (λ p. here t (policy_brings c s node p))) alone.policies, ap (flat_map (λ e. here t (egress_brings c s node e))) alone.egresses)

pub nodes_alone : NodesAloneTouchNothing
nodes_alone c d old new = record {
  same = λ s node t lacking.
      let before = nobody_brings c s node t old in
      let after = nobody_brings d s node t new in
      same_found c d s node t (before.0 ∙ sym after.0) (before.1 ∙ sym after.1);
}
