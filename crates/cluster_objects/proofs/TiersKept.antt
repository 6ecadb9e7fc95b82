-- Tiers that policies mean stay there, and a policy's rules have the number of its tier.
use Rattle.std.proofs.Common.{◌≡◌, ℕ, List, [], ◌∷◌, Bool, true, false, not, ◌&&◌, Option, Some, None, find, filter, map, if◌then◌else◌, refl, sym, ap, subst, ◌∙◌}
use Rattle.std.specs.List.{AllByRecursion}
use Rattle.std.specs.Option.{is_none, option_map_or}
use Rattle.std.specs.declared.cmp.Ordering.{Ordering}
use Rattle.std.specs.declared.cmp.Ordering.TheVariants.{Less, Equal, Greater}
use Rattle.std.specs.Ordering.{nat_cmp, match_ordering, is_eq}
use Rattle.std.proofs.lemmas.Bool.{true≢false}
use Rattle.cl_types.specs.Ascending.{found, put, without}
use Rattle.cl_types.specs.AscendingLaws.{found_at}
use Rattle.cl_types.specs.ListLaws.{all_weaker}
use Rattle.cl_types.specs.OrderLaws.{nat_exact, text_eq-itself, text_eq-one}
use Rattle.cl_types.specs.Text.{text_eq}
use Rattle.cluster_objects.specs.declared.change.ClusterRefusal.TheVariants.{NoSuchTier}
use Rattle.cluster_objects.specs.Apply.{at_tier, in_tier, numbered_policy, tier_of_policy}
use Rattle.cluster_objects.specs.Refusals.{no_such_tier, names_tier}
use Rattle.cluster_objects.proofs.Refusals.{not_when, none_passes}
use Rattle.cluster_objects.proofs.Tiers.{By, some_one, stands_there, keeps, takes, one_tier}
use Rattle.cluster_types.specs.declared.policy.Rule.{Rule}
use Rattle.cluster_types.specs.Cluster.{ClusterData, AreInTier, HasTier}
use Rattle.cluster_types.specs.Policy.{PolicyData}
use Rattle.cluster_types.specs.Steps.{is_kube}
use Rattle.cluster_types.specs.Tier.{TierData, HasStaticTiers, is_static, static_tiers, tier_named, tier_of, name_meant}

-- ---- what is found

pub find_passes : {T : Type 0} (p : T → Bool) (xs : List T) (x : T) → find p xs ≡ Some x → p x ≡ true
find_passes p [] x e = cc
find_passes p (y ∷ ys) x e = by_test (p y) refl e (find_passes p ys x)
  where
    by_test : (b : Bool) → p y ≡ b → (if b then Some y else find p ys) ≡ Some x → (find p ys ≡ Some x → p x ≡ true) → p x ≡ true
    by_test true is f rest = ap p (sym (some_one f)) ∙ is
    by_test false is f rest = rest f

-- what a search by a test finds once something that fails it is put where nothing stood
find_past : {T : Type 0} (p : T → Bool) (at : T → Ordering) (x : T) (xs : List T) → p x ≡ false → found at xs ≡ None → find p (put at x xs) ≡ find p xs
find_past p at x [] fails none = ap (λ b. if b then Some x else None) fails
find_past p at x (y ∷ ys) fails none = by_place (at y) none (find_past p at x ys fails)
  where
    by_place : (r : Ordering) → match_ordering r (found at ys) (Some y) None ≡ None → (found at ys ≡ None → find p (put at x ys) ≡ find p ys)
        → find p (match_ordering r (y ∷ put at x ys) (x ∷ ys) (x ∷ y ∷ ys)) ≡ find p (y ∷ ys)
    by_place Less f rest = ap (λ o. if p y then Some y else o) (rest f)
    by_place Equal f rest = cc
    by_place Greater f rest = ap (λ b. if b then Some x else find p (y ∷ ys)) fails

-- a put of what stands there changes nothing
pub put_same : {T : Type 0} (at : T → Ordering) (x : T) (xs : List T) → found at xs ≡ Some x → put at x xs ≡ xs
put_same at x [] e = cc
put_same at x (y ∷ ys) e = by_place (at y) e (put_same at x ys)
  where
    by_place : (r : Ordering) → match_ordering r (found at ys) (Some y) None ≡ Some x → (found at ys ≡ Some x → put at x ys ≡ ys)
        → match_ordering r (y ∷ put at x ys) (x ∷ ys) (x ∷ y ∷ ys) ≡ y ∷ ys
    by_place Less f rest = ap (λ zs. y ∷ zs) (rest f)
    by_place Equal f rest = ap (λ z. z ∷ ys) (sym (some_one f))
    by_place Greater f rest = cc

-- what is found is found still where a test keeps it
find_kept : {T : Type 0} (p keep : T → Bool) (xs : List T) (x : T) → find p xs ≡ Some x → keep x ≡ true → find p (filter keep xs) ≡ Some x
find_kept p keep [] x e kept = cc
find_kept p keep (y ∷ ys) x e kept = by_test (p y) (keep y) refl refl e (λ f. find_kept p keep ys x f kept)
  where
    by_test : (a b : Bool) → p y ≡ a → keep y ≡ b → (if a then Some y else find p ys) ≡ Some x → (find p ys ≡ Some x → find p (filter keep ys) ≡ Some x)
        → find p (if b then y ∷ filter keep ys else filter keep ys) ≡ Some x
    by_test true true passes stays f rest = ap (λ c. if c then Some y else find p (filter keep ys)) passes ∙ f
    by_test true false passes stays f rest = absurd (true≢false (sym kept ∙ ap keep (sym (some_one f)) ∙ stays))
    by_test false true passes stays f rest = ap (λ c. if c then Some y else find p (filter keep ys)) passes ∙ rest f
    by_test false false passes stays f rest = rest f

-- ---- a tier is put

-- each tier that a name finds is found still
abbrev KeepsTiers : List TierData → List TierData → Type 0
KeepsTiers old new = (name : List ℕ) (s : TierData) → tier_named name old ≡ Some s → tier_named name new ≡ Some s

pub static_kept : (old new : List TierData) → KeepsTiers old new → HasStaticTiers old → HasStaticTiers new
static_kept old new kept there =
    all_weaker (λ (t : TierData). tier_named t.name old ≡ Some t) (λ (t : TierData). tier_named t.name new ≡ Some t) (λ t named. kept t.name t named) static_tiers there

in_tier_kept : (old new : List TierData) (rules : List Rule) (name : List ℕ) → ((s : TierData) → tier_named name old ≡ Some s → tier_named name new ≡ Some s)
    → AreInTier rules (tier_named name old) → AreInTier rules (tier_named name new)
in_tier_kept old new rules name kept there = by_tier (tier_named name old) refl there
  where
    by_tier : (o : Option TierData) → tier_named name old ≡ o → AreInTier rules o → AreInTier rules (tier_named name new)
    by_tier None e are = absurd are
    by_tier (Some t) e are = subst (λ o. AreInTier rules o) (sym (kept t e)) are

pub tiers_kept : (old new : List TierData) → KeepsTiers old new → (policies : List PolicyData) → AllByRecursion (HasTier old) policies → AllByRecursion (HasTier new) policies
tiers_kept old new kept policies has =
    all_weaker (HasTier old) (HasTier new) (λ p there native. in_tier_kept old new p.rules (name_meant p.tier) (λ s e. kept (name_meant p.tier) s e) (there native)) policies has

module _ (t : TierData) (ts : List TierData) (up : By ts) (fixed : keeps t (tier_named t.name ts) ≡ false) (free : find (takes t) ts ≡ None) where
  one : found (at_tier t.priority) ts ≡ tier_named t.name ts
  one = one_tier t ts up fixed free

  another : (name : List ℕ) (s : TierData) → tier_named t.name ts ≡ None → tier_named name ts ≡ Some s → text_eq t.name name ≡ false
  another name s none named = by_test (text_eq t.name name) refl
    where
      clash : (o : Option TierData) → o ≡ None → o ≡ Some s → ⊥
      clash o e f = cc

      by_test : (b : Bool) → text_eq t.name name ≡ b → b ≡ false
      by_test true is = absurd (clash (tier_named name ts) (ap (λ n. tier_named n ts) (sym (text_eq-one t.name name is)) ∙ none) named)
      by_test false is = refl

  -- the tier that is there is the very one
  the_same : (u : TierData) → tier_named t.name ts ≡ Some u → u ≡ t
  the_same u e =
      let named : u.name ≡ t.name = text_eq-one u.name t.name (find_passes (λ (s : TierData). text_eq s.name t.name) ts u e) in
      let placed : u.priority ≡ t.priority = nat_exact u.priority t.priority (found_at (at_tier t.priority) ts u (one ∙ e)) in
      ap (λ n. tier_of n u.priority) named ∙ ap (λ k. tier_of t.name k) placed

  pub put_keeps : KeepsTiers ts (put (at_tier t.priority) t ts)
  put_keeps name s named = by_found (tier_named t.name ts) refl
    where
      by_found : (o : Option TierData) → tier_named t.name ts ≡ o → tier_named name (put (at_tier t.priority) t ts) ≡ Some s
      by_found None e = find_past (λ (u : TierData). text_eq u.name name) (at_tier t.priority) t ts (another name s e named) (one ∙ e) ∙ named
      by_found (Some u) e = ap (λ us. tier_named name us) (put_same (at_tier t.priority) t ts (one ∙ e ∙ ap (λ z. Some z) (the_same u e))) ∙ named

-- ---- a tier is removed

differ : (a b : List ℕ) → text_eq a b ≡ false → a ≡ b → ⊥
differ a b unequal e = true≢false (sym (text_eq-itself a) ∙ ap (λ c. text_eq a c) e ∙ unequal)

module _ (name : List ℕ) (t : TierData) (ts : List TierData) (up : By ts) (named : tier_named name ts ≡ Some t) where
  pub other_kept : (other : List ℕ) (s : TierData) → (name ≡ other → ⊥) → tier_named other ts ≡ Some s → tier_named other (without (at_tier t.priority) ts) ≡ Some s
  other_kept other s differs e =
      find_kept (λ (u : TierData). text_eq u.name other) (λ (u : TierData). not (is_eq (at_tier t.priority u))) ts s e (stays (nat_cmp s.priority t.priority) refl)
    where
      one : s.priority ≡ t.priority → s ≡ t
      one same =
          some_one (sym (stands_there (λ (u : TierData). text_eq u.name other) s ts up e)
          ∙ ap (λ k. found (at_tier k) ts) same
          ∙ stands_there (λ (u : TierData). text_eq u.name name) t ts up named)

      same_name : s ≡ t → name ≡ other
      same_name same =
          sym (text_eq-one t.name name (find_passes (λ (u : TierData). text_eq u.name name) ts t named))
          ∙ ap (λ (u : TierData). u.name) (sym same)
          ∙ text_eq-one s.name other (find_passes (λ (u : TierData). text_eq u.name other) ts s e)

      stays : (r : Ordering) → nat_cmp s.priority t.priority ≡ r → not (is_eq r) ≡ true
      stays Less is = refl
      stays Equal is = absurd (differs (same_name (one (nat_exact s.priority t.priority is))))
      stays Greater is = refl

  abbrev left : List TierData
  left = without (at_tier t.priority) ts

  statics : (us : List TierData) → AllByRecursion (λ (u : TierData). text_eq u.name name ≡ false) us → AllByRecursion (λ (u : TierData). tier_named u.name ts ≡ Some u) us
      → AllByRecursion (λ (u : TierData). tier_named u.name left ≡ Some u) us
  statics [] other there = tt
  statics (u ∷ us) other there = (other_kept u.name u (λ e. differ u.name name other.0 (sym e)) there.0, statics us other.1 there.1)

  pub static_left : is_static name ≡ false → HasStaticTiers ts → HasStaticTiers left
  unfolding is_static
  static_left not_static there = statics static_tiers (none_passes (λ (u : TierData). text_eq u.name name) static_tiers not_static) there

  -- the policies of which none means the tier that goes
  pub tiers_left : (ps : List PolicyData) → find (names_tier name) ps ≡ None → AllByRecursion (HasTier ts) ps → AllByRecursion (HasTier left) ps
  tiers_left [] unused has = tt
  tiers_left (p ∷ ps) unused has = by_test (names_tier name p) refl unused (λ none. tiers_left ps none has.1)
    where
      native_differs : (k b : Bool) → k ≡ false → not k && b ≡ false → b ≡ false
      native_differs false b e f = f
      native_differs true b e f = cc

      by_test : (b : Bool) → names_tier name p ≡ b → (if b then Some p else find (names_tier name) ps) ≡ None → (find (names_tier name) ps ≡ None → AllByRecursion (HasTier left) ps)
          → AllByRecursion (HasTier left) (p ∷ ps)
      by_test true is e rest = cc
      by_test false is e rest = (
        λ native. in_tier_kept ts left p.rules (name_meant p.tier)
            (λ s f. other_kept (name_meant p.tier) s (differ name (name_meant p.tier) (native_differs (is_kube p.key.kind) (text_eq name (name_meant p.tier)) native is)) f)
            (has.0 native),
        rest e,
      )

-- ---- a policy is put

in_tier_each : (n : ℕ) (rs : List Rule) → AllByRecursion (λ (r : Rule). r.key.tier ≡ n) (map (in_tier n) rs)
in_tier_each n [] = tt
in_tier_each n (r ∷ rs) = (refl, in_tier_each n rs)

in_tier_twice : (n : ℕ) (rs : List Rule) → map (in_tier n) (map (in_tier n) rs) ≡ map (in_tier n) rs
in_tier_twice n [] = refl
in_tier_twice n (r ∷ rs) = ap (λ ss. in_tier n r ∷ ss) (in_tier_twice n rs)

module _ (c : ClusterData) where
  abbrev pub number : PolicyData → ℕ
  number p = option_map_or (λ (t : TierData). t.priority) (tier_of_policy c p) 0

  abbrev pub with_number : PolicyData → PolicyData
  with_number p = record p { rules = map (in_tier (number p)) p.rules }

  -- a policy whose rules have their numbers keeps them
  pub numbered_twice : (p : PolicyData) → numbered_policy c (numbered_policy c p) ≡ numbered_policy c p
  numbered_twice p = by_kind (is_kube p.key.kind) refl
    where
      by_kind : (b : Bool) → is_kube p.key.kind ≡ b → numbered_policy c (numbered_policy c p) ≡ numbered_policy c p
      by_kind true is = let same : numbered_policy c p ≡ p = ap (λ b. if b then p else with_number p) is in ap (λ q. numbered_policy c q) same
      by_kind false is =
          let first : numbered_policy c p ≡ with_number p = ap (λ b. if b then p else with_number p) is in
          let second : numbered_policy c (with_number p) ≡ with_number (with_number p) = ap (λ b. if b then with_number p else with_number (with_number p)) is in
          ap (λ q. numbered_policy c q) first ∙ second ∙ ap (λ rs. record p { rules = rs }) (in_tier_twice (number p) p.rules) ∙ sym first

  pub has_tier : (p : PolicyData) → numbered_policy c p ≡ p → no_such_tier c p ≡ None → HasTier c.tiers p
  has_tier p same there native = by_tier (tier_of_policy c p) refl
    where
      rules_are : p.rules ≡ map (in_tier (number p)) p.rules
      rules_are = ap (λ (q : PolicyData). q.rules) (sym same) ∙ ap (λ b. (if b then p else with_number p).rules) native

      missing : (not (is_kube p.key.kind) && is_none (tier_of_policy c p)) ≡ false
      missing = not_when (not (is_kube p.key.kind) && is_none (tier_of_policy c p)) (NoSuchTier p.tier) there

      by_tier : (o : Option TierData) → tier_of_policy c p ≡ o → AreInTier p.rules o
      by_tier None e = absurd (true≢false (ap (λ b. not b && is_none (let none : Option TierData = None in none)) (sym native) ∙ ap (λ o. not (is_kube p.key.kind) && is_none o) (sym e) ∙ missing))
      by_tier (Some t) e =
          let is_number : number p ≡ t.priority = ap (λ o. option_map_or (λ (s : TierData). s.priority) o 0) e in
          subst (λ rs. AllByRecursion (λ (r : Rule). r.key.tier ≡ t.priority) rs) (sym rules_are)
          (subst (λ n. AllByRecursion (λ (r : Rule). r.key.tier ≡ n) (map (in_tier (number p)) p.rules)) is_number (in_tier_each (number p) p.rules))
