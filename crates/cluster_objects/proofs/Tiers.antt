-- Tiers stand by their priorities and are found by their names.
use Rattle.std.proofs.Common.{◌≡◌, ℕ, List, [], ◌∷◌, Bool, true, false, not, ◌&&◌, ◌==◌, Option, Some, None, find, if◌then◌else◌, refl, sym, ap, ◌∙◌, arith}
use borrow.Author.Tests.{eqb-true}
use Rattle.std.specs.List.{AllByRecursion}
use Rattle.std.specs.Option.{option_map_or}
use Rattle.std.specs.declared.cmp.Ordering.{Ordering}
use Rattle.std.specs.declared.cmp.Ordering.TheVariants.{Less, Equal, Greater}
use Rattle.std.specs.Ordering.{nat_cmp, match_ordering}
use Rattle.std.proofs.lemmas.Bool.{true≢false}
use Rattle.std.proofs.lemmas.Cmp.{nat_cmp_total, tied_itself}
use Rattle.cl_types.specs.Ascending.{Ascends, found}
use Rattle.cl_types.specs.AscendingLaws.{none_behind}
use Rattle.cl_types.specs.Text.{text_eq}
use Rattle.cluster_objects.specs.Apply.{at_tier}
use Rattle.cluster_types.specs.Tier.{TierData, tier_named}

abbrev pub By : List TierData → Type 0
By ts = Ascends (λ (t : TierData). t.priority) nat_cmp ts

pub some_one : {T : Type 0} {x y : T} → Some x ≡ Some y → x ≡ y
some_one e = cc

-- what a search by any test finds stands at its own key
module _ (p : TierData → Bool) where
  later : (t s : TierData) (ts : List TierData) → AllByRecursion (λ (u : TierData). nat_cmp t.priority u.priority ≡ Less) ts → find p ts ≡ Some s → nat_cmp t.priority s.priority ≡ Less
  later t s [] less e = cc
  later t s (u ∷ us) less e = by_test (p u) e (later t s us less.1)
    where
      by_test : (b : Bool) → (if b then Some u else find p us) ≡ Some s → (find p us ≡ Some s → nat_cmp t.priority s.priority ≡ Less) → nat_cmp t.priority s.priority ≡ Less
      by_test true is rest = let same : u ≡ s = some_one is in ap (λ (z : TierData). nat_cmp t.priority z.priority) (sym same) ∙ less.0
      by_test false is rest = rest is

  pub stands_there : (s : TierData) (ts : List TierData) → By ts → find p ts ≡ Some s → found (at_tier s.priority) ts ≡ Some s
  stands_there s [] up e = cc
  stands_there s (t ∷ ts) up e = by_test (p t) e (stands_there s ts up.1)
    where
      by_test : (b : Bool) → (if b then Some t else find p ts) ≡ Some s → (find p ts ≡ Some s → found (at_tier s.priority) ts ≡ Some s) → found (at_tier s.priority) (t ∷ ts) ≡ Some s
      by_test true is rest = let same : t ≡ s = some_one is in rw (ap (λ (z : TierData). nat_cmp t.priority z.priority) (sym same) ∙ tied_itself nat_cmp_total t.priority) is
      by_test false is rest = rw (later t s ts up.0 is) (rest is)

-- where the tier keeps its priority and no other has it, what has its priority is what has its name
module _ (t : TierData) where
  abbrev pub keeps : Option TierData → Bool
  keeps o = option_map_or (λ (s : TierData). not (s.priority == t.priority)) o false

  abbrev pub takes : TierData → Bool
  takes s = not (text_eq s.name t.name) && (s.priority == t.priority)

  pub one_tier : (ts : List TierData) → By ts → keeps (tier_named t.name ts) ≡ false → find takes ts ≡ None → found (at_tier t.priority) ts ≡ tier_named t.name ts
  one_tier [] up fixed free = refl
  one_tier (s ∷ ts) up fixed free = by_name (text_eq s.name t.name) (s.priority == t.priority) refl fixed free (one_tier ts up.1)
    where
      same_priority : (s.priority == t.priority) ≡ true → nat_cmp s.priority t.priority ≡ Equal
      same_priority e = ap (λ n. nat_cmp n t.priority) (eqb-true s.priority t.priority e) ∙ tied_itself nat_cmp_total t.priority

      by_order : (r : Ordering) → nat_cmp s.priority t.priority ≡ r → (s.priority == t.priority) ≡ false → found (at_tier t.priority) ts ≡ tier_named t.name ts
          → match_ordering r (found (at_tier t.priority) ts) (Some s) None ≡ tier_named t.name ts
      by_order Less is other rest = rest
      by_order Equal is other rest = absurd (true≢false (sym (itself s.priority t.priority is) ∙ other))
        where
          itself : (n m : ℕ) → nat_cmp n m ≡ Equal → (n == m) ≡ true
          itself n m e = grind (arith, e)
      by_order Greater is other rest = sym (none_behind (λ (u : TierData). u.priority) nat_cmp_total t.priority s ts Greater is (λ q. cc) up.0) ∙ rest

      by_name : (n q : Bool) → (s.priority == t.priority) ≡ q → keeps (if n then Some s else tier_named t.name ts) ≡ false → (if not n && q then Some s else find takes ts) ≡ None
          → (keeps (tier_named t.name ts) ≡ false → find takes ts ≡ None → found (at_tier t.priority) ts ≡ tier_named t.name ts)
          → found (at_tier t.priority) (s ∷ ts) ≡ (if n then Some s else tier_named t.name ts)
      by_name true true is f g rest = rw (same_priority is) refl
      by_name true false is f g rest = absurd (true≢false (ap (λ b. not b) (sym is) ∙ f))
      by_name false true is f g rest = cc
      by_name false false is f g rest = by_order (nat_cmp s.priority t.priority) refl is (rest f g)
