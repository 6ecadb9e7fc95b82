-- What rules match, one rule or one block more.
use Rattle.std.proofs.Common.{◌≡◌, ℕ, ◌+◌, ◌<◌, List, [], ◌∷◌, ◌++◌, length, get_or, take, filter, Bool, true, false, if◌then◌else◌, append_assoc, refl, sym, ap, subst, ◌∙◌, arith}
use Rattle.std.proofs.lemmas.Grind.{common_steps}
use Rattle.std.proofs.lemmas.List.{take_more}
use Rattle.std.proofs.lemmas.List.Elements.{filter-append}
use Rattle.std.specs.List.{AllByRecursion}
use Rattle.std.specs.declared.cmp.Ordering.TheVariants.{Less}
use Rattle.cl_types.specs.declared.keys.RuleKey.{RuleKey}
use Rattle.cl_types.specs.Ascending.{Ascends}
use Rattle.cl_types.specs.Prefix.{PrefixData}
use Rattle.cl_types.specs.RuleOrder.{rule_order}
use Rattle.cluster_types.specs.declared.policy.Block.{Block}
use Rattle.watch_streams.specs.declared.rule_changes.RuleParts.{RuleParts}
use Rattle.watch_streams.specs.HeldEvaluation.{HeldMaps, is_complete}
use Rattle.watch_streams.specs.InForce.{AreBlocksOf, AreLargestBlocks, ArePartsOf, HeldRule, IsParts, held_rule_key}
use Rattle.watch_streams.specs.RuleChanges.{parts_key}

last_alone : (xs ys : List PrefixData) → xs ≡ [] → xs ++ ys ≡ ys ++ []
last_alone xs ys none = grind (arith, common_steps)

-- the largest blocks of one block more come behind
pub blocks_more : (bs : List Block) (xs : List PrefixData) (b : Block) (ys : List PrefixData) → AreBlocksOf bs xs → AreLargestBlocks b ys → AreBlocksOf (bs ++ b ∷ []) (xs ++ ys)
blocks_more [] xs b ys none largest = (ys, [], last_alone xs ys none, largest, refl)
blocks_more (c ∷ cs) xs b ys are largest =
    (are.0, are.1 ++ ys, ap (λ zs. zs ++ ys) are.2 ∙ append_assoc are.0 are.1 ys, are.3, blocks_more cs are.1 b ys are.4 largest)

-- one place more of a list
take_one : {T : Type 0} (xs : List T) (i : ℕ) (x : T) → i < length xs → x ≡ get_or xs i x → take (i + 1) xs ≡ take i xs ++ x ∷ []
take_one xs i x within here = take_more xs i x within ∙ ap (λ y. take i xs ++ y ∷ []) (sym here)

pub blocks_step : (bs : List Block) (i : ℕ) (xs : List PrefixData) (b : Block) (ys : List PrefixData) → i < length bs → b ≡ get_or bs i b → AreBlocksOf (take i bs) xs → AreLargestBlocks b ys → AreBlocksOf (take (i + 1) bs) (xs ++ ys)
blocks_step bs i xs b ys within here are largest =
    subst (λ (cs : List Block). AreBlocksOf cs (xs ++ ys)) (sym (take_one bs i b within here)) (blocks_more (take i bs) xs b ys are largest)

pub nothing_behind : {T : Type 0} (xs : List T) → xs ≡ xs ++ []
nothing_behind xs = grind (arith, common_steps)

module _ (h : HeldMaps) where
  -- what some rules match, and behind it what others match
  pub parts_append : (xs : List HeldRule) (ps : List RuleParts) (ys : List HeldRule) (qs : List RuleParts) → ArePartsOf h xs ps → ArePartsOf h ys qs → ArePartsOf h (xs ++ ys) (ps ++ qs)
  parts_append [] [] ys qs front back = back
  parts_append [] (p ∷ ps) ys qs front back = absurd front
  parts_append (x ∷ xs) [] ys qs front back = absurd front
  parts_append (x ∷ xs) (p ∷ ps) ys qs front back = (front.0, parts_append xs ps ys qs front.1 back)

  parts_behind : (k : RuleKey) (xs : List HeldRule) (ps : List RuleParts) → ArePartsOf h xs ps → AllByRecursion (λ y. rule_order k (held_rule_key y) ≡ Less) xs → AllByRecursion (λ q. rule_order k (parts_key q) ≡ Less) ps
  parts_behind k [] [] are behind = tt
  parts_behind k [] (p ∷ ps) are behind = absurd are
  parts_behind k (x ∷ xs) [] are behind = absurd are
  parts_behind k (x ∷ xs) (p ∷ ps) are behind = (ap (rule_order k) are.0.key ∙ behind.0, parts_behind k xs ps are.1 behind.1)

  -- what rules match ascends as the rules do
  pub parts_ascend : (xs : List HeldRule) (ps : List RuleParts) → ArePartsOf h xs ps → Ascends held_rule_key rule_order xs → Ascends parts_key rule_order ps
  parts_ascend [] [] are up = tt
  parts_ascend [] (p ∷ ps) are up = absurd are
  parts_ascend (x ∷ xs) [] are up = absurd are
  parts_ascend (x ∷ xs) (p ∷ ps) are up = (
    subst (λ (k : RuleKey). AllByRecursion (λ q. rule_order k (parts_key q) ≡ Less) ps) (sym are.0.key) (parts_behind x.rule.key xs ps are.1 up.0),
    parts_ascend xs ps are.1 up.1,
  )

  abbrev pub is_in_force : HeldRule → Bool
  is_in_force x = is_complete h x.policy x.rule

  -- a complete rule comes behind the others
  pub parts_kept : (before : List HeldRule) (old : List RuleParts) (x : HeldRule) (parts : RuleParts) → is_complete h x.policy x.rule ≡ true → ArePartsOf h before old → IsParts h x.policy x.rule parts → ArePartsOf h (before ++ filter is_in_force (x ∷ [])) (old ++ parts ∷ [])
  parts_kept before old x parts complete are is =
      subst (λ (b : Bool). ArePartsOf h (before ++ (if b then x ∷ [] else [])) (old ++ parts ∷ [])) (sym complete) (parts_append before old (x ∷ []) (parts ∷ []) are (is, tt))

  -- and another one is passed over
  pub parts_passed : (before : List HeldRule) (old : List RuleParts) (x : HeldRule) → is_complete h x.policy x.rule ≡ false → ArePartsOf h before old → ArePartsOf h (before ++ filter is_in_force (x ∷ [])) old
  parts_passed before old x waits are =
      subst (λ (b : Bool). ArePartsOf h (before ++ (if b then x ∷ [] else [])) old) (sym waits) (subst (λ (xs : List HeldRule). ArePartsOf h xs old) (nothing_behind before) are)

  pub parts_step : (xs : List HeldRule) (i : ℕ) (x : HeldRule) (parts : List RuleParts) → i < length xs → x ≡ get_or xs i x → ArePartsOf h (filter is_in_force (take i xs) ++ filter is_in_force (x ∷ [])) parts → ArePartsOf h (filter is_in_force (take (i + 1) xs)) parts
  parts_step xs i x parts within here are =
      subst (λ (ys : List HeldRule). ArePartsOf h ys parts) (sym (ap (filter is_in_force) (take_one xs i x within here) ∙ filter-append is_in_force (take i xs) (x ∷ []))) are
