-- All changes of rules are those of the rules whose keys are touched.
use Rattle.std.proofs.Common.{◌≡◌, List, [], ◌∷◌, Bool, true, false, cond, Option, Some, None, map, refl, sym, ap, ap₂, subst, ◌∙◌}
use Rattle.std.specs.List.{AllByRecursion, flat_map}
use Rattle.std.specs.declared.cmp.Ordering.{Ordering}
use Rattle.std.specs.declared.cmp.Ordering.TheVariants.{Less, Equal, Greater}
use Rattle.std.specs.Ordering.{match_ordering}
use Rattle.cl_types.specs.declared.keys.RuleKey.{RuleKey}
use Rattle.cl_types.specs.Ascending.{Ascends, found}
use Rattle.cl_types.specs.AscendingLaws.{ascends_filter, ascends_sorted, found_at, found_holds}
use Rattle.cl_types.specs.ListLaws.{all_weaker}
use Rattle.cl_types.specs.OrderLaws.{rule_order_exact}
use Rattle.cl_types.specs.RuleOrder.{rule_order, rule_order_total}
use Rattle.watch_streams.specs.contracts.rule_changes.RuleParts as rule_parts
use Rattle.watch_streams.specs.declared.rule_changes.RuleParts.{RuleParts}
use Rattle.watch_streams.specs.HeldEvaluation.{HeldMaps, held_policies, is_complete}
use Rattle.watch_streams.specs.InForce.{ArePartsOf, AreRulesInForce, HeldRule, IsParts, complete_rules, held_rule_key, held_rules, rules_of}
use Rattle.watch_streams.specs.KeyedChanges.{altered, lacking}
use Rattle.watch_streams.specs.RuleChanges.{parts_key}
use Rattle.touched_rules.specs.Touched.{AreRulesUnder, ChangesOfRulesAreUnderTouchedKeys, SameRulesElsewhere, complete_rule_at, under}
use Rattle.touched_rules.proofs.OneInForce.{lists_one, parts_one}
use Rattle.touched_rules.proofs.PartLists.{parts_ascend}
use Rattle.touched_rules.proofs.UnderKeys.{all_found, altered_under, found_under, lacking_under}

-- ---- what rules match

-- the rule matches something
abbrev pub HasParts : HeldMaps → HeldRule → Type 0
HasParts h x = (parts : RuleParts) × IsParts h x.policy x.rule parts

module _ (h : HeldMaps) where
  each_has : (xs : List HeldRule) (ps : List RuleParts) → ArePartsOf h xs ps → AllByRecursion (HasParts h) xs
  each_has [] ps are = tt
  each_has (x ∷ xs) [] are = absurd are
  each_has (x ∷ xs) (p ∷ ps) are = ((p, are.0), each_has xs ps are.1)

  pub all_have : (xs : List HeldRule) → AllByRecursion (HasParts h) xs → (ps : List RuleParts) × ArePartsOf h xs ps
  all_have [] all = ([], tt)
  all_have (x ∷ xs) all = let rest = all_have xs all.1 in (all.0.0 ∷ rest.0, (all.0.1, rest.1))

  -- what the touched ones match
  parts_under : (touched : RuleKey → Bool) (xs : List HeldRule) (ps : List RuleParts) → ArePartsOf h xs ps → ArePartsOf h (under touched held_rule_key xs) (under touched parts_key ps)
  parts_under touched [] [] are = tt
  parts_under touched [] (p ∷ ps) are = absurd are
  parts_under touched (x ∷ xs) [] are = absurd are
  parts_under touched (x ∷ xs) (p ∷ ps) are =
      subst (λ (b : Bool). ArePartsOf h (under touched held_rule_key (x ∷ xs)) (cond b (p ∷ under touched parts_key ps) (under touched parts_key ps))) (sym (ap touched are.0.key))
      (by_test (touched x.rule.key) (parts_under touched xs ps are.1))
    where
      by_test : (b : Bool) → ArePartsOf h (under touched held_rule_key xs) (under touched parts_key ps)
          → ArePartsOf h (cond b (x ∷ under touched held_rule_key xs) (under touched held_rule_key xs)) (cond b (p ∷ under touched parts_key ps) (under touched parts_key ps))
      by_test true rest = (are.0, rest)
      by_test false rest = rest

  -- what is found is what the rule matches that is found
  abbrev IsFound : Option HeldRule → Option RuleParts → Type 0
  IsFound None None = Unit {0}
  IsFound (Some x) (Some p) = IsParts h x.policy x.rule p
  IsFound x p = ⊥

  found_parts : (k : RuleKey) (xs : List HeldRule) (ps : List RuleParts) → ArePartsOf h xs ps → IsFound (found (λ x. rule_order (held_rule_key x) k) xs) (found (λ p. rule_order (parts_key p) k) ps)
  found_parts k [] [] are = tt
  found_parts k [] (p ∷ ps) are = absurd are
  found_parts k (x ∷ xs) [] are = absurd are
  found_parts k (x ∷ xs) (p ∷ ps) are =
      subst (λ (r : Ordering). IsFound (found (λ x. rule_order (held_rule_key x) k) (x ∷ xs)) (match_ordering r (found (λ p. rule_order (parts_key p) k) ps) (Some p) None)) (sym (ap (λ (j : RuleKey). rule_order j k) are.0.key))
      (by_order (rule_order x.rule.key k) (found_parts k xs ps are.1))
    where
      by_order : (r : Ordering) → IsFound (found (λ x. rule_order (held_rule_key x) k) xs) (found (λ p. rule_order (parts_key p) k) ps)
          → IsFound (match_ordering r (found (λ x. rule_order (held_rule_key x) k) xs) (Some x) None) (match_ordering r (found (λ p. rule_order (parts_key p) k) ps) (Some p) None)
      by_order Less rest = rest
      by_order Equal rest = are.0
      by_order Greater rest = tt

-- complete rules stand in the rule order
complete_ascend : (h : HeldMaps) → Ascends held_rule_key rule_order (complete_rules h)
complete_ascend h =
    ascends_filter held_rule_key rule_order_total (λ x. is_complete h x.policy x.rule) (held_rules h) (ascends_sorted held_rule_key rule_order_total (flat_map rules_of (held_policies h)))

module _ (touched : RuleKey → Bool) (old new : HeldMaps) (elsewhere : SameRulesElsewhere touched old new) where
  tied : (j k : RuleKey) → rule_order j k ≡ Equal → touched j ≡ touched k
  tied j k e = ap touched (rule_order_exact j k e)

  -- what matched something and isn't touched matches it still, and what is touched matches something too
  new_has : (all are : List RuleParts) → AreRulesInForce old all → AreRulesUnder touched new are → AllByRecursion (HasParts new) (complete_rules new)
  new_has all are in_force under_are =
      all_weaker (λ x. complete_rule_at new (held_rule_key x) ≡ Some x) (HasParts new) (λ x here. by_test x here (touched (held_rule_key x)) refl) (complete_rules new)
      (all_found held_rule_key rule_order_total (complete_rules new) (complete_ascend new))
    where
      by_test : (x : HeldRule) → complete_rule_at new (held_rule_key x) ≡ Some x → (b : Bool) → touched (held_rule_key x) ≡ b → HasParts new x
      by_test x here true is =
          found_holds (λ y. rule_order (held_rule_key y) (held_rule_key x)) (HasParts new) (under touched held_rule_key (complete_rules new)) x
          (each_has new (under touched held_rule_key (complete_rules new)) are under_are)
          (found_under held_rule_key rule_order_total touched tied (held_rule_key x) (complete_rules new) (complete_ascend new) is ∙ here)
      by_test x here false is =
          let before : complete_rule_at old (held_rule_key x) ≡ Some x = elsewhere.rules (held_rule_key x) is ∙ here in
          let had = found_holds (λ y. rule_order (held_rule_key y) (held_rule_key x)) (HasParts old) (complete_rules old) x (each_has old (complete_rules old) all in_force) before in
          (had.0, elsewhere.parts x had.0 is before had.1)

  -- under a key that isn't touched the same is in force
  same_parts : (all now : List RuleParts) → AreRulesInForce old all → AreRulesInForce new now → (k : RuleKey) → touched k ≡ false → found (λ p. rule_order (parts_key p) k) all ≡ found (λ p. rule_order (parts_key p) k) now
  same_parts all now were are k is =
      by_rule (complete_rule_at old k) refl (found (λ p. rule_order (parts_key p) k) all) (found (λ p. rule_order (parts_key p) k) now)
      (found_parts old k (complete_rules old) all were)
      (subst (λ (r : Option HeldRule). IsFound new r (found (λ p. rule_order (parts_key p) k) now)) (sym (elsewhere.rules k is)) (found_parts new k (complete_rules new) now are))
    where
      by_rule : (r : Option HeldRule) → complete_rule_at old k ≡ r → (a b : Option RuleParts) → IsFound old r a → IsFound new r b → a ≡ b
      by_rule None here None None was becomes = refl
      by_rule None here None (Some b) was becomes = absurd becomes
      by_rule None here (Some a) b was becomes = absurd was
      by_rule (Some x) here None b was becomes = absurd was
      by_rule (Some x) here (Some a) None was becomes = absurd becomes
      by_rule (Some x) here (Some a) (Some b) was becomes =
          let one : k ≡ held_rule_key x = sym (rule_order_exact (held_rule_key x) k (found_at (λ y. rule_order (held_rule_key y) k) (complete_rules old) x here)) in
          ap Some (parts_one new x.policy x.rule a b (elsewhere.parts x a (sym (ap touched one) ∙ is) (sym (ap (complete_rule_at old) one) ∙ here) was) becomes)

pub changes_are_under : ChangesOfRulesAreUnderTouchedKeys
changes_are_under touched old new all were are elsewhere in_force under_were under_are =
    let now = all_have new (complete_rules new) (new_has touched old new elsewhere all are in_force under_are) in
    let tie = tied touched old new elsewhere in
    let up = parts_ascend old (complete_rules old) all in_force (complete_ascend old) in
    let vp = parts_ascend new (complete_rules new) now.0 now.1 (complete_ascend new) in
    let same = same_parts touched old new elsewhere all now.0 in_force now.1 in
    let back : (k : RuleKey) → touched k ≡ false → found (λ p. rule_order (parts_key p) k) now.0 ≡ found (λ p. rule_order (parts_key p) k) all = λ k is. sym (same k is) in
    let were_one : under touched parts_key all ≡ were =
    lists_one old (under touched held_rule_key (complete_rules old)) (under touched parts_key all) were (parts_under old touched (complete_rules old) all in_force) under_were in
    let are_one : under touched parts_key now.0 ≡ are =
    lists_one new (under touched held_rule_key (complete_rules new)) (under touched parts_key now.0) are (parts_under new touched (complete_rules new) now.0 now.1) under_are in
    let lack : List RuleParts → List RuleParts → List RuleParts = lacking parts_key rule_order in
    let other : List RuleParts → List RuleParts → List RuleParts = altered rule_parts.the_row.coded parts_key rule_order in
    let gone : lack all now.0 ≡ lack were are = lacking_under parts_key rule_order_total touched tie all now.0 up vp same ∙ ap₂ lack were_one are_one in
    let come : lack now.0 all ≡ lack are were = lacking_under parts_key rule_order_total touched tie now.0 all vp up back ∙ ap₂ lack are_one were_one in
    let now_other : other all now.0 ≡ other were are = altered_under parts_key rule_order_total touched tie now.0 all vp up back rule_parts.the_row.coded ∙ ap₂ other were_one are_one in
    record {
      old_rules = all;
      new_rules = now.0;
      were = in_force;
      are = now.1;
      gone_are = ap (map parts_key) (sym gone);
      come_are = sym come;
      altered_are = sym now_other;
    }
