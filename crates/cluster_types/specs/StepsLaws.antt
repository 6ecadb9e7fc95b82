-- Of two rules at most one is before the other.
use Rattle.std.proofs.Common.{◌≡◌, true, false, ap}
use Rattle.std.specs.declared.cmp.Ordering.{Ordering}
use Rattle.std.specs.declared.cmp.Ordering.TheVariants.{Less, Equal, Greater}
use Rattle.std.specs.Ordering.{ordering_reverse, is_gt}
use Rattle.cl_types.specs.declared.keys.RuleKey.{RuleKey}
use Rattle.cl_types.specs.RuleOrder.{rule_order, rule_order_total}

pub not_before : (k l : RuleKey) → is_gt (rule_order k l) ≡ true → is_gt (rule_order l k) ≡ false
not_before k l = by_cases (rule_order k l) (rule_order l k) (rule_order_total.antisymm l k)
  where
    by_cases : (a b : Ordering) → b ≡ ordering_reverse a → is_gt a ≡ true → is_gt b ≡ false
    by_cases Less b e h = cc
    by_cases Equal b e h = cc
    by_cases Greater b e h = ap is_gt e
