use Rattle.std.proofs.Common.{drop}
use Rattle.std.specs.List.{AllByRecursion}
use Rattle.touched_rules.specs.Addresses.{PolicyHasAddresses}
use Rattle.touched_rules.specs.Touched.{HasOwnRules}
use Rattle.touched_rules.proofs.forms.policies_form.Given as goal

abbrev pub invariant-loop-i : goal.invariant-loop-i
invariant-loop-i l =
    AllByRecursion HasOwnRules (drop l.i l.policies) × AllByRecursion PolicyHasAddresses (drop l.i l.policies)
