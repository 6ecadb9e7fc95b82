use Rattle.std.proofs.Common.{drop}
use Rattle.std.specs.List.{AllByRecursion}
use Rattle.touched_rules.specs.Addresses.{RuleHasAddresses}
use Rattle.touched_rules.proofs.forms.rules_form.Given as goal

abbrev pub invariant-loop-i : goal.invariant-loop-i
invariant-loop-i l = AllByRecursion RuleHasAddresses (drop l.i l.rules)
