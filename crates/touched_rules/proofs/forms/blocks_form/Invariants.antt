use Rattle.std.proofs.Common.{drop}
use Rattle.std.specs.List.{AllByRecursion}
use Rattle.touched_rules.specs.Addresses.{HasAddress}
use Rattle.touched_rules.proofs.forms.blocks_form.Given as goal

abbrev pub invariant-loop-i : goal.invariant-loop-i
invariant-loop-i l = AllByRecursion HasAddress (drop l.i l.blocks)
