use Rattle.std.proofs.Common.{drop}
use Rattle.std.specs.List.{AllByRecursion}
use Rattle.cluster_objects.proofs.forms.each_form.Given as goal

-- where the items to come have their form, all have
abbrev pub invariant-loop-item : goal.invariant-loop-item
invariant-loop-item g l = AllByRecursion g.T.Formed.form (drop l.item-index l.items) → AllByRecursion g.T.Formed.form l.items
