use Rattle.std.proofs.Common.{drop}
use Rattle.std.specs.List.{AllByRecursion}
use Rattle.held_maps.specs.Steps.{HasObjectForm}
use Rattle.held_maps.proofs.message_steps.objects_form.Given as goal

abbrev pub invariant-loop-i : goal.invariant-loop-i
invariant-loop-i l = AllByRecursion HasObjectForm (drop l.i l.objects)
