use Rattle.std.proofs.Common.{◌≡◌, ◌++◌, List, option_map}
use Rattle.cluster_types.specs.declared.change.Change.{Change}
use Rattle.suite_run.specs.World.{all_built}
use Rattle.suite_run.proofs.item.built_objects.Given as goal

-- the changes so far, and those of the items that are left, are the changes of all
abbrev pub invariant-loop-item : goal.invariant-loop-item
invariant-loop-item l = option_map (λ (cs : List Change). l.changes.items ++ cs) (all_built l.item-iterator.rest.items) ≡ all_built l.fn.items
