use Rattle.std.proofs.Common.{◌≡◌, ◌++◌, take}
use Rattle.std.specs.List.{flat_map}
use Rattle.cl_types.specs.Ascending.{found}
use Rattle.watch_streams.specs.Difference.{changed}
use Rattle.watch_streams.specs.Names.{at_text}
use Rattle.stream_messages.proofs.changes.push_all_changed.Given as goal

-- the changes under the texts so far
abbrev pub invariant-loop-text : goal.invariant-loop-text
invariant-loop-text l =
    l.changes.items ≡ l.initial.changes.items ++ flat_map (λ text. changed (found (at_text text) l.old) (found (at_text text) l.new)) (take l.text-index l.texts)
