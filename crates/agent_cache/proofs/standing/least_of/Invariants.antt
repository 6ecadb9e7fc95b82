use Rattle.std.proofs.Common.{◌≡◌, ◌++◌, List, drop, option_copied}
use Rattle.cl_types.specs.First.{first}
use Rattle.label_select.specs.Group.{Group}
use Rattle.held_maps.specs.Held.{maps_of, map_on}
use Rattle.agent_cache.specs.Missing.{by_text, not_held}
use Rattle.agent_cache.proofs.standing.least_of.Given as goal

abbrev pub invariant-loop-i : goal.invariant-loop-i
invariant-loop-i l =
    (later : List Group) → option_copied l.fn.after ≡ first by_text later
    → option_copied l.least ≡ first by_text (not_held (map_on l.s (maps_of l.held)) (drop l.i l.groups) ++ later)
