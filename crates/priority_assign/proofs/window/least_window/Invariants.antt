use Rattle.priority_assign.specs.Search.{IsNearestLoose, NoneNarrower}
use Rattle.priority_assign.proofs.window.least_window.Given as goal

abbrev pub invariant-loop-width : goal.invariant-loop-width
invariant-loop-width l =
    record { least : NoneNarrower l.rules l.place l.width; near : IsNearestLoose l.rules l.place l.width l.loose }
