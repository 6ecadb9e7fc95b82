use Rattle.std.proofs.Common.{IsSome, sym, subst}
use Rattle.egress_marks.proofs.Marked.{some_position}
use Rattle.egress_marks.proofs.marks.first_free.Goals as goal

pub unwrap-requires : goal.unwrap-requires
unwrap-requires c = subst IsSome (sym c.place_of_none.ensures) (some_position c.args.places.now c.requires)
