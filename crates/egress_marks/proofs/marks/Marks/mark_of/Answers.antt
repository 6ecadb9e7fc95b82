use Rattle.std.proofs.Common.{◌≡◌, ◌+◌, Some, sym, rules}
use Rattle.egress_marks.specs.Places.{mark_of}
use Rattle.egress_marks.proofs.Marked.{distinct_marks}
use Rattle.egress_marks.proofs.marks.Marks.mark_of.Goals as goal

pub returns-clause-distinct : goal.returns-clause-distinct
returns-clause-distinct c = λ b other.
    let places = c.args.self.now in
    let mine : Some (c.in_ok-place.place + 1) ≡ mark_of places c.args.a = search rules in
    distinct_marks places c.args.a b (c.in_ok-place.place + 1) (sym mine) other
