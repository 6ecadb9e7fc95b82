use Rattle.std.proofs.Common.{◌+◌, IsSome, is_some, count_by, sym, subst, ap, ◌∙◌}
use Rattle.egress_marks.specs.Places.{IsMarks, mark_of}
use Rattle.egress_marks.proofs.Marked.{IsMarks-freed}
use Rattle.egress_marks.proofs.Others.{freed_own, freed_other, freed_count}
use Rattle.egress_marks.proofs.marks.Marks.give.Goals as goal

pub invariant_of-self : goal.invariant_of-self
invariant_of-self c =
    subst IsMarks (sym c.free_places.ensures) (IsMarks-freed c.self.inside.places.items c.args.a c.self.invariant)

pub returns-clause-own : goal.returns-clause-own
returns-clause-own c =
    ap (λ zs. mark_of zs c.args.a) c.free_places.ensures ∙ freed_own c.self.inside.places.items c.args.a

pub returns-clause-others : goal.returns-clause-others
returns-clause-others c = λ b other.
    ap (λ zs. mark_of zs b) c.free_places.ensures ∙ freed_other c.self.inside.places.items c.args.a b other ∙ ap (λ zs. mark_of zs b) c.self.view_is

pub returns-clause-count : goal.returns-clause-count
returns-clause-count c =
    ap (λ zs. count_by is_some zs + 1) c.free_places.ensures
    ∙ freed_count c.self.inside.places.items c.args.a c.self.invariant (subst (λ zs. IsSome (mark_of zs c.args.a)) (sym c.self.view_is) c.requires.held)
    ∙ ap (count_by is_some) c.self.view_is
