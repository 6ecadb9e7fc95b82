use Rattle.std.proofs.Common.{rules}
use Rattle.egress_marks.proofs.Marked.{no_marks-is, mark_of-no_marks, count-no_marks}
use Rattle.egress_marks.proofs.marks.Marks.new.Goals as goal

pub returns-clause-places : goal.returns-clause-places
returns-clause-places c = no_marks-is c.in_ok-vec.field-0.items (c.in_ok-vec.ensures.items_if_clones_equal (λ y h. search rules))

pub returns-clause-none : goal.returns-clause-none
returns-clause-none c = λ a. mark_of-no_marks c.in_ok-vec.field-0.items a (c.in_ok-vec.ensures.items_if_clones_equal (λ y h. search rules))

pub returns-clause-empty : goal.returns-clause-empty
returns-clause-empty c = count-no_marks c.in_ok-vec.field-0.items (c.in_ok-vec.ensures.items_if_clones_equal (λ y h. search rules))
