use Rattle.std.proofs.Common.{◌≡◌, ◌<◌, ◌+◌, ◌-◌, length, set, Some, is_some, is_none, count_by, IsNone, sym, subst, ap, ◌∙◌, rules, arith}
use Rattle.std.specs.List.{position_or_len, slice_get}
use Rattle.egress_marks.specs.Places.{IsMarks, mark_of}
use Rattle.cl_types.specs.AddrEq.{addr_eq-itself}
use Rattle.egress_marks.proofs.Marked.{IsMarks-marked, free_at, held_before}
use Rattle.egress_marks.proofs.Others.{marked_own, marked_other, marked_count}
use Rattle.egress_marks.proofs.marks.Marks.take.Goals as goal

pub invariant_of-self : goal.invariant_of-self
invariant_of-self c =
    let places = c.self.inside.places.items in
    let a = c.args.a in
    let first : c.first_free-place.result ≡ position_or_len is_none places = search rules in
    let within : position_or_len is_none places < length places = omega (arith, first, c.first_free-place.ensures.within, ap length c.as_slice.ensures.value) in
    let none = subst (λ zs. IsNone (mark_of zs a)) (sym c.self.view_is) c.requires.none in
    subst (λ i. IsMarks (set places i (Some a))) (sym first) (IsMarks-marked places a c.self.invariant none within)

pub returns-clause-free : goal.returns-clause-free
returns-clause-free c =
    let places = c.args.self.now in
    let first : c.first_free-place.result ≡ position_or_len is_none places = search rules in
    let within : position_or_len is_none places < length places = omega (arith, first, c.first_free-place.ensures.within, ap length (c.as_slice.ensures.value ∙ c.self.view_is)) in
    let back : c.first_free-place.result + 1 - 1 ≡ position_or_len is_none places = omega (arith, first) in
    record { from_one = omega arith; at = ap (slice_get places) back ∙ free_at places within }

pub returns-clause-smaller_held : goal.returns-clause-smaller_held
returns-clause-smaller_held c = λ m low high.
    let places = c.args.self.now in
    let first : c.first_free-place.result ≡ position_or_len is_none places = search rules in
    let within : position_or_len is_none places < length places = omega (arith, first, c.first_free-place.ensures.within, ap length (c.as_slice.ensures.value ∙ c.self.view_is)) in
    held_before places m within low (omega (arith, high, first))

pub returns-clause-own : goal.returns-clause-own
returns-clause-own c =
    let places = c.self.inside.places.items in
    let a = c.args.a in
    let first : c.first_free-place.result ≡ position_or_len is_none places = search rules in
    let within : position_or_len is_none places < length places = omega (arith, first, c.first_free-place.ensures.within, ap length c.as_slice.ensures.value) in
    let none = subst (λ zs. IsNone (mark_of zs a)) (sym c.self.view_is) c.requires.none in
    subst (λ i. mark_of (set places i (Some a)) a ≡ Some (i + 1)) (sym first) (marked_own places a none (addr_eq-itself a) within)

pub returns-clause-others : goal.returns-clause-others
returns-clause-others c = λ b other.
    let places = c.self.inside.places.items in
    let a = c.args.a in
    let first : c.first_free-place.result ≡ position_or_len is_none places = search rules in
    let within : position_or_len is_none places < length places = omega (arith, first, c.first_free-place.ensures.within, ap length c.as_slice.ensures.value) in
    subst (λ i. mark_of (set places i (Some a)) b ≡ mark_of places b) (sym first) (marked_other places a b other within)
    ∙ ap (λ zs. mark_of zs b) c.self.view_is

pub returns-clause-count : goal.returns-clause-count
returns-clause-count c =
    let places = c.self.inside.places.items in
    let a = c.args.a in
    let first : c.first_free-place.result ≡ position_or_len is_none places = search rules in
    let within : position_or_len is_none places < length places = omega (arith, first, c.first_free-place.ensures.within, ap length c.as_slice.ensures.value) in
    subst (λ i. count_by is_some (set places i (Some a)) ≡ count_by is_some places + 1) (sym first) (marked_count places a within)
    ∙ ap (λ zs. count_by is_some zs + 1) c.self.view_is
