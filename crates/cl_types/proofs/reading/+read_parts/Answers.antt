use Rattle.std.proofs.Common.{◌≡◌, ◌∙◌, ℕ, ◌+◌, ◌*◌, ◌≤◌, List, [], ◌∷◌, ◌++◌, length, ap, subst, Option, Some, None, arith}
use Rattle.std.specs.Option.{IfNone}
use Rattle.std.proofs.lemmas.Option.{IfSome_then}
use Rattle.std.specs.Int.Digits.{number_from_digits_after}
use Rattle.cl_types.specs.Reading.{separator_of, base_of, IsPart, IsParts, Continues, Lacks}
use Rattle.cl_types.specs.declared.reading.Family.{Family}
use Rattle.cl_types.specs.declared.reading.Parts.{Parts}
use Rattle.cl_types.proofs.Parts.{one_part, first_part, parts_cons}
use Rattle.cl_types.proofs.reading.+read_parts.Goals as goal

pub returns-in_err-part-in-None-clause-none : goal.returns-in_err-part-in-None-clause-none
returns-in_err-part-in-None-clause-none t c =
    rw c.from_residual.ensures (λ ns some few form.
    let lacks = subst (λ s. Lacks s c.args.text.now) c.separator.ensures c.in-None.ensures.none in
    let one = one_part c.args.family c.args.text.now ns lacks some form in
    c.in_err-part-in-None.ensures.none one.0 one.2)

pub returns-in_err-part-in-Some-clause-none : goal.returns-in_err-part-in-Some-clause-none
returns-in_err-part-in-Some-clause-none t c =
    rw c.from_residual-in_err-part-in-Some.ensures (λ ns some few form.
    let first = c.in-Some.first.now in
    let whole = subst (λ s. c.args.text.now ≡ first ++ s ∷ c.in-Some.rest.now) c.separator.ensures c.in-Some.ensures.found in
    let lacks = subst (λ s. Lacks s first) c.separator.ensures c.in-Some.ensures.first in
    let front = first_part c.args.family c.args.text.now first c.in-Some.rest.now ns whole lacks some form in
    c.in_err-part-in-Some.ensures.none front.n front.part)

pub returns-in_ok-part-in-None-clause-found : goal.returns-in_ok-part-in-None-clause-found
returns-in_ok-part-in-None-clause-found t c = record {
  ns = c.in_ok-part-in-None.field-0 ∷ [];
  some = omega arith;
  form = c.in_ok-part-in-None.ensures.found.0;
  count = c.with_part.ensures.count;
  few = omega arith;
  number = c.with_part.ensures.number;
  below = c.with_part.ensures.below;
}

-- a part, and what continues after it
after_first : (f : Family) (before next : Parts) (text first rest : List ℕ) (n : ℕ) → text ≡ first ++ separator_of f ∷ rest → IsPart f first n → next.count ≡ before.count + 1 → next.number ≡ before.number * base_of f + n → (parts : Parts) → Continues f next rest parts → Continues f before text parts
after_first f before next text first rest n whole part count number parts more = record {
  ns = n ∷ more.ns;
  some = omega arith;
  form = parts_cons f text first rest n more.ns whole part more.some more.form;
  count = omega (arith, more.count);
  few = more.few;
  number = more.number ∙ ap (λ m. number_from_digits_after (base_of f) m more.ns) number;
  below = more.below;
}

pub returns-in_ok-part-in-Some-clause-found : goal.returns-in_ok-part-in-Some-clause-found
returns-in_ok-part-in-Some-clause-found t c =
    let first = c.in-Some.first.now in
    let whole = subst (λ s. c.args.text.now ≡ first ++ s ∷ c.in-Some.rest.now) c.separator.ensures c.in-Some.ensures.found in
    IfSome_then c.read_parts.result c.read_parts.ensures.found (after_first c.args.family c.args.before c.with_part-before.result c.args.text.now first c.in-Some.rest.now c.in_ok-part-in-Some.field-0 whole c.in_ok-part-in-Some.ensures.found.0 c.with_part-before.ensures.count c.with_part-before.ensures.number)

none_weaker : {X : Type 0} (r : Option X) (P Q : Type 0) → (P → Q) → IfNone r P → IfNone r Q
none_weaker None P Q f h = f h
none_weaker (Some x) P Q f h = h

pub returns-in_ok-part-in-Some-clause-none : goal.returns-in_ok-part-in-Some-clause-none
returns-in_ok-part-in-Some-clause-none t c =
    let first = c.in-Some.first.now in
    let whole = subst (λ s. c.args.text.now ≡ first ++ s ∷ c.in-Some.rest.now) c.separator.ensures c.in-Some.ensures.found in
    let lacks = subst (λ s. Lacks s first) c.separator.ensures c.in-Some.ensures.first in
    none_weaker c.read_parts.result ((ms : List ℕ) → 1 ≤ length ms → c.with_part-before.result.count + length ms ≤ 8 → IsParts c.args.family c.in-Some.rest.now ms → ⊥) _
    (λ below ns some few form.
    let front = first_part c.args.family c.args.text.now first c.in-Some.rest.now ns whole lacks some form in
    below front.ms front.some (omega (arith, ap length front.whole, c.with_part-before.ensures.count)) front.parts)
    c.read_parts.ensures.none
