use Rattle.std.proofs.Common.{◌≡◌, ℕ, Some, true, false, arith, sym, ◌∙◌, subst}
use Rattle.std.proofs.lemmas.Bool.{false_from_ne_true, both_ways}
use Rattle.priority_assign.specs.Search.{IsNearestLoose}
use Rattle.priority_assign.specs.Windows.{fits, IsFirstBegin}
use Rattle.priority_assign.proofs.Narrow.{first-loose, first-place, answer_by_test}
use Rattle.priority_assign.proofs.window.first_begin.Goals as goal
use Rattle.priority_assign.proofs.window.first_begin.Goals.{in-Some-loose+else-fits, in_default-loose}

pub returns-then-fits : goal.returns-then-fits
returns-then-fits c =
    let xs = c.args.rules.now in
    let p = c.args.place in
    let w = c.args.width in
    let near = subst (IsNearestLoose xs p w) c.in-Some-loose.is c.requires.loose in
    first-loose xs p c.in-Some-loose.begin w c.requires.within c.requires.full c.requires.least near c.in_default.ensures (sym c.fits.ensures ∙ c.if-fits.true)

pub returns : goal.returns
returns c =
    let xs = c.args.rules.now in
    let p = c.args.place in
    let w = c.args.width in
    let others : (b : ℕ) → c.args.loose ≡ Some b → fits xs p (record { begin = b; width = w }) ≡ false = λ b e. elim c.match-loose.branch [
      | in-Some-loose+else-fits u ↦
          let same : u.in-Some-loose.begin ≡ b = cc in
          subst (λ i. fits xs p (record { begin = i; width = w }) ≡ false) same (sym u.fits.ensures ∙ u.if-fits.false)
      | in_default-loose u ↦ absurd (u.in_default-loose.not-Some b e)
    ] in
    let starts = λ (a : ℕ) (fit : fits xs p (record { begin = a; width = w }) ≡ true). first-place xs p w a c.args.loose c.requires.within c.requires.full c.requires.least c.requires.loose c.in_default.ensures others fit in
    answer_by_test c.fits-2.result p c.then_some.result ((b : ℕ) → fits xs p (record { begin = b; width = w }) ≡ false) (IsFirstBegin xs p w) c.then_some.ensures
    (λ fit. record {
      fit = sym c.fits-2.ensures ∙ fit;
      earlier = λ a lt. false_from_ne_true (fits xs p (record { begin = a; width = w })) (λ other. omega (arith, starts a other, lt));
    })
    (λ none a. false_from_ne_true (fits xs p (record { begin = a; width = w })) (λ other.
    both_ways (fits xs p (record { begin = p; width = w })) (sym c.fits-2.ensures ∙ none) (subst (λ i. fits xs p (record { begin = i; width = w }) ≡ true) (starts a other) other)))
