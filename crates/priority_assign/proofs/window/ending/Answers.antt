use Rattle.std.proofs.Common.{◌≡◌, ◌+◌, ◌-◌, false, arith, sym, ◌∙◌, subst}
use Rattle.priority_assign.specs.Search.{NoneEnding}
use Rattle.priority_assign.specs.Windows.{fits, IsFirstBegin}
use Rattle.priority_assign.proofs.Narrow.{answer_by_test, ends_before}
use Rattle.priority_assign.proofs.window.ending.Goals as goal

pub returns : goal.returns
returns c =
    let xs = c.args.rules.now in
    let p = c.args.place in
    let w = c.args.width in
    let b = p + 1 - w in
    answer_by_test c.fits.result b c.then_some.result (NoneEnding xs p w) (IsFirstBegin xs p w) c.then_some.ensures
    (λ fit. record {
      fit = sym c.fits.ensures ∙ fit;
      earlier = λ a lt. ends_before xs p a w (omega (arith, lt));
    })
    (λ none a ends.
    let same : b ≡ a = omega (arith, ends) in
    subst (λ i. fits xs p (record { begin = i; width = w }) ≡ false) same (sym c.fits.ensures ∙ none))
