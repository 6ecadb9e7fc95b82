use Rattle.std.proofs.Common.{◌≡◌, ◌+◌, length, sym, subst, arith, false, ⊎_elim}
use Rattle.std.proofs.lemmas.Bool.{cases_lt}
use Rattle.priority_assign.specs.Windows.{fits}
use Rattle.priority_assign.proofs.Room.{least_window-is, fits-all}
use Rattle.priority_assign.proofs.window.least_window.Goals as goal

pub returns-in-Some : goal.returns-in-Some
returns-in-Some c =
    sym (least_window-is c.args.rules.now c.args.place c.in-Some.begin c.loop-width.width c.in-Some.ensures.fit c.loop-width.invariant.least c.in-Some.ensures.earlier)

pub returns : goal.returns
returns c =
    let rules = c.args.rules.now in
    sym (least_window-is rules c.args.place 0 (length rules + 1) (fits-all rules c.args.place c.requires.few c.requires.within) (λ a v lt. c.loop-width.invariant.least a v (omega (arith, lt))) (λ a lt. absurd (omega (arith, lt))))

pub loop-width-preserved : goal.loop-width-preserved
loop-width-preserved c =
    record {
      least = λ b v lt. ⊎_elim
          (λ narrower. c.loop-width.invariant.least b v narrower)
          (λ same. let e : c.loop-width.width ≡ v = omega (arith, same, lt) in subst (λ i. fits c.args.rules.now c.args.place (record { begin = b; width = i }) ≡ false) e (c.in_default.ensures b))
          (cases_lt v c.loop-width.width);
      near = c.next_loose-loose.ensures;
    }
