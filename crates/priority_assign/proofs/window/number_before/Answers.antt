use Rattle.std.proofs.Common.{◌≡◌, ◌<◌, ◌-◌, ◌∙◌, length, suc, ap, sym, arith}
use Rattle.priority_assign.specs.Rules.{number_before}
use Rattle.priority_assign.proofs.Falling.{last_number-take}
use Rattle.priority_assign.proofs.window.number_before.Goals as goal

pub returns-else-place-eq0 : goal.returns-else-place-eq0
returns-else-place-eq0 c =
    let rules = c.args.rules.now in
    let i = c.args.place - 1 in
    let within : i < length rules = omega arith in
    let next : suc i ≡ c.args.place = omega arith in
    sym (last_number-take 64001 rules i c.index-rules-place.result within) ∙ ap (number_before rules) next
