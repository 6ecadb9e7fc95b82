use Rattle.std.proofs.Common.{◌≡◌, ◌+◌, ◌/◌, arith, rules, ap, sym, ◌∙◌, Some}
use Rattle.priority_assign.specs.Rules.{number_of, place_of, number_after, number_before}
use Rattle.priority_assign.specs.Insertion.{halfway}
use Rattle.priority_assign.proofs.Comes.{place-le}
use Rattle.priority_assign.proofs.Kept.{number_of-halfway}
use Rattle.priority_assign.proofs.insertion.insert_halfway.Goals as goal

pub number_before-upper-requires : goal.number_before-upper-requires
number_before-upper-requires c =
    omega (arith, c.requires.here, place-le c.args.rules.now.items c.args.key, c.as_slice-2.ensures.len)

pub returns-clause-number : goal.returns-clause-number
returns-clause-number c =
    let xs = c.args.rules.now.items in
    let k = c.args.key in
    let rules_now : c.insert.new.self.items ≡ halfway xs k = search rules in
    let middle : (c.from.result + c.from-2.result) / 2 ≡ (number_after xs (place_of xs k) + number_before xs (place_of xs k)) / 2 = search rules in
    ap (λ zs. number_of zs k) rules_now ∙ number_of-halfway xs k ∙ ap Some (sym middle)
