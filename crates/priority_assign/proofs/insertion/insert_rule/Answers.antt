use Rattle.std.proofs.Common.{◌≡◌, ◌+◌, ◌≤◌, length, [], arith, rules, ap, sym, subst, ◌∙◌, true}
use Rattle.std.proofs.lemmas.Result.{IfOk-weaker}
use Rattle.priority_assign.specs.Rules.{place_of, number_after, number_before}
use Rattle.priority_assign.specs.Windows.{fits, least_window}
use Rattle.priority_assign.specs.Insertion.{relabelled, gap}
use Rattle.priority_assign.proofs.Room.{fits-least}
use Rattle.priority_assign.proofs.Kept.{number_after-below, relabelled-wide}
use Rattle.priority_assign.proofs.insertion.insert_rule.Goals as goal

pub overflow_sub-upper : goal.overflow_sub-upper
overflow_sub-upper c =
    let xs = c.args.rules.now.items in
    let n = c.place_of-place.result in
    let low : c.number_after-lower.result ≡ number_after xs n = search rules in
    let high : c.number_before-upper.result ≡ number_before xs n = search rules in
    omega (arith, number_after-below xs n c.requires.ladder.falling, low, high)

pub insert_spread-requires-clause-fit : goal.insert_spread-requires-clause-fit
insert_spread-requires-clause-fit c =
    let xs = c.args.rules.now.items in
    let n = c.place_of-place.result in
    let within : n ≤ length xs = omega (arith, c.place_of-place.ensures.within, ap length c.as_slice.ensures.value) in
    let least : c.least_window-window.result ≡ least_window xs n = search rules in
    subst (λ v. fits xs n v ≡ true) (sym least) (fits-least xs n c.requires.few within)

pub returns-then-upper-lower-ge2-clause-relabelled : goal.returns-then-upper-lower-ge2-clause-relabelled
unfolding relabelled
returns-then-upper-lower-ge2-clause-relabelled c =
    let xs = c.args.rules.now.items in
    let k = c.args.key in
    let low : c.number_after-lower.result ≡ number_after xs (place_of xs k) = search rules in
    let high : c.number_before-upper.result ≡ number_before xs (place_of xs k) = search rules in
    let wide : 2 ≤ gap xs k = omega (arith, c.if-upper-lower-ge2.true, low, high) in
    IfOk-weaker c.insert_halfway.result (λ placed. placed.relabelled ≡ []) (λ placed. placed.relabelled ≡ relabelled xs k) (λ placed none. none ∙ sym (relabelled-wide xs k wide)) c.insert_halfway.ensures.relabelled

pub least_window-window-requires-clause-full : goal.least_window-window-requires-clause-full
least_window-window-requires-clause-full c =
    let xs = c.args.rules.now.items in
    let n = c.place_of-place.result in
    let low : c.number_after-lower.result ≡ number_after xs n = search rules in
    let high : c.number_before-upper.result ≡ number_before xs n = search rules in
    let next : number_before xs n ≡ number_after xs n + 1 = omega (arith, number_after-below xs n c.requires.ladder.falling, low, high, c.if-upper-lower-ge2.false) in
    subst (λ zs. number_before zs n ≡ number_after zs n + 1) (sym c.as_slice-else-upper-lower-ge2.ensures.value) next
