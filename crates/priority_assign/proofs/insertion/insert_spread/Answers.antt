use Rattle.std.proofs.Common.{◌≡◌, ◌+◌, ◌-◌, ◌++◌, take, drop, arith, rules, ap, sym, subst, ◌∙◌, Some, true}
use Rattle.std.specs.Prelude.{insert, remove, slice_range}
use Rattle.priority_assign.specs.Rules.{keys, number_of, place_of}
use Rattle.priority_assign.specs.Windows.{lower, upper, fits}
use Rattle.priority_assign.specs.Insertion.{even_number, evenly, changes}
use Rattle.priority_assign.proofs.Room.{room-fits}
use Rattle.priority_assign.proofs.Kept.{spread-insert, number_of-spread, collected-spread}
use Rattle.priority_assign.proofs.insertion.insert_spread.Goals as goal

pub returns-clause-rules : goal.returns-clause-rules
returns-clause-rules c =
    let xs = c.args.rules.now.items in
    let k = c.args.key in
    let v = c.args.window in
    let n = c.args.place in
    let ins = c.insert.new.self.items in
    let fit = subst (λ p. fits xs p v ≡ true) c.requires.here c.requires.fit in
    let inside : ins ≡ insert xs (place_of xs k) (record { key = k; number = c.even_number-number.result }) = search rules in
    let l : c.number_after.result ≡ lower xs v = search rules in
    let u : c.number_before.result ≡ upper xs v = search rules in
    c.renumber_part.ensures ∙ (λ i. take v.begin ins ++ evenly (l i) (u i) v.width v.width (keys (take v.width (drop v.begin ins))) ++ drop (v.begin + v.width) ins) ∙ spread-insert xs k v c.even_number-number.result ins (room-fits xs (place_of xs k) v fit).0 inside

pub returns-clause-number : goal.returns-clause-number
returns-clause-number c =
    let xs = c.args.rules.now.items in
    let k = c.args.key in
    let v = c.args.window in
    let n = c.args.place in
    let fit = subst (λ p. fits xs p v ≡ true) c.requires.here c.requires.fit in
    let spans = (room-fits xs (place_of xs k) v fit).0 in
    let l : c.number_after.result ≡ lower xs v = search rules in
    let u : c.number_before.result ≡ upper xs v = search rules in
    let count : v.begin + v.width - 1 + 1 - n ≡ v.begin + v.width - place_of xs k = omega (arith, c.requires.here, spans.to) in
    let number = c.even_number-number.ensures ∙ (λ i. even_number (l i) (u i) v.width (count i)) in
    ap (λ zs. number_of zs k) (returns-clause-rules c) ∙ number_of-spread xs k v spans ∙ ap Some (sym number)

pub returns-clause-relabelled : goal.returns-clause-relabelled
returns-clause-relabelled c =
    let xs = c.args.rules.now.items in
    let k = c.args.key in
    let v = c.args.window in
    let e = v.begin + v.width - 1 in
    let n = c.requires.here in
    let fit = subst (λ p. fits xs p v ≡ true) c.requires.here c.requires.fit in
    let l : c.number_after.result ≡ lower xs v = search rules in
    let u : c.number_before.result ≡ upper xs v = search rules in
    let nothing = c.new-changed.ensures.items in
    let before = c.as_slice-3.ensures.value in
    let after = c.as_slice-4.ensures.value in
    let first = c.in_ok-collect_changes.ensures ∙ (λ i. nothing i ++ changes (slice_range (before i) v.begin (n i)) (evenly (l i) (u i) v.width v.width (keys (slice_range (before i) v.begin (n i))))) in
    let second = c.in_ok-collect_changes-2.ensures ∙ (λ i. c.collect_changes.new.changed.items ++ changes (slice_range (after i) (n i) e) (evenly (l i) (u i) v.width (e - n i) (keys (slice_range (after i) (n i) e)))) in
    let ys = c.renumber_part.new.rules.items in
    c.of.ensures ∙ collected-spread xs k v ys c.collect_changes.new.changed.items c.collect_changes-2.new.changed.items fit (returns-clause-rules c) first second ∙ ap (λ p. changes xs (remove ys p)) (sym c.requires.here)
