use Rattle.std.proofs.Common.{◌≡◌, ◌<◌, [], ◌∷◌, length, map, take, sym, ap, ◌∙◌, arith}
use Rattle.label_select.specs.Comparing.{met}
use Rattle.label_select.specs.Written.{listed}
use Rattle.label_select.proofs.Compared.{met-append}
use Rattle.label_select.proofs.Listings.{listed-first, listed-more}
use Rattle.label_select.proofs.comparing.meet_listed.Goals as goal
use Rattle.label_select.proofs.comparing.meet_listed.Goals.{then-i-gt0, else-i-gt0}

pub loop-i-preserved : goal.loop-i-preserved
loop-i-preserved g c =
    let within : c.loop-i.i < length c.args.items.now = omega arith in
    let text = g.T.Met.text in
    let start = c.args.c.now in
    let items = c.args.items.now in
    let i = c.loop-i.i in
    let item = c.index-items-i.result in
    elim c.if-i-gt0.branch [
      | then-i-gt0 w ↦
          let further : 0 < i = omega arith in
          c.meet-in-loop-i.ensures
          ∙ (ap (λ s. met s (text item)) (w.c-is ∙ (w.meet.ensures ∙ ap (λ s. met s (44 ∷ [])) c.loop-i.invariant))
          ∙ (sym (met-append start (listed (map text (take i items))) (44 ∷ text item)) ∙ ap (met start) (sym (listed-more text items i item within c.index-items-i.is further))))
      | else-i-gt0 w ↦
          let none : i ≡ 0 = omega arith in
          c.meet-in-loop-i.ensures
          ∙ (ap (λ s. met s (text item)) (w.c-is ∙ (c.loop-i.invariant ∙ ap (λ k. met start (listed (map text (take k items)))) none))
          ∙ ap (met start) (sym (listed-first text items i item within c.index-items-i.is none)))
    ]
