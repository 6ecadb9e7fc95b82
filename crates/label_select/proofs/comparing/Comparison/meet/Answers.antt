use Rattle.std.proofs.Common.{◌≡◌, [], ◌∷◌, take, get_or, refl, sym, ap, ◌∙◌}
use Rattle.std.proofs.lemmas.List.{take_all, take_more}
use Rattle.label_select.specs.Comparing.{met, met_byte}
use Rattle.label_select.proofs.Compared.{met-append}
use Rattle.label_select.proofs.comparing.Comparison.meet.Goals as goal

pub loop-byte-init : goal.loop-byte-init
loop-byte-init c = refl

pub loop-byte-preserved : goal.loop-byte-preserved
loop-byte-preserved c =
    let start = c.args.self.now in
    let bytes = c.args.bytes.now in
    let i = c.loop-byte.byte-index in
    c.meet_byte.ensures
    ∙ (ap (λ s. met_byte s (get_or bytes i 0)) c.loop-byte.invariant
    ∙ (sym (met-append start (take i bytes) (get_or bytes i 0 ∷ [])) ∙ ap (met start) (sym (take_more bytes i 0 c.loop-byte-test.true))))

pub returns : goal.returns
returns c = c.loop-byte.invariant ∙ ap (met c.args.self.now) (take_all c.loop-byte.byte-index c.args.bytes.now c.loop-byte-test.false)
