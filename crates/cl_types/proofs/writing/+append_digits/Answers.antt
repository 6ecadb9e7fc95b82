use Rattle.std.proofs.Common.{◌≡◌, ◌∙◌, ◌++◌, ◌∷◌, [], arith}
use Rattle.std.proofs.lemmas.Result.{on_ok_weaker}
use Rattle.cl_types.proofs.Digits.{digits_more, digits_none}
use Rattle.cl_types.proofs.writing.+append_digits.Goals as goal
use Rattle.cl_types.proofs.writing.+append_digits.Goals.{then-n-base+in_ok-append_digits, else-n-base}

-- the digits before the last are those of the number without it
pub returns-clause-ok : goal.returns-clause-ok
returns-clause-ok t c =
    elim c.if-n-base.branch [
      | then-n-base+in_ok-append_digits w ↦ on_ok_weaker c.write_bytes.result
          (λ (e : c.write_bytes.new.out ≡ c.if-n-base.out ++ c.glyph-last.result ∷ []).
          digits_more c.args.base c.requires.low c.args.n c.glyph-last.result c.args.out.now c.if-n-base.out c.write_bytes.new.out w.if-n-base.true (omega arith) (w.out-is ∙ w.in_ok-append_digits.ensures.ok) c.glyph-last.ensures e)
          c.write_bytes.ensures.ok
      | else-n-base w ↦ on_ok_weaker c.write_bytes.result
          (λ (e : c.write_bytes.new.out ≡ c.if-n-base.out ++ c.glyph-last.result ∷ []).
          digits_none c.args.base c.requires.low c.args.n c.glyph-last.result c.args.out.now c.if-n-base.out c.write_bytes.new.out w.if-n-base.false w.out-is c.glyph-last.ensures e)
          c.write_bytes.ensures.ok
    ]
