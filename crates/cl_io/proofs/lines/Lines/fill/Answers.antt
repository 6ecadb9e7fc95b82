use Rattle.std.proofs.Common.{◌≡◌, ℕ, List, [], ◌∷◌, length, get_or, option_map, refl, ap, ◌∙◌, arith}
use Rattle.cl_io.specs.Files.{read_last}
use Rattle.cl_io.specs.Reader.{Reading}
use Rattle.cl_io.proofs.lines.Lines.fill.Goals as goal

one_byte : (xs : List ℕ) → length xs ≡ 1 → xs ≡ get_or xs 0 0 ∷ []
one_byte [] h = absurd (omega (arith, h))
one_byte (x ∷ []) h = refl
one_byte (x ∷ y ∷ xs) h = absurd (omega (arith, h))

pub returns-then-count-left-clause-over : goal.returns-then-count-left-clause-over
returns-then-count-left-clause-over g c =
    let read = c.in_ok-count.ensures in
    let xs = c.read_chunk.new.chunk.items in
    let one : length xs ≡ 1 = omega (arith, c.min.ensures, c.max-most.ensures, read.count, c.if-count-left.true) in
    let total : c.self.inside.total ≡ c.args.self.now.total = ap (λ (z : Reading). z.total) c.self.view_is in
    let limit : c.self.inside.input_limit ≡ c.args.self.now.input_limit = ap (λ (z : Reading). z.input_limit) c.self.view_is in
    λ _. (
      omega (arith, c.min.ensures, c.max-most.ensures, read.count, c.if-count-left.true, total, limit, c.self.invariant),
      (get_or xs 0 0, read.reads.taken ∙ ap (λ z. option_map (read_last z) (g.F.Files.state c.args.files.now).taken) (one_byte xs one)),
    )
