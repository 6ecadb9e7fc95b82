use Rattle.std.proofs.Common.{sym, ap, ◌∙◌}
use Rattle.cl_types.specs.Addr.{width_of}
use Rattle.cl_types.proofs.Remaining.{covered, beside_higher, met, beside_lower}
use Rattle.cl_types.proofs.blocks.beside.Goals as goal

pub returns-then-above-taken : goal.returns-then-above-taken
returns-then-above-taken c =
    let same = ap (λ b. width_of b.base) (sym c.except.view_is) ∙ (sym c.width.ensures ∙ c.if-width.false ∙ c.width-2.ensures) in
    covered c.args.span c.whole_of-taken.result c.args.base c.args.except.now c.whole_of-taken.ensures.value same c.if-span-taken.true (sym c.above.ensures ∙ c.if-above-taken.true)

pub returns-else-above-taken : goal.returns-else-above-taken
returns-else-above-taken c =
    let same = ap (λ b. width_of b.base) (sym c.except.view_is) ∙ (sym c.width.ensures ∙ c.if-width.false ∙ c.width-2.ensures) in
    beside_higher c.args.span c.whole_of-taken.result c.args.base c.args.except.now c.whole_of-taken.ensures.value same c.if-span-taken.true (λ e. c.if-above-taken.false (c.above.ensures ∙ e))

pub returns-then-above-span : goal.returns-then-above-span
returns-then-above-span c =
    let same = ap (λ b. width_of b.base) (sym c.except.view_is) ∙ (sym c.width.ensures ∙ c.if-width.false ∙ c.width-2.ensures) in
    met c.args.span c.whole_of-taken.result c.args.base c.args.except.now c.whole_of-taken.ensures.value same c.if-span-taken.false (sym c.above-else-span-taken.ensures ∙ c.if-above-span.true)

pub returns-else-above-span : goal.returns-else-above-span
returns-else-above-span c =
    let same = ap (λ b. width_of b.base) (sym c.except.view_is) ∙ (sym c.width.ensures ∙ c.if-width.false ∙ c.width-2.ensures) in
    beside_lower c.args.span c.whole_of-taken.result c.args.base c.args.except.now c.whole_of-taken.ensures.value same c.if-span-taken.false (λ e. c.if-above-span.false (c.above-else-span-taken.ensures ∙ e))
