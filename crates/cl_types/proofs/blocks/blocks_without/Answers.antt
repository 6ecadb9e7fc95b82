use Rattle.std.proofs.Common.{◌≡◌, List, map, ◌↔◌, sym, ap, subst}
use Rattle.std.specs.List.{All, Any, AllPairs, Contains}
use Rattle.std.specs.Result.{IfOk}
use Rattle.cl_types.specs.declared.addr.Addr.{Addr}
use Rattle.cl_types.specs.Prefix.{PrefixData, Holds}
use Rattle.cl_types.proofs.Mapped.{made}
use Rattle.cl_types.specs.declared.blocks.Span.{Span}
use Rattle.cl_types.specs.Addr.{width_of, with_number}
use Rattle.cl_types.specs.Blocks.{Remains, wider, Overshoots, IsMaximalBlock, AddressesPrecede, block_at, FitsWidth}
use Rattle.cl_types.proofs.PrefixBlocks.{fits_128, block_overshoots, spans_of, whole_fits, fit_spans, exact_blocks, maximal_blocks, ascending_blocks}
use Rattle.cl_types.proofs.blocks.blocks_without.Goals as goal

pub add_spans-requires-clause-fits : goal.add_spans-requires-clause-fits
add_spans-requires-clause-fits c = fits_128 c.args.p.base c.whole_of.result (record { low = c.whole_of.ensures.low; fits = c.whole_of.ensures.fits })

pub add_spans-requires-clause-larger : goal.add_spans-requires-clause-larger
add_spans-requires-clause-larger c =
    subst (λ (s : Span). Overshoots (λ n. Remains c.args.p c.as_slice.result.now (with_number c.args.p.base n)) (wider s)) (sym c.whole_of.ensures.value) (block_overshoots c.args.p c.as_slice.result.now)

pub prefixes-requires : goal.prefixes-requires
prefixes-requires c =
    let p = c.args.p in
    let es = c.as_slice.result.now in
    let spans = c.as_slice-2.result.now in
    let whole = whole_fits p c.whole_of.result c.whole_of.ensures.value c.whole_of.ensures.low c.whole_of.ensures.fits in
    let are = spans_of p es c.whole_of.result c.new-spans.result.items c.add_spans.new.spans.items spans c.whole_of.ensures.value c.new-spans.ensures.items c.in_ok-add_spans.ensures c.as_slice-2.ensures.value in
    subst (λ (a : Addr). All (FitsWidth (width_of a)) spans) (sym (ap (λ b. b.base) c.p.view_is)) (fit_spans p es spans whole are)

pub returns-clause-exact : goal.returns-clause-exact
returns-clause-exact c =
    let p = c.args.p in
    let es = c.as_slice.result.now in
    let spans = c.as_slice-2.result.now in
    let whole = whole_fits p c.whole_of.result c.whole_of.ensures.value c.whole_of.ensures.low c.whole_of.ensures.fits in
    let are = spans_of p es c.whole_of.result c.new-spans.result.items c.add_spans.new.spans.items spans c.whole_of.ensures.value c.new-spans.ensures.items c.in_ok-add_spans.ensures c.as_slice-2.ensures.value in
    let blocks = subst (λ (a : Addr). IfOk c.prefixes.result (λ x. x ≡ map (block_at a) spans)) (ap (λ b. b.base) c.p.view_is) c.prefixes.ensures in
    subst (λ (xs : List PrefixData). IfOk c.prefixes.result (λ blocks. (a : Addr) → Remains p xs a ↔ Any (λ b. Holds b a) blocks)) c.as_slice.ensures
    (made c.prefixes.result (map (block_at p.base) spans) (λ (blocks : List PrefixData). (a : Addr) → Remains p es a ↔ Any (λ b. Holds b a) blocks) (exact_blocks p es spans whole are) blocks)

pub returns-clause-maximal : goal.returns-clause-maximal
returns-clause-maximal c =
    let p = c.args.p in
    let es = c.as_slice.result.now in
    let spans = c.as_slice-2.result.now in
    let whole = whole_fits p c.whole_of.result c.whole_of.ensures.value c.whole_of.ensures.low c.whole_of.ensures.fits in
    let are = spans_of p es c.whole_of.result c.new-spans.result.items c.add_spans.new.spans.items spans c.whole_of.ensures.value c.new-spans.ensures.items c.in_ok-add_spans.ensures c.as_slice-2.ensures.value in
    let blocks = subst (λ (a : Addr). IfOk c.prefixes.result (λ x. x ≡ map (block_at a) spans)) (ap (λ b. b.base) c.p.view_is) c.prefixes.ensures in
    subst (λ (xs : List PrefixData). IfOk c.prefixes.result (λ blocks. (b : PrefixData) → IsMaximalBlock p xs b ↔ Contains blocks b)) c.as_slice.ensures
    (made c.prefixes.result (map (block_at p.base) spans) (λ (blocks : List PrefixData). (b : PrefixData) → IsMaximalBlock p es b ↔ Contains blocks b) (maximal_blocks p es spans whole are) blocks)

pub returns-clause-ascending : goal.returns-clause-ascending
returns-clause-ascending c =
    let p = c.args.p in
    let es = c.as_slice.result.now in
    let spans = c.as_slice-2.result.now in
    let whole = whole_fits p c.whole_of.result c.whole_of.ensures.value c.whole_of.ensures.low c.whole_of.ensures.fits in
    let are = spans_of p es c.whole_of.result c.new-spans.result.items c.add_spans.new.spans.items spans c.whole_of.ensures.value c.new-spans.ensures.items c.in_ok-add_spans.ensures c.as_slice-2.ensures.value in
    let blocks = subst (λ (a : Addr). IfOk c.prefixes.result (λ x. x ≡ map (block_at a) spans)) (ap (λ b. b.base) c.p.view_is) c.prefixes.ensures in
    made c.prefixes.result (map (block_at p.base) spans) (AllPairs AddressesPrecede) (ascending_blocks p es spans whole are) blocks
