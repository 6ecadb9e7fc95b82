use Rattle.std.proofs.Common.{◌≡◌, map, take}
use Rattle.cl_types.specs.Blocks.{block_at}
use Rattle.cl_types.proofs.blocks.prefixes.Given as goal

abbrev pub invariant-loop-span : goal.invariant-loop-span
invariant-loop-span l = l.blocks.items ≡ map (block_at l.base) (take l.span-index l.spans)
