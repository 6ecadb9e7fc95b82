use Rattle.std.proofs.Common.{◌≡◌, map, take}
use Rattle.cl_types.specs.Blocks.{mask_of}
use Rattle.cl_types.proofs.blocks.masks.Given as goal

abbrev pub invariant-loop-span : goal.invariant-loop-span
invariant-loop-span l = l.blocks.items ≡ map mask_of (take l.span-index l.spans)
