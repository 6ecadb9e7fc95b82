use Rattle.std.proofs.Common.{◌≡◌, ◌++◌, drop}
use Rattle.std.specs.List.{filter_map}
use Rattle.cl_types.specs.ReadText.{read_block}
use Rattle.object_reader.proofs.blocks.blocks_of.Given as goal

-- the blocks so far with those that are left are all of them
abbrev pub invariant-loop-text : goal.invariant-loop-text
invariant-loop-text l = l.blocks.items ++ filter_map read_block (drop l.text-index l.texts) ≡ filter_map read_block l.texts
