use Rattle.std.proofs.Common.{◌≡◌, ◌++◌, map, take}
use Rattle.std.specs.List.{flat_map}
use Rattle.suite_run.specs.Blocks.{cut_text}
use Rattle.suite_run.specs.Changing.{stream_told}
use Rattle.suite_run.proofs.blocks.write_each_cut.Given as goal

abbrev pub invariant-loop-stream : goal.invariant-loop-stream
invariant-loop-stream l = l.out ≡ l.initial.out ++ flat_map cut_text (map stream_told (take l.stream-index l.cut))
