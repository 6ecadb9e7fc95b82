use Rattle.std.proofs.Common.{◌≡◌, drop, find}
use Rattle.pod_reader.specs.Pods.{is_four_text}
use Rattle.pod_reader.proofs.pods.first_four.Given as goal

-- what is sought is among the texts that are left
abbrev pub invariant-loop-text : goal.invariant-loop-text
invariant-loop-text l = find is_four_text (drop l.text-index l.texts) ≡ find is_four_text l.texts
