use Rattle.std.proofs.Common.{◌≡◌, drop, find}
use Rattle.object_reader.specs.Texts.{has_colon}
use Rattle.pod_reader.proofs.pods.first_six.Given as goal

-- what is sought is among the texts that are left
abbrev pub invariant-loop-text : goal.invariant-loop-text
invariant-loop-text l = find has_colon (drop l.text-index l.texts) ≡ find has_colon l.texts
