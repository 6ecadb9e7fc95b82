use Rattle.std.proofs.Common.{◌≡◌, drop}
use Rattle.std.specs.List.{list_all}
use Rattle.cl_types.specs.ReadText.{read_block}
use Rattle.object_reader.specs.Blocks.{is_except}
use Rattle.object_reader.proofs.blocks.all_excepts.Given as goal

-- what the texts that are left decide is what all of them decide
abbrev pub invariant-loop-text : goal.invariant-loop-text
invariant-loop-text l = list_all (λ t. is_except l.cidr (read_block t)) (drop l.text-index l.texts) ≡ list_all (λ t. is_except l.cidr (read_block t)) l.texts
