use Rattle.touched_names.proofs.NameForms.{egress_names_are, moved_names_are, names_at_egresses_are, names_at_policies_are, policy_names_are}
use Rattle.touched_names.proofs.laws.touched_names_are_names.Goals as goal

pub returns : goal.returns
returns c = record {
  policies = policy_names_are;
  egresses = egress_names_are;
  old_policies = names_at_policies_are;
  old_egresses = names_at_egresses_are;
  moved = moved_names_are;
}
