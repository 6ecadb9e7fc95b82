use Rattle.touched_names.proofs.Placed.{put_egresses, put_policies, removed_egresses, removed_policies}
use Rattle.touched_names.proofs.laws.changed_rules_touch.Goals as goal

pub returns : goal.returns
returns c = record {
  put_policies = put_policies;
  removed_policies = removed_policies;
  put_egresses = put_egresses;
  removed_egresses = removed_egresses;
}
