use Rattle.std.proofs.Common.{ap, ◌++◌, ◌∙◌}
use Rattle.touched_names.specs.Touching.{applies_to_some, egress_applies_to_some, egress_names, group_names, policy_names}
use Rattle.touched_names.proofs.Kept.{kept_only, three_pushed}
use Rattle.touched_names.proofs.touching.push_moved_names.Goals as goal

pub returns : goal.returns
returns c =
    three_pushed c.args.names.now.items (group_names c.args.moved.now) _ _ c.push_group_names.new.names.items c.push_policies_of.new.names.items c.push_egresses_of.new.names.items c.in_ok-push_group_names.ensures
    (c.in_ok-push_policies_of.ensures ∙ ap (λ xs. c.push_group_names.new.names.items ++ xs) (kept_only policy_names (applies_to_some c.args.spread.now) c.args.policies.now))
    (c.in_ok-push_egresses_of.ensures ∙ ap (λ xs. c.push_policies_of.new.names.items ++ xs) (kept_only egress_names (egress_applies_to_some c.args.spread.now) c.args.egresses.now))
