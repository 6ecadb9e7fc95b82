use Rattle.ctl_core.proofs.touched.changes_touch.Goals as goal

pub returns : goal.returns
returns c = record {
  moved = c.moved_groups_touch.ensures;
  put_policies = c.changed_rules_touch.ensures.put_policies;
  removed_policies = c.changed_rules_touch.ensures.removed_policies;
  put_egresses = c.changed_rules_touch.ensures.put_egresses;
  removed_egresses = c.changed_rules_touch.ensures.removed_egresses;
  tiers = c.tiers_and_nodes_touch_nothing.ensures.tiers;
}
