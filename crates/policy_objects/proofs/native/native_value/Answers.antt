use Rattle.std.proofs.Common.{refl, ap, ◌∙◌, sym, option_map}
use Rattle.serde_json.specs.View.{view}
use Rattle.policy_parts.specs.Places.{is_in_baseline, is_baseline}
use Rattle.policy_objects.specs.Rules.{ingress_items, egress_items}
use Rattle.policy_objects.proofs.RuleLists.{native_is_policy}
use Rattle.policy_objects.proofs.native.native_value.Goals as goal

pub invariant_of-result : goal.invariant_of-result
unfolding is_in_baseline
invariant_of-result c =
    native_is_policy c.args.frame (ingress_items (option_map (λ v. view v.now) c.args.spec)) (egress_items (option_map (λ v. view v.now) c.args.spec)) _
    (record {
      native = c.requires.kind;
      key = refl;
      baseline = c.requires.baseline ∙ ap is_baseline (sym c.in_ok-tier.ensures);
      priority = refl;
      ingress = refl;
      egress = refl;
      rules = c.in_ok-rules.ensures;
    })
