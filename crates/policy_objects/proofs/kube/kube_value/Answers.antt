use Rattle.std.proofs.Common.{refl, ap, length, option_map}
use Rattle.serde_json.specs.View.{view}
use Rattle.policy_objects.proofs.RuleLists.{kube_is_policy}
use Rattle.policy_objects.proofs.kube.kube_value.Goals as goal

pub invariant_of-result : goal.invariant_of-result
invariant_of-result c =
    kube_is_policy c.args.frame (option_map (λ v. view v.now) c.args.spec) _
    (record {
      kind = c.requires.kind;
      no_priority = c.requires.priority;
      key = refl;
      tier = c.new.ensures;
      priority = refl;
      one_group = ap length c.in_ok-applied.ensures;
      ingress = c.in_ok-isolates_in.ensures;
      egress = c.in_ok-isolates_out.ensures;
      rules = c.in_ok-rules.ensures;
    })
