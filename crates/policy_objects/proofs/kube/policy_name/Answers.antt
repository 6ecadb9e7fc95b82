use Rattle.std.proofs.Common.{sym, subst}
use Rattle.serde_json.specs.View.{view}
use Rattle.cl_types.specs.PolicyName.{HasNoSlash}
use Rattle.policy_objects.proofs.Names.{policy_name_has_no_slash}
use Rattle.policy_objects.proofs.kube.policy_name.Goals as goal

pub returns-clause-form : goal.returns-clause-form
returns-clause-form c =
    subst HasNoSlash (sym c.in_ok-name.ensures) (policy_name_has_no_slash c.names_have_no_slash.ensures.objects (view c.args.object.now))
