use Rattle.cl_types.specs.Written.{policy_text}
use Rattle.touched_rules.proofs.SameTexts.{same_text}
use Rattle.touched_rules.proofs.touching.is_policy.Goals as goal

pub returns : goal.returns
returns c =
    same_text policy_text c.args.key.now c.args.other.now (c.texts_tell_names_apart.ensures.policies c.args.key.now c.args.other.now c.key_form.ensures c.key_form-2.ensures) c.same.result c.same.ensures
