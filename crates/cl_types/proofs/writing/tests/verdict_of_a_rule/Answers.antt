use Rattle.std.proofs.Common.{◌≡◌, ◌∙◌, [], codes, sym, subst, refl}
use Rattle.cl_types.specs.PolicyName.{HasNoSlash}
use Rattle.cl_types.proofs.Parts.{lacks_literal}
use Rattle.cl_types.proofs.writing.tests.verdict_of_a_rule.Goals as goal

pub invariant_of-rule : goal.invariant_of-rule
invariant_of-rule g c = record {
  namespace_form = subst HasNoSlash (sym c.in_ok-text.ensures) (lacks_literal 47 (codes "shop") refl);
  name_form = subst HasNoSlash (sym c.in_ok-text-2.ensures) (lacks_literal 47 (codes "deny") refl);
  cluster_wide = ((λ e. let clash : codes "shop" ≡ [] = sym c.in_ok-text.ensures ∙ e in cc), (λ e. cc));
}
