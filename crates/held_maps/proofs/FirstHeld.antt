-- The first of some rules that are held, when one more rule before them is looked at.
use Rattle.std.proofs.Common.{◌≡◌, ℕ, ◌+◌, ◌<◌, List, [], ◌∷◌, ◌++◌, ◌&&◌, Bool, true, false, Option, Some, filter, drop, length, get_or, if◌then◌else◌, refl, sym, ap, ◌∙◌, drop-cons, add-one}
use Rattle.std.specs.List.{list_any}
use Rattle.cl_types.specs.declared.question.Question.{Question}
use Rattle.cl_types.specs.Dir.{dir_eq}
use Rattle.cluster_types.specs.declared.steps.Stage.{Stage}
use Rattle.cluster_types.specs.Steps.{in_stage, earlier, first}
use Rattle.watch_streams.specs.declared.net.NetRule.{NetRule}
use Rattle.watch_streams.specs.HeldEvaluation.{HeldMaps, net_rule_key, held_member, is_at, is_complete, held_rule_matches}
use Rattle.watch_streams.specs.Net.{NetPolicyData}
use Rattle.watch_streams.specs.OneOfAll.{and_false, filter-none}

pub wanted_more : (p : NetRule → Bool) (rules later : List NetRule) (i : ℕ) (r : NetRule) (found : Option NetRule) → i < length rules → r ≡ get_or rules i r → p r ≡ true → found ≡ first net_rule_key (filter p (drop (i + 1) rules) ++ later) → Some (earlier net_rule_key r found) ≡ first net_rule_key (filter p (drop i rules) ++ later)
wanted_more p rules later i r found within here wanted after =
    let split : drop i rules ≡ r ∷ drop (i + 1) rules = rw (add-one, drop-cons rules i r within, ← here) refl in
    ap (λ o. Some (earlier net_rule_key r o)) after
    ∙ sym (ap (λ rs. first net_rule_key (filter p rs ++ later)) split ∙ ap (λ b. first net_rule_key ((if b then r ∷ filter p (drop (i + 1) rules) else filter p (drop (i + 1) rules)) ++ later)) wanted)

no_rule : (k a b c : Bool) → a ≡ false → (((k && a) && b) && c) ≡ false
no_rule k a b c e = ap (λ z. ((k && z) && b) && c) e ∙ ap (λ z. (z && b) && c) (and_false k)

-- no rule of a policy matches where the policy doesn't apply
pub none_match : (h : HeldMaps) (q : Question) (p : NetPolicyData) (stage : Stage) (rules : List NetRule) → list_any (held_member (is_at q.own) h.applied) p.applied ≡ false
    → filter (λ r. in_stage stage p.key.kind r.key && held_rule_matches h q p r) rules ≡ []
none_match h q p stage rules none =
    filter-none (λ r. in_stage stage p.key.kind r.key && held_rule_matches h q p r)
    (λ r. ap (λ b. in_stage stage p.key.kind r.key && b) (no_rule (is_complete h p r && dir_eq r.key.dir q.dir) (list_any (held_member (is_at q.own) h.applied) p.applied) _ _ none) ∙ and_false (in_stage stage p.key.kind r.key)) rules
