-- The first of some rules, when one more rule before them is looked at.
use Rattle.std.proofs.Common.{◌≡◌, ℕ, ◌+◌, ◌<◌, List, [], ◌∷◌, ◌++◌, ◌&&◌, Bool, true, false, Option, Some, filter, drop, length, get_or, if◌then◌else◌, refl, sym, ap, ◌∙◌, drop-cons, add-one}
use Rattle.cluster_types.specs.declared.policy.Rule.{Rule}
use Rattle.cl_types.specs.declared.question.Question.{Question}
use Rattle.cl_types.specs.Dir.{dir_eq}
use Rattle.cluster_types.specs.declared.steps.Stage.{Stage}
use Rattle.cluster_types.specs.Cluster.{ClusterData}
use Rattle.cluster_types.specs.Pod.{PodData}
use Rattle.cluster_types.specs.Policy.{PolicyData}
use Rattle.cluster_types.specs.Evaluation.{rule_key, rule_matches, applies, peers_contain, services_match}
use Rattle.cluster_types.specs.Steps.{in_stage, earlier, first}

kept : (p : Rule → Bool) (r : Rule) (rules : List Rule) → p r ≡ true → filter p (r ∷ rules) ≡ r ∷ filter p rules
kept p r rules is = ap (λ b. if b then r ∷ filter p rules else filter p rules) is

pub wanted_more : (p : Rule → Bool) (rules later : List Rule) (i : ℕ) (r : Rule) (found : Option Rule) → i < length rules → r ≡ get_or rules i r → p r ≡ true → found ≡ first rule_key (filter p (drop (i + 1) rules) ++ later) → Some (earlier rule_key r found) ≡ first rule_key (filter p (drop i rules) ++ later)
wanted_more p rules later i r found within here wanted after =
    let split : drop i rules ≡ r ∷ drop (i + 1) rules = rw (add-one, drop-cons rules i r within, ← here) refl in
    ap (λ o. Some (earlier rule_key r o)) after ∙ sym (ap (λ rs. first rule_key (filter p rs ++ later)) split ∙ ap (λ rs. first rule_key (rs ++ later)) (kept p r (drop (i + 1) rules) wanted))

-- no rule of a policy matches where the policy doesn't apply
pub none_match : (c : ClusterData) (policy : PolicyData) (p : PodData) (q : Question) (stage : Stage) (rules : List Rule) → applies c policy p ≡ false
    → filter (λ r. in_stage stage policy.key.kind r.key && rule_matches c policy r p q) rules ≡ []
none_match c policy p q stage [] not = refl
none_match c policy p q stage (r ∷ rules) none =
    ap (λ b. if b then r ∷ filter (λ s. in_stage stage policy.key.kind s.key && rule_matches c policy s p q) rules else filter (λ s. in_stage stage policy.key.kind s.key && rule_matches c policy s p q) rules)
    (unmatched (in_stage stage policy.key.kind r.key) (dir_eq r.key.dir q.dir) (applies c policy p) (peers_contain c q.peer r.peers) (services_match c r p q r.services) none)
    ∙ none_match c policy p q stage rules none
  where
    unmatched : (s d a e v : Bool) → a ≡ false → s && (d && a && e && v) ≡ false
    unmatched s d true e v none = cc
    unmatched true true false e v none = refl
    unmatched true false false e v none = refl
    unmatched false d false e v none = refl
