-- A rule is complete exactly where no group is missing.
use Rattle.std.proofs.Common.{◌≡◌, List, [], ◌++◌, ◌&&◌, ◌||◌, Bool, true, false, not, Option, None, if◌then◌else◌, refl, sym, ap, ◌∙◌, arith}
use Rattle.std.proofs.lemmas.Grind.{common_steps}
use Rattle.std.specs.List.{list_all}
use Rattle.std.specs.Option.{is_none}
use Rattle.cl_types.specs.First.{first}
use Rattle.label_select.specs.Group.{Group}
use Rattle.watch_streams.specs.declared.message.StreamObject.{StreamObject}
use Rattle.watch_streams.specs.declared.net.NetRule.{NetRule}
use Rattle.watch_streams.specs.HeldEvaluation.{HeldMaps, groups_of, is_complete, is_held, resolving_groups, resolving_map}
use Rattle.watch_streams.specs.Net.{NetPolicyData}
use Rattle.watch_streams.specs.OneOfAll.{and_assoc, and_true}
use Rattle.watch_streams.specs.Projection.{has_names}
use Rattle.agent_cache.proofs.Finding.{none_first}
use Rattle.agent_cache.specs.Missing.{by_text, missing_group, named_groups, not_held}

pub at_end : {T : Type 0} (xs : List T) → xs ++ [] ≡ xs
at_end xs = grind (arith, common_steps)

none_last : (held : List StreamObject) (groups : List Group) → is_none (first by_text (not_held held groups)) ≡ list_all (is_held held) groups
none_last held groups =
    ap (λ gs. is_none (first by_text gs)) (sym (at_end (not_held held groups))) ∙ none_first by_text (is_held held) groups [] ∙ and_true (list_all (is_held held) groups)

named_held : (h : HeldMaps) (p : NetPolicyData) (r : NetRule) → list_all (is_held (resolving_map h r.key.dir)) (named_groups p r) ≡ (not (has_names r.named) || list_all (is_held (resolving_map h r.key.dir)) (resolving_groups p r r.key.dir))
named_held h p r = by_names (has_names r.named)
  where
    by_names : (b : Bool) → list_all (is_held (resolving_map h r.key.dir)) (if b then resolving_groups p r r.key.dir else []) ≡ (not b || list_all (is_held (resolving_map h r.key.dir)) (resolving_groups p r r.key.dir))
    by_names true = refl
    by_names false = refl

pub complete_exactly : (h : HeldMaps) (p : NetPolicyData) (r : NetRule) → is_none (missing_group h p r) ≡ is_complete h p r
complete_exactly h p r =
    let peers = list_all (is_held h.addresses) (groups_of r.peers) in
    let applied = list_all (is_held h.applied) p.applied in
    let named = not_held (resolving_map h r.key.dir) (named_groups p r) in
    none_first by_text (is_held h.addresses) (groups_of r.peers) (not_held h.applied p.applied ++ named)
    ∙ ap (λ b. peers && b) (none_first by_text (is_held h.applied) p.applied named ∙ ap (λ b. applied && b) (none_last (resolving_map h r.key.dir) (named_groups p r) ∙ named_held h p r))
    ∙ sym (and_assoc peers applied (not (has_names r.named) || list_all (is_held (resolving_map h r.key.dir)) (resolving_groups p r r.key.dir)))

-- the least of the missing groups, found from those for ports over those of pods to those of peers
pub least_in_turn : (h : HeldMaps) (p : NetPolicyData) (r : NetRule) (held : List StreamObject) (named pods peers : List Group) (a b c : Option Group) → held ≡ resolving_map h r.key.dir → named ≡ named_groups p r → pods ≡ p.applied → peers ≡ groups_of r.peers
    → ((later : List Group) → None ≡ first by_text later → a ≡ first by_text (not_held held named ++ later))
    → ((later : List Group) → a ≡ first by_text later → b ≡ first by_text (not_held h.applied pods ++ later))
    → ((later : List Group) → b ≡ first by_text later → c ≡ first by_text (not_held h.addresses peers ++ later))
    → c ≡ missing_group h p r
least_in_turn h p r held named pods peers a b c held_is named_is pods_is peers_is one two three =
    let ports = not_held held named in
    let first_is = one [] refl ∙ ap (first by_text) (at_end ports) in
    three (not_held h.applied pods ++ ports) (two ports first_is)
    ∙ ap (λ gs. first by_text (not_held h.addresses gs ++ (not_held h.applied pods ++ ports))) peers_is
    ∙ ap (λ gs. first by_text (not_held h.addresses (groups_of r.peers) ++ (not_held h.applied gs ++ ports))) pods_is
    ∙ ap (λ gs. first by_text (not_held h.addresses (groups_of r.peers) ++ (not_held h.applied p.applied ++ not_held held gs))) named_is
    ∙ ap (λ m. first by_text (not_held h.addresses (groups_of r.peers) ++ (not_held h.applied p.applied ++ not_held m (named_groups p r)))) held_is
