use Rattle.std.proofs.Common.{◌≡◌, List, [], ◌∷◌, ◌++◌, true, false, filter, subst, sym}
use Rattle.held_maps.specs.Held.{maps_of}
use Rattle.watch_streams.specs.declared.rule_changes.RuleParts.{RuleParts}
use Rattle.watch_streams.specs.InForce.{ArePartsOf, HeldRule, IsParts}
use Rattle.touched_rules.proofs.PartLists.{is_in_force, parts_kept, parts_passed}
use Rattle.agent_cache.proofs.rules.push_parts.Goals as goal

pub returns-then-is_complete : goal.returns-then-is_complete
returns-then-is_complete c = λ before are.
    let h = maps_of c.args.held.now in
    let Complete : HeldRule → Type 0 = λ x. is_in_force h x ≡ true in
    let Matches : HeldRule → Type 0 = λ x. IsParts h x.policy x.rule c.in_ok-parts.parts in
    subst (λ (ps : List RuleParts). ArePartsOf h (before ++ filter (is_in_force h) (c.args.r.now ∷ [])) ps) (sym c.in_ok-push.ensures.items)
    (parts_kept h before c.args.out.now.items c.args.r.now c.in_ok-parts.parts (subst Complete c.r.view_is (sym c.if-is_complete.ensures)) are (subst Matches c.r.view_is c.in_ok-parts.ensures))

pub returns : goal.returns
returns c = λ before are.
    let h = maps_of c.args.held.now in
    let Waits : HeldRule → Type 0 = λ x. is_in_force h x ≡ false in
    parts_passed h before c.args.out.now.items c.args.r.now (subst Waits c.r.view_is (sym c.if-is_complete.ensures)) are
