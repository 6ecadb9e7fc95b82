use Rattle.std.proofs.Common.{◌≡◌, List, filter, take, subst, rules}
use Rattle.std.proofs.lemmas.List.{take_all}
use Rattle.cl_types.specs.RuleOrder.{rule_order_total}
use Rattle.cl_types.specs.AscendingLaws.{ascends_filter}
use Rattle.held_maps.specs.Held.{maps_of}
use Rattle.watch_streams.specs.InForce.{ArePartsOf, HeldRule, held_rule_key}
use Rattle.touched_rules.proofs.PartLists.{is_in_force, parts_ascend, parts_step}
use Rattle.agent_cache.proofs.rules.rules_in_force.Goals as goal

pub loop-r-init : goal.loop-r-init
loop-r-init c = rw c.new-parts.ensures.items tt

pub loop-r-preserved : goal.loop-r-preserved
loop-r-preserved c =
    let h = maps_of c.args.held.now in
    parts_step h c.args.rules.now c.loop-r.r-index c.r-item.result _ (search rules) c.r-item.is
    (c.in_ok-push_parts.ensures (filter (is_in_force h) (take c.loop-r.r-index c.args.rules.now)) c.loop-r.invariant)

pub returns-clause-are : goal.returns-clause-are
returns-clause-are c =
    let h = maps_of c.args.held.now in
    let whole : take c.loop-r.r-index c.args.rules.now ≡ c.args.rules.now = take_all c.loop-r.r-index c.args.rules.now c.loop-r-test.false in
    subst (λ (xs : List HeldRule). ArePartsOf h (filter (is_in_force h) xs) c.loop-r.parts.items) whole c.loop-r.invariant

pub returns-clause-ascend : goal.returns-clause-ascend
returns-clause-ascend c =
    let h = maps_of c.args.held.now in
    let whole : take c.loop-r.r-index c.args.rules.now ≡ c.args.rules.now = take_all c.loop-r.r-index c.args.rules.now c.loop-r-test.false in
    let are = subst (λ (xs : List HeldRule). ArePartsOf h (filter (is_in_force h) xs) c.loop-r.parts.items) whole c.loop-r.invariant in
    parts_ascend h (filter (is_in_force h) c.args.rules.now) c.loop-r.parts.items are
    (ascends_filter held_rule_key rule_order_total (is_in_force h) c.args.rules.now c.requires.ascend)
