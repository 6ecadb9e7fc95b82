use Rattle.std.proofs.Common.{◌++◌, ◌∷◌, [], map, take, ap, sym, ◌∙◌, arith}
use Rattle.std.proofs.lemmas.List.{map_more}
use Rattle.ctl_core.specs.Telling.{turn_of}
use Rattle.ctl_core.proofs.telling.all_turns.Goals as goal

pub loop-n-preserved : goal.loop-n-preserved
loop-n-preserved g c =
    c.in_ok-push.ensures.items
    ∙ (ap (λ xs. xs ++ c.in_ok-turn_of.field-0 ∷ []) c.loop-n.invariant
    ∙ (ap (λ x. map (turn_of c.args.old.now.cluster.cluster c.args.new.now.cluster.cluster c.args.rev) (take c.loop-n.n-index c.args.nodes.now) ++ x ∷ []) (c.in_ok-turn_of.ensures ∙ ap (turn_of c.args.old.now.cluster.cluster c.args.new.now.cluster.cluster c.args.rev) c.n-item.is)
    ∙ sym (map_more (turn_of c.args.old.now.cluster.cluster c.args.new.now.cluster.cluster c.args.rev) c.args.nodes.now c.loop-n.n-index c.n-item.result (omega (arith, c.loop-n-test.true, c.loop-n.auto.n-index-end)))))
