use Rattle.std.proofs.Common.{◌≡◌, true, Some, None, IfSome, option_copied, ap, subst, sym}
use Rattle.suite_run.specs.Delivering.{Delivers, HasDone, delivering_on, meant_streams, on_nodes, on_streams}
use Rattle.suite_run.specs.Doing.{is_listed, node_names}
use Rattle.suite_run.specs.RunState.{RunData}
use Rattle.suite_run.proofs.Matched.{all_delivered, if_ok, node_delivered}
use Rattle.suite_run.proofs.Rounds.{AscendNames, run_ascends}
use Rattle.suite_run.proofs.run.Run.deliver.Goals as goal

pub returns-in-Some : goal.returns-in-Some
returns-in-Some c =
    let up : AscendNames (node_names c.args.self.now.sites) =
    subst (λ (r : RunData). AscendNames (node_names r.sites)) c.self.view_is (run_ascends c.self.inside.controller c.self.inside.agents.items c.self.invariant.agents c.keeps_its_form.ensures.ascend) in
    let listed : is_listed c.in-Some.node.now c.args.self.now.sites ≡ true = subst (λ o. IfSome o (λ name. is_listed name.now c.args.self.now.sites ≡ true)) c.in-Some.is c.requires in
    let named : option_copied c.args.node ≡ Some c.in-Some.node.now = ap option_copied c.in-Some.is in
    if_ok c.deliver_node.result
    (HasDone (on_streams (delivering_on c.args.count) (meant_streams c.args.stream) c.in-Some.node.now c.args.self.now.sites) c.args.self.now c.deliver_node.new.self)
    (Delivers (option_copied c.args.node) c.args.stream c.args.count c.args.self.now c.deliver_node.new.self)
    (λ n done. subst (λ o. Delivers o c.args.stream c.args.count c.args.self.now c.deliver_node.new.self n) (sym named)
    (node_delivered c.in-Some.node.now c.args.stream c.args.count c.args.self.now c.deliver_node.new.self n up listed done))
    c.deliver_node.ensures

pub returns-in-None : goal.returns-in-None
returns-in-None c =
    let up : AscendNames (node_names c.args.self.now.sites) =
    subst (λ (r : RunData). AscendNames (node_names r.sites)) c.self.view_is (run_ascends c.self.inside.controller c.self.inside.agents.items c.self.invariant.agents c.keeps_its_form.ensures.ascend) in
    let none : option_copied c.args.node ≡ None = ap option_copied c.in-None.is in
    if_ok c.deliver_all.result
    (HasDone (on_nodes (delivering_on c.args.count) (meant_streams c.args.stream) c.args.self.now.sites (node_names c.args.self.now.sites)) c.args.self.now c.deliver_all.new.self)
    (Delivers (option_copied c.args.node) c.args.stream c.args.count c.args.self.now c.deliver_all.new.self)
    (λ n done. subst (λ o. Delivers o c.args.stream c.args.count c.args.self.now c.deliver_all.new.self n) (sym none)
    (all_delivered c.args.stream c.args.count c.args.self.now c.deliver_all.new.self n up done))
    c.deliver_all.ensures
