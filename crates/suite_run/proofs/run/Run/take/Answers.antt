use Rattle.std.proofs.Common.{◌≡◌, Some, None, true, refl, ap, subst, sym, ◌∙◌, arith}
use Rattle.std.proofs.lemmas.List.{length-set}
use Rattle.node_streams.specs.Streams.{TakesFrom}
use Rattle.run_machine.specs.Machine.{take as take_one}
use Rattle.suite_run.specs.Doing.{NameAt, is_listed, node_names, run_after, stream_at, waiting_at}
use Rattle.suite_run.specs.RunState.{RunData}
use Rattle.suite_run.specs.Taking.{HasWaited}
use Rattle.suite_run.proofs.Changed.{still_run}
use Rattle.suite_run.proofs.Moves.{none_left, none_run, none_waited, some_run, some_waited, take_ring}
use Rattle.suite_run.proofs.Placing.{listed_streams, place_within}
use Rattle.suite_run.proofs.Standing.{does_one}
use Rattle.suite_run.proofs.run.Run.take.Goals as goal

pub take-requires-clause-listed : goal.take-requires-clause-listed
take-requires-clause-listed c =
    listed_streams c.self.inside.controller c.self.inside.agents.items c.keeps_its_form.ensures c.self.invariant.agents c.args.node.now
    (subst (λ (r : RunData). is_listed c.args.node.now r.sites ≡ true) (sym c.self.view_is) c.requires)

pub index_mut-requires : goal.index_mut-requires
index_mut-requires c =
    let within = place_within c.self.inside.controller c.self.inside.agents.items c.self.invariant.agents c.args.node.now c.place-place.result
    (subst (λ (r : RunData). NameAt (node_names r.sites) c.place-place.result c.args.node.now) (sym c.self.view_is) c.place-place.ensures) in
    omega (arith, within, c.self.inside.agents.ok.0)

pub invariant_of-self : goal.invariant_of-self
invariant_of-self c =
    still_run c.args.node.now c.args.stream (TakesFrom (Some c.in-Some.m)) c.self.inside.controller c.take.new.self c.in-Some.ensures c.self.inside.agents.items _ c.self.inside.ring
    (take_ring (Some c.in-Some.m)) (length-set c.self.inside.agents.items c.place-place.result c.take-in-Some.new.self) c.self.invariant

pub invariant_of-self-in-Some : goal.invariant_of-self-in-Some
invariant_of-self-in-Some c =
    still_run c.args.node.now c.args.stream (TakesFrom (Some c.in-Some.m)) c.self.inside.controller c.take.new.self c.in-Some.ensures c.self.inside.agents.items _ c.self.inside.ring
    (take_ring (Some c.in-Some.m)) (length-set c.self.inside.agents.items c.place-place.result c.take-in-Some.new.self) c.self.invariant

pub invariant_of-self-in-None : goal.invariant_of-self-in-None
invariant_of-self-in-None c =
    still_run c.args.node.now c.args.stream (TakesFrom None) c.self.inside.controller c.take.new.self c.in-None.ensures c.self.inside.agents.items c.self.inside.agents.items c.self.inside.ring
    (take_ring None) refl c.self.invariant

pub returns-in_ok-take-in-Some-clause-taken : goal.returns-in_ok-take-in-Some-clause-taken
returns-in_ok-take-in-Some-clause-taken c =
    some_run c.self.inside.controller c.take.new.self c.self.inside.agents.items c.self.inside.ring c.keeps_its_form.ensures c.self.invariant c.args.node.now c.args.stream c.in-Some.m c.in-Some.ensures
    c.place-place.result c.index_mut.result.now c.take-in-Some.new.self
    (subst (λ (r : RunData). NameAt (node_names r.sites) c.place-place.result c.args.node.now) (sym c.self.view_is) c.place-place.ensures)
    c.index_mut.ensures.value c.in_ok-take-in-Some.ensures.ok
    ∙ ap (run_after (take_one (stream_at c.args.node.now c.args.stream))) c.self.view_is

pub returns-in_ok-take-in-Some-clause-does : goal.returns-in_ok-take-in-Some-clause-does
returns-in_ok-take-in-Some-clause-does c = does_one (take_one (stream_at c.args.node.now c.args.stream)) c.args.self.now _ tt (returns-in_ok-take-in-Some-clause-taken c)

pub returns-in_ok-take-in-Some-clause-waited : goal.returns-in_ok-take-in-Some-clause-waited
returns-in_ok-take-in-Some-clause-waited c =
    subst (λ (r : RunData). HasWaited (waiting_at (stream_at c.args.node.now c.args.stream) r.sites) true) c.self.view_is
    (some_waited c.self.inside.controller c.take.new.self c.self.inside.agents.items c.self.inside.ring c.keeps_its_form.ensures c.self.invariant c.args.node.now c.args.stream c.in-Some.m c.in-Some.ensures)

pub returns-in-None-clause-taken : goal.returns-in-None-clause-taken
returns-in-None-clause-taken c =
    none_run c.self.inside.controller c.take.new.self c.self.inside.agents.items c.self.inside.ring c.keeps_its_form.ensures c.self.invariant c.args.node.now c.args.stream c.in-None.ensures
    ∙ ap (run_after (take_one (stream_at c.args.node.now c.args.stream))) c.self.view_is

pub returns-in-None-clause-does : goal.returns-in-None-clause-does
returns-in-None-clause-does c = does_one (take_one (stream_at c.args.node.now c.args.stream)) c.args.self.now _ tt (returns-in-None-clause-taken c)

pub returns-in-None-clause-none : goal.returns-in-None-clause-none
returns-in-None-clause-none c no_message =
    none_left c.self.inside.controller c.take.new.self c.self.inside.agents.items c.self.inside.ring c.keeps_its_form.ensures c.self.invariant c.args.node.now c.args.stream c.in-None.ensures
    ∙ c.self.view_is

pub returns-in-None-clause-waited : goal.returns-in-None-clause-waited
returns-in-None-clause-waited c =
    ap (λ (r : RunData). waiting_at (stream_at c.args.node.now c.args.stream) r.sites) (sym c.self.view_is)
    ∙ none_waited c.self.inside.controller c.take.new.self c.self.inside.agents.items c.self.inside.ring c.keeps_its_form.ensures c.self.invariant c.args.node.now c.args.stream c.in-None.ensures
