use Rattle.std.proofs.Common.{◌≡◌, ◌≤◌, false, true, Some, ℕ, subst, sym, rules, arith}
use Rattle.std.specs.Prelude.{IfSome}
use Rattle.suite_run.specs.Delivering.{HasDone, delivering_on}
use Rattle.suite_run.specs.Doing.{channel_at, stream_at, waiting_at}
use Rattle.suite_run.specs.RunState.{RunData}
use Rattle.suite_run.specs.Taking.{HasWaited}
use Rattle.suite_run.proofs.Leaving.{listed_after}
use Rattle.suite_run.proofs.Parts.{all_done, none_waited, one_more}
use Rattle.suite_run.proofs.run.Run.deliver_stream.Goals as goal

pub take-requires : goal.take-requires
take-requires c = listed_after c.args.node.now c.args.self.now.sites c.loop-taken.self.sites c.loop-taken.invariant.names c.requires

pub returns-then-not-branch : goal.returns-then-not-branch
returns-then-not-branch c =
    let no : c.in_ok-take.field-0 ≡ false = search rules in
    let at = stream_at c.args.node.now c.args.stream in
    let within : (n : ℕ) → c.args.count ≡ Some n → c.loop-taken.taken ≤ n = λ n is.
    let most : c.most_of-most.result ≡ n = subst (λ o. IfSome o (λ k. c.most_of-most.result ≡ k)) is c.most_of-most.ensures in
    omega arith in
    subst (λ (r : RunData). HasDone (delivering_on c.args.count at (channel_at at c.args.self.now.sites)) c.args.self.now r c.loop-taken.taken) (sym (c.in_ok-take.ensures.none no))
    (all_done at c.args.self.now c.loop-taken.self c.loop-taken.taken c.loop-taken.invariant c.args.count within (none_waited _ _ c.in_ok-take.ensures.waited no))

pub loop-taken-preserved : goal.loop-taken-preserved
loop-taken-preserved c =
    let yes : c.in_ok-take.field-0 ≡ true = search rules in
    one_more (stream_at c.args.node.now c.args.stream) c.args.self.now c.loop-taken.self c.loop-taken.taken c.loop-taken.invariant c.take.new.self c.in_ok-take.ensures.taken
    (subst (HasWaited (waiting_at (stream_at c.args.node.now c.args.stream) c.loop-taken.self.sites)) yes c.in_ok-take.ensures.waited)
