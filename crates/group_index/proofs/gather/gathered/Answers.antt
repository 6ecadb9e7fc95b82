use Rattle.std.proofs.Common.{◌≤◌, take, sym, ◌∙◌, ap, arith}
use Rattle.std.specs.List.{flat_map}
use Rattle.group_index.specs.Members.{members_if}
use Rattle.group_index.proofs.Gathering.{members_if-all}
use Rattle.group_index.proofs.Stretches.{flat_end, flat_front}
use Rattle.group_index.proofs.gather.gathered.Goals as goal

pub loop-i-init : goal.loop-i-init
loop-i-init c =
    let add = members_if c.args.c.now.cluster c.args.g.now in
    let start = c.in_ok-candidates.candidates.start in
    c.new-members.ensures.items
    ∙ sym (ap (λ pods. flat_map add (take start pods)) c.pods-pods.ensures ∙ flat_front add c.args.c.now.cluster.pods start c.in_ok-candidates.ensures.before)

pub returns : goal.returns
returns c =
    let add = members_if c.args.c.now.cluster c.args.g.now in
    let done : c.in_ok-candidates.candidates.end ≤ c.loop-i.i = c.loop-i-test.false in
    c.loop-i.invariant
    ∙ (ap (λ pods. flat_map add (take c.loop-i.i pods)) c.pods-pods.ensures
    ∙ (flat_end add c.args.c.now.cluster.pods c.loop-i.i (λ k d lo hi. c.in_ok-candidates.ensures.after k d (omega arith) hi)
    ∙ members_if-all c.args.c.now.cluster c.args.g.now))
