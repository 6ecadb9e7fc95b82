use Rattle.std.proofs.Common.{◌≤◌, ◌∙◌, sym, ap, arith, take}
use Rattle.std.specs.List.{flat_map}
use Rattle.std.specs.Option.{option_copied}
use Rattle.group_index.specs.Settled.{addresses_if}
use Rattle.group_index.proofs.Stretches.{flat_end, flat_front}
use Rattle.group_index.proofs.concern.namespace_addresses.Goals as goal

pub loop-i-init : goal.loop-i-init
loop-i-init c =
    let add = addresses_if (option_copied c.args.old) c.args.name.now in
    let start = c.in_ok-concerned.concerned.start in
    c.new-addresses.ensures.items
    ∙ sym (ap (λ pods. flat_map add (take start pods)) c.pods-pods.ensures ∙ flat_front add c.args.c.now.cluster.pods start c.in_ok-concerned.ensures.before)

pub returns : goal.returns
returns c =
    let add = addresses_if (option_copied c.args.old) c.args.name.now in
    let pods = c.args.c.now.cluster.pods in
    let done : c.in_ok-concerned.concerned.end ≤ c.loop-i.i = c.loop-i-test.false in
    c.loop-i.invariant
    ∙ (ap (λ pods. flat_map add (take c.loop-i.i pods)) c.pods-pods.ensures
    ∙ flat_end add pods c.loop-i.i (λ k d lo hi. c.in_ok-concerned.ensures.after k d (omega arith) hi))
