use Rattle.std.proofs.Common.{◌≡◌, true, reverse, length, arith, ap, subst, ◌∙◌}
use Rattle.std.specs.List.{AllByRecursion}
use Rattle.held_maps.specs.Ready.{IsRoomFor}
use Rattle.held_maps.specs.Steps.{put_steps, HasObjectForm}
use Rattle.held_maps.proofs.ReadyLaws.{ready_snapshot}
use Rattle.held_maps.proofs.held.Held.prepare_snapshot.Goals as goal

pub returns : goal.returns
returns c =
    let more : c.len.result ≡ length c.in_ok-steps.steps.items = omega (arith, c.len.ensures, c.in_ok-steps.steps.ok.0) in
    ready_snapshot c.args.s c.args.rev c.args.objects c.args.self.now c.in_ok-steps.steps.items c.in_ok-room.room
    (subst (AllByRecursion HasObjectForm) c.as_slice.ensures c.objects_form.ensures)
    (c.in_ok-steps.ensures ∙ ap (λ os. reverse (put_steps c.args.s os)) c.into_list.ensures.value)
    (subst (λ n. IsRoomFor c.args.s c.args.self.now true n c.in_ok-room.room) more c.in_ok-room.ensures)
