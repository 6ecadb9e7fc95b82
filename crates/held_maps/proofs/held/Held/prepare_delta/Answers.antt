use Rattle.std.proofs.Common.{◌≡◌, false, length, arith, ap, subst, ◌∙◌}
use Rattle.std.specs.List.{AllByRecursion}
use Rattle.held_maps.specs.Held.{maps_of, map_on}
use Rattle.held_maps.specs.Ready.{IsRoomFor}
use Rattle.held_maps.specs.Steps.{steps_of, HasChangeForm}
use Rattle.held_maps.proofs.ReadyLaws.{ready_delta}
use Rattle.held_maps.proofs.held.Held.prepare_delta.Goals as goal

pub returns : goal.returns
returns c =
    let more : c.len.result ≡ length c.in_ok-steps.steps.items = omega (arith, c.len.ensures, c.in_ok-steps.steps.ok.0) in
    ready_delta c.group_texts_differ.ensures c.args.s c.args.rev c.args.changes c.args.self.now c.in_ok-steps.steps.items c.in_ok-room.room c.maps_form.ensures c.into_list-changes.ensures.distinct
    (subst (AllByRecursion HasChangeForm) c.as_slice.ensures c.changes_form.ensures)
    (c.in_ok-steps.ensures ∙ ap (steps_of c.args.s (map_on c.args.s (maps_of c.args.self.now))) c.into_list-changes.ensures.value)
    (subst (λ n. IsRoomFor c.args.s c.args.self.now false n c.in_ok-room.room) more c.in_ok-room.ensures)
