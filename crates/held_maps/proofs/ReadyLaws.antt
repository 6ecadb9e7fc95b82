-- A message whose steps were made and whose places are reserved is ready.
use Rattle.std.proofs.Common.{◌≡◌, List, [], true, false, map, reverse, refl, sym, ap, subst, ◌∙◌, length, arith, ◌∷◌}
use Rattle.std.specs.List.{AllByRecursion}
use Rattle.cl_types.specs.declared.stream.Rev.{Rev}
use Rattle.cl_types.specs.declared.stream.Stream.{Stream}
use Rattle.cl_types.specs.declared.stream.Stream.TheVariants.{Policies, Addresses, Applied}
use Rattle.watch_streams.specs.declared.message.Msg.TheVariants.{Delta, Snapshot}
use Rattle.watch_streams.specs.declared.message.StreamChange.{StreamChange}
use Rattle.watch_streams.specs.declared.message.StreamObject.{StreamObject}
use Rattle.held_maps.specs.declared.ready.Room.{Room}
use Rattle.held_maps.specs.declared.ready.Room.TheVariants as room
use Rattle.held_maps.specs.declared.steps.Step.{Step}
use Rattle.held_maps.specs.Held.{HeldData, policies_map, maps_of, map_on, with_map, with_revision}
use Rattle.watch_streams.specs.Difference.{after_changes}
use Rattle.watch_streams.specs.HeldEvaluation.{HeldMaps}
use Rattle.watch_streams.specs.Laws.{IsMap}
use Rattle.watch_streams.specs.Names.{AreDistinct, AscendByName, changed_name}
use Rattle.held_maps.specs.Ready.{IsRoomFor, IsReady, AreMaps}
use Rattle.held_maps.specs.Steps.{steps_of, put_steps, after_steps, HasChangeForm, HasObjectForm}
use Rattle.held_maps.proofs.GroupPlaces.{GroupTextsDiffer}
use Rattle.held_maps.proofs.PolicyMaps.{map_ascends}
use Rattle.held_maps.proofs.StepLaws.{StepFits, snapshot_steps, change_steps, steps_map, changes_fit, objects_fit, policy_steps}

no_objects : (s : Stream) → IsMap s []
no_objects s = record { ascends = tt; belong = tt; members = tt; groups = tt }

nothing : {T : Type 0} (xs : List T) → length xs ≡ 0 → xs ≡ []
nothing [] e = refl
nothing (x ∷ xs) e = absurd (omega arith)

same_map : (s : Stream) (maps : HeldMaps) → with_map s (map_on s maps) maps ≡ maps
same_map Policies maps = refl
same_map Addresses maps = refl
same_map Applied maps = refl

ascends_on : (s : Stream) (held : HeldData) → AreMaps held → AscendByName (map_on s (maps_of held))
ascends_on Policies held maps = map_ascends held.policies held.egresses
ascends_on Addresses held maps = maps.addresses.ascends
ascends_on Applied held maps = maps.applied.ascends

pub ready_delta : GroupTextsDiffer → (s : Stream) (rev : Rev) (changes : List StreamChange) (held : HeldData) (steps : List Step) (places : Room) → AreMaps held
    → AreDistinct (map changed_name changes) → AllByRecursion HasChangeForm changes → steps ≡ steps_of s (map_on s (maps_of held)) changes → IsRoomFor s held false (length steps) places
    → IsReady s (Delta rev changes) held (record { rev = rev; whole = false; steps = steps; room = places })
ready_delta differ s rev changes held steps (room.Same t) maps distinct forms is there =
    let none : length steps ≡ 0 = there.2 in
    let leads : map_on s (maps_of held) ≡ after_changes s changes (map_on s (maps_of held)) =
    ap (λ l. after_steps l (map_on s (maps_of held))) (sym (nothing steps none) ∙ is)
    ∙ change_steps differ s (map_on s (maps_of held)) changes (ascends_on s held maps) distinct forms in
    record {
      fits = tt;
      leads = record {
        maps = sym (same_map s (maps_of held)) ∙ ap (λ os. with_map s os (maps_of held)) leads;
        revisions = ap (λ z. with_revision z rev held.revisions) there.0;
      };
    }
ready_delta differ Policies rev changes held steps (room.Policies p e) maps distinct forms is there =
    let fit : AllByRecursion (StepFits Policies) steps = subst (AllByRecursion (StepFits Policies)) (sym is) (changes_fit Policies (policies_map held.policies held.egresses) changes forms) in
    let made = policy_steps steps held.policies held.egresses maps.policies maps.egresses fit in
    record {
      fits = there;
      leads = record {
        maps = ap (λ os. with_map Policies os (maps_of held))
            (made.2 ∙ ap (λ l. after_steps l (policies_map held.policies held.egresses)) is
            ∙ change_steps differ Policies (policies_map held.policies held.egresses) changes (map_ascends held.policies held.egresses) distinct forms);
        revisions = refl;
      };
    }
ready_delta differ Addresses rev changes held steps (room.Addresses rows) maps distinct forms is there =
    let fit : AllByRecursion (StepFits Addresses) steps = subst (AllByRecursion (StepFits Addresses)) (sym is) (changes_fit Addresses held.addresses changes forms) in
    record {
      fits = (there, steps_map Addresses steps held.addresses fit maps.addresses);
      leads = record {
        maps = ap (λ os. with_map Addresses os (maps_of held)) (ap (λ l. after_steps l held.addresses) is ∙ change_steps differ Addresses held.addresses changes maps.addresses.ascends distinct forms);
        revisions = refl;
      };
    }
ready_delta differ Applied rev changes held steps (room.Applied rows) maps distinct forms is there =
    let fit : AllByRecursion (StepFits Applied) steps = subst (AllByRecursion (StepFits Applied)) (sym is) (changes_fit Applied held.applied changes forms) in
    record {
      fits = (there, steps_map Applied steps held.applied fit maps.applied);
      leads = record {
        maps = ap (λ os. with_map Applied os (maps_of held)) (ap (λ l. after_steps l held.applied) is ∙ change_steps differ Applied held.applied changes maps.applied.ascends distinct forms);
        revisions = refl;
      };
    }
ready_delta differ Policies rev changes held steps (room.Addresses rows) maps distinct forms is there = absurd there
ready_delta differ Policies rev changes held steps (room.Applied rows) maps distinct forms is there = absurd there
ready_delta differ Addresses rev changes held steps (room.Policies p e) maps distinct forms is there = absurd there
ready_delta differ Addresses rev changes held steps (room.Applied rows) maps distinct forms is there = absurd there
ready_delta differ Applied rev changes held steps (room.Policies p e) maps distinct forms is there = absurd there
ready_delta differ Applied rev changes held steps (room.Addresses rows) maps distinct forms is there = absurd there

pub ready_snapshot : (s : Stream) (rev : Rev) (objects : List StreamObject) (held : HeldData) (steps : List Step) (places : Room)
    → AllByRecursion HasObjectForm objects → steps ≡ reverse (put_steps s objects) → IsRoomFor s held true (length steps) places
    → IsReady s (Snapshot rev objects) held (record { rev = rev; whole = true; steps = steps; room = places })
ready_snapshot s rev objects held steps (room.Same t) forms is there = absurd (never there.1)
  where
    never : true ≡ false → ⊥
    never e = cc
ready_snapshot Policies rev objects held steps (room.Policies p e) forms is there =
    let fit : AllByRecursion (StepFits Policies) steps = subst (AllByRecursion (StepFits Policies)) (sym is) (objects_fit Policies objects forms) in
    let made = policy_steps steps [] [] tt tt fit in
    record {
      fits = there;
      leads = record {
        maps = ap (λ os. with_map Policies os (maps_of held)) (made.2 ∙ ap (λ l. after_steps l []) is ∙ snapshot_steps Policies objects);
        revisions = refl;
      };
    }
ready_snapshot Addresses rev objects held steps (room.Addresses rows) forms is there =
    let fit : AllByRecursion (StepFits Addresses) steps = subst (AllByRecursion (StepFits Addresses)) (sym is) (objects_fit Addresses objects forms) in
    record {
      fits = (there, steps_map Addresses steps [] fit (no_objects Addresses));
      leads = record { maps = ap (λ os. with_map Addresses os (maps_of held)) (ap (λ l. after_steps l []) is ∙ snapshot_steps Addresses objects); revisions = refl };
    }
ready_snapshot Applied rev objects held steps (room.Applied rows) forms is there =
    let fit : AllByRecursion (StepFits Applied) steps = subst (AllByRecursion (StepFits Applied)) (sym is) (objects_fit Applied objects forms) in
    record {
      fits = (there, steps_map Applied steps [] fit (no_objects Applied));
      leads = record { maps = ap (λ os. with_map Applied os (maps_of held)) (ap (λ l. after_steps l []) is ∙ snapshot_steps Applied objects); revisions = refl };
    }
ready_snapshot Policies rev objects held steps (room.Addresses rows) forms is there = absurd there
ready_snapshot Policies rev objects held steps (room.Applied rows) forms is there = absurd there
ready_snapshot Addresses rev objects held steps (room.Policies p e) forms is there = absurd there
ready_snapshot Addresses rev objects held steps (room.Applied rows) forms is there = absurd there
ready_snapshot Applied rev objects held steps (room.Policies p e) forms is there = absurd there
ready_snapshot Applied rev objects held steps (room.Addresses rows) forms is there = absurd there
