-- What is kept of a message that is ready to be taken, and what is held once it was (this project's own).
use Rattle.std.specs.Prelude.{ℕ, ◌+◌, ◌≤◌, List, [], Bool, length, if◌then◌else◌, ◌≡◌, false}
use Rattle.cl_types.specs.declared.stream.Stream.{Stream}
use Rattle.cl_types.specs.declared.stream.Stream.TheVariants.{Policies, Addresses, Applied}
use Rattle.cl_types.specs.Ascending.{Ascends}
use Rattle.cl_types.specs.Text.{text_order}
use Rattle.watch_streams.specs.declared.message.Msg.{Msg}
use Rattle.held_maps.specs.declared.ready.Room.{Room}
use Rattle.held_maps.specs.declared.ready.Room.TheVariants as room
use Rattle.held_maps.specs.Held.{HeldData, IsTaken, with_revision, policy_title, egress_title}
use Rattle.watch_streams.specs.Laws.{IsMap}
use Rattle.held_maps.specs.ReadyData.{ReadyData}
use Rattle.held_maps.specs.Steps.{after_steps, policies_after_steps, egresses_after_steps}

-- a snapshot's steps start from nothing
abbrev pub start : {T : Type 0} → Bool → List T → List T
start whole items = if whole then [] else items

-- the lists after the steps of the message, at its revision
abbrev pub after_ready : ReadyData → HeldData → HeldData
after_ready ready held = by_room ready.room
  where
    by_room : Room → HeldData
    by_room (room.Same s) = record held { revisions = with_revision s ready.rev held.revisions }
    by_room (room.Policies policies egresses) =
        record held {
          policies = policies_after_steps ready.steps (start ready.whole held.policies);
          egresses = egresses_after_steps ready.steps (start ready.whole held.egresses);
          revisions = with_revision Policies ready.rev held.revisions;
        }
    by_room (room.Addresses groups) =
        record held { addresses = after_steps ready.steps (start ready.whole held.addresses); revisions = with_revision Addresses ready.rev held.revisions }
    by_room (room.Applied groups) =
        record held { applied = after_steps ready.steps (start ready.whole held.applied); revisions = with_revision Applied ready.rev held.revisions }

-- There are places for the steps beside what is held, and what comes of them is a map of the stream: so it is until
-- another message is taken.
abbrev pub FitsIn : ReadyData → HeldData → Type 0
FitsIn ready held = by_room ready.room
  where
    places : {T : Type 0} → List T → ℕ
    places items = length (start ready.whole items) + length ready.steps

    by_room : Room → Type 0
    by_room (room.Same s) = Unit {0}
    by_room (room.Policies policies egresses) = (places held.policies ≤ policies) × (places held.egresses ≤ egresses)
    by_room (room.Addresses groups) = (places held.addresses ≤ groups) × IsMap Addresses (after_steps ready.steps (start ready.whole held.addresses))
    by_room (room.Applied groups) = (places held.applied ≤ groups) × IsMap Applied (after_steps ready.steps (start ready.whole held.applied))

-- the message is ready for what is held, and leads to what taking it leads to
pub record IsReady (s : Stream) (m : Msg) (held : HeldData) (ready : ReadyData) : Type 0 where
  pub fits : FitsIn ready held
  pub leads : IsTaken s m held (after_ready ready held)

-- ---- what is reserved

-- There are places on the stream for so many steps beside what is held. They aren't needed where there are no steps, but
-- for a whole map.
abbrev pub IsRoomFor : Stream → HeldData → Bool → ℕ → Room → Type 0
IsRoomFor s held whole more (room.Same t) = (t ≡ s) × (whole ≡ false) × (more ≡ 0)
IsRoomFor s held whole more (room.Policies policies egresses) = on_policies s
  where
    on_policies : Stream → Type 0
    on_policies Policies = (length (start whole held.policies) + more ≤ policies) × (length (start whole held.egresses) + more ≤ egresses)
    on_policies Addresses = ⊥
    on_policies Applied = ⊥
IsRoomFor s held whole more (room.Addresses groups) = on_addresses s
  where
    on_addresses : Stream → Type 0
    on_addresses Policies = ⊥
    on_addresses Addresses = length (start whole held.addresses) + more ≤ groups
    on_addresses Applied = ⊥
IsRoomFor s held whole more (room.Applied groups) = on_applied s
  where
    on_applied : Stream → Type 0
    on_applied Policies = ⊥
    on_applied Addresses = ⊥
    on_applied Applied = length (start whole held.applied) + more ≤ groups

-- what holds of everything that is held
pub record AreMaps (held : HeldData) : Type 0 where
  pub policies : Ascends policy_title text_order held.policies
  pub egresses : Ascends egress_title text_order held.egresses
  pub addresses : IsMap Addresses held.addresses
  pub applied : IsMap Applied held.applied
