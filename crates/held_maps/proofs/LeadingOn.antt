-- A message that is the first of a stream leads what is held on.
use Rattle.std.proofs.Common.{◌≡◌, ℕ, ◌-◌, ◌≤◌, List, [], ◌∷◌, length, false, IsTrue, refl, sym, ap, subst, ◌∙◌, arith}
use Rattle.cl_types.specs.declared.stream.Rev.{Rev}
use Rattle.cl_types.specs.declared.stream.Stream.{Stream}
use Rattle.cl_types.specs.declared.stream.Stream.TheVariants.{Policies, Addresses, Applied}
use Rattle.watch_streams.specs.declared.message.Msg.{Msg}
use Rattle.watch_streams.specs.declared.message.Msg.TheVariants.{Delta, Snapshot}
use Rattle.watch_streams.specs.declared.message.StreamObject.{StreamObject}
use Rattle.watch_streams.specs.HeldEvaluation.{HeldMaps}
use Rattle.watch_streams.specs.Laws.{StreamsLeadOn}
use Rattle.watch_streams.specs.Stream.{Reads, IsStream, map_at, after_message}
use Rattle.held_maps.specs.declared.held.Revisions.{Revisions}
use Rattle.held_maps.specs.Held.{HeldData, maps_of, map_on, with_map, with_revision, revision_of}
use Rattle.held_maps.specs.Laws.{revision_at, MessagesLeadOn, OtherStreamsStay}

-- the first message alone, and those after it
first_reads : (map : ℕ → List StreamObject) (last from : ℕ) (m : Msg) (messages : List Msg) (to : ℕ) → Reads map last from (m ∷ messages) to → Reads map last from (m ∷ []) (revision_of m).0
first_reads map last from (Delta rev changes) messages to r = (r.0, r.1, r.2, refl)
first_reads map last from (Snapshot rev objects) messages to r = (r.0, r.1, r.2, refl)

rest_reads : (map : ℕ → List StreamObject) (last from : ℕ) (m : Msg) (messages : List Msg) (to : ℕ) → Reads map last from (m ∷ messages) to → Reads map last (revision_of m).0 messages to
rest_reads map last from (Delta rev changes) messages to r = r.3
rest_reads map last from (Snapshot rev objects) messages to r = r.3

up_to_last : (map : ℕ → List StreamObject) (last from : ℕ) (m : Msg) (messages : List Msg) (to : ℕ) → Reads map last from (m ∷ messages) to → (revision_of m).0 ≤ last
up_to_last map last from (Delta rev changes) messages to r = r.1
up_to_last map last from (Snapshot rev objects) messages to r = r.1

new_map : (s : Stream) (os : List StreamObject) (maps : HeldMaps) → map_on s (with_map s os maps) ≡ os
new_map Policies os maps = refl
new_map Addresses os maps = refl
new_map Applied os maps = refl

new_revision : (s : Stream) (rev : Rev) (old new : HeldData) → new.revisions ≡ with_revision s rev old.revisions → revision_at s new ≡ rev
new_revision Policies rev old new e = ap (λ (r : Revisions). r.policies) e
new_revision Addresses rev old new e = ap (λ (r : Revisions). r.addresses) e
new_revision Applied rev old new e = ap (λ (r : Revisions). r.applied) e

pub messages_lead_on : StreamsLeadOn → MessagesLeadOn
messages_lead_on lead history s node live m messages old new whole current stream taken =
    let last : ℕ = length history - 1 in
    let from : ℕ = (revision_at s old).0 in
    let reads = stream.reads in
    let one : IsStream history s node false from (m ∷ []) = record {
      within = stream.within;
      to = (revision_of m).0;
      reads = first_reads (map_at history s node) last from m messages stream.to reads;
      whole = λ is. absurd (never is);
    } in
    let led = lead history s node false from (m ∷ []) whole one in
    let at : revision_at s new ≡ revision_of m = new_revision s (revision_of m) old new taken.revisions in
    let maps : map_on s (maps_of new) ≡ map_at history s node (revision_of m).0 =
    ap (map_on s) taken.maps ∙ new_map s (after_message s m (map_on s (maps_of old))) (maps_of old) ∙ ap (after_message s m) current ∙ led.leads in
    record {
      current = maps ∙ ap (λ (r : Rev). map_at history s node r.0) (sym at);
      later = subst (λ (r : Rev). from ≤ r.0) (sym at) led.later;
      rest = subst (λ (r : Rev). IsStream history s node live r.0 messages) (sym at) (record {
        within = omega (arith, stream.within, up_to_last (map_at history s node) last from m messages stream.to reads);
        to = stream.to;
        reads = rest_reads (map_at history s node) last from m messages stream.to reads;
        whole = stream.whole;
      });
    }
  where
    never : IsTrue false → ⊥
    never e = cc

other_map : (s t : Stream) (os : List StreamObject) (maps : HeldMaps) → (s ≡ t → ⊥) → map_on t (with_map s os maps) ≡ map_on t maps
other_map Policies Policies os maps other = absurd (other refl)
other_map Policies Addresses os maps other = refl
other_map Policies Applied os maps other = refl
other_map Addresses Policies os maps other = refl
other_map Addresses Addresses os maps other = absurd (other refl)
other_map Addresses Applied os maps other = refl
other_map Applied Policies os maps other = refl
other_map Applied Addresses os maps other = refl
other_map Applied Applied os maps other = absurd (other refl)

other_revision : (s t : Stream) (rev : Rev) (old new : HeldData) → (s ≡ t → ⊥) → new.revisions ≡ with_revision s rev old.revisions → revision_at t new ≡ revision_at t old
other_revision Policies Policies rev old new other e = absurd (other refl)
other_revision Policies Addresses rev old new other e = ap (λ (r : Revisions). r.addresses) e
other_revision Policies Applied rev old new other e = ap (λ (r : Revisions). r.applied) e
other_revision Addresses Policies rev old new other e = ap (λ (r : Revisions). r.policies) e
other_revision Addresses Addresses rev old new other e = absurd (other refl)
other_revision Addresses Applied rev old new other e = ap (λ (r : Revisions). r.applied) e
other_revision Applied Policies rev old new other e = ap (λ (r : Revisions). r.policies) e
other_revision Applied Addresses rev old new other e = ap (λ (r : Revisions). r.addresses) e
other_revision Applied Applied rev old new other e = absurd (other refl)

pub others_stay : OtherStreamsStay
others_stay s t m old new other taken =
    (ap (map_on t) taken.maps ∙ other_map s t (after_message s m (map_on s (maps_of old))) (maps_of old) other, other_revision s t (revision_of m) old new other taken.revisions)
