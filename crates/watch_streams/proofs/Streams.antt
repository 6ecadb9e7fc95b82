-- The messages of a stream lead from the map at one revision to that at a later one.
use Rattle.std.proofs.Common.{◌≡◌, ℕ, zero, suc, ◌≤◌, List, [], ◌∷◌, get_or, sym, ap, ◌∙◌, arith}
use Rattle.std.specs.List.{AllByRecursion}
use Rattle.cl_types.specs.declared.stream.Stream.{Stream}
use Rattle.cluster_types.specs.Cluster.{no_objects, IsCluster}
use Rattle.cluster_types.specs.ClusterLaws.{no_objects_are}
use Rattle.watch_streams.specs.declared.message.Msg.{Msg}
use Rattle.watch_streams.specs.declared.message.Msg.TheVariants.{Delta, Snapshot}
use Rattle.watch_streams.specs.declared.message.StreamObject.{StreamObject}
use Rattle.watch_streams.specs.Difference.{after_changes, of_snapshot}
use Rattle.watch_streams.specs.Laws.{IsMap, DifferencesLeadToTheNewMap, SnapshotsAreTheMap, ProjectionsAreMaps, StreamsLeadOn}
use Rattle.watch_streams.specs.Stream.{Reads, after_messages, map_at}

-- what holds of all items, and of the one that stands in where there is none
holds_at : {T : Type 0} (P : T → Type 0) (xs : List T) (i : ℕ) (d : T) → AllByRecursion P xs → P d → P (get_or xs i d)
holds_at P [] i d h e = e
holds_at P (x ∷ xs) zero d h e = h.0
holds_at P (x ∷ xs) (suc i) d h e = holds_at P xs i d h.1 e

module _ (differences : DifferencesLeadToTheNewMap) (snapshots : SnapshotsAreTheMap) (s : Stream) (map : ℕ → List StreamObject) (maps : (n : ℕ) → IsMap s (map n)) where
  reads_lead : (last from : ℕ) (messages : List Msg) (to : ℕ) → Reads map last from messages to → (after_messages s messages (map from) ≡ map to) × (from ≤ to)
  reads_lead last from [] to r = (ap map (sym r), omega (arith, r))
  reads_lead last from (Delta rev changes ∷ messages) to r =
      let step : after_changes s changes (map from) ≡ map rev.0 = ap (λ z. after_changes s z (map from)) r.2 ∙ differences s (map from) (map rev.0) (maps from) (maps rev.0) in
      let rest = reads_lead last rev.0 messages to r.3 in
      (ap (after_messages s messages) step ∙ rest.0, omega (arith, r.0, rest.1))
  reads_lead last from (Snapshot rev objects ∷ messages) to r =
      let step : of_snapshot s objects ≡ map rev.0 = ap (of_snapshot s) r.2 ∙ snapshots s (map rev.0) (maps rev.0) in
      let rest = reads_lead last rev.0 messages to r.3 in
      (ap (after_messages s messages) step ∙ rest.0, omega (arith, r.0, rest.1))

pub streams_lead : DifferencesLeadToTheNewMap → SnapshotsAreTheMap → ProjectionsAreMaps → StreamsLeadOn
streams_lead differences snapshots projections history s node live from messages whole stream =
    let lead = reads_lead differences snapshots s (map_at history s node)
    (λ n. projections (get_or history n no_objects) s node (holds_at IsCluster history n no_objects whole no_objects_are))
    _ from messages stream.to stream.reads in
    record { leads = lead.0; later = lead.1 }
