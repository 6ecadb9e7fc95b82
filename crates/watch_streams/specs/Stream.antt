-- Which messages may stand on a stream of a node, over the clusters of all revisions (this project's own).
use Rattle.std.specs.Prelude.{◌≡◌, ℕ, ◌+◌, ◌-◌, ◌≤◌, List, [], ◌∷◌, length, Bool, IsTrue, get_or}
use Rattle.cl_types.specs.declared.stream.Stream.{Stream}
use Rattle.cluster_types.specs.Cluster.{ClusterData, no_objects}
use Rattle.watch_streams.specs.declared.message.Msg.{Msg}
use Rattle.watch_streams.specs.declared.message.Msg.TheVariants.{Delta, Snapshot}
use Rattle.watch_streams.specs.declared.message.StreamObject.{StreamObject}
use Rattle.watch_streams.specs.Difference.{difference, after_changes, of_snapshot}
use Rattle.watch_streams.specs.Projection.{projection}

-- ---- a map after messages

abbrev pub after_message : Stream → Msg → List StreamObject → List StreamObject
after_message s (Delta rev changes) held = after_changes s changes held
after_message s (Snapshot rev objects) held = of_snapshot s objects

abbrev pub after_messages : Stream → List Msg → List StreamObject → List StreamObject
after_messages s [] held = held
after_messages s (m ∷ messages) held = after_messages s messages (after_message s m held)

-- ---- messages that were made of a history

-- what belongs on the stream at a revision
abbrev pub map_at : List ClusterData → Stream → List ℕ → ℕ → List StreamObject
map_at history s node rev = projection (get_or history rev no_objects) s node

-- Read from one revision on they end at another one. A delta is of the next revision, with exactly what it changes; a
-- snapshot is of a revision not before, with all that belongs on the stream at it.
abbrev pub Reads : (ℕ → List StreamObject) → ℕ → ℕ → List Msg → ℕ → Type 0
Reads map last from [] to = to ≡ from
Reads map last from (Delta rev changes ∷ messages) to =
    (rev.0 ≡ from + 1) × (rev.0 ≤ last) × (changes ≡ difference (map from) (map rev.0)) × Reads map last rev.0 messages to
Reads map last from (Snapshot rev objects ∷ messages) to =
    (from ≤ rev.0) × (rev.0 ≤ last) × (objects ≡ map rev.0) × Reads map last rev.0 messages to

-- These messages lead from a revision on towards the last one, which they reach on a live stream.
pub record IsStream (history : List ClusterData) (s : Stream) (node : List ℕ) (live : Bool) (from : ℕ) (messages : List Msg) : Type 0 where
  pub within : from + 1 ≤ length history
  pub to : ℕ
  pub reads : Reads (map_at history s node) (length history - 1) from messages to
  pub whole : IsTrue live → to + 1 ≡ length history
