-- What holds of every message that is taken (this project's own).
use Rattle.std.specs.Prelude.{◌≡◌, ℕ, ◌≤◌, List, ◌∷◌, Bool, get_or}
use Rattle.std.specs.List.{AllByRecursion}
use Rattle.cl_types.specs.declared.stream.Rev.{Rev}
use Rattle.cl_types.specs.declared.stream.Stream.{Stream}
use Rattle.cl_types.specs.declared.stream.Stream.TheVariants.{Policies, Addresses, Applied}
use Rattle.cl_types.specs.declared.question.Question.{Question}
use Rattle.cluster_types.specs.Cluster.{ClusterData, IsCluster, no_objects}
use Rattle.cluster_types.specs.Evaluation.{side}
use Rattle.watch_streams.specs.declared.message.Msg.{Msg}
use Rattle.watch_streams.specs.HeldEvaluation.{held_side}
use Rattle.watch_streams.specs.Stream.{IsStream, map_at}
use Rattle.held_maps.specs.Held.{HeldData, IsTaken, maps_of, map_on}

abbrev pub revision_at : Stream → HeldData → Rev
revision_at Policies held = held.revisions.policies
revision_at Addresses held = held.revisions.addresses
revision_at Applied held = held.revisions.applied

-- the map of the stream is what belongs on it at its own revision
abbrev pub IsUpToDate : List ClusterData → Stream → List ℕ → HeldData → Type 0
IsUpToDate history s node held = map_on s (maps_of held) ≡ map_at history s node (revision_at s held).0

-- The stream's map is what belongs on it at the message's revision, which isn't before the old one, and the other messages
-- are a stream from there.
pub record LeadsOn (history : List ClusterData) (s : Stream) (node : List ℕ) (live : Bool) (m : Msg) (messages : List Msg) (old new : HeldData) : Type 0 where
  pub current : IsUpToDate history s node new
  pub later : (revision_at s old).0 ≤ (revision_at s new).0
  pub rest : IsStream history s node live (revision_at s new).0 messages

-- taking the first message of a stream from the revision at which its map is held leads on
abbrev pub MessagesLeadOn : Type 0
MessagesLeadOn =
    (history : List ClusterData) (s : Stream) (node : List ℕ) (live : Bool) (m : Msg) (messages : List Msg) (old new : HeldData) →
    AllByRecursion IsCluster history → IsUpToDate history s node old → IsStream history s node live (revision_at s old).0 (m ∷ messages) → IsTaken s m old new →
    LeadsOn history s node live m messages old new

-- what is held on the other streams stays, and their revisions with it
abbrev pub OtherStreamsStay : Type 0
OtherStreamsStay =
    (s t : Stream) (m : Msg) (old new : HeldData) → (s ≡ t → ⊥) → IsTaken s m old new →
    (map_on t (maps_of new) ≡ map_on t (maps_of old)) × (revision_at t new ≡ revision_at t old)

-- where the three maps are up to date at one revision, the verdict of what is held is the policies' own
abbrev pub OneRevisionIsThePoliciesVerdict : Type 0
OneRevisionIsThePoliciesVerdict =
    (history : List ClusterData) (node : List ℕ) (rev : Rev) (held : HeldData) (q : Question) →
    IsCluster (get_or history rev.0 no_objects) → ((s : Stream) → (revision_at s held ≡ rev) × IsUpToDate history s node held) →
    held_side (maps_of held) q ≡ side (get_or history rev.0 no_objects) node q
