-- The messages on a stream as the history grows.
use Rattle.std.proofs.Common.{◌≡◌, ℕ, ◌+◌, ◌-◌, ◌<◌, ◌≤◌, List, [], ◌∷◌, ◌++◌, length, refl, sym, ap, ◌∙◌, subst, arith, length-append}
use Rattle.std.proofs.lemmas.List.{get_or_append_left, get_or_at}
use Rattle.cl_types.specs.declared.stream.Stream.{Stream}
use Rattle.cl_types.specs.declared.stream.Stream.TheVariants.{Policies, Addresses, Applied}
use Rattle.cluster_types.specs.Cluster.{ClusterData, no_objects}
use Rattle.watch_streams.specs.declared.message.Msg.{Msg}
use Rattle.watch_streams.specs.declared.message.Msg.TheVariants.{Delta, Snapshot}
use Rattle.watch_streams.specs.declared.message.StreamObject.{StreamObject}
use Rattle.watch_streams.specs.Difference.{difference}
use Rattle.watch_streams.specs.Projection.{projection}
use Rattle.watch_streams.specs.Stream.{Reads, map_at}
use Rattle.stream_messages.specs.Laws.{last_cluster, CutStreamsStay, DeltasGoOn, NodesAloneHaveEmptyStreams, NothingIsAStreamAtFirst, PrefixesAreStreams, SnapshotsBeginAgain, TheRestIsAStream}
use Rattle.stream_messages.specs.Messages.{delta, snapshot}

-- messages that were read over a history are read over a longer one, which has the same maps so far
reads_longer : (map later : ℕ → List StreamObject) (last more : ℕ) → last ≤ more → ((n : ℕ) → n ≤ last → map n ≡ later n)
    → (from : ℕ) (messages : List Msg) (to : ℕ) → from ≤ last → Reads map last from messages to → Reads later more from messages to
reads_longer map later last more le same from [] to low r = r
reads_longer map later last more le same from (Delta rev changes ∷ messages) to low r = (
  r.0,
  omega (arith, r.1, le),
  r.2 ∙ (ap (λ z. difference z (map rev.0)) (same from low) ∙ ap (difference (later from)) (same rev.0 r.1)),
  reads_longer map later last more le same rev.0 messages to r.1 r.3,
)
reads_longer map later last more le same from (Snapshot rev objects ∷ messages) to low r =
    (r.0, omega (arith, r.1, le), r.2 ∙ same rev.0 r.1, reads_longer map later last more le same rev.0 messages to r.1 r.3)

-- after messages come the others from where they end
reads_on : (map : ℕ → List StreamObject) (last from : ℕ) (messages more : List Msg) (middle to : ℕ) → Reads map last from messages middle → Reads map last middle more to
    → Reads map last from (messages ++ more) to
reads_on map last from [] more middle to r s = subst (λ m. Reads map last m more to) r s
reads_on map last from (Delta rev changes ∷ messages) more middle to r s = (r.0, r.1, r.2, reads_on map last rev.0 messages more middle to r.3 s)
reads_on map last from (Snapshot rev objects ∷ messages) more middle to r s = (r.0, r.1, r.2, reads_on map last rev.0 messages more middle to r.3 s)

-- the first messages are read to some revision
reads_first : (map : ℕ → List StreamObject) (last from : ℕ) (messages more : List Msg) (to : ℕ) → Reads map last from (messages ++ more) to
    → (middle : ℕ) × Reads map last from messages middle
reads_first map last from [] more to r = (from, refl)
reads_first map last from (Delta rev changes ∷ messages) more to r =
    let rest = reads_first map last rev.0 messages more to r.3 in (rest.0, (r.0, r.1, r.2, rest.1))
reads_first map last from (Snapshot rev objects ∷ messages) more to r =
    let rest = reads_first map last rev.0 messages more to r.3 in (rest.0, (r.0, r.1, r.2, rest.1))

-- ---- the history with one more cluster

longer : (history : List ClusterData) (new : ClusterData) → length (history ++ new ∷ []) ≡ length history + 1
longer history new = length-append history (new ∷ [])

same_maps : (history : List ClusterData) (new : ClusterData) (s : Stream) (node : List ℕ) (n : ℕ) → n < length history
    → map_at history s node n ≡ map_at (history ++ new ∷ []) s node n
same_maps history new s node n lt = ap (λ c. projection c s node) (sym (get_or_append_left history (new ∷ []) no_objects n lt))

one_more : (history : List ClusterData) (new : ClusterData) (s : Stream) (node : List ℕ) (from : ℕ) (messages : List Msg) (to : ℕ) → from + 1 ≤ length history
    → Reads (map_at history s node) (length history - 1) from messages to
    → Reads (map_at (history ++ new ∷ []) s node) (length (history ++ new ∷ []) - 1) from messages to
one_more history new s node from messages to within r =
    reads_longer (map_at history s node) (map_at (history ++ new ∷ []) s node) (length history - 1) (length (history ++ new ∷ []) - 1)
    (omega (arith, longer history new)) (λ n le. same_maps history new s node n (omega (arith, le, within))) from messages to (omega (arith, within)) r

pub cut_streams_stay : CutStreamsStay
cut_streams_stay history new s node live from messages stream = record {
  within = omega (arith, longer history new, stream.within);
  to = stream.to;
  reads = one_more history new s node from messages stream.to stream.within stream.reads;
  whole = λ live. cc;
}

pub deltas_go_on : DeltasGoOn
deltas_go_on history new rev s node from messages next stream = record {
  within = omega (arith, longer history new, stream.within);
  to = rev.0;
  reads =
      reads_on (map_at (history ++ new ∷ []) s node) (length (history ++ new ∷ []) - 1) from messages (delta (last_cluster history) new rev s node ∷ []) stream.to rev.0
      (one_more history new s node from messages stream.to stream.within stream.reads) (
        omega (arith, next, stream.whole refl),
        omega (arith, next, longer history new),
        ap (λ z. difference z (projection new s node)) (old_map stream.to (stream.whole refl)) ∙ ap (difference (map_at (history ++ new ∷ []) s node stream.to)) new_map,
        refl,
      );
  whole = λ live. omega (arith, next, longer history new);
}
  where
    old_map : (to : ℕ) → to + 1 ≡ length history → projection (last_cluster history) s node ≡ map_at (history ++ new ∷ []) s node to
    old_map to e =
        ap (λ n. map_at history s node n) (omega (arith, e)) ∙ same_maps history new s node to (omega (arith, e))

    new_map : projection new s node ≡ map_at (history ++ new ∷ []) s node rev.0
    new_map = ap (λ c. projection c s node) (sym (get_or_at history new [] no_objects rev.0 (sym next)))

pub snapshots_begin_again : SnapshotsBeginAgain
snapshots_begin_again history rev s node live from messages last stream = record {
  within = stream.within;
  to = rev.0;
  reads =
      reads_on (map_at history s node) (length history - 1) from messages (snapshot (last_cluster history) rev s node ∷ []) stream.to rev.0
      stream.reads (
        below from messages stream.to (omega (arith, stream.within)) stream.reads,
        omega (arith, last),
        ap (λ n. map_at history s node n) (omega (arith, last)),
        refl,
      );
  whole = λ live. last;
}
  where
    below : (from : ℕ) (messages : List Msg) (to : ℕ) → from ≤ length history - 1 → Reads (map_at history s node) (length history - 1) from messages to → to ≤ rev.0
    below from [] to low r = omega (arith, low, r, last)
    below from (Delta rev changes ∷ messages) to low r = below rev.0 messages to r.1 r.3
    below from (Snapshot rev objects ∷ messages) to low r = below rev.0 messages to r.1 r.3

-- ---- parts

pub nothing_at_first : NothingIsAStreamAtFirst
nothing_at_first c s node live = record { within = omega arith; to = 0; reads = refl; whole = λ live. refl }

pub the_rest : TheRestIsAStream
the_rest history s node live from (Delta rev changes) messages stream =
    record { within = omega (arith, stream.reads.1, stream.within); to = stream.to; reads = stream.reads.3; whole = stream.whole }
the_rest history s node live from (Snapshot rev objects) messages stream =
    record { within = omega (arith, stream.reads.1, stream.within); to = stream.to; reads = stream.reads.3; whole = stream.whole }

pub prefixes_are : PrefixesAreStreams
prefixes_are history s node live from messages more stream =
    let first = reads_first (map_at history s node) (length history - 1) from messages more stream.to stream.reads in
    record { within = stream.within; to = first.0; reads = first.1; whole = λ live. cc }

pub empty_streams : NodesAloneHaveEmptyStreams
empty_streams c Policies node alone = rw alone.policies (rw alone.egresses refl)
empty_streams c Addresses node alone = rw alone.policies refl
empty_streams c Applied node alone = rw alone.policies (rw alone.egresses refl)
