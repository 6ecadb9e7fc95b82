-- Messages that are a stream of a history are one of a longer history, and with the next message behind them.
use Rattle.std.proofs.Common.{◌≡◌, ℕ, ◌+◌, ◌-◌, ◌≤◌, List, [], ◌∷◌, ◌++◌, length, Bool, true, false, IsTrue, get_or, refl, sym, ap, subst, ◌∙◌, arith}
use Rattle.std.proofs.lemmas.List.{get_or_append_left, length-append}
use Rattle.std.proofs.Math.Seq.{get_or-append_seam}
use Rattle.cl_types.specs.declared.stream.Stream.{Stream}
use Rattle.cluster_types.specs.Cluster.{ClusterData, no_objects}
use Rattle.watch_streams.specs.declared.message.Msg.{Msg}
use Rattle.watch_streams.specs.declared.message.Msg.TheVariants.{Delta, Snapshot}
use Rattle.watch_streams.specs.declared.message.StreamObject.{StreamObject}
use Rattle.watch_streams.specs.Difference.{difference}
use Rattle.watch_streams.specs.Projection.{projection}
use Rattle.watch_streams.specs.Stream.{Reads, IsStream, map_at}

pub never : IsTrue false → ⊥
never e = cc

-- ---- messages that are read

-- messages are read behind others
pub reads_append : (map : ℕ → List StreamObject) (last from : ℕ) (messages : List Msg) (to : ℕ) → Reads map last from messages to
    → (more : List Msg) (end : ℕ) → Reads map last to more end → Reads map last from (messages ++ more) end
reads_append map last from [] to r more end next = subst (λ z. Reads map last z more end) r next
reads_append map last from (Delta rev changes ∷ messages) to r more end next = (r.0, r.1, r.2, reads_append map last rev.0 messages to r.3 more end next)
reads_append map last from (Snapshot rev objects ∷ messages) to r more end next = (r.0, r.1, r.2, reads_append map last rev.0 messages to r.3 more end next)

-- none is read past the last revision
pub reads_within : (map : ℕ → List StreamObject) (last from : ℕ) (messages : List Msg) (to : ℕ) → from ≤ last → Reads map last from messages to → to ≤ last
reads_within map last from [] to within r = omega (arith, within, r)
reads_within map last from (Delta rev changes ∷ messages) to within r = reads_within map last rev.0 messages to r.1 r.3
reads_within map last from (Snapshot rev objects ∷ messages) to within r = reads_within map last rev.0 messages to r.1 r.3

-- what is read up to a revision is read where there are later ones
module _ (old new : ℕ → List StreamObject) (last later : ℕ) (longer : last ≤ later) (same : (n : ℕ) → n ≤ last → old n ≡ new n) where
  reads_longer : (from : ℕ) (messages : List Msg) (to : ℕ) → from ≤ last → Reads old last from messages to → Reads new later from messages to
  reads_longer from [] to within r = r
  reads_longer from (Delta rev changes ∷ messages) to within r = (
    r.0,
    omega (arith, r.1, longer),
    r.2 ∙ (ap (λ z. difference z (old rev.0)) (same from within) ∙ ap (difference (new from)) (same rev.0 r.1)),
    reads_longer rev.0 messages to r.1 r.3,
  )
  reads_longer from (Snapshot rev objects ∷ messages) to within r = (r.0, omega (arith, r.1, longer), r.2 ∙ same rev.0 r.1, reads_longer rev.0 messages to r.1 r.3)

-- ---- a history with one more cluster

pub one_more : (history : List ClusterData) (c : ClusterData) → length (history ++ c ∷ []) ≡ length history + 1
one_more history c = length-append history (c ∷ [])

pub same_at : (history : List ClusterData) (c : ClusterData) (s : Stream) (node : List ℕ) (n : ℕ) → n + 1 ≤ length history
    → map_at history s node n ≡ map_at (history ++ c ∷ []) s node n
same_at history c s node n within = ap (λ d. projection d s node) (sym (get_or_append_left history (c ∷ []) no_objects n (omega (arith, within))))

pub new_at : (history : List ClusterData) (c : ClusterData) (s : Stream) (node : List ℕ) (n : ℕ) → n ≡ length history
    → projection c s node ≡ map_at (history ++ c ∷ []) s node n
new_at history c s node n is =
    sym (ap (λ d. projection d s node) (ap (λ i. get_or (history ++ c ∷ []) i no_objects) is ∙ get_or-append_seam history c [] no_objects))

module _ (history : List ClusterData) (s : Stream) (node : List ℕ) (from : ℕ) (messages : List Msg) where
  abbrev pub Stands : Bool → List ClusterData → List Msg → Type 0
  Stands live clusters waiting = IsStream clusters s node live from waiting

  -- a stream that is cut
  pub cut_stream : (live : Bool) → Stands live history messages → Stands false history messages
  cut_stream live stream = record { within = stream.within; to = stream.to; reads = stream.reads; whole = λ is. absurd (never is) }

  longer_reads : (c : ClusterData) (live : Bool) (stream : Stands live history messages)
      → Reads (map_at (history ++ c ∷ []) s node) (length (history ++ c ∷ []) - 1) from messages stream.to
  longer_reads c live stream =
      reads_longer (map_at history s node) (map_at (history ++ c ∷ []) s node) (length history - 1) (length (history ++ c ∷ []) - 1)
      (omega (arith, one_more history c)) (λ n at. same_at history c s node n (omega (arith, at, stream.within)))
      from messages stream.to (omega (arith, stream.within)) stream.reads

  -- one that is told nothing of the next revision
  pub longer_stream : (c : ClusterData) (live : Bool) → Stands live history messages → Stands false (history ++ c ∷ []) messages
  longer_stream c live stream = record {
    within = omega (arith, stream.within, one_more history c);
    to = stream.to;
    reads = longer_reads c live stream;
    whole = λ is. absurd (never is);
  }

  -- a live one that is told what the next revision changes
  pub told_stream : (c : ClusterData) → Stands true history messages
      → Stands true (history ++ c ∷ [])
      (messages ++ Delta (record { 0 = length history - 1 + 1 }) (difference (projection (get_or history (length history - 1) no_objects) s node) (projection c s node)) ∷ [])
  told_stream c stream =
      let count : length (history ++ c ∷ []) ≡ length history + 1 = one_more history c in
      let all : stream.to + 1 ≡ length history = stream.whole refl in
      let at_last : length history - 1 ≡ stream.to = omega (arith, all) in
      let next : length history - 1 + 1 ≡ length history = omega (arith, all) in
      let before = ap (map_at history s node) at_last ∙ same_at history c s node stream.to (omega (arith, all)) in
      let now = new_at history c s node (length history - 1 + 1) next in
      record {
        within = omega (arith, stream.within, count);
        to = length history - 1 + 1;
        reads =
            reads_append (map_at (history ++ c ∷ []) s node) (length (history ++ c ∷ []) - 1) from messages stream.to (longer_reads c true stream) _ (length history - 1 + 1) (
              omega (arith, all),
              omega (arith, all, count),
              ap (λ z. difference z (projection c s node)) before ∙ ap (difference (map_at (history ++ c ∷ []) s node stream.to)) now,
              refl,
            );
        whole = λ is. omega (arith, next, count);
      }

  -- one that is told all that belongs on it at the last revision
  pub rejoined_stream : (live : Bool) → Stands live history messages
      → Stands true history (messages ++ Snapshot (record { 0 = length history - 1 }) (projection (get_or history (length history - 1) no_objects) s node) ∷ [])
  rejoined_stream live stream = record {
    within = stream.within;
    to = length history - 1;
    reads =
        reads_append (map_at history s node) (length history - 1) from messages stream.to stream.reads _ (length history - 1)
        (reads_within (map_at history s node) (length history - 1) from messages stream.to (omega (arith, stream.within)) stream.reads, omega arith, refl, refl);
    whole = λ is. omega (arith, stream.within);
  }
