-- One stream of a node that stands at a place changes, and one more node comes.
use Rattle.std.proofs.Common.{◌≡◌, ℕ, List, [], ◌∷◌, ◌++◌, length, get_or, set, map, Bool, Option, Some, None, IsSome, option_map, refl, sym, ap, subst, ◌∙◌, arith}
use Rattle.std.specs.List.{AllByRecursion, slice_get}
use Rattle.std.specs.declared.cmp.Ordering.{Ordering}
use Rattle.std.specs.declared.cmp.Ordering.TheVariants.{Less, Equal, Greater}
use Rattle.std.specs.Ordering.{match_ordering}
use Rattle.cl_types.specs.declared.stream.Stream.{Stream}
use Rattle.cl_types.specs.declared.stream.Stream.TheVariants.{Policies, Addresses, Applied}
use Rattle.cl_types.specs.Ascending.{Ascends, IsGap, IsPlace, found, put}
use Rattle.cl_types.specs.AscendingLaws.{ascends_put, found_at, found_at_place, found_in_gap, put_at_place}
use Rattle.cl_types.specs.OrderLaws.{text_order_exact}
use Rattle.cl_types.specs.Text.{text_order, text_order_total}
use Rattle.cluster_types.specs.Node.{NodeData}
use Rattle.node_streams.specs.declared.messages.Trio.{Trio}
use Rattle.node_streams.specs.Streams.{ChangesOne, ChangesStream, NodeStreams, StreamData, at_node, first_streams, live_streams, stream_of, streams_at, streams_for, with_stream}

none_there : {T : Type 0} (o : Option T) → o ≡ None → IsSome o → ⊥
none_there None none there = cc
none_there (Some x) none there = cc

-- a listed node has no gap in its place
pub no_gap : {P : Type 0} (node : List ℕ) (nodes : List (NodeStreams P)) (i : ℕ) → IsGap (at_node node) nodes i → IsSome (streams_at node nodes) → ⊥
no_gap node nodes i gap listed = none_there (streams_at node nodes) (found_in_gap (at_node node) nodes i gap.within gap.before gap.after) listed

pub found_here : {P : Type 0} (node : List ℕ) (nodes : List (NodeStreams P)) (i : ℕ) (n : NodeStreams P) → IsPlace (at_node node) nodes i → n ≡ get_or nodes i n → streams_at node nodes ≡ Some n
found_here node nodes i n p is = found_at_place (at_node node) nodes i n p.within p.here p.before ∙ ap Some (sym is)

-- what is known of a stream of the node that stands there
pub live_here : {P : Type 0} (node : List ℕ) (s : Stream) (live : Bool) (nodes : List (NodeStreams P)) (i : ℕ) (n : NodeStreams P) → IsPlace (at_node node) nodes i → n ≡ get_or nodes i n
    → option_map (λ m. (stream_of s m).live) (streams_at node nodes) ≡ Some live → (stream_of s n).live ≡ live
live_here node s live nodes i n p is known =
    let both : Some (stream_of s n).live ≡ Some live = ap (option_map (λ m. (stream_of s m).live)) (sym (found_here node nodes i n p is)) ∙ known in
    cc

pub changes_one : {P : Type 0} (node : List ℕ) (s : Stream) (How : StreamData P → StreamData P → Type 0) (nodes : List (NodeStreams P)) (i : ℕ) (before after : NodeStreams P)
    → IsPlace (at_node node) nodes i → before ≡ get_or nodes i before → ChangesStream s How before after → ChangesOne node s How nodes (set nodes i after)
changes_one node s How nodes i before after p is changes = record {
  before = before;
  after = after;
  stands = found_here node nodes i before p is;
  changes = changes;
  rest = sym (put_at_place (at_node node) after nodes i p.within p.here p.before);
}

-- the streams of one more trio
pub first_more : {P : Type 0} (nodes : List NodeData) (trios : List (Trio P)) (trio : Trio P)
    → first_streams nodes trios ++ streams_for (slice_get nodes (length (first_streams nodes trios))) trio ≡ first_streams nodes (trios ++ trio ∷ [])
first_more [] [] trio = refl
first_more [] (t ∷ trios) trio = refl
first_more (n ∷ nodes) [] trio = refl
first_more (n ∷ nodes) (t ∷ trios) trio = ap (λ ns. live_streams n.name t ∷ ns) (first_more nodes trios trio)
