-- What an edit of one stream of one node keeps, and the nodes whose streams these are.
use Rattle.std.proofs.Common.{◌≡◌, ℕ, List, [], ◌∷◌, ◌++◌, length, get_or, set, map, Bool, Option, Some, None, IsSome, option_map, refl, sym, ap, subst, ◌∙◌, arith}
use Rattle.std.specs.List.{AllByRecursion, slice_get}
use Rattle.std.specs.declared.cmp.Ordering.{Ordering}
use Rattle.std.specs.declared.cmp.Ordering.TheVariants.{Less, Equal, Greater}
use Rattle.std.specs.Ordering.{match_ordering}
use Rattle.cl_types.specs.declared.stream.Stream.{Stream}
use Rattle.cl_types.specs.declared.stream.Stream.TheVariants.{Policies, Addresses, Applied}
use Rattle.cl_types.specs.Ascending.{Ascends, IsGap, IsPlace, found, put}
use Rattle.cl_types.specs.AscendingLaws.{ascends_put, found_at, found_at_place, found_in_gap, put_at_place}
use Rattle.cl_types.specs.OrderLaws.{text_order_exact}
use Rattle.cl_types.specs.Text.{text_order, text_order_total}
use Rattle.cluster_types.specs.Node.{NodeData}
use Rattle.node_streams.specs.declared.messages.Trio.{Trio}
use Rattle.node_streams.specs.Streams.{ChangesOne, ChangesStream, NodeStreams, StreamData, at_node, first_streams, live_streams, stream_of, streams_at, streams_for, with_stream}

abbrev pub name : {P : Type 0} → NodeStreams P → List ℕ
name n = n.node

pub same_name : {P : Type 0} (s : Stream) (stream : StreamData P) (n : NodeStreams P) → (with_stream s stream n).node ≡ n.node
same_name Policies stream n = refl
same_name Addresses stream n = refl
same_name Applied stream n = refl

-- the node in the place of one of its name
put_names : {P : Type 0} (node : List ℕ) (before after : NodeStreams P) → after.node ≡ before.node → (nodes : List (NodeStreams P)) → streams_at node nodes ≡ Some before
    → map name (put (at_node node) after nodes) ≡ map name nodes
put_names node before after same [] found = cc
put_names node before after same (n ∷ nodes) found = by_order (at_node node n) found (put_names node before after same nodes)
  where
    by_order : (r : Ordering) → match_ordering r (streams_at node nodes) (Some n) None ≡ Some before
        → (streams_at node nodes ≡ Some before → map name (put (at_node node) after nodes) ≡ map name nodes)
        → map name (match_ordering r (n ∷ put (at_node node) after nodes) (after ∷ nodes) (after ∷ n ∷ nodes)) ≡ n.node ∷ map name nodes
    by_order Less is rest = ap (λ names. n.node ∷ names) (rest is)
    by_order Equal is rest = let one : n ≡ before = cc in ap (λ m. m ∷ map name nodes) (same ∙ ap name (sym one))
    by_order Greater is rest = cc

pub names_stay : {P : Type 0} (node : List ℕ) (s : Stream) (How : StreamData P → StreamData P → Type 0) (old new : List (NodeStreams P)) → ChangesOne node s How old new → map name new ≡ map name old
names_stay node s How old new one =
    ap (map name) one.rest ∙ put_names node one.before one.after (ap name one.changes.rest ∙ same_name s (stream_of s one.after) one.before) old one.stands

pub ascend_still : {P : Type 0} (node : List ℕ) (s : Stream) (How : StreamData P → StreamData P → Type 0) (old new : List (NodeStreams P)) → ChangesOne node s How old new
    → Ascends name text_order old → Ascends name text_order new
ascend_still node s How old new one up =
    let named : one.after.node ≡ node =
    ap name one.changes.rest ∙ (same_name s (stream_of s one.after) one.before ∙ text_order_exact one.before.node node (found_at (at_node node) old one.before one.stands)) in
    let put_up : Ascends name text_order (put (at_node node) one.after old) =
    subst (λ t. Ascends name text_order (put (at_node t) one.after old)) named (ascends_put name text_order_total one.after old up) in
    subst (Ascends name text_order) (sym one.rest) put_up

-- with a trio for each node their names are those of the nodes
pub first_names : {P : Type 0} (nodes : List NodeData) (trios : List (Trio P)) → length trios ≡ length nodes → map name (first_streams nodes trios) ≡ map (λ (n : NodeData). n.name) nodes
first_names [] [] same = refl
first_names [] (t ∷ trios) same = absurd (omega (arith, same))
first_names (n ∷ nodes) [] same = absurd (omega (arith, same))
first_names (n ∷ nodes) (t ∷ trios) same = ap (λ names. n.name ∷ names) (first_names nodes trios (omega (arith, same)))

-- lists of one another's keys ascend alike
all_keys : {A B K : Type 0} (f : A → K) (h : B → K) (P : K → Type 0) (xs : List A) (ys : List B) → map f xs ≡ map h ys → AllByRecursion (λ b. P (h b)) ys → AllByRecursion (λ a. P (f a)) xs
all_keys f h P [] [] same all = tt
all_keys f h P [] (b ∷ ys) same all = cc
all_keys f h P (a ∷ xs) [] same all = cc
all_keys f h P (a ∷ xs) (b ∷ ys) same all =
    let first : f a ≡ h b = cc in
    let rest : map f xs ≡ map h ys = cc in
    (subst P (sym first) all.0, all_keys f h P xs ys rest all.1)

pub ascend_by_names : {A B K : Type 0} (f : A → K) (h : B → K) (cmp : K → K → Ordering) (xs : List A) (ys : List B) → map f xs ≡ map h ys → Ascends h cmp ys → Ascends f cmp xs
ascend_by_names f h cmp [] [] same up = tt
ascend_by_names f h cmp [] (b ∷ ys) same up = cc
ascend_by_names f h cmp (a ∷ xs) [] same up = cc
ascend_by_names f h cmp (a ∷ xs) (b ∷ ys) same up =
    let first : f a ≡ h b = cc in
    let rest : map f xs ≡ map h ys = cc in
    (subst (λ k. AllByRecursion (λ x. cmp k (f x) ≡ Less) xs) (sym first) (all_keys f h (λ k. cmp (h b) k ≡ Less) xs ys rest up.0), ascend_by_names f h cmp xs ys rest up.1)
