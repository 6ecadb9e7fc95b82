-- Where one stream changes, all of them stay streams of the history.
use Rattle.std.proofs.Common.{◌≡◌, ℕ, List, [], ◌∷◌, ◌++◌, Bool, true, false, Some, None, Ok, Err, if◌then◌else◌, refl, sym, ap, subst, ◌∙◌}
use Rattle.std.proofs.lemmas.List.{append-nil}
use Rattle.std.specs.declared.cmp.Ordering.{Ordering}
use Rattle.std.specs.declared.cmp.Ordering.TheVariants.{Less, Equal, Greater}
use Rattle.std.specs.Ordering.{is_eq}
use Rattle.cl_types.specs.declared.stream.Stream.{Stream}
use Rattle.cl_types.specs.declared.stream.Stream.TheVariants.{Policies, Addresses, Applied}
use Rattle.cl_types.specs.Ascending.{put}
use Rattle.cl_types.specs.AscendingLaws.{found_at, found_put}
use Rattle.cl_types.specs.OrderLaws.{text_order_exact}
use Rattle.cl_types.specs.Text.{text_order, text_order_total}
use Rattle.cluster_types.specs.Cluster.{ClusterData}
use Rattle.stream_messages.specs.Laws.{PrefixesAreStreams, SnapshotsBeginAgain, TheRestIsAStream}
use Rattle.stream_messages.specs.Messages.{snapshot}
use Rattle.watch_streams.specs.declared.message.Msg.{Msg}
use Rattle.watch_streams.specs.Ports.{PortState, QueueData}
use Rattle.watch_streams.specs.Stream.{IsStream}
use Rattle.ctl_core.specs.declared.outcome.RejoinFault.TheVariants.{NotCut, Full, NoMemory}
use Rattle.ctl_core.specs.Controller.{ControllerData}
use Rattle.ctl_core.specs.Laws.{CutsKeepStreams, HoldsStream, RejoinsKeepStreams, TakesKeepStreams, from_then}
use Rattle.node_streams.specs.Streams.{ChangesOne, IsBegunAgain, IsCut, IsFull, NodeStreams, StreamData, at_node, stream_of, streams_at, with_stream}
use Rattle.node_streams.specs.StreamLaws.{name, same_name}

module _ {P : Type 0} (Q : StreamData P → StreamData P → Type 0) (same : (x : StreamData P) → Q x x) where
  -- of a node one stream changed
  by_stream : (s t : Stream) (before after : NodeStreams P) → after ≡ with_stream s (stream_of s after) before → (t ≡ s → Q (stream_of t before) (stream_of t after))
      → Q (stream_of t before) (stream_of t after)
  by_stream Policies Policies before after rest changed = changed refl
  by_stream Policies Addresses before after rest changed = subst (λ x. Q before.addresses x) (sym (ap (λ n. n.addresses) rest)) (same before.addresses)
  by_stream Policies Applied before after rest changed = subst (λ x. Q before.applied x) (sym (ap (λ n. n.applied) rest)) (same before.applied)
  by_stream Addresses Policies before after rest changed = subst (λ x. Q before.policies x) (sym (ap (λ n. n.policies) rest)) (same before.policies)
  by_stream Addresses Addresses before after rest changed = changed refl
  by_stream Addresses Applied before after rest changed = subst (λ x. Q before.applied x) (sym (ap (λ n. n.applied) rest)) (same before.applied)
  by_stream Applied Policies before after rest changed = subst (λ x. Q before.policies x) (sym (ap (λ n. n.policies) rest)) (same before.policies)
  by_stream Applied Addresses before after rest changed = subst (λ x. Q before.addresses x) (sym (ap (λ n. n.addresses) rest)) (same before.addresses)
  by_stream Applied Applied before after rest changed = changed refl

  -- of all nodes one stream changed
  by_node : (node k : List ℕ) (s t : Stream) (How : StreamData P → StreamData P → Type 0) (olds news : List (NodeStreams P)) (old new : NodeStreams P) → ChangesOne node s How olds news
      → streams_at k olds ≡ Some old → streams_at k news ≡ Some new → (k ≡ node → t ≡ s → (x y : StreamData P) → How x y → Q x y) → Q (stream_of t old) (stream_of t new)
  by_node node k s t How olds news old new one there here changed = by_order (text_order one.after.node k) refl
    where
      named : one.after.node ≡ node
      named = ap name one.changes.rest ∙ (same_name s (stream_of s one.after) one.before ∙ text_order_exact one.before.node node (found_at (at_node node) olds one.before one.stands))

      put_is : streams_at k news ≡ (if is_eq (text_order one.after.node k) then Some one.after else streams_at k olds)
      put_is = ap (streams_at k) (subst (λ x. news ≡ put (at_node x) one.after olds) (sym named) one.rest) ∙ found_put name text_order_total k one.after olds

      stays : streams_at k news ≡ streams_at k olds → Q (stream_of t old) (stream_of t new)
      stays e =
          let one_node : Some old ≡ Some new = sym there ∙ (sym e ∙ here) in
          let is : old ≡ new = cc in
          subst (λ x. Q (stream_of t old) (stream_of t x)) is (same (stream_of t old))

      by_order : (r : Ordering) → text_order one.after.node k ≡ r → Q (stream_of t old) (stream_of t new)
      by_order Less is = stays (put_is ∙ ap (λ r. if is_eq r then Some one.after else streams_at k olds) is)
      by_order Greater is = stays (put_is ∙ ap (λ r. if is_eq r then Some one.after else streams_at k olds) is)
      by_order Equal is =
          let k_is : k ≡ node = sym (text_order_exact one.after.node k is) ∙ named in
          let first : Some one.before ≡ Some old = sym one.stands ∙ (ap (λ x. streams_at x olds) (sym k_is) ∙ there) in
          let second : Some one.after ≡ Some new = sym (put_is ∙ ap (λ r. if is_eq r then Some one.after else streams_at k olds) is) ∙ here in
          let before_is : one.before ≡ old = cc in
          let after_is : one.after ≡ new = cc in
          subst (λ x. Q (stream_of t x) (stream_of t new)) before_is
          (subst (λ x. Q (stream_of t one.before) (stream_of t x)) after_is
          (by_stream s t one.before one.after one.changes.rest
          (λ t_is. changed k_is t_is (stream_of t one.before) (stream_of t one.after) (subst (λ x. How (stream_of x one.before) (stream_of x one.after)) (sym t_is) one.changes.how))))

module _ (prefix : PrefixesAreStreams) {P : Type 0} (state : P → PortState) where
  cut_off : (history : List ClusterData) (s : Stream) (node : List ℕ) (live : Bool) (from : ℕ) (messages : List Msg) → IsStream history s node live from messages → IsStream history s node false from messages
  cut_off history s node live from messages holds = prefix history s node live from messages [] (subst (λ ms. IsStream history s node live from ms) (sym (append-nil messages)) holds)

  pub cuts_keep : CutsKeepStreams state
  cuts_keep node s was_live old new history changes k t from o n there here =
      by_node (λ x y. HoldsStream state history t k from x → HoldsStream state history t k from y) (λ x holds. holds) node k s t (IsCut was_live) old.nodes new.nodes o n changes.streams there here
      (λ _ _ x y how holds.
      subst (λ b. IsStream history t k b from (state y.port).sent) (sym how.cut)
      (subst (λ p. IsStream history t k false from (state p).sent) (sym how.same) (cut_off history t k x.live from (state x.port).sent holds)))

  module _ (begin : SnapshotsBeginAgain) (Same : P → P → Type 0) where
    pub rejoins_keep : RejoinsKeepStreams state Same
    rejoins_keep node s (Ok rev) old new history reaches made k t from o n there here =
        by_node (λ x y. HoldsStream state history t k from x → HoldsStream state history t k from y) (λ x holds. holds) node k s t (IsBegunAgain state Same (snapshot old.cluster old.revision s node)) old.nodes new.nodes o n
        made.1.streams there here
        (λ k_is t_is x y how holds.
        subst (λ b. IsStream history t k b from (state y.port).sent) (sym how.live)
        (subst (λ ms. IsStream history t k true from ms) (sym how.sent.sent)
        (subst (λ m. IsStream history t k true from ((state x.port).sent ++ m ∷ [])) (ap (λ c. snapshot c old.revision t k) reaches.last ∙ (ap (λ u. snapshot old.cluster old.revision u k) t_is ∙ ap (λ z. snapshot old.cluster old.revision s z) k_is))
        (begin history old.revision t k x.live from (state x.port).sent reaches.count holds))))
    rejoins_keep node s (Err NotCut) old new history reaches made k t from o n there here = λ holds.
        let both : Some o ≡ Some n = sym there ∙ (ap (λ (c : ControllerData P). streams_at k c.nodes) (sym made.1) ∙ here) in
        let one : o ≡ n = cc in
        subst (λ x. HoldsStream state history t k from (stream_of t x)) one holds
    rejoins_keep node s (Err Full) old new history reaches made k t from o n there here =
        by_node (λ x y. HoldsStream state history t k from x → HoldsStream state history t k from y) (λ x holds. holds) node k s t (IsFull state Same) old.nodes new.nodes o n made.streams there here
        (λ _ _ x y how holds.
        subst (λ b. IsStream history t k b from (state y.port).sent) (sym how.cut)
        (subst (λ ms. IsStream history t k false from ms) (sym how.sent) (cut_off history t k x.live from (state x.port).sent holds)))
    rejoins_keep node s (Err NoMemory) old new history reaches made k t from o n there here = λ holds.
        let both : Some o ≡ Some n = sym there ∙ (ap (λ (c : ControllerData P). streams_at k c.nodes) (sym made.1) ∙ here) in
        let one : o ≡ n = cc in
        subst (λ x. HoldsStream state history t k from (stream_of t x)) one holds

pub takes_keep : TheRestIsAStream → TakesKeepStreams
takes_keep rest node s from None old new history takes holds =
    subst (λ b. IsStream history s node b from new.port.messages) (sym takes.same)
    (subst (λ (q : QueueData). IsStream history s node old.live from q.messages) (sym takes.taken.1) holds)
takes_keep rest node s from (Some m) old new history takes holds =
    subst (λ b. IsStream history s node b (from_then from (Some m)) new.port.messages) (sym takes.same)
    (rest history s node old.live from m new.port.messages (subst (λ (q : QueueData). IsStream history s node old.live from q.messages) takes.taken holds))
