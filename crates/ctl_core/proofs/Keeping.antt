-- What a controller's ports were sent stays a stream of the history.
use Rattle.std.proofs.Common.{◌≡◌, ℕ, List, [], ◌∷◌, ◌++◌, length, Bool, true, false, Some, None, if◌then◌else◌, refl, sym, ap, subst, ◌∙◌, arith}
use Rattle.std.specs.declared.cmp.Ordering.{Ordering}
use Rattle.std.specs.declared.cmp.Ordering.TheVariants.{Less, Equal, Greater}
use Rattle.std.specs.Ordering.{match_ordering}
use Rattle.cl_types.specs.declared.stream.Rev.{Rev}
use Rattle.cl_types.specs.declared.stream.Stream.{Stream}
use Rattle.cl_types.specs.declared.stream.Stream.TheVariants.{Policies, Addresses, Applied}
use Rattle.cl_types.specs.AscendingLaws.{found_at}
use Rattle.cl_types.specs.OrderLaws.{text_order_exact}
use Rattle.cl_types.specs.Text.{text_order}
use Rattle.cluster_types.specs.Cluster.{ClusterData}
use Rattle.stream_messages.specs.Laws.{CutStreamsStay, DeltasGoOn, last_cluster}
use Rattle.stream_messages.specs.Messages.{delta}
use Rattle.watch_streams.specs.Ports.{PortState}
use Rattle.watch_streams.specs.Stream.{IsStream}
use Rattle.node_streams.specs.declared.messages.NodeMessages.{NodeMessages}
use Rattle.ctl_core.specs.Laws.{HoldsStream, LinesKeepStreams}
use Rattle.node_streams.specs.Streams.{NodeStreams, StreamData, at_node, stream_of, streams_at}
use Rattle.ctl_core.specs.Telling.{messages_of}
use Rattle.node_streams.specs.Telling.{AreTold, IsTold, NodeIsTold, cuts_of}

-- where all nodes were told, each of them was
told_at : {P : Type 0} (state : P → PortState) (Same : P → P → Type 0) (messages : NodeStreams P → NodeMessages) (node : List ℕ) (olds news : List (NodeStreams P)) (old new : NodeStreams P)
    → AreTold state Same messages olds news → streams_at node olds ≡ Some old → streams_at node news ≡ Some new → NodeIsTold state Same (messages old) (cuts_of old new) old new
told_at state Same messages node [] news old new told there here = cc
told_at state Same messages node (o ∷ olds) [] old new told there here = cc
told_at state Same messages node (o ∷ olds) (n ∷ news) old new told there here =
    by_order (at_node node o) there (subst (λ r. match_ordering r (streams_at node news) (Some n) None ≡ Some new) (ap (λ x. text_order x node) told.0.node) here) (told_at state Same messages node olds news old new told.1)
  where
    by_order : (r : Ordering) → match_ordering r (streams_at node olds) (Some o) None ≡ Some old → match_ordering r (streams_at node news) (Some n) None ≡ Some new
        → (streams_at node olds ≡ Some old → streams_at node news ≡ Some new → NodeIsTold state Same (messages old) (cuts_of old new) old new) → NodeIsTold state Same (messages old) (cuts_of old new) old new
    by_order Less there here later = later there here
    by_order Equal there here later =
        let old_is : o ≡ old = cc in
        let new_is : n ≡ new = cc in
        subst (λ x. NodeIsTold state Same (messages x) (cuts_of x new) x new) old_is (subst (λ x. NodeIsTold state Same (messages o) (cuts_of o x) o x) new_is told.0)
    by_order Greater there here later = cc

module _ (go_on : DeltasGoOn) (stay : CutStreamsStay) {P : Type 0} (state : P → PortState) (Same : P → P → Type 0) where
  one_keeps : (history : List ClusterData) (old_cluster new_cluster : ClusterData) (rev : Rev) (s : Stream) (node : List ℕ) (from : ℕ) (old new : StreamData P) (cut : Bool)
      → last_cluster history ≡ old_cluster → rev.0 ≡ length history → IsTold state Same (if old.live then Some (delta old_cluster new_cluster rev s node) else None) cut old new
      → HoldsStream state history s node from old → HoldsStream state (history ++ new_cluster ∷ []) s node from new
  one_keeps history old_cluster new_cluster rev s node from old new cut last count told holds = by_live old.live refl cut told holds
    where
      longer : List ClusterData
      longer = history ++ new_cluster ∷ []

      by_live : (live : Bool) → old.live ≡ live → (cut : Bool) → IsTold state Same (if live then Some (delta old_cluster new_cluster rev s node) else None) cut old new
          → IsStream history s node live from (state old.port).sent → IsStream (history ++ new_cluster ∷ []) s node new.live from (state new.port).sent
      by_live true is false told holds =
          subst (λ b. IsStream (history ++ new_cluster ∷ []) s node b from (state new.port).sent) (sym (told.0 ∙ is))
          (subst (λ ms. IsStream (history ++ new_cluster ∷ []) s node true from ms) (sym told.1.sent.sent)
          (subst (λ c. IsStream (history ++ new_cluster ∷ []) s node true from ((state old.port).sent ++ delta c new_cluster rev s node ∷ [])) last
          (go_on history new_cluster rev s node from (state old.port).sent count holds)))
      by_live true is true told holds =
          subst (λ b. IsStream (history ++ new_cluster ∷ []) s node b from (state new.port).sent) (sym told.0)
          (subst (λ ms. IsStream (history ++ new_cluster ∷ []) s node false from ms) (sym told.1.sent)
          (stay history new_cluster s node true from (state old.port).sent holds))
      by_live false is cut told holds =
          subst (λ (x : StreamData P). IsStream (history ++ new_cluster ∷ []) s node x.live from (state x.port).sent) (sym (same cut told))
          (subst (λ b. IsStream (history ++ new_cluster ∷ []) s node b from (state old.port).sent) (sym is)
          (stay history new_cluster s node false from (state old.port).sent holds))
        where
          same : (cut : Bool) → IsTold state Same None cut old new → new ≡ old
          same cut told = told.1

  node_keeps : (history : List ClusterData) (old_cluster new_cluster : ClusterData) (rev : Rev) (from : ℕ) (old new : NodeStreams P) (s : Stream)
      → last_cluster history ≡ old_cluster → rev.0 ≡ length history → NodeIsTold state Same (messages_of old_cluster new_cluster rev old) (cuts_of old new) old new
      → HoldsStream state history s old.node from (stream_of s old) → HoldsStream state (history ++ new_cluster ∷ []) s old.node from (stream_of s new)
  node_keeps history oc nc rev from old new Policies last count told holds = one_keeps history oc nc rev Policies old.node from old.policies new.policies _ last count told.policies holds
  node_keeps history oc nc rev from old new Addresses last count told holds = one_keeps history oc nc rev Addresses old.node from old.addresses new.addresses _ last count told.addresses holds
  node_keeps history oc nc rev from old new Applied last count told holds = one_keeps history oc nc rev Applied old.node from old.applied new.applied _ last count told.applied holds

  pub lines_keep : LinesKeepStreams state Same
  lines_keep changes rev cut old new history reaches made node s from o n there here holds =
      let is : o.node ≡ node = text_order_exact o.node node (found_at (at_node node) old.nodes o there) in
      subst (λ x. HoldsStream state (history ++ new.cluster ∷ []) s x from (stream_of s n)) is
      (node_keeps history old.cluster new.cluster rev from o n s reaches.last (omega (arith, made.revised.next, reaches.count))
      (told_at state Same (messages_of old.cluster new.cluster rev) node old.nodes new.nodes o n made.revised.told there here)
      (subst (λ x. HoldsStream state history s x from (stream_of s o)) (sym is) holds))
