-- What every controller keeps holds of the first one, and where a stream changed.
use Rattle.std.proofs.Common.{◌≡◌, ℕ, List, [], Bool, true, false, length, map, refl, sym, ap, subst, ◌∙◌}
use Rattle.cl_types.specs.declared.stream.Rev.{Rev}
use Rattle.cl_types.specs.declared.stream.Stream.{Stream}
use Rattle.cl_types.specs.Text.{text_order}
use Rattle.cluster_types.specs.Cluster.{ClusterData, HasNodesAlone, IsCluster}
use Rattle.cluster_types.specs.Node.{NodeData}
use Rattle.cluster_objects.specs.Apply.{fixed_nodes}
use Rattle.group_index.specs.Index.{EntryData}
use Rattle.node_objects.specs.Sides.{IsSide}
use Rattle.watch_streams.specs.declared.message.Msg.{Msg}
use Rattle.watch_streams.specs.Ports.{PortState}
use Rattle.node_streams.specs.declared.messages.Trio.{Trio}
use Rattle.ctl_core.specs.Controller.{ChangesOneStream, ControllerData, IsController, KeepsSides}
use Rattle.ctl_core.specs.Uses.{IsCounted}
use Rattle.ctl_core.proofs.Counted.{nothing_counted}
use Rattle.node_streams.specs.Streams.{Begins, ChangesOne, IsBegunAgain, NodeStreams, StreamData, first_streams}
use Rattle.node_streams.specs.StreamLaws.{ascend_by_names, ascend_still, first_names, name, names_stay}

first_side : (c : ClusterData) (groups : List EntryData) → groups ≡ [] → c.policies ≡ [] → c.egresses ≡ [] → IsSide c groups
first_side c groups no_groups no_policies no_egresses = record { stands = rw no_groups tt; policies = rw no_policies tt; egresses = rw no_egresses tt }

pub begins : {P : Type 0} (given cluster : ClusterData) (groups : List EntryData) (rev : Rev) (ports : List (Trio P)) (nodes : List (NodeStreams P)) (infos : List NodeData)
    → HasNodesAlone given → length ports ≡ length given.nodes → cluster ≡ fixed_nodes given → IsCluster cluster → infos ≡ cluster.nodes → nodes ≡ first_streams infos ports → groups ≡ []
    → IsController (record { cluster = cluster; groups = groups; revision = rev; spent = false; nodes = nodes })
begins given cluster groups rev ports nodes infos alone each fixed whole are streams none = record {
  cluster = whole;
  fixed = ap (λ (c : ClusterData). c.fixed) fixed;
  nodes = names;
  ascend = ascend_by_names name (λ (n : NodeData). n.name) text_order nodes cluster.nodes names whole.nodes_ascend;
  groups = λ unspent. first_side cluster groups none (ap (λ (c : ClusterData). c.policies) fixed ∙ alone.policies) (ap (λ (c : ClusterData). c.egresses) fixed ∙ alone.egresses);
}
  where
    names : map name nodes ≡ map (λ (n : NodeData). n.name) cluster.nodes
    names =
        ap (map name) (streams ∙ ap (λ ns. first_streams ns ports) are)
        ∙ first_names cluster.nodes ports (each ∙ sym (ap (λ (c : ClusterData). length c.nodes) fixed))

pub begins_with : {P : Type 0} (given cluster : ClusterData) (groups : List EntryData) (rev : Rev) (ports : List (Trio P)) (nodes : List (NodeStreams P)) (infos : List NodeData) (other : ClusterData) (others : List EntryData)
    → HasNodesAlone given → length ports ≡ length given.nodes → cluster ≡ fixed_nodes given → IsCluster cluster → infos ≡ cluster.nodes → nodes ≡ first_streams infos ports → groups ≡ [] → other ≡ cluster → others ≡ []
    → KeepsSides (record { cluster = cluster; groups = groups; revision = rev; spent = false; nodes = nodes }) other others
begins_with given cluster groups rev ports nodes infos other others alone each fixed whole are streams none copied others_none = record {
  controller = begins given cluster groups rev ports nodes infos alone each fixed whole are streams none;
  same = λ unspent. copied;
  present = λ unspent. counted cluster groups fixed none;
  next = λ unspent. counted other others (copied ∙ fixed) others_none;
}
  where
    counted : (c : ClusterData) (index : List EntryData) → c ≡ fixed_nodes given → index ≡ [] → IsCounted c index
    counted c index is empty =
        nothing_counted c index empty (ap (λ (d : ClusterData). d.policies) is ∙ alone.policies) (ap (λ (d : ClusterData). d.egresses) is ∙ alone.egresses)

pub stays : {P : Type 0} (node : List ℕ) (s : Stream) (How : StreamData P → StreamData P → Type 0) (c : ControllerData P) (nodes : List (NodeStreams P))
    → IsController c → ChangesOne node s How c.nodes nodes → IsController (record c { nodes = nodes })
stays node s How c nodes was one = record {
  cluster = was.cluster;
  fixed = was.fixed;
  nodes = names_stay node s How c.nodes nodes one ∙ was.nodes;
  ascend = ascend_still node s How c.nodes nodes one was.ascend;
  groups = was.groups;
}

pub streams_keep : {P : Type 0} (node : List ℕ) (s : Stream) (How : StreamData P → StreamData P → Type 0) (c : ControllerData P) (nodes : List (NodeStreams P)) (other : ClusterData) (others : List EntryData)
    → KeepsSides c other others → ChangesOne node s How c.nodes nodes → KeepsSides (record c { nodes = nodes }) other others
streams_keep node s How c nodes other others was one = record { controller = stays node s How c nodes was.controller one; same = was.same; present = was.present; next = was.next }

pub one_stream : {P : Type 0} (node : List ℕ) (s : Stream) (How : StreamData P → StreamData P → Type 0) (seen old : ControllerData P) (nodes : List (NodeStreams P))
    → seen ≡ old → ChangesOne node s How seen.nodes nodes → ChangesOneStream node s How old (record seen { nodes = nodes })
one_stream node s How seen old nodes is one =
    subst (λ o. ChangesOneStream node s How o (record seen { nodes = nodes })) is (record { streams = one; rest = refl })

-- where the port took the snapshot in, the stream is begun again
pub begun : {P : Type 0} (state : P → PortState) (Same : P → P → Type 0) (node : List ℕ) (s : Stream) (m told : Msg) (b : Bool) (old new : ControllerData P)
    → m ≡ told → b ≡ true → ChangesOneStream node s (Begins state Same m b) old new → ChangesOneStream node s (IsBegunAgain state Same told) old new
begun state Same node s m told b old new is taken changes =
    subst (λ (z : Msg). ChangesOneStream node s (IsBegunAgain state Same z) old new) is
    (subst (λ (z : Bool). ChangesOneStream node s (Begins state Same m z) old new) taken changes)
