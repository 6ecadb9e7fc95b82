-- What every controller keeps holds of one that made a revision.
use Rattle.std.proofs.Common.{◌≡◌, ◌≤◌, List, [], ◌∷◌, Bool, false, length, map, sym, ap, ap₂, refl, subst, ◌∙◌, arith}
use Rattle.std.proofs.lemmas.List.{length-map}
use Rattle.cl_types.specs.declared.stream.Rev.{Rev}
use Rattle.cluster_types.specs.declared.change.Change.{Change}
use Rattle.cluster_types.specs.Cluster.{ClusterData, IsCluster}
use Rattle.cluster_types.specs.Limits.{max_nodes}
use Rattle.cluster_types.specs.Node.{NodeData}
use Rattle.cl_types.specs.Text.{text_order}
use Rattle.group_index.specs.Index.{EntryData}
use Rattle.node_objects.specs.Sides.{IsSide}
use Rattle.watch_streams.specs.Ports.{PortState}
use Rattle.node_streams.specs.declared.messages.NodeMessages.{NodeMessages}
use Rattle.ctl_core.specs.Controller.{ControllerData, IsController, KeepsSides}
use Rattle.ctl_core.specs.Line.{LeavesNodes}
use Rattle.ctl_core.specs.Telling.{messages_of}
use Rattle.ctl_core.specs.Trying.{Leads}
use Rattle.ctl_core.specs.Uses.{IsCounted, IsSameSide}
use Rattle.node_streams.specs.Streams.{NodeStreams}
use Rattle.node_streams.specs.Telling.{AreTold}
use Rattle.node_streams.specs.StreamLaws.{ascend_by_names, name}
use Rattle.ctl_core.proofs.Leading.{leads_same}

told_names : {P : Type 0} (state : P → PortState) (Same : P → P → Type 0) (messages : NodeStreams P → NodeMessages) (old new : List (NodeStreams P)) → AreTold state Same messages old new → map name new ≡ map name old
told_names state Same messages [] [] told = refl
told_names state Same messages [] (n ∷ new) told = absurd told
told_names state Same messages (o ∷ old) [] told = absurd told
told_names state Same messages (o ∷ old) (n ∷ new) told = ap₂ (λ x xs. x ∷ xs) told.0.node (told_names state Same messages old new told.1)

pub revised : {P : Type 0} (state : P → PortState) (Same : P → P → Type 0) (messages : NodeStreams P → NodeMessages) (c : ControllerData P) (cluster : ClusterData) (groups : List EntryData) (rev : Rev) (nodes : List (NodeStreams P)) (other : ClusterData) (others : List EntryData)
    → IsController c → IsCluster cluster → IsSide cluster groups → LeavesNodes c.cluster cluster → AreTold state Same messages c.nodes nodes → other ≡ cluster → IsCounted cluster groups → IsCounted other others
    → KeepsSides (record { cluster = cluster; groups = groups; revision = rev; spent = false; nodes = nodes }) other others
revised state Same messages c cluster groups rev nodes other others was whole side left told same counted next = record {
  controller = record {
    cluster = whole;
    fixed = left.fixed;
    nodes = names ∙ (was.nodes ∙ ap (map (λ (n : NodeData). n.name)) (sym left.nodes));
    ascend = ascend_by_names name name text_order nodes c.nodes names was.ascend;
    groups = λ unspent. side;
  };
  same = λ unspent. same;
  present = λ unspent. counted;
  next = λ unspent. next;
}
  where
    names : map name nodes ≡ map name c.nodes
    names = told_names state Same messages c.nodes nodes told

-- ---- the two sides

-- after the same changes the two sides are the same
pub both_led : {P : Type 0} (changes : List Change) (seen : ControllerData P) (next ahead cluster : ClusterData) (others : List EntryData)
    → KeepsSides seen next others → seen.spent ≡ false → Leads changes next ahead → Leads changes seen.cluster cluster → ahead ≡ cluster
both_led changes seen next ahead cluster others keeps unspent first then = leads_same changes next seen.cluster ahead cluster (keeps.same unspent) first then

-- what every controller keeps holds where both sides took the changes and all were told
pub keeps_on : {P : Type 0} (state : P → PortState) (Same : P → P → Type 0) (changes : List Change) (seen : ControllerData P) (next ahead cluster : ClusterData) (others more groups : List EntryData) (rev : Rev) (nodes : List (NodeStreams P))
    → KeepsSides seen next others → seen.spent ≡ false → Leads changes next ahead → Leads changes seen.cluster cluster → LeavesNodes seen.cluster cluster → IsCluster cluster → IsSide cluster groups
    → IsCounted cluster groups → IsCounted ahead more → AreTold state Same (messages_of seen.cluster ahead rev) seen.nodes nodes
    → KeepsSides (record { cluster = cluster; groups = groups; revision = rev; spent = false; nodes = nodes }) ahead more
keeps_on state Same changes seen next ahead cluster others more groups rev nodes keeps unspent first then left whole side counted counted_ahead told =
    revised state Same (messages_of seen.cluster ahead rev) seen cluster groups rev nodes ahead more keeps.controller whole side left told
    (both_led changes seen next ahead cluster others keeps unspent first then) counted counted_ahead

-- what every controller keeps holds where nothing of a line came about, and of one that is spent
pub kept_still : {P : Type 0} (c : ControllerData P) (spent : Bool) (next ahead : ClusterData) (others more : List EntryData) → KeepsSides c next others → c.spent ≡ false
    → (spent ≡ false → IsSameSide next others ahead more) → KeepsSides (record c { spent = spent }) ahead more
kept_still c spent next ahead others more keeps unspent side = record {
  controller = record {
    cluster = keeps.controller.cluster;
    fixed = keeps.controller.fixed;
    nodes = keeps.controller.nodes;
    ascend = keeps.controller.ascend;
    groups = λ none. keeps.controller.groups unspent;
  };
  same = λ none. (side none).cluster ∙ keeps.same unspent;
  present = λ none. keeps.present unspent;
  next = λ none. subst (λ x. IsCounted x more) (sym (side none).cluster) (subst (λ x. IsCounted next x) (sym (side none).groups) (keeps.next unspent));
}

-- no more nodes than a cluster may have
pub few_nodes : {P : Type 0} (c : ControllerData P) → IsController c → length c.nodes ≤ max_nodes
few_nodes c is =
    omega (arith, length-map c.nodes (λ (n : NodeStreams _). n.node), ap length is.nodes, length-map c.cluster.nodes (λ (n : NodeData). n.name), is.cluster.limits.nodes)
