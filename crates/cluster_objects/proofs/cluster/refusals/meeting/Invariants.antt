use Rattle.std.proofs.Common.{◌≡◌, ◌&&◌, not, drop, find}
use Rattle.cl_types.specs.Text.{text_eq}
use Rattle.cluster_types.specs.Node.{nodes_meet}
use Rattle.cluster_objects.proofs.cluster.refusals.meeting.Given as goal

-- what is sought is among the nodes that are left
abbrev pub invariant-loop-other : goal.invariant-loop-other
invariant-loop-other l =
    find (λ m. not (text_eq m.name l.node.name) && nodes_meet l.node m) (drop l.other-index l.nodes)
    ≡ find (λ m. not (text_eq m.name l.node.name) && nodes_meet l.node m) l.nodes
