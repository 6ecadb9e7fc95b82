use Rattle.cl_types.specs.ListLaws.{all_weaker}
use Rattle.cluster_types.specs.Node.{NodeData, IsNode}
use Rattle.cluster_types.specs.Whole.{IsWholeNode}
use Rattle.cluster_objects.proofs.BlocksMeet.{one_node}
use Rattle.cluster_objects.proofs.laws.address_has_one_node.Goals as goal

pub returns : goal.returns
returns _ c n m a is e f in_n in_m =
    let forms = all_weaker IsWholeNode (λ (k : NodeData). IsNode k.cidr k.cidr6) (λ k whole. whole.node) c.nodes is.parts.nodes in
    one_node n m c.nodes a is.blocks_apart forms e f in_n in_m
