-- Named ports in order.
use Rattle.std.specs.Prelude.{List}
use Rattle.std.specs.Cmp.{IsTotalOrder}
use Rattle.std.proofs.lemmas.Cmp.{on_total, then_total, nat_cmp_total}
use Rattle.cl_types.specs.declared.service.NamedPort.{NamedPort}
use Rattle.cl_types.specs.Ascending.{sorted_by}
use Rattle.cl_types.specs.Text.{text_order_total}
use Rattle.cluster_types.specs.Pod.{port_order, proto_place}

pub port_order_total : IsTotalOrder port_order
port_order_total =
    then_total (on_total (λ (p : NamedPort). p.name) text_order_total) (on_total (λ (p : NamedPort). proto_place p.proto) nat_cmp_total)

-- by name and protocol; of those with the same the first counts
unfoldable pub in_order : List NamedPort → List NamedPort
in_order ports = sorted_by (λ (p : NamedPort). p) port_order ports
