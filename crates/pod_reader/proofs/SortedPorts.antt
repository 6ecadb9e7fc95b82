-- Ports taken from the end one by one, each put at its place, are sorted; and sorted ports ascend.
use Rattle.std.proofs.Common.{◌≡◌, List, [], ◌∷◌, ◌++◌, Option, refl, ap}
use Rattle.serde_json.specs.Data.{Data}
use Rattle.cl_types.specs.declared.service.NamedPort.{NamedPort}
use Rattle.cl_types.specs.Ascending.{Ascends, put, sorted_by}
use Rattle.cl_types.specs.AscendingLaws.{ascends_sorted}
use Rattle.cluster_types.specs.Pod.{port_order}
use Rattle.pod_reader.specs.PortOrder.{port_order_total, in_order}
use Rattle.pod_reader.specs.Containers.{named_ports, pod_ports}

abbrev pub put_port : NamedPort → List NamedPort → List NamedPort
put_port p ports = put (λ (q : NamedPort). port_order q p) p ports

-- the ports that are left, each put among those that are sorted, the last one first
abbrev pub sorted_onto : List NamedPort → List NamedPort → List NamedPort
sorted_onto [] sorted = sorted
sorted_onto (p ∷ ps) sorted = put_port p (sorted_onto ps sorted)

pub onto_last : (ps : List NamedPort) (p : NamedPort) (sorted : List NamedPort) → sorted_onto (ps ++ p ∷ []) sorted ≡ sorted_onto ps (put_port p sorted)
onto_last [] p sorted = refl
onto_last (q ∷ qs) p sorted = ap (put_port q) (onto_last qs p sorted)

pub onto_none : (ps : List NamedPort) → sorted_onto ps [] ≡ sorted_by (λ (p : NamedPort). p) port_order ps
onto_none [] = refl
onto_none (p ∷ ps) = ap (put_port p) (onto_none ps)

pub ports_ascend : (spec : Option Data) → Ascends (λ (p : NamedPort). p) port_order (pod_ports spec)
unfolding pod_ports in_order
ports_ascend spec = ascends_sorted (λ (p : NamedPort). p) port_order_total (named_ports spec)
