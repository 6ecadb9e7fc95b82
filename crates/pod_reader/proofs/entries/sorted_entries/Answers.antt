use Rattle.std.proofs.Common.{List, sym, ap, ◌∙◌}
use Rattle.cl_types.specs.declared.service.NamedPort.{NamedPort}
use Rattle.pod_reader.proofs.SortedPorts.{sorted_onto, onto_last, onto_none}
use Rattle.pod_reader.proofs.entries.sorted_entries.Goals as goal

pub loop-port-init : goal.loop-port-init
loop-port-init c =
    record {
      taken = rw c.new-sorted.ensures.items (onto_none c.args.ports.items);
      ascends = rw c.new-sorted.ensures.items tt;
    }

pub loop-port-preserved : goal.loop-port-preserved
loop-port-preserved c =
    record {
      taken =
          rw c.in_ok-put.ensures.ok
          (sym (onto_last c.pop.new.self.items c.in-Some.port c.loop-port.sorted.items)
          ∙ ap (λ (ps : List NamedPort). sorted_onto ps c.loop-port.sorted.items) (sym c.in-Some.ensures.items)
          ∙ c.loop-port.invariant.taken);
      ascends = c.put.ensures.ascends;
    }
