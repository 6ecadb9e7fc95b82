use Rattle.std.proofs.Common.{ℕ, ◌<◌, ◌≤◌, ◌^◌, List, map, ◌↔◌, arith}
use Rattle.std.specs.List.{Any, AllPairs, Contains}
use Rattle.cl_types.specs.declared.service.Masked.{Masked}
use Rattle.cl_types.specs.Blocks.{Matches, IsMaximalPorts, PortsPrecede, mask_of}
use Rattle.cl_types.proofs.Mapped.{made}
use Rattle.cl_types.proofs.Spans.{all_spans}
use Rattle.cl_types.proofs.PortBlocks.{all_ports, port_spans, exact_ports, maximal_ports, ascending_ports}
use Rattle.cl_types.proofs.blocks.blocks_of_range.Goals as goal

pub add_spans-requires-clause-larger : goal.add_spans-requires-clause-larger
add_spans-requires-clause-larger c = (65536, omega arith, λ p. omega (arith, p.1))

pub masks-requires : goal.masks-requires
masks-requires c =
    let are = all_spans (λ n. (c.args.lo ≤ n) × (n ≤ c.args.hi)) all_ports c.new-spans.result.items c.add_spans.new.spans.items c.as_slice.result.now c.new-spans.ensures.items c.in_ok-add_spans.ensures c.as_slice.ensures.value in
    port_spans c.args.lo c.args.hi c.as_slice.result.now are

pub returns-clause-exact : goal.returns-clause-exact
returns-clause-exact c =
    let are = all_spans (λ n. (c.args.lo ≤ n) × (n ≤ c.args.hi)) all_ports c.new-spans.result.items c.add_spans.new.spans.items c.as_slice.result.now c.new-spans.ensures.items c.in_ok-add_spans.ensures c.as_slice.ensures.value in
    made c.masks.result (map mask_of c.as_slice.result.now) (λ (blocks : List Masked). (port : ℕ) → port < 2 ^ 16 → ((c.args.lo ≤ port) × (port ≤ c.args.hi)) ↔ Any (λ b. Matches b port) blocks) (exact_ports c.args.lo c.args.hi c.as_slice.result.now are) c.masks.ensures

pub returns-clause-maximal : goal.returns-clause-maximal
returns-clause-maximal c =
    let are = all_spans (λ n. (c.args.lo ≤ n) × (n ≤ c.args.hi)) all_ports c.new-spans.result.items c.add_spans.new.spans.items c.as_slice.result.now c.new-spans.ensures.items c.in_ok-add_spans.ensures c.as_slice.ensures.value in
    made c.masks.result (map mask_of c.as_slice.result.now) (λ (blocks : List Masked). (b : Masked) → IsMaximalPorts c.args.lo c.args.hi b ↔ Contains blocks b) (maximal_ports c.args.lo c.args.hi c.as_slice.result.now are) c.masks.ensures

pub returns-clause-ascending : goal.returns-clause-ascending
returns-clause-ascending c =
    let are = all_spans (λ n. (c.args.lo ≤ n) × (n ≤ c.args.hi)) all_ports c.new-spans.result.items c.add_spans.new.spans.items c.as_slice.result.now c.new-spans.ensures.items c.in_ok-add_spans.ensures c.as_slice.ensures.value in
    made c.masks.result (map mask_of c.as_slice.result.now) (AllPairs PortsPrecede) (ascending_ports c.args.lo c.args.hi c.as_slice.result.now are) c.masks.ensures
