-- The orders in which the parts of a rule are listed: total, and Equal of equal values alone (this project's own).
use Rattle.std.proofs.Common.{◌≡◌, refl}
use Rattle.std.specs.declared.cmp.Ordering.{Ordering}
use Rattle.std.specs.declared.cmp.Ordering.TheVariants.{Equal}
use Rattle.std.specs.Ordering.{ordering_then, nat_cmp}
use Rattle.std.specs.Cmp.{IsTotalOrder}
use Rattle.std.specs.FinMap.{IsAntisymmetric, nat_cmp-IsAntisymmetric}
use Rattle.std.proofs.lemmas.Cmp.{on_total, then_total, nat_cmp_total}
use Rattle.cl_types.specs.Addr.{addr_order, addr_order_total}
use Rattle.cl_types.specs.OrderLaws.{both_equal, addr_order_exact}
use Rattle.cl_types.specs.Prefix.{PrefixData}
use Rattle.cluster_types.specs.Pod.{proto_place}
use Rattle.watch_streams.specs.MemberOrder.{proto_exact}
use Rattle.watch_streams.specs.declared.rule_changes.Resolved.{Resolved}

-- by address, then by protocol and port
abbrev pub resolved_order : Resolved → Resolved → Ordering
resolved_order a b =
    ordering_then (ordering_then (addr_order a.address b.address) (nat_cmp (proto_place a.proto) (proto_place b.proto))) (nat_cmp a.port b.port)

pub resolved_order_total : IsTotalOrder resolved_order
resolved_order_total =
    then_total
    (then_total (on_total (λ (r : Resolved). r.address) addr_order_total) (on_total (λ (r : Resolved). proto_place r.proto) nat_cmp_total))
    (on_total (λ (r : Resolved). r.port) nat_cmp_total)

pub resolved_order_exact : IsAntisymmetric resolved_order
resolved_order_exact a b e =
    let parts = both_equal (ordering_then (addr_order a.address b.address) (nat_cmp (proto_place a.proto) (proto_place b.proto))) (nat_cmp a.port b.port) e in
    let firsts = both_equal (addr_order a.address b.address) (nat_cmp (proto_place a.proto) (proto_place b.proto)) parts.0 in
    let address = addr_order_exact a.address b.address firsts.0 in
    let proto = proto_exact a.proto b.proto (nat_cmp-IsAntisymmetric (proto_place a.proto) (proto_place b.proto) firsts.1) in
    let port = nat_cmp-IsAntisymmetric a.port b.port parts.1 in
    (λ i. record { address = address i; proto = proto i; port = port i })

-- blocks by base, then by length
abbrev pub block_order : PrefixData → PrefixData → Ordering
block_order a b = ordering_then (addr_order a.base b.base) (nat_cmp a.len b.len)

pub block_order_total : IsTotalOrder block_order
block_order_total = then_total (on_total (λ (b : PrefixData). b.base) addr_order_total) (on_total (λ (b : PrefixData). b.len) nat_cmp_total)

pub block_order_exact : IsAntisymmetric block_order
block_order_exact a b e =
    let parts = both_equal (addr_order a.base b.base) (nat_cmp a.len b.len) e in
    let base = addr_order_exact a.base b.base parts.0 in
    let len = nat_cmp-IsAntisymmetric a.len b.len parts.1 in
    (λ i. record { base = base i; len = len i })
