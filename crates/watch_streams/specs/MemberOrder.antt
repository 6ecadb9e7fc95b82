-- The order of members is total and exact, and so is that of texts.
use Rattle.std.proofs.Common.{◌≡◌, ℕ, List, eqb, if◌then◌else◌, refl, sym, ap, ◌∙◌}
use Rattle.std.specs.declared.cmp.Ordering.TheVariants.{Equal}
use Rattle.std.specs.Ordering.{nat_cmp}
use Rattle.std.specs.Cmp.{IsTotalOrder}
use Rattle.std.specs.Cmp.Lexicographic.{slice_cmp}
use Rattle.std.specs.FinMap.{IsAntisymmetric, nat_cmp-IsAntisymmetric, slice_cmp-IsAntisymmetric}
use Rattle.std.proofs.lemmas.Cmp.{on_total, then_total, nat_cmp_total, nat_list_cmp_total, lists_total}
use Rattle.cl_types.specs.declared.addr.Addr.{Addr}
use Rattle.cl_types.specs.declared.service.NamedPort.{NamedPort}
use Rattle.cl_types.specs.declared.service.Proto.{Proto}
use Rattle.cl_types.specs.declared.service.Proto.TheVariants.{Tcp, Udp, Sctp, Icmp}
use Rattle.cl_types.specs.Ascending.{Ascends}
use Rattle.cl_types.specs.AscendingLaws.{ascends_sorted}
use Rattle.cl_types.specs.OrderLaws.{both_equal, text_order_exact}
use Rattle.cl_types.specs.Addr.{addr_order, addr_order_total}
use Rattle.cluster_types.specs.Pod.{port_order, proto_place}
use Rattle.watch_streams.specs.Net.{MemberData, member_order, numbered_port_order, ascending_members}

pub proto_exact : (a b : Proto) → proto_place a ≡ proto_place b → a ≡ b
proto_exact a b e = sym (back a) ∙ ap proto_at e ∙ back b
  where
    proto_at : ℕ → Proto
    proto_at n = if eqb n 0 then Tcp else (if eqb n 1 then Udp else (if eqb n 2 then Sctp else Icmp))

    back : (p : Proto) → proto_at (proto_place p) ≡ p
    back Tcp = refl
    back Udp = refl
    back Sctp = refl
    back Icmp = refl

port_exact : IsAntisymmetric numbered_port_order
port_exact a b e =
    let parts = both_equal (port_order a b) (nat_cmp a.port b.port) e in
    let names = both_equal (slice_cmp nat_cmp a.name b.name) (nat_cmp (proto_place a.proto) (proto_place b.proto)) parts.0 in
    let name = text_order_exact a.name b.name names.0 in
    let proto = proto_exact a.proto b.proto (nat_cmp-IsAntisymmetric (proto_place a.proto) (proto_place b.proto) names.1) in
    let port = nat_cmp-IsAntisymmetric a.port b.port parts.1 in
    (λ i. record { name = name i; proto = proto i; port = port i })

port_order_total : IsTotalOrder port_order
port_order_total = then_total (on_total (λ (p : NamedPort). p.name) nat_list_cmp_total) (on_total (λ (p : NamedPort). proto_place p.proto) nat_cmp_total)

numbered_port_order_total : IsTotalOrder numbered_port_order
numbered_port_order_total = then_total port_order_total (on_total (λ (p : NamedPort). p.port) nat_cmp_total)

pub member_order_total : IsTotalOrder member_order
member_order_total =
    then_total (on_total (λ (m : MemberData). m.address) addr_order_total) (on_total (λ (m : MemberData). m.ports) (lists_total numbered_port_order_total))

pub member_exact : ((a b : Addr) → addr_order a b ≡ Equal → a ≡ b) → IsAntisymmetric member_order
member_exact addr_exact a b e =
    let parts = both_equal (addr_order a.address b.address) (slice_cmp numbered_port_order a.ports b.ports) e in
    let address = addr_exact a.address b.address parts.0 in
    let ports = slice_cmp-IsAntisymmetric port_exact a.ports b.ports parts.1 in
    (λ i. record { address = address i; ports = ports i })

-- members as a set ascend
pub ascends_members : (ms : List MemberData) → Ascends (λ m. m) member_order (ascending_members ms)
ascends_members = ascends_sorted (λ m. m) member_order_total
