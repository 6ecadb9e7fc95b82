-- The test of tuples holds exactly where the two are one.
use Rattle.std.proofs.Common.{◌≡◌, ℕ, Bool, true, false, ◌&&◌, refl, ap, sym, subst, arith, ◌==◌}
use Rattle.std.proofs.lemmas.Bool.Decides.{nat_tests}
use Rattle.std.specs.Cmp.{IsEquivalence}
use Rattle.cl_types.specs.declared.addr.Addr.{Addr}
use Rattle.cl_types.specs.declared.addr.Addr.TheVariants.{V4, V6}
use Rattle.cl_types.specs.declared.service.Proto.{Proto}
use Rattle.cl_types.specs.declared.service.Proto.TheVariants.{Tcp, Udp, Sctp, Icmp}
use Rattle.cl_types.specs.Addr.{addr_eq}
use Rattle.cl_types.specs.Proto.{proto_eq}
use Rattle.flow_pipeline.specs.declared.conns.Tuple.{Tuple}
use Rattle.flow_pipeline.specs.ConnectionIndex.{tuple_eq}

both : (p q : Bool) → p && q ≡ true → (p ≡ true) × (q ≡ true)
both true q h = (refl, h)
both false q h = cc

addr_one : (a b : Addr) → addr_eq a b ≡ true → a ≡ b
addr_one (V4 m) (V4 n) h = let e : m ≡ n = grind (arith, nat_tests) in ap V4 e
addr_one (V4 m) (V6 n) h = cc
addr_one (V6 m) (V4 n) h = cc
addr_one (V6 m) (V6 n) h = let e : m ≡ n = grind (arith, nat_tests) in ap V6 e

addr_itself : (a : Addr) → addr_eq a a ≡ true
addr_itself (V4 n) = grind (arith, nat_tests)
addr_itself (V6 n) = grind (arith, nat_tests)

proto_one : (a b : Proto) → proto_eq a b ≡ true → a ≡ b
proto_one Tcp Tcp h = refl
proto_one Udp Udp h = refl
proto_one Sctp Sctp h = refl
proto_one Icmp Icmp h = refl
proto_one Tcp Udp h = cc
proto_one Tcp Sctp h = cc
proto_one Tcp Icmp h = cc
proto_one Udp Tcp h = cc
proto_one Udp Sctp h = cc
proto_one Udp Icmp h = cc
proto_one Sctp Tcp h = cc
proto_one Sctp Udp h = cc
proto_one Sctp Icmp h = cc
proto_one Icmp Tcp h = cc
proto_one Icmp Udp h = cc
proto_one Icmp Sctp h = cc

proto_itself : (a : Proto) → proto_eq a a ≡ true
proto_itself Tcp = refl
proto_itself Udp = refl
proto_itself Sctp = refl
proto_itself Icmp = refl

port_one : (m n : ℕ) → (m == n) ≡ true → m ≡ n
port_one m n h = grind (arith, nat_tests)

port_itself : (n : ℕ) → (n == n) ≡ true
port_itself n = grind (arith, nat_tests)

tuple_from : Proto → Addr → Addr → ℕ → ℕ → Tuple
tuple_from proto src dst sport dport = record { proto = proto; src = src; dst = dst; sport = sport; dport = dport }

parts_one : (p p' : Proto) (s s' d d' : Addr) (u u' v v' : ℕ) → p ≡ p' → s ≡ s' → d ≡ d' → u ≡ u' → v ≡ v' → tuple_from p s d u v ≡ tuple_from p' s' d' u' v'
parts_one p p' s s' d d' u u' v v' e f g h i = cc

pub tuple_eq-one : (a b : Tuple) → tuple_eq a b ≡ true → a ≡ b
unfolding tuple_from
tuple_eq-one a b h =
    let dport = both (proto_eq a.proto b.proto && addr_eq a.src b.src && addr_eq a.dst b.dst && (a.sport == b.sport)) (a.dport == b.dport) h in
    let sport = both (proto_eq a.proto b.proto && addr_eq a.src b.src && addr_eq a.dst b.dst) (a.sport == b.sport) dport.0 in
    let dst = both (proto_eq a.proto b.proto && addr_eq a.src b.src) (addr_eq a.dst b.dst) sport.0 in
    let src = both (proto_eq a.proto b.proto) (addr_eq a.src b.src) dst.0 in
    parts_one a.proto b.proto a.src b.src a.dst b.dst a.sport b.sport a.dport b.dport
    (proto_one a.proto b.proto src.0)
    (addr_one a.src b.src src.1)
    (addr_one a.dst b.dst dst.1)
    (port_one a.sport b.sport sport.1)
    (port_one a.dport b.dport dport.1)

pub tuple_eq-itself : (a : Tuple) → tuple_eq a a ≡ true
tuple_eq-itself a = simp (proto_itself, addr_itself, port_itself)

same_test : (p q : Bool) → (p ≡ true → q ≡ true) → (q ≡ true → p ≡ true) → p ≡ q
same_test true q f g = sym (f refl)
same_test false true f g = g refl
same_test false false f g = refl

turned : (a b : Tuple) → tuple_eq a b ≡ true → tuple_eq b a ≡ true
turned a b h = subst (λ (x : Tuple). tuple_eq x a ≡ true) (tuple_eq-one a b h) (tuple_eq-itself a)

pub tuple_eq_equiv : IsEquivalence tuple_eq
tuple_eq_equiv = record {
  refl = tuple_eq-itself;
  symm = λ a b. same_test (tuple_eq a b) (tuple_eq b a) (turned a b) (turned b a);
  congr = λ a b c h. ap (λ x. tuple_eq x c) (tuple_eq-one a b h);
}
