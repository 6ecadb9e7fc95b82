-- When the test says that two addresses are equal.
use Rattle.std.specs.Prelude.{◌≡◌, ℕ, ◌<◌, refl, Bool, true, false, cond}
use Rattle.std.specs.declared.cmp.Ordering.TheVariants.{Less, Equal, Greater}
use Rattle.std.specs.Ordering.{eq_by_cmp, nat_cmp, is_eq}
use Rattle.std.specs.Cmp.{IsEquivalence}
use Rattle.std.proofs.Common.{subst, sym, ap, eqb, ltb}
use Rattle.std.proofs.lemmas.Cmp.{eq_by_cmp_equiv}
use Rattle.std.proofs.lemmas.Bool.{eqb-true, ltb-true}
use Rattle.std.proofs.Math.Nat.{lt_irrefl}
use Rattle.cl_types.specs.declared.addr.Addr.{Addr}
use Rattle.cl_types.specs.declared.addr.Addr.TheVariants.{V4, V6}
use Rattle.cl_types.specs.Addr.{addr_eq, addr_order, addr_order_total}

by_tests : (m n : ℕ) (less same : Bool) → ltb m n ≡ less → eqb m n ≡ same → same ≡ is_eq (cond less Less (cond same Equal Greater))
by_tests m n true true l e = absurd (lt_irrefl n (subst (λ k. k < n) (eqb-true m n e) (ltb-true m n l)))
by_tests m n true false l e = refl
by_tests m n false true l e = refl
by_tests m n false false l e = refl

nat_tie : (m n : ℕ) → eqb m n ≡ is_eq (nat_cmp m n)
nat_tie m n = by_tests m n (ltb m n) (eqb m n) refl refl

-- addresses are equal exactly where their order says so
pub addr_eq_by_order : (a b : Addr) → addr_eq a b ≡ eq_by_cmp addr_order a b
addr_eq_by_order (V4 m) (V4 n) = nat_tie m n
addr_eq_by_order (V4 m) (V6 n) = refl
addr_eq_by_order (V6 m) (V4 n) = refl
addr_eq_by_order (V6 m) (V6 n) = nat_tie m n

pub addr_eq_equiv : IsEquivalence addr_eq
addr_eq_equiv =
    let same : eq_by_cmp addr_order ≡ addr_eq = (λ i a b. sym (addr_eq_by_order a b) i) in
    subst (λ (e : Addr → Addr → Bool). IsEquivalence e) same (eq_by_cmp_equiv addr_order_total)

pub addr_eq-itself : (a : Addr) → addr_eq a a ≡ true
addr_eq-itself a = addr_eq_equiv.refl a

pub addr_eq-one : (a b : Addr) → addr_eq a b ≡ true → a ≡ b
addr_eq-one (V4 m) (V4 n) e = ap V4 (eqb-true m n e)
addr_eq-one (V4 m) (V6 n) e = cc
addr_eq-one (V6 m) (V4 n) e = cc
addr_eq-one (V6 m) (V6 n) e = ap V6 (eqb-true m n e)
