-- The tests of equality hold exactly where the two are one.
use Rattle.std.proofs.Common.{◌≡◌, Bool, true, false, ◌&&◌, refl, ap, sym, subst, ◌↔◌, arith, IsTrue}
use base.Stored.{Gv, gnil, gnum, gcons, Coded}
use Rattle.std.proofs.lemmas.Bool.Decides.{nat_tests}
use Rattle.cl_types.specs.Equality.{stored_eq, is_same}

both : (p q : Bool) → p && q ≡ true → (p ≡ true) × (q ≡ true)
both true q h = (refl, h)
both false q h = cc

stored_eq-itself : (a : Gv) → stored_eq a a ≡ true
stored_eq-itself gnil = refl
stored_eq-itself (gnum n) = grind (arith, nat_tests)
stored_eq-itself (gcons a b) = grind (arith, nat_tests, stored_eq-itself a, stored_eq-itself b)

stored_eq-one : (a b : Gv) → stored_eq a b ≡ true → a ≡ b
stored_eq-one gnil gnil h = refl
stored_eq-one gnil (gnum m) h = cc
stored_eq-one gnil (gcons c d) h = cc
stored_eq-one (gnum n) gnil h = cc
stored_eq-one (gnum n) (gnum m) h = let e : n ≡ m = grind (arith, nat_tests) in ap gnum e
stored_eq-one (gnum n) (gcons c d) h = cc
stored_eq-one (gcons a b) gnil h = cc
stored_eq-one (gcons a b) (gnum m) h = cc
stored_eq-one (gcons a b) (gcons c d) h =
    let parts = both (stored_eq a c) (stored_eq b d) h in
    let first = stored_eq-one a c parts.0 in
    let second = stored_eq-one b d parts.1 in
    cc

pub is_same-itself : {T : Type 0} (coded : Coded T) (x : T) → is_same coded x x ≡ true
unfolding is_same
is_same-itself coded x = stored_eq-itself (coded.code x)

pub is_same-one : {T : Type 0} (coded : Coded T) (x y : T) → is_same coded x y ≡ true → x ≡ y
unfolding is_same
is_same-one coded x y h = coded.inj x y (stored_eq-one _ _ h)

-- a test that holds exactly where the two are one answers as this one does
pub is_same-decided : {T : Type 0} (coded : Coded T) (x y : T) (b : Bool) → (IsTrue b ↔ (x ≡ y)) → b ≡ is_same coded x y
is_same-decided coded x y true one = sym (subst (λ z. is_same coded x z ≡ true) (one.0 refl) (is_same-itself coded x))
is_same-decided coded x y false one = decided (is_same coded x y) refl
  where
    decided : (r : Bool) → is_same coded x y ≡ r → false ≡ r
    decided true is = one.1 (is_same-one coded x y is)
    decided false is = refl
