-- What holds of spans, of what each is made into.
use Rattle.std.proofs.Common.{◌≡◌, ◌<◌, List, length, map, get_or, Result, Ok, Err, sym, ap, ◌∙◌, subst, arith}
use Rattle.std.specs.Result.{IfOk}
use Rattle.std.specs.List.{All, Any, AllPairs}
use Rattle.std.proofs.lemmas.List.{get_or-map, get_or_default, length-map}

module _ {X Y : Type 0} (f : X → Y) (xs : List X) where
  pub any_map : (P : X → Type 0) (Q : Y → Type 0) → All (λ x. P x → Q (f x)) xs → Any P xs → Any Q (map f xs)
  any_map P Q step a =
      let at = a.0 in
      let x = a.1 in
      let there : at < length (map f xs) = omega (arith, length-map xs f, a.2) in
      (at, f x, there, get_or-map f xs at x (f x) a.2 ∙ ap f a.3, subst (λ y. P y → Q (f y)) a.3 (step at x a.2) a.4)

  pub any_unmap : (d : X) (P : X → Type 0) (Q : Y → Type 0) → All (λ x. Q (f x) → P x) xs → Any Q (map f xs) → Any P xs
  any_unmap d P Q step a =
      let at = a.0 in
      let inside : at < length xs = omega (arith, length-map xs f, a.2) in
      let x = get_or xs at d in
      let same : a.1 ≡ f x = sym a.3 ∙ get_or-map f xs at d a.1 inside in
      (at, x, inside, get_or_default xs at x d inside, step at d inside (subst Q same a.4))

  pub pairs_map : (d : X) (R : Y → Y → Type 0) → AllPairs (λ x y. R (f x) (f y)) xs → AllPairs R (map f xs)
  pairs_map d R pairs = λ i j e below within.
      let inside : j < length xs = omega (arith, length-map xs f) in
      rw (get_or-map f xs i d e (omega arith), get_or-map f xs j d e inside) (pairs i j d below inside)

-- what holds of a value holds of an answer that is that value
pub made : {X E : Type 0} (r : Result X E) (y : X) (Q : X → Type 0) → Q y → IfOk r (λ x. x ≡ y) → IfOk r Q
made (Ok x) y Q q e = subst Q (sym e) q
made (Err x) y Q q e = e
