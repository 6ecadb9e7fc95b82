-- Where nothing stands against a change, none of its checks does.
use Rattle.std.proofs.Common.{◌≡◌, List, [], ◌∷◌, Bool, true, false, ◌||◌, Option, Some, None, option_map, refl}
use Rattle.std.specs.List.{list_any, AllByRecursion}
use Rattle.cluster_objects.specs.declared.change.ClusterRefusal.{ClusterRefusal}
use Rattle.cluster_objects.specs.Refusals.{when, first_refusal}

pub not_when : (b : Bool) (r : ClusterRefusal) → when b r ≡ None → b ≡ false
not_when false r e = refl
not_when true r e = cc

pub map_none : {A B : Type 0} (f : A → B) (o : Option A) → option_map f o ≡ None → o ≡ None
map_none f None e = refl
map_none f (Some x) e = cc

-- the first check, and the later ones
pub none_first : (o : Option ClusterRefusal) (os : List (Option ClusterRefusal)) → first_refusal (o ∷ os) ≡ None → o ≡ None
none_first None os e = refl
none_first (Some r) os e = cc

pub none_later : (o : Option ClusterRefusal) (os : List (Option ClusterRefusal)) → first_refusal (o ∷ os) ≡ None → first_refusal os ≡ None
none_later None os e = e
none_later (Some r) os e = cc

pub neither : (p q : Bool) → p || q ≡ false → (p ≡ false) × (q ≡ false)
neither false q h = (refl, h)
neither true q h = cc

-- where none passes, each doesn't
pub none_passes : {T : Type 0} (p : T → Bool) (xs : List T) → list_any p xs ≡ false → AllByRecursion (λ x. p x ≡ false) xs
none_passes p [] none = tt
none_passes p (x ∷ xs) none =
    let parts = neither (p x) (list_any p xs) none in
    (parts.0, none_passes p xs parts.1)
