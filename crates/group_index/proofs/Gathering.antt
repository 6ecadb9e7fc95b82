-- The members of a list's first pods, and those of the pods that a group contains.
use Rattle.std.proofs.Common.{◌≡◌, List, [], ◌∷◌, ◌++◌, Bool, true, false, map, filter, cond, if◌then◌else◌, refl, ap}
use Rattle.std.specs.List.{flat_map}
use Rattle.label_select.specs.Group.{Group}
use Rattle.cluster_types.specs.Pod.{PodData}
use Rattle.cluster_types.specs.Cluster.{ClusterData}
use Rattle.cluster_types.specs.Groups.{in_group, members_by}
use Rattle.group_index.specs.Members.{member_of, members_if}

flat_kept : {A B : Type 0} (f : A → List B) (k : A → Bool) (xs : List A) → flat_map (λ x. if k x then f x else []) xs ≡ flat_map f (filter k xs)
flat_kept f k [] = refl
flat_kept f k (x ∷ xs) = by_test (k x) (flat_kept f k xs)
  where
    by_test : (b : Bool) → flat_map (λ y. if k y then f y else []) xs ≡ flat_map f (filter k xs)
        → (if b then f x else []) ++ flat_map (λ y. if k y then f y else []) xs ≡ flat_map f (cond b (x ∷ filter k xs) (filter k xs))
    by_test true rest = ap (λ ys. f x ++ ys) rest
    by_test false rest = rest

pub members_if-all : (c : ClusterData) (g : Group) → flat_map (members_if c g) c.pods ≡ members_by member_of c g
members_if-all c g = flat_kept (λ (p : PodData). map (member_of p) p.addresses) (in_group c g) c.pods
