-- Lists that ascend by a key of what a function makes of their items.
use Rattle.std.proofs.Common.{◌≡◌, List, [], ◌∷◌, map, sym, subst}
use Rattle.std.specs.declared.cmp.Ordering.{Ordering}
use Rattle.std.specs.declared.cmp.Ordering.TheVariants.{Less}
use Rattle.cl_types.specs.declared.addr.Addr.{Addr}
use Rattle.cl_types.specs.Addr.{addr_order}
use Rattle.cl_types.specs.Ascending.{Ascends, sorted_set}
use Rattle.watch_streams.specs.OneOfAll.{all_map}

module _ {A T K : Type 0} (f : A → T) (key : T → K) (cmp : K → K → Ordering) where
  pub ascends_map : (xs : List A) → Ascends (λ x. key (f x)) cmp xs → Ascends key cmp (map f xs)
  ascends_map [] up = tt
  ascends_map (x ∷ xs) up = (all_map (λ y. cmp (key (f x)) (key y) ≡ Less) f xs up.0, ascends_map xs up.1)

-- what is made of a set of addresses ascends by them
pub ascends_made : {T : Type 0} (f : Addr → T) (key : T → Addr) (xs : List Addr) (ys : List T) → ys ≡ map f (sorted_set addr_order xs) → Ascends (λ a. key (f a)) addr_order (sorted_set addr_order xs) → Ascends key addr_order ys
ascends_made {T = T} f key xs ys are up =
    let P : List T → Type 0 = Ascends key addr_order in subst P (sym are) (ascends_map f key addr_order (sorted_set addr_order xs) up)
