-- Objects in the order of their texts, with these texts beside them (this project's own).
use Rattle.std.specs.Prelude.{◌≡◌, ℕ, List, map}
use Rattle.cl_types.specs.Ascending.{Ascends}
use Rattle.cl_types.specs.Text.{text_order}

-- the objects ascend by their texts, none twice, and these are the texts
pub record AreTitles {T : Type 0} (title : T → List ℕ) (titles : List (List ℕ)) (objects : List T) : Type 0 where
  pub same : titles ≡ map title objects
  pub ascend : Ascends title text_order objects
