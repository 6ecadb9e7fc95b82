-- Rows of objects with their texts that are being edited, with places for more (this project's own).
use Rattle.std.specs.Prelude.{◌≡◌, ℕ, ◌+◌, ◌≤◌, List, [], vec_len, vec_capacity}
use Rattle.held_maps.specs.declared.rows.Rows.{Rows}
use Rattle.held_maps.specs.Shelf.{AreTitles}

-- the texts are those of the objects, and there are places for so many more of both
pub record HasRows {T : Type 0} (title : T → List ℕ) (more : ℕ) (rows : Rows T) : Type 0 where
  pub titles : AreTitles title rows.titles.items rows.objects.items
  pub title_places : vec_len rows.titles + more ≤ vec_capacity rows.titles
  pub object_places : vec_len rows.objects + more ≤ vec_capacity rows.objects

-- there are no rows, and places for so many
pub record IsRoom {T : Type 0} (places : ℕ) (rows : Rows T) : Type 0 where
  pub no_titles : rows.titles.items ≡ []
  pub no_objects : rows.objects.items ≡ []
  pub title_places : places ≤ vec_capacity rows.titles
  pub object_places : places ≤ vec_capacity rows.objects
