-- A cache as plain data: the node, and what is held (this project's own).
use Rattle.std.specs.Prelude.{ℕ, List}
use Rattle.held_maps.specs.Held.{HeldData, nothing_held}

pub record CacheData : Type 0 where
  pub node : List ℕ
  pub held : HeldData

-- nothing is held at the node
abbrev pub empty_cache : List ℕ → CacheData
empty_cache node = record { node = node; held = nothing_held }
