-- A message that is ready to be taken, as plain data (this project's own).
use Rattle.std.specs.Prelude.{List, Bool}
use Rattle.cl_types.specs.declared.stream.Rev.{Rev}
use Rattle.held_maps.specs.declared.ready.Room.{Room}
use Rattle.held_maps.specs.declared.steps.Step.{Step}

-- the revision to which it leads, whether it replaces the whole map, what is put and removed, and for how many objects there
-- are places
pub record ReadyData : Type 0 where
  pub rev : Rev
  pub whole : Bool
  pub steps : List Step
  pub room : Room
