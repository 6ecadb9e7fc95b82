-- Where flows lead by `Goto`: this project's own rule, by which every walk through the tables ends.
use Rattle.std.specs.Prelude.{◌<◌, All}
use Rattle.flow_entries.specs.declared.table.Table.{Table}
use Rattle.flow_entries.specs.declared.flow.Bundle.{Bundle}
use Rattle.flow_entries.specs.declared.flow.Does.{Does}
use Rattle.flow_entries.specs.declared.flow.Does.TheVariants as does
use Rattle.flow_entries.specs.declared.flow.Flow.{Flow}
use Rattle.flow_entries.specs.Table.{table_place}

-- what the flow does leads to no earlier table by `Goto`, and not to this one again
abbrev pub LeadsForward : Table → Does → Type 0
LeadsForward here (does.Goto there) = table_place here < table_place there
LeadsForward here _ = Unit {0}

abbrev pub GoesForward : Flow → Type 0
GoesForward f = LeadsForward f.table f.does

-- each Goto of the new flows leads to a later table
pub record IsForward (b : Bundle) : Type 0 where
  pub changed : All GoesForward b.changed
  pub added : All GoesForward b.added
