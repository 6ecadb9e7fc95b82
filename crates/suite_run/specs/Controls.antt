-- What a control line makes of a run whose nodes are fixed.
use Rattle.std.specs.Prelude.{◌≡◌, ℕ, List, Bool, true, Option, Some, None, if◌then◌else◌, Result, Ok, Err, IfOk}
use Rattle.cl_types.specs.declared.stream.Rev.{Rev}
use Rattle.ctl_core.specs.declared.outcome.RejoinFault.{RejoinFault}
use Rattle.ctl_core.specs.declared.outcome.RejoinFault.TheVariants as fault
use Rattle.suite_run.specs.declared.item.Item.{Item}
use Rattle.line_refusals.specs.declared.refusal.Refusal.TheVariants.{NotCut, Full}
use Rattle.suite_run.specs.declared.world.LineOutcome.{LineOutcome}
use Rattle.run_machine.specs.Machine.{SiteData, WorldData}
use Rattle.suite_run.specs.Doing.{is_listed}
use Rattle.suite_run.specs.RunState.{RunData, Stands}
use Rattle.suite_run.specs.Shown.{IsWorld, Shows, outcome_of}
use Rattle.suite_run.specs.declared.take.Taken.{Taken}
use Rattle.suite_run.specs.declared.world.World.{World}
use Rattle.suite_run.specs.World.{OutcomeData, Step, step, refused, rejoined}

-- a step of the machine led to the run, and this is told of it
pub record IsRunStep (step : Step) (run : RunData) (said : LineOutcome) : Type 0 where
  pub stands : Stands run step.world
  pub told : outcome_of said ≡ step.outcome

abbrev pub RunMakes : Item → RunData → RunData → LineOutcome → Type 0
RunMakes item old new said = (w : WorldData) → Stands old w → IsRunStep (step w item) new said

-- what is told of a stream that is to begin again, as far as memory went
abbrev pub TellsRejoined : Result Rev RejoinFault → OutcomeData → Type 0
TellsRejoined (Ok rev) told = told ≡ rejoined rev.0
TellsRejoined (Err fault.NotCut) told = told ≡ refused NotCut
TellsRejoined (Err fault.Full) told = told ≡ refused Full
TellsRejoined (Err fault.NoMemory) told = ⊥

-- whether all nodes are meant, or one that has a site
abbrev pub is_served : Option (List ℕ) → List SiteData → Bool
is_served None sites = true
is_served (Some node) sites = is_listed node sites

-- The item was taken as what the line with this number says, as far as memory went.
abbrev pub TakesItem : {E : Type 0} → ℕ → Item → World → Result Taken E → Type 0
TakesItem number item world result = (w : WorldData) → IsWorld world w → IfOk result (λ t. Shows number (step w item) t.world t.block)
