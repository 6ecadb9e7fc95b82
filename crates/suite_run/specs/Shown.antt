-- What is told of a line, as the code has it, and how the code's world is the machine's.
use Rattle.std.specs.Prelude.{◌≡◌, ℕ, ◌≤◌, List, [], ◌∷◌, map, length, Bool, true, false, if◌then◌else◌, Result, Ok, Err}
use Rattle.cl_types.specs.declared.stream.Rev.{Rev}
use Rattle.command_words.specs.declared.command.Command.{Command}
use Rattle.cluster_objects.specs.declared.change.ClusterRefusal.{ClusterRefusal}
use Rattle.cluster_objects.specs.declared.change.ClusterRefusal.TheVariants.{NoMemory}
use Rattle.cluster_objects.specs.Changes.{Outcomes}
use Rattle.cluster_types.specs.Cluster.{ClusterData}
use Rattle.cl_types.specs.Judgement.{judgement_of}
use Rattle.ctl_core.specs.declared.outcome.Outcome.{Outcome}
use Rattle.ctl_core.specs.declared.outcome.Outcome.TheVariants.{Revision, Unchanged}
use Rattle.run_machine.specs.Machine.{OfStreams, WorldData}
use Rattle.suite_run.specs.declared.fixing.Early.{Early}
use Rattle.suite_run.specs.declared.fixing.Early.TheVariants.{Bare, Fixed}
use Rattle.suite_run.specs.declared.fixing.First.{First}
use Rattle.line_refusals.specs.declared.refusal.Refusal.TheVariants.{Applying}
use Rattle.suite_run.specs.declared.world.LineOutcome.{LineOutcome}
use Rattle.suite_run.specs.declared.world.LineOutcome.TheVariants as outcome
use Rattle.suite_run.specs.declared.blocks.LineBlock.{LineBlock}
use Rattle.suite_run.specs.declared.world.World.{World}
use Rattle.suite_run.specs.Blocks.{block_text, shows}
use Rattle.suite_run.specs.Changing.{stream_told}
use Rattle.suite_run.specs.Fixing.{StandsFor, cluster_of}
use Rattle.suite_run.specs.declared.world.Differences.{Differences}
use Rattle.suite_run.specs.declared.item.Item.{Item}
use Rattle.suite_run.specs.World.{OutcomeData, Step, step, is_refusal, silent, revision, node_count, no_change, passed_over, refused, judged, answered, delivered, was_cut, rejoined, settled}

-- ---- what is told

-- the revisions of the streams, in their order
abbrev pub three : List Rev → OfStreams ℕ
three (p ∷ a ∷ g ∷ more) = record { policies = p.0; addresses = a.0; applied = g.0 }
three _ = record { policies = 0; addresses = 0; applied = 0 }

-- the same without where a rule lies in memory
abbrev pub outcome_of : LineOutcome → OutcomeData
outcome_of outcome.Silent = silent
outcome_of (outcome.Revision r cut) = revision r (map stream_told cut)
outcome_of (outcome.Nodes k) = node_count k
outcome_of outcome.Unchanged = no_change
outcome_of (outcome.Ignored kind) = passed_over kind
outcome_of (outcome.Refused r) = refused r
outcome_of (outcome.Controller r j) = judged r (judgement_of j)
outcome_of (outcome.Held node r j) = answered node (three r) (judgement_of j)
outcome_of (outcome.Delivered k) = delivered k
outcome_of outcome.Cut = was_cut
outcome_of (outcome.Rejoined r) = rejoined r
outcome_of (outcome.Settled r) = settled r

-- the nodes are counted where one was changed
abbrev pub counted : ClusterData → Bool → OutcomeData
counted c node = if node then node_count (length c.nodes) else no_change

abbrev pub first_told : First → OutcomeData
first_told first = if first.other then revision 1 [] else counted (cluster_of first.early) first.node

-- What calls that make changes answered is what the changes come to, as far as memory went.
abbrev pub ComesTo : Result Outcomes ClusterRefusal → Result Differences ClusterRefusal → ClusterData → Type 0
ComesTo outcomes (Ok made) new = outcomes ≡ Ok (record { cluster = new; node_changed = made.node; other_changed = made.other })
ComesTo outcomes (Err NoMemory) new = Unit {0}
ComesTo outcomes (Err refusal) new = outcomes ≡ Err refusal

-- the refusal is told, which isn't that memory ran out
abbrev pub IsTold : ClusterRefusal → LineOutcome → Type 0
IsTold NoMemory told = ⊥
IsTold refusal told = outcome_of told ≡ refused (Applying refusal)

-- what is told of a line that a run took
abbrev pub IsAnswerTold : Result Outcome ClusterRefusal → LineOutcome → Type 0
IsAnswerTold (Ok (Revision rev cut)) told = outcome_of told ≡ revision rev.0 (map stream_told cut)
IsAnswerTold (Ok Unchanged) told = outcome_of told ≡ no_change
IsAnswerTold (Err refusal) told = IsTold refusal told

-- ---- worlds

abbrev pub IsEarly : Early → Type 0
IsEarly (Bare c) = c.cluster.fixed ≡ false
IsEarly (Fixed run) = Unit {0}

-- a stream has from 1 to 4096 places, and the nodes of a bare cluster aren't fixed
pub record IsReady (world : World) : Type 0 where
  pub some : 1 ≤ world.ring
  pub most : world.ring ≤ 4096
  pub bare : IsEarly world.early

-- the world is that of the machine
abbrev pub IsWorld : World → WorldData → Type 0
IsWorld world w = StandsFor world.ring world.early w

-- a step of the machine led to the world, and this is told of it
pub record IsStep (step : Step) (after : World) (said : LineOutcome) : Type 0 where
  pub ready : IsReady after
  pub world_is : IsWorld after step.world
  pub told : outcome_of said ≡ step.outcome

abbrev pub Makes : Item → World → World → LineOutcome → Type 0
Makes item old new said = (w : WorldData) → IsWorld old w → IsStep (step w item) new said

-- a step of the machine led to the world, and its block was made
pub record Shows (number : ℕ) (step : Step) (world : World) (block : LineBlock) : Type 0 where
  pub ready : IsReady world
  pub world_is : IsWorld world step.world
  pub text : block.text ≡ block_text number step.outcome
  pub refusal : block.refusal ≡ is_refusal step.outcome

-- what a command writes of a line's block
abbrev pub part_of : Command → LineBlock → List ℕ
part_of command block = if shows command block.refusal then block.text else []
