-- A line that is taken, by what was told of it.
use Rattle.std.proofs.Common.{◌≡◌, ◌∙◌, ℕ, Bool, true, false, if◌then◌else◌, Result, refl, sym, ap, subst}
use Rattle.run_machine.specs.Lines.{LineData, after_line, quiet}
use Rattle.run_machine.specs.Machine.{WorldData}
use Rattle.suite_run.specs.Blocks.{block_text}
use Rattle.suite_run.specs.Controls.{TakesItem}
use Rattle.suite_run.specs.Shown.{IsReady, IsStep, IsWorld, Makes, Shows, outcome_of}
use Rattle.suite_run.specs.World.{Step, is_refusal, line_of, step, told_of_item}
use Rattle.suite_run.specs.declared.blocks.LineBlock.{LineBlock}
use Rattle.suite_run.specs.declared.item.Item.{Item}
use Rattle.suite_run.specs.declared.take.Taken.{Taken}
use Rattle.suite_run.specs.declared.world.LineOutcome.{LineOutcome}
use Rattle.suite_run.specs.declared.world.World.{World}
use Rattle.suite_run.proofs.ControlSteps.{step_is}

-- the block of what is told is the step's
pub shown : (item : Item) (old new : World) (said : LineOutcome) (number : ℕ) (block : LineBlock) → Makes item old new said → block.text ≡ block_text number (outcome_of said)
    → block.refusal ≡ is_refusal (outcome_of said) → (w : WorldData) → IsWorld old w → Shows number (step w item) new block
shown item old new said number block makes text refusal w st =
    let s = makes w st in
    record { ready = s.ready; world_is = s.world_is; text = text ∙ ap (block_text number) s.told; refusal = refusal ∙ ap is_refusal s.told }

-- nothing but that is done
pub told_alone : (item : Item) (world : World) (said : LineOutcome) → IsReady world → line_of item ≡ quiet → ((w : WorldData) → told_of_item w item ≡ outcome_of said) → Makes item world world said
told_alone item world said ready none told w st =
    subst (λ (z : Step). IsStep z world said) (sym (step_is w item (outcome_of said) (told w)))
    (record { ready = ready; world_is = subst (IsWorld world) (sym (stays (is_refusal (outcome_of said)))) st; told = refl })
  where
    stays : (b : Bool) → (if b then w else after_line (line_of item) w) ≡ w
    stays true = refl
    stays false = ap (λ (line : LineData). after_line line w) none

-- an item is taken as what it is
pub takes_same : {E : Type 0} (number : ℕ) (item same : Item) (world : World) (result : Result Taken E) → item ≡ same → TakesItem number same world result → TakesItem number item world result
takes_same number item same world result is takes = subst (λ (i : Item). TakesItem number i world result) (sym is) takes
