-- Refused lines and blank lines leave the world as it was.
use Rattle.std.proofs.Common.{◌≡◌, ℕ, ◌+◌, Bool, true, false, IsTrue, List, [], ◌∷◌, ◌++◌, length, refl, ap, ◌∙◌, if◌then◌else◌}
use Rattle.command_words.specs.declared.command.Command.{Command}
use Rattle.command_words.specs.declared.command.Command.TheVariants.{Check, Replay}
use Rattle.run_machine.specs.Lines.{after_line}
use Rattle.run_machine.specs.Machine.{WorldData}
use Rattle.suite_run.specs.declared.item.Item.{Item}
use Rattle.suite_run.specs.declared.item.Item.TheVariants.{Blank}
use Rattle.suite_run.specs.Blocks.{block_text, world_after, shown, blocks}
use Rattle.suite_run.specs.Laws.{RefusedLinesChangeNothing, RefusedLinesAreAsBlank}
use Rattle.suite_run.specs.World.{step, line_of, item_of, is_refusal, told_of_item, outcome, happens}
use Rattle.suite_run.proofs.Wholes.{told_at, blocks-append}

stays_if : (b : Bool) (w new : WorldData) → IsTrue b → (if b then w else new) ≡ w
stays_if true w new is = refl
stays_if false w new is = cc

refused-step : (w : WorldData) (item : Item) → IsTrue (is_refusal (step w item).outcome) → (step w item).world ≡ w
unfolding step
refused-step w item is = stays_if (is_refusal (told_of_item w item)) w (after_line (line_of item) w) is

pub refused_lines : RefusedLinesChangeNothing
refused_lines w line h = refused-step w (item_of line) h

blank-step : (command : Command) (w : WorldData) (n : ℕ) → ((step w Blank).world ≡ w) × (shown command (told_at n (step w Blank).outcome) ≡ [])
unfolding step block_text
blank-step (Check files) w n = (refl, refl)
blank-step (Replay ring files) w n = (refl, refl)

pub refused_as_blank : RefusedLinesAreAsBlank
refused_as_blank command number w before line blank after h b =
    let here = world_after w before in
    let n = number + length before in
    let kept : happens here line ≡ here = refused_lines here line h in
    let e = blank-step command here n in
    let blank_world : happens here blank ≡ here = ap (λ s. (step here s).world) b ∙ e.0 in
    let blank_text : shown command (told_at n (outcome here blank)) ≡ [] = ap (λ s. shown command (told_at n (step here s).outcome)) b ∙ e.1 in
    record {
      front = blocks command number w before;
      back = blocks command (n + 1) here after;
      refused = blocks-append command number w before (line ∷ after) ∙ ap (λ z. blocks command number w before ++ (shown command (told_at n (outcome here line)) ++ blocks command (n + 1) z after)) kept;
      without = blocks-append command number w before (blank ∷ after) ∙ (ap (λ z. blocks command number w before ++ (z ++ blocks command (n + 1) (happens here blank) after)) blank_text ∙ ap (λ z. blocks command number w before ++ blocks command (n + 1) z after) blank_world);
    }
