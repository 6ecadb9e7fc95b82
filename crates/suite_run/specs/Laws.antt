-- What holds of all worlds and lines (this project's own).
use Rattle.std.specs.Prelude.{◌≡◌, ℕ, ◌+◌, List, ◌∷◌, ◌++◌, length, IsTrue}
use Rattle.suite_run.specs.declared.item.Item.TheVariants.{Blank}
use Rattle.command_words.specs.declared.command.Command.{Command}
use Rattle.suite_run.specs.Blocks.{world_after, shown, blocks}
use Rattle.run_machine.specs.Laws.{IsSound}
use Rattle.run_machine.specs.Machine.{WorldData, first_world}
use Rattle.suite_run.specs.World.{item_of, is_refusal, outcome, happens}

abbrev pub IsRefused : WorldData → List ℕ → Type 0
IsRefused w line = IsTrue (is_refusal (outcome w line))

-- the same blocks stand before and after the block of a refused line and where a blank line stands in its place
pub record SameBlocks (command : Command) (number : ℕ) (w : WorldData) (before : List (List ℕ)) (line blank : List ℕ) (after : List (List ℕ)) : Type 0 where
  pub front : List ℕ
  pub back : List ℕ
  pub refused : blocks command number w (before ++ line ∷ after) ≡ front ++ (shown command (record { number = number + length before; outcome = outcome (world_after w before) line }) ++ back)
  pub without : blocks command number w (before ++ blank ∷ after) ≡ front ++ back

-- a refused line leaves the world as it was
abbrev pub RefusedLinesChangeNothing : Type 0
RefusedLinesChangeNothing = (w : WorldData) (line : List ℕ) → IsRefused w line → happens w line ≡ w

-- so the blocks of all other lines are those that come where a blank line stands in its place
abbrev pub RefusedLinesAreAsBlank : Type 0
RefusedLinesAreAsBlank =
    (command : Command) (number : ℕ) (w : WorldData) (before : List (List ℕ)) (line blank : List ℕ) (after : List (List ℕ)) →
    IsRefused (world_after w before) line → item_of blank ≡ Blank → SameBlocks command number w before line blank after

-- whatever the lines, the world is sound: each map is what belongs on its stream at its revision, and verdicts at one revision
-- are the policies' own
abbrev pub LinesLeadToSoundWorlds : Type 0
LinesLeadToSoundWorlds = (ring : ℕ) (lines : List (List ℕ)) → IsSound (world_after (first_world ring) lines)
