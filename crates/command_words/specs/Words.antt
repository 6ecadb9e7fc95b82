-- Which command words mean (this project's own; how options and values stand among words is that of getopt_long(3)).
use Rattle.std.specs.Prelude.{◌≡◌, ◌≤◌, Bool, true, false, ℕ, List, [], ◌∷◌, Option, Some, None, codes, pos, if◌then◌else◌, unwrap_or, Result, Ok, Err}
use Rattle.std.specs.Str.Parse.{digits_value, without_leading_plus}
use Rattle.cl_types.specs.Text.{text_eq}
use Rattle.clap.specs.Words.{App, Row, Rule, all_of, fault_of, matches_of, new_app, new_rule, one_of, with_rule}
use Rattle.clap.specs.declared.builder.action.ArgAction.TheVariants.{Append}
use Rattle.clap.specs.declared.builder.value_parser.ValueParser.TheVariants.{Signed}
use Rattle.clap.specs.declared.error.kind.ErrorKind.{ErrorKind}
use Rattle.command_words.specs.declared.command.Command.{Command}
use Rattle.command_words.specs.declared.command.Command.TheVariants.{Check, Replay}
use Rattle.command_words.specs.declared.command.WordsFault.{WordsFault}
use Rattle.command_words.specs.declared.command.WordsFault.TheVariants.{BadWords, NoMemory}

-- at least one file
abbrev pub files_rule : Rule
files_rule = record (new_rule (codes "file")) { action = Some Append; required = true }

-- `--ring` and a whole number from 1 to 4096, which is 256 where it isn't given
abbrev pub ring_rule : Rule
ring_rule = record (new_rule (codes "ring")) { long = Some (codes "ring"); parser = Some (Signed (pos 1) (pos 4096)); defaults = codes "256" ∷ [] }

-- check FILE...
abbrev pub check_app : App
check_app = with_rule (new_app (codes "check")) files_rule

-- replay [--ring N] FILE...
abbrev pub replay_app : App
replay_app = with_rule (with_rule (new_app (codes "replay")) ring_rule) files_rule

abbrev pub files_in : List Row → List (List ℕ)
files_in rows = unwrap_or (all_of (codes "file") rows) []

abbrev pub ring_in : List Row → ℕ
ring_in rows = digits_value 10 (without_leading_plus (unwrap_or (one_of (codes "ring") rows) []))

abbrev pub are_none : List ErrorKind → Bool
are_none [] = true
are_none (fault ∷ faults) = false

-- the words are of the form of the command
abbrev pub are_taken : App → List (List ℕ) → Bool
are_taken app words = are_none (fault_of app words)

abbrev pub check_of : List (List ℕ) → Option Command
check_of words = if are_taken check_app words then Some (Check (files_in (matches_of check_app words))) else None

abbrev pub replay_of : List (List ℕ) → Option Command
replay_of words =
    if are_taken replay_app words
    then Some (Replay (ring_in (matches_of replay_app words)) (files_in (matches_of replay_app words)))
    else None

-- the command that the words after the program's name mean
unfoldable pub words_mean : List (List ℕ) → Option Command
words_mean [] = None
words_mean (name ∷ words) =
    if text_eq name (codes "check") then check_of (name ∷ words)
    else if text_eq name (codes "replay") then replay_of (name ∷ words) else None

-- words are read as what they mean, as far as memory goes
abbrev pub Reads : Option Command → Result Command WordsFault → Type 0
Reads meant (Ok command) = meant ≡ Some command
Reads meant (Err BadWords) = meant ≡ None
Reads meant (Err NoMemory) = Unit {0}

-- a stream has from 1 to 4096 places
abbrev pub IsRing : ℕ → Type 0
IsRing places = (1 ≤ places) × (places ≤ 4096)

abbrev pub HasRing : Command → Type 0
HasRing (Check files) = Unit {0}
HasRing (Replay ring files) = IsRing ring

abbrev pub no_memory : WordsFault
no_memory = NoMemory
