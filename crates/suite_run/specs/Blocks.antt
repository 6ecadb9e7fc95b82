-- The text that is printed of each line (this project's own).
use Rattle.std.specs.Prelude.{ℕ, ◌+◌, List, [], ◌∷◌, ◌++◌, length, Bool, true, false, nat_lt, codes, if◌then◌else◌}
use Rattle.std.specs.List.{flat_map}
use Rattle.std.specs.Fmt.{decimal}
use Rattle.cl_io.specs.Files.{Entry}
use Rattle.cl_io.specs.Lines.{line_feed, whole_lines}
use Rattle.cl_types.specs.declared.stream.Stream.{Stream}
use Rattle.cl_types.specs.declared.stream.Stream.TheVariants.{Policies, Addresses, Applied}
use Rattle.cl_types.specs.Written.{judged_text}
use Rattle.command_words.specs.declared.command.Command.{Command}
use Rattle.command_words.specs.declared.command.Command.TheVariants.{Check, Replay}
use Rattle.line_refusals.specs.Texts.{refusal_text}
use Rattle.run_machine.specs.Machine.{OfStreams, StreamOf, WorldData, first_world}
use Rattle.suite_run.specs.World.{OutcomeData, silent, revision, node_count, no_change, passed_over, refused, judged, answered, delivered, was_cut, rejoined, settled, is_refusal, outcome, happens}

abbrev pub stream_name : Stream → List ℕ
stream_name Policies = codes "policies"
stream_name Addresses = codes "addresses"
stream_name Applied = codes "applied"

-- a space, and n1/policies
abbrev pub cut_text : StreamOf → List ℕ
cut_text s = codes " " ++ (s.node ++ (codes "/" ++ stream_name s.stream))

-- the streams that were cut, where there are any
abbrev pub cuts_text : List StreamOf → List ℕ
cuts_text [] = []
cuts_text (s ∷ more) = codes " cut" ++ flat_map cut_text (s ∷ more)

-- 3/2/3
abbrev pub revisions_text : OfStreams ℕ → List ℕ
revisions_text r = decimal r.policies ++ (codes "/" ++ (decimal r.addresses ++ (codes "/" ++ decimal r.applied)))

abbrev pub outcome_text : OutcomeData → List ℕ
outcome_text silent = []
outcome_text (revision r cuts) = codes "revision " ++ (decimal r ++ cuts_text cuts)
outcome_text (node_count k) = codes "nodes " ++ decimal k
outcome_text no_change = codes "unchanged"
outcome_text (passed_over kind) = codes "ignored " ++ kind
outcome_text (refused r) = codes "refused " ++ refusal_text r
outcome_text (judged r j) = codes "controller " ++ (decimal r ++ (codes " " ++ judged_text j))
outcome_text (answered node r j) = node ++ (codes " " ++ (revisions_text r ++ (codes " " ++ judged_text j)))
outcome_text (delivered k) = codes "delivered " ++ decimal k
outcome_text was_cut = codes "cut"
outcome_text (rejoined r) = codes "rejoined " ++ decimal r
outcome_text (settled r) = codes "settled " ++ decimal r

abbrev pub is_silent : OutcomeData → Bool
is_silent silent = true
is_silent _ = false

-- the line's number, what is told of it, and a line feed; nothing where nothing is told
unfoldable pub block_text : ℕ → OutcomeData → List ℕ
block_text n o = if is_silent o then [] else (decimal n ++ (codes " " ++ (outcome_text o ++ (line_feed ∷ []))))

-- the world after some lines
abbrev pub world_after : WorldData → List (List ℕ) → WorldData
world_after w [] = w
world_after w (line ∷ lines) = world_after (happens w line) lines

-- what is told of a line, with its number
pub record Told : Type 0 where
  pub number : ℕ
  pub outcome : OutcomeData

-- what is told of lines that are numbered from n on
abbrev pub told : ℕ → WorldData → List (List ℕ) → List Told
told n w [] = []
told n w (line ∷ lines) = record { number = n; outcome = outcome w line } ∷ told (n + 1) (happens w line) lines

-- ---- what a command writes of it

-- for how many messages a stream has places
abbrev pub ring_of : Command → ℕ
ring_of (Check files) = 256
ring_of (Replay ring files) = ring

-- the world before the first line
abbrev pub world_of_command : Command → WorldData
world_of_command command = first_world (ring_of command)

-- `check` shows refusals alone
abbrev pub shows : Command → Bool → Bool
shows (Check files) is_refused = is_refused
shows (Replay ring files) is_refused = true

-- the block of a line, where the command shows it
abbrev pub shown : Command → Told → List ℕ
shown command t = if shows command (is_refusal t.outcome) then block_text t.number t.outcome else []

-- the shown blocks of lines that are numbered from n on
abbrev pub blocks : Command → ℕ → WorldData → List (List ℕ) → List ℕ
blocks command n w lines = flat_map (shown command) (told n w lines)

abbrev pub count_if : Bool → ℕ
count_if true = 1
count_if false = 0

-- how many of some lines are refused
abbrev pub refused_count : WorldData → List (List ℕ) → ℕ
refused_count w [] = 0
refused_count w (line ∷ lines) = count_if (is_refusal (outcome w line)) + refused_count (happens w line) lines

-- 8 lines 1 refused
unfoldable pub counts_text : ℕ → ℕ → List ℕ
counts_text lines refusals = decimal lines ++ (codes " lines " ++ (decimal refusals ++ (codes " refused" ++ (line_feed ∷ []))))

-- after the last line `check` counts the lines, and those that are refused
abbrev pub ending : Command → ℕ → ℕ → List ℕ
ending (Check files) lines refusals = counts_text lines refusals
ending (Replay ring files) lines refusals = []

-- the text that is due when the run can't go on after these files: the shown blocks of all their whole lines
unfoldable pub due_so_far : Command → List Entry → List ℕ
due_so_far command files = blocks command 1 (world_of_command command) (whole_lines files)

-- the text that is due when these are all files
unfoldable pub due_in_all : Command → List Entry → List ℕ
due_in_all command files =
    blocks command 1 (world_of_command command) (whole_lines files)
    ++ ending command (length (whole_lines files)) (refused_count (world_of_command command) (whole_lines files))

unfoldable pub any_refused : Command → List Entry → Bool
any_refused command files = nat_lt 0 (refused_count (world_of_command command) (whole_lines files))
