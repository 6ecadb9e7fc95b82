-- What a rule does (Antrea: action).
use Rattle.std.specs.Prelude.{ℕ, List, Bool, true, false, Option, Some, None, option_and_then, codes, if◌then◌else◌}
use Rattle.serde_json.specs.Data.{Data}
use Rattle.cl_types.specs.declared.verdict.Action.{Action}
use Rattle.cl_types.specs.declared.verdict.Action.TheVariants.{Allow, Drop, Reject, Pass}
use Rattle.cl_types.specs.Text.{text_eq}
use Rattle.json_fields.specs.Fields.{inner}
use Rattle.json_fields.specs.Shapes.{text_of}

abbrev pub action_named : List ℕ → Option Action
action_named text =
    if text_eq text (codes "Allow") then Some Allow
    else (if text_eq text (codes "Drop") then Some Drop
    else (if text_eq text (codes "Reject") then Some Reject else (if text_eq text (codes "Pass") then Some Pass else None)))

-- in Baseline no rule passes
abbrev pub permitted : Bool → Action → Option Action
permitted baseline Allow = Some Allow
permitted baseline Drop = Some Drop
permitted baseline Reject = Some Reject
permitted true Pass = None
permitted false Pass = Some Pass

unfoldable pub given_action : Bool → Data → Option Action
given_action baseline d = option_and_then (permitted baseline) (option_and_then action_named (text_of (inner (codes "action") (Some d))))
