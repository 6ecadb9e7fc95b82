-- The faults of a value of JSON, in the order of the places where they are found, and the one that counts
-- (this project's own).
use Rattle.std.specs.Prelude.{ℕ, ◌+◌, List, [], ◌∷◌, ◌++◌, Option, Some, None, map, codes, ◌==◌, if◌then◌else◌}
use Rattle.std.specs.declared.cmp.Ordering.{Ordering}
use Rattle.std.specs.Fmt.{decimal}
use Rattle.std.specs.Ordering.{nat_cmp}
use Rattle.serde_json.specs.Data.{Data}
use Rattle.cl_types.specs.Bytes.{dot}
use Rattle.cl_types.specs.First as first
use Rattle.json_fields.specs.declared.refusal.ReadRefusal.{ReadRefusal}
use Rattle.json_fields.specs.declared.refusal.ReadRefusal.TheVariants.{NotJson, BadShape, Unsupported, BadName, BadLabel, BadSelector, BadAddr, BadPrefix, BadPort, BadPriority, BadAction, BadControl, NoMemory}

-- the place of a refusal in the order in which they count
abbrev pub rank : ReadRefusal → ℕ
rank NotJson = 0
rank (BadShape path) = 1
rank (Unsupported name) = 2
rank BadName = 3
rank BadLabel = 4
rank BadSelector = 5
rank BadAddr = 6
rank BadPrefix = 7
rank BadPort = 8
rank BadPriority = 9
rank BadAction = 10
rank BadControl = 11
rank NoMemory = 12

abbrev pub rank_order : ReadRefusal → ReadRefusal → Ordering
rank_order f g = nat_cmp (rank f) (rank g)

-- the one of least rank, and of two with one rank the first
unfoldable pub earlier : Option ReadRefusal → Option ReadRefusal → Option ReadRefusal
earlier None b = b
earlier (Some f) b = Some (first.earlier rank_order f b)

-- the first of the faults of least rank
unfoldable pub least : List ReadRefusal → Option ReadRefusal
least fs = first.first rank_order fs

-- ---- paths

-- the byte `[`
abbrev pub bracket : ℕ
bracket = 91

-- a path behind the step that leads to where it begins: `spec`, then `ports[0]`, is `spec.ports[0]`, and
-- `ports`, then `[0]`, is `ports[0]`
unfoldable pub inside : List ℕ → List ℕ → List ℕ
inside step [] = step
inside step (b ∷ path) = if b == bracket then step ++ (b ∷ path) else step ++ (dot ∷ b ∷ path)

-- a fault as it is told from outside of where the step leads
abbrev pub under : List ℕ → ReadRefusal → ReadRefusal
under step (BadShape path) = BadShape (inside step path)
under step f = f

unfoldable pub at : List ℕ → List ReadRefusal → List ReadRefusal
at step fs = map (under step) fs

-- `[0]` for the first element of a list
abbrev pub index_step : ℕ → List ℕ
index_step i = codes "[" ++ (decimal i ++ codes "]")

-- the faults of each element with all that stands in it, one element after another, the first of them at i
unfoldable pub each_from : (Data → List ReadRefusal) → ℕ → List Data → List ReadRefusal
each_from faults i [] = []
each_from faults i (d ∷ ds) = at (index_step i) (faults d) ++ each_from faults (i + 1) ds
