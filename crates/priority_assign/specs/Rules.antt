-- Rules with their flow numbers, in the rule order. Open vSwitch looks at flows of a greater priority first
-- (ovs-ofctl(8), `priority`), so the numbers fall in the rule order. The numbers from 100 to 64000 are this
-- project's own.
use Rattle.std.specs.Prelude.{ℕ, ◌<◌, ◌≤◌, List, [], ◌∷◌, map, length, take, drop, Bool, not, Option, find, filter}
use Rattle.std.specs.Option.{option_map}
use Rattle.std.specs.List.{prefix_len}
use Rattle.std.specs.List.Sorted.{IsStrictlySortedBy}
use Rattle.std.specs.Ordering.{is_lt, is_eq}
use Rattle.cl_types.specs.declared.keys.RuleKey.{RuleKey}
use Rattle.cl_types.specs.RuleOrder.{rule_order}
use Rattle.priority_assign.specs.declared.numbered.Numbered.{Numbered}

abbrev pub keys : List Numbered → List RuleKey
keys xs = map (λ x. x.key) xs

-- the rule is looked at before k
unfoldable pub is_before : RuleKey → Numbered → Bool
is_before k x = is_lt (rule_order x.key k)

unfoldable pub is_rule : RuleKey → Numbered → Bool
is_rule k x = is_eq (rule_order x.key k)

-- how many rules stand before k, or would
abbrev pub place_of : List Numbered → RuleKey → ℕ
place_of xs k = prefix_len (is_before k) xs

abbrev pub number_of : List Numbered → RuleKey → Option ℕ
number_of xs k = option_map (λ x. x.number) (find (is_rule k) xs)

abbrev pub without : List Numbered → RuleKey → List Numbered
without xs k = filter (λ x. not (is_rule k x)) xs

-- the number of the last rule, u where there is none
abbrev pub last_number : ℕ → List Numbered → ℕ
last_number u [] = u
last_number u (x ∷ xs) = last_number x.number xs

-- the number of the first rule, l where there is none
abbrev pub first_number : ℕ → List Numbered → ℕ
first_number l [] = l
first_number l (x ∷ xs) = x.number

-- a number above those of all rules, and one below them
abbrev pub above_all : ℕ
above_all = 64001

abbrev pub below_all : ℕ
below_all = 99

-- how many rules have numbers at most
abbrev pub most_rules : ℕ
most_rules = 16000

-- the number of the rule next before a place, the one above all where there is none
abbrev pub number_before : List Numbered → ℕ → ℕ
number_before xs i = last_number above_all (take i xs)

-- the number of the rule next after a place, the one below all where there is none
abbrev pub number_after : List Numbered → ℕ → ℕ
number_after xs i = first_number below_all (drop i xs)

-- the numbers fall strictly, all of them below u and above l
abbrev pub FallsBetween : ℕ → ℕ → List Numbered → Type 0
FallsBetween u l [] = l < u
FallsBetween u l (x ∷ xs) = (x.number < u) × FallsBetween x.number l xs

-- each key comes before those after it, the numbers fall strictly between the two bounds, and there are not
-- too many
pub record IsLadder (xs : List Numbered) : Type 0 where
  pub ordered : IsStrictlySortedBy rule_order (keys xs)
  pub falling : FallsBetween above_all below_all xs
  pub few : length xs ≤ most_rules
