-- How a rule that is inserted gets its number, and which others get a new one. This project's own; the even
-- spread over a window follows the labels of ordered lists (Dietz and Sleator).
use Rattle.std.specs.Prelude.{ℕ, ◌+◌, ◌-◌, ◌*◌, ◌/◌, ◌==◌, nat_le, List, [], ◌∷◌, ◌++◌, take, drop, insert, remove, slice_range, if◌then◌else◌}
use Rattle.cl_types.specs.declared.keys.RuleKey.{RuleKey}
use Rattle.priority_assign.specs.declared.numbered.Numbered.{Numbered}
use Rattle.priority_assign.specs.declared.window.Window.{Window}
use Rattle.priority_assign.specs.Rules.{keys, place_of, number_before, number_after}
use Rattle.priority_assign.specs.Windows.{upper, lower, least_window}

-- the number of the i-th of w rules, counted from the last, spread evenly between l and u
abbrev pub even_number : ℕ → ℕ → ℕ → ℕ → ℕ
even_number l u w i = l + i * (u - l) / (w + 1)

-- rules numbered so, the first of which is the i-th
abbrev pub evenly : ℕ → ℕ → ℕ → ℕ → List RuleKey → List Numbered
evenly l u w i [] = []
evenly l u w i (k ∷ ks) = record { key = k; number = even_number l u w i } ∷ evenly l u w (i - 1) ks

-- the keys of a window: those before k, k and those after it
abbrev pub window_keys : List Numbered → RuleKey → Window → List RuleKey
window_keys xs k v =
    keys (slice_range xs v.begin (place_of xs k)) ++ k ∷ keys (slice_range xs (place_of xs k) (v.begin + v.width - 1))

-- k is inserted, and its window's rules are spread evenly
abbrev pub spread : List Numbered → RuleKey → Window → List Numbered
spread xs k v =
    take v.begin xs
    ++ evenly (lower xs v) (upper xs v) v.width v.width (window_keys xs k v)
    ++ drop (v.begin + v.width - 1) xs

-- how far the numbers of k's neighbours lie apart
abbrev pub gap : List Numbered → RuleKey → ℕ
gap xs k = number_before xs (place_of xs k) - number_after xs (place_of xs k)

-- k is inserted halfway between its neighbours
abbrev pub halfway : List Numbered → RuleKey → List Numbered
halfway xs k =
    insert xs (place_of xs k) (record { key = k; number = (number_after xs (place_of xs k) + number_before xs (place_of xs k)) / 2 })

-- the rules once k is inserted
unfoldable pub inserted : List Numbered → RuleKey → List Numbered
inserted xs k = if nat_le 2 (gap xs k) then halfway xs k else spread xs k (least_window xs (place_of xs k))

-- rules that have another number now, of which xs are the rules before and ys the same rules now
abbrev pub changes : List Numbered → List Numbered → List Numbered
changes [] ys = []
changes (x ∷ xs) [] = []
changes (x ∷ xs) (y ∷ ys) = if x.number == y.number then changes xs ys else (y ∷ changes xs ys)

-- the rules other than k whose number changed
unfoldable pub relabelled : List Numbered → RuleKey → List Numbered
relabelled xs k = changes xs (remove (inserted xs k) (place_of xs k))
