-- Windows: consecutive rules, a rule that is inserted among them. This project's own.
use Rattle.std.specs.Prelude.{◌≡◌, ◌<◌, ◌≤◌, true, false, ℕ, ◌+◌, ◌-◌, ◌*◌, ◌&&◌, nat_le, nat_lt, List, map, length, Bool, find, unwrap_or}
use Rattle.std.specs.List.{flat_map, range_with_len}
use Rattle.priority_assign.specs.declared.numbered.Numbered.{Numbered}
use Rattle.priority_assign.specs.declared.window.Window.{Window}
use Rattle.priority_assign.specs.Rules.{number_before, number_after}

-- the number of the rule next before the window, and of the rule next after it
abbrev pub upper : List Numbered → Window → ℕ
upper xs v = number_before xs v.begin

abbrev pub lower : List Numbered → Window → ℕ
lower xs v = number_after xs (v.begin + v.width - 1)

-- it has the rule that is inserted at place p, and no more than all
abbrev pub is_window : List Numbered → ℕ → Window → Bool
is_window xs p v = nat_le v.begin p && nat_lt p (v.begin + v.width) && nat_le (v.begin + v.width) (length xs + 1)

-- at least twice as many numbers lie between its neighbours as it has rules
abbrev pub has_room : List Numbered → Window → Bool
has_room xs v = nat_le (2 * v.width) (upper xs v - lower xs v - 1)

abbrev pub fits : List Numbered → ℕ → Window → Bool
fits xs p v = is_window xs p v && has_room xs v

-- windows of this width over n rules, by where they begin
abbrev pub of_width : ℕ → ℕ → List Window
of_width n w = map (λ b. record { begin = b; width = w }) (range_with_len 0 (n + 1))

-- windows over n rules, the narrower first, and of one width those first that begin earlier
abbrev pub windows : ℕ → List Window
windows n = flat_map (of_width n) (range_with_len 1 (n + 1))

abbrev pub window_of_all : ℕ → Window
window_of_all n = record { begin = 0; width = n + 1 }

-- The first window with room. There is one while rules are fewer than 16,000; otherwise take all rules.
abbrev pub least_window : List Numbered → ℕ → Window
least_window xs p = unwrap_or (find (fits xs p) (windows (length xs))) (window_of_all (length xs))

-- a window of this width that begins here fits, and none that begins earlier
pub record IsFirstBegin (xs : List Numbered) (p width begin : ℕ) : Type 0 where
  pub fit : fits xs p (record { begin = begin; width = width }) ≡ true
  pub earlier : (b : ℕ) → b < begin → fits xs p (record { begin = b; width = width }) ≡ false

-- it fits, none that fits is narrower, and of those as wide none begins earlier
pub record IsLeast (xs : List Numbered) (p : ℕ) (v : Window) : Type 0 where
  pub fit : fits xs p v ≡ true
  pub narrowest : (u : Window) → fits xs p u ≡ true → v.width ≤ u.width
  pub first : (u : Window) → fits xs p u ≡ true → u.width ≡ v.width → v.begin ≤ u.begin
