-- Marks of the addresses that leave through a node's egress. A packet carries its mark in `pkt_mark`
-- (ovs-fields(7)); marks from 1 to 255, the least free one first, are this project's own.
use Rattle.std.specs.Prelude.{◌≡◌, ℕ, ◌+◌, ◌-◌, ◌≤◌, List, Bool, false, Option, Some, None, is_none, count_by, replicate, position, map, length, slice_set, if◌then◌else◌}
use Rattle.std.specs.List.{slice_get, position_or_len}
use Rattle.std.specs.Option.{option_map}
use Rattle.cl_types.specs.declared.addr.Addr.{Addr}
use Rattle.cl_types.specs.Addr.{addr_eq}

-- marks go from 1 to this one
abbrev pub greatest_mark : ℕ
greatest_mark = 255

-- a place is free, or has the address that holds its mark
abbrev pub is_held_by : Addr → Option Addr → Bool
is_held_by a None = false
is_held_by a (Some b) = addr_eq b a

-- the mark that an address holds; the first place is that of mark 1
abbrev pub mark_of : List (Option Addr) → Addr → Option ℕ
mark_of places a = option_map (λ i. i + 1) (position (is_held_by a) places)

-- all places are free
unfoldable pub no_marks : List (Option Addr)
no_marks = replicate greatest_mark None

-- mark m is held by no address
pub record IsFree (places : List (Option Addr)) (m : ℕ) : Type 0 where
  pub from_one : 1 ≤ m
  pub at : slice_get places (m - 1) ≡ Some None

-- mark m is held by some address
pub record IsHeld (places : List (Option Addr)) (m : ℕ) : Type 0 where
  pub by : Addr
  pub at : slice_get places (m - 1) ≡ Some (Some by)

abbrev pub least_free : List (Option Addr) → ℕ
least_free places = position_or_len is_none places + 1

-- an address takes the least free mark
abbrev pub marked : List (Option Addr) → Addr → List (Option Addr)
marked places a = slice_set places (least_free places - 1) (Some a)

-- an address gives its mark back
abbrev pub freed : List (Option Addr) → Addr → List (Option Addr)
freed places a = map (λ place. if is_held_by a place then None else place) places

-- a place for each mark, and no address has two of them
pub record IsMarks (places : List (Option Addr)) : Type 0 where
  pub all : length places ≡ greatest_mark
  pub once : (a : Addr) → count_by (is_held_by a) places ≤ 1
