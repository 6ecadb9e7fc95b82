-- The lines of texts and of files. A line ends at a line feed, which isn't part of it, or at the end of its text.
use Rattle.std.specs.Prelude.{◌==◌, ◌-◌, ℕ, List, [], ◌∷◌, ◌++◌, Bool, true, false, length, take, nat_lt, if◌then◌else◌}
use Rattle.cl_io.specs.Files.{Entry}

-- the byte that ends a line
abbrev pub line_feed : ℕ
line_feed = 10

-- lines with a byte more at the front of the first; a byte alone is a line only where its text is at its end
abbrev pub led_by : Bool → ℕ → List (List ℕ) → List (List ℕ)
led_by ended byte (line ∷ lines) = (byte ∷ line) ∷ lines
led_by true byte [] = (byte ∷ []) ∷ []
led_by false byte [] = []

-- the whole lines of a text that is at its end, or to which more may come
abbrev pub lines_of : Bool → List ℕ → List (List ℕ)
lines_of ended [] = []
lines_of ended (byte ∷ bytes) = if byte == line_feed then [] ∷ lines_of ended bytes else led_by ended byte (lines_of ended bytes)

-- the whole lines of files, in order
abbrev pub whole_lines : List Entry → List (List ℕ)
whole_lines [] = []
whole_lines (entry ∷ entries) = lines_of entry.ended entry.bytes ++ whole_lines entries

-- files as they stood when so many bytes of all had come
abbrev pub first_bytes : ℕ → List Entry → List Entry
first_bytes n [] = []
first_bytes n (entry ∷ entries) =
    if nat_lt n (length entry.bytes)
    then record { name = entry.name; bytes = take n entry.bytes; ended = false } ∷ []
    else entry ∷ first_bytes (n - length entry.bytes) entries
