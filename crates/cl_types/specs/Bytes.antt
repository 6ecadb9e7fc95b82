-- The bytes of ASCII at which texts are cut and joined.
use Rattle.std.specs.Prelude.{ℕ}

abbrev pub comma : ℕ
comma = 44

abbrev pub dash : ℕ
dash = 45

abbrev pub dot : ℕ
dot = 46

abbrev pub slash : ℕ
slash = 47

abbrev pub colon : ℕ
colon = 58

abbrev pub underscore : ℕ
underscore = 95
