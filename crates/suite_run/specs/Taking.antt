-- What agents take of their streams (this project's own).
use Rattle.std.specs.Prelude.{◌≡◌, List, [], ◌∷◌, Bool, true, false}
use Rattle.watch_streams.specs.declared.message.Msg.{Msg}

-- whether a message waited
abbrev pub HasWaited : List Msg → Bool → Type 0
HasWaited messages true = (m : Msg) × ((rest : List Msg) × (messages ≡ m ∷ rest))
HasWaited messages false = messages ≡ []
