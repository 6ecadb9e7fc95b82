-- What is read of the fields of a control line. Every fault of one is BadControl, so the places of faults don't
-- matter (this project's own).
use Rattle.std.specs.Prelude.{ℕ, List, [], ◌∷◌, Bool, true, false, Option, Some, None, Result, Ok, Err, nat_le, ◌&&◌}
use Rattle.serde_json.specs.Data.{Data}
use Rattle.serde_json.specs.Find.{as_bool, as_str}
use Rattle.cl_types.specs.declared.addr.Addr.{Addr}
use Rattle.cl_types.specs.ReadText.{read_address}
use Rattle.json_fields.specs.declared.refusal.ReadRefusal.{ReadRefusal}
use Rattle.json_fields.specs.declared.refusal.ReadRefusal.TheVariants.{BadControl}
use Rattle.json_fields.specs.Fields.{elements, field, whole_number}

infixl 10 ◌>>=◌
abbrev pub ◌>>=◌ : {A B : Type 0} → Result A ReadRefusal → (A → Result B ReadRefusal) → Result B ReadRefusal
(Ok x) >>= f = f x
(Err e) >>= f = Err e

-- what must be there
abbrev pub needed : {A : Type 0} → Option A → Result A ReadRefusal
needed None = Err BadControl
needed (Some x) = Ok x

-- x, where the test holds
abbrev pub checked : {A : Type 0} → Bool → A → Result A ReadRefusal
checked true x = Ok x
checked false x = Err BadControl

-- what each element is read as, in order
abbrev pub each : {A X : Type 0} → (A → Result X ReadRefusal) → List A → Result (List X) ReadRefusal
each f [] = Ok []
each f (d ∷ ds) = do
  x ← f d
  xs ← each f ds
  Ok (x ∷ xs)

-- a field that may be absent
abbrev pub optional : {X : Type 0} → (Data → Result X ReadRefusal) → Option Data → Result (Option X) ReadRefusal
optional f None = Ok None
optional f (Some d) = f d >>= λ x. Ok (Some x)

abbrev pub text_of : Data → Result (List ℕ) ReadRefusal
text_of d = needed (as_str d)

abbrev pub address_of : Data → Result Addr ReadRefusal
address_of d = text_of d >>= λ text. needed (read_address text)

-- a whole number from low to high
abbrev pub number_of : ℕ → ℕ → Data → Result ℕ ReadRefusal
number_of low high d = needed (whole_number d) >>= λ n. checked (nat_le low n && nat_le n high) n

unfoldable pub text_at : List ℕ → Data → Result (List ℕ) ReadRefusal
text_at name d = needed (field name d) >>= text_of

unfoldable pub text_if_there : List ℕ → Data → Result (Option (List ℕ)) ReadRefusal
text_if_there name d = optional text_of (field name d)

unfoldable pub address_at : List ℕ → Data → Result Addr ReadRefusal
address_at name d = needed (field name d) >>= address_of

unfoldable pub address_if_there : List ℕ → Data → Result (Option Addr) ReadRefusal
address_if_there name d = optional address_of (field name d)

unfoldable pub number_at : List ℕ → ℕ → ℕ → Data → Result ℕ ReadRefusal
number_at name low high d = needed (field name d) >>= number_of low high

-- a truth value that must be there
unfoldable pub truth_at : List ℕ → Data → Result Bool ReadRefusal
truth_at name d = needed (field name d) >>= λ b. needed (as_bool b)

-- a truth value that is false where it is absent
unfoldable pub truth_or_false : List ℕ → Data → Result Bool ReadRefusal
truth_or_false name d = or_false (field name d)
  where
    or_false : Option Data → Result Bool ReadRefusal
    or_false None = Ok false
    or_false (Some b) = needed (as_bool b)

-- a list of texts
unfoldable pub texts_at : List ℕ → Data → Result (List (List ℕ)) ReadRefusal
texts_at name d = do
  list ← needed (field name d)
  ds ← needed (elements list)
  each text_of ds
