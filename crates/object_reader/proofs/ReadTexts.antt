-- What a text of an address or a block is read as.
use Rattle.std.proofs.Common.{◌≡◌, Option, Some, None, ◌↔◌, refl}

-- nothing is read of a text that has no reading
pub none_read : {X : Type 0} (P : X → Type 0) (o : Option X) → ((x : X) → (o ≡ Some x) ↔ P x) → ((x : X) → P x → ⊥) → o ≡ None
none_read P None law none = refl
none_read P (Some x) law none = absurd (none x ((law x).0 refl))
