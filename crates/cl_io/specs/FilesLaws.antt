-- What is added in steps is so in one.
use Rattle.std.proofs.Common.{Option, Some, None, IsSome, List, [], ◌++◌, ap, ◌∙◌, append_assoc, rules}
use Rattle.cl_io.specs.Files.{Adds, AddsSome}

pub Adds-none : {A : Type 0} (o : Option (List A)) → Adds o [] o
Adds-none None = tt
Adds-none (Some x) = search rules

pub Adds-more : {A : Type 0} (a : Option (List A)) (x : List A) (b : Option (List A)) (y : List A) (c : Option (List A)) → Adds a x b → Adds b y c → Adds a (x ++ y) c
Adds-more a x b y None p q = tt
Adds-more a x None y (Some c) p q = absurd q
Adds-more None x (Some b) y (Some c) p q = absurd p
Adds-more (Some a) x (Some b) y (Some c) p q = q ∙ ap (λ z. z ++ y) p ∙ append_assoc a x y

-- what isn't told doesn't come to be told
pub Adds-told : {A : Type 0} (a : Option (List A)) (x : List A) (b : Option (List A)) → Adds a x b → IsSome b → IsSome a
Adds-told a x None p t = cc
Adds-told None x (Some b) p t = absurd p
Adds-told (Some a) x (Some b) p t = search rules

-- a property that follows from another
pub AddsSome-weaker : {A : Type 0} (a : Option (List A)) (P Q : List A → Type 0) (b : Option (List A)) →
    AddsSome a P b → ((more : List A) → P more → Q more) → AddsSome a Q b
AddsSome-weaker a P Q None p f = tt
AddsSome-weaker None P Q (Some b) p f = absurd p
AddsSome-weaker (Some a) P Q (Some b) p f = (p.0, p.1, f p.0 p.2)
