-- Tiers as plain data, and which tier a policy means (Antrea's tiers; that static names are read without regard
-- to case, and the tier number of Kubernetes rules, are this project's own).
use Rattle.std.specs.Prelude.{◌≡◌, ℕ, List, [], ◌∷◌, Bool, Option, Some, find, codes, if◌then◌else◌}
use Rattle.std.specs.List.{list_any, AllByRecursion}
use Rattle.std.specs.Str.{str_to_ascii_lowercase}
use Rattle.cl_types.specs.Text.{text_eq}

pub record TierData : Type 0 where
  pub name : List ℕ
  pub priority : ℕ

-- the number of the tier Baseline
abbrev pub baseline_tier : ℕ
baseline_tier = 253

-- the tier number of the rules of Kubernetes policies, which are in no tier
abbrev pub kube_tier : ℕ
kube_tier = 255

abbrev pub tier_of : List ℕ → ℕ → TierData
tier_of name priority = record { name = name; priority = priority }

-- the tiers that are always there
abbrev pub static_tiers : List TierData
static_tiers =
    tier_of (codes "emergency") 50 ∷ tier_of (codes "securityops") 100 ∷ tier_of (codes "networkops") 150
    ∷ tier_of (codes "platform") 200 ∷ tier_of (codes "application") 250 ∷ tier_of (codes "baseline") baseline_tier ∷ []

-- the text is the name of a static tier
unfoldable pub is_static : List ℕ → Bool
is_static name = list_any (λ (t : TierData). text_eq t.name name) static_tiers

-- the name that a policy means: that of a static tier is read without regard to case
abbrev pub name_meant : List ℕ → List ℕ
name_meant written = if is_static (str_to_ascii_lowercase written) then str_to_ascii_lowercase written else written

-- the tier with the name
abbrev pub tier_named : List ℕ → List TierData → Option TierData
tier_named name tiers = find (λ (t : TierData). text_eq t.name name) tiers

-- each static tier is there with its priority
abbrev pub HasStaticTiers : List TierData → Type 0
HasStaticTiers tiers = AllByRecursion (λ (t : TierData). tier_named t.name tiers ≡ Some t) static_tiers
