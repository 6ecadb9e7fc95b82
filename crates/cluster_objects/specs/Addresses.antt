-- The counting pods by address: an index beside the list of pods (this project's own).
use Rattle.std.specs.Prelude.{◌≡◌, ℕ, ◌+◌, ◌-◌, ◌*◌, ◌<◌, ◌≤◌, min, List, [], ◌∷◌, map, length, get_or, sum_by, Bool, true, false, not, ◌&&◌, Option, Some, None, if◌then◌else◌, nat_le, nat_lt, find, IsTrue, ◌↔◌}
use Rattle.std.specs.List.{list_any, AllByRecursion, HoldsAt}
use Rattle.std.specs.Ordering.{is_eq}
use Rattle.std.specs.Option.{option_map, option_map_or}
use Rattle.std.specs.declared.cmp.Ordering.{Ordering}
use Rattle.cl_types.specs.declared.addr.Addr.{Addr}
use Rattle.cl_types.specs.declared.keys.PodKey.{PodKey}
use Rattle.cl_types.specs.RuleOrder.{pod_order}
use Rattle.cl_types.specs.Addr.{addr_eq, addr_order}
use Rattle.cl_types.specs.Ascending.{Ascends, found, put, without}
use Rattle.cl_types.specs.AscendingLaws.{passed}
use Rattle.cluster_objects.specs.declared.addresses.AddressEntry.{AddressEntry}
use Rattle.cluster_types.specs.Pod.{PodData, counts, has_address}

-- the addresses that a pod holds: those that it has, where it counts
abbrev pub addresses_held : PodData → List Addr
addresses_held p = if counts p then p.addresses else []

abbrev pub is_among : Addr → List Addr → Bool
is_among a addresses = list_any (λ b. addr_eq b a) addresses

abbrev pub at_address : Addr → AddressEntry → Ordering
at_address a e = addr_order e.address a

abbrev pub entry_at : Addr → ℕ → AddressEntry
entry_at a i = record { address = a; place = i }

-- the place that the entries have for an address
abbrev pub place_of : Addr → List AddressEntry → Option ℕ
place_of a entries = option_map (λ (e : AddressEntry). e.place) (found (at_address a) entries)

-- the addresses that are held at a place of a list
abbrev pub held_at : List (List Addr) → ℕ → List Addr
held_at held i = get_or held i []

-- The entries ascend by address. They have a place for an address exactly where the address is held at that place,
-- so no address is held at two places. There are as many entries as addresses held, at most two at a place.
pub record IsIndex (held : List (List Addr)) (entries : List AddressEntry) : Type 0 where
  pub ascend : Ascends (λ (e : AddressEntry). e.address) addr_order entries
  pub exact : (a : Addr) (i : ℕ) → (place_of a entries ≡ Some i) ↔ IsTrue (is_among a (held_at held i))
  pub counted : length entries ≡ sum_by length held
  pub two : AllByRecursion (λ (addresses : List Addr). length addresses ≤ 2) held

-- a place once another has come in at place k
abbrev pub after_insert : ℕ → ℕ → ℕ
after_insert k i = if nat_le k i then i + 1 else i

-- a place once place k has gone
abbrev pub after_remove : ℕ → ℕ → ℕ
after_remove k i = if nat_lt k i then i - 1 else i

-- the entries with their places changed
abbrev pub with_places : (ℕ → ℕ) → List AddressEntry → List AddressEntry
with_places change entries = map (λ (e : AddressEntry). entry_at e.address (change e.place)) entries

-- the entries once the pod at place k holds these addresses
abbrev pub entered : ℕ → List Addr → List AddressEntry → List AddressEntry
entered k [] entries = entries
entered k (a ∷ addresses) entries = put (at_address a) (entry_at a k) (entered k addresses entries)

-- the entries without those of the addresses
abbrev pub without_addresses : List Addr → List AddressEntry → List AddressEntry
without_addresses [] entries = entries
without_addresses (a ∷ addresses) entries = without_addresses addresses (without (at_address a) entries)

-- the counting pod that has the address
abbrev pub pod_at : List PodData → Addr → Option PodData
pod_at pods a = find (λ p. counts p && has_address a p) pods

-- Of the pods with the address this one alone can pass a test that only counting pods pass.
abbrev pub IsOnlyPodAt : List PodData → Addr → Option PodData → Type 0
IsOnlyPodAt pods a here =
    (test : PodData → Bool) → ((p : PodData) → IsTrue (test p) → IsTrue (counts p))
    → find (λ p. test p && has_address a p) pods ≡ passed test here

-- Some pod with the address passes a test that only counting pods pass exactly where this one does.
abbrev pub StandsForAll : List PodData → Addr → Option PodData → Type 0
StandsForAll pods a here =
    (test : PodData → Bool) → ((p : PodData) → IsTrue (test p) → IsTrue (counts p))
    → list_any (λ p. test p && has_address a p) pods ≡ option_map_or test here false

-- ---- who takes an address

-- another counting pod has one of the addresses
abbrev pub shares_address : PodKey → List Addr → PodData → Bool
shares_address key addresses other = not (is_eq (pod_order other.key key)) && counts other && list_any (λ a. has_address a other) addresses

-- the first place at which the test holds, or that it holds at none
abbrev pub IsFirst : {T : Type 0} → (T → Bool) → List T → Option ℕ → Type 0
IsFirst test xs None = (j : ℕ) → j < length xs → HoldsAt (λ x. test x ≡ false) xs j
IsFirst test xs (Some i) = (i < length xs) × (HoldsAt (λ x. test x ≡ true) xs i × ((j : ℕ) → j < i → HoldsAt (λ x. test x ≡ false) xs j))

-- the lesser of two places, where there are both
abbrev pub least_place : Option ℕ → Option ℕ → Option ℕ
least_place None other = other
least_place (Some i) None = Some i
least_place (Some i) (Some j) = Some (min i j)

-- ---- the pods of a cluster with their index

-- the pods in ascending order of their keys, and for how many there is room
pub record PodsData : Type 0 where
  pub pods : List PodData
  pub places : ℕ

-- The pods ascend by their keys, the entries are their index, and there is room for the addresses of as many pods
-- as have room.
pub record IsPods (pods : List PodData) (places : ℕ) (entries : List AddressEntry) (room : ℕ) : Type 0 where
  pub ascend : Ascends (λ (p : PodData). p.key) pod_order pods
  pub index : IsIndex (map addresses_held pods) entries
  pub enough : 2 * places ≤ room
