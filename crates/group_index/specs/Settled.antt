-- A change that moves the members of a group at some addresses alone (this project's own).
use Rattle.std.specs.Prelude.{◌≡◌, ◌≤◌, ℕ, zero, suc, ◌++◌, List, [], ◌∷◌, length, Bool, true, false, ◌||◌, not, Option, Some, None, if◌then◌else◌, vec_capacity, ⊤, ◌+◌}
use Rattle.std.specs.List.{AllWithin, flat_map}
use Rattle.std.specs.Option.{option_to_list}
use Rattle.std.specs.declared.cmp.Ordering.{Ordering}
use Rattle.cl_types.specs.declared.addr.Addr.{Addr}
use Rattle.cl_types.specs.Addr.{addr_order}
use Rattle.cl_types.specs.Ascending.{Ascends, found, put, without}
use Rattle.cl_types.specs.Text.{text_eq}
use Rattle.label_select.specs.declared.group.Scope.{Scope}
use Rattle.label_select.specs.declared.group.Scope.TheVariants.{Namespace, Namespaces}
use Rattle.label_select.specs.Group.{Group}
use Rattle.cluster_types.specs.Cluster.{ClusterData}
use Rattle.cluster_types.specs.Groups.{in_group}
use Rattle.cluster_types.specs.Node.{NamespaceData}
use Rattle.cluster_types.specs.Pod.{PodData}
use Rattle.cluster_objects.specs.Addresses.{is_among}
use Rattle.group_index.specs.declared.draft.Draft.{Draft}
use Rattle.group_index.specs.declared.draft.Drafts.{Drafts}
use Rattle.group_index.specs.declared.moves.Edit.{Edit}
use Rattle.group_index.specs.declared.moves.Moves.{Moves}
use Rattle.group_index.specs.declared.stretch.Stretch.{Stretch}
use Rattle.group_index.specs.declared.stretch.Stretches.{Stretches}
use Rattle.group_index.specs.Changes.{at_cluster, at_pod, change_at}
use Rattle.group_index.specs.Index.{EntryData}
use Rattle.group_index.specs.Members.{MemberData, by_address, members_of}

-- ---- members at some addresses

-- how a member stands to the address that is sought
abbrev pub at_address : Addr → MemberData → Ordering
at_address a m = addr_order m.address a

-- the members that ascend by address
abbrev pub AscendByAddress : List MemberData → Type 0
AscendByAddress = Ascends (λ (m : MemberData). m.address) addr_order

-- the member at the address, where there is one
abbrev pub here_at : List MemberData → Addr → List MemberData
here_at members a = option_to_list (found (at_address a) members)

-- the members at these addresses, by address
abbrev pub picked : List Addr → List MemberData → List MemberData
picked addresses members = by_address (flat_map (here_at members) addresses)

-- the members with this one at its address, or without a member at the address
abbrev pub with_at : Addr → Option MemberData → List MemberData → List MemberData
with_at a (Some m) members = put (at_address m.address) m members
with_at a None members = without (at_address a) members

-- both ascend by address, and at every other address they are alike
pub record DiffersAt (addresses : List Addr) (old new : List MemberData) : Type 0 where
  pub old_ascends : AscendByAddress old
  pub new_ascends : AscendByAddress new
  pub alike : (a : Addr) → is_among a addresses ≡ false → found (at_address a) old ≡ found (at_address a) new

-- ---- the groups that a change concerns

-- the group contains the pod, where there is one
abbrev pub contains : ClusterData → Group → Option PodData → Bool
contains c g (Some p) = in_group c g p
contains c g None = false

-- a pod's change concerns the groups that contain the pod as it was or as it is
abbrev pub has_either : ClusterData → Option PodData → Option PodData → Group → Bool
has_either c old now g = contains c g old || contains c g now

-- the scope is a selector
abbrev pub is_selector : Scope → Bool
is_selector (Namespace name) = false
is_selector (Namespaces selector) = true

-- the scope is the namespace
abbrev pub is_named : List ℕ → Scope → Bool
is_named space (Namespace name) = text_eq name space
is_named space (Namespaces selector) = false

-- the scope is the namespace of the pod as it was or, where it was none, of the pod as it is
abbrev pub is_of_pods : Option PodData → Option PodData → Scope → Bool
is_of_pods (Some p) now s = is_named p.key.namespace s
is_of_pods None (Some p) s = is_named p.key.namespace s
is_of_pods None None s = false

-- a group of the scope can contain the pods
abbrev pub can_contain : Option PodData → Option PodData → Scope → Bool
can_contain old now s = is_of_pods old now s || is_selector s

-- the pod as it was and the pod as it is are of one namespace
abbrev pub ShareNamespace : Option PodData → Option PodData → Type 0
ShareNamespace (Some p) (Some q) = q.key.namespace ≡ p.key.namespace
ShareNamespace (Some p) None = ⊤
ShareNamespace None now = ⊤

-- a namespace's change concerns the groups whose scope is a selector of namespaces
abbrev pub follows_labels : Group → Bool
follows_labels g = is_selector g.scope

-- the members of a group in use are those at the cluster
abbrev pub Stays : ClusterData → EntryData → Type 0
Stays c e = e.members ≡ members_of c e.group

abbrev pub addresses_where : Bool → List Addr → List Addr
addresses_where concerned addresses = if concerned then addresses else []

-- the members of a group in use are those at the cluster, but for these addresses where the change concerns the group
abbrev pub MovesAt : (Group → Bool) → List Addr → ClusterData → EntryData → Type 0
MovesAt concerns addresses c e = DiffersAt (addresses_where (concerns e.group) addresses) e.members (members_of c e.group)

-- ---- edits of members

-- the last edit first
abbrev pub edited_by : List Edit → List MemberData → List MemberData
edited_by [] members = members
edited_by (e ∷ es) members = with_at e.address e.member (edited_by es members)

-- the edit that puts what these members have at the address
abbrev pub edit_to : List MemberData → Addr → Edit
edit_to members a = record { address = a; member = found (at_address a) members }

-- there are places for the members and for one more at each edit
pub record Fits (m : Moves) (members : List MemberData) : Type 0 where
  pub ascends : AscendByAddress members
  pub empty : m.places.items ≡ []
  pub places : length members + length m.edits.items ≤ vec_capacity m.places

abbrev pub moved_if : Option Moves → List MemberData → List MemberData
moved_if (Some m) members = edited_by m.edits.items members
moved_if None members = members

abbrev pub FitsIf : Option Moves → List MemberData → Type 0
FitsIf (Some m) members = Fits m members
FitsIf None members = ⊤

-- ---- drafts

abbrev pub with_members : List MemberData → EntryData → EntryData
with_members members e = record { group = e.group; uses = e.uses; members = members }

-- the groups in use with the members of the one at the place edited
abbrev pub settled_at : ℕ → List Edit → List EntryData → List EntryData
settled_at i edits [] = []
settled_at zero edits (e ∷ es) = with_members (edited_by edits e.members) e ∷ es
settled_at (suc i) edits (e ∷ es) = e ∷ settled_at i edits es

-- the groups in use with the drafts settled, the last one first
abbrev pub settled_by : List Draft → List EntryData → List EntryData
settled_by [] index = index
settled_by (d ∷ ds) index = settled_at d.place d.moves.edits.items (settled_by ds index)

-- there is a group in use at the place, and places for its members
abbrev pub FitsAt : ℕ → Moves → List EntryData → Type 0
FitsAt i m [] = ⊥
FitsAt zero m (e ∷ es) = Fits m e.members
FitsAt (suc i) m (e ∷ es) = FitsAt i m es

-- there are places for the members of each draft, when it is settled
abbrev pub HavePlaces : List Draft → List EntryData → Type 0
HavePlaces [] index = ⊤
HavePlaces (d ∷ ds) index = FitsAt d.place d.moves (settled_by ds index) × HavePlaces ds index

-- the draft of a group at the place, where it has one
abbrev pub draft_at : ℕ → Option Moves → List Draft
draft_at i (Some m) = record { place = i; moves = m } ∷ []
draft_at i None = []

-- Of the first groups in use: what changes in them, and drafts by which they get their members at the cluster,
-- whatever groups follow.
pub record AreDrafts (c : ClusterData) (first : List EntryData) (d : Drafts) : Type 0 where
  pub changes : d.changes.items ≡ flat_map (change_at c) first
  pub places : (rest : List EntryData) → HavePlaces d.drafts.items (first ++ rest)
  pub settle : (rest : List EntryData) → settled_by d.drafts.items (first ++ rest) ≡ at_cluster c first ++ rest

-- ---- the addresses that a change concerns

abbrev pub addresses_of : Option PodData → List Addr
addresses_of (Some p) = p.addresses
addresses_of None = []

-- the pod that is there now at the key of the one that changed
abbrev pub pod_now : Option PodData → Option PodData → List PodData → Option PodData
pod_now (Some old) new pods = found (at_pod old.key) pods
pod_now None (Some new) pods = found (at_pod new.key) pods
pod_now None None pods = None

-- of a pod that changed: those of the pod as it was, and those of the pod as it is
abbrev pub pod_addresses : Option PodData → Option PodData → List Addr
pod_addresses old now = addresses_of old ++ addresses_of now

-- the object is one of another namespace
abbrev pub is_stray : Option NamespaceData → List ℕ → Bool
is_stray (Some n) name = not (text_eq n.name name)
is_stray None name = false

-- a namespace's change concerns its pods (all, where the old object is one of another namespace)
abbrev pub is_concerned : Option NamespaceData → List ℕ → PodData → Bool
is_concerned old name p = is_stray old name || text_eq p.key.namespace name

abbrev pub addresses_if : Option NamespaceData → List ℕ → PodData → List Addr
addresses_if old name p = if is_concerned old name p then p.addresses else []

-- of a namespace that changed: those of its pods
abbrev pub namespace_addresses : Option NamespaceData → List ℕ → List PodData → List Addr
namespace_addresses old name pods = flat_map (addresses_if old name) pods

-- ---- items that stand together

-- every item that doesn't stand there passes
pub record IsStretch {T : Type 0} (P : T → Type 0) (xs : List T) (s : Stretch) : Type 0 where
  pub order : s.start ≤ s.end
  pub within : s.end ≤ length xs
  pub before : AllWithin P xs 0 s.start
  pub after : AllWithin P xs s.end (length xs)

-- every item that stands in neither passes
pub record AreStretches {T : Type 0} (P : T → Type 0) (xs : List T) (s : Stretches) : Type 0 where
  pub first : s.first.start ≤ s.first.end
  pub apart : s.first.end ≤ s.second.start
  pub second : s.second.start ≤ s.second.end
  pub within : s.second.end ≤ length xs
  pub before : AllWithin P xs 0 s.first.start
  pub between : AllWithin P xs s.first.end s.second.start
  pub after : AllWithin P xs s.second.end (length xs)

-- The two stretches in the order of their places: where the groups outside of the one fail a test, and those outside of
-- the other a second test, those outside of both fail whatever fails where the two tests fail.
abbrev pub AreInOrder : Stretch → Stretch → Stretches → Type 0
AreInOrder a b s =
    (p q r : EntryData → Bool) (es : List EntryData) → ((e : EntryData) → p e ≡ false → q e ≡ false → r e ≡ false)
    → IsStretch (λ e. p e ≡ false) es a → IsStretch (λ e. q e ≡ false) es b → AreStretches (λ e. r e ≡ false) es s
