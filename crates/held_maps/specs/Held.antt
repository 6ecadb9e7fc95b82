-- What an agent holds: four lists, each in the order of the texts of names, and the revision of each stream (this
-- project's own). The map of the stream Policies is that of two of the lists together.
use Rattle.std.specs.Prelude.{◌≡◌, ℕ, List, [], ◌∷◌, ◌++◌, map, codes}
use Rattle.cl_types.specs.declared.stream.Rev.{Rev}
use Rattle.cl_types.specs.declared.stream.Stream.{Stream}
use Rattle.cl_types.specs.declared.stream.Stream.TheVariants.{Policies, Addresses, Applied}
use Rattle.cl_types.specs.Written.{policy_text}
use Rattle.label_select.specs.Group.{Group}
use Rattle.held_maps.specs.declared.held.Revisions.{Revisions}
use Rattle.watch_streams.specs.declared.message.Msg.{Msg}
use Rattle.watch_streams.specs.declared.message.Msg.TheVariants.{Delta, Snapshot}
use Rattle.watch_streams.specs.declared.message.StreamObject.{StreamObject}
use Rattle.watch_streams.specs.declared.message.StreamObject.TheVariants as object
use Rattle.watch_streams.specs.HeldEvaluation.{HeldMaps}
use Rattle.watch_streams.specs.Laws.{IsMap}
use Rattle.watch_streams.specs.Names.{by_name}
use Rattle.watch_streams.specs.Net.{NetPolicyData, NetEgressData}
use Rattle.watch_streams.specs.Projection.{all_pods}
use Rattle.watch_streams.specs.Stream.{after_message}

pub record HeldData : Type 0 where
  pub policies : List NetPolicyData
  pub egresses : List NetEgressData
  pub addresses : List StreamObject
  pub applied : List StreamObject
  pub revisions : Revisions

-- ---- the three maps

-- the texts of the names of policies and of Egresses
abbrev pub policy_title : NetPolicyData → List ℕ
policy_title p = policy_text p.key

abbrev pub egress_title : NetEgressData → List ℕ
egress_title e = codes "egress:" ++ e.name

abbrev pub policy_object : NetPolicyData → StreamObject
policy_object p = object.Policy p

abbrev pub egress_object : NetEgressData → StreamObject
egress_object e = object.Egress e

-- policies and Egresses in the order of their names
abbrev pub policies_map : List NetPolicyData → List NetEgressData → List StreamObject
policies_map policies egresses = by_name (map policy_object policies ++ map egress_object egresses)

abbrev pub maps_of : HeldData → HeldMaps
maps_of h = record { policies = policies_map h.policies h.egresses; addresses = h.addresses; applied = h.applied }

abbrev pub map_on : Stream → HeldMaps → List StreamObject
map_on Policies maps = maps.policies
map_on Addresses maps = maps.addresses
map_on Applied maps = maps.applied

abbrev pub with_map : Stream → List StreamObject → HeldMaps → HeldMaps
with_map Policies objects maps = record maps { policies = objects }
with_map Addresses objects maps = record maps { addresses = objects }
with_map Applied objects maps = record maps { applied = objects }

-- the groups of a stream
abbrev pub groups_on : Stream → HeldData → List StreamObject
groups_on Policies h = []
groups_on Addresses h = h.addresses
groups_on Applied h = h.applied

-- ---- revisions

abbrev pub revision_zero : Rev
revision_zero = record { 0 = 0 }

-- nothing is held, at revision 0
abbrev pub nothing_held : HeldData
nothing_held =
    record {
      policies = [];
      egresses = [];
      addresses = [];
      applied = [];
      revisions = record { policies = revision_zero; addresses = revision_zero; applied = revision_zero };
    }

-- in the order of the streams
abbrev pub revisions_of : HeldData → List Rev
revisions_of h = h.revisions.policies ∷ h.revisions.addresses ∷ h.revisions.applied ∷ []

abbrev pub with_revision : Stream → Rev → Revisions → Revisions
with_revision Policies rev revisions = record revisions { policies = rev }
with_revision Addresses rev revisions = record revisions { addresses = rev }
with_revision Applied rev revisions = record revisions { applied = rev }

abbrev pub revision_of : Msg → Rev
revision_of (Delta rev changes) = rev
revision_of (Snapshot rev objects) = rev

-- ---- messages

-- The stream's map is the old one after the message, at the message's revision; the other two are as they were.
pub record IsTaken (s : Stream) (m : Msg) (old new : HeldData) : Type 0 where
  pub maps : maps_of new ≡ with_map s (after_message s m (map_on s (maps_of old))) (maps_of old)
  pub revisions : new.revisions ≡ with_revision s (revision_of m) old.revisions

-- ---- what the type keeps

-- Groups alone stand on the two streams of groups, with their members ascending; beside them are kept an empty list and the
-- group of all pods.
pub record IsHeld (addresses applied none : List StreamObject) (all : List Group) : Type 0 where
  pub addresses_map : IsMap Addresses addresses
  pub applied_map : IsMap Applied applied
  pub no_groups : none ≡ []
  pub every_pod : all ≡ all_pods ∷ []
