-- The exact change from one map of a stream to another, and a map after a message (this project's own). A map is a
-- list of objects that ascends by the texts of their names.
use Rattle.std.specs.Prelude.{ℕ, List, [], ◌∷◌, ◌++◌, Bool, true, false, not, filter, map, Option, Some, None, if◌then◌else◌}
use Rattle.std.specs.List.{flat_map, list_any}
use Rattle.std.specs.Ordering.{is_eq}
use Rattle.cl_types.specs.declared.stream.Stream.{Stream}
use Rattle.cl_types.specs.declared.stream.Stream.TheVariants.{Policies, Addresses, Applied}
use Rattle.cl_types.specs.Ascending.{found, put}
use Rattle.cl_types.specs.Equality.{is_same}
use Rattle.label_select.specs.Group.{Group}
use Rattle.label_select.specs.Written.{group_text}
use Rattle.watch_streams.specs.declared.message.StreamChange.{StreamChange}
use Rattle.watch_streams.specs.declared.message.StreamChange.TheVariants as change
use Rattle.watch_streams.specs.declared.net.NetEgress as egress
use Rattle.watch_streams.specs.declared.net.NetPolicy as policy
use Rattle.watch_streams.specs.declared.message.StreamName.{StreamName}
use Rattle.watch_streams.specs.declared.message.StreamName.TheVariants as name
use Rattle.watch_streams.specs.declared.message.StreamObject.{StreamObject}
use Rattle.watch_streams.specs.declared.message.StreamObject.TheVariants as object
use Rattle.watch_streams.specs.Names.{name_of, name_text, object_text, at_text, by_name}
use Rattle.watch_streams.specs.Net.{MemberData, member_order, ascending_members}

-- ---- members of a group

abbrev pub has_member : List MemberData → MemberData → Bool
has_member members m = list_any (λ n. is_eq (member_order n m)) members

-- the members that the others lack
abbrev pub members_without : List MemberData → List MemberData → List MemberData
members_without members others = filter (λ m. not (has_member others m)) members

-- ---- the change from one map to another

-- the change of a group's members, where there is one
abbrev pub patch : Group → List MemberData → List MemberData → List StreamChange
patch group [] [] = []
patch group added removed = change.Patch group added removed ∷ []

-- a thing took the place of another one
abbrev pub unless_same : Bool → StreamObject → List StreamChange
unless_same true new = []
unless_same false new = change.Put new ∷ []

-- the change where one object took another's place under the same name
abbrev pub replaced : StreamObject → StreamObject → List StreamChange
replaced (object.Policy old) (object.Policy new) = unless_same (is_same policy.the_code old new) (object.Policy new)
replaced (object.Egress old) (object.Egress new) = unless_same (is_same egress.the_code old new) (object.Egress new)
replaced (object.Group group old) (object.Group same new) = patch group (members_without new old) (members_without old new)
replaced old new = change.Put new ∷ []

-- the change under one name, where there is one
abbrev pub changed : Option StreamObject → Option StreamObject → List StreamChange
changed None None = []
changed (Some old) None = change.Remove (name_of old) ∷ []
changed None (Some new) = change.Put new ∷ []
changed (Some old) (Some new) = replaced old new

-- the texts of the names of either map, ascending
abbrev pub all_texts : List StreamObject → List StreamObject → List (List ℕ)
all_texts old new = map object_text (by_name (old ++ new))

-- for each name at most one change, in the byte order of the texts
abbrev pub difference : List StreamObject → List StreamObject → List StreamChange
difference old new = flat_map (λ text. changed (found (at_text text) old) (found (at_text text) new)) (all_texts old new)

-- ---- a map after a message

abbrev pub is_policies : Stream → Bool
is_policies Policies = true
is_policies Addresses = false
is_policies Applied = false

-- policies and Egresses stand on the one stream, groups on the others
abbrev pub name_belongs : Stream → StreamName → Bool
name_belongs s (name.Policy key) = is_policies s
name_belongs s (name.Egress text) = is_policies s
name_belongs s (name.Group group) = not (is_policies s)

abbrev pub belongs : Stream → StreamObject → Bool
belongs s o = name_belongs s (name_of o)

-- the object with a group's members as the set that they are
abbrev pub settled : StreamObject → StreamObject
settled (object.Policy p) = object.Policy p
settled (object.Egress e) = object.Egress e
settled (object.Group group members) = object.Group group (ascending_members members)

-- without what stands under a name
abbrev pub without : List ℕ → List StreamObject → List StreamObject
without text = filter (λ o. not (is_eq (at_text text o)))

abbrev pub members_of : Option StreamObject → List MemberData
members_of (Some (object.Group group members)) = members
members_of other = []

-- the old members with the added ones and without the removed ones
abbrev pub patched : List MemberData → List MemberData → List MemberData → List MemberData
patched old added removed = members_without (ascending_members (old ++ added)) removed

abbrev pub put_object : Stream → StreamObject → List StreamObject → List StreamObject
put_object s o held = if belongs s o then put (at_text (object_text o)) o held else held

-- what doesn't belong on the stream is passed over; a group that isn't held has no members
abbrev pub after_change : Stream → StreamChange → List StreamObject → List StreamObject
after_change s (change.Put o) held = put_object s (settled o) held
after_change s (change.Remove n) held = if name_belongs s n then without (name_text n) held else held
after_change s (change.Patch group added removed) held =
    put_object s (object.Group group (patched (members_of (found (at_text (group_text group)) held)) added removed)) held

abbrev pub after_changes : Stream → List StreamChange → List StreamObject → List StreamObject
after_changes s [] held = held
after_changes s (c ∷ changes) held = after_changes s changes (after_change s c held)

-- the map of a snapshot's objects
abbrev pub of_snapshot : Stream → List StreamObject → List StreamObject
of_snapshot s objects = by_name (map settled (filter (belongs s) objects))
