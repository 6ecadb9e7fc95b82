-- Groups that may have come to other nodes (this project's own).
use Rattle.std.specs.Prelude.{ℕ, List, Bool, ◌&&◌, ◌||◌, not, filter, map}
use Rattle.std.specs.List.{list_any}
use Rattle.cl_types.specs.Addr.{addr_eq}
use Rattle.label_select.specs.Group.{Group}
use Rattle.group_index.specs.declared.change.GroupChange.{GroupChange}
use Rattle.group_index.specs.Index.{EntryData, entry_of, members_in}
use Rattle.group_index.specs.Members.{MemberData, is_member_on}

-- one of the members that came has the address of this one
abbrev pub has_come : List MemberData → MemberData → Bool
has_come added m = list_any (λ (a : MemberData). addr_eq a.address m.address) added

-- a member is on the node that hasn't just come
abbrev pub stays_on : List MemberData → List MemberData → List ℕ → Bool
stays_on members added node = list_any (λ m. is_member_on node m && not (has_come added m)) members

-- on the node of one of those that moved no member has stayed
abbrev pub some_alone : List MemberData → List MemberData → List MemberData → Bool
some_alone members added moved = list_any (λ (m : MemberData). not (stays_on members added m.node)) moved

-- the group, whose members these are now, may have come to a node or left one
abbrev pub has_spread : List MemberData → GroupChange → Bool
has_spread members x = some_alone members x.added x.added || some_alone members x.added x.removed

abbrev pub spread_groups : List EntryData → List GroupChange → List Group
spread_groups index changes = map (λ (x : GroupChange). x.group) (filter (λ (x : GroupChange). has_spread (members_in (entry_of index x.group)) x) changes)
