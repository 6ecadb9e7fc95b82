use Rattle.std.proofs.Common.{◌≡◌, ◌++◌, map, take}
use Rattle.group_index.specs.Members.{member_of}
use Rattle.group_index.proofs.gather.push_members.Given as goal

-- the members of the addresses so far
abbrev pub invariant-loop-a : goal.invariant-loop-a
invariant-loop-a l = l.members.items ≡ l.initial.members.items ++ map (member_of l.pod) (take l.a-index l.addresses)
