use Rattle.std.proofs.Common.{◌≡◌, ◌++◌, map, take}
use Rattle.group_index.specs.Members.{MemberData}
use Rattle.group_index.proofs.index.push_nodes.Given as goal

-- the nodes of the members so far
abbrev pub invariant-loop-m : goal.invariant-loop-m
invariant-loop-m l = l.nodes.items ≡ l.initial.nodes.items ++ map (λ (m : MemberData). m.node) (take l.m-index l.members)
