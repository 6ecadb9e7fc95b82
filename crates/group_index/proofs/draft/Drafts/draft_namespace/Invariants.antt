use Rattle.std.proofs.Common.{take}
use Rattle.group_index.specs.Settled.{AreDrafts}
use Rattle.group_index.proofs.draft.Drafts.draft_namespace.Given as goal

-- the groups so far have their drafts
abbrev pub invariant-loop-place : goal.invariant-loop-place
invariant-loop-place l = AreDrafts l.c.cluster (take l.fn.of.start l.entries) l.initial.self → AreDrafts l.c.cluster (take l.place l.entries) l.self
