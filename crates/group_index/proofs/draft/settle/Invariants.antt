use Rattle.std.proofs.Common.{◌≡◌, length}
use Rattle.group_index.specs.Settled.{HavePlaces, settled_by}
use Rattle.group_index.proofs.draft.settle.Given as goal

-- the drafts that are left lead to the same groups, and there are places for their members
abbrev pub invariant-loop-draft : goal.invariant-loop-draft
invariant-loop-draft l = record {
  same : settled_by l.drafts.items l.entries.items ≡ settled_by l.initial.drafts.items l.initial.entries.items;
  places : HavePlaces l.drafts.items l.entries.items;
}

abbrev pub decreases-loop-draft : goal.decreases-loop-draft
decreases-loop-draft l = length l.drafts.items
