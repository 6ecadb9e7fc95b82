use Rattle.std.proofs.Common.{subst, sym}
use Rattle.group_index.specs.Index.{IsIndex}
use Rattle.group_index.proofs.Settling.{settled_ascends}
use Rattle.group_index.proofs.index.GroupIndex.settle.Goals as goal

pub invariant_of-self : goal.invariant_of-self
invariant_of-self c = subst IsIndex (sym c.settle.ensures) (settled_ascends c.args.drafts.drafts.items c.self.inside.entries.items c.self.invariant)
