use Rattle.std.proofs.Common.{Some, ◌∙◌, sym, ap, option_map}
use Rattle.group_index.specs.Index.{EntryData, entry_of}
use Rattle.group_index.proofs.Uses.{found_here}
use Rattle.group_index.proofs.index.GroupIndex.members.Goals as goal

pub returns-in-Some : goal.returns-in-Some
returns-in-Some c =
    ap Some c.members.ensures ∙ sym (ap (option_map (λ (e : EntryData). e.members)) (ap (λ index. entry_of index c.args.g.now) (sym c.self.view_is) ∙ found_here c.args.g.now c.self.inside.entries.items c.in-Some.i c.index.result.now (rw c.as_slice.ensures.value at c.in-Some.ensures.place) c.index.ensures))
