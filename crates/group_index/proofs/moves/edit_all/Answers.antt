use Rattle.std.proofs.Common.{◌≡◌, ◌+◌, ◌∙◌, length, ap, subst, sym, arith}
use Rattle.std.proofs.lemmas.List.{length-append}
use Rattle.group_index.specs.Settled.{AscendByAddress, edited_by}
use Rattle.group_index.proofs.Editing.{edited_last, with_ascends}
use Rattle.group_index.proofs.moves.edit_all.Goals as goal

pub loop-edit-preserved : goal.loop-edit-preserved
loop-edit-preserved c =
    let edit = c.in-Some.edit in
    let left = c.pop.new.self.items in
    let members = c.loop-edit.members.items in
    record {
      same =
          ap (edited_by left) c.edit_at.ensures.items
          ∙ (sym (edited_last left edit members)
          ∙ (ap (λ edits. edited_by edits members) (sym c.in-Some.ensures.items) ∙ c.loop-edit.invariant.same));
      ascends = subst AscendByAddress (sym c.edit_at.ensures.items) (with_ascends edit.address edit.member members c.loop-edit.invariant.ascends);
      places =
          let more : length c.loop-edit.edits.items ≡ length left + 1 = ap length c.in-Some.ensures.items ∙ length-append left _ in
          c.edit_at.ensures.places (length left) (omega (arith, more, c.loop-edit.invariant.places));
    }
