use Rattle.std.proofs.Common.{◌<◌, ◌∙◌, ap, subst, sym}
use Rattle.group_index.specs.Settled.{HavePlaces, settled_by}
use Rattle.group_index.proofs.Settling.{fits_here, fits_within, places_less, settled_here, settled_last}
use Rattle.group_index.proofs.draft.settle.Goals as goal

pub index_mut-requires : goal.index_mut-requires
index_mut-requires c =
    let entries = c.loop-draft.entries.items in
    subst (λ n. c.in-Some.draft.place < n) (sym c.loop-draft.entries.ok.0)
    (fits_within c.in-Some.draft.place c.in-Some.draft.moves entries
    (places_less c.pop.new.self.items c.in-Some.draft entries (subst (λ ds. HavePlaces ds entries) c.in-Some.ensures.items c.loop-draft.invariant.places)).1)

pub settle-requires : goal.settle-requires
settle-requires c =
    let entries = c.loop-draft.entries.items in
    fits_here c.in-Some.draft.place c.in-Some.draft.moves entries c.index_mut.result.now
    (places_less c.pop.new.self.items c.in-Some.draft entries (subst (λ ds. HavePlaces ds entries) c.in-Some.ensures.items c.loop-draft.invariant.places)).1
    c.index_mut.ensures.value

pub loop-draft-preserved : goal.loop-draft-preserved
loop-draft-preserved c =
    let draft = c.in-Some.draft in
    let left = c.pop.new.self.items in
    let entries = c.loop-draft.entries.items in
    let both = places_less left draft entries (subst (λ ds. HavePlaces ds entries) c.in-Some.ensures.items c.loop-draft.invariant.places) in
    let step = settled_here draft.place draft.moves.edits.items entries c.index_mut.result.now c.settle.new.self (fits_within draft.place draft.moves entries both.1) c.index_mut.ensures.value c.settle.ensures in
    record {
      same =
          ap (settled_by left) step
          ∙ (sym (settled_last left draft entries)
          ∙ (ap (λ drafts. settled_by drafts entries) (sym c.in-Some.ensures.items) ∙ c.loop-draft.invariant.same));
      places = subst (HavePlaces left) (sym step) both.0;
    }
