use Rattle.std.proofs.Common.{◌≡◌, ◌∙◌, ap, set}
use Rattle.cl_types.specs.Ascending.{put}
use Rattle.cl_types.specs.Text.{text_order}
use Rattle.group_index.specs.Index.{EntryData, StandsFor, entry_text, used_again, with_use}
use Rattle.group_index.proofs.Uses.{again_here, first_here, kept_ascends, with_use_stands, on_ok, on_err, either_way}
use Rattle.group_index.proofs.index.GroupIndex.put_group.Goals as goal

pub invariant_of-self : goal.invariant_of-self
invariant_of-self c =
    kept_ascends c.args.g.now c.self.inside.entries.items c.in-Some.i c.use_again.new.self c.index_mut.result.now (rw c.as_slice.ensures.value at c.in-Some.ensures.place) c.use_again.ensures.group c.index_mut.ensures.value c.self.invariant

pub returns-in-Some-clause-ok : goal.returns-in-Some-clause-ok
returns-in-Some-clause-ok c =
    on_ok (c.use_again.new.self ≡ used_again c.index_mut.result.now) _
    (λ again. ap (set c.self.inside.entries.items c.in-Some.i) again
    ∙ (again_here c.args.c.now.cluster c.args.g.now c.self.inside.entries.items c.in-Some.i c.index_mut.result.now (rw c.as_slice.ensures.value at c.in-Some.ensures.place) c.index_mut.ensures.value
    ∙ ap (with_use c.args.c.now.cluster c.args.g.now) c.self.view_is))
    c.use_again.result c.use_again.ensures.ok

pub returns-in_ok-entry-in-None-clause-ok : goal.returns-in_ok-entry-in-None-clause-ok
returns-in_ok-entry-in-None-clause-ok c =
    on_ok (c.put.new.items.items ≡ put (λ (x : EntryData). text_order (entry_text x) (entry_text c.in_ok-entry-in-None.entry)) c.in_ok-entry-in-None.entry c.self.inside.entries.items) _
    (λ new. new
    ∙ (ap (λ (e : EntryData). put (λ (x : EntryData). text_order (entry_text x) (entry_text e)) e c.self.inside.entries.items) c.in_ok-entry-in-None.ensures
    ∙ (first_here c.args.c.now.cluster c.args.g.now c.self.inside.entries.items (rw c.as_slice.ensures.value at c.in-None.ensures.none)
    ∙ ap (with_use c.args.c.now.cluster c.args.g.now) c.self.view_is)))
    c.put.result c.put.ensures.ok

pub returns-in_ok-entry-in-None-clause-stands : goal.returns-in_ok-entry-in-None-clause-stands
returns-in_ok-entry-in-None-clause-stands c =
    either_way (λ index. StandsFor index c.args.c.now.cluster) c.args.self.now (with_use c.args.c.now.cluster c.args.g.now c.args.self.now) c.put.new.items.items c.requires
    (with_use_stands c.args.c.now.cluster c.args.g.now c.args.self.now c.requires) c.put.result (returns-in_ok-entry-in-None-clause-ok c)
    (on_err (c.put.new.items.items ≡ c.self.inside.entries.items) _ (λ e. e ∙ c.self.view_is) c.put.result c.put.ensures.err)
