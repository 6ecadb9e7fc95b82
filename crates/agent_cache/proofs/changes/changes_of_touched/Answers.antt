use Rattle.held_maps.specs.Held.{maps_of}
use Rattle.agent_cache.proofs.ListsBetween.{touched_between}
use Rattle.agent_cache.proofs.changes.changes_of_touched.Goals as goal

pub returns : goal.returns
returns c =
    touched_between c.in_ok-old.old.items c.in_ok-new.new.items c.as_slice.result.now c.as_slice-2.result.now _ _ _ c.as_slice.ensures.value c.as_slice-2.ensures.value c.in_ok-lists.ensures
    c.args.s c.args.changes.now c.args.before.now (maps_of c.args.after.now) c.requires c.held_form.ensures.addresses c.held_form.ensures.own c.held_form-2.ensures.own c.in_ok-old.ensures.are c.in_ok-new.ensures.are
