use Rattle.held_maps.specs.Held.{maps_of}
use Rattle.agent_cache.proofs.ListsBetween.{all_between}
use Rattle.agent_cache.proofs.changes.changes_of_all.Goals as goal

pub returns : goal.returns
returns c =
    all_between c.in_ok-old.old.items c.in_ok-new.new.items c.as_slice.result.now c.as_slice-2.result.now _ _ _ c.as_slice.ensures.value c.as_slice-2.ensures.value c.in_ok-lists.ensures
    (maps_of c.args.before.now) (maps_of c.args.after.now) c.in_ok-old.ensures.are c.in_ok-new.ensures.are
