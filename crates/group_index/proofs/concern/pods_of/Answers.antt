use Rattle.group_index.proofs.Stretches.{pods_stretch}
use Rattle.group_index.proofs.concern.pods_of.Goals as goal

pub returns : goal.returns
returns c =
    pods_stretch c.args.name.now c.args.pods.now _ _ _ _ c.place_from.result c.place_from-2.result
    c.in_ok-copy.ensures c.new.ensures c.in_ok-name_behind.ensures c.new-2.ensures
    c.place_from.ensures.within c.place_from-2.ensures.within c.place_from.ensures.before c.place_from-2.ensures.after
