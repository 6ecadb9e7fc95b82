use Rattle.std.proofs.Common.{◌+◌, length, subst}
use Rattle.held_maps.specs.Ready.{start}
use Rattle.held_maps.specs.Rows.{IsRoom}
use Rattle.held_maps.proofs.finish.begin.Goals as goal

pub returns-then-not-whole-clause-rows : goal.returns-then-not-whole-clause-rows
returns-then-not-whole-clause-rows g c =
    c.move_to.ensures.rows c.args.more (subst (λ whole. IsRoom (length (start whole c.args.shelf.now) + c.args.more) c.args.rows.now) c.if-not-whole.true c.requires)
