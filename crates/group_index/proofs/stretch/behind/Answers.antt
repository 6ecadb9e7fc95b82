use Rattle.group_index.proofs.Stretches.{put_behind}
use Rattle.group_index.proofs.stretch.behind.Goals as goal

pub returns : goal.returns
returns c = λ p q r es both.
    put_behind p q r es both c.args.first c.args.second c.requires c.later.result c.later-2.result
    (record { first = c.later.ensures.first; second = c.later.ensures.second; one = c.later.ensures.one })
    (record { first = c.later-2.ensures.first; second = c.later-2.ensures.second; one = c.later-2.ensures.one })
