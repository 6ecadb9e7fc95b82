use Rattle.std.proofs.Common.{◌∙◌, sym, ap, subst}
use Rattle.group_index.specs.Index.{StandsFor, without_use}
use Rattle.group_index.proofs.Uses.{without_use_stands}
use Rattle.group_index.proofs.index.GroupIndex.drop_group.Goals as goal

pub returns-in-Some-clause-stands : goal.returns-in-Some-clause-stands
returns-in-Some-clause-stands c = λ cluster stands.
    subst (λ index. StandsFor index cluster) (sym (c.drop_at.ensures.entries ∙ ap (without_use c.args.g.now) c.self.view_is)) (without_use_stands cluster c.args.g.now c.args.self.now stands)
