use Rattle.std.proofs.Common.{◌∙◌}
use Rattle.flow_tables.proofs.Searching.{given_in_role}
use Rattle.flow_tables.proofs.lookup.is_given.Goals as goal

pub returns : goal.returns
returns c = c.is_in_classes.ensures ∙ given_in_role c.args.index.now c.args.flows.now c.requires.covers c.args.a.now c.args.priority c.args.id c.args.k c.requires.dimension
