use Rattle.std.proofs.Common.{List, map, sym, subst, ◌∙◌}
use Rattle.watch_streams.specs.declared.message.StreamObject.{StreamObject}
use Rattle.watch_streams.specs.Names.{AreDistinct, name_of}
use Rattle.watch_streams.specs.Projection.{projection}
use Rattle.node_objects.proofs.Indexes.{indexed_is}
use Rattle.node_objects.proofs.objects.objects_on.Goals as goal

pub of-requires-2 : goal.of-requires-2
of-requires-2 c =
    subst (λ (os : List StreamObject). AreDistinct (map name_of os))
    (sym (c.of.ensures ∙ (c.in_ok-indexed.ensures ∙ indexed_is c.args.c.now.cluster c.keeps_its_form.ensures.cluster c.args.groups.now c.requires c.args.node.now c.args.s)))
    (c.messages_name_once.ensures.snapshots (projection c.args.c.now.cluster c.args.s c.args.node.now) (c.projections_are_maps.ensures c.args.c.now.cluster c.args.s c.args.node.now c.keeps_its_form.ensures.cluster).ascends)

pub returns : goal.returns
returns c =
    c.of-2.ensures ∙ (c.of.ensures ∙ (c.in_ok-indexed.ensures ∙ indexed_is c.args.c.now.cluster c.keeps_its_form.ensures.cluster c.args.groups.now c.requires c.args.node.now c.args.s))
