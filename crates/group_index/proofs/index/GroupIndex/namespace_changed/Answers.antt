use Rattle.std.proofs.Common.{◌∙◌, subst, sym}
use Rattle.std.specs.Option.{option_copied}
use Rattle.group_index.specs.Changes.{before_namespace}
use Rattle.group_index.specs.Index.{StandsFor}
use Rattle.group_index.specs.Settled.{follows_labels, namespace_addresses}
use Rattle.group_index.proofs.Concerns.{namespace_leaves}
use Rattle.group_index.proofs.Settling.{drafts_places, drafts_settled, moves}
use Rattle.group_index.proofs.Turns.{at_cluster_stands, changes_from}
use Rattle.group_index.proofs.index.GroupIndex.namespace_changed.Goals as goal

pub drafts_of_namespace-requires : goal.drafts_of_namespace-requires
drafts_of_namespace-requires c =
    let cluster = c.args.c.now.cluster in
    let old = option_copied c.args.old in
    let name = c.args.name.now in
    moves follows_labels (namespace_addresses old name cluster.pods) (before_namespace old name cluster) cluster (namespace_leaves cluster c.keeps_its_form.ensures.cluster old name) c.args.self.now c.requires

pub settle-requires : goal.settle-requires
settle-requires c = drafts_places c.args.c.now.cluster c.args.self.now c.in_ok-drafts.drafts c.in_ok-drafts.ensures

pub returns-clause-changes : goal.returns-clause-changes
returns-clause-changes c = c.settle.ensures.changes ∙ (c.in_ok-drafts.ensures.changes ∙ changes_from _ c.args.c.now.cluster c.args.self.now c.requires)

pub returns-clause-index : goal.returns-clause-index
returns-clause-index c = c.settle.ensures.index ∙ drafts_settled c.args.c.now.cluster c.args.self.now c.in_ok-drafts.drafts c.in_ok-drafts.ensures

pub returns-clause-stands : goal.returns-clause-stands
returns-clause-stands c = subst (λ index. StandsFor index c.args.c.now.cluster) (sym (returns-clause-index c)) (at_cluster_stands c.args.c.now.cluster c.args.self.now)
