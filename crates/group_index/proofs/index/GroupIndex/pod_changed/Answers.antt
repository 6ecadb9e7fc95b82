use Rattle.std.proofs.Common.{◌∙◌, subst, sym}
use Rattle.std.specs.List.{AllByRecursion}
use Rattle.std.specs.Option.{option_copied}
use Rattle.group_index.specs.Changes.{before_pod}
use Rattle.group_index.specs.Index.{StandsFor}
use Rattle.group_index.specs.Settled.{MovesAt, ShareNamespace, has_either, pod_addresses, pod_now}
use Rattle.group_index.proofs.Concerns.{pod_leaves, share_namespace}
use Rattle.group_index.proofs.Settling.{drafts_places, drafts_settled, moves}
use Rattle.group_index.proofs.Turns.{at_cluster_stands, changes_from}
use Rattle.group_index.proofs.index.GroupIndex.pod_changed.Goals as goal

pub drafts_of_pod-requires-clause-moves : goal.drafts_of_pod-requires-clause-moves
drafts_of_pod-requires-clause-moves c =
    let cluster = c.args.c.now.cluster in
    let old = option_copied c.args.old in
    let new = option_copied c.args.new in
    let now = pod_now old new cluster.pods in
    subst (λ now. AllByRecursion (MovesAt (has_either cluster old now) (pod_addresses old now) cluster) c.args.self.now) (sym c.pod_now.ensures)
    (moves (has_either cluster old now) (pod_addresses old now) (before_pod old new cluster) cluster (pod_leaves cluster c.keeps_its_form.ensures.cluster old new) c.args.self.now c.requires)

pub drafts_of_pod-requires-clause-pods : goal.drafts_of_pod-requires-clause-pods
drafts_of_pod-requires-clause-pods c =
    let old = option_copied c.args.old in
    subst (ShareNamespace old) (sym c.pod_now.ensures) (share_namespace old (option_copied c.args.new) c.args.c.now.cluster.pods)

pub settle-requires : goal.settle-requires
settle-requires c = drafts_places c.args.c.now.cluster c.args.self.now c.in_ok-drafts.drafts c.in_ok-drafts.ensures

pub returns-clause-changes : goal.returns-clause-changes
returns-clause-changes c = c.settle.ensures.changes ∙ (c.in_ok-drafts.ensures.changes ∙ changes_from _ c.args.c.now.cluster c.args.self.now c.requires)

pub returns-clause-index : goal.returns-clause-index
returns-clause-index c = c.settle.ensures.index ∙ drafts_settled c.args.c.now.cluster c.args.self.now c.in_ok-drafts.drafts c.in_ok-drafts.ensures

pub returns-clause-stands : goal.returns-clause-stands
returns-clause-stands c = subst (λ index. StandsFor index c.args.c.now.cluster) (sym (returns-clause-index c)) (at_cluster_stands c.args.c.now.cluster c.args.self.now)
