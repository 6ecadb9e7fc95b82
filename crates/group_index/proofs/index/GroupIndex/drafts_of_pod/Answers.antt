use Rattle.std.proofs.Common.{◌≡◌, ◌∙◌, List, subst, option_copied}
use Rattle.group_index.specs.Index.{EntryData}
use Rattle.group_index.specs.Settled.{AreDrafts, has_either, pod_addresses}
use Rattle.group_index.proofs.Concerns.{contains_neither}
use Rattle.group_index.proofs.Settling.{two_stretches}
use Rattle.group_index.proofs.Stretches.{weaker}
use Rattle.group_index.proofs.index.GroupIndex.drafts_of_pod.Goals as goal

pub returns : goal.returns
returns c =
    let cluster = c.args.c.now.cluster in
    let old = option_copied c.args.old in
    let now = option_copied c.args.now in
    let entries = c.as_slice-entries.result.now in
    let same : entries ≡ c.args.self.now = c.as_slice-entries.ensures.value ∙ c.self.view_is in
    let are = c.in_ok-of.ensures in
    subst (λ (index : List EntryData). AreDrafts cluster index c.draft_pod-2.new.self) same
    (two_stretches (has_either cluster old now) (pod_addresses old now) cluster entries (rw same c.requires.moves) c.in_ok-of.of c.new-drafts.result c.draft_pod.new.self c.draft_pod-2.new.self
    (weaker (λ (e : EntryData) off. contains_neither cluster e.group old now c.requires.pods off) entries c.in_ok-of.of are)
    (c.new-drafts.ensures cluster) c.in_ok-draft_pod.ensures c.in_ok-draft_pod-2.ensures)
