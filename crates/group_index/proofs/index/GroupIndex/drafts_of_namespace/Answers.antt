use Rattle.std.proofs.Common.{◌≡◌, ◌∙◌, List, subst, option_copied}
use Rattle.group_index.specs.Index.{EntryData}
use Rattle.group_index.specs.Settled.{AreDrafts, follows_labels, namespace_addresses}
use Rattle.group_index.proofs.Settling.{one_stretch}
use Rattle.group_index.proofs.index.GroupIndex.drafts_of_namespace.Goals as goal

pub returns : goal.returns
returns c =
    let cluster = c.args.c.now.cluster in
    let entries = c.as_slice-entries.result.now in
    let same : entries ≡ c.args.self.now = c.as_slice-entries.ensures.value ∙ c.self.view_is in
    subst (λ (index : List EntryData). AreDrafts cluster index c.draft_namespace.new.self) same
    (one_stretch follows_labels (namespace_addresses (option_copied c.args.old) c.args.name.now cluster.pods) cluster entries (rw same c.requires) c.in_ok-of.of c.new-drafts.result c.draft_namespace.new.self
    c.in_ok-of.ensures (c.new-drafts.ensures cluster) c.in_ok-draft_namespace.ensures)
