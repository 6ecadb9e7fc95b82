-- The groups in use at another cluster.
use Rattle.std.proofs.Common.{◌≡◌, ◌++◌, List, [], ◌∷◌, map, refl, ap, ◌∙◌}
use Rattle.std.specs.List.{flat_map}
use Rattle.cluster_types.specs.Cluster.{ClusterData}
use Rattle.group_index.specs.Changes.{at_cluster, change_at, changes_between, entry_at, group_change}
use Rattle.group_index.specs.Index.{EntryData, StandsFor}
use Rattle.group_index.specs.Members.{members_of}

stands-map : (c : ClusterData) (index : List EntryData) → StandsFor (map (entry_at c) index) c
stands-map c [] = tt
stands-map c (e ∷ es) = (refl, stands-map c es)

pub at_cluster_stands : (c : ClusterData) (index : List EntryData) → StandsFor (at_cluster c index) c
unfolding at_cluster
at_cluster_stands c index = stands-map c index

-- where the index stands for a cluster, its changes are those from that cluster
pub changes_from : (before c : ClusterData) (index : List EntryData) → StandsFor index before → flat_map (change_at c) index ≡ changes_between before c index
unfolding changes_between
changes_from before c [] stands = refl
changes_from before c (e ∷ es) stands =
    ap (λ ms. group_change e.group ms (members_of c e.group) ++ flat_map (change_at c) es) stands.0
    ∙ ap (λ changes. group_change e.group (members_of before e.group) (members_of c e.group) ++ changes) (changes_from before c es stands.1)
