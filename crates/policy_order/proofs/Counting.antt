-- The tests of pods that counting pods alone pass.
use Rattle.std.proofs.Common.{◌≡◌, List, [], ◌∷◌, Bool, true, false, ◌&&◌, ◌||◌, Option, Some, None, refl, ap, ◌∙◌}
use Rattle.std.specs.List.{list_any}
use Rattle.label_select.specs.Group.{Group}
use Rattle.cluster_types.specs.declared.policy.Peer.{Peer}
use Rattle.cluster_types.specs.declared.policy.Peer.TheVariants as peer
use Rattle.cluster_types.specs.Cluster.{ClusterData}
use Rattle.cluster_types.specs.Evaluation.{peer_contains_pod, peers_contain_pod}
use Rattle.cluster_types.specs.Groups.{in_group}
use Rattle.cluster_types.specs.Pod.{PodData, counts}

first_true : (b c : Bool) → b && c ≡ true → b ≡ true
first_true true c h = refl
first_true false c h = cc

pub in_group_counts : (c : ClusterData) (g : Group) (p : PodData) → in_group c g p ≡ true → counts p ≡ true
in_group_counts c g p h = first_true (counts p) _ h

peer_counts : (c : ClusterData) (p : PodData) (one : Peer) → peer_contains_pod c p one ≡ true → counts p ≡ true
peer_counts c p (peer.Group g) h = in_group_counts c g p h
peer_counts c p (peer.Block b) h = cc
peer_counts c p peer.Never h = cc

any_counts : (c : ClusterData) (p : PodData) (peers : List Peer) → list_any (peer_contains_pod c p) peers ≡ true → counts p ≡ true
any_counts c p [] h = cc
any_counts c p (one ∷ rest) h = by_test (peer_contains_pod c p one) refl h (any_counts c p rest)
  where
    by_test : (b : Bool) → peer_contains_pod c p one ≡ b → b || list_any (peer_contains_pod c p) rest ≡ true → (list_any (peer_contains_pod c p) rest ≡ true → counts p ≡ true) → counts p ≡ true
    by_test true is any later = peer_counts c p one is
    by_test false is any later = later any

pub peers_count : (c : ClusterData) (peers : Option (List Peer)) (p : PodData) → peers_contain_pod c p peers ≡ true → counts p ≡ true
peers_count c None p h = h
peers_count c (Some peers) p h = any_counts c p peers h

pub and_counts : (c : ClusterData) (peers : Option (List Peer)) (p : PodData) (b : Bool) → peers_contain_pod c p peers && b ≡ true → counts p ≡ true
and_counts c peers p b h = peers_count c peers p (first_true (peers_contain_pod c p peers) b h)

-- the test of the address last
pub any_address_last : (has peer defined : PodData → Bool) (pods : List PodData) → list_any (λ d. has d && peer d && defined d) pods ≡ list_any (λ d. (peer d && defined d) && has d) pods
any_address_last has peer defined [] = refl
any_address_last has peer defined (d ∷ ds) =
    ap (λ b. b || list_any (λ e. has e && peer e && defined e) ds) (turned (has d) (peer d) (defined d)) ∙ ap (λ b. ((peer d && defined d) && has d) || b) (any_address_last has peer defined ds)
  where
    turned : (h p n : Bool) → (h && p && n) ≡ ((p && n) && h)
    turned true true true = refl
    turned true true false = refl
    turned true false n = refl
    turned false true true = refl
    turned false true false = refl
    turned false false n = refl
