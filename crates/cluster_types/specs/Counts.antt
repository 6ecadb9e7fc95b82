-- How much an object has of what is limited (this project's own).
use Rattle.std.specs.Prelude.{ℕ, ◌+◌, List, [], ◌∷◌, length, Bool, true, false, if◌then◌else◌}
use Rattle.std.specs.Option.{option_map_or}
use Rattle.cl_types.specs.declared.keys.PolicyKind.{PolicyKind}
use Rattle.cl_types.specs.declared.keys.PolicyKind.TheVariants.{Cluster, Antrea, Kube}
use Rattle.cl_types.specs.Service.{PortRange}
use Rattle.cluster_types.specs.declared.policy.Peer.{Peer}
use Rattle.cluster_types.specs.declared.policy.Peer.TheVariants as peer
use Rattle.cluster_types.specs.declared.policy.Rule.{Rule}
use Rattle.cluster_types.specs.Policy.{PolicyData}
use Rattle.cluster_types.specs.Steps.{is_kube}

-- what all of these have together
abbrev pub total : {T : Type 0} → (T → ℕ) → List T → ℕ
total count [] = 0
total count (x ∷ xs) = count x + total count xs

abbrev pub same_kind : PolicyKind → PolicyKind → Bool
same_kind Cluster Cluster = true
same_kind Antrea Antrea = true
same_kind Kube Kube = true
same_kind _ _ = false

-- a policy of the kind counts as one of its policies
abbrev pub count_of_kind : PolicyKind → PolicyData → ℕ
count_of_kind kind p = if same_kind p.key.kind kind then 1 else 0

-- as how many native rules a policy counts
abbrev pub native_rule_count : PolicyData → ℕ
native_rule_count p = if is_kube p.key.kind then 0 else length p.rules

-- as how many rules of Kubernetes policies a policy counts
abbrev pub kube_rule_count : PolicyData → ℕ
kube_rule_count p = if is_kube p.key.kind then length p.rules else 0

abbrev pub peers_of : Rule → List Peer
peers_of r = option_map_or (λ (peers : List Peer). peers) r.peers []

-- services and named ports together
abbrev pub port_count : Rule → ℕ
port_count r = option_map_or (λ (services : List PortRange). length services) r.services 0 + length r.named

abbrev pub except_count : Peer → ℕ
except_count (peer.Block b) = length b.excepts
except_count _ = 0
