-- The limits of a cluster (this project's own), in the order in which they are looked at.
use Rattle.std.specs.Prelude.{ℕ}

abbrev pub max_nodes : ℕ
max_nodes = 64

abbrev pub max_namespaces : ℕ
max_namespaces = 2000

abbrev pub max_pods : ℕ
max_pods = 20000

-- the static ones among them
abbrev pub max_tiers : ℕ
max_tiers = 20

-- policies of each of the three kinds
abbrev pub max_policies : ℕ
max_policies = 2000

abbrev pub max_egresses : ℕ
max_egresses = 2000

-- rules of a policy
abbrev pub max_rules : ℕ
max_rules = 100

-- peers of a rule
abbrev pub max_peers : ℕ
max_peers = 100

-- ports of a rule, services and named ports together
abbrev pub max_ports : ℕ
max_ports = 100

-- groups to which a policy applies
abbrev pub max_applied : ℕ
max_applied = 100

-- excepts of a block
abbrev pub max_excepts : ℕ
max_excepts = 100

-- rules of all native policies together
abbrev pub max_native_rules : ℕ
max_native_rules = 16000

-- rules of all Kubernetes policies together
abbrev pub max_kube_rules : ℕ
max_kube_rules = 16000

-- named ports of a pod
abbrev pub max_named_ports : ℕ
max_named_ports = 100

-- different addresses of which a node is the egress node: there are as many marks
abbrev pub max_marks : ℕ
max_marks = 255
