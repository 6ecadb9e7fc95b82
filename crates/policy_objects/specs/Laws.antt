-- What is read of a policy, whatever the JSON is, has what its type keeps (this project's own).
use Rattle.serde_json.specs.Data.{Data}
use Rattle.cluster_types.specs.Whole.{IsWholePolicy}
use Rattle.policy_objects.specs.Policies.{kube_policy_value, antrea_policy_value, cluster_policy_value}

abbrev pub KubePoliciesAreWhole : Type 0
KubePoliciesAreWhole = (d : Data) → IsWholePolicy (kube_policy_value d)

abbrev pub AntreaPoliciesAreWhole : Type 0
AntreaPoliciesAreWhole = (d : Data) → IsWholePolicy (antrea_policy_value d)

-- but for the cluster groups to which it refers
abbrev pub ClusterPoliciesAreWhole : Type 0
ClusterPoliciesAreWhole = (d : Data) → IsWholePolicy (cluster_policy_value d).policy
