-- What is read of a pod, whatever the JSON is, has what its type keeps (this project's own).
use Rattle.serde_json.specs.Data.{Data}
use Rattle.cluster_types.specs.Whole.{IsWholePod}
use Rattle.pod_reader.specs.Pods.{pod_value}

abbrev pub PodsAreWhole : Type 0
PodsAreWhole = (d : Data) → IsWholePod (pod_value d)
