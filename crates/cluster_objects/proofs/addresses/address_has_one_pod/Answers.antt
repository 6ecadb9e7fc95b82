use Rattle.cluster_objects.specs.PodAtLaws.{only_pod_at}
use Rattle.cluster_objects.proofs.addresses.address_has_one_pod.Goals as goal

pub returns : goal.returns
returns c = only_pod_at
