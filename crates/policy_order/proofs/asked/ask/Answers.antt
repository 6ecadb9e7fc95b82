use Rattle.std.proofs.Common.{option_copied}
use Rattle.cluster_objects.specs.PodAtLaws.{stands_for_all}
use Rattle.policy_order.proofs.asked.ask.Goals as goal

pub invariant_of-result : goal.invariant_of-result
invariant_of-result c = record { stands = stands_for_all c.args.cluster.now.cluster.pods c.args.question.now.peer (option_copied c.pod_at.result) c.pod_at.ensures.alone }
