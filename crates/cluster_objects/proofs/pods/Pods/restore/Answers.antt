use Rattle.cluster_objects.proofs.Apart.{not_taken}
use Rattle.cluster_objects.proofs.pods.Pods.restore.Goals as goal

pub put-requires : goal.put-requires
put-requires c = record { free = not_taken c.args.pod c.args.self.now.pods c.requires.apart }
