-- A refused call.
use Rattle.std.proofs.Common.{◌≡◌, Result, Err}
use Rattle.cluster_objects.specs.declared.change.ClusterRefusal.{ClusterRefusal}
use Rattle.cluster_objects.specs.declared.change.ClusterRefusal.TheVariants as cluster
use Rattle.cluster_objects.specs.Apply.{Outcome}
use Rattle.cluster_objects.specs.Changes.{Follows}
use Rattle.cluster_types.specs.Cluster.{ClusterData}

-- a refused call leaves the cluster as it was
pub refused_same : (here : Result Outcome ClusterRefusal) (old new : ClusterData) (refusal : ClusterRefusal) → Follows here old (Err refusal) new → new ≡ old
refused_same here old new cluster.NoMemory f = f
refused_same here old new cluster.NodesFixed f = f.1
refused_same here old new (cluster.CidrOverlap x) f = f.1
refused_same here old new cluster.TierFixed f = f.1
refused_same here old new (cluster.TierTaken x) f = f.1
refused_same here old new (cluster.TierInUse x) f = f.1
refused_same here old new (cluster.NoSuchTier x) f = f.1
refused_same here old new (cluster.AddressInUse x) f = f.1
refused_same here old new (cluster.TooMany x) f = f.1
refused_same here old new (cluster.TooManyMarks x) f = f.1
