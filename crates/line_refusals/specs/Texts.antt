-- The text of each refusal (this project's own).
use Rattle.std.specs.Prelude.{ℕ, List, [], ◌++◌, codes}
use Rattle.std.specs.Fmt.{decimal}
use Rattle.cl_types.specs.Written.{pod_text, policy_text}
use Rattle.cluster_objects.specs.declared.change.ClusterRefusal.{ClusterRefusal}
use Rattle.cluster_objects.specs.declared.change.ClusterRefusal.TheVariants as cluster
use Rattle.json_fields.specs.declared.refusal.ReadRefusal.{ReadRefusal}
use Rattle.json_fields.specs.declared.refusal.ReadRefusal.TheVariants as reading
use Rattle.line_refusals.specs.declared.refusal.Refusal.{Refusal}
use Rattle.line_refusals.specs.declared.refusal.Refusal.TheVariants.{Reading, NotBuilt, TooLong, Applying, NoNode, NotCut, Full}

-- the refusal's name, and a space and the detail where there is one
abbrev pub reading_text : ReadRefusal → List ℕ
reading_text reading.NotJson = codes "NotJson"
reading_text (reading.BadShape path) = codes "BadShape " ++ path
reading_text (reading.Unsupported field) = codes "Unsupported " ++ field
reading_text reading.BadName = codes "BadName"
reading_text reading.BadLabel = codes "BadLabel"
reading_text reading.BadSelector = codes "BadSelector"
reading_text reading.BadAddr = codes "BadAddr"
reading_text reading.BadPrefix = codes "BadPrefix"
reading_text reading.BadPort = codes "BadPort"
reading_text reading.BadPriority = codes "BadPriority"
reading_text reading.BadAction = codes "BadAction"
reading_text reading.BadControl = codes "BadControl"
reading_text reading.NoMemory = []

abbrev pub applying_text : ClusterRefusal → List ℕ
applying_text cluster.NodesFixed = codes "NodesFixed"
applying_text (cluster.CidrOverlap node) = codes "CidrOverlap " ++ node
applying_text cluster.TierFixed = codes "TierFixed"
applying_text (cluster.TierTaken tier) = codes "TierTaken " ++ tier
applying_text (cluster.TierInUse policy) = codes "TierInUse " ++ policy_text policy
applying_text (cluster.NoSuchTier tier) = codes "NoSuchTier " ++ tier
applying_text (cluster.AddressInUse pod) = codes "AddressInUse " ++ pod_text pod
applying_text (cluster.TooMany limit) = codes "TooMany " ++ decimal limit
applying_text (cluster.TooManyMarks node) = codes "TooManyMarks " ++ node
applying_text cluster.NoMemory = []

abbrev pub refusal_text : Refusal → List ℕ
refusal_text (Reading refusal) = reading_text refusal
refusal_text NotBuilt = codes "NotBuilt"
refusal_text (TooLong count) = codes "TooLong " ++ decimal count
refusal_text (Applying refusal) = applying_text refusal
refusal_text NoNode = codes "NoNode"
refusal_text NotCut = codes "NotCut"
refusal_text Full = codes "Full"
