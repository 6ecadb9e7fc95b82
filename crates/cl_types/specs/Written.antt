-- Printed texts. Addresses: RFC 791's dotted decimals, and RFC 5952 for IPv6. The texts of policies, rules,
-- pods and verdicts are this project's own.
use Rattle.std.specs.Prelude.{◌≡◌, ℕ, zero, suc, false, ◌+◌, ◌/◌, ◌%◌, ◌^◌, ◌<◌, ◌≤◌, ◌==◌, nat_lt, if◌then◌else◌, List, [], ◌∷◌, ◌++◌, map, take, drop, length, slice_index, codes}
use Rattle.std.specs.List.{join_with_byte}
use Rattle.std.specs.Int.{to_be_bytes, w32}
use Rattle.std.specs.Fmt.{decimal, digits}
use Rattle.cl_types.specs.declared.addr.Addr.{Addr}
use Rattle.cl_types.specs.declared.addr.Addr.TheVariants.{V4, V6}
use Rattle.cl_types.specs.declared.keys.PolicyKind.TheVariants.{Cluster, Antrea, Kube}
use Rattle.cl_types.specs.declared.keys.Dir.{Dir}
use Rattle.cl_types.specs.declared.keys.Dir.TheVariants.{Ingress, Egress}
use Rattle.cl_types.specs.declared.keys.PodKey.{PodKey}
use Rattle.cl_types.specs.declared.keys.PolicyKind.{PolicyKind}
use Rattle.cl_types.specs.declared.keys.RuleKey.{RuleKey}
use Rattle.cl_types.specs.declared.verdict.Verdict.{Verdict}
use Rattle.cl_types.specs.declared.verdict.Verdict.TheVariants.{Allow, Drop, Reject}
use Rattle.cl_types.specs.declared.writing.ZeroRun.{ZeroRun}
use Rattle.cl_types.specs.Bytes.{dot, colon}
use Rattle.cl_types.specs.Prefix.{PrefixData}
use Rattle.cl_types.specs.PolicyName.{PolicyName, IsPolicyName}
use Rattle.cl_types.specs.Judgement.{Reason, by_rule, by_isolation, by_default, Judgement}

-- the last `count` digits of n to the base, the highest first
abbrev pub places : ℕ → ℕ → ℕ → List ℕ
places zero base n = []
places (suc count) base n = places count base (n / base) ++ (n % base ∷ [])

-- the eight groups of an IPv6 address
abbrev pub groups_of : ℕ → List ℕ
groups_of n = places 8 65536 n

-- how many groups at the front are zero
abbrev pub zeros_at_front : List ℕ → ℕ
zeros_at_front [] = 0
zeros_at_front (g ∷ gs) = if g == 0 then zeros_at_front gs + 1 else 0

-- the longest run of zero groups, and of equally long ones the first; `start` is where the list begins
abbrev pub longest_run : ℕ → List ℕ → ZeroRun
longest_run start [] = record { start = start; len = 0 }
longest_run start (g ∷ gs) =
    let later = longest_run (start + 1) gs in
    let here = zeros_at_front (g ∷ gs) in
    if nat_lt here later.len then later else (record { start = start; len = here })

-- so many groups from start on are there and zero
pub record IsZeroRun (gs : List ℕ) (start len : ℕ) : Type 0 where
  pub within : start + len ≤ length gs
  pub zeros : (k : ℕ) → start ≤ k → k < start + len → slice_index gs k ≡ 0

-- lower-case hexadecimal digits without leading zeros, joined by colons
abbrev pub hexadecimal_groups : List ℕ → List ℕ
hexadecimal_groups gs = join_with_byte colon (map (digits 16 false) gs)

-- `::` for the longest run of at least two zero groups
abbrev pub compressed : List ℕ → List ℕ
compressed gs =
    let run = longest_run 0 gs in
    if nat_lt run.len 2 then hexadecimal_groups gs
    else (hexadecimal_groups (take run.start gs) ++ (codes "::" ++ hexadecimal_groups (drop (run.start + run.len) gs)))

-- the four bytes in decimal, joined by dots
abbrev pub dotted : ℕ → List ℕ
dotted n = join_with_byte dot (map decimal (to_be_bytes w32 n))

-- four decimals joined by dots, or the text of RFC 5952
abbrev pub address_text : Addr → List ℕ
address_text (V4 n) = dotted n
address_text (V6 n) = compressed (groups_of n)

-- address, `/` and length
abbrev pub prefix_text : PrefixData → List ℕ
prefix_text b = address_text b.base ++ (codes "/" ++ decimal b.len)

-- namespace, `/` and name
abbrev pub pod_text : PodKey → List ℕ
pod_text k = k.namespace ++ (codes "/" ++ k.name)

abbrev pub kind_text : PolicyKind → List ℕ
kind_text Cluster = codes "acnp:"
kind_text Antrea = codes "anp:"
kind_text Kube = codes "knp:"

-- the kind's word with the name, or with namespace, `/` and name
abbrev pub name_text : PolicyKind → List ℕ → List ℕ → List ℕ
name_text Cluster namespace name = name
name_text _ namespace name = namespace ++ (codes "/" ++ name)

abbrev pub policy_text : PolicyName → List ℕ
policy_text k = kind_text k.kind ++ name_text k.kind k.namespace k.name

abbrev pub direction_text : Dir → List ℕ
direction_text Ingress = codes "ingress"
direction_text Egress = codes "egress"

-- the policy, and the rule's direction with its place in brackets
abbrev pub rule_text : RuleKey → List ℕ
rule_text r =
    policy_text r.policy ++ (codes " " ++ (direction_text r.dir ++ (codes "[" ++ (decimal r.index ++ codes "]"))))

-- how many bits the index of a rule has
abbrev pub index_bits : ℕ
index_bits = 32

-- what the types keep of a rule's name
pub record HasName (r : RuleKey) : Type 0 where
  pub policy : IsPolicyName r.policy.kind r.policy.namespace r.policy.name
  pub index : r.index < 2 ^ index_bits

abbrev pub verdict_text : Verdict → List ℕ
verdict_text Allow = codes "allow"
verdict_text Drop = codes "drop"
verdict_text Reject = codes "reject"

abbrev pub reason_text : Reason → List ℕ
reason_text (by_rule key) = rule_text key
reason_text by_isolation = codes "isolation"
reason_text by_default = codes "default"

-- the verdict, ` by ` and the cause
abbrev pub judged_text : Judgement → List ℕ
judged_text j = verdict_text j.verdict ++ (codes " by " ++ reason_text j.by)

-- the new text begins with the whole old one
abbrev pub Begins : List ℕ → List ℕ → Type 0
Begins old new = take (length old) new ≡ old
