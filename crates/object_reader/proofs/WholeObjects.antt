-- What is read of an object has what its type keeps.
use Rattle.std.proofs.Common.{◌≡◌, ℕ, ◌≤◌, ◌-◌, ◌/◌, ◌^◌, List, Bool, true, false, not, nat_le, Option, Some, None, option_and_then, unwrap_or, find, codes, if◌then◌else◌, ◌↔◌, IfSome, refl, sym, subst, arith}
use Rattle.std.specs.Option.{ForSome}
use Rattle.std.proofs.Math.Nat.{mul-mod_left}
use Rattle.std.proofs.lemmas.Bool.{and_parts}
use Rattle.std.proofs.lemmas.Bool.Decides.{nat_tests}
use Rattle.serde_json.specs.Data.{Data}
use Rattle.cl_types.specs.declared.addr.Addr.{Addr}
use Rattle.cl_types.specs.declared.addr.Addr.TheVariants.{V4, V6}
use Rattle.cl_types.specs.Addr.{width_of}
use Rattle.cl_types.specs.Prefix.{PrefixData, IsBlock, cleared}
use Rattle.cl_types.specs.Reading.{IsPrefix}
use Rattle.cl_types.specs.ReadText.{read_block}
use Rattle.cluster_types.specs.declared.references.GroupBody.TheVariants.{Selected, Blocks, Children}
use Rattle.cluster_types.specs.Node.{IsNodeBlock, IsNodeBlock6}
use Rattle.json_fields.specs.Fields.{inner}
use Rattle.json_fields.specs.ValueLaws.{labels_ascend, selector_is}
use Rattle.object_reader.specs.Egresses.{egress_value, pooled_value}
use Rattle.object_reader.specs.Groups.{cluster_group, pod_selector, namespace_selector, group_body, group_value, has_blocks, has_children, ip_blocks, child_groups}
use Rattle.object_reader.specs.Laws.{NodesAreWhole, NamespacesAreWhole, SelectorsMakeGroups, IsWholeBody, ClusterGroupsAreWhole, EgressesAreWhole, PooledEgressesAreWhole}
use Rattle.object_reader.specs.Nodes.{metadata_of, spec_of, cidr_texts, is_node_block, is_node_block6, where_block, node_block, node_block6, no_node_block, node_cidr, node_cidr6, node_value, namespace_value}
use Rattle.object_reader.specs.Texts.{is_four, has_colon, has_no_colon}
use Rattle.object_reader.proofs.NodeBlocks.{four_is_kept, six_is_kept}

-- ---- values that may be there

for_some : {T : Type 0} (o : Option T) (P : T → Type 0) → IfSome o P → ForSome o P
for_some None P is x e = cc
for_some (Some y) P is x e = let same : y ≡ x = cc in subst P same is

module _ {X T : Type 0} (P : T → Type 0) (give : X → Option T) (each : (x : X) → IfSome (give x) P) where
  if_given : (o : Option X) → IfSome (option_and_then give o) P
  if_given None = tt
  if_given (Some x) = each x

  or_default : (d : T) → P d → (o : Option X) → P (unwrap_or (option_and_then give o) d)
  or_default d default None = default
  or_default d default (Some x) = by_cases (give x) (each x)
    where
      by_cases : (o : Option T) → IfSome o P → P (unwrap_or o d)
      by_cases None one = default
      by_cases (Some y) one = one

-- ---- blocks

abbrev pub BlocksAreRead : Type 0
BlocksAreRead = (text : List ℕ) (b : PrefixData) → ((read_block text ≡ Some b) ↔ IsPrefix text b)

cleared_is : (a : Addr) (len : ℕ) → len ≤ width_of a → IsBlock (cleared a len) len
cleared_is (V4 n) len le = (le, mul-mod_left (n / 2 ^ (32 - len)) (2 ^ (32 - len)))
cleared_is (V6 n) len le = (le, mul-mod_left (n / 2 ^ (128 - len)) (2 ^ (128 - len)))

prefix_is : (text : List ℕ) (b : PrefixData) → IsPrefix text b → IsBlock b.base b.len
prefix_is text b p = subst (λ (a : Addr). IsBlock a b.len) (sym p.base) (cleared_is p.address b.len p.len)

abbrev IsFour : PrefixData → Type 0
IsFour b = IsNodeBlock b.base b.len × IsBlock b.base b.len

abbrev IsSix : PrefixData → Type 0
IsSix b = IsNodeBlock6 b.base b.len × IsBlock b.base b.len

not_true : (b : Bool) → not b ≡ true → b ≡ false
not_true true e = cc
not_true false e = refl

at_most : (m n : ℕ) → nat_le m n ≡ true → m ≤ n
at_most m n is = grind (arith, nat_tests)

tested_four : (b : PrefixData) → IsBlock b.base b.len → is_node_block b ≡ true → IsFour b
tested_four b block passes =
    let parts = and_parts (is_four b.base) _ passes in
    let lens = and_parts (nat_le 8 b.len) (nat_le b.len 30) parts.1 in
    (four_is_kept b.base b.len parts.0 (at_most 8 b.len lens.0) (at_most b.len 30 lens.1), block)

tested_six : (b : PrefixData) → IsBlock b.base b.len → is_node_block6 b ≡ true → IsSix b
tested_six b block passes =
    let parts = and_parts (not (is_four b.base)) _ passes in
    let lens = and_parts (nat_le 16 b.len) (nat_le b.len 126) parts.1 in
    (six_is_kept b.base b.len (not_true (is_four b.base) parts.0) (at_most 16 b.len lens.0) (at_most b.len 126 lens.1), block)

-- what a test lets pass of a block that is read
where_block_is : (test : PrefixData → Bool) (P : PrefixData → Type 0) → ((b : PrefixData) → IsBlock b.base b.len → test b ≡ true → P b) → BlocksAreRead → (text : List ℕ) → IfSome (where_block test (read_block text)) P
where_block_is test P passed law text = by_read (read_block text) refl
  where
    by_test : (b : PrefixData) → IsBlock b.base b.len → (t : Bool) → test b ≡ t → IfSome (if t then Some b else None) P
    by_test b block true passes = passed b block passes
    by_test b block false fails = tt

    by_read : (o : Option PrefixData) → read_block text ≡ o → IfSome (where_block test o) P
    by_read None is = tt
    by_read (Some b) is = by_test b (prefix_is text b ((law text b).0 is)) (test b) refl

four_blocks : BlocksAreRead → (text : List ℕ) → IfSome (node_block text) IsFour
unfolding node_block
four_blocks law text = where_block_is is_node_block IsFour tested_four law text

six_blocks : BlocksAreRead → (text : List ℕ) → IfSome (node_block6 text) IsSix
unfolding node_block6
six_blocks law text = where_block_is is_node_block6 IsSix tested_six law text

-- ---- nodes and namespaces

cidr_is : BlocksAreRead → (texts : List (List ℕ)) → IsFour (node_cidr texts)
unfolding node_cidr
cidr_is law texts = or_default IsFour node_block (four_blocks law) no_node_block ((omega arith, omega arith), (omega arith, refl)) (find has_no_colon texts)

cidr6_is : BlocksAreRead → (texts : List (List ℕ)) → IfSome (node_cidr6 texts) IsSix
unfolding node_cidr6
cidr6_is law texts = if_given IsSix node_block6 (six_blocks law) (find has_colon texts)

pub nodes_are : BlocksAreRead → NodesAreWhole
unfolding node_value
nodes_are law d =
    let four = cidr_is law (cidr_texts (spec_of d)) in
    let six = for_some _ IsSix (cidr6_is law (cidr_texts (spec_of d))) in
    record { node = record { four = four.0; six = λ b e. (six b e).0 }; cidr = four.1; cidr6 = λ b e. (six b e).1 }

pub namespaces_are : NamespacesAreWhole
unfolding namespace_value
namespaces_are d = labels_ascend (inner (codes "labels") (metadata_of d))

-- ---- groups and Egresses

pub groups_are : SelectorsMakeGroups
unfolding cluster_group pod_selector namespace_selector
groups_are o = record { scope_form = selector_is (inner (codes "namespaceSelector") o); pods_form = selector_is (inner (codes "podSelector") o) }

body_is : (spec : Option Data) → IsWholeBody (group_body spec)
unfolding group_body
body_is spec = by_test (has_blocks spec) (has_children spec)
  where
    by_test : (b c : Bool) → IsWholeBody (if b then Blocks (ip_blocks spec) else (if c then Children (child_groups spec) else Selected (cluster_group spec)))
    by_test true c = tt
    by_test false true = tt
    by_test false false = groups_are spec

pub cluster_groups_are : ClusterGroupsAreWhole
unfolding group_value
cluster_groups_are d = body_is (spec_of d)

pub egresses_are : EgressesAreWhole
unfolding egress_value
egresses_are d = groups_are (inner (codes "appliedTo") (spec_of d))

pub pooled_are : PooledEgressesAreWhole
unfolding pooled_value
pooled_are d = groups_are (inner (codes "appliedTo") (spec_of d))
