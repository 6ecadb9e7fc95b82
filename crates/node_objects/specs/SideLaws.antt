-- Laws of what an index of groups tells of a cluster, and of the groups that policies name.
use Rattle.std.proofs.Common.{◌≡◌, List, [], ◌∷◌, ◌++◌, Bool, true, false, ◌&&◌, Option, Some, None, option_map, if◌then◌else◌, refl, ap, ◌∙◌}
use Rattle.std.specs.List.{AllByRecursion, flat_map}
use Rattle.std.specs.declared.cmp.Ordering.TheVariants.{Less}
use Rattle.cl_types.specs.Addr.{addr_order}
use Rattle.cl_types.specs.AscendingLaws.{found_holds}
use Rattle.cl_types.specs.ListLaws.{all_weaker}
use Rattle.label_select.specs.Group.{Group, IsGroup}
use Rattle.label_select.specs.Written.{group_text}
use Rattle.cluster_types.specs.declared.policy.Peer.{Peer}
use Rattle.cluster_types.specs.declared.policy.Peer.TheVariants as peer
use Rattle.cluster_types.specs.declared.policy.Rule.{Rule}
use Rattle.cluster_types.specs.Cluster.{ClusterData}
use Rattle.cluster_types.specs.Policy.{PolicyData}
use Rattle.cluster_types.specs.Whole.{AreWholePeers, IsWholePeer, IsWholePolicy, IsWholeRule}
use Rattle.group_index.specs.Index.{EntryData, StandsFor, at_group, entry_of, members_in}
use Rattle.group_index.specs.Members as index
use Rattle.watch_streams.specs.Net.{member_order}
use Rattle.watch_streams.specs.Projection.{all_pods, has_names, is_egress, peer_groups, policy_groups, rule_groups}
use Rattle.touched_names.specs.Touching.{groups_named}
use Rattle.node_objects.specs.Indexed.{indexed_members, told}
use Rattle.node_objects.specs.Sides.{IsInUse}

-- ---- groups

abbrev pub TextsDiffer : Type 0
TextsDiffer = (a b : Group) → IsGroup a → IsGroup b → group_text a ≡ group_text b → a ≡ b

pub parts : {T : Type 0} (P : T → Type 0) (xs ys : List T) → AllByRecursion P (xs ++ ys) → AllByRecursion P xs × AllByRecursion P ys
parts P [] ys all = (tt, all)
parts P (x ∷ xs) ys all = let rest = parts P xs ys all.1 in ((all.0, rest.0), rest.1)

-- ---- members

-- a group in use has its members at the cluster
pub in_use_members : (c : ClusterData) (groups : List EntryData) → StandsFor groups c → (g : Group) → IsInUse groups g → indexed_members groups g ≡ index.members_of c g
in_use_members c groups stands g used = by_entry (entry_of groups g) refl used
  where
    by_entry : (o : Option EntryData) → entry_of groups g ≡ o → option_map (λ (e : EntryData). e.group) o ≡ Some g → members_in o ≡ index.members_of c g
    by_entry None is same = cc
    by_entry (Some e) is same =
        found_holds (at_group g) (λ (x : EntryData). x.members ≡ index.members_of c x.group) groups e stands is ∙ (let same : e.group ≡ g = cc in ap (index.members_of c) same)

-- what is told of members keeps the order of their addresses
pub follows : (a b : index.MemberData) → addr_order a.address b.address ≡ Less → member_order (told a) (told b) ≡ Less
follows a b less = rw less refl

-- ---- the groups that are named have the form of groups

pub all_append : {T : Type 0} (P : T → Type 0) (xs ys : List T) → AllByRecursion P xs → AllByRecursion P ys → AllByRecursion P (xs ++ ys)
all_append P [] ys all more = more
all_append P (x ∷ xs) ys all more = (all.0, all_append P xs ys all.1 more)

pub all_flat : {A T : Type 0} (P : T → Type 0) (f : A → List T) (xs : List A) → AllByRecursion (λ x. AllByRecursion P (f x)) xs → AllByRecursion P (flat_map f xs)
all_flat P f [] all = tt
all_flat P f (x ∷ xs) all = all_append P (f x) (flat_map f xs) all.0 (all_flat P f xs all.1)

peer_forms : (p : Peer) → IsWholePeer p → AllByRecursion IsGroup (peer_groups p)
peer_forms (peer.Group g) form = (form, tt)
peer_forms (peer.Block b) form = tt
peer_forms peer.Never form = tt

rule_forms : (r : Rule) (peers : Option (List Peer)) → AreWholePeers peers → AllByRecursion IsGroup (rule_groups r peers)
rule_forms r (Some peers) forms = all_flat IsGroup peer_groups peers (all_weaker IsWholePeer (λ p. AllByRecursion IsGroup (peer_groups p)) peer_forms peers forms)
rule_forms r None forms = by_test (is_egress r.key.dir && has_names r.named)
  where
    of_all : IsGroup all_pods
    of_all = record {
      scope_form = record { need_forms = tt; needs_ascend = tt; values_ascend = tt };
      pods_form = record { need_forms = tt; needs_ascend = tt; values_ascend = tt };
    }

    by_test : (b : Bool) → AllByRecursion IsGroup (if b then all_pods ∷ [] else [])
    by_test true = (of_all, tt)
    by_test false = tt

pub policy_forms : (p : PolicyData) → IsWholePolicy p → AllByRecursion IsGroup (groups_named p)
policy_forms p whole =
    all_append IsGroup p.applied (policy_groups p) whole.applied
    (all_flat IsGroup (λ (r : Rule). rule_groups r r.peers) p.rules (all_weaker IsWholeRule (λ (r : Rule). AllByRecursion IsGroup (rule_groups r r.peers)) (λ r forms. rule_forms r r.peers forms) p.rules whole.peers))
