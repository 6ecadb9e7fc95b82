-- What an index of groups tells of one name is what stands under the name at its cluster.
use Rattle.std.proofs.Common.{◌≡◌, ℕ, List, [], ◌∷◌, Bool, true, false, ◌&&◌, ◌||◌, Option, Some, None, option_map, if◌then◌else◌, refl, ap, ap₂, subst, ◌∙◌}
use Rattle.std.specs.List.{AllByRecursion, list_any}
use Rattle.std.specs.declared.cmp.Ordering.{Ordering}
use Rattle.std.specs.declared.cmp.Ordering.TheVariants.{Less, Equal, Greater}
use Rattle.std.specs.Ordering.{is_eq}
use Rattle.cl_types.specs.declared.stream.Stream.{Stream}
use Rattle.cl_types.specs.declared.stream.Stream.TheVariants.{Policies, Addresses, Applied}
use Rattle.cl_types.specs.Ascending.{found}
use Rattle.cl_types.specs.AscendingLaws.{found_holds, passed}
use Rattle.cl_types.specs.ListLaws.{all_weaker}
use Rattle.cl_types.specs.OrderLaws.{text_order_exact}
use Rattle.cl_types.specs.Text.{text_order}
use Rattle.label_select.specs.Group.{Group, IsGroup}
use Rattle.label_select.specs.Written.{group_text}
use Rattle.cluster_types.specs.Choice.{egress_counts}
use Rattle.cluster_types.specs.Cluster.{ClusterData, IsCluster}
use Rattle.cluster_types.specs.Egress.{EgressData}
use Rattle.cluster_types.specs.Policy.{PolicyData}
use Rattle.cluster_types.specs.Whole.{IsWholeEgress, IsWholePolicy}
use Rattle.group_index.specs.Index.{EntryData}
use Rattle.watch_streams.specs.declared.message.StreamName.{StreamName}
use Rattle.watch_streams.specs.declared.message.StreamName.TheVariants as name
use Rattle.watch_streams.specs.declared.message.StreamObject.TheVariants as object
use Rattle.watch_streams.specs.Net.{MemberData}
use Rattle.watch_streams.specs.OneOfAll.{all_of_both}
use Rattle.watch_streams.specs.Projection.{egress_is_on, group_members, members_on, policy_groups, policy_is_on}
use Rattle.touched_names.specs.Standing.{IsName, at_egress, at_policy, egress_object, group_standing, has_group, is_applied_on, is_group, is_peer_on, policy_object, standing}
use Rattle.node_objects.specs.Indexed.{all_told, is_egress_on, is_policy_on, on_told}
use Rattle.node_objects.specs.NodeLaws.{both_true}
use Rattle.node_objects.specs.Sides.{IsInUse, IsSide, NamesInUse}
use Rattle.node_objects.specs.UnderName.{applies_on, egress_applies_on, has_peer_on, some_applies_on, under_name}
use Rattle.node_objects.proofs.Concerns.{all_told_is, any-same, on_told_is}
use Rattle.node_objects.proofs.Indexes.{egresses_same, policies_same}
use Rattle.node_objects.specs.SideLaws.{TextsDiffer, parts, policy_forms}

-- ---- lists and tests

passed_found : {T : Type 0} (at : T → Ordering) (k l : T → Bool) (xs : List T) → AllByRecursion (λ x. k x ≡ l x) xs → (o : Option T) → found at xs ≡ o → passed k o ≡ passed l o
passed_found at k l xs all None is = refl
passed_found at k l xs all (Some x) is = ap (λ b. if b then Some x else None) (found_holds at (λ x. k x ≡ l x) xs x all is)

passed_same : {T : Type 0} (at : T → Ordering) (k l : T → Bool) (xs : List T) → AllByRecursion (λ x. k x ≡ l x) xs → passed k (found at xs) ≡ passed l (found at xs)
passed_same at k l xs all = passed_found at k l xs all (found at xs) refl

and-swap : (a b : Bool) → (a && b) ≡ (b && a)
and-swap true true = refl
and-swap true false = refl
and-swap false true = refl
and-swap false false = refl

or_cases : (a b : Bool) {Q : Type 0} → (a ≡ true → Q) → (b ≡ true → Q) → (a || b) ≡ true → Q
or_cases true b left right h = left refl
or_cases false b left right h = right h

equal_of : (r : Ordering) → is_eq r ≡ true → r ≡ Equal
equal_of Less h = cc
equal_of Equal h = refl
equal_of Greater h = cc

-- what one of the items that pass gives
any_gives : {T : Type 0} (k : T → Bool) (P : T → Type 0) (Q : Type 0) → ((x : T) → P x → k x ≡ true → Q) → (xs : List T) → AllByRecursion P xs → list_any k xs ≡ true → Q
any_gives k P Q give [] all h = cc
any_gives k P Q give (x ∷ xs) all h = or_cases (k x) (list_any k xs) (give x all.0) (any_gives k P Q give xs all.1) h

-- the members matter only where the group is there
standing_same : (g : Group) (there here : Bool) (members others : Group → List MemberData) → there ≡ here → (there ≡ true → members g ≡ others g) → group_standing there members g ≡ group_standing here others g
standing_same g true true members others same alike = ap (λ ms. Some (object.Group g ms)) (alike refl)
standing_same g true false members others same alike = cc
standing_same g false true members others same alike = cc
standing_same g false false members others same alike = refl

-- ---- groups in use

-- a group that is one in use is in use
one_used : TextsDiffer → (groups : List EntryData) (g h : Group) → IsGroup g → IsGroup h → IsInUse groups h → is_group g h ≡ true → IsInUse groups g
one_used differ groups g h form other used same =
    subst (IsInUse groups) (differ h g other form (text_order_exact (group_text h) (group_text g) (equal_of (text_order (group_text h) (group_text g)) same))) used

some_used : TextsDiffer → (groups : List EntryData) (g : Group) → IsGroup g → (hs : List Group) → AllByRecursion IsGroup hs → AllByRecursion (IsInUse groups) hs → has_group hs g ≡ true → IsInUse groups g
some_used differ groups g form [] forms used h = cc
some_used differ groups g form (x ∷ xs) forms used h =
    or_cases (is_group g x) (has_group xs g) (one_used differ groups g x form forms.0 used.0) (some_used differ groups g form xs forms.1 used.1) h

-- a policy's groups are in use, and have the form of groups
record NamesWell (groups : List EntryData) (p : PolicyData) : Type 0 where
  used : NamesInUse groups p
  applied : AllByRecursion IsGroup p.applied
  peers : AllByRecursion IsGroup (policy_groups p)

names_well : (groups : List EntryData) (p : PolicyData) → NamesInUse groups p → IsWholePolicy p → NamesWell groups p
names_well groups p used whole = let forms = parts IsGroup p.applied (policy_groups p) (policy_forms p whole) in record { used = used; applied = forms.0; peers = forms.1 }

record AppliesWell (c : ClusterData) (groups : List EntryData) (e : EgressData) : Type 0 where
  used : egress_counts c e ≡ true → IsInUse groups e.applied
  form : IsGroup e.applied

-- ---- one side

module _ (differ : TextsDiffer) (c : ClusterData) (whole : IsCluster c) (groups : List EntryData) (side : IsSide c groups) (node : List ℕ) where
  policies_well : AllByRecursion (NamesWell groups) c.policies
  policies_well = all_of_both (NamesInUse groups) IsWholePolicy (NamesWell groups) (names_well groups) c.policies side.policies whole.parts.policies

  egresses_well : AllByRecursion (AppliesWell c groups) c.egresses
  egresses_well = all_of_both (λ (e : EgressData). egress_counts c e ≡ true → IsInUse groups e.applied) IsWholeEgress (AppliesWell c groups) (λ e used form. record { used = used; form = form }) c.egresses side.egresses whole.parts.egresses

  module _ (g : Group) (form : IsGroup g) where
    -- ---- who names the group

    peer_on_is : list_any (has_peer_on groups node g) c.policies ≡ is_peer_on c node g
    peer_on_is =
        any-same (has_peer_on groups node g) (λ p. policy_is_on c node p && has_group (policy_groups p) g) c.policies
        (all_weaker (λ (p : PolicyData). is_policy_on groups node p ≡ policy_is_on c node p) (λ p. has_peer_on groups node g p ≡ (policy_is_on c node p && has_group (policy_groups p) g))
        (λ p same. and-swap (has_group (policy_groups p) g) (is_policy_on groups node p) ∙ ap (λ b. b && has_group (policy_groups p) g) same) c.policies (policies_same c whole groups side node))

    policy_applies_is : list_any (applies_on groups node g) c.policies ≡ list_any (λ (p : PolicyData). policy_is_on c node p && has_group p.applied g) c.policies
    policy_applies_is =
        any-same (applies_on groups node g) (λ (p : PolicyData). policy_is_on c node p && has_group p.applied g) c.policies
        (all_weaker (λ (p : PolicyData). is_policy_on groups node p ≡ policy_is_on c node p) (λ (p : PolicyData). applies_on groups node g p ≡ (policy_is_on c node p && has_group p.applied g))
        (λ p same. and-swap (has_group p.applied g) (is_policy_on groups node p) ∙ ap (λ b. b && has_group p.applied g) same) c.policies (policies_same c whole groups side node))

    egress_applies_is : list_any (egress_applies_on c groups node g) c.egresses ≡ list_any (λ (e : EgressData). egress_is_on c node e && is_group g e.applied) c.egresses
    egress_applies_is =
        any-same (egress_applies_on c groups node g) (λ (e : EgressData). egress_is_on c node e && is_group g e.applied) c.egresses
        (all_weaker (λ (e : EgressData). is_egress_on c groups node e ≡ egress_is_on c node e) (λ (e : EgressData). egress_applies_on c groups node g e ≡ (egress_is_on c node e && is_group g e.applied))
        (λ e same. and-swap (is_group g e.applied) (is_egress_on c groups node e) ∙ ap (λ b. b && is_group g e.applied) same) c.egresses (egresses_same c whole groups side node))

    applied_on_is : some_applies_on c groups node g ≡ is_applied_on c node g
    applied_on_is = ap₂ (λ a b. a || b) policy_applies_is egress_applies_is

    -- ---- a group that is named is in use

    peer_used : list_any (has_peer_on groups node g) c.policies ≡ true → IsInUse groups g
    peer_used =
        any_gives (has_peer_on groups node g) (NamesWell groups) (IsInUse groups g)
        (λ p well h. some_used differ groups g form (policy_groups p) well.peers well.used.peers (both_true (has_group (policy_groups p) g) (is_policy_on groups node p) h).0) c.policies policies_well

    policy_applied_used : list_any (applies_on groups node g) c.policies ≡ true → IsInUse groups g
    policy_applied_used =
        any_gives (applies_on groups node g) (NamesWell groups) (IsInUse groups g)
        (λ p well h. some_used differ groups g form p.applied well.applied well.used.applied (both_true (has_group p.applied g) (is_policy_on groups node p) h).0) c.policies policies_well

    egress_applied_used : list_any (egress_applies_on c groups node g) c.egresses ≡ true → IsInUse groups g
    egress_applied_used =
        any_gives (egress_applies_on c groups node g) (AppliesWell c groups) (IsInUse groups g)
        (λ e well h. let both = both_true (is_group g e.applied) (is_egress_on c groups node e) h in one_used differ groups g e.applied form well.form (well.used (both_true (egress_counts c e) _ both.1).0) both.0) c.egresses egresses_well

    applied_used : some_applies_on c groups node g ≡ true → IsInUse groups g
    applied_used = or_cases (list_any (applies_on groups node g) c.policies) (list_any (egress_applies_on c groups node g) c.egresses) policy_applied_used egress_applied_used

  pub under_is : (s : Stream) (n : StreamName) → IsName n → under_name c groups s node n ≡ standing c s node n
  under_is Policies (name.Policy key) form = ap (option_map policy_object) (passed_same (at_policy key) (is_policy_on groups node) (policy_is_on c node) c.policies (policies_same c whole groups side node))
  under_is Policies (name.Egress text) form = ap (option_map egress_object) (passed_same (at_egress text) (is_egress_on c groups node) (egress_is_on c node) c.egresses (egresses_same c whole groups side node))
  under_is Policies (name.Group g) form = refl
  under_is Addresses (name.Policy key) form = refl
  under_is Addresses (name.Egress text) form = refl
  under_is Addresses (name.Group g) form =
      standing_same g (list_any (has_peer_on groups node g) c.policies) (is_peer_on c node g) (all_told groups) (group_members c) (peer_on_is g form)
      (λ there. all_told_is c whole groups side.stands g (peer_used g form there))
  under_is Applied (name.Policy key) form = refl
  under_is Applied (name.Egress text) form = refl
  under_is Applied (name.Group g) form =
      standing_same g (some_applies_on c groups node g) (is_applied_on c node g) (on_told groups node) (members_on c node) (applied_on_is g form)
      (λ there. on_told_is c whole groups side.stands node g (applied_used g form there))
