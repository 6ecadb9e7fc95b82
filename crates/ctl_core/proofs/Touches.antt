-- Which names a change touches.
use Rattle.std.proofs.Common.{◌≡◌, ℕ, List, [], ◌∷◌, ◌++◌, true, false, filter, map, Option, Some, None, option_map, Ok, refl, sym, ap, ap₂, subst, ◌∙◌}
use Rattle.std.specs.List.{AllByRecursion, flat_map, list_any}
use Rattle.std.specs.Option.{option_map_or}
use Rattle.std.specs.Ordering.{is_eq}
use Rattle.std.proofs.lemmas.Cmp.{tied_itself}
use Rattle.std.proofs.lemmas.List.{map-append}
use Rattle.std.proofs.lemmas.List.Folds.{list_any-append}
use Rattle.cl_types.specs.declared.stream.Stream.{Stream}
use Rattle.cl_types.specs.Ascending.{found}
use Rattle.cl_types.specs.AscendingLaws.{found_holds}
use Rattle.cl_types.specs.ListLaws.{all_weaker}
use Rattle.cl_types.specs.Text.{text_order, text_order_total}
use Rattle.label_select.specs.Group.{Group}
use Rattle.label_select.specs.Written.{group_text}
use Rattle.cluster_types.specs.declared.change.Change.{Change}
use Rattle.cluster_types.specs.declared.change.Change.TheVariants.{Put, Remove}
use Rattle.cluster_types.specs.declared.change.Object.{Object}
use Rattle.cluster_types.specs.declared.change.Object.TheVariants as object
use Rattle.cluster_types.specs.declared.change.ObjectKey.TheVariants as key
use Rattle.cluster_types.specs.Cluster.{ClusterData, IsCluster}
use Rattle.cluster_types.specs.Egress.{EgressData}
use Rattle.cluster_types.specs.Policy.{PolicyData}
use Rattle.cluster_types.specs.Tier.{TierData, tier_named}
use Rattle.cluster_objects.specs.Apply.{Outcome, made, numbered, numbered_policy}
use Rattle.cluster_objects.specs.Changes.{apply, is_node, key_of, standing}
use Rattle.group_index.specs.declared.change.GroupChange.{GroupChange}
use Rattle.group_index.specs.ChangeLaws.{unchanged_is_same}
use Rattle.group_index.specs.Changes.{at_cluster, before_namespace, before_pod, change_if_any, changes_between, group_change, members_without}
use Rattle.group_index.specs.Index.{EntryData, StandsFor, at_group, entry_of}
use Rattle.group_index.specs.MemberLaws.{members_are_told, members_on_are_told}
use Rattle.group_index.specs.Members as index
use Rattle.watch_streams.specs.declared.message.StreamName.{StreamName}
use Rattle.watch_streams.specs.declared.message.StreamName.TheVariants as name
use Rattle.watch_streams.specs.Difference.{difference}
use Rattle.watch_streams.specs.MemberOrder.{member_order_total}
use Rattle.watch_streams.specs.Projection.{members_on, projection}
use Rattle.touched_names.specs.Elsewhere.{SameElsewhere, TouchedNamesJoin, TouchedNamesTellAll, changes_under}
use Rattle.touched_names.specs.Standing.{at_egress, at_policy, has_group, is_group}
use Rattle.touched_names.specs.Touching.{MovedGroupsTouch, OthersStay, SameMembers, SameRules, SameSpan, Stays, applies_to_some, egress_applies_to_some, egress_names, group_names, moved_names, named_groups, policy_names}
use Rattle.ctl_core.specs.Following.{StandsBefore, namespace_in, pod_in}
use Rattle.node_objects.specs.Indexed.{told}
use Rattle.node_objects.specs.Sides.{IsInUse}
use Rattle.ctl_core.specs.Touched.{AreTouched, ChangesTouch, TouchesOn, changed_groups, names_if_any, names_of_moved, touched_by}
use Rattle.ctl_core.specs.Uses.{IsCounted}
use Rattle.ctl_core.proofs.Changing.{numbered_key, numbered_names}
use Rattle.ctl_core.specs.Spread.{spread_groups}
use Rattle.ctl_core.proofs.Coming.{unless_ok}
use Rattle.ctl_core.proofs.Spreading.{or_both, spread_stays}
use Rattle.node_objects.specs.NodeLaws.{pods_on_is}
use Rattle.node_objects.specs.SideLaws.{follows, in_use_members}
use Rattle.ctl_core.proofs.Counted.{counted_used}
use Rattle.node_objects.specs.SideLaws.{TextsDiffer}

-- ---- groups that don't change

group_itself : (g h : Group) → h ≡ g → is_group g h ≡ true
group_itself g h same = ap (λ (x : Group). is_eq (text_order (group_text x) (group_text g))) same ∙ ap is_eq (tied_itself text_order_total (group_text g))

-- a change of the group would name it
one_unchanged : (g h : Group) (added removed : List index.MemberData) → has_group (changed_groups (change_if_any h added removed)) g ≡ false → is_group g h ≡ true → change_if_any h added removed ≡ []
one_unchanged g h [] [] none is = refl
one_unchanged g h [] (r ∷ removed) none is = let no : is_group g h ≡ false = (or_both (is_group g h) false none).0 in cc
one_unchanged g h (a ∷ added) removed none is = let no : is_group g h ≡ false = (or_both (is_group g h) false none).0 in cc

group_unchanged : (g h : Group) (old new : List index.MemberData) → has_group (changed_groups (group_change h old new)) g ≡ false → is_group g h ≡ true → group_change h old new ≡ []
unfolding group_change
group_unchanged g h old new none is = one_unchanged g h (members_without new old) (members_without old new) none is

module _ (before after : ClusterData) (g : Group) where
  abbrev change_of : EntryData → List GroupChange
  change_of e = group_change e.group (index.members_of before e.group) (index.members_of after e.group)

  all_unchanged : (entries : List EntryData) → has_group (changed_groups (flat_map change_of entries)) g ≡ false → AllByRecursion (λ (e : EntryData). is_group g e.group ≡ true → change_of e ≡ []) entries
  all_unchanged [] none = tt
  all_unchanged (e ∷ entries) none = (
    group_unchanged g e.group (index.members_of before e.group) (index.members_of after e.group) both.0,
    all_unchanged entries both.1,
  )
    where
      both : (has_group (changed_groups (change_of e)) g ≡ false) × (has_group (changed_groups (flat_map change_of entries)) g ≡ false)
      both =
          or_both (has_group (changed_groups (change_of e)) g) (has_group (changed_groups (flat_map change_of entries)) g)
          (sym (list_any-append (is_group g) (changed_groups (change_of e)) (changed_groups (flat_map change_of entries)))
          ∙ (ap (list_any (is_group g)) (sym (map-append (λ (x : GroupChange). x.group) (change_of e) (flat_map change_of entries))) ∙ none))

  none_changed : (entries : List EntryData) → has_group (changed_groups (changes_between before after entries)) g ≡ false → AllByRecursion (λ (e : EntryData). is_group g e.group ≡ true → change_of e ≡ []) entries
  unfolding changes_between
  none_changed entries none = all_unchanged entries none

  -- a group in use that isn't among those that changed has the same members
  members_stay : (entries : List EntryData) → IsInUse entries g → has_group (changed_groups (changes_between before after entries)) g ≡ false → index.members_of before g ≡ index.members_of after g
  members_stay entries used none = by_entry (entry_of entries g) refl used
    where
      by_entry : (o : Option EntryData) → entry_of entries g ≡ o → option_map (λ (e : EntryData). e.group) o ≡ Some g → index.members_of before g ≡ index.members_of after g
      by_entry None is same = cc
      by_entry (Some e) is same =
          let same : e.group ≡ g = cc in
          let here : is_group g e.group ≡ true → change_of e ≡ [] = found_holds (at_group g) (λ (x : EntryData). is_group g x.group ≡ true → change_of x ≡ []) entries e (none_changed entries none) is in
          unchanged_is_same before after g (subst (λ h. group_change h (index.members_of before h) (index.members_of after h) ≡ []) same (here (group_itself g e.group same)))

-- ---- pods and namespaces

told_same : (c d : ClusterData) → IsCluster c → IsCluster d → (g : Group) → index.members_of c g ≡ index.members_of d g → SameMembers c d g
told_same c d whole after g same = record {
  members = sym (members_are_told told member_order_total follows c whole g) ∙ (ap (map told) same ∙ members_are_told told member_order_total follows d after g);
  members_on = λ node.
      sym (members_on_are_told told member_order_total follows c whole node g)
      ∙ (ap (λ ms. map told (filter (index.is_member_on node) ms)) same ∙ members_on_are_told told member_order_total follows d after node g);
}

moved_at : (moved spread : List Group) (c d : ClusterData) → d.policies ≡ c.policies → d.egresses ≡ c.egresses → moved_names moved spread c ≡ moved_names moved spread d
moved_at moved spread c d policies egresses =
    ap₂ (λ ps es. group_names moved ++ (flat_map policy_names (filter (applies_to_some spread) ps) ++ flat_map egress_names (filter (egress_applies_to_some spread) es)))
    (sym policies) (sym egresses)

module _ (moved_touch : MovedGroupsTouch) (differ : TextsDiffer) (c d : ClusterData) (whole : IsCluster c) (after : IsCluster d) (entries : List EntryData) (counted : IsCounted c entries) where
  module _ (before : ClusterData) (stands : StandsFor entries before) where
    abbrev changes : List GroupChange
    changes = changes_between before d entries

    abbrev spread : List Group
    spread = spread_groups (at_cluster d entries) changes

    members_before : (g : Group) → IsInUse entries g → index.members_of c g ≡ index.members_of before g
    members_before g used = sym (in_use_members c entries counted.stands g used) ∙ in_use_members before entries stands g used

    same_members : (g : Group) → IsInUse entries g → has_group (changed_groups changes) g ≡ false → SameMembers c d g
    same_members g used none = told_same c d whole after g (members_before g used ∙ members_stay before d g entries used none)

    same_span : (g : Group) → IsInUse entries g → has_group spread g ≡ false → SameSpan c d g
    same_span g used none node =
        sym (pods_on_is c whole node g)
        ∙ (ap (list_any (index.is_member_on node)) (members_before g used)
        ∙ (spread_stays before d g entries node (group_itself g g refl) used none ∙ pods_on_is d after node g))

    -- where the index stands for what the cluster was, only the groups that it tells of have moved, or spread
    others_stay : OthersStay (changed_groups changes) spread c d
    others_stay =
        all_weaker (IsInUse entries) (Stays (changed_groups changes) spread c d)
        (λ g used. record { members = same_members g used; span = same_span g used }) (named_groups c) (counted_used differ c entries whole counted)

    moved_so : SameRules c d → SameElsewhere (names_of_moved changes (at_cluster d entries) d) c d
    moved_so rules =
        subst (λ names. SameElsewhere names c d) (moved_at (changed_groups changes) spread c d rules.policies rules.egresses)
        (moved_touch (changed_groups changes) spread c d rules others_stay)

-- ---- policies, Egresses and tiers

policy_stood : (o : Option PolicyData) → option_map_or policy_names o [] ≡ names_if_any (option_map object.Policy o)
policy_stood None = refl
policy_stood (Some p) = refl

egress_stood : (o : Option EgressData) → option_map_or egress_names o [] ≡ names_if_any (option_map object.Egress o)
egress_stood None = refl
egress_stood (Some e) = refl

tier_stood : (o : Option TierData) → [] ≡ names_if_any (option_map object.Tier o)
tier_stood None = refl
tier_stood (Some t) = refl

numbered_brings : (c : ClusterData) (p : PolicyData) → policy_names (numbered_policy c p) ≡ policy_names p
numbered_brings c p = ap₂ (λ k gs. name.Policy k ∷ group_names gs) (numbered_key c p) (numbered_names c p)

-- ---- one change

module _ (laws : ChangesTouch) (differ : TextsDiffer) (c : ClusterData) (whole : IsCluster c) (entries : List EntryData) (counted : IsCounted c entries) where
  abbrev Touches : Change → Option Object → ClusterData → Type 0
  Touches change old d = IsCluster d → StandsBefore change old entries d → SameElsewhere (touched_by change old entries d) c d

  made_touches : (change : Change) → is_node change ≡ false → Touches change (standing c (key_of change)) (made c (numbered c change)).cluster
  made_touches (Put (object.Node n)) is after stands = cc
  made_touches (Put (object.Namespace n)) is after stands =
      moved_so laws.moved differ c (made c (Put (object.Namespace n))).cluster whole after entries counted
      (before_namespace (namespace_in (standing c (key.Namespace n.name))) n.name (made c (Put (object.Namespace n))).cluster) stands (record { policies = refl; egresses = refl; nodes = refl })
  made_touches (Put (object.Pod p)) is after stands =
      moved_so laws.moved differ c (made c (Put (object.Pod p))).cluster whole after entries counted
      (before_pod (pod_in (standing c (key.Pod p.key))) (Some p) (made c (Put (object.Pod p))).cluster) stands (record { policies = refl; egresses = refl; nodes = refl })
  made_touches (Put (object.Tier t)) is after stands =
      subst (λ names. SameElsewhere names c (made c (Put (object.Tier t))).cluster) (tier_stood (tier_named t.name c.tiers))
      (laws.tiers c (made c (Put (object.Tier t))).cluster (record { ground = record { nodes = refl; namespaces = refl; pods = refl }; egresses = refl }) refl)
  made_touches (Put (object.Policy p)) is after stands =
      subst (λ names. SameElsewhere names c (made c (numbered c (Put (object.Policy p)))).cluster)
      (ap₂ (λ xs ys. xs ++ ys) (numbered_brings c p) (ap (λ k. option_map_or policy_names (found (at_policy k) c.policies) []) (numbered_key c p) ∙ policy_stood (found (at_policy p.key) c.policies)))
      (laws.put_policies c (made c (numbered c (Put (object.Policy p)))).cluster (numbered_policy c p) (record { ground = record { nodes = refl; namespaces = refl; pods = refl }; egresses = refl }) refl)
  made_touches (Put (object.Egress e)) is after stands =
      subst (λ names. SameElsewhere names c (made c (Put (object.Egress e))).cluster) (ap (λ ys. egress_names e ++ ys) (egress_stood (found (at_egress e.name) c.egresses)))
      (laws.put_egresses c (made c (Put (object.Egress e))).cluster e (record { ground = record { nodes = refl; namespaces = refl; pods = refl }; policies = refl }) refl)
  made_touches (Remove (key.Node n)) is after stands = cc
  made_touches (Remove (key.Namespace n)) is after stands =
      moved_so laws.moved differ c (made c (Remove (key.Namespace n))).cluster whole after entries counted
      (before_namespace (namespace_in (standing c (key.Namespace n))) n (made c (Remove (key.Namespace n))).cluster) stands (record { policies = refl; egresses = refl; nodes = refl })
  made_touches (Remove (key.Pod p)) is after stands =
      moved_so laws.moved differ c (made c (Remove (key.Pod p))).cluster whole after entries counted
      (before_pod (pod_in (standing c (key.Pod p))) None (made c (Remove (key.Pod p))).cluster) stands (record { policies = refl; egresses = refl; nodes = refl })
  made_touches (Remove (key.Tier t)) is after stands =
      subst (λ names. SameElsewhere names c (made c (Remove (key.Tier t))).cluster) (tier_stood (tier_named t c.tiers))
      (laws.tiers c (made c (Remove (key.Tier t))).cluster (record { ground = record { nodes = refl; namespaces = refl; pods = refl }; egresses = refl }) refl)
  made_touches (Remove (key.Policy name)) is after stands =
      subst (λ names. SameElsewhere names c (made c (Remove (key.Policy name))).cluster) (policy_stood (found (at_policy name) c.policies))
      (laws.removed_policies c (made c (Remove (key.Policy name))).cluster name whole (record { ground = record { nodes = refl; namespaces = refl; pods = refl }; egresses = refl }) refl)
  made_touches (Remove (key.Egress name)) is after stands =
      subst (λ names. SameElsewhere names c (made c (Remove (key.Egress name))).cluster) (egress_stood (found (at_egress name) c.egresses))
      (laws.removed_egresses c (made c (Remove (key.Egress name))).cluster name whole (record { ground = record { nodes = refl; namespaces = refl; pods = refl }; policies = refl }) refl)

  -- a change that is made touches these names
  change_touches : (change : Change) (o : Outcome) (old : Option Object) → is_node change ≡ false → apply c change ≡ Ok o → old ≡ standing c (key_of change)
      → IsCluster o.cluster → StandsBefore change old entries o.cluster → SameElsewhere (touched_by change old entries o.cluster) c o.cluster
  change_touches change o old is e stood =
      subst (λ x. Touches change x o.cluster) (sym stood)
      (subst (λ (z : Outcome). Touches change (standing c (key_of change)) z.cluster) (unless_ok _ (made c (numbered c change)) o e) (made_touches change is))

  -- with those that were touched before
  pub touches_on : TouchedNamesJoin → (change : Change) (o : Outcome) (old : Option Object) → is_node change ≡ false → apply c change ≡ Ok o → old ≡ standing c (key_of change)
      → IsCluster o.cluster → StandsBefore change old entries o.cluster → (names more : List StreamName) → more ≡ names ++ touched_by change old entries o.cluster → TouchesOn names more c o.cluster
  touches_on join change o old is e stood after stands names more more_is =
      λ start same.
      subst (λ xs. SameElsewhere xs start o.cluster) (sym more_is)
      (join names (touched_by change old entries o.cluster) start c o.cluster same (change_touches change o old is e stood after stands))

pub touches_same : (names : List StreamName) (c d : ClusterData) → d ≡ c → TouchesOn names names c d
touches_same names c d same = λ start rest. subst (λ x. SameElsewhere names start x) (sym same) rest

-- ---- what is told

-- what changes under the names that are touched is all that changes
pub told_all : TouchedNamesTellAll → (sorted : List StreamName) (c d : ClusterData) (s : Stream) (node : List ℕ) → IsCluster c → IsCluster d → AreTouched sorted c d
    → changes_under c d s node sorted ≡ difference (projection c s node) (projection d s node)
told_all law sorted c d s node whole after touched =
    ap (changes_under c d s node) touched.sorted_is ∙ sym (law touched.touched c d s node whole after touched.are_names touched.elsewhere)

-- names that are touched from a cluster on that is the same
pub touched_from : (sorted : List StreamName) (b c d : ClusterData) → c ≡ b → AreTouched sorted c d → AreTouched sorted b d
touched_from sorted b c d same touched = subst (λ x. AreTouched sorted x d) same touched
