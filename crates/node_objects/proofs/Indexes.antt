-- What is read from an index of groups is what belongs on the streams at its cluster.
use Rattle.std.proofs.Common.{◌≡◌, ℕ, List, [], ◌∷◌, ◌++◌, Bool, true, false, cond, filter, map, refl, sym, ap, ap₂, ◌∙◌}
use Rattle.std.specs.List.{AllByRecursion, flat_map}
use Rattle.std.specs.declared.cmp.Ordering.{Ordering}
use Rattle.std.specs.declared.cmp.Ordering.TheVariants.{Less, Equal, Greater}
use Rattle.std.specs.Ordering.{match_ordering}
use Rattle.cl_types.specs.declared.stream.Stream.{Stream}
use Rattle.cl_types.specs.declared.stream.Stream.TheVariants.{Policies, Addresses, Applied}
use Rattle.cl_types.specs.Ascending.{put}
use Rattle.cl_types.specs.ListLaws.{all_filter, all_weaker}
use Rattle.cl_types.specs.Text.{text_order}
use Rattle.label_select.specs.Group.{Group}
use Rattle.label_select.specs.Written.{group_text}
use Rattle.cluster_types.specs.Choice.{egress_counts}
use Rattle.cluster_types.specs.Cluster.{ClusterData, IsCluster}
use Rattle.cluster_types.specs.Egress.{EgressData}
use Rattle.cluster_types.specs.Policy.{PolicyData}
use Rattle.group_index.specs.Index.{EntryData}
use Rattle.watch_streams.specs.declared.message.StreamObject.TheVariants as object
use Rattle.watch_streams.specs.Names.{at_text, by_name}
use Rattle.watch_streams.specs.Net.{MemberData}
use Rattle.watch_streams.specs.OneOfAll.{all_append, all_flat_map, all_map, flat_map-kept}
use Rattle.watch_streams.specs.Projection.{egress_is_on, egresses_on, group_members, group_object, groups_by_text, members_on, net_egress, net_policy, on_policies, policies_on, policy_groups, policy_is_on, projection}
use Rattle.node_objects.specs.Indexed.{all_objects, all_told, applied_groups_of, group_objects, indexed, is_egress_on, is_policy_on, on_told, peer_groups_of}
use Rattle.node_objects.specs.Sides.{IsInUse, IsSide, NamesInUse}
use Rattle.node_objects.proofs.Concerns.{all_told_is, on_told_is, policy_on_is, egress_on_is}

-- ---- lists

one_each : {A B : Type 0} (f : A → B) (xs : List A) → flat_map (λ x. f x ∷ []) xs ≡ map f xs
one_each f [] = refl
one_each f (x ∷ xs) = ap (λ ys. f x ∷ ys) (one_each f xs)

kept : {A B : Type 0} (f : A → List B) (k l : A → Bool) (xs : List A) → AllByRecursion (λ x. k x ≡ l x) xs → flat_map (λ x. cond (k x) (f x) []) xs ≡ flat_map f (filter l xs)
kept f k l xs same = sym (flat_map-kept f (λ x. cond (k x) (f x) []) l xs (all_weaker (λ x. k x ≡ l x) _ (λ x e. ap (λ b. cond b (f x) []) (sym e)) xs same))

map_same : {A B : Type 0} (f g : A → B) (xs : List A) → AllByRecursion (λ x. f x ≡ g x) xs → map f xs ≡ map g xs
map_same f g [] all = refl
map_same f g (x ∷ xs) all = ap₂ (λ y ys. y ∷ ys) all.0 (map_same f g xs all.1)

-- ---- groups as objects

put_group : (members : Group → List MemberData) (g : Group) (gs : List Group)
    → put (at_text (group_text g)) (group_object members g) (map (group_object members) gs) ≡ map (group_object members) (put (λ h. text_order (group_text h) (group_text g)) g gs)
put_group members g [] = refl
put_group members g (h ∷ hs) = by_order (text_order (group_text h) (group_text g)) (put_group members g hs)
  where
    by_order : (r : Ordering)
        → put (at_text (group_text g)) (group_object members g) (map (group_object members) hs) ≡ map (group_object members) (put (λ h. text_order (group_text h) (group_text g)) g hs)
        → match_ordering r (group_object members h ∷ put (at_text (group_text g)) (group_object members g) (map (group_object members) hs))
        (group_object members g ∷ map (group_object members) hs) (group_object members g ∷ group_object members h ∷ map (group_object members) hs)
        ≡ map (group_object members) (match_ordering r (h ∷ put (λ h. text_order (group_text h) (group_text g)) g hs) (g ∷ hs) (g ∷ h ∷ hs))
    by_order Less rest = ap (λ os. group_object members h ∷ os) rest
    by_order Equal rest = refl
    by_order Greater rest = refl

groups_by_name : (members : Group → List MemberData) (gs : List Group) → by_name (map (group_object members) gs) ≡ group_objects members gs
groups_by_name members [] = refl
groups_by_name members (g ∷ gs) =
    ap (put (at_text (group_text g)) (group_object members g)) (groups_by_name members gs) ∙ put_group members g (groups_by_text gs)

objects_are : (members others : Group → List MemberData) (gs : List Group) → AllByRecursion (λ g. members g ≡ others g) gs
    → group_objects members gs ≡ by_name (map (group_object others) gs)
objects_are members others gs same =
    sym (groups_by_name members gs)
    ∙ ap by_name (map_same (group_object members) (group_object others) gs (all_weaker (λ g. members g ≡ others g) _ (λ g e. ap (object.Group g) e) gs same))

-- ---- the streams

module _ (c : ClusterData) (whole : IsCluster c) (groups : List EntryData) (side : IsSide c groups) (node : List ℕ) where
  pub policies_same : AllByRecursion (λ (p : PolicyData). is_policy_on groups node p ≡ policy_is_on c node p) c.policies
  policies_same = all_weaker (NamesInUse groups) _ (λ p used. policy_on_is c whole groups side.stands node p used.applied) c.policies side.policies

  pub egresses_same : AllByRecursion (λ (e : EgressData). is_egress_on c groups node e ≡ egress_is_on c node e) c.egresses
  egresses_same = all_weaker (λ (e : EgressData). egress_counts c e ≡ true → IsInUse groups e.applied) _ (λ e used. egress_on_is c whole groups side.stands node e used) c.egresses side.egresses

  policies_used : AllByRecursion (NamesInUse groups) (policies_on c node)
  policies_used = all_filter (NamesInUse groups) (policy_is_on c node) c.policies side.policies

  objects_same : all_objects c groups node ≡ on_policies c node
  objects_same =
      ap₂ (λ xs ys. xs ++ ys)
      (kept (λ p. object.Policy (net_policy p) ∷ []) (is_policy_on groups node) (policy_is_on c node) c.policies policies_same ∙ one_each (λ p. object.Policy (net_policy p)) (policies_on c node))
      (kept (λ e. object.Egress (net_egress e) ∷ []) (is_egress_on c groups node) (egress_is_on c node) c.egresses egresses_same ∙ one_each (λ e. object.Egress (net_egress e)) (egresses_on c node))

  peers_same : peer_groups_of c groups node ≡ flat_map policy_groups (policies_on c node)
  peers_same = kept policy_groups (is_policy_on groups node) (policy_is_on c node) c.policies policies_same

  applied_same : applied_groups_of c groups node ≡ flat_map (λ (p : PolicyData). p.applied) (policies_on c node) ++ map (λ (e : EgressData). e.applied) (egresses_on c node)
  applied_same =
      ap₂ (λ xs ys. xs ++ ys)
      (kept (λ (p : PolicyData). p.applied) (is_policy_on groups node) (policy_is_on c node) c.policies policies_same)
      (kept (λ (e : EgressData). e.applied ∷ []) (is_egress_on c groups node) (egress_is_on c node) c.egresses egresses_same ∙ one_each (λ (e : EgressData). e.applied) (egresses_on c node))

  peers_used : AllByRecursion (IsInUse groups) (flat_map policy_groups (policies_on c node))
  peers_used = all_flat_map (IsInUse groups) policy_groups (policies_on c node) (all_weaker (NamesInUse groups) _ (λ p used. used.peers) (policies_on c node) policies_used)

  -- an Egress on the node counts
  egresses_used : (es : List EgressData) → AllByRecursion (λ (e : EgressData). egress_counts c e ≡ true → IsInUse groups e.applied) es
      → AllByRecursion (λ (e : EgressData). IsInUse groups e.applied) (filter (egress_is_on c node) es)
  egresses_used [] used = tt
  egresses_used (e ∷ es) used = by_count (egress_counts c e) refl (egresses_used es used.1)
    where
      by_on : (b : Bool) → IsInUse groups e.applied → AllByRecursion (λ (e : EgressData). IsInUse groups e.applied) (filter (egress_is_on c node) es)
          → AllByRecursion (λ (e : EgressData). IsInUse groups e.applied) (cond b (e ∷ filter (egress_is_on c node) es) (filter (egress_is_on c node) es))
      by_on true here rest = (here, rest)
      by_on false here rest = rest

      by_count : (b : Bool) → egress_counts c e ≡ b → AllByRecursion (λ (e : EgressData). IsInUse groups e.applied) (filter (egress_is_on c node) es)
          → AllByRecursion (λ (e : EgressData). IsInUse groups e.applied) (filter (egress_is_on c node) (e ∷ es))
      by_count true is rest = by_on (egress_is_on c node e) (used.0 is) rest
      by_count false is rest = rw is rest

  applied_used : AllByRecursion (IsInUse groups) (flat_map (λ (p : PolicyData). p.applied) (policies_on c node) ++ map (λ (e : EgressData). e.applied) (egresses_on c node))
  applied_used =
      all_append (IsInUse groups) (flat_map (λ (p : PolicyData). p.applied) (policies_on c node)) (map (λ (e : EgressData). e.applied) (egresses_on c node))
      (all_flat_map (IsInUse groups) (λ (p : PolicyData). p.applied) (policies_on c node) (all_weaker (NamesInUse groups) _ (λ p used. used.applied) (policies_on c node) policies_used))
      (all_map (IsInUse groups) (λ (e : EgressData). e.applied) (egresses_on c node) (egresses_used c.egresses side.egresses))

  pub indexed_is : (s : Stream) → indexed c groups s node ≡ projection c s node
  indexed_is Policies = ap by_name objects_same
  indexed_is Addresses =
      ap (group_objects (all_told groups)) peers_same
      ∙ objects_are (all_told groups) (group_members c) (flat_map policy_groups (policies_on c node))
      (all_weaker (IsInUse groups) _ (λ g used. all_told_is c whole groups side.stands g used) (flat_map policy_groups (policies_on c node)) peers_used)
  indexed_is Applied =
      ap (group_objects (on_told groups node)) applied_same
      ∙ objects_are (on_told groups node) (members_on c node) (flat_map (λ (p : PolicyData). p.applied) (policies_on c node) ++ map (λ (e : EgressData). e.applied) (egresses_on c node))
      (all_weaker (IsInUse groups) _ (λ g used. on_told_is c whole groups side.stands node g used) _ applied_used)
