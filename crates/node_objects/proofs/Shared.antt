-- What messages to all nodes have in common tells what stands on each of them.
use Rattle.std.proofs.Common.{◌≡◌, ℕ, List, [], Bool, true, false, ◌&&◌, ◌||◌, cond, refl, sym, ap, ap₂, ◌∙◌}
use Rattle.std.specs.List.{flat_map, list_any}
use Rattle.cl_types.specs.declared.stream.Stream.TheVariants.{Addresses, Applied}
use Rattle.label_select.specs.Group.{Group}
use Rattle.cluster_types.specs.Cluster.{ClusterData}
use Rattle.cluster_types.specs.Policy.{PolicyData}
use Rattle.group_index.specs.Index.{EntryData, has_node}
use Rattle.watch_streams.specs.declared.message.StreamName.TheVariants as name
use Rattle.watch_streams.specs.Difference.{changed}
use Rattle.watch_streams.specs.OneOfAll.{list_any-each, list_any-flat_map}
use Rattle.watch_streams.specs.Projection.{policy_groups}
use Rattle.touched_names.specs.Standing.{group_standing, has_group}
use Rattle.node_objects.specs.declared.touched.TouchedName.{TouchedName}
use Rattle.node_objects.specs.Indexed.{all_told, is_policy_on, on_told}
use Rattle.node_objects.specs.Touched.{IsTouched, applies_there, members_changed, some_on, touched_group, touched_name, who_names}
use Rattle.node_objects.specs.UnderName.{applies_on, egress_applies_on, has_peer_on, some_applies_on, under_name}

-- a policy that passes concerns a node where it applies to one of the groups that are listed of it
where_on : (groups : List EntryData) (node : List ℕ) (k : PolicyData → Bool) (ps : List PolicyData) → some_on groups node (flat_map (λ (p : PolicyData). cond (k p) p.applied []) ps) ≡ list_any (λ p. k p && is_policy_on groups node p) ps
where_on groups node k ps =
    list_any-flat_map (λ g. has_node groups g node) (λ (p : PolicyData). cond (k p) p.applied []) ps
    ∙ list_any-each (λ (p : PolicyData). some_on groups node (cond (k p) p.applied [])) (λ p. k p && is_policy_on groups node p) (λ p. each (k p) p) ps
  where
    each : (b : Bool) (p : PolicyData) → some_on groups node (cond b p.applied []) ≡ (b && is_policy_on groups node p)
    each true p = refl
    each false p = refl

module _ (c : ClusterData) (groups : List EntryData) (node : List ℕ) (g : Group) where
  peers_there : some_on groups node (who_names c.policies g).as_peer ≡ list_any (has_peer_on groups node g) c.policies
  peers_there = where_on groups node (λ p. has_group (policy_groups p) g) c.policies

  applied_there : applies_there c groups node g (who_names c.policies g) ≡ some_applies_on c groups node g
  applied_there = ap (λ b. b || list_any (egress_applies_on c groups node g) c.egresses) (where_on groups node (λ (p : PolicyData). has_group p.applied g) c.policies)

module _ (c : ClusterData) (old : List EntryData) (d : ClusterData) (new : List EntryData) (node : List ℕ) (g : Group) (t : TouchedName) (touched : IsTouched c old d new t) (named : t.name ≡ name.Group g) where
  of_group : t ≡ touched_group c old d new g
  of_group = touched ∙ ap (touched_name c old d new) named

  pub members_are : t.members ≡ members_changed old new g
  members_are = ap (λ (x : TouchedName). x.members) of_group

  pub addresses_are : changed (group_standing (some_on old node t.before.as_peer) (all_told old) g) (group_standing (some_on new node t.after.as_peer) (all_told new) g) ≡ changed (under_name c old Addresses node t.name) (under_name d new Addresses node t.name)
  addresses_are =
      ap₂ changed
      (ap (λ b. group_standing b (all_told old) g) (ap (λ (x : TouchedName). some_on old node x.before.as_peer) of_group ∙ peers_there c old node g) ∙ ap (under_name c old Addresses node) (sym named))
      (ap (λ b. group_standing b (all_told new) g) (ap (λ (x : TouchedName). some_on new node x.after.as_peer) of_group ∙ peers_there d new node g) ∙ ap (under_name d new Addresses node) (sym named))

  pub applied_are : changed (group_standing (applies_there c old node g t.before) (on_told old node) g) (group_standing (applies_there d new node g t.after) (on_told new node) g) ≡ changed (under_name c old Applied node t.name) (under_name d new Applied node t.name)
  applied_are =
      ap₂ changed
      (ap (λ b. group_standing b (on_told old node) g) (ap (λ (x : TouchedName). applies_there c old node g x.before) of_group ∙ applied_there c old node g) ∙ ap (under_name c old Applied node) (sym named))
      (ap (λ b. group_standing b (on_told new node) g) (ap (λ (x : TouchedName). applies_there d new node g x.after) of_group ∙ applied_there d new node g) ∙ ap (under_name d new Applied node) (sym named))
