-- Changes of a stream touch only these policies.
use Rattle.std.proofs.Common.{◌≡◌, ℕ, List, [], ◌∷◌, ◌++◌, Bool, true, false, not, ◌||◌, ◌&&◌, Option, Some, None, if◌then◌else◌, filter, map, unwrap_or, is_some, refl, sym, ap, ap₂, subst, ◌∙◌, codes, arith}
use Rattle.std.specs.List.{AllByRecursion, flat_map, list_any, list_all}
use Rattle.std.specs.Option.{option_to_list}
use Rattle.std.specs.declared.cmp.Ordering.{Ordering}
use Rattle.std.specs.declared.cmp.Ordering.TheVariants.{Less, Equal, Greater}
use Rattle.std.specs.Ordering.{is_eq}
use Rattle.std.proofs.lemmas.Cmp.{nat_list_cmp_total}
use Rattle.cl_types.specs.declared.keys.Dir.{Dir}
use Rattle.cl_types.specs.declared.keys.Dir.TheVariants.{Ingress, Egress}
use Rattle.cl_types.specs.declared.stream.Stream.{Stream}
use Rattle.cl_types.specs.declared.stream.Stream.TheVariants.{Policies, Addresses, Applied}
use Rattle.cl_types.specs.Addr.{addr_order}
use Rattle.cl_types.specs.Ascending.{Ascends, found, put, sorted_set}
use Rattle.cl_types.specs.AscendingLaws.{ascends_filter, equal_maps, found_at, found_filter, found_put, passed}
use Rattle.cl_types.specs.ListLaws.{all_weaker}
use Rattle.cl_types.specs.OrderLaws.{text_order_exact}
use Rattle.cl_types.specs.PolicyName.{PolicyName}
use Rattle.cl_types.specs.Prefix.{PrefixData, block_of}
use Rattle.cl_types.specs.Text.{text_order}
use Rattle.cl_types.specs.declared.keys.PolicyKind.{PolicyKind}
use Rattle.cl_types.specs.declared.keys.PolicyKind.TheVariants.{Cluster, Antrea, Kube}
use Rattle.cl_types.specs.Written.{kind_text, name_text as policy_name_text, policy_text}
use Rattle.label_select.specs.Group.{Group}
use Rattle.label_select.specs.Written.{group_text}
use Rattle.held_maps.specs.Held.{policy_title}
use Rattle.held_maps.proofs.Picked.{found_picked, part_of, picked, picked_ascend}
use Rattle.watch_streams.specs.declared.message.StreamChange.{StreamChange}
use Rattle.watch_streams.specs.declared.message.StreamObject.{StreamObject}
use Rattle.watch_streams.specs.declared.message.StreamObject.TheVariants as object
use Rattle.watch_streams.specs.declared.message.StreamChange.TheVariants as change
use Rattle.watch_streams.specs.declared.message.StreamName.{StreamName}
use Rattle.watch_streams.specs.declared.message.StreamName.TheVariants as name
use Rattle.watch_streams.specs.declared.net.NetPeers.{NetPeers}
use Rattle.watch_streams.specs.declared.net.NetRule.{NetRule}
use Rattle.watch_streams.specs.ChangeLaws.{ascends_change, ascends_changes, cell, change_text, found_change, settled_name}
use Rattle.watch_streams.specs.Difference.{after_change, after_changes, belongs, members_of, patched, put_object, settled}
use Rattle.watch_streams.specs.HeldEvaluation.{HeldMaps, group_in, groups_of, held_group, held_policies, is_held, policy_in, resolving_groups, resolving_map}
use Rattle.watch_streams.specs.InForce.{ArePeersOf, addresses_in, member_address, members_in, ports_named, rules_of}
use Rattle.watch_streams.specs.Names.{AscendByName, at_text, changed_name, name_of, name_text, object_text}
use Rattle.watch_streams.specs.Net.{NetPolicyData}
use Rattle.watch_streams.specs.OneOfAll.{all_flat_map, all_map, all_of, filter-all}
use Rattle.watch_streams.specs.Projection.{has_names}
use Rattle.watch_streams.specs.PartOrders.{block_order, resolved_order}
use Rattle.touched_rules.specs.Touched.{SameRule, other_policies, touched_policies}
use Rattle.touched_rules.specs.Touching.{ChangesTouchOnlyThese, TouchOnly, egress_groups, group_changed, maps_after, may_change_group, may_name_group, may_name_policy, policy_changed, policies_touched, reads_changed, some_changed, touches}
use Rattle.touched_rules.proofs.UnderKeys.{all_found}

neither : (a b : Bool) → (a || b) ≡ false → (a ≡ false) × (b ≡ false)
neither true b e = cc
neither false b e = (refl, e)

none_of : {T : Type 0} (q : T → Bool) (xs : List T) → list_any q xs ≡ false → AllByRecursion (λ x. q x ≡ false) xs
none_of q [] e = tt
none_of q (x ∷ xs) e = let parts = neither (q x) (list_any q xs) e in (parts.0, none_of q xs parts.1)

-- all that a test keeps pass it
all_pass : {T : Type 0} (k : T → Bool) (xs : List T) → AllByRecursion (λ x. k x ≡ true) (filter k xs)
all_pass k [] = tt
all_pass {T = T} k (x ∷ xs) = by_test (k x) refl (all_pass k xs)
  where
    by_test : (b : Bool) → k x ≡ b → AllByRecursion (λ y. k y ≡ true) (filter k xs) → AllByRecursion (λ y. k y ≡ true) (if b then x ∷ filter k xs else filter k xs)
    by_test true is rest = (is, rest)
    by_test false is rest = rest

not_true : (b : Bool) → not b ≡ true → b ≡ false
not_true true e = cc
not_true false e = refl

-- ---- names

-- one of the changes is under the name with this text
abbrev is_changed : List StreamChange → List ℕ → Bool
is_changed cs t = list_any (λ c. is_eq (text_order (change_text c) t)) cs

weaker : {T : Type 0} (p q : T → Bool) → ((x : T) → q x ≡ false → p x ≡ false) → (xs : List T) → list_any q xs ≡ false → list_any p xs ≡ false
weaker p q f [] e = refl
weaker p q f (x ∷ xs) e =
    let parts = neither (q x) (list_any q xs) e in
    ap (λ b. b || list_any p xs) (f x parts.0) ∙ weaker p q f xs parts.1

group_free : (g : Group) (n : StreamName) → may_name_group g n ≡ false → is_eq (text_order (name_text n) (group_text g)) ≡ false
group_free g (name.Group other) e = e
group_free g (name.Policy key) e = cc
group_free g (name.Egress text) e = cc

-- no policy has the text of an Egress's name
not_egress : (key : PolicyName) (text : List ℕ) → policy_text key ≡ codes "egress:" ++ text → ⊥
not_egress key text e = by_kind key.kind (policy_name_text key.kind key.namespace key.name) e
  where
    by_kind : (k : PolicyKind) (rest : List ℕ) → kind_text k ++ rest ≡ codes "egress:" ++ text → ⊥
    by_kind Cluster rest e = let apart : ◌≡◌ {A = ℕ} 97 101 = cc in omega (arith, apart)
    by_kind Antrea rest e = let apart : ◌≡◌ {A = ℕ} 97 101 = cc in omega (arith, apart)
    by_kind Kube rest e = let apart : ◌≡◌ {A = ℕ} 107 101 = cc in omega (arith, apart)

policy_free : (key : PolicyName) (n : StreamName) → may_name_policy key n ≡ false → is_eq (text_order (name_text n) (policy_text key)) ≡ false
policy_free key (name.Policy other) e = e
policy_free key (name.Group g) e = cc
policy_free key (name.Egress text) e = by_order (text_order (codes "egress:" ++ text) (policy_text key)) refl
  where
    by_order : (r : Ordering) → text_order (codes "egress:" ++ text) (policy_text key) ≡ r → is_eq r ≡ false
    by_order Less is = refl
    by_order Greater is = refl
    by_order Equal is = absurd (not_egress key text (sym (text_order_exact (codes "egress:" ++ text) (policy_text key) is)))

-- a policy under a changed name is changed
policy_is_changed : (cs : List StreamChange) (key : PolicyName) → is_changed cs (policy_text key) ≡ true → policy_changed cs key ≡ true
policy_is_changed cs key e = by_test (policy_changed cs key) refl
  where
    by_test : (b : Bool) → policy_changed cs key ≡ b → policy_changed cs key ≡ true
    by_test true is = is
    by_test false is =
        let none : is_changed cs (policy_text key) ≡ false = weaker (λ c. is_eq (text_order (change_text c) (policy_text key))) (λ c. may_name_policy key (changed_name c)) (λ c free. policy_free key (changed_name c) free) cs is in
        cc

-- ---- what stands elsewhere

-- under a name that isn't changed the same stands
found_unchanged : (s : Stream) (cs : List StreamChange) (t : List ℕ) (held : List StreamObject) → AscendByName held → is_changed cs t ≡ false → found (at_text t) (after_changes s cs held) ≡ found (at_text t) held
found_unchanged s [] t held up free = refl
found_unchanged s (c ∷ cs) t held up free =
    let parts = neither (is_eq (text_order (change_text c) t)) (is_changed cs t) free in
    found_unchanged s cs t (after_change s c held) (ascends_change s c held up) parts.1
    ∙ (found_change s c t held up ∙ ap (λ b. if b then cell s c (found (at_text t) held) else found (at_text t) held) parts.0)

-- neither a put nor a patch of another group changes what stands at a text
found_put_other : (s : Stream) (o : StreamObject) (t : List ℕ) (held : List StreamObject) → is_eq (text_order (object_text o) t) ≡ false → found (at_text t) (put_object s o held) ≡ found (at_text t) held
found_put_other s o t held other = by_test (belongs s o)
  where
    by_test : (b : Bool) → found (at_text t) (if b then put (at_text (object_text o)) o held else held) ≡ found (at_text t) held
    by_test true = found_put object_text nat_list_cmp_total t o held ∙ ap (λ b. if b then Some o else found (at_text t) held) other
    by_test false = refl

found_after_other : (s : Stream) (g : Group) (c : StreamChange) (held : List StreamObject) → may_change_group g c ≡ false → found (at_text (group_text g)) (after_change s c held) ≡ found (at_text (group_text g)) held
found_after_other s g (change.Put o) held free =
    found_put_other s (settled o) (group_text g) held (ap (λ n. is_eq (text_order (name_text n) (group_text g))) (settled_name o) ∙ group_free g (name_of o) free)
found_after_other s g (change.Patch group added removed) held free =
    found_put_other s (object.Group group (patched (members_of (found (at_text (group_text group)) held)) added removed)) (group_text g) held (group_free g (name.Group group) free)
found_after_other s g (change.Remove n) held free = cc

group_unchanged : (s : Stream) (cs : List StreamChange) (g : Group) (held : List StreamObject) → group_changed cs g ≡ false → found (at_text (group_text g)) (after_changes s cs held) ≡ found (at_text (group_text g)) held
group_unchanged s [] g held free = refl
group_unchanged s (c ∷ cs) g held free =
    let parts = neither (may_change_group g c) (group_changed cs g) free in
    group_unchanged s cs g (after_change s c held) parts.1 ∙ found_after_other s g c held parts.0

-- the groups have the same members at both
abbrev SameGroups : List StreamObject → List StreamObject → List Group → Type 0
SameGroups m n groups = AllByRecursion (λ g. held_group m g ≡ held_group n g) groups

groups_unchanged : (s : Stream) (cs : List StreamChange) (held : List StreamObject) (groups : List Group) → some_changed cs groups ≡ false → SameGroups held (after_changes s cs held) groups
groups_unchanged s cs held groups free =
    all_weaker (λ g. group_changed cs g ≡ false) (λ g. held_group held g ≡ held_group (after_changes s cs held) g)
    (λ g none. ap group_in (sym (group_unchanged s cs g held none))) groups (none_of (group_changed cs) groups free)

groups_same : (m : List StreamObject) (groups : List Group) → SameGroups m m groups
groups_same m [] = tt
groups_same m (g ∷ gs) = (refl, groups_same m gs)

module _ (m n : List StreamObject) where
  members_same : (groups : List Group) → SameGroups m n groups → members_in m groups ≡ members_in n groups
  members_same [] same = refl
  members_same (g ∷ gs) same = ap₂ ◌++◌ (ap (λ o. unwrap_or o []) same.0) (members_same gs same.1)

  held_same : (groups : List Group) → SameGroups m n groups → list_all (is_held m) groups ≡ list_all (is_held n) groups
  held_same [] same = refl
  held_same (g ∷ gs) same = ap₂ ◌&&◌ (ap is_some same.0) (held_same gs same.1)

  addresses_same : (groups : List Group) → SameGroups m n groups → addresses_in m groups ≡ addresses_in n groups
  addresses_same groups same = ap (λ ms. sorted_set addr_order (map member_address ms)) (members_same groups same)

-- ---- a rule that reads no changed group

-- what the rule reads is the same at both
record SameReading (old new : HeldMaps) (p : NetPolicyData) (r : NetRule) : Type 0 where
  pub peers : SameGroups old.addresses new.addresses (groups_of r.peers)
  pub applied : SameGroups old.applied new.applied p.applied
  pub resolving : SameGroups (resolving_map old r.key.dir) (resolving_map new r.key.dir) (resolving_groups p r r.key.dir)

module _ (old new : HeldMaps) where
  peers_same : (peers : Option NetPeers) (blocks : Option (List PrefixData)) → SameGroups old.addresses new.addresses (groups_of peers) → ArePeersOf old peers blocks → ArePeersOf new peers blocks
  peers_same None None same are = tt
  peers_same None (Some blocks) same are = absurd are
  peers_same (Some peers) None same are = absurd are
  peers_same (Some peers) (Some blocks) same are = record {
    own = are.own;
    are_own = are.are_own;
    all = are.all ∙ ap (λ xs. sorted_set block_order (map block_of xs ++ are.own)) (addresses_same old.addresses new.addresses peers.groups same);
  }

  same_rule : (p : NetPolicyData) (r : NetRule) → SameReading old new p r → SameRule old new (record { policy = p; rule = r })
  same_rule p r same = record {
    complete = ap₂ ◌&&◌
        (ap₂ ◌&&◌ (held_same old.addresses new.addresses (groups_of r.peers) same.peers) (held_same old.applied new.applied p.applied same.applied))
        (ap (λ b. not (has_names r.named) || b) (held_same (resolving_map old r.key.dir) (resolving_map new r.key.dir) (resolving_groups p r r.key.dir) same.resolving));
    parts = λ parts is. record {
      key = is.key;
      action = is.action;
      pods = is.pods ∙ addresses_same old.applied new.applied p.applied same.applied;
      peers = peers_same r.peers parts.peers same.peers is.peers;
      services = is.services;
      resolved = is.resolved ∙ ap (λ ms. sorted_set resolved_order (flat_map (ports_named r.named) ms)) (members_same (resolving_map old r.key.dir) (resolving_map new r.key.dir) (resolving_groups p r r.key.dir) same.resolving);
    };
  }

  same_policy : (p : NetPolicyData) → AllByRecursion (SameReading old new p) p.rules → AllByRecursion (SameRule old new) (rules_of p)
  same_policy p all = all_map (SameRule old new) (λ r. record { policy = p; rule = r }) p.rules (all_weaker (SameReading old new p) (λ r. SameRule old new (record { policy = p; rule = r })) (same_rule p) p.rules all)

-- ---- the policies of a map

abbrev policy_of : StreamObject → Option NetPolicyData
policy_of (object.Policy p) = Some p
policy_of (object.Egress e) = None
policy_of (object.Group g ms) = None

policy_named : (o : StreamObject) (p : NetPolicyData) → policy_of o ≡ Some p → object_text o ≡ policy_title p
policy_named (object.Policy q) p e = let one : q ≡ p = cc in ap policy_title one
policy_named (object.Egress d) p e = cc
policy_named (object.Group g ms) p e = cc

policy_listed : (o : StreamObject) → policy_in o ≡ option_to_list (policy_of o)
policy_listed (object.Policy p) = refl
policy_listed (object.Egress e) = refl
policy_listed (object.Group g ms) = refl

all_listed : (os : List StreamObject) → flat_map policy_in os ≡ picked policy_title policy_of policy_named os
all_listed os = (λ i. flat_map (λ o. policy_listed o i) os)

policies_ascend : (os : List StreamObject) → AscendByName os → Ascends policy_title text_order (flat_map policy_in os)
policies_ascend os up =
    let P : List NetPolicyData → Type 0 = Ascends policy_title text_order in
    subst P (sym (all_listed os)) (picked_ascend policy_title policy_of policy_named os up)

abbrev policy_at : List ℕ → List NetPolicyData → Option NetPolicyData
policy_at t ps = found (λ p. text_order (policy_title p) t) ps

found_policy : (t : List ℕ) (os : List StreamObject) → AscendByName os → policy_at t (flat_map policy_in os) ≡ part_of policy_title policy_of policy_named (found (at_text t) os)
found_policy t os up = ap (policy_at t) (all_listed os) ∙ found_picked policy_title policy_of policy_named t os up

-- ---- changes of policies

module _ (cs : List StreamChange) (os : List StreamObject) (up : AscendByName os) where
  abbrev stays : NetPolicyData → Bool
  stays p = not (policy_changed cs p.key)

  abbrev after : List StreamObject
  after = after_changes Policies cs os

  changed_goes : (t : List ℕ) (r : Option NetPolicyData) (ps : List NetPolicyData) → policy_at t ps ≡ r → is_changed cs t ≡ true → passed stays r ≡ None
  changed_goes t None ps here is = refl
  changed_goes t (Some p) ps here is =
      let one : policy_text p.key ≡ t = text_order_exact (policy_title p) t (found_at (λ q. text_order (policy_title q) t) ps p here) in
      ap (λ b. if not b then Some p else None) (policy_is_changed cs p.key (ap (is_changed cs) one ∙ is))

  others_stay : filter stays (flat_map policy_in os) ≡ filter stays (flat_map policy_in after)
  others_stay =
      let up_too = ascends_changes Policies cs os up in
      let before_up = policies_ascend os up in
      let after_up = policies_ascend after up_too in
      equal_maps policy_title nat_list_cmp_total (filter stays (flat_map policy_in os)) (filter stays (flat_map policy_in after))
      (ascends_filter policy_title nat_list_cmp_total stays (flat_map policy_in os) before_up) (ascends_filter policy_title nat_list_cmp_total stays (flat_map policy_in after) after_up)
      (λ t.
      found_filter policy_title nat_list_cmp_total stays t (flat_map policy_in os) before_up
      ∙ by_test t up_too (is_changed cs t) refl
      ∙ sym (found_filter policy_title nat_list_cmp_total stays t (flat_map policy_in after) after_up))
    where
      by_test : (t : List ℕ) → AscendByName (after_changes Policies cs os) → (b : Bool) → is_changed cs t ≡ b → passed stays (policy_at t (flat_map policy_in os)) ≡ passed stays (policy_at t (flat_map policy_in after))
      by_test t up_too true is =
          changed_goes t (policy_at t (flat_map policy_in os)) (flat_map policy_in os) refl is ∙ sym (changed_goes t (policy_at t (flat_map policy_in after)) (flat_map policy_in after) refl is)
      by_test t up_too false is =
          ap (passed stays) (found_policy t os up ∙ (ap (part_of policy_title policy_of policy_named) (sym (found_unchanged Policies cs t os up is)) ∙ sym (found_policy t after up_too)))

-- ---- changes of groups

abbrev is_touched : Stream → List StreamChange → Option NetPolicyData → Bool
is_touched s cs None = false
is_touched s cs (Some p) = touches s cs p

module _ (s : Stream) (cs : List StreamChange) (old new : HeldMaps) (up : AscendByName old.policies) (same : held_policies new ≡ held_policies old) (read : (p : NetPolicyData) → touches s cs p ≡ false → AllByRecursion (SameReading old new p) p.rules) where
  abbrev touched_name : PolicyName → Bool
  touched_name key = is_touched s cs (policy_at (policy_text key) (held_policies old))

  own_touch : AllByRecursion (λ p. touched_name p.key ≡ touches s cs p) (held_policies old)
  own_touch =
      all_weaker (λ p. policy_at (policy_title p) (held_policies old) ≡ Some p) (λ p. touched_name p.key ≡ touches s cs p) (λ p here. ap (is_touched s cs) here) (held_policies old)
      (all_found policy_title nat_list_cmp_total (held_policies old) (policies_ascend old.policies up))

  touched_same : touched_policies touched_name old ≡ policies_touched s cs old
  touched_same = filter-all (λ p. touched_name p.key) (touches s cs) (held_policies old) own_touch

  free : AllByRecursion (λ p. touches s cs p ≡ false) (other_policies touched_name old)
  free =
      let others : other_policies touched_name old ≡ filter (λ p. not (touches s cs p)) (held_policies old) =
      filter-all (λ p. not (touched_name p.key)) (λ p. not (touches s cs p)) (held_policies old) (all_weaker (λ p. touched_name p.key ≡ touches s cs p) (λ p. not (touched_name p.key) ≡ not (touches s cs p)) (λ p e. ap not e) (held_policies old) own_touch) in
      subst (AllByRecursion (λ p. touches s cs p ≡ false)) (sym others)
      (all_weaker (λ p. not (touches s cs p) ≡ true) (λ p. touches s cs p ≡ false) (λ p e. not_true (touches s cs p) e) (filter (λ p. not (touches s cs p)) (held_policies old)) (all_pass (λ p. not (touches s cs p)) (held_policies old)))

  groups_touch : TouchOnly s cs old new
  groups_touch = record {
    touched = touched_name;
    old_touched = touched_same;
    new_touched = ap (filter (λ p. touched_name p.key)) same ∙ touched_same ∙ ap (filter (touches s cs)) (sym same);
    elsewhere = record {
      policies = ap (filter (λ p. not (touched_name p.key))) (sym same);
      rules = all_flat_map (SameRule old new) rules_of (other_policies touched_name old) (all_weaker (λ p. touches s cs p ≡ false) (λ p. AllByRecursion (SameRule old new) (rules_of p)) (λ p e. same_policy old new p (read p e)) (other_policies touched_name old) free);
    };
  }

pub touch_only : ChangesTouchOnlyThese
touch_only Policies cs h up = record {
  touched = policy_changed cs;
  old_touched = refl;
  new_touched = refl;
  elsewhere = record {
    policies = others_stay cs h.policies up;
    rules = all_flat_map (SameRule h (maps_after Policies cs h)) rules_of (other_policies (policy_changed cs) h)
        (all_of (λ p. AllByRecursion (SameRule h (maps_after Policies cs h)) (rules_of p)) (λ p. same_policy h (maps_after Policies cs h) p (all_of (SameReading h (maps_after Policies cs h) p) (reading p) p.rules)) (other_policies (policy_changed cs) h));
  };
}
  where
    by_dir : (d : Dir) (groups : List Group) → SameGroups (resolving_map h d) (resolving_map (maps_after Policies cs h) d) groups
    by_dir Ingress groups = groups_same h.applied groups
    by_dir Egress groups = groups_same h.addresses groups

    reading : (p : NetPolicyData) (r : NetRule) → SameReading h (maps_after Policies cs h) p r
    reading p r = record { peers = groups_same h.addresses (groups_of r.peers); applied = groups_same h.applied p.applied; resolving = by_dir r.key.dir (resolving_groups p r r.key.dir) }
touch_only Addresses cs h up = groups_touch Addresses cs h (maps_after Addresses cs h) up refl (λ p e. all_weaker (λ r. reads_changed cs p r ≡ false) (SameReading h (maps_after Addresses cs h) p) (reading p) p.rules (none_of (reads_changed cs p) p.rules e))
  where
    by_dir : (p : NetPolicyData) (r : NetRule) (d : Dir) → some_changed cs (egress_groups p r d) ≡ false → SameGroups (resolving_map h d) (resolving_map (maps_after Addresses cs h) d) (resolving_groups p r d)
    by_dir p r Ingress e = groups_same h.applied p.applied
    by_dir p r Egress e = groups_unchanged Addresses cs h.addresses (resolving_groups p r Egress) e

    reading : (p : NetPolicyData) (r : NetRule) → reads_changed cs p r ≡ false → SameReading h (maps_after Addresses cs h) p r
    reading p r e =
        let parts = neither (some_changed cs (groups_of r.peers)) (some_changed cs (egress_groups p r r.key.dir)) e in
        record { peers = groups_unchanged Addresses cs h.addresses (groups_of r.peers) parts.0; applied = groups_same h.applied p.applied; resolving = by_dir p r r.key.dir parts.1 }
touch_only Applied cs h up = groups_touch Applied cs h (maps_after Applied cs h) up refl (λ p e. all_of (SameReading h (maps_after Applied cs h) p) (reading p e) p.rules)
  where
    by_dir : (p : NetPolicyData) (r : NetRule) (d : Dir) → some_changed cs p.applied ≡ false → SameGroups (resolving_map h d) (resolving_map (maps_after Applied cs h) d) (resolving_groups p r d)
    by_dir p r Ingress e = groups_unchanged Applied cs h.applied p.applied e
    by_dir p r Egress e = groups_same h.addresses (resolving_groups p r Egress)

    reading : (p : NetPolicyData) → some_changed cs p.applied ≡ false → (r : NetRule) → SameReading h (maps_after Applied cs h) p r
    reading p e r =
        record { peers = groups_same h.addresses (groups_of r.peers); applied = groups_unchanged Applied cs h.applied p.applied e; resolving = by_dir p r r.key.dir e }
