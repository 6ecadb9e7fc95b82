-- Which addresses the lists of what is in force have.
use Rattle.std.proofs.Common.{◌≡◌, ℕ, List, [], ◌∷◌, ◌&&◌, ◌||◌, Bool, true, false, map, flat_map, find, cond, Option, Some, None, unwrap_or, if◌then◌else◌, refl, sym, ap, ◌∙◌}
use Rattle.std.specs.List.{list_any}
use Rattle.cl_types.specs.declared.addr.Addr.{Addr}
use Rattle.cl_types.specs.declared.question.Question.{Question}
use Rattle.cl_types.specs.Addr.{addr_eq, addr_order}
use Rattle.cl_types.specs.OrderLaws.{addr_order_exact}
use Rattle.cl_types.specs.SortedSetLaws.{list_any-sorted_set}
use Rattle.label_select.specs.Group.{Group}
use Rattle.cluster_types.specs.Steps.{is_kube}
use Rattle.watch_streams.specs.declared.message.StreamObject.{StreamObject}
use Rattle.watch_streams.specs.declared.rule_changes.Choice.TheVariants.{Plain}
use Rattle.watch_streams.specs.HeldEvaluation.{HeldMaps, held_egresses, held_group, held_isolated, held_member, held_policies, is_at, some_member}
use Rattle.watch_streams.specs.InForce.{addresses_in, chosen, egress_group, egress_pods, held_choice, isolated_addresses, isolating_groups, member_address, members_in, selects_address}
use Rattle.watch_streams.specs.Net.{NetPolicyData, MemberData, net_isolates}
use Rattle.watch_streams.specs.OneOfAll.{list_any-each, list_any-flat_map, list_any-map}

-- the address is one of those of the groups' members where one of the groups has a member with it
any_address : (held : List StreamObject) (groups : List Group) (a : Addr) → list_any (λ x. addr_eq x a) (addresses_in held groups) ≡ list_any (held_member (is_at a) held) groups
any_address held groups a =
    list_any-sorted_set {cmp = addr_order} addr_order_exact (λ x. addr_eq x a) (map member_address (members_in held groups))
    ∙ list_any-map (λ x. addr_eq x a) member_address (members_in held groups)
    ∙ list_any-flat_map (is_at a) (λ g. unwrap_or (held_group held g) []) groups
    ∙ list_any-each (λ g. list_any (is_at a) (unwrap_or (held_group held g) [])) (held_member (is_at a) held) (λ g. of_group (held_group held g)) groups
  where
    of_group : (o : Option (List MemberData)) → list_any (is_at a) (unwrap_or o []) ≡ some_member (is_at a) o
    of_group None = refl
    of_group (Some members) = refl

pub isolated_listed : (h : HeldMaps) (q : Question) → list_any (λ x. addr_eq x q.own) (isolated_addresses h q.dir) ≡ held_isolated h q
isolated_listed h q =
    any_address h.applied (flat_map (isolating_groups q.dir) (held_policies h)) q.own
    ∙ list_any-flat_map (held_member (is_at q.own) h.applied) (isolating_groups q.dir) (held_policies h)
    ∙ list_any-each (λ (p : NetPolicyData). list_any (held_member (is_at q.own) h.applied) (isolating_groups q.dir p)) (λ (p : NetPolicyData). is_kube p.key.kind && net_isolates p q.dir && list_any (held_member (is_at q.own) h.applied) p.applied) (λ p. of_policy p (is_kube p.key.kind && net_isolates p q.dir)) (held_policies h)
  where
    of_policy : (p : NetPolicyData) (b : Bool) → list_any (held_member (is_at q.own) h.applied) (if b then p.applied else []) ≡ (b && list_any (held_member (is_at q.own) h.applied) p.applied)
    of_policy p true = refl
    of_policy p false = refl

-- where none passes none is found
unfound : {T : Type 0} (p : T → Bool) (xs : List T) → list_any p xs ≡ false → find p xs ≡ None
unfound p [] none = refl
unfound p (x ∷ xs) none = by_cases (p x) (unfound p xs) none
  where
    by_cases : (b : Bool) → (list_any p xs ≡ false → find p xs ≡ None) → (b || list_any p xs) ≡ false → cond b (Some x) (find p xs) ≡ None
    by_cases true rest none = cc
    by_cases false rest none = rest none

pub plain_beside : (node : List ℕ) (h : HeldMaps) (a : Addr) → list_any (λ x. addr_eq x a) (egress_pods h) ≡ false → held_choice node h a ≡ Plain
plain_beside node h a beside =
    let none : list_any (selects_address h a) (held_egresses h) ≡ false =
    sym (any_address h.applied (map egress_group (held_egresses h)) a ∙ list_any-map (held_member (is_at a) h.applied) egress_group (held_egresses h)) ∙ beside in
    ap (chosen node) (unfound (selects_address h a) (held_egresses h) none)
