-- Groups among what is held: their texts tell them apart, no policy or Egress is one, and their members ascend.
use Rattle.std.proofs.Common.{unwrap_or, ◌≡◌, ℕ, List, [], true, Option, Some, None, map, ◌++◌, refl, sym, subst}
use Rattle.std.specs.List.{AllByRecursion}
use Rattle.cl_types.specs.declared.stream.Stream.{Stream}
use Rattle.cl_types.specs.declared.stream.Stream.TheVariants.{Policies}
use Rattle.cl_types.specs.Ascending.{Ascends, found}
use Rattle.cl_types.specs.AscendingLaws.{found_holds}
use Rattle.label_select.specs.Group.{Group, IsGroup}
use Rattle.label_select.specs.Written.{group_text}
use Rattle.watch_streams.specs.declared.message.StreamObject.{StreamObject}
use Rattle.watch_streams.specs.declared.message.StreamObject.TheVariants as object
use Rattle.watch_streams.specs.Difference.{belongs}
use Rattle.held_maps.specs.Held.{policies_map, policy_object, egress_object}
use Rattle.watch_streams.specs.HeldEvaluation.{group_in}
use Rattle.watch_streams.specs.Laws.{HasAscendingMembers, IsMap}
use Rattle.watch_streams.specs.Names.{at_text}
use Rattle.watch_streams.specs.Net.{MemberData, NetPolicyData, NetEgressData, member_order}
use Rattle.watch_streams.specs.MapLaws.{all_by_name}
use Rattle.watch_streams.specs.OneOfAll.{all_of, all_map, all_append}

-- no two groups have one text
abbrev pub GroupTextsDiffer : Type 0
GroupTextsDiffer = (a b : Group) → IsGroup a → IsGroup b → group_text a ≡ group_text b → a ≡ b

-- ---- policies and Egresses

pub policies_belong : (ps : List NetPolicyData) (es : List NetEgressData) → AllByRecursion (λ o. belongs Policies o ≡ true) (policies_map ps es)
policies_belong ps es =
    all_by_name Here (map policy_object ps ++ map egress_object es)
    (all_append Here (map policy_object ps) (map egress_object es)
    (all_map Here policy_object ps (all_of (λ p. Here (policy_object p)) (λ p. refl) ps)) (all_map Here egress_object es (all_of (λ e. Here (egress_object e)) (λ e. refl) es)))
  where
    Here : StreamObject → Type 0
    Here o = belongs Policies o ≡ true

-- no group stands among them
pub no_group : (ps : List NetPolicyData) (es : List NetEgressData) (t : List ℕ) → group_in (found (at_text t) (policies_map ps es)) ≡ None
no_group ps es t = by_cases (found (at_text t) (policies_map ps es)) refl
  where
    by_cases : (x : Option StreamObject) → found (at_text t) (policies_map ps es) ≡ x → group_in x ≡ None
    by_cases None is = refl
    by_cases (Some (object.Policy p)) is = refl
    by_cases (Some (object.Egress e)) is = refl
    by_cases (Some (object.Group h ms)) is =
        let here : belongs Policies (object.Group h ms) ≡ true = found_holds (at_text t) (λ o. belongs Policies o ≡ true) (policies_map ps es) (object.Group h ms) (policies_belong ps es) is in
        cc

-- the members of a group of a map ascend
pub members_up : (s : Stream) (os : List StreamObject) → IsMap s os → (t : List ℕ) (ms : Option (List MemberData)) → ms ≡ group_in (found (at_text t) os) → Ascends (λ m. m) member_order (unwrap_or ms [])
members_up s os map_of t ms is = subst (λ (o : Option (List MemberData)). Ascends (λ m. m) member_order (unwrap_or o [])) (sym is) (by_cases (found (at_text t) os) refl)
  where
    by_cases : (x : Option StreamObject) → found (at_text t) os ≡ x → Ascends (λ m. m) member_order (unwrap_or (group_in x) [])
    by_cases None at = tt
    by_cases (Some (object.Policy p)) at = tt
    by_cases (Some (object.Egress e)) at = tt
    by_cases (Some (object.Group g ns)) at = found_holds (at_text t) HasAscendingMembers os (object.Group g ns) map_of.members at
