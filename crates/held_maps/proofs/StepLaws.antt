-- What steps do to a map is what the message does that they were made of.
use Rattle.std.proofs.Common.{◌≡◌, ◌≢◌, List, [], ◌∷◌, ◌++◌, Bool, true, false, not, map, filter, reverse, Option, Some, None, if◌then◌else◌, refl, sym, ap, subst, ◌∙◌}
use Rattle.std.proofs.lemmas.List.{reverse-append}
use Rattle.std.specs.List.{AllByRecursion}
use Rattle.std.specs.Option.{option_to_list}
use Rattle.std.specs.declared.cmp.Ordering.{Ordering}
use Rattle.std.specs.declared.cmp.Ordering.TheVariants.{Less, Equal, Greater}
use Rattle.std.specs.Ordering.{is_eq}
use Rattle.std.proofs.lemmas.Cmp.{nat_list_cmp_total}
use Rattle.cl_types.specs.declared.stream.Stream.{Stream}
use Rattle.cl_types.specs.declared.stream.Stream.TheVariants.{Policies}
use Rattle.cl_types.specs.Ascending.{Ascends, found, put}
use Rattle.cl_types.specs.AscendingLaws.{all_put, ascends_put, ascends_filter, ascends_without}
use Rattle.cl_types.specs.ListLaws.{all_filter}
use Rattle.cl_types.specs.OrderLaws.{text_order_exact}
use Rattle.cl_types.specs.Text.{text_order}
use Rattle.label_select.specs.Group.{Group, IsGroup}
use Rattle.label_select.specs.Written.{group_text}
use Rattle.watch_streams.specs.declared.message.StreamChange.{StreamChange}
use Rattle.watch_streams.specs.declared.message.StreamChange.TheVariants as change
use Rattle.watch_streams.specs.declared.message.StreamName.TheVariants as name
use Rattle.watch_streams.specs.declared.message.StreamObject.{StreamObject}
use Rattle.watch_streams.specs.declared.message.StreamObject.TheVariants as object
use Rattle.held_maps.specs.declared.steps.Step.{Step}
use Rattle.held_maps.specs.declared.steps.Step.TheVariants as step
use Rattle.watch_streams.specs.Difference.{is_policies, belongs, name_belongs, settled, has_member, members_of, patched, without, after_change, after_changes, of_snapshot}
use Rattle.held_maps.specs.Held.{policy_title, egress_title, policies_map}
use Rattle.watch_streams.specs.Laws.{HasAscendingMembers, HasGroupForm, IsMap}
use Rattle.watch_streams.specs.MemberOrder.{member_order_total, ascends_members}
use Rattle.watch_streams.specs.Names.{AreDistinct, AscendByName, changed_name, name_text, object_text, at_text, by_name}
use Rattle.watch_streams.specs.Net.{MemberData, NetPolicyData, NetEgressData}
use Rattle.held_maps.specs.Steps.{put_step, step_of, steps_of, settled_step, put_steps, backwards, after_step, after_steps, policies_after, policies_after_steps, egresses_after, egresses_after_steps, HasChangeForm, HasObjectForm}
use Rattle.watch_streams.specs.ChangeLaws.{settled_name, change_text, cell, ascends_change, found_change}
use Rattle.held_maps.proofs.GroupPlaces.{GroupTextsDiffer}
use Rattle.watch_streams.specs.OneOfAll.{all_append}
use Rattle.held_maps.proofs.PolicyMaps.{put_policy, put_egress, without_name}
use Rattle.held_maps.proofs.StepLists.{append_nothing, taken_step}

-- ---- snapshots

pub snapshot_steps : (s : Stream) (os : List StreamObject) → after_steps (reverse (put_steps s os)) [] ≡ of_snapshot s os
snapshot_steps s [] = refl
snapshot_steps s (o ∷ os) =
    ap (λ l. after_steps l []) (reverse-append (put_steps s os) (option_to_list (settled_step s o)))
    ∙ by_test (belongs s (settled o)) (belongs s o) (ap (name_belongs s) (settled_name o)) (snapshot_steps s os)
  where
    by_test : (a b : Bool) → a ≡ b → after_steps (reverse (put_steps s os)) [] ≡ of_snapshot s os
        → after_steps (reverse (option_to_list (if a then Some (step.Put (settled o)) else None)) ++ reverse (put_steps s os)) []
        ≡ by_name (map settled (if b then o ∷ filter (belongs s) os else filter (belongs s) os))
    by_test true true is rest = ap (after_step (step.Put (settled o))) rest
    by_test true false is rest = cc
    by_test false true is rest = cc
    by_test false false is rest = rest

-- ---- changes

abbrev after_option : Option Step → List StreamObject → List StreamObject
after_option None os = os
after_option (Some st) os = after_step st os

after_last : (steps : List Step) (o : Option Step) (os : List StreamObject) → after_steps (steps ++ option_to_list o) os ≡ after_steps steps (after_option o os)
after_last steps None os = ap (λ l. after_steps l os) (append_nothing steps)
after_last steps (Some st) os = taken_step steps st os

-- a group that is patched has the same members in both, where groups belong
abbrev AgreesAt : Stream → List StreamObject → List StreamObject → StreamChange → Type 0
AgreesAt s held now (change.Put o) = Unit {0}
AgreesAt s held now (change.Remove n) = Unit {0}
AgreesAt s held now (change.Patch g added removed) = is_policies s ≡ false → found (at_text (group_text g)) held ≡ found (at_text (group_text g)) now

step_change : (s : Stream) (held now : List StreamObject) (c : StreamChange) → AgreesAt s held now c → after_option (step_of s held c) now ≡ after_change s c now
step_change s held now (change.Put o) agree = by_test (belongs s (settled o))
  where
    by_test : (b : Bool) → after_option (if b then Some (step.Put (settled o)) else None) now ≡ (if b then put (at_text (object_text (settled o))) (settled o) now else now)
    by_test true = refl
    by_test false = refl
step_change s held now (change.Remove n) agree = by_test (name_belongs s n)
  where
    by_test : (b : Bool) → after_option (if b then Some (step.Remove (name_text n)) else None) now ≡ (if b then without (name_text n) now else now)
    by_test true = refl
    by_test false = refl
step_change s held now (change.Patch g added removed) agree = by_test (is_policies s) refl
  where
    there : Option StreamObject → StreamObject
    there x = object.Group g (patched (members_of x) added removed)

    by_test : (b : Bool) → is_policies s ≡ b
        → after_option (if not b then Some (step.Put (there (found (at_text (group_text g)) held))) else None) now
        ≡ (if not b then put (at_text (group_text g)) (there (found (at_text (group_text g)) now)) now else now)
    by_test true is = refl
    by_test false is = ap (λ x. put (at_text (group_text g)) (there x) now) (agree is)

module _ (differ : GroupTextsDiffer) where
  group_kept : (g h : Group) → IsGroup h → IsGroup g → name.Group h ≢ name.Group g → (x y : Option StreamObject) → (if is_eq (text_order (group_text h) (group_text g)) then x else y) ≡ y
  group_kept g h is_h is_g other x y = by_order (text_order (group_text h) (group_text g)) refl
    where
      by_order : (r : Ordering) → text_order (group_text h) (group_text g) ≡ r → (if is_eq r then x else y) ≡ y
      by_order Less is = refl
      by_order Equal is = absurd (other (ap name.Group (differ h g is_h is_g (text_order_exact (group_text h) (group_text g) is))))
      by_order Greater is = refl

  kept_where : (b : Bool) (x y : Option StreamObject) → x ≡ y → (if b then x else y) ≡ y
  kept_where true x y e = e
  kept_where false x y e = refl

  -- on a stream of groups what stands at another group's name stays
  kept_cell : (s : Stream) (c : StreamChange) (g : Group) (x : Option StreamObject) → is_policies s ≡ false → HasChangeForm c → IsGroup g → changed_name c ≢ name.Group g
      → (if is_eq (text_order (change_text c) (group_text g)) then cell s c x else x) ≡ x
  kept_cell s (change.Put (object.Policy p)) g x is form is_g other = kept_where _ _ x (ap (λ b. if b then Some (object.Policy p) else x) is)
  kept_cell s (change.Put (object.Egress e)) g x is form is_g other = kept_where _ _ x (ap (λ b. if b then Some (object.Egress e) else x) is)
  kept_cell s (change.Put (object.Group h ms)) g x is form is_g other = group_kept g h form is_g other _ x
  kept_cell s (change.Remove (name.Policy k)) g x is form is_g other = kept_where _ _ x (ap (λ b. if b then None else x) is)
  kept_cell s (change.Remove (name.Egress t)) g x is form is_g other = kept_where _ _ x (ap (λ b. if b then None else x) is)
  kept_cell s (change.Remove (name.Group h)) g x is form is_g other = group_kept g h form is_g other _ x
  kept_cell s (change.Patch h added removed) g x is form is_g other = group_kept g h form is_g other _ x

  module _ (s : Stream) (held now : List StreamObject) (up : AscendByName now) (c : StreamChange) (form : HasChangeForm c) where
    agree_at : (d : StreamChange) → changed_name c ≢ changed_name d → HasChangeForm d → AgreesAt s held now d → AgreesAt s held (after_change s c now) d
    agree_at (change.Put o) other is_d agree = tt
    agree_at (change.Remove n) other is_d agree = tt
    agree_at (change.Patch g added removed) other is_d agree = λ is.
        agree is ∙ sym (found_change s c (group_text g) now up ∙ kept_cell s c g (found (at_text (group_text g)) now) is form is_d other)

    agree_on : (ds : List StreamChange) → AllByRecursion (λ n. changed_name c ≢ n) (map changed_name ds) → AllByRecursion HasChangeForm ds → AllByRecursion (AgreesAt s held now) ds
        → AllByRecursion (AgreesAt s held (after_change s c now)) ds
    agree_on [] other forms agree = tt
    agree_on (d ∷ ds) other forms agree = (agree_at d other.0 forms.0 agree.0, agree_on ds other.1 forms.1 agree.1)

  steps_lead : (s : Stream) (held : List StreamObject) (cs : List StreamChange) (now : List StreamObject) → AscendByName now → AreDistinct (map changed_name cs) → AllByRecursion HasChangeForm cs
      → AllByRecursion (AgreesAt s held now) cs → after_steps (steps_of s held cs) now ≡ after_changes s cs now
  steps_lead s held [] now up distinct forms agree = refl
  steps_lead s held (c ∷ cs) now up distinct forms agree =
      after_last (steps_of s held cs) (step_of s held c) now
      ∙ ap (after_steps (steps_of s held cs)) (step_change s held now c agree.0)
      ∙ steps_lead s held cs (after_change s c now) (ascends_change s c now up) distinct.1 forms.1 (agree_on s held now up c forms.0 cs distinct.0 forms.1 agree.1)

  agree_itself : (s : Stream) (held : List StreamObject) (cs : List StreamChange) → AllByRecursion (AgreesAt s held held) cs
  agree_itself s held [] = tt
  agree_itself s held (change.Put o ∷ cs) = (tt, agree_itself s held cs)
  agree_itself s held (change.Remove n ∷ cs) = (tt, agree_itself s held cs)
  agree_itself s held (change.Patch g added removed ∷ cs) = (λ is. refl, agree_itself s held cs)

  -- the steps of changes lead where the changes lead
  pub change_steps : (s : Stream) (held : List StreamObject) (cs : List StreamChange) → AscendByName held → AreDistinct (map changed_name cs) → AllByRecursion HasChangeForm cs
      → after_steps (steps_of s held cs) held ≡ after_changes s cs held
  change_steps s held cs up distinct forms = steps_lead s held cs held up distinct forms (agree_itself s held cs)

-- ---- what steps keep

abbrev pub StepFits : Stream → Step → Type 0
StepFits s (step.Put o) = (belongs s o ≡ true) × HasAscendingMembers o × HasGroupForm o
StepFits s (step.Remove title) = Unit {0}

pub steps_map : (s : Stream) (steps : List Step) (os : List StreamObject) → AllByRecursion (StepFits s) steps → IsMap s os → IsMap s (after_steps steps os)
steps_map s [] os fits m = m
steps_map s (st ∷ steps) os fits m = one st fits.0 (steps_map s steps os fits.1 m)
  where
    one : (st : Step) → StepFits s st → IsMap s (after_steps steps os) → IsMap s (after_step st (after_steps steps os))
    one (step.Put o) fit n = record {
      ascends = ascends_put object_text nat_list_cmp_total o (after_steps steps os) n.ascends;
      belong = all_put (at_text (object_text o)) (λ z. belongs s z ≡ true) o (after_steps steps os) fit.0 n.belong;
      members = all_put (at_text (object_text o)) HasAscendingMembers o (after_steps steps os) fit.1 n.members;
      groups = all_put (at_text (object_text o)) HasGroupForm o (after_steps steps os) fit.2 n.groups;
    }
    one (step.Remove title) fit n = record {
      ascends = ascends_filter object_text nat_list_cmp_total (λ o. not (is_eq (at_text title o))) (after_steps steps os) n.ascends;
      belong = all_filter (λ z. belongs s z ≡ true) (λ o. not (is_eq (at_text title o))) (after_steps steps os) n.belong;
      members = all_filter HasAscendingMembers (λ o. not (is_eq (at_text title o))) (after_steps steps os) n.members;
      groups = all_filter HasGroupForm (λ o. not (is_eq (at_text title o))) (after_steps steps os) n.groups;
    }

some_is : {T : Type 0} {x y : T} → Some x ≡ Some y → x ≡ y
some_is e = cc

made_fits : (s : Stream) (o : StreamObject) → HasAscendingMembers o → HasGroupForm o → (st : Step) → put_step s o ≡ Some st → StepFits s st
made_fits s o up form st e = by_test (belongs s o) refl e
  where
    by_test : (b : Bool) → belongs s o ≡ b → (if b then Some (step.Put o) else None) ≡ Some st → StepFits s st
    by_test true is f = subst (StepFits s) (some_is f) (is, up, form)
    by_test false is f = cc

settled_up : (o : StreamObject) → HasAscendingMembers (settled o)
settled_up (object.Policy p) = tt
settled_up (object.Egress e) = tt
settled_up (object.Group g ms) = ascends_members ms

settled_form : (o : StreamObject) → HasObjectForm o → HasGroupForm (settled o)
settled_form (object.Policy p) form = tt
settled_form (object.Egress e) form = tt
settled_form (object.Group g ms) form = form

object_fits : (s : Stream) (o : StreamObject) → HasObjectForm o → (st : Step) → settled_step s o ≡ Some st → StepFits s st
object_fits s o form st e = made_fits s (settled o) (settled_up o) (settled_form o form) st e

change_fits : (s : Stream) (held : List StreamObject) (c : StreamChange) → HasChangeForm c → (st : Step) → step_of s held c ≡ Some st → StepFits s st
change_fits s held (change.Put o) form st e = object_fits s o form st e
change_fits s held (change.Remove n) form st e = by_test (name_belongs s n) e
  where
    by_test : (b : Bool) → (if b then Some (step.Remove (name_text n)) else None) ≡ Some st → StepFits s st
    by_test true f = subst (StepFits s) (some_is f) tt
    by_test false f = cc
change_fits s held (change.Patch g added removed) form st e =
    made_fits s (object.Group g (patched old added removed))
    (ascends_filter (λ m. m) member_order_total (λ m. not (has_member removed m)) _ (ascends_members (old ++ added))) form st e
  where
    old : List MemberData
    old = members_of (found (at_text (group_text g)) held)

all_backwards : {X : Type 0} (P : Step → Type 0) (Q : X → Type 0) (f : X → Option Step) → ((x : X) → Q x → (st : Step) → f x ≡ Some st → P st) → (xs : List X) → AllByRecursion Q xs → AllByRecursion P (backwards f xs)
all_backwards P Q f one [] all = tt
all_backwards P Q f one (x ∷ xs) all = all_append P (backwards f xs) (option_to_list (f x)) (all_backwards P Q f one xs all.1) (by_step (f x) refl)
  where
    by_step : (o : Option Step) → f x ≡ o → AllByRecursion P (option_to_list o)
    by_step None is = tt
    by_step (Some st) is = (one x all.0 st is, tt)

all_reverse : (P : Step → Type 0) (steps : List Step) → AllByRecursion P steps → AllByRecursion P (reverse steps)
all_reverse P [] all = tt
all_reverse P (st ∷ steps) all =
    subst (AllByRecursion P) (sym (reverse-append (st ∷ []) steps)) (all_append P (reverse steps) (st ∷ []) (all_reverse P steps all.1) (all.0, tt))

pub changes_fit : (s : Stream) (held : List StreamObject) (cs : List StreamChange) → AllByRecursion HasChangeForm cs → AllByRecursion (StepFits s) (steps_of s held cs)
changes_fit s held cs forms = all_backwards (StepFits s) HasChangeForm (step_of s held) (change_fits s held) cs forms

pub objects_fit : (s : Stream) (os : List StreamObject) → AllByRecursion HasObjectForm os → AllByRecursion (StepFits s) (reverse (put_steps s os))
objects_fit s os forms = all_reverse (StepFits s) (put_steps s os) (all_backwards (StepFits s) HasObjectForm (settled_step s) (object_fits s) os forms)

-- ---- policies and Egresses

abbrev Up : List NetPolicyData → Type 0
Up ps = Ascends policy_title text_order ps

abbrev UpToo : List NetEgressData → Type 0
UpToo es = Ascends egress_title text_order es

-- the two lists ascend, and together are this map
abbrev Makes : List NetPolicyData → List NetEgressData → List StreamObject → Type 0
Makes ps es os = Up ps × UpToo es × (policies_map ps es ≡ os)

policy_step : (st : Step) (ps : List NetPolicyData) (es : List NetEgressData) → Up ps → UpToo es → StepFits Policies st → Makes (policies_after st ps) (egresses_after st es) (after_step st (policies_map ps es))
policy_step (step.Put (object.Policy p)) ps es up too fit = (ascends_put policy_title nat_list_cmp_total p ps up, too, put_policy p ps es up too)
policy_step (step.Put (object.Egress e)) ps es up too fit = (up, ascends_put egress_title nat_list_cmp_total e es too, put_egress e ps es up too)
policy_step (step.Put (object.Group g ms)) ps es up too fit = absurd (never fit.0)
  where
    never : false ≡ true → ⊥
    never e = cc
policy_step (step.Remove title) ps es up too fit =
    (ascends_without policy_title nat_list_cmp_total title ps up, ascends_without egress_title nat_list_cmp_total title es too, without_name title ps es up too)

pub policy_steps : (steps : List Step) (ps : List NetPolicyData) (es : List NetEgressData) → Up ps → UpToo es → AllByRecursion (StepFits Policies) steps
    → Makes (policies_after_steps steps ps) (egresses_after_steps steps es) (after_steps steps (policies_map ps es))
policy_steps [] ps es up too fits = (up, too, refl)
policy_steps (st ∷ steps) ps es up too fits =
    let rest = policy_steps steps ps es up too fits.1 in
    let last = policy_step st (policies_after_steps steps ps) (egresses_after_steps steps es) rest.0 rest.1 fits.0 in
    (last.0, last.1, last.2 ∙ ap (after_step st) rest.2)
