-- A message as steps: objects that are put and names that are removed, as a stream's map and its members stand (this
-- project's own).
use Rattle.std.specs.Prelude.{List, [], ◌∷◌, ◌++◌, Option, Some, None, if◌then◌else◌}
use Rattle.std.specs.Option.{option_to_list}
use Rattle.cl_types.specs.declared.stream.Stream.{Stream}
use Rattle.cl_types.specs.Ascending.{put, found, without as without_at}
use Rattle.cl_types.specs.Text.{text_order}
use Rattle.label_select.specs.Group.{Group, IsGroup}
use Rattle.label_select.specs.Written.{group_text}
use Rattle.watch_streams.specs.declared.message.StreamChange.{StreamChange}
use Rattle.watch_streams.specs.declared.message.StreamChange.TheVariants as change
use Rattle.watch_streams.specs.declared.message.StreamName.{StreamName}
use Rattle.watch_streams.specs.declared.message.StreamName.TheVariants as name
use Rattle.watch_streams.specs.declared.message.StreamObject.{StreamObject}
use Rattle.watch_streams.specs.declared.message.StreamObject.TheVariants as object
use Rattle.held_maps.specs.declared.steps.Step.{Step}
use Rattle.held_maps.specs.declared.steps.Step.TheVariants as step
use Rattle.watch_streams.specs.Difference.{belongs, name_belongs, settled, members_of, patched, without}
use Rattle.held_maps.specs.Held.{policy_title, egress_title}
use Rattle.watch_streams.specs.Names.{name_of, changed_name, name_text, object_text, at_text}
use Rattle.watch_streams.specs.Net.{MemberData, NetPolicyData, NetEgressData}

-- ---- the steps of a message

abbrev pub put_step : Stream → StreamObject → Option Step
put_step s o = if belongs s o then Some (step.Put o) else None

abbrev pub remove_step : Stream → StreamName → Option Step
remove_step s n = if name_belongs s n then Some (step.Remove (name_text n)) else None

abbrev pub patch_step : Stream → List StreamObject → Group → List MemberData → List MemberData → Option Step
patch_step s held group added removed =
    put_step s (object.Group group (patched (members_of (found (at_text (group_text group)) held)) added removed))

-- the step of a change of a map
abbrev pub step_of : Stream → List StreamObject → StreamChange → Option Step
step_of s held (change.Put o) = put_step s (settled o)
step_of s held (change.Remove n) = remove_step s n
step_of s held (change.Patch group added removed) = patch_step s held group added removed

-- the steps of things, where they have one, the first of them last
abbrev pub backwards : {X : Type 0} → (X → Option Step) → List X → List Step
backwards f [] = []
backwards f (x ∷ xs) = backwards f xs ++ option_to_list (f x)

-- the steps of changes of a map
abbrev pub steps_of : Stream → List StreamObject → List StreamChange → List Step
steps_of s held changes = backwards (step_of s held) changes

-- the steps of a snapshot
abbrev pub settled_step : Stream → StreamObject → Option Step
settled_step s o = put_step s (settled o)

abbrev pub put_steps : Stream → List StreamObject → List Step
put_steps s objects = backwards (settled_step s) objects

-- ---- what steps do, taken from the last on

abbrev pub after_step : Step → List StreamObject → List StreamObject
after_step (step.Put o) objects = put (at_text (object_text o)) o objects
after_step (step.Remove title) objects = without title objects

abbrev pub after_steps : List Step → List StreamObject → List StreamObject
after_steps [] objects = objects
after_steps (st ∷ steps) objects = after_step st (after_steps steps objects)

-- of them what concerns policies
abbrev pub policies_after : Step → List NetPolicyData → List NetPolicyData
policies_after (step.Put (object.Policy p)) policies = put (λ q. text_order (policy_title q) (policy_title p)) p policies
policies_after (step.Put (object.Egress e)) policies = policies
policies_after (step.Put (object.Group group members)) policies = policies
policies_after (step.Remove title) policies = without_at (λ p. text_order (policy_title p) title) policies

abbrev pub policies_after_steps : List Step → List NetPolicyData → List NetPolicyData
policies_after_steps [] policies = policies
policies_after_steps (st ∷ steps) policies = policies_after st (policies_after_steps steps policies)

-- and what concerns Egresses
abbrev pub egresses_after : Step → List NetEgressData → List NetEgressData
egresses_after (step.Put (object.Policy p)) egresses = egresses
egresses_after (step.Put (object.Egress e)) egresses = put (λ d. text_order (egress_title d) (egress_title e)) e egresses
egresses_after (step.Put (object.Group group members)) egresses = egresses
egresses_after (step.Remove title) egresses = without_at (λ e. text_order (egress_title e) title) egresses

abbrev pub egresses_after_steps : List Step → List NetEgressData → List NetEgressData
egresses_after_steps [] egresses = egresses
egresses_after_steps (st ∷ steps) egresses = egresses_after st (egresses_after_steps steps egresses)

-- ---- what the groups of a message keep

abbrev pub HasNameForm : StreamName → Type 0
HasNameForm (name.Policy key) = Unit {0}
HasNameForm (name.Egress text) = Unit {0}
HasNameForm (name.Group group) = IsGroup group

abbrev pub HasChangeForm : StreamChange → Type 0
HasChangeForm c = HasNameForm (changed_name c)

abbrev pub HasObjectForm : StreamObject → Type 0
HasObjectForm o = HasNameForm (name_of o)
