-- What policies and Egresses bring to a stream of a node, and what of it has one text.
use Rattle.std.proofs.Common.{◌≡◌, ℕ, List, [], ◌∷◌, ◌++◌, Bool, true, false, ◌||◌, Option, Some, None, if◌then◌else◌, cond, filter, map, flat_map, refl, sym, ap, ap₂, ◌∙◌}
use Rattle.std.specs.List.{list_any}
use Rattle.std.specs.Ordering.{is_eq}
use Rattle.std.proofs.lemmas.List.{append-nil, map-append}
use Rattle.std.proofs.lemmas.List.Elements.{filter-append}
use Rattle.std.proofs.lemmas.List.Folds.{list_any-append}
use Rattle.cl_types.specs.declared.stream.Stream.{Stream}
use Rattle.cl_types.specs.declared.stream.Stream.TheVariants.{Policies, Addresses, Applied}
use Rattle.cl_types.specs.Ascending.{found}
use Rattle.cl_types.specs.Text.{text_order}
use Rattle.cl_types.specs.Written.{policy_text}
use Rattle.label_select.specs.Group.{Group}
use Rattle.label_select.specs.Written.{group_text}
use Rattle.cluster_types.specs.Cluster.{ClusterData}
use Rattle.cluster_types.specs.Egress.{EgressData}
use Rattle.cluster_types.specs.Policy.{PolicyData}
use Rattle.watch_streams.specs.declared.message.StreamName.TheVariants as name
use Rattle.watch_streams.specs.declared.message.StreamObject.{StreamObject}
use Rattle.watch_streams.specs.MapLaws.{first_at, found_by_name}
use Rattle.watch_streams.specs.Names.{at_text, by_name, name_text}
use Rattle.watch_streams.specs.Net.{MemberData}
use Rattle.watch_streams.specs.OneOfAll.{all_of, flat_map-kept, flat_map-none, list_any-map, map-flat_map}
use Rattle.watch_streams.specs.Projection.{egress_is_on, egresses_on, group_members, group_object, members_on, policies_on, policy_groups, policy_is_on, projection}
use Rattle.touched_names.specs.Elsewhere.{is_named}
use Rattle.touched_names.specs.Standing.{egress_object, policy_object}
use Rattle.touched_names.specs.Touching.{egress_names, group_names, groups_named, policy_names}
use Rattle.touched_names.proofs.Elsewhere.{neither}

-- ---- what belongs on a stream is what each policy and Egress brings

abbrev pub policy_part : ClusterData → Stream → List ℕ → PolicyData → List StreamObject
policy_part c Policies node p = policy_object p ∷ []
policy_part c Addresses node p = map (group_object (group_members c)) (policy_groups p)
policy_part c Applied node p = map (group_object (members_on c node)) p.applied

abbrev pub egress_part : ClusterData → Stream → List ℕ → EgressData → List StreamObject
egress_part c Policies node e = egress_object e ∷ []
egress_part c Addresses node e = []
egress_part c Applied node e = group_object (members_on c node) e.applied ∷ []

abbrev pub policy_brings : ClusterData → Stream → List ℕ → PolicyData → List StreamObject
policy_brings c s node p = cond (policy_is_on c node p) (policy_part c s node p) []

abbrev pub egress_brings : ClusterData → Stream → List ℕ → EgressData → List StreamObject
egress_brings c s node e = cond (egress_is_on c node e) (egress_part c s node e) []

abbrev brought : ClusterData → Stream → List ℕ → List StreamObject
brought c s node = flat_map (policy_brings c s node) c.policies ++ flat_map (egress_brings c s node) c.egresses

kept_single : {A B : Type 0} (make : A → B) (k : A → Bool) (xs : List A) → map make (filter k xs) ≡ flat_map (λ x. cond (k x) (make x ∷ []) []) xs
kept_single make k [] = refl
kept_single {B = B} make k (x ∷ xs) = by_test (k x) (kept_single make k xs)
  where
    rest_of : List B
    rest_of = flat_map (λ y. cond (k y) (make y ∷ []) []) xs

    by_test : (b : Bool) → map make (filter k xs) ≡ rest_of → map make (cond b (x ∷ filter k xs) (filter k xs)) ≡ cond b (make x ∷ []) [] ++ rest_of
    by_test true rest = ap (λ z. make x ∷ z) rest
    by_test false rest = rest

kept_many : {A B C : Type 0} (f : B → C) (g : A → List B) (k : A → Bool) (xs : List A) → map f (flat_map g (filter k xs)) ≡ flat_map (λ x. cond (k x) (map f (g x)) []) xs
kept_many f g k xs =
    map-flat_map f g (filter k xs)
    ∙ flat_map-kept (λ x. map f (g x)) (λ x. cond (k x) (map f (g x)) []) k xs (all_of (λ x. cond (k x) (map f (g x)) [] ≡ cond (k x) (map f (g x)) []) (λ x. refl) xs)

map-map : {A B C : Type 0} (f : B → C) (g : A → B) (xs : List A) → map f (map g xs) ≡ map (λ x. f (g x)) xs
map-map f g [] = refl
map-map f g (x ∷ xs) = ap (λ z. f (g x) ∷ z) (map-map f g xs)

nothing : (b : Bool) → cond {A = List StreamObject} b [] [] ≡ []
nothing true = refl
nothing false = refl

projection_is : (c : ClusterData) (s : Stream) (node : List ℕ) → projection c s node ≡ by_name (brought c s node)
projection_is c Policies node = ap by_name (ap₂ ◌++◌ (kept_single policy_object (policy_is_on c node) c.policies) (kept_single egress_object (egress_is_on c node) c.egresses))
projection_is c Addresses node =
    ap by_name
    (kept_many (group_object (group_members c)) policy_groups (policy_is_on c node) c.policies
    ∙ (sym (append-nil (flat_map (policy_brings c Addresses node) c.policies))
    ∙ ap (λ z. flat_map (policy_brings c Addresses node) c.policies ++ z) (sym (flat_map-none (egress_brings c Addresses node) (λ e. nothing (egress_is_on c node e)) c.egresses))))
projection_is c Applied node =
    ap by_name
    (map-append f (flat_map (λ (p : PolicyData). p.applied) (policies_on c node)) (map (λ (e : EgressData). e.applied) (egresses_on c node))
    ∙ ap₂ ◌++◌ (kept_many f (λ (p : PolicyData). p.applied) (policy_is_on c node) c.policies)
    (map-map f (λ (e : EgressData). e.applied) (egresses_on c node) ∙ kept_single (λ (e : EgressData). f e.applied) (egress_is_on c node) c.egresses))
  where
    f : Group → StreamObject
    f = group_object (members_on c node)

-- ---- what has one text

abbrev pub here : List ℕ → List StreamObject → List StreamObject
here t os = filter (λ o. is_eq (at_text t o)) os

abbrev head_of : List StreamObject → Option StreamObject
head_of [] = None
head_of (o ∷ os) = Some o

first_here : (t : List ℕ) (os : List StreamObject) → first_at t os ≡ head_of (here t os)
first_here t [] = refl
first_here t (o ∷ os) = by_test (is_eq (at_text t o)) (first_here t os)
  where
    by_test : (b : Bool) → first_at t os ≡ head_of (here t os) → (if b then Some o else first_at t os) ≡ head_of (cond b (o ∷ here t os) (here t os))
    by_test true rest = refl
    by_test false rest = rest

here-flat_map : {A : Type 0} (t : List ℕ) (f : A → List StreamObject) (xs : List A) → here t (flat_map f xs) ≡ flat_map (λ x. here t (f x)) xs
here-flat_map t f [] = refl
here-flat_map t f (x ∷ xs) = filter-append (λ o. is_eq (at_text t o)) (f x) (flat_map f xs) ∙ ap (λ z. here t (f x) ++ z) (here-flat_map t f xs)

abbrev pub of_policies : ClusterData → Stream → List ℕ → List ℕ → List StreamObject
of_policies c s node t = flat_map (λ p. here t (policy_brings c s node p)) c.policies

abbrev pub of_egresses : ClusterData → Stream → List ℕ → List ℕ → List StreamObject
of_egresses c s node t = flat_map (λ e. here t (egress_brings c s node e)) c.egresses

found_is : (c : ClusterData) (s : Stream) (node t : List ℕ) → found (at_text t) (projection c s node) ≡ head_of (of_policies c s node t ++ of_egresses c s node t)
found_is c s node t =
    ap (found (at_text t)) (projection_is c s node)
    ∙ (found_by_name t (brought c s node)
    ∙ (first_here t (brought c s node)
    ∙ ap head_of
    (filter-append (λ o. is_eq (at_text t o)) (flat_map (policy_brings c s node) c.policies) (flat_map (egress_brings c s node) c.egresses)
    ∙ ap₂ ◌++◌ (here-flat_map t (policy_brings c s node) c.policies) (here-flat_map t (egress_brings c s node) c.egresses))))

-- where policies and Egresses bring the same of a text, the same is found
pub same_found : (c d : ClusterData) (s : Stream) (node t : List ℕ) → of_policies c s node t ≡ of_policies d s node t → of_egresses c s node t ≡ of_egresses d s node t
    → found (at_text t) (projection c s node) ≡ found (at_text t) (projection d s node)
same_found c d s node t policies egresses = found_is c s node t ∙ (ap head_of (ap₂ ◌++◌ policies egresses) ∙ sym (found_is d s node t))

pub here_if : (t : List ℕ) (b : Bool) (os : List StreamObject) → here t (cond b os []) ≡ cond b (here t os) []
here_if t true os = refl
here_if t false os = refl

-- ---- a policy or an Egress brings nothing but its names

-- some group has this text
abbrev pub has_group_text : List ℕ → List Group → Bool
has_group_text t gs = list_any (λ g. is_eq (text_order (group_text g) t)) gs

pub is_named-groups : (t : List ℕ) (gs : List Group) → is_named (group_names gs) t ≡ has_group_text t gs
is_named-groups t gs = list_any-map (λ n. is_eq (text_order (name_text n) t)) (λ g. name.Group g) gs

no_groups : (t : List ℕ) (f : Group → List MemberData) (gs : List Group) → has_group_text t gs ≡ false → here t (map (group_object f) gs) ≡ []
no_groups t f [] e = refl
no_groups t f (g ∷ gs) e =
    let parts = neither (is_eq (text_order (group_text g) t)) (has_group_text t gs) e in
    ap (λ b. cond b (group_object f g ∷ here t (map (group_object f) gs)) (here t (map (group_object f) gs))) parts.0 ∙ no_groups t f gs parts.1

no_policy_part : (c : ClusterData) (s : Stream) (node t : List ℕ) (p : PolicyData) → is_eq (text_order (policy_text p.key) t) ≡ false → has_group_text t p.applied ≡ false → has_group_text t (policy_groups p) ≡ false
    → here t (policy_part c s node p) ≡ []
no_policy_part c Policies node t p key applied peers = ap (λ b. cond b (policy_object p ∷ []) []) key
no_policy_part c Addresses node t p key applied peers = no_groups t (group_members c) (policy_groups p) peers
no_policy_part c Applied node t p key applied peers = no_groups t (members_on c node) p.applied applied

no_egress_part : (c : ClusterData) (s : Stream) (node t : List ℕ) (e : EgressData) → is_eq (text_order (name_text (name.Egress e.name)) t) ≡ false → is_eq (text_order (group_text e.applied) t) ≡ false
    → here t (egress_part c s node e) ≡ []
no_egress_part c Policies node t e own applied = ap (λ b. cond b (egress_object e ∷ []) []) own
no_egress_part c Addresses node t e own applied = refl
no_egress_part c Applied node t e own applied = ap (λ b. cond b (group_object (members_on c node) e.applied ∷ []) []) applied

pub policy_brings_nothing : (c : ClusterData) (s : Stream) (node t : List ℕ) (p : PolicyData) → is_named (policy_names p) t ≡ false → here t (policy_brings c s node p) ≡ []
policy_brings_nothing c s node t p lacking =
    let parts = neither (is_eq (text_order (policy_text p.key) t)) (is_named (group_names (groups_named p)) t) lacking in
    let groups = neither (has_group_text t p.applied) (has_group_text t (policy_groups p)) (sym (is_named-groups t (groups_named p) ∙ list_any-append (λ g. is_eq (text_order (group_text g) t)) p.applied (policy_groups p)) ∙ parts.1) in
    here_if t (policy_is_on c node p) (policy_part c s node p)
    ∙ (ap (λ z. cond (policy_is_on c node p) z []) (no_policy_part c s node t p parts.0 groups.0 groups.1) ∙ nothing (policy_is_on c node p))

pub egress_brings_nothing : (c : ClusterData) (s : Stream) (node t : List ℕ) (e : EgressData) → is_named (egress_names e) t ≡ false → here t (egress_brings c s node e) ≡ []
egress_brings_nothing c s node t e lacking =
    let own : Bool = is_eq (text_order (name_text (name.Egress e.name)) t) in
    let applied : Bool = is_eq (text_order (group_text e.applied) t) in
    let parts = neither own (applied || false) lacking in
    let last = neither applied false parts.1 in
    here_if t (egress_is_on c node e) (egress_part c s node e)
    ∙ (ap (λ z. cond (egress_is_on c node e) z []) (no_egress_part c s node t e parts.0 last.0) ∙ nothing (egress_is_on c node e))
