-- What is read of a line is whole.
use Rattle.std.proofs.Common.{ℕ, ◌+◌, List, [], ◌∷◌, Bool, true, false, Option, Some, None, Result, Ok, Err, codes, if◌then◌else◌, subst}
use Rattle.std.specs.Prelude.{IfOk}
use Rattle.std.specs.List.{AllByRecursion}
use Rattle.serde_json.specs.Data.{Data}
use Rattle.serde_json.specs.Find.{as_str}
use Rattle.cl_types.specs.Text.{text_eq}
use Rattle.cluster_types.specs.declared.change.Change.TheVariants.{Put}
use Rattle.cluster_types.specs.declared.change.Object.TheVariants.{Egress}
use Rattle.cluster_types.specs.declared.references.RefItem.{RefItem}
use Rattle.cluster_types.specs.declared.references.RefItem.TheVariants.{Plain, PutPooled}
use Rattle.control_lines.specs.declared.control.ControlLine.{ControlLine}
use Rattle.control_lines.specs.declared.control.ControlLine.TheVariants as control
use Rattle.control_lines.specs.Control.{read_control}
use Rattle.control_lines.specs.Needed.{◌>>=◌}
use Rattle.json_fields.specs.declared.refusal.ReadRefusal.{ReadRefusal}
use Rattle.json_fields.specs.Faults.{least}
use Rattle.json_fields.specs.Fields.{data_of, field, is_object}
use Rattle.object_reader.specs.Egresses.{is_pooled, egress_value, pooled_value, egress_item}
use Rattle.object_reader.specs.Laws.{NodesAreWhole, NamespacesAreWhole, ClusterGroupsAreWhole, EgressesAreWhole, PooledEgressesAreWhole}
use Rattle.object_reader.specs.Nodes.{spec_of}
use Rattle.pod_reader.specs.Laws.{PodsAreWhole}
use Rattle.policy_objects.specs.Laws.{KubePoliciesAreWhole, AntreaPoliciesAreWhole, ClusterPoliciesAreWhole}
use Rattle.policy_reader.specs.declared.item.LineItem.{LineItem}
use Rattle.policy_reader.specs.declared.item.LineItem.TheVariants as line
use Rattle.policy_reader.specs.declared.kinds.ObjectKind.{ObjectKind}
use Rattle.policy_reader.specs.declared.kinds.ObjectKind.TheVariants as kind
use Rattle.policy_reader.specs.declared.reader.Found.{Found}
use Rattle.policy_reader.specs.declared.reader.Found.TheVariants.{Read, PassedOver}
use Rattle.policy_reader.specs.Kinds.{faults_of, kind_of, removed_faults, removed_value, value_of}
use Rattle.policy_reader.specs.Laws.{IsWholeItem, WhatIsReadIsWhole}
use Rattle.policy_reader.specs.ReadLine.{by_kind, event_object, found_put, found_removed, inner_kind, is_blank, is_control, is_put, item_at, kept, line_of, line_of_control, list_items, misshapen, needed, of_item, of_object, put_of, read_added, read_bare, read_deleted, read_event, read_inner, read_items, read_line, read_list, read_other, read_put, read_removed, read_typed, read_value, removed_of, unless_faulty}

-- ---- what is read in steps

module _ {A B : Type 0} (P : B → Type 0) where
  -- what holds of what follows, whatever came before
  after_any : (r : Result A ReadRefusal) (next : A → Result B ReadRefusal) → ((a : A) → IfOk (next a) P) → IfOk (r >>= next) P
  after_any (Ok a) next follows = follows a
  after_any (Err f) next follows = tt

  -- what holds of what follows, where something holds of what came before
  after_whole : (Q : A → Type 0) (r : Result A ReadRefusal) (next : A → Result B ReadRefusal) → IfOk r Q → ((a : A) → Q a → IfOk (next a) P) → IfOk (r >>= next) P
  after_whole Q (Ok a) next whole follows = follows a whole
  after_whole Q (Err f) next whole follows = tt

-- ---- objects

-- what holds of the objects of each kind
pub record WholeKinds : Type 0 where
  pub nodes : NodesAreWhole
  pub namespaces : NamespacesAreWhole
  pub groups : ClusterGroupsAreWhole
  pub egresses : EgressesAreWhole
  pub pooled : PooledEgressesAreWhole
  pub pods : PodsAreWhole
  pub kube : KubePoliciesAreWhole
  pub antrea : AntreaPoliciesAreWhole
  pub cluster : ClusterPoliciesAreWhole

abbrev IsWholeFound : Found → Type 0
IsWholeFound (Read i) = IsWholeItem i
IsWholeFound (PassedOver name) = Unit {0}

abbrev IsWholeLine : LineItem → Type 0
IsWholeLine (line.Objects items) = AllByRecursion IsWholeItem items
IsWholeLine _ = Unit {0}

not_faulty : (o : Option ReadRefusal) (i : RefItem) → IsWholeItem i → IfOk (unless_faulty o i) IsWholeItem
not_faulty None i whole = whole
not_faulty (Some f) i whole = tt

line_is : (found : Found) → IsWholeFound found → IsWholeLine (line_of found)
line_is (Read i) whole = (whole, tt)
line_is (PassedOver name) whole = tt

removed_is : (k : ObjectKind) (d : Data) → IsWholeItem (removed_value k d)
removed_is kind.Node d = tt
removed_is kind.Namespace d = tt
removed_is kind.Pod d = tt
removed_is kind.Tier d = tt
removed_is kind.KubePolicy d = tt
removed_is kind.AntreaPolicy d = tt
removed_is kind.ClusterPolicy d = tt
removed_is kind.Egress d = tt
removed_is kind.ClusterGroup d = tt
removed_is kind.Pool d = tt

found_removed_is : (name : List ℕ) (d : Data) (o : Option ObjectKind) → IfOk (found_removed name d o) IsWholeFound
unfolding found_removed
found_removed_is name d None = tt
found_removed_is name d (Some k) =
    after_whole IsWholeFound IsWholeItem (removed_of k d) _ (not_faulty (least (removed_faults k d)) (removed_value k d) (removed_is k d)) (λ i whole. whole)

read_removed_is : (name : List ℕ) (d : Data) → IfOk (read_removed name d) IsWholeFound
unfolding read_removed
read_removed_is name d = after_any IsWholeFound (kind_of name (field (codes "apiVersion") d)) (found_removed name d) (found_removed_is name d)

module _ (law : WholeKinds) where
  egress_is : (d : Data) → IsWholeItem (egress_item d)
  unfolding egress_item
  egress_is d = by_test (is_pooled (spec_of d))
    where
      by_test : (b : Bool) → IsWholeItem (if b then PutPooled (pooled_value d) else Plain (Put (Egress (egress_value d))))
      by_test true = law.pooled d
      by_test false = law.egresses d

  value_is : (k : ObjectKind) (d : Data) → IsWholeItem (value_of k d)
  value_is kind.Node d = law.nodes d
  value_is kind.Namespace d = law.namespaces d
  value_is kind.Pod d = law.pods d
  value_is kind.Tier d = tt
  value_is kind.KubePolicy d = law.kube d
  value_is kind.AntreaPolicy d = law.antrea d
  value_is kind.ClusterPolicy d = law.cluster d
  value_is kind.Egress d = egress_is d
  value_is kind.ClusterGroup d = law.groups d
  value_is kind.Pool d = tt

  found_put_is : (name : List ℕ) (d : Data) (o : Option ObjectKind) → IfOk (found_put name d o) IsWholeFound
  unfolding found_put
  found_put_is name d None = tt
  found_put_is name d (Some k) =
      after_whole IsWholeFound IsWholeItem (put_of k d) _ (not_faulty (least (faults_of k d)) (value_of k d) (value_is k d)) (λ i whole. whole)

  read_put_is : (name : List ℕ) (d : Data) → IfOk (read_put name d) IsWholeFound
  unfolding read_put
  read_put_is name d = after_any IsWholeFound (kind_of name (field (codes "apiVersion") d)) (found_put name d) (found_put_is name d)

  -- ---- lists

  read_inner_is : (d : Data) → IfOk (read_inner d) IsWholeFound
  unfolding read_inner
  read_inner_is d = after_any IsWholeFound (inner_kind d) _ (λ name. read_put_is name d)

  of_item_is : (i : ℕ) (r : Result Found ReadRefusal) → IfOk r IsWholeFound → IfOk (of_item i r) IsWholeFound
  of_item_is i (Ok found) whole = whole
  of_item_is i (Err f) whole = tt

  item_at_is : (i : ℕ) (d : Data) → IfOk (item_at i d) IsWholeFound
  unfolding item_at
  item_at_is i d = of_item_is i (read_inner d) (read_inner_is d)

  kept_is : (found : Found) (items : List RefItem) → IsWholeFound found → AllByRecursion IsWholeItem items → AllByRecursion IsWholeItem (kept found items)
  kept_is (Read i) items whole all = (whole, all)
  kept_is (PassedOver name) items whole all = all

  read_items_is : (i : ℕ) (ds : List Data) → IfOk (read_items i ds) (AllByRecursion IsWholeItem)
  read_items_is i [] = tt
  read_items_is i (d ∷ ds) =
      after_whole (AllByRecursion IsWholeItem) IsWholeFound (item_at i d) _ (item_at_is i d)
      (λ found whole. after_whole (AllByRecursion IsWholeItem) (AllByRecursion IsWholeItem) (read_items (i + 1) ds) _ (read_items_is (i + 1) ds) (λ items all. kept_is found items whole all))

  read_list_is : (d : Data) → IfOk (read_list d) IsWholeLine
  unfolding read_list
  read_list_is d =
      after_any IsWholeLine (list_items d) _
      (λ ds. after_whole IsWholeLine (AllByRecursion IsWholeItem) (read_items 0 ds) _ (read_items_is 0 ds) (λ items all. all))

  -- ---- events

  read_added_is : (d : Data) → IfOk (read_added d) IsWholeLine
  unfolding read_added
  read_added_is d =
      after_any IsWholeLine (event_object d) _
      (λ o. after_any IsWholeLine (of_object (inner_kind o)) _ (λ name. after_whole IsWholeLine IsWholeFound (read_put name o) _ (read_put_is name o) line_is))

  read_deleted_is : (d : Data) → IfOk (read_deleted d) IsWholeLine
  unfolding read_deleted
  read_deleted_is d =
      after_any IsWholeLine (event_object d) _
      (λ o. after_any IsWholeLine (of_object (inner_kind o)) _ (λ name. after_whole IsWholeLine IsWholeFound (read_removed name o) _ (read_removed_is name o) line_is))

  control_is : (c : ControlLine) → IsWholeLine (line_of_control c)
  control_is (control.Control c) = tt
  control_is (control.Order o) = tt

  read_other_is : (type : List ℕ) (d : Data) → IfOk (read_other type d) IsWholeLine
  unfolding read_other
  read_other_is type d = by_test (is_control type)
    where
      by_test : (b : Bool) → IfOk (if b then (read_control type d >>= λ c. Ok (line_of_control c)) else misshapen (codes "type")) IsWholeLine
      by_test true = after_any IsWholeLine (read_control type d) _ control_is
      by_test false = tt

  read_event_is : (type : List ℕ) (d : Data) → IfOk (read_event type d) IsWholeLine
  unfolding read_event
  read_event_is type d = by_test (is_put type) (text_eq type (codes "DELETED")) (text_eq type (codes "BOOKMARK"))
    where
      by_test : (b c e : Bool) → IfOk (if b then read_added d else (if c then read_deleted d else (if e then Ok (line.Ignored (codes "BOOKMARK")) else read_other type d))) IsWholeLine
      by_test true c e = read_added_is d
      by_test false true e = read_deleted_is d
      by_test false false true = tt
      by_test false false false = read_other_is type d

  -- ---- lines

  read_bare_is : (name : List ℕ) (d : Data) → IfOk (read_bare name d) IsWholeLine
  unfolding read_bare
  read_bare_is name d = by_test (text_eq name (codes "List"))
    where
      by_test : (b : Bool) → IfOk (if b then read_list d else (read_put name d >>= λ found. Ok (line_of found))) IsWholeLine
      by_test true = read_list_is d
      by_test false = after_whole IsWholeLine IsWholeFound (read_put name d) _ (read_put_is name d) line_is

  read_typed_is : (d : Data) → IfOk (read_typed d) IsWholeLine
  unfolding read_typed
  read_typed_is d =
      after_any IsWholeLine (needed (codes "kind") (field (codes "type") d)) _
      (λ t. after_any IsWholeLine (needed (codes "type") (as_str t)) _ (λ type. read_event_is type d))

  by_kind_is : (o : Option Data) (d : Data) → IfOk (by_kind o d) IsWholeLine
  by_kind_is None d = read_typed_is d
  by_kind_is (Some k) d = after_any IsWholeLine (needed (codes "kind") (as_str k)) _ (λ name. read_bare_is name d)

  read_value_is : (d : Data) → IfOk (read_value d) IsWholeLine
  unfolding read_value
  read_value_is d = by_test (is_object d)
    where
      by_test : (b : Bool) → IfOk (if b then by_kind (field (codes "kind") d) d else misshapen (codes ".")) IsWholeLine
      by_test true = by_kind_is (field (codes "kind") d) d
      by_test false = tt

  read_line_is : (bytes : List ℕ) → IfOk (read_line bytes) IsWholeLine
  unfolding read_line
  read_line_is bytes = by_test (is_blank bytes)
    where
      by_test : (b : Bool) → IfOk (if b then Ok line.Blank else (data_of bytes >>= read_value)) IsWholeLine
      by_test true = tt
      by_test false = after_any IsWholeLine (data_of bytes) read_value read_value_is

  pub read_is_whole : WhatIsReadIsWhole
  read_is_whole bytes items is = subst (λ (r : Result LineItem ReadRefusal). IfOk r IsWholeLine) is (read_line_is bytes)
