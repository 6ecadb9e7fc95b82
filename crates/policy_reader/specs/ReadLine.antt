-- What a line of the input says: objects, bare, in a List or in an event, a control line, or nothing where it is blank
-- (Kubernetes: lists and watch events; the control lines are this project's own).
use Rattle.std.specs.Prelude.{ℕ, ◌+◌, List, [], ◌∷◌, Bool, false, ◌||◌, ◌==◌, Option, Some, None, Result, Ok, Err, if◌then◌else◌, codes}
use Rattle.std.specs.List.{list_all}
use Rattle.serde_json.specs.Data.{Data}
use Rattle.serde_json.specs.Find.{as_str}
use Rattle.cl_types.specs.Text.{text_eq}
use Rattle.cluster_types.specs.declared.references.RefItem.{RefItem}
use Rattle.control_lines.specs.declared.control.ControlLine.{ControlLine}
use Rattle.control_lines.specs.declared.control.ControlLine.TheVariants as control
use Rattle.control_lines.specs.Control.{read_control}
use Rattle.control_lines.specs.Needed.{◌>>=◌}
use Rattle.json_fields.specs.declared.refusal.ReadRefusal.{ReadRefusal}
use Rattle.json_fields.specs.declared.refusal.ReadRefusal.TheVariants.{BadShape}
use Rattle.json_fields.specs.Faults.{index_step, least, under}
use Rattle.json_fields.specs.Fields.{data_of, elements, field, is_object}
use Rattle.policy_reader.specs.declared.item.LineItem.{LineItem}
use Rattle.policy_reader.specs.declared.item.LineItem.TheVariants as line
use Rattle.policy_reader.specs.declared.kinds.ObjectKind.{ObjectKind}
use Rattle.policy_reader.specs.declared.reader.Found.{Found}
use Rattle.policy_reader.specs.declared.reader.Found.TheVariants.{Read, PassedOver}
use Rattle.policy_reader.specs.Kinds.{faults_of, kind_of, removed_faults, removed_value, value_of}

-- a value of the wrong kind, or one that is missing, at this path
abbrev pub misshapen : {A : Type 0} → List ℕ → Result A ReadRefusal
misshapen path = Err (BadShape path)

-- what must be there, at this path
abbrev pub needed : {A : Type 0} → List ℕ → Option A → Result A ReadRefusal
needed path None = misshapen path
needed path (Some x) = Ok x

-- ---- objects

-- the value, where it has no fault, and else the fault that counts
abbrev pub unless_faulty : {A : Type 0} → Option ReadRefusal → A → Result A ReadRefusal
unless_faulty None x = Ok x
unless_faulty (Some f) x = Err f

-- an object that is put
abbrev pub put_of : ObjectKind → Data → Result RefItem ReadRefusal
put_of k d = unless_faulty (least (faults_of k d)) (value_of k d)

-- an object that was deleted
abbrev pub removed_of : ObjectKind → Data → Result RefItem ReadRefusal
removed_of k d = unless_faulty (least (removed_faults k d)) (removed_value k d)

-- an object of a kind that isn't read is passed over
unfoldable pub found_put : List ℕ → Data → Option ObjectKind → Result Found ReadRefusal
found_put name d None = Ok (PassedOver name)
found_put name d (Some k) = put_of k d >>= λ i. Ok (Read i)

unfoldable pub found_removed : List ℕ → Data → Option ObjectKind → Result Found ReadRefusal
found_removed name d None = Ok (PassedOver name)
found_removed name d (Some k) = removed_of k d >>= λ i. Ok (Read i)

-- the object, whose kind has this name
unfoldable pub read_put : List ℕ → Data → Result Found ReadRefusal
read_put name d = kind_of name (field (codes "apiVersion") d) >>= found_put name d

unfoldable pub read_removed : List ℕ → Data → Result Found ReadRefusal
read_removed name d = kind_of name (field (codes "apiVersion") d) >>= found_removed name d

abbrev pub line_of : Found → LineItem
line_of (Read i) = line.Objects (i ∷ [])
line_of (PassedOver name) = line.Ignored name

-- ---- lists

-- the kind of an object that stands in another value, which isn't a List
abbrev pub kind_within : List ℕ → Result (List ℕ) ReadRefusal
kind_within name = if text_eq name (codes "List") then misshapen (codes "kind") else Ok name

-- the name of the kind of an object that stands in another value
unfoldable pub inner_kind : Data → Result (List ℕ) ReadRefusal
inner_kind d =
    if is_object d
    then (needed (codes "kind") (field (codes "kind") d) >>= λ k. (needed (codes "kind") (as_str k) >>= kind_within))
    else misshapen []

unfoldable pub read_inner : Data → Result Found ReadRefusal
read_inner d = inner_kind d >>= λ name. read_put name d

-- a fault of an item, as it is told of the list
abbrev pub of_item : ℕ → Result Found ReadRefusal → Result Found ReadRefusal
of_item i (Ok found) = Ok found
of_item i (Err f) = Err (under (codes "items") (under (index_step i) f))

-- the item at place i of a list
unfoldable pub item_at : ℕ → Data → Result Found ReadRefusal
item_at i d = of_item i (read_inner d)

-- items that are passed over are left out
abbrev pub kept : Found → List RefItem → List RefItem
kept (Read i) is = i ∷ is
kept (PassedOver name) is = is

-- the items from the i-th on; the first that has a fault decides
abbrev pub read_items : ℕ → List Data → Result (List RefItem) ReadRefusal
read_items i [] = Ok []
read_items i (d ∷ ds) = item_at i d >>= λ found. (read_items (i + 1) ds >>= λ is. Ok (kept found is))

unfoldable pub list_items : Data → Result (List Data) ReadRefusal
list_items d = needed (codes "items") (field (codes "items") d) >>= λ list. needed (codes "items") (elements list)

unfoldable pub read_list : Data → Result LineItem ReadRefusal
read_list d = list_items d >>= λ ds. (read_items 0 ds >>= λ is. Ok (line.Objects is))

-- ---- events

-- The object of an event. That it is none, or has no kind, is a fault of the event.
unfoldable pub event_object : Data → Result Data ReadRefusal
event_object d = needed (codes "object") (field (codes "object") d) >>= λ o. (if is_object o then Ok o else misshapen (codes "object"))

abbrev pub of_object : Result (List ℕ) ReadRefusal → Result (List ℕ) ReadRefusal
of_object (Ok name) = Ok name
of_object (Err f) = Err (under (codes "object") f)

unfoldable pub read_added : Data → Result LineItem ReadRefusal
read_added d = event_object d >>= λ o. (of_object (inner_kind o) >>= λ name. (read_put name o >>= λ found. Ok (line_of found)))

unfoldable pub read_deleted : Data → Result LineItem ReadRefusal
read_deleted d = event_object d >>= λ o. (of_object (inner_kind o) >>= λ name. (read_removed name o >>= λ found. Ok (line_of found)))

abbrev pub line_of_control : ControlLine → LineItem
line_of_control (control.Control c) = line.Control c
line_of_control (control.Order o) = line.Order o

-- the type of a control line begins with `X-`
abbrev pub is_control : List ℕ → Bool
is_control (a ∷ b ∷ rest) = text_eq (a ∷ b ∷ []) (codes "X-")
is_control _ = false

unfoldable pub read_other : List ℕ → Data → Result LineItem ReadRefusal
read_other type d =
    if is_control type then (read_control type d >>= λ c. Ok (line_of_control c)) else misshapen (codes "type")

unfoldable pub is_put : List ℕ → Bool
is_put type = text_eq type (codes "ADDED") || text_eq type (codes "MODIFIED")

unfoldable pub read_event : List ℕ → Data → Result LineItem ReadRefusal
read_event type d =
    if is_put type then read_added d
    else (if text_eq type (codes "DELETED") then read_deleted d
    else (if text_eq type (codes "BOOKMARK") then Ok (line.Ignored (codes "BOOKMARK")) else read_other type d))

-- ---- lines

-- an object that stands alone, or a List
unfoldable pub read_bare : List ℕ → Data → Result LineItem ReadRefusal
read_bare name d = if text_eq name (codes "List") then read_list d else (read_put name d >>= λ found. Ok (line_of found))

-- a value without `kind` is an event or a control line, by its type
unfoldable pub read_typed : Data → Result LineItem ReadRefusal
read_typed d = needed (codes "kind") (field (codes "type") d) >>= λ t. (needed (codes "type") (as_str t) >>= λ type. read_event type d)

abbrev pub by_kind : Option Data → Data → Result LineItem ReadRefusal
by_kind None d = read_typed d
by_kind (Some k) d = needed (codes "kind") (as_str k) >>= λ name. read_bare name d

unfoldable pub read_value : Data → Result LineItem ReadRefusal
read_value d = if is_object d then by_kind (field (codes "kind") d) d else misshapen (codes ".")

abbrev pub space : ℕ
space = 32

abbrev pub tab : ℕ
tab = 9

abbrev pub carriage_return : ℕ
carriage_return = 13

-- spaces, tabs and carriage returns alone
abbrev pub is_blank : List ℕ → Bool
is_blank bytes = list_all (λ b. (b == space) || (b == tab) || (b == carriage_return)) bytes

unfoldable pub read_line : List ℕ → Result LineItem ReadRefusal
read_line bytes = if is_blank bytes then Ok line.Blank else (data_of bytes >>= read_value)
