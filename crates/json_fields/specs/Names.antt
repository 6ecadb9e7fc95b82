-- Names, namespaces and labels of objects (Kubernetes: object names, namespaces, labels).
use Rattle.std.specs.Prelude.{ℕ, List, [], ◌∷◌, ◌++◌, Bool, ◌&&◌, Option, Some, None, codes, if◌then◌else◌}
use Rattle.serde_json.specs.Data.{Data}
use Rattle.serde_json.specs.Find.{as_str}
use Rattle.label_select.specs.declared.labels.Label.{Label}
use Rattle.label_select.specs.Forms.{is_namespace_name, is_object_name, is_label_key, is_label_value}
use Rattle.label_select.specs.Selection.{put_label}
use Rattle.json_fields.specs.declared.metadata.NameForm.{NameForm}
use Rattle.json_fields.specs.declared.metadata.NameForm.TheVariants.{ObjectName, NamespaceName}
use Rattle.json_fields.specs.declared.refusal.ReadRefusal.{ReadRefusal}
use Rattle.json_fields.specs.declared.refusal.ReadRefusal.TheVariants.{BadName, BadLabel}
use Rattle.json_fields.specs.Fields.{is_null, members}
use Rattle.json_fields.specs.Shapes.{shape_fault, unless, in_field, object_faults, text_value}

-- ---- names

abbrev pub has_form : NameForm → List ℕ → Bool
has_form ObjectName text = is_object_name text
has_form NamespaceName text = is_namespace_name text

-- a text of the form
abbrev pub formed_faults : NameForm → Option (List ℕ) → List ReadRefusal
formed_faults form None = shape_fault
formed_faults form (Some text) = unless (has_form form text) BadName

-- a name, which must be there
unfoldable pub name_faults : NameForm → Option Data → List ReadRefusal
name_faults form None = shape_fault
name_faults form (Some d) = formed_faults form (as_str d)

unfoldable pub name_value : NameForm → Option Data → List ℕ
name_value form o = if has_form form (text_value o) then text_value o else []

-- the namespace where none is given
abbrev pub default_namespace : List ℕ
default_namespace = codes "default"

abbrev pub given_or_default : List ℕ → List ℕ
given_or_default [] = default_namespace
given_or_default (b ∷ bs) = b ∷ bs

abbrev pub namespace_text_faults : Option (List ℕ) → List ReadRefusal
namespace_text_faults None = shape_fault
namespace_text_faults (Some text) = unless (is_namespace_name (given_or_default text)) BadName

-- a namespace; absent or empty it is the default one
unfoldable pub namespace_faults : Option Data → List ReadRefusal
namespace_faults None = []
namespace_faults (Some d) = namespace_text_faults (as_str d)

unfoldable pub namespace_value : Option Data → List ℕ
namespace_value o =
    if is_namespace_name (given_or_default (text_value o)) then given_or_default (text_value o) else default_namespace

-- ---- labels

abbrev pub is_label : List ℕ → List ℕ → Bool
is_label key value = is_label_key key && is_label_value value

abbrev pub label_text_faults : List ℕ → Option (List ℕ) → List ReadRefusal
label_text_faults key None = shape_fault
label_text_faults key (Some text) = unless (is_label key text) BadLabel

-- a label; one that is null isn't there
unfoldable pub label_faults : List ℕ × Data → List ReadRefusal
label_faults m = if is_null m.1 then [] else label_text_faults m.0 (as_str m.1)

unfoldable pub each_label_faults : List (List ℕ × Data) → List ReadRefusal
each_label_faults [] = []
each_label_faults (m ∷ ms) = label_faults m ++ each_label_faults ms

abbrev pub members_faults : Option (List (List ℕ × Data)) → List ReadRefusal
members_faults None = shape_fault
members_faults (Some ms) = each_label_faults ms

-- an object of texts that have the forms of labels
unfoldable pub labels_faults : Option Data → List ReadRefusal
labels_faults None = []
labels_faults (Some d) = members_faults (members d)

-- the text of a member that has the form of a label
abbrev pub where_label : List ℕ → Option (List ℕ) → Option (List ℕ)
where_label key None = None
where_label key (Some text) = if is_label key text then Some text else None

unfoldable pub label_of : List ℕ × Data → Option (List ℕ)
label_of m = where_label m.0 (as_str m.1)

abbrev pub with_label : List Label → List ℕ → Option (List ℕ) → List Label
with_label labels key None = labels
with_label labels key (Some value) = put_label labels key value

-- the labels with those of the members
unfoldable pub labels_from : List (List ℕ × Data) → List Label → List Label
labels_from [] labels = labels
labels_from (m ∷ ms) labels = labels_from ms (with_label labels m.0 (label_of m))

abbrev pub given_members : Option (List (List ℕ × Data)) → List (List ℕ × Data)
given_members None = []
given_members (Some ms) = ms

-- the members of an object; of what is absent or no object there are none
unfoldable pub members_of : Option Data → List (List ℕ × Data)
members_of None = []
members_of (Some d) = given_members (members d)

unfoldable pub labels_value : Option Data → List Label
labels_value o = labels_from (members_of o) []

-- ---- metadata

-- the metadata of an object in no namespace
unfoldable pub metadata_faults : NameForm → Option Data → List ReadRefusal
metadata_faults form meta =
    object_faults meta
    ++ in_field (codes "name") (name_faults form) meta
    ++ in_field (codes "labels") labels_faults meta

-- the metadata of an object in a namespace
unfoldable pub namespaced_faults : Option Data → List ReadRefusal
namespaced_faults meta =
    object_faults meta
    ++ in_field (codes "name") (name_faults ObjectName) meta
    ++ in_field (codes "namespace") namespace_faults meta
    ++ in_field (codes "labels") labels_faults meta
