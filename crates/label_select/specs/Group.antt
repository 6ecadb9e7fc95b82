-- Groups of pods (this project's own keys of Antrea's address groups and applied-to groups).
use Rattle.std.specs.Prelude.{ℕ, List, Bool, ◌&&◌, IsTrue}
use Rattle.cl_types.specs.Text.{text_eq}
use Rattle.label_select.specs.declared.labels.Label.{Label}
use Rattle.label_select.specs.declared.group.Scope.{Scope}
use Rattle.label_select.specs.declared.group.Scope.TheVariants.{Namespace, Namespaces}
use Rattle.label_select.specs.Forms.{is_namespace_name}
use Rattle.label_select.specs.Selection.{Selection, selects}
use Rattle.label_select.specs.Canonical.{IsSelection}

-- a group's key as plain data
pub record Group : Type 0 where
  pub scope : Scope
  pub pods : Selection

-- a scope by name has the form of a namespace's name
abbrev pub IsScope : Scope → Type 0
IsScope (Namespace name) = IsTrue (is_namespace_name name)
IsScope (Namespaces selector) = Unit {0}

-- the same, and what the selector of a scope keeps
abbrev pub IsWholeScope : Scope → Type 0
IsWholeScope (Namespace name) = IsTrue (is_namespace_name name)
IsWholeScope (Namespaces selector) = IsSelection selector

-- what a group keeps, with all its parts
pub record IsGroup (g : Group) : Type 0 where
  pub scope_form : IsWholeScope g.scope
  pub pods_form : IsSelection g.pods

-- whether a namespace with these labels is in the scope
abbrev pub in_scope : Scope → List ℕ → List Label → Bool
in_scope (Namespace name) namespace ns_labels = text_eq name namespace
in_scope (Namespaces selector) namespace ns_labels = selects selector ns_labels

-- whether a pod of the namespace is in the group: the namespace is in the scope, and the pod selector
-- selects the pod's labels
abbrev pub group_has : Group → List ℕ → List Label → List Label → Bool
group_has g namespace ns_labels labels = in_scope g.scope namespace ns_labels && selects g.pods labels
