-- A group that takes in all pods, told by its parts (this project's own).
use Rattle.std.specs.Prelude.{List, [], ◌∷◌, Bool, true, false}
use Rattle.label_select.specs.declared.group.Scope.{Scope}
use Rattle.label_select.specs.declared.group.Scope.TheVariants.{Namespace, Namespaces}
use Rattle.label_select.specs.Selection.{Requirement, Selection}

abbrev pub is_none : List Requirement → Bool
is_none [] = true
is_none (need ∷ needs) = false

-- nothing is needed
abbrev pub selects_all : Selection → Bool
selects_all s = is_none s.needs

abbrev pub is_all_namespaces : Scope → Bool
is_all_namespaces (Namespace name) = false
is_all_namespaces (Namespaces selector) = selects_all selector
