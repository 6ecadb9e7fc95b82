-- The texts of needs, selectors and groups (this project's own; the words of a need are those of kubectl's
-- selectors).
use Rattle.std.specs.Prelude.{ℕ, List, ◌++◌, map, codes}
use Rattle.std.specs.List.{join_with_byte}
use Rattle.cl_types.specs.Bytes.{comma}
use Rattle.label_select.specs.declared.selector.Op.{Op}
use Rattle.label_select.specs.declared.selector.Op.TheVariants.{OneOf, NoneOf, Present, Missing}
use Rattle.label_select.specs.declared.group.Scope.{Scope}
use Rattle.label_select.specs.declared.group.Scope.TheVariants.{Namespace, Namespaces}
use Rattle.label_select.specs.Selection.{Requirement, Selection}
use Rattle.label_select.specs.Group.{Group}

-- `A,B`
abbrev pub listed : List (List ℕ) → List ℕ
listed texts = join_with_byte comma texts

-- `KEY in (A,B)`, `KEY notin (A,B)`, `KEY` and `!KEY`
abbrev pub op_text : Op → List ℕ → List (List ℕ) → List ℕ
op_text OneOf key values = key ++ (codes " in (" ++ (listed values ++ codes ")"))
op_text NoneOf key values = key ++ (codes " notin (" ++ (listed values ++ codes ")"))
op_text Present key values = key
op_text Missing key values = codes "!" ++ key

abbrev pub need_text : Requirement → List ℕ
need_text need = op_text need.op need.key need.values

-- `[NEED,NEED]`
abbrev pub selector_text : Selection → List ℕ
selector_text s = codes "[" ++ (listed (map need_text s.needs) ++ codes "]")

-- a namespace's name or a selector
abbrev pub scope_text : Scope → List ℕ
scope_text (Namespace name) = name
scope_text (Namespaces selector) = selector_text selector

-- `SCOPE/SELECTOR`
abbrev pub group_text : Group → List ℕ
group_text g = scope_text g.scope ++ (codes "/" ++ selector_text g.pods)
