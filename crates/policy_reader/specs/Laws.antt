-- What is read of a line is whole: each object has what the types of its parts keep, so a cluster may take it (this
-- project's own).
use Rattle.std.specs.Prelude.{◌≡◌, ℕ, List, Ok}
use Rattle.std.specs.List.{AllByRecursion}
use Rattle.label_select.specs.Group.{IsGroup}
use Rattle.cluster_types.specs.declared.references.RefItem.{RefItem}
use Rattle.cluster_types.specs.declared.references.RefItem.TheVariants as item
use Rattle.cluster_types.specs.Whole.{IsWholePolicy}
use Rattle.cluster_objects.specs.Laws.{IsWholeChange}
use Rattle.object_reader.specs.Laws.{IsWholeBody}
use Rattle.policy_reader.specs.declared.item.LineItem.TheVariants.{Objects}
use Rattle.policy_reader.specs.ReadLine.{read_line}

-- what an item asks for has what its types keep; a policy has it before its references are written out
abbrev pub IsWholeItem : RefItem → Type 0
IsWholeItem (item.Plain change) = IsWholeChange change
IsWholeItem (item.PutGroup g) = IsWholeBody g.body
IsWholeItem (item.RemoveGroup name) = Unit {0}
IsWholeItem (item.PutPolicy p) = IsWholePolicy p.policy
IsWholeItem (item.PutPool pool) = Unit {0}
IsWholeItem (item.RemovePool name) = Unit {0}
IsWholeItem (item.PutPooled e) = IsGroup e.applied

-- all objects of a line that is read are whole
abbrev pub WhatIsReadIsWhole : Type 0
WhatIsReadIsWhole = (bytes : List ℕ) (items : List RefItem) → read_line bytes ≡ Ok (Objects items) → AllByRecursion IsWholeItem items
