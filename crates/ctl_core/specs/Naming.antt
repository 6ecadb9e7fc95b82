-- Groups that have the form of groups (this project's own).
use Rattle.std.specs.Prelude.{List}
use Rattle.std.specs.List.{AllByRecursion}
use Rattle.label_select.specs.Group.{IsGroup}
use Rattle.group_index.specs.Index.{EntryData}

abbrev pub AreGroups : List EntryData → Type 0
AreGroups index = AllByRecursion (λ (e : EntryData). IsGroup e.group) index
