-- The names under which objects stand on a stream, and their order: the byte order of their printed texts (this
-- project's own).
use Rattle.std.specs.Prelude.{◌≢◌, ℕ, List, [], ◌∷◌, ◌++◌, codes}
use Rattle.std.specs.List.{AllByRecursion}
use Rattle.std.specs.declared.cmp.Ordering.{Ordering}
use Rattle.cl_types.specs.Ascending.{Ascends, sorted_by}
use Rattle.cl_types.specs.Text.{text_order}
use Rattle.cl_types.specs.Written.{policy_text}
use Rattle.label_select.specs.Written.{group_text}
use Rattle.watch_streams.specs.declared.message.StreamChange.{StreamChange}
use Rattle.watch_streams.specs.declared.message.StreamChange.TheVariants as change
use Rattle.watch_streams.specs.declared.message.StreamName.{StreamName}
use Rattle.watch_streams.specs.declared.message.StreamName.TheVariants as name
use Rattle.watch_streams.specs.declared.message.StreamObject.{StreamObject}
use Rattle.watch_streams.specs.declared.message.StreamObject.TheVariants as object

abbrev pub name_of : StreamObject → StreamName
name_of (object.Policy p) = name.Policy p.key
name_of (object.Egress e) = name.Egress e.name
name_of (object.Group group members) = name.Group group

abbrev pub changed_name : StreamChange → StreamName
changed_name (change.Put o) = name_of o
changed_name (change.Patch group added removed) = name.Group group
changed_name (change.Remove n) = n

abbrev pub name_text : StreamName → List ℕ
name_text (name.Policy key) = policy_text key
name_text (name.Egress text) = codes "egress:" ++ text
name_text (name.Group group) = group_text group

abbrev pub object_text : StreamObject → List ℕ
object_text o = name_text (name_of o)

abbrev pub at_text : List ℕ → StreamObject → Ordering
at_text text o = text_order (object_text o) text

-- the objects in the order of their names' texts, the first of each name
abbrev pub by_name : List StreamObject → List StreamObject
by_name = sorted_by object_text text_order

-- objects in the order of their names' texts, none of one name
abbrev pub AscendByName : List StreamObject → Type 0
AscendByName = Ascends object_text text_order

-- no two are one
abbrev pub AreDistinct : {T : Type 0} → List T → Type 0
AreDistinct [] = Unit {0}
AreDistinct (x ∷ xs) = AllByRecursion (λ y. x ≢ y) xs × AreDistinct xs
