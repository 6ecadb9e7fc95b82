-- The items of a list, read one after the other.
use Rattle.std.proofs.Common.{List, ◌++◌, Result, Ok, Err}
use Rattle.cluster_types.specs.declared.references.RefItem.{RefItem}
use Rattle.json_fields.specs.declared.refusal.ReadRefusal.{ReadRefusal}

-- what is read behind items that are read
abbrev pub after : List RefItem → Result (List RefItem) ReadRefusal → Result (List RefItem) ReadRefusal
after is (Ok js) = Ok (is ++ js)
after is (Err f) = Err f
