-- The forms of the names that policies are read with.
use Rattle.std.proofs.Common.{◌≡◌, ℕ, List, [], Bool, true, false, Option, codes, if◌then◌else◌, refl, arith}
use Rattle.serde_json.specs.Data.{Data}
use Rattle.cl_types.specs.PolicyName.{HasNoSlash}
use Rattle.label_select.specs.Forms.{is_namespace_name, is_object_name, is_part}
use Rattle.json_fields.specs.declared.metadata.NameForm.TheVariants.{ObjectName}
use Rattle.json_fields.specs.Fields.{inner}
use Rattle.json_fields.specs.Names.{given_or_default, default_namespace, name_value, namespace_value}
use Rattle.json_fields.specs.Shapes.{text_value}
use Rattle.object_reader.specs.Nodes.{metadata_of, name_of}

default_has_form : is_namespace_name default_namespace ≡ true
unfolding is_namespace_name is_part
default_has_form = refl

-- what is read as a namespace has the form of one's name
pub namespace_has_form : (o : Option Data) → is_namespace_name (namespace_value o) ≡ true
unfolding namespace_value
namespace_has_form o = by_test (is_namespace_name (given_or_default (text_value o))) refl
  where
    by_test : (b : Bool) → is_namespace_name (given_or_default (text_value o)) ≡ b → is_namespace_name (if b then given_or_default (text_value o) else default_namespace) ≡ true
    by_test true is = is
    by_test false is = default_has_form

abbrev pub ObjectsHaveNoSlash : Type 0
ObjectsHaveNoSlash = (text : List ℕ) → is_object_name text ≡ true → HasNoSlash text

-- what is read as a name has no `/`
pub name_has_no_slash : ObjectsHaveNoSlash → (o : Option Data) → HasNoSlash (name_value ObjectName o)
unfolding name_value
name_has_no_slash law o = by_test (is_object_name (text_value o)) refl
  where
    by_test : (b : Bool) → is_object_name (text_value o) ≡ b → HasNoSlash (if b then text_value o else [])
    by_test true is = law (text_value o) is
    by_test false is = λ k d lt eq. omega (arith, lt)

pub policy_name_has_no_slash : ObjectsHaveNoSlash → (d : Data) → HasNoSlash (name_of d)
unfolding name_of
policy_name_has_no_slash law d = name_has_no_slash law (inner (codes "name") (metadata_of d))
