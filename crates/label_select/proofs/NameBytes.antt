-- Names have no `/`.
use Rattle.std.proofs.Common.{◌≡◌, ◌≢◌, ℕ, List, [], ◌∷◌, true, All, sym, ap, ◌∙◌}
use Rattle.std.specs.List.{list_all}
use Rattle.std.proofs.lemmas.Bool.{and_parts, true≢false}
use Rattle.std.proofs.lemmas.List.Elements.{All-nil, All-cons}
use Rattle.label_select.specs.Forms.{is_label_byte, is_namespace_name, is_object_name}
use Rattle.label_select.proofs.FormBytes.{namespace_name-bytes, object_name-bytes, namespace_name-some}

no_slash-byte : (b : ℕ) → is_label_byte b ≡ true → b ≢ 47
no_slash-byte b is same = true≢false (sym is ∙ ap is_label_byte same)

no_slash : (text : List ℕ) → list_all is_label_byte text ≡ true → All (λ b. b ≢ 47) text
no_slash [] is = All-nil (λ b. b ≢ 47)
no_slash (b ∷ bs) is =
    let parts = and_parts (is_label_byte b) (list_all is_label_byte bs) is in
    All-cons (λ c. c ≢ 47) b bs (no_slash-byte b parts.0) (no_slash bs parts.1)

pub namespace_name-no_slash : (text : List ℕ) → is_namespace_name text ≡ true → All (λ b. b ≢ 47) text × (text ≢ [])
namespace_name-no_slash text is =
    (no_slash text (namespace_name-bytes text is), λ none. namespace_name-some (sym (ap is_namespace_name none) ∙ is))

pub object_name-no_slash : (text : List ℕ) → is_object_name text ≡ true → All (λ b. b ≢ 47) text
object_name-no_slash text is = no_slash text (object_name-bytes text is)
