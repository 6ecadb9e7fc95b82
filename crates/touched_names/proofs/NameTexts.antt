-- The texts of names of different kinds differ.
use Rattle.std.proofs.Common.{◌≡◌, ℕ, List, [], ◌∷◌, ◌++◌, codes, true, not, Option, Some, find, cond, refl, sym, ap, ◌∙◌, arith}
use Rattle.std.specs.List.{list_all}
use Rattle.std.proofs.lemmas.Bool.{and_parts}
use Rattle.cl_types.specs.declared.keys.PolicyKind.{PolicyKind}
use Rattle.cl_types.specs.declared.keys.PolicyKind.TheVariants.{Cluster, Antrea, Kube}
use Rattle.cl_types.specs.PolicyName.{PolicyName}
use Rattle.cl_types.specs.Written.{kind_text, policy_text, name_text as policy_name_text}
use Rattle.label_select.specs.declared.group.Scope.{Scope}
use Rattle.label_select.specs.declared.group.Scope.TheVariants.{Namespace, Namespaces}
use Rattle.label_select.specs.Forms.{is_label_byte}
use Rattle.label_select.specs.Group.{Group, IsGroup, IsWholeScope}
use Rattle.label_select.specs.Written.{group_text, scope_text, selector_text}
use Rattle.label_select.proofs.FormBytes.{namespace_name-bytes}

-- the first byte that doesn't stand in a label's name
abbrev stop_of : List ℕ → Option ℕ
stop_of text = find (λ b. not (is_label_byte b)) text

stop_of-name : (name rest : List ℕ) → list_all is_label_byte name ≡ true → stop_of (name ++ 47 ∷ rest) ≡ Some 47
stop_of-name [] rest all = refl
stop_of-name (b ∷ bs) rest all =
    let parts = and_parts (is_label_byte b) (list_all is_label_byte bs) all in
    ap (λ z. cond (not z) (Some b) (stop_of (bs ++ 47 ∷ rest))) parts.0 ∙ stop_of-name bs rest parts.1

numbers_differ : (m n : ℕ) → Some m ≡ Some n → m ≡ n
numbers_differ m n e = cc

-- no `:` comes first in a group's text
no_colon : (s : Scope) (rest : List ℕ) → IsWholeScope s → stop_of (scope_text s ++ 47 ∷ rest) ≡ Some 58 → ⊥
no_colon (Namespace name) rest form e =
    let apart : 47 ≡ 58 = numbers_differ 47 58 (sym (stop_of-name name rest (namespace_name-bytes name form)) ∙ e) in
    omega (arith, apart)
no_colon (Namespaces selector) rest form e = let apart : 91 ≡ 58 = numbers_differ 91 58 e in omega (arith, apart)

-- it does in a policy's
colon : (k : PolicyKind) (rest : List ℕ) → stop_of (kind_text k ++ rest) ≡ Some 58
colon Cluster rest = refl
colon Antrea rest = refl
colon Kube rest = refl

pub group_no_policy : (g : Group) (key : PolicyName) → IsGroup g → group_text g ≡ policy_text key → ⊥
group_no_policy g key form e =
    no_colon g.scope (selector_text g.pods) form.scope_form (ap stop_of e ∙ colon key.kind (policy_name_text key.kind key.namespace key.name))

pub group_no_egress : (g : Group) (text : List ℕ) → IsGroup g → group_text g ≡ codes "egress:" ++ text → ⊥
group_no_egress g text form e = no_colon g.scope (selector_text g.pods) form.scope_form (ap stop_of e)

pub policy_no_egress : (key : PolicyName) (text : List ℕ) → policy_text key ≡ codes "egress:" ++ text → ⊥
policy_no_egress key text e = by_kind key.kind (policy_name_text key.kind key.namespace key.name) e
  where
    by_kind : (k : PolicyKind) (rest : List ℕ) → kind_text k ++ rest ≡ codes "egress:" ++ text → ⊥
    by_kind Cluster rest e = let apart : ◌≡◌ {A = ℕ} 97 101 = cc in omega (arith, apart)
    by_kind Antrea rest e = let apart : ◌≡◌ {A = ℕ} 97 101 = cc in omega (arith, apart)
    by_kind Kube rest e = let apart : ◌≡◌ {A = ℕ} 107 101 = cc in omega (arith, apart)
