-- Where the members stay, nothing changes.
use Rattle.std.proofs.Common.{◌≡◌, List, [], ◌∷◌, ◌++◌, Bool, true, false, ◌||◌, refl, ap, ◌∙◌}
use Rattle.std.specs.List.{AllByRecursion}
use Rattle.std.proofs.lemmas.List.{append-nil}
use Rattle.cl_types.specs.Equality.{is_same}
use Rattle.cl_types.specs.EqualityLaws.{is_same-itself}
use Rattle.cl_types.specs.ListLaws.{all_weaker}
use Rattle.label_select.specs.Group.{Group}
use Rattle.group_index.specs.declared.member.Member as member
use Rattle.group_index.specs.declared.change.GroupChange.{GroupChange}
use Rattle.group_index.specs.Changes.{change_if_any, group_change, has_member, members_without}
use Rattle.group_index.specs.Members.{MemberData}

or_true : (b : Bool) → (b || true) ≡ true
or_true true = refl
or_true false = refl

-- each member of a list is among them
pub all_there : (ms : List MemberData) → AllByRecursion (λ m. has_member ms m ≡ true) ms
all_there [] = tt
all_there (m ∷ ms) = (
  ap (λ b. b || has_member ms m) (is_same-itself member.the_code m),
  all_weaker (λ n. has_member ms n ≡ true) (λ n. has_member (m ∷ ms) n ≡ true) (λ n h. ap (λ b. is_same member.the_code n m || b) h ∙ or_true (is_same member.the_code n m)) ms (all_there ms),
)

none_lacking : (others ms : List MemberData) → AllByRecursion (λ m. has_member others m ≡ true) ms → members_without ms others ≡ []
none_lacking others [] all = refl
none_lacking others (m ∷ ms) all = rw all.0 (none_lacking others ms all.1)

itself : (g : Group) (ms : List MemberData) → group_change g ms ms ≡ []
unfolding group_change
itself g ms =
    ap (λ xs. change_if_any g xs (members_without ms ms)) (none_lacking ms ms (all_there ms))
    ∙ ap (change_if_any g []) (none_lacking ms ms (all_there ms))

pub unchanged : (changes : List GroupChange) (g : Group) (old new : List MemberData) → old ≡ new → changes ≡ changes ++ group_change g old new
unchanged changes g old new same = rw (← same, itself g old, append-nil changes) refl
