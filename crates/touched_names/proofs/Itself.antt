-- Nothing changes where a thing takes its own place.
use Rattle.std.proofs.Common.{◌≡◌, List, [], ◌∷◌, Bool, true, false, not, ◌||◌, Option, Some, None, refl, ap, ◌∙◌}
use Rattle.std.specs.List.{AllByRecursion}
use Rattle.std.specs.Ordering.{is_eq}
use Rattle.std.proofs.lemmas.Cmp.{tied_itself}
use Rattle.cl_types.specs.EqualityLaws.{is_same-itself}
use Rattle.cl_types.specs.ListLaws.{all_weaker}
use Rattle.watch_streams.specs.declared.message.StreamObject.{StreamObject}
use Rattle.watch_streams.specs.declared.message.StreamObject.TheVariants as object
use Rattle.watch_streams.specs.declared.net.NetEgress as egress
use Rattle.watch_streams.specs.declared.net.NetPolicy as policy
use Rattle.watch_streams.specs.Difference.{changed, has_member, members_without, patch, unless_same}
use Rattle.watch_streams.specs.MemberOrder.{member_order_total}
use Rattle.watch_streams.specs.Net.{MemberData, member_order}
use Rattle.watch_streams.specs.OneOfAll.{filter-all, filter-none}

or_true : (b : Bool) → (b || true) ≡ true
or_true true = refl
or_true false = refl

all_had : (ms : List MemberData) → AllByRecursion (λ m. has_member ms m ≡ true) ms
all_had [] = tt
all_had (m ∷ ms) = (
  ap (λ r. is_eq r || has_member ms m) (tied_itself member_order_total m),
  all_weaker (λ n. has_member ms n ≡ true) (λ n. has_member (m ∷ ms) n ≡ true) (λ n had. ap (λ b. is_eq (member_order m n) || b) had ∙ or_true (is_eq (member_order m n))) ms (all_had ms),
)

-- no member lacks among the members themselves
without_itself : (ms : List MemberData) → members_without ms ms ≡ []
without_itself ms =
    filter-all (λ m. not (has_member ms m)) (λ m. false) ms
    (all_weaker (λ m. has_member ms m ≡ true) (λ m. not (has_member ms m) ≡ false) (λ m had. ap not had) ms (all_had ms))
    ∙ filter-none (λ m. false) (λ m. refl) ms

pub changed_same : (x : Option StreamObject) → changed x x ≡ []
changed_same None = refl
changed_same (Some (object.Policy p)) = ap (λ b. unless_same b (object.Policy p)) (is_same-itself policy.the_code p)
changed_same (Some (object.Egress e)) = ap (λ b. unless_same b (object.Egress e)) (is_same-itself egress.the_code e)
changed_same (Some (object.Group g members)) = ap (λ z. patch g z z) (without_itself members)
