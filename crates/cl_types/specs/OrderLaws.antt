-- The orders are exact: Equal comes only of equal values.
use Rattle.std.proofs.Common.{◌≡◌, ◌≢◌, ℕ, List, Bool, true, false, Ordering, refl, sym, ap, ◌∙◌, arith, rules}
use Rattle.std.specs.declared.cmp.Ordering.TheVariants.{Less, Equal, Greater}
use Rattle.std.specs.Ordering.{ordering_then, nat_cmp, eq_by_cmp, is_eq}
use Rattle.std.specs.Cmp.Rules.{comparing}
use Rattle.std.specs.FinMap.{IsAntisymmetric, nat_cmp-IsAntisymmetric, slice_cmp-IsAntisymmetric}
use Rattle.std.proofs.lemmas.Cmp.{eq_by_cmp_equiv, tied_itself}
use Rattle.cl_types.specs.declared.addr.Addr.{Addr}
use Rattle.cl_types.specs.declared.addr.Addr.TheVariants.{V4, V6}
use Rattle.cl_types.specs.declared.keys.PolicyKind.{PolicyKind}
use Rattle.cl_types.specs.declared.keys.PolicyKind.TheVariants.{Cluster, Antrea, Kube}
use Rattle.cl_types.specs.declared.keys.Dir.{Dir}
use Rattle.cl_types.specs.declared.keys.Dir.TheVariants.{Ingress, Egress}
use Rattle.cl_types.specs.declared.keys.PodKey.{PodKey}
use Rattle.cl_types.specs.declared.keys.RuleKey.{RuleKey}
use Rattle.cl_types.specs.Addr.{addr_order, width_of, number_of}
use Rattle.cl_types.specs.PolicyName.{PolicyName}
use Rattle.cl_types.specs.Dir.{dir_place}
use Rattle.cl_types.specs.Text.{text_eq, text_order, text_order_total}
use Rattle.cl_types.specs.RuleOrder.{kind_place, pod_order, policy_order, rule_order}

-- both parts of a comparison by two keys are Equal where the whole is
pub both_equal : (o p : Ordering) → ordering_then o p ≡ Equal → (o ≡ Equal) × (p ≡ Equal)
both_equal Less p e = cc
both_equal Equal p e = (refl, e)
both_equal Greater p e = cc

pub nat_exact : IsAntisymmetric nat_cmp
nat_exact = nat_cmp-IsAntisymmetric

pub text_order_exact : IsAntisymmetric text_order
text_order_exact = slice_cmp-IsAntisymmetric nat_cmp-IsAntisymmetric

texts_tie : (a b : List ℕ) → text_eq a b ≡ eq_by_cmp text_order a b
texts_tie a b = search (comparing, rules)

-- texts are equal exactly where their order says so
pub text_eq-cmp : (a b : List ℕ) → text_eq a b ≡ is_eq (text_order b a)
text_eq-cmp a b = texts_tie a b ∙ (eq_by_cmp_equiv text_order_total).symm a b

pub text_eq-itself : (t : List ℕ) → text_eq t t ≡ true
text_eq-itself t = text_eq-cmp t t ∙ ap is_eq (tied_itself text_order_total t)

pub text_eq-one : (t u : List ℕ) → text_eq t u ≡ true → t ≡ u
text_eq-one t u e = by_order (text_order u t) refl (sym (text_eq-cmp t u) ∙ e)
  where
    by_order : (r : Ordering) → text_order u t ≡ r → is_eq r ≡ true → t ≡ u
    by_order Less is f = cc
    by_order Equal is f = sym (text_order_exact u t is)
    by_order Greater is f = cc

-- texts that differ aren't equal
pub text_eq-not : (t u : List ℕ) → t ≢ u → text_eq t u ≡ false
text_eq-not t u other = by_test (text_eq t u) refl
  where
    by_test : (b : Bool) → text_eq t u ≡ b → b ≡ false
    by_test true is = absurd (other (text_eq-one t u is))
    by_test false is = refl

kind_exact : (k l : PolicyKind) → kind_place k ≡ kind_place l → k ≡ l
kind_exact Cluster Cluster e = refl
kind_exact Cluster Antrea e = absurd (omega arith)
kind_exact Cluster Kube e = absurd (omega arith)
kind_exact Antrea Cluster e = absurd (omega arith)
kind_exact Antrea Antrea e = refl
kind_exact Antrea Kube e = absurd (omega arith)
kind_exact Kube Cluster e = absurd (omega arith)
kind_exact Kube Antrea e = absurd (omega arith)
kind_exact Kube Kube e = refl

dir_exact : (d e : Dir) → dir_place d ≡ dir_place e → d ≡ e
dir_exact Ingress Ingress h = refl
dir_exact Ingress Egress h = absurd (omega arith)
dir_exact Egress Ingress h = absurd (omega arith)
dir_exact Egress Egress h = refl

pub policy_order_exact : (a b : PolicyName) → policy_order a b ≡ Equal → a ≡ b
policy_order_exact a b e =
    let first = both_equal (nat_cmp (kind_place a.kind) (kind_place b.kind)) (ordering_then (text_order a.namespace b.namespace) (text_order a.name b.name)) e in
    let texts = both_equal (text_order a.namespace b.namespace) (text_order a.name b.name) first.1 in
    let kind = kind_exact a.kind b.kind (nat_exact (kind_place a.kind) (kind_place b.kind) first.0) in
    let namespace = text_order_exact a.namespace b.namespace texts.0 in
    let name = text_order_exact a.name b.name texts.1 in
    (λ i. record { kind = kind i; namespace = namespace i; name = name i })

pub rule_order_exact : (a b : RuleKey) → rule_order a b ≡ Equal → a ≡ b
rule_order_exact a b e =
    let first = both_equal (nat_cmp a.tier b.tier) (ordering_then (nat_cmp a.priority b.priority) (ordering_then (policy_order a.policy b.policy) (ordering_then (nat_cmp (dir_place a.dir) (dir_place b.dir)) (nat_cmp a.index b.index)))) e in
    let second = both_equal (nat_cmp a.priority b.priority) (ordering_then (policy_order a.policy b.policy) (ordering_then (nat_cmp (dir_place a.dir) (dir_place b.dir)) (nat_cmp a.index b.index))) first.1 in
    let third = both_equal (policy_order a.policy b.policy) (ordering_then (nat_cmp (dir_place a.dir) (dir_place b.dir)) (nat_cmp a.index b.index)) second.1 in
    let fourth = both_equal (nat_cmp (dir_place a.dir) (dir_place b.dir)) (nat_cmp a.index b.index) third.1 in
    let tier = nat_exact a.tier b.tier first.0 in
    let priority = nat_exact a.priority b.priority second.0 in
    let policy = policy_order_exact a.policy b.policy third.0 in
    let dir = dir_exact a.dir b.dir (nat_exact (dir_place a.dir) (dir_place b.dir) fourth.0) in
    let index = nat_exact a.index b.index fourth.1 in
    (λ i. record { tier = tier i; priority = priority i; policy = policy i; dir = dir i; index = index i })

same_address : (a b : Addr) → width_of a ≡ width_of b → number_of a ≡ number_of b → a ≡ b
same_address (V4 m) (V4 n) w e = ap V4 e
same_address (V4 m) (V6 n) w e = absurd (omega arith)
same_address (V6 m) (V4 n) w e = absurd (omega arith)
same_address (V6 m) (V6 n) w e = ap V6 e

pub addr_order_exact : (a b : Addr) → addr_order a b ≡ Equal → a ≡ b
addr_order_exact a b e =
    let parts = both_equal (nat_cmp (width_of a) (width_of b)) (nat_cmp (number_of a) (number_of b)) e in
    same_address a b (nat_exact (width_of a) (width_of b) parts.0) (nat_exact (number_of a) (number_of b) parts.1)

pub pod_order_exact : (a b : PodKey) → pod_order a b ≡ Equal → a ≡ b
pod_order_exact a b e =
    let parts = both_equal (text_order a.namespace b.namespace) (text_order a.name b.name) e in
    let namespace = text_order_exact a.namespace b.namespace parts.0 in
    let name = text_order_exact a.name b.name parts.1 in
    (λ i. record { namespace = namespace i; name = name i })
