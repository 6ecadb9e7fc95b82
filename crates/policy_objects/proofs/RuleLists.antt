-- What the rules that are read keep in their policy.
use Rattle.std.proofs.Common.{◌≡◌, ℕ, ◌+◌, ◌<◌, List, [], ◌∷◌, ◌++◌, length, Bool, true, false, Option, Some, None, option_and_then, unwrap_or, codes, refl, sym, ap, subst, ◌∙◌, arith}
use Rattle.std.specs.Cmp.{nat_cmp_is}
use Rattle.std.specs.List.{AllByRecursion}
use Rattle.std.specs.declared.cmp.Ordering.TheVariants.{Less}
use Rattle.serde_json.specs.Data.{Data}
use Rattle.cl_types.specs.declared.keys.Dir.{Dir}
use Rattle.cl_types.specs.declared.keys.Dir.TheVariants.{Ingress, Egress}
use Rattle.cl_types.specs.declared.keys.PolicyKind.{PolicyKind}
use Rattle.cl_types.specs.declared.keys.PolicyKind.TheVariants.{Cluster, Antrea, Kube}
use Rattle.cl_types.specs.declared.verdict.Action.{Action}
use Rattle.cl_types.specs.declared.verdict.Action.TheVariants.{Allow, Drop, Reject, Pass}
use Rattle.cl_types.specs.Ascending.{Ascends}
use Rattle.cl_types.specs.PolicyName.{PolicyName}
use Rattle.cl_types.specs.Text.{text_eq}
use Rattle.cluster_types.specs.declared.policy.Rule.{Rule}
use Rattle.cluster_types.specs.Policy.{PolicyData, place_order, isolates, IsBaseline, IsRuleOf, IsKubeRule, IsNativePolicy, IsPolicyOfKind, IsPolicy}
use Rattle.json_fields.specs.ValueLaws.{all_append}
use Rattle.policy_objects.specs.declared.rules.Frame.{Frame}
use Rattle.policy_parts.specs.Actions.{permitted, given_action}
use Rattle.policy_parts.specs.Places.{is_baseline}
use Rattle.policy_objects.specs.Rules.{action_of, tier_number, rule_at, rules_from, rules_value, ingress_items, egress_items}
use Rattle.policy_objects.specs.Policies.{isolates_in, isolates_out, kept, kube_rules}

-- ---- the rules are in order

less_after : (frame : Frame) (dir : Dir) (i j : ℕ) (d e : Data) → i < j → place_order (rule_at frame dir i d) (rule_at frame dir j e) ≡ Less
unfolding rule_at
less_after frame Ingress i j d e lt = sym (nat_cmp_is i j Less (omega (arith, lt)))
less_after frame Egress i j d e lt = sym (nat_cmp_is i j Less (omega (arith, lt)))

all_after : (frame : Frame) (dir : Dir) (i k : ℕ) (d : Data) (ds : List Data) → i < k → AllByRecursion (λ s. place_order (rule_at frame dir i d) s ≡ Less) (rules_from frame dir k ds)
unfolding rules_from
all_after frame dir i k d [] lt = tt
all_after frame dir i k d (e ∷ es) lt = (less_after frame dir i k d e lt, all_after frame dir i (k + 1) d es (omega (arith, lt)))

ascend_from : (frame : Frame) (dir : Dir) (i : ℕ) (ds : List Data) → Ascends (λ (r : Rule). r) place_order (rules_from frame dir i ds)
unfolding rules_from
ascend_from frame dir i [] = tt
ascend_from frame dir i (d ∷ ds) = (all_after frame dir i (i + 1) d ds (omega arith), ascend_from frame dir (i + 1) ds)

before_one : (frame : Frame) (i j : ℕ) (d e : Data) → place_order (rule_at frame Ingress i d) (rule_at frame Egress j e) ≡ Less
unfolding rule_at
before_one frame i j d e = refl

before_egress : (frame : Frame) (i k : ℕ) (d : Data) (es : List Data) → AllByRecursion (λ s. place_order (rule_at frame Ingress i d) s ≡ Less) (rules_from frame Egress k es)
unfolding rules_from
before_egress frame i k d [] = tt
before_egress frame i k d (e ∷ es) = (before_one frame i k d e, before_egress frame i (k + 1) d es)

both_ascend : (frame : Frame) (i : ℕ) (ds es : List Data) → Ascends (λ (r : Rule). r) place_order (rules_from frame Ingress i ds ++ rules_from frame Egress 0 es)
unfolding rules_from
both_ascend frame i [] es = ascend_from frame Egress 0 es
both_ascend frame i (d ∷ ds) es = (
  all_append (λ s. place_order (rule_at frame Ingress i d) s ≡ Less) (rules_from frame Ingress (i + 1) ds) (rules_from frame Egress 0 es)
      (all_after frame Ingress i (i + 1) d ds (omega arith)) (before_egress frame i 0 d es),
  both_ascend frame (i + 1) ds es,
)

in_order : (frame : Frame) (ds es : List Data) → Ascends (λ (r : Rule). r) place_order (rules_value frame ds es)
unfolding rules_value
in_order frame ds es = both_ascend frame 0 ds es

-- ---- what holds of each rule

all_from : (P : Rule → Type 0) (frame : Frame) (dir : Dir) → ((i : ℕ) (d : Data) → P (rule_at frame dir i d)) → (i : ℕ) (ds : List Data) → AllByRecursion P (rules_from frame dir i ds)
unfolding rules_from
all_from P frame dir each i [] = tt
all_from P frame dir each i (d ∷ ds) = (each i d, all_from P frame dir each (i + 1) ds)

pub all_of : (P : Rule → Type 0) (frame : Frame) → ((dir : Dir) (i : ℕ) (d : Data) → P (rule_at frame dir i d)) → (ds es : List Data) → AllByRecursion P (rules_value frame ds es)
unfolding rules_value
all_of P frame each ds es =
    all_append P (rules_from frame Ingress 0 ds) (rules_from frame Egress 0 es) (all_from P frame Ingress (each Ingress) 0 ds) (all_from P frame Egress (each Egress) 0 es)

all_kept : (P : Rule → Type 0) (frame : Frame) (dir : Dir) (has : Bool) → (has ≡ true → (i : ℕ) (d : Data) → P (rule_at frame dir i d)) → (ds : List Data) → AllByRecursion P (rules_from frame dir 0 (kept has ds))
unfolding rules_from
all_kept P frame dir true each ds = all_from P frame dir (each refl) 0 ds
all_kept P frame dir false each ds = tt

is_keyed : (frame : Frame) (key : PolicyName) (priority : ℕ) → key ≡ frame.key → priority ≡ frame.priority → (dir : Dir) (i : ℕ) (d : Data) → IsRuleOf key priority (rule_at frame dir i d)
unfolding rule_at
is_keyed frame key priority key_is priority_is dir i d = (sym key_is, sym priority_is)

-- ---- a policy of Kubernetes

is_kube_rule : (frame : Frame) (p : PolicyData) → frame.key.kind ≡ Kube → (dir : Dir) → isolates p dir ≡ true → (i : ℕ) (d : Data) → IsKubeRule p (rule_at frame dir i d)
unfolding rule_at
is_kube_rule frame p kind dir has i d =
    record { tier = ap tier_number kind; action = ap (λ (k : PolicyKind). unwrap_or (action_of k frame.baseline d) Drop) kind; direction = has }

-- what is said of a policy of Kubernetes as it is built
pub record IsBuiltKube (frame : Frame) (spec : Option Data) (p : PolicyData) : Type 0 where
  pub kind : frame.key.kind ≡ Kube
  pub no_priority : frame.priority ≡ 0
  pub key : p.key ≡ frame.key
  pub tier : p.tier ≡ []
  pub priority : p.priority ≡ 0
  pub one_group : length p.applied ≡ 1
  pub ingress : p.isolates_in ≡ isolates_in spec
  pub egress : p.isolates_out ≡ isolates_out spec
  pub rules : p.rules ≡ kube_rules frame spec

all_kube : (frame : Frame) (spec : Option Data) (p : PolicyData) → IsBuiltKube frame spec p → AllByRecursion (IsKubeRule p) (kube_rules frame spec)
unfolding kube_rules rules_value
all_kube frame spec p b =
    all_append (IsKubeRule p) (rules_from frame Ingress 0 (kept (isolates_in spec) (ingress_items spec))) (rules_from frame Egress 0 (kept (isolates_out spec) (egress_items spec)))
    (all_kept (IsKubeRule p) frame Ingress (isolates_in spec) (λ has. is_kube_rule frame p b.kind Ingress (b.ingress ∙ has)) (ingress_items spec))
    (all_kept (IsKubeRule p) frame Egress (isolates_out spec) (λ has. is_kube_rule frame p b.kind Egress (b.egress ∙ has)) (egress_items spec))

kube_keyed : (frame : Frame) (spec : Option Data) (p : PolicyData) → IsBuiltKube frame spec p → AllByRecursion (IsRuleOf p.key p.priority) (kube_rules frame spec)
unfolding kube_rules
kube_keyed frame spec p b =
    all_of (IsRuleOf p.key p.priority) frame (is_keyed frame p.key p.priority b.key (b.priority ∙ sym b.no_priority)) (kept (isolates_in spec) (ingress_items spec)) (kept (isolates_out spec) (egress_items spec))

kube_in_order : (frame : Frame) (spec : Option Data) → Ascends (λ (r : Rule). r) place_order (kube_rules frame spec)
unfolding kube_rules
kube_in_order frame spec = in_order frame (kept (isolates_in spec) (ingress_items spec)) (kept (isolates_out spec) (egress_items spec))

pub kube_is_policy : (frame : Frame) (spec : Option Data) (p : PolicyData) → IsBuiltKube frame spec p → IsPolicy p
kube_is_policy frame spec p b =
    record {
      of_kind = subst (λ (k : PolicyKind). IsPolicyOfKind k p) (sym (ap (λ (n : PolicyName). n.kind) b.key ∙ b.kind))
          (record { tier = b.tier; priority = b.priority; one_group = b.one_group; rules = subst (λ (rs : List Rule). AllByRecursion (IsKubeRule p) rs) (sym b.rules) (all_kube frame spec p b) });
      keyed = subst (λ (rs : List Rule). AllByRecursion (IsRuleOf p.key p.priority) rs) (sym b.rules) (kube_keyed frame spec p b);
      in_order = subst (λ (rs : List Rule). Ascends (λ (r : Rule). r) place_order rs) (sym b.rules) (kube_in_order frame spec);
    }

-- ---- a policy of Antrea

not_pass : (o : Option Action) → unwrap_or (option_and_then (permitted true) o) Drop ≡ Pass → ⊥
not_pass None is = cc
not_pass (Some Allow) is = cc
not_pass (Some Drop) is = cc
not_pass (Some Reject) is = cc
not_pass (Some Pass) is = cc

no_given_pass : (d : Data) → unwrap_or (given_action true d) Drop ≡ Pass → ⊥
unfolding given_action
no_given_pass d is = not_pass _ is

no_pass_of : (kind : PolicyKind) (baseline : Bool) (d : Data) → (kind ≡ Kube → ⊥) → baseline ≡ true → unwrap_or (action_of kind baseline d) Drop ≡ Pass → ⊥
no_pass_of Cluster true d native is pass = no_given_pass d pass
no_pass_of Antrea true d native is pass = no_given_pass d pass
no_pass_of Kube true d native is pass = native refl
no_pass_of kind false d native is pass = cc

no_pass : (frame : Frame) → (frame.key.kind ≡ Kube → ⊥) → frame.baseline ≡ true → (dir : Dir) (i : ℕ) (d : Data) → (rule_at frame dir i d).action ≡ Pass → ⊥
unfolding rule_at
no_pass frame native is dir i d pass = no_pass_of frame.key.kind frame.baseline d native is pass

is_baseline_where : (tier : List ℕ) → IsBaseline tier → is_baseline tier ≡ true
unfolding is_baseline
is_baseline_where tier is = ap (λ (t : List ℕ). text_eq t (codes "baseline")) is

of_native_kind : (p : PolicyData) (kind : PolicyKind) → (kind ≡ Kube → ⊥) → IsNativePolicy p → IsPolicyOfKind kind p
of_native_kind p Cluster native is = is
of_native_kind p Antrea native is = is
of_native_kind p Kube native is = absurd (native refl)

-- what is said of a policy of Antrea as it is built
pub record IsBuiltNative (frame : Frame) (ds es : List Data) (p : PolicyData) : Type 0 where
  pub native : p.key.kind ≡ Kube → ⊥
  pub key : p.key ≡ frame.key
  pub baseline : frame.baseline ≡ is_baseline p.tier
  pub priority : p.priority ≡ frame.priority
  pub ingress : p.isolates_in ≡ false
  pub egress : p.isolates_out ≡ false
  pub rules : p.rules ≡ rules_value frame ds es

frame_is_native : (frame : Frame) (ds es : List Data) (p : PolicyData) → IsBuiltNative frame ds es p → frame.key.kind ≡ Kube → ⊥
frame_is_native frame ds es p b is = b.native (ap (λ (n : PolicyName). n.kind) b.key ∙ is)

pub native_is_policy : (frame : Frame) (ds es : List Data) (p : PolicyData) → IsBuiltNative frame ds es p → IsPolicy p
native_is_policy frame ds es p b =
    record {
      of_kind = of_native_kind p p.key.kind b.native
          (record {
            isolates_nobody_in = b.ingress;
            isolates_nobody_out = b.egress;
            baseline = λ is. subst (λ (rs : List Rule). AllByRecursion (λ (r : Rule). r.action ≡ Pass → ⊥) rs) (sym b.rules)
                (all_of (λ (r : Rule). r.action ≡ Pass → ⊥) frame (no_pass frame (frame_is_native frame ds es p b) (b.baseline ∙ is_baseline_where p.tier is)) ds es);
          });
      keyed = subst (λ (rs : List Rule). AllByRecursion (IsRuleOf p.key p.priority) rs) (sym b.rules)
          (all_of (IsRuleOf p.key p.priority) frame (is_keyed frame p.key p.priority b.key b.priority) ds es);
      in_order = subst (λ (rs : List Rule). Ascends (λ (r : Rule). r) place_order rs) (sym b.rules) (in_order frame ds es);
    }
