-- The counting pod on a node that has an address is the one at the address, where that is on the node.
use Rattle.std.proofs.Common.{◌≡◌, ℕ, List, [], ◌∷◌, Bool, true, false, ◌&&◌, Option, Some, None, cond, if◌then◌else◌, find, refl, sym, ap, ◌∙◌}
use Rattle.cl_types.specs.declared.addr.Addr.{Addr}
use Rattle.cl_types.specs.AscendingLaws.{passed}
use Rattle.cl_types.specs.Text.{text_eq}
use Rattle.cluster_objects.specs.Addresses.{pod_at, IsOnlyPodAt}
use Rattle.cluster_types.specs.Pod.{PodData, counts, has_address}

first_true : (b c : Bool) → b && c ≡ true → b ≡ true
first_true true c h = refl
first_true false c h = cc

some_is : {T : Type 0} {x y : T} → Some x ≡ Some y → x ≡ y
some_is e = cc

-- what is found passes
passes : (test : PodData → Bool) (pods : List PodData) (x : PodData) → find test pods ≡ Some x → test x ≡ true
passes test [] x e = cc
passes test (p ∷ ps) x e = by_test (test p) refl e (passes test ps x)
  where
    by_test : (b : Bool) → test p ≡ b → cond b (Some p) (find test ps) ≡ Some x → (find test ps ≡ Some x → test x ≡ true) → test x ≡ true
    by_test true is f later = ap test (sym (some_is f)) ∙ is
    by_test false is f later = later f

abbrev on : List ℕ → PodData → Bool
on node p = counts p && text_eq p.node node

abbrev Found : List PodData → Addr → List ℕ → Option PodData
Found pods a node = find (λ p. counts p && text_eq p.node node && has_address a p) pods

pub on_it : (pods : List PodData) (a : Addr) (node : List ℕ) (o : Option PodData) (p : PodData) → IsOnlyPodAt pods a o → o ≡ pod_at pods a → o ≡ Some p → text_eq p.node node ≡ true → Some p ≡ find (λ q. counts q && text_eq q.node node && has_address a q) pods
on_it pods a node o p only at is here =
    let counting = first_true (counts p) (has_address a p) (passes (λ q. counts q && has_address a q) pods p (sym at ∙ is)) in
    sym (only (on node) (λ q h. first_true (counts q) (text_eq q.node node) h) ∙ (ap (passed (on node)) is ∙ by_tests (counts p) (text_eq p.node node) counting here))
  where
    by_tests : (b c : Bool) → b ≡ true → c ≡ true → (if b && c then Some p else None) ≡ Some p
    by_tests true true e f = refl
    by_tests true false e f = cc
    by_tests false c e f = cc

pub elsewhere : (pods : List PodData) (a : Addr) (node : List ℕ) (o : Option PodData) (p : PodData) → IsOnlyPodAt pods a o → o ≡ Some p → text_eq p.node node ≡ false → None ≡ find (λ q. counts q && text_eq q.node node && has_address a q) pods
elsewhere pods a node o p only is other =
    sym (only (on node) (λ q h. first_true (counts q) (text_eq q.node node) h) ∙ (ap (passed (on node)) is ∙ by_tests (counts p) (text_eq p.node node) other))
  where
    nothing : Option PodData
    nothing = None

    by_tests : (b c : Bool) → c ≡ false → (if b && c then Some p else None) ≡ nothing
    by_tests true true e = cc
    by_tests true false e = refl
    by_tests false c e = refl

pub nowhere : (pods : List PodData) (a : Addr) (node : List ℕ) (o : Option PodData) → IsOnlyPodAt pods a o → o ≡ None → None ≡ find (λ q. counts q && text_eq q.node node && has_address a q) pods
nowhere pods a node o only is = sym (only (on node) (λ q h. first_true (counts q) (text_eq q.node node) h) ∙ ap (passed (on node)) is)
