-- Where no two counting pods share an address, the one at an address stands for all pods with it.
use Rattle.std.proofs.Common.{◌≡◌, List, [], ◌∷◌, Bool, true, false, ◌&&◌, ◌||◌, Option, Some, None, cond, find, refl, sym, ap, ◌∙◌}
use Rattle.std.specs.List.{list_any, AllByRecursion}
use Rattle.std.specs.Option.{option_map_or}
use Rattle.cl_types.specs.declared.addr.Addr.{Addr}
use Rattle.cl_types.specs.AscendingLaws.{passed}
use Rattle.cluster_objects.specs.Addresses.{pod_at, IsOnlyPodAt, StandsForAll}
use Rattle.cluster_types.specs.Cluster.{AreApart, AllApart}
use Rattle.cluster_types.specs.Pod.{PodData, counts, has_address}

both : (b c : Bool) → b && c ≡ true → (b ≡ true) × (c ≡ true)
both true c h = (refl, h)
both false c h = cc

module _ (a : Addr) (test : PodData → Bool) (only_counting : (p : PodData) → test p ≡ true → counts p ≡ true) where
  -- behind the pod at the address none passes
  none_behind : (p : PodData) (qs : List PodData) → counts p ≡ true → has_address a p ≡ true → AllByRecursion (AreApart p) qs → find (λ q. test q && has_address a q) qs ≡ None
  none_behind p [] counting has apart = refl
  none_behind p (q ∷ qs) counting has apart = by_test (test q && has_address a q) refl (none_behind p qs counting has apart.1)
    where
      by_test : (b : Bool) → test q && has_address a q ≡ b → find (λ r. test r && has_address a r) qs ≡ None → cond b (Some q) (find (λ r. test r && has_address a r) qs) ≡ None
      by_test true is later =
          let parts = both (test q) (has_address a q) is in
          absurd (apart.0 counting (only_counting q parts.0) a has parts.1)
      by_test false is later = later

  -- the first that passes and has the address is the one at the address, where it passes
  only_pod : (pods : List PodData) → AllApart pods → find (λ p. test p && has_address a p) pods ≡ passed test (pod_at pods a)
  only_pod [] apart = refl
  only_pod (p ∷ ps) apart = by_test (counts p && has_address a p) refl (only_pod ps apart.1)
    where
      at_it : (t h : Bool) → h ≡ true → find (λ q. test q && has_address a q) ps ≡ None → cond (t && h) (Some p) (find (λ q. test q && has_address a q) ps) ≡ cond t (Some p) None
      at_it true h has none = ap (λ b. cond b (Some p) (find (λ q. test q && has_address a q) ps)) has
      at_it false h has none = none

      absent : (t c h : Bool) → (t ≡ true → c ≡ true) → c && h ≡ false → t && h ≡ false
      absent true c h only neither = sym (ap (λ b. b && h) (only refl)) ∙ neither
      absent false c h only neither = refl

      by_test : (b : Bool) → counts p && has_address a p ≡ b
          → find (λ q. test q && has_address a q) ps ≡ passed test (pod_at ps a)
          → cond (test p && has_address a p) (Some p) (find (λ q. test q && has_address a q) ps) ≡ passed test (cond b (Some p) (pod_at ps a))
      by_test true is later =
          let parts = both (counts p) (has_address a p) is in
          at_it (test p) (has_address a p) parts.1 (none_behind p ps parts.0 parts.1 apart.0)
      by_test false is later =
          ap (λ b. cond b (Some p) (find (λ q. test q && has_address a q) ps)) (absent (test p) (counts p) (has_address a p) (only_counting p) is) ∙ later

-- the pod at an address stands for all that have it
pub only_pod_at : (pods : List PodData) (a : Addr) → AllApart pods → IsOnlyPodAt pods a (pod_at pods a)
only_pod_at pods a apart test only_counting = only_pod a test only_counting pods apart

-- some pod passes where one is found
any_found : (test : PodData → Bool) (pods : List PodData) → list_any test pods ≡ option_map_or (λ p. true) (find test pods) false
any_found test [] = refl
any_found test (p ∷ ps) = by_test (test p) (any_found test ps)
  where
    by_test : (b : Bool) → list_any test ps ≡ option_map_or (λ q. true) (find test ps) false → (b || list_any test ps) ≡ option_map_or (λ q. true) (cond b (Some p) (find test ps)) false
    by_test true later = refl
    by_test false later = later

-- the only pod at an address that can pass stands for all that have it
pub stands_for_all : (pods : List PodData) (a : Addr) (here : Option PodData) → IsOnlyPodAt pods a here → StandsForAll pods a here
stands_for_all pods a here only test only_counting =
    any_found (λ p. test p && has_address a p) pods ∙ (ap (λ (o : Option PodData). option_map_or (λ p. true) o false) (only test only_counting) ∙ kept here)
  where
    kept : (o : Option PodData) → option_map_or (λ p. true) (passed test o) false ≡ option_map_or test o false
    kept None = refl
    kept (Some p) = by_test (test p)
      where
        by_test : (b : Bool) → option_map_or (λ q. true) (cond b (Some p) None) false ≡ b
        by_test true = refl
        by_test false = refl
