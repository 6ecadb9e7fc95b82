use Rattle.std.proofs.Common.{ℕ, List, Option, Some, None, find, ap, sym, subst, ◌∙◌}
use Rattle.cluster_objects.specs.Addresses.{PodsData, shares_address, addresses_held, IsFirst}
use Rattle.cluster_types.specs.Pod.{PodData}
use Rattle.cluster_objects.proofs.PodIndex.{found_taker, find_at_first, find_at_none}
use Rattle.cluster_objects.proofs.pods.Pods.taker.Goals as goal

pub returns-in-Some : goal.returns-in-Some
returns-in-Some c =
    let shares = shares_address c.args.pod.now.key (addresses_held c.args.pod.now) in
    let first = subst (λ (o : Option ℕ). IsFirst shares c.as_slice.result.now o) c.in-Some.is c.taking_place.ensures in
    let there = subst (λ (qs : List PodData). IsFirst shares qs (Some c.in-Some.i)) c.as_slice.ensures.value first in
    sym (find_at_first shares c.self.inside.pods.items c.in-Some.i c.index.result.now there c.index.ensures)
    ∙ (ap (λ (v : PodsData). find shares v.pods) c.self.view_is ∙ found_taker c.args.self.now.pods c.args.pod.now)

pub returns-in-None : goal.returns-in-None
returns-in-None c =
    let shares = shares_address c.args.pod.now.key (addresses_held c.args.pod.now) in
    let first = subst (λ (o : Option ℕ). IsFirst shares c.as_slice.result.now o) c.in-None.is c.taking_place.ensures in
    let none = subst (λ (qs : List PodData). IsFirst shares qs None) c.as_slice.ensures.value first in
    sym (find_at_none shares c.self.inside.pods.items none)
    ∙ (ap (λ (v : PodsData). find shares v.pods) c.self.view_is ∙ found_taker c.args.self.now.pods c.args.pod.now)
