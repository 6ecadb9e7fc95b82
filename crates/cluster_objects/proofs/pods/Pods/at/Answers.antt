use Rattle.std.proofs.Common.{◌&&◌, Some, find, ap, sym, ◌∙◌, arith}
use Rattle.cluster_objects.specs.Addresses.{PodsData, place_of}
use Rattle.cluster_types.specs.Pod.{PodData, counts, has_address}
use Rattle.cluster_objects.proofs.PodIndex.{place_within, pod_found, no_pod_found}
use Rattle.cluster_objects.proofs.pods.Pods.at.Goals as goal

pub index-requires : goal.index-requires
index-requires c =
    let is = ap (place_of c.args.a) (sym c.as_slice.ensures.value) ∙ (sym c.place_of.ensures ∙ c.in-Some.is) in
    let lt = place_within c.self.inside.pods.items c.self.inside.entries.items c.self.invariant.index c.args.a c.in-Some.i is in
    let own = c.self.inside.pods.ok in
    omega (arith, own.0)

pub returns-in-Some : goal.returns-in-Some
returns-in-Some c =
    let is = ap (place_of c.args.a) (sym c.as_slice.ensures.value) ∙ (sym c.place_of.ensures ∙ c.in-Some.is) in
    ap Some c.index.ensures
    ∙ (sym (pod_found c.self.inside.pods.items c.self.inside.entries.items c.self.invariant.index c.args.a c.in-Some.i c.index.result.now is)
    ∙ ap (λ (v : PodsData). find (λ (p : PodData). counts p && has_address c.args.a p) v.pods) c.self.view_is)

pub returns-in-None : goal.returns-in-None
returns-in-None c =
    let is = ap (place_of c.args.a) (sym c.as_slice.ensures.value) ∙ (sym c.place_of.ensures ∙ c.in-None.is) in
    sym (no_pod_found c.self.inside.pods.items c.self.inside.entries.items c.self.invariant.index c.args.a is)
    ∙ ap (λ (v : PodsData). find (λ (p : PodData). counts p && has_address c.args.a p) v.pods) c.self.view_is
