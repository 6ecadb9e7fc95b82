use Rattle.std.proofs.Common.{◌≡◌, ◌+◌, ◌∷◌, [], take, get_or, ap, subst}
use Rattle.std.proofs.lemmas.List.{get_or_default}
use Rattle.cl_types.specs.declared.addr.Addr.{Addr}
use Rattle.cl_types.specs.declared.addr.Addr.TheVariants.{V4}
use Rattle.cl_types.specs.declared.keys.PodKey.{PodKey}
use Rattle.cluster_objects.specs.Addresses.{shares_address, IsFirst}
use Rattle.cluster_types.specs.Pod.{PodData}
use Rattle.cluster_objects.proofs.PodIndex.{first_of_either, shares_more}
use Rattle.cluster_objects.proofs.pods.taking_place.Goals as goal

pub loop-a-preserved : goal.loop-a-preserved
loop-a-preserved c =
    let a : Addr = get_or c.addresses_held-a-items.result.now c.loop-a.a-index (V4 0) in
    let here : a ≡ get_or c.addresses_held-a-items.result.now c.loop-a.a-index a = get_or_default c.addresses_held-a-items.result.now c.loop-a.a-index (V4 0) a c.loop-a-test.true in
    let other = subst (λ (k : PodKey). IsFirst (shares_address k (a ∷ [])) c.args.pods.now c.other_place.result) (ap (λ (p : PodData). p.key) c.pod.view_is) c.other_place.ensures in
    rw c.least_place-first.ensures
    (first_of_either (shares_address c.args.pod.now.key (take c.loop-a.a-index c.addresses_held-a-items.result.now)) (shares_address c.args.pod.now.key (a ∷ [])) (shares_address c.args.pod.now.key (take (c.loop-a.a-index + 1) c.addresses_held-a-items.result.now)) c.args.pods.now c.loop-a.first c.other_place.result (λ x. shares_more c.args.pod.now.key c.addresses_held-a-items.result.now c.loop-a.a-index a x c.loop-a-test.true here) c.loop-a.invariant other)
