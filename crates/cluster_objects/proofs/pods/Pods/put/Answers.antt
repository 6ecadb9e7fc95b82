use Rattle.std.proofs.Common.{◌≤◌, ◌<◌, length, ap, sym, subst, ◌∙◌, arith, vec_len, vec_capacity}
use Rattle.std.proofs.lemmas.Bool.{true≢false}
use Rattle.std.proofs.lemmas.List.Edits.{length-insert}
use Rattle.cl_types.specs.Ascending.{found, put}
use Rattle.cl_types.specs.AscendingLaws.{found_in_gap, put_in_gap}
use Rattle.cluster_objects.specs.Addresses.{PodsData}
use Rattle.cluster_objects.specs.Apply.{at_pod}
use Rattle.cluster_types.specs.Pod.{PodData}
use Rattle.cluster_objects.proofs.pods.Pods.put.Goals as goal

pub returns-in_err-reserve_one-in-Err-clause-succeeds : goal.returns-in_err-reserve_one-in-Err-clause-succeeds
returns-in_err-reserve_one-in-Err-clause-succeeds c = λ fits.
    let room = subst (λ (v : PodsData). length (put (at_pod c.args.pod.key) c.args.pod v.pods) ≤ v.places) (sym c.self.view_is) fits in
    let gap = rw (c.as_slice.ensures.value, ap (λ (p : PodData). p.key) c.pod.view_is) at c.in-Err.ensures.absent in
    let place = put_in_gap (at_pod c.args.pod.key) c.args.pod c.self.inside.pods.items c.in-Err.k gap.within gap.before gap.after in
    let longer = length-insert c.self.inside.pods.items c.in-Err.k c.args.pod gap.within in
    let wider = rw place at room in
    let own = c.self.inside.pods.ok in
    let lt : vec_len c.self.inside.pods < vec_capacity c.self.inside.pods = omega (arith, own.0) in
    let answered = rw c.in_err-reserve_one-in-Err.was at (c.reserve_one.ensures.succeeds lt) in
    absurd (true≢false (sym answered))

pub returns-in_ok-reserve_one-in-Err-clause-old : goal.returns-in_ok-reserve_one-in-Err-clause-old
returns-in_ok-reserve_one-in-Err-clause-old c =
    let gap = rw (c.as_slice.ensures.value, ap (λ (p : PodData). p.key) c.pod.view_is) at c.in-Err.ensures.absent in
    sym (found_in_gap (at_pod c.args.pod.key) c.self.inside.pods.items _ gap.within gap.before gap.after) ∙ ap (λ (v : PodsData). found (at_pod c.args.pod.key) v.pods) c.self.view_is
