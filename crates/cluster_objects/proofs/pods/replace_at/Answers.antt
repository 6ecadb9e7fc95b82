use Rattle.std.proofs.Common.{Some, set, ap, sym, ◌∙◌, arith, vec_capacity}
use Rattle.cl_types.specs.AscendingLaws.{ascends_put, found_at_place, put_at_place}
use Rattle.cl_types.specs.RuleOrder.{pod_order_total}
use Rattle.cluster_objects.specs.Addresses.{addresses_held, entered}
use Rattle.cluster_objects.specs.Apply.{at_pod}
use Rattle.cluster_types.specs.Pod.{PodData}
use Rattle.cluster_objects.proofs.PodIndex.{pod_left, replaced_at_place, room_in_place}
use Rattle.cluster_objects.proofs.pods.replace_at.Goals as goal

pub enter-requires-clause-ascends : goal.enter-requires-clause-ascends
enter-requires-clause-ascends c =
    (pod_left c.args.pods.now.items c.args.k c.index.result.now _ c.args.entries.now.items _ c.requires.place.within c.index.ensures c.addresses_held.ensures.value c.addresses_held.ensures.families c.leave.ensures.items c.requires.kept.index).ascend

pub enter-requires-clause-room : goal.enter-requires-clause-room
enter-requires-clause-room c =
    let left = pod_left c.args.pods.now.items c.args.k c.index.result.now _ c.args.entries.now.items _ c.requires.place.within c.index.ensures c.addresses_held.ensures.value c.addresses_held.ensures.families c.leave.ensures.items c.requires.kept.index in
    let own = c.args.pods.now.ok in
    let room = room_in_place c.args.pods.now.items c.args.k (addresses_held c.args.pod) c.leave.new.entries.items (vec_capacity c.args.pods.now) (vec_capacity c.args.entries.now) c.requires.place.within c.addresses_held-2.ensures.families (omega (arith, own.0, own.1)) c.requires.kept.enough left in
    rw (c.addresses_held-2.ensures.value, c.leave.ensures.capacity) room

pub returns-clause-items : goal.returns-clause-items
returns-clause-items c = ap (set c.args.pods.now.items c.args.k) c.replace.ensures.after ∙ sym (put_at_place (at_pod c.args.pod.key) c.args.pod c.args.pods.now.items c.args.k c.requires.place.within c.requires.place.here c.requires.place.before)

pub returns-clause-kept : goal.returns-clause-kept
returns-clause-kept c =
    let left = pod_left c.args.pods.now.items c.args.k c.index.result.now _ c.args.entries.now.items _ c.requires.place.within c.index.ensures c.addresses_held.ensures.value c.addresses_held.ensures.families c.leave.ensures.items c.requires.kept.index in
    let put_is = put_at_place (at_pod c.args.pod.key) c.args.pod c.args.pods.now.items c.args.k c.requires.place.within c.requires.place.here c.requires.place.before in
    let index = replaced_at_place c.args.pods.now.items c.args.k c.args.pod c.leave.new.entries.items c.requires.kept.ascend c.requires.place c.requires.free c.addresses_held-2.ensures.families left in
    let entries = c.enter.ensures.items ∙ ap (λ addresses. entered c.args.k addresses c.leave.new.entries.items) c.addresses_held-2.ensures.value in
    let pods = ap (set c.args.pods.now.items c.args.k) c.replace.ensures.after ∙ sym put_is in
    record {
      ascend = rw pods (ascends_put (λ (q : PodData). q.key) pod_order_total c.args.pod c.args.pods.now.items c.requires.kept.ascend);
      index = rw (pods, entries) index;
      enough = rw (c.enter.ensures.capacity, c.leave.ensures.capacity) c.requires.kept.enough;
    }

pub returns-clause-item : goal.returns-clause-item
returns-clause-item c =
    found_at_place (at_pod c.args.pod.key) c.args.pods.now.items c.args.k c.index_mut.result.now c.requires.place.within c.requires.place.here c.requires.place.before
    ∙ ap Some (sym c.index_mut.ensures.value ∙ sym c.replace.ensures.value)
