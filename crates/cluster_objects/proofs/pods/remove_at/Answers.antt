use Rattle.std.proofs.Common.{Some, ap, sym, ◌∙◌}
use Rattle.cl_types.specs.AscendingLaws.{ascends_without, without_at_place, found_at_place}
use Rattle.cl_types.specs.RuleOrder.{pod_order_total}
use Rattle.cluster_objects.specs.Apply.{at_pod}
use Rattle.cluster_types.specs.Pod.{PodData}
use Rattle.cluster_objects.proofs.PodIndex.{pod_left, removed_at_place}
use Rattle.cluster_objects.proofs.pods.remove_at.Goals as goal

pub returns-clause-item : goal.returns-clause-item
returns-clause-item c =
    found_at_place (at_pod c.args.key.now) c.args.pods.now.items c.args.k c.remove.result c.requires.place.within c.requires.place.here c.requires.place.before ∙ ap Some (sym c.remove.ensures.value)

pub returns-clause-items : goal.returns-clause-items
returns-clause-items c =
    c.remove.ensures.items ∙ sym (without_at_place (λ (q : PodData). q.key) pod_order_total c.args.key.now c.args.pods.now.items c.args.k c.requires.kept.ascend c.requires.place.within c.requires.place.here c.requires.place.before)

pub returns-clause-kept : goal.returns-clause-kept
returns-clause-kept c =
    let left = pod_left c.args.pods.now.items c.args.k c.index.result.now _ c.args.entries.now.items _ c.requires.place.within c.index.ensures c.addresses_held.ensures.value c.addresses_held.ensures.families c.leave.ensures.items c.requires.kept.index in
    let without_is = without_at_place (λ (q : PodData). q.key) pod_order_total c.args.key.now c.args.pods.now.items c.args.k c.requires.kept.ascend c.requires.place.within c.requires.place.here c.requires.place.before in
    let pods = c.remove.ensures.items ∙ sym without_is in
    let index = removed_at_place c.args.pods.now.items c.args.k c.args.key.now c.leave.new.entries.items c.requires.kept.ascend c.requires.place left in
    record {
      ascend = rw pods (ascends_without (λ (q : PodData). q.key) pod_order_total c.args.key.now c.args.pods.now.items c.requires.kept.ascend);
      index = rw (pods, c.close_place.ensures.items) index;
      enough = rw (c.remove.ensures.capacity, c.close_place.ensures.capacity, c.leave.ensures.capacity) c.requires.kept.enough;
    }
