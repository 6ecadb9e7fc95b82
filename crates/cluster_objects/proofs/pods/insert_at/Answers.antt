use Rattle.std.proofs.Common.{◌≡◌, ◌<◌, ℕ, length, map, ap, sym, subst, ◌∙◌, arith, vec_capacity}
use Rattle.std.specs.List.{AllByRecursion}
use Rattle.cl_types.specs.AscendingLaws.{ascends_put, put_in_gap}
use Rattle.cl_types.specs.RuleOrder.{pod_order_total}
use Rattle.cluster_objects.specs.declared.addresses.AddressEntry.{AddressEntry}
use Rattle.cluster_objects.specs.Addresses.{addresses_held, entered}
use Rattle.cluster_objects.specs.Apply.{at_pod}
use Rattle.cluster_types.specs.Pod.{PodData}
use Rattle.cluster_objects.proofs.IndexEdits.{places_within}
use Rattle.cluster_objects.proofs.PodIndex.{held_count, inserted_in_gap, room_in_gap}
use Rattle.cluster_objects.proofs.pods.insert_at.Goals as goal

pub make_place-requires-clause-within : goal.make_place-requires-clause-within
make_place-requires-clause-within c =
    let own = c.args.pods.now.ok in
    let count = held_count c.args.pods.now.items in
    let size : length (map addresses_held c.args.pods.now.items) ≡ c.len.result = omega (arith, own.0, c.len.ensures) in
    subst (λ (n : ℕ). AllByRecursion (λ (e : AddressEntry). e.place < n) c.args.entries.now.items) size (places_within (map addresses_held c.args.pods.now.items) c.args.entries.now.items c.requires.kept.index)

pub enter-requires-clause-ascends : goal.enter-requires-clause-ascends
enter-requires-clause-ascends c =
    let own = c.args.pods.now.ok in
    let count = held_count c.args.pods.now.items in
    (c.make_place.ensures.index (map addresses_held c.args.pods.now.items) (omega (arith, own.0, c.len.ensures)) c.requires.kept.index).ascend

pub enter-requires-clause-room : goal.enter-requires-clause-room
enter-requires-clause-room c =
    let own = c.args.pods.now.ok in
    let count = held_count c.args.pods.now.items in
    let made = c.make_place.ensures.index (map addresses_held c.args.pods.now.items) (omega (arith, own.0, c.len.ensures)) c.requires.kept.index in
    let room = room_in_gap c.args.pods.now.items c.args.k (addresses_held c.args.pod) c.make_place.new.entries.items (vec_capacity c.args.pods.now) (vec_capacity c.args.entries.now) c.requires.gap.within c.addresses_held.ensures.families (omega (arith, own.0, c.requires.room)) c.requires.kept.enough made in
    rw (c.addresses_held.ensures.value, c.make_place.ensures.capacity) room

pub returns-clause-items : goal.returns-clause-items
returns-clause-items c =
    c.insert_in_room.ensures.items ∙ sym (put_in_gap (at_pod c.args.pod.key) c.args.pod c.args.pods.now.items c.args.k c.requires.gap.within c.requires.gap.before c.requires.gap.after)

pub returns-clause-kept : goal.returns-clause-kept
returns-clause-kept c =
    let own = c.args.pods.now.ok in
    let count = held_count c.args.pods.now.items in
    let made = c.make_place.ensures.index (map addresses_held c.args.pods.now.items) (omega (arith, own.0, c.len.ensures)) c.requires.kept.index in
    let put_is = put_in_gap (at_pod c.args.pod.key) c.args.pod c.args.pods.now.items c.args.k c.requires.gap.within c.requires.gap.before c.requires.gap.after in
    let pods = c.insert_in_room.ensures.items ∙ sym put_is in
    let index = inserted_in_gap c.args.pods.now.items c.args.k c.args.pod c.make_place.new.entries.items c.requires.gap c.requires.free c.addresses_held.ensures.families made in
    let entries = c.enter.ensures.items ∙ ap (λ addresses. entered c.args.k addresses c.make_place.new.entries.items) c.addresses_held.ensures.value in
    record {
      ascend = rw pods (ascends_put (λ (q : PodData). q.key) pod_order_total c.args.pod c.args.pods.now.items c.requires.kept.ascend);
      index = rw (pods, entries) index;
      enough = rw (c.insert_in_room.ensures.capacity, c.enter.ensures.capacity, c.make_place.ensures.capacity) c.requires.kept.enough;
    }
