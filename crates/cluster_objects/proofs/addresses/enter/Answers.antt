use Rattle.std.proofs.Common.{◌≡◌, ◌-◌, ◌+◌, ◌≤◌, ℕ, length, get_or, drop, ap, sym, ◌∙◌, arith, vec_capacity}
use Rattle.std.proofs.Math.Nat.{le_trans}
use Rattle.cl_types.specs.declared.addr.Addr.{Addr}
use Rattle.cl_types.specs.declared.addr.Addr.TheVariants.{V4}
use Rattle.cl_types.specs.Ascending.{put}
use Rattle.cluster_objects.specs.Addresses.{at_address, entry_at, entered}
use Rattle.cluster_objects.proofs.IndexEdits.{entered_more, length_put_most}
use Rattle.cluster_objects.proofs.addresses.enter.Goals as goal

pub put_in_room-requires-clause-room : goal.put_in_room-requires-clause-room
put_in_room-requires-clause-room c =
    let room : length c.loop-i.entries.items + 1 ≤ vec_capacity c.loop-i.entries = omega arith in
    le_trans (length_put_most _ _ c.loop-i.entries.items) room

pub loop-i-preserved : goal.loop-i-preserved
loop-i-preserved c =
    let i : ℕ = c.loop-i.i - 1 in
    let next : c.loop-i.i ≡ i + 1 = omega arith in
    let a : Addr = get_or c.args.addresses.now i (V4 0) in
    let more = entered_more c.args.place c.args.addresses.now c.args.entries.now.items i (V4 0) (omega arith) in
    let most = length_put_most (at_address a) (entry_at a c.args.place) c.loop-i.entries.items in
    let size : length c.put_in_room.new.items.items ≡ length (put (at_address a) (entry_at a c.args.place) c.loop-i.entries.items) = ap length c.put_in_room.ensures.items in
    record {
      items = c.put_in_room.ensures.items
          ∙ (ap (put (at_address a) (entry_at a c.args.place)) (c.loop-i.invariant.items ∙ ap (λ n. entered c.args.place (drop n c.args.addresses.now) c.args.entries.now.items) next)
          ∙ sym more);
      ascends = c.put_in_room.ensures.ascends;
      room = let same = c.put_in_room.ensures.capacity in let before = c.loop-i.invariant.room in omega arith;
      capacity = c.put_in_room.ensures.capacity ∙ c.loop-i.invariant.capacity;
    }
