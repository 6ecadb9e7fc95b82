use Rattle.std.proofs.Common.{◌<◌, length, set, ap, ◌∙◌, arith}
use Rattle.std.proofs.lemmas.List.Edits.{map_over_more}
use Rattle.cluster_objects.specs.declared.addresses.AddressEntry.{AddressEntry}
use Rattle.cluster_objects.specs.Addresses.{entry_at, after_insert}
use Rattle.cluster_objects.proofs.addresses.open_place.Goals as goal

pub loop-i-preserved : goal.loop-i-preserved
loop-i-preserved c =
    let x : AddressEntry = c.index_mut-entry.result.now in
    let change : AddressEntry → AddressEntry = λ e. entry_at e.address (after_insert c.args.k e.place) in
    let own = c.args.entries.now.ok in
    let inside : c.loop-i.i < length c.args.entries.now.items = (let end = c.len-i-end.ensures in let test = c.loop-i-test.true in let same = c.loop-i.invariant.same_length in omega (arith, own.0)) in
    let more = map_over_more change c.args.entries.now.items c.loop-i.entries.items c.loop-i.i x inside c.loop-i.invariant.items c.index_mut-entry.ensures.value in
    record {
      items = ap (λ n. set c.loop-i.entries.items c.loop-i.i (entry_at x.address n)) c.after_insert-entry.ensures ∙ more;
      same_length = c.loop-i.invariant.same_length;
      capacity = c.loop-i.invariant.capacity;
    }
