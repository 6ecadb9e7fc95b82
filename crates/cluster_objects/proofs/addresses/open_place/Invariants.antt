use Rattle.std.proofs.Common.{◌≡◌, ◌++◌, map, take, drop, vec_len, vec_capacity}
use Rattle.cluster_objects.specs.declared.addresses.AddressEntry.{AddressEntry}
use Rattle.cluster_objects.specs.Addresses.{entry_at, after_insert}
use Rattle.cluster_objects.proofs.addresses.open_place.Given as goal

-- the entries that were looked at are changed
abbrev pub invariant-loop-i : goal.invariant-loop-i
invariant-loop-i l = record {
  items : l.entries.items ≡ map (λ (e : AddressEntry). entry_at e.address (after_insert l.k e.place)) (take l.i l.initial.entries.items) ++ drop l.i l.initial.entries.items;
  same_length : vec_len l.entries ≡ vec_len l.initial.entries;
  capacity : vec_capacity l.entries ≡ vec_capacity l.initial.entries;
}
