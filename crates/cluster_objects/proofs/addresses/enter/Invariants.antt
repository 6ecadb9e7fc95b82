use Rattle.std.proofs.Common.{◌≡◌, ◌+◌, ◌≤◌, drop, length, vec_capacity}
use Rattle.cl_types.specs.Addr.{addr_order}
use Rattle.cl_types.specs.Ascending.{Ascends}
use Rattle.cluster_objects.specs.declared.addresses.AddressEntry.{AddressEntry}
use Rattle.cluster_objects.specs.Addresses.{entered}
use Rattle.cluster_objects.proofs.addresses.enter.Given as goal

-- the addresses from i on are entered, and there is room for the others
abbrev pub invariant-loop-i : goal.invariant-loop-i
invariant-loop-i l = record {
  items : l.entries.items ≡ entered l.place (drop l.i l.addresses) l.initial.entries.items;
  ascends : Ascends (λ (e : AddressEntry). e.address) addr_order l.entries.items;
  room : length l.entries.items + l.i ≤ vec_capacity l.entries;
  capacity : vec_capacity l.entries ≡ vec_capacity l.initial.entries;
}
