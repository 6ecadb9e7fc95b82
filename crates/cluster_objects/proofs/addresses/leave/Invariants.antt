use Rattle.std.proofs.Common.{◌≡◌, drop, vec_capacity}
use Rattle.cl_types.specs.Addr.{addr_order}
use Rattle.cl_types.specs.Ascending.{Ascends}
use Rattle.cluster_objects.specs.declared.addresses.AddressEntry.{AddressEntry}
use Rattle.cluster_objects.specs.Addresses.{without_addresses}
use Rattle.cluster_objects.proofs.addresses.leave.Given as goal

-- what is left to remove leaves what all of it does
abbrev pub invariant-loop-address : goal.invariant-loop-address
invariant-loop-address l = record {
  items : without_addresses (drop l.address-index l.addresses) l.entries.items ≡ without_addresses l.addresses l.initial.entries.items;
  ascends : Ascends (λ (e : AddressEntry). e.address) addr_order l.entries.items;
  capacity : vec_capacity l.entries ≡ vec_capacity l.initial.entries;
}
