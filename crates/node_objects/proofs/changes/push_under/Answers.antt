use Rattle.std.proofs.Common.{◌≡◌, ◌++◌, OnOk, List, sym, subst}
use Rattle.cl_types.specs.declared.stream.Stream.{Stream}
use Rattle.watch_streams.specs.declared.message.StreamChange.{StreamChange}
use Rattle.watch_streams.specs.Difference.{changed}
use Rattle.node_objects.specs.UnderName.{under_name}
use Rattle.node_objects.proofs.Shared.{addresses_are, applied_are}
use Rattle.node_objects.proofs.changes.push_under.Goals as goal

pub returns-in-Addresses-Group : goal.returns-in-Addresses-Group
returns-in-Addresses-Group c =
    subst (λ (s : Stream). OnOk c.push_addresses.result (c.push_addresses.new.changes.items ≡ c.args.changes.now.items ++ changed (under_name c.args.c.now.cluster c.args.old.now s c.args.node.now c.args.touched.now.name) (under_name c.args.d.now.cluster c.args.new.now s c.args.node.now c.args.touched.now.name)))
    (sym c.in-Addresses-Group.is-0)
    (subst (λ (more : List StreamChange). OnOk c.push_addresses.result (c.push_addresses.new.changes.items ≡ c.args.changes.now.items ++ more))
    (addresses_are c.args.c.now.cluster c.args.old.now c.args.d.now.cluster c.args.new.now c.args.node.now c.in-Addresses-Group.g c.args.touched.now c.requires c.in-Addresses-Group.is-1) c.push_addresses.ensures)

pub returns-in-Applied-Group : goal.returns-in-Applied-Group
returns-in-Applied-Group c =
    subst (λ (s : Stream). OnOk c.push_applied.result (c.push_applied.new.changes.items ≡ c.args.changes.now.items ++ changed (under_name c.args.c.now.cluster c.args.old.now s c.args.node.now c.args.touched.now.name) (under_name c.args.d.now.cluster c.args.new.now s c.args.node.now c.args.touched.now.name)))
    (sym c.in-Applied-Group.is-0)
    (subst (λ (more : List StreamChange). OnOk c.push_applied.result (c.push_applied.new.changes.items ≡ c.args.changes.now.items ++ more))
    (applied_are c.args.c.now.cluster c.args.old.now c.args.d.now.cluster c.args.new.now c.args.node.now c.in-Applied-Group.g c.args.touched.now c.requires c.in-Applied-Group.is-1) c.push_applied.ensures)
