use Rattle.std.proofs.Common.{◌≡◌, ap, ◌∙◌}
use Rattle.cl_types.specs.declared.stream.Stream.{Stream}
use Rattle.cl_types.specs.declared.stream.Stream.TheVariants.{Addresses}
use Rattle.held_maps.specs.Held.{map_on, maps_of, with_map}
use Rattle.watch_streams.specs.Stream.{after_message}
use Rattle.watch_streams.specs.HeldEvaluation.{HeldMaps}
use Rattle.agent_cache.proofs.BesidePeers.{nothing_told}
use Rattle.agent_cache.proofs.changes.changes_of_addresses.Goals as goal

pub returns-in-Addresses : goal.returns-in-Addresses
returns-in-Addresses c =
    let h = maps_of c.args.before.now in
    let k = maps_of c.args.after.now in
    let taken : Stream → HeldMaps = λ s. with_map s (after_message s c.args.m.now (map_on s h)) h in
    let leads : k ≡ taken Addresses = c.requires.maps ∙ ap taken c.in-Addresses.is in
    nothing_told c.args.node.now h k (after_message Addresses c.args.m.now (map_on Addresses h)) leads
    c.new.result c.new-in-Addresses.result c.new-in-Addresses-2.result c.new.ensures c.new-in-Addresses.ensures c.new-in-Addresses-2.ensures
