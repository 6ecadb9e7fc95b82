use Rattle.std.proofs.Common.{◌≡◌, ap, ◌∙◌, get_or}
use Rattle.cl_types.specs.declared.stream.Rev.{Rev}
use Rattle.cl_types.specs.declared.stream.Stream.{Stream}
use Rattle.cl_types.specs.declared.stream.Stream.TheVariants.{Policies, Addresses, Applied}
use Rattle.cluster_types.specs.Cluster.{no_objects}
use Rattle.watch_streams.specs.HeldEvaluation.{held_side}
use Rattle.watch_streams.specs.Laws.{held_of}
use Rattle.watch_streams.specs.Stream.{map_at}
use Rattle.held_maps.specs.Held.{maps_of, map_on}
use Rattle.held_maps.proofs.laws.one_revision_is_the_policies_verdict.Goals as goal

pub returns : goal.returns
returns c = λ history node rev held q whole all.
    let at : (s : Stream) → map_on s (maps_of held) ≡ map_at history s node rev.0 = λ s. (all s).1 ∙ ap (λ (r : Rev). map_at history s node r.0) (all s).0 in
    let maps : maps_of held ≡ held_of (get_or history rev.0 no_objects) node = λ i. record { policies = at Policies i; addresses = at Addresses i; applied = at Applied i } in
    ap (λ h. held_side h q) maps ∙ c.one_revision_is_the_policies_verdict.ensures (get_or history rev.0 no_objects) node q whole
