use Rattle.std.proofs.Common.{List, filter, subst, ◌∙◌}
use Rattle.held_maps.specs.Held.{maps_of}
use Rattle.watch_streams.specs.HeldEvaluation.{is_complete}
use Rattle.watch_streams.specs.InForce.{ArePartsOf, HeldRule}
use Rattle.agent_cache.proofs.changes.touched_parts.Goals as goal

pub returns-clause-are : goal.returns-clause-are
returns-clause-are c =
    let h = maps_of c.args.held.now in
    subst (λ (xs : List HeldRule). ArePartsOf h (filter (λ x. is_complete h x.policy x.rule) xs) c.in_ok-parts.parts.items)
    (c.as_slice.ensures.value ∙ c.in_ok-rules.ensures.value) c.in_ok-parts.ensures.are
