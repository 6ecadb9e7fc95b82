use Rattle.std.proofs.Common.{◌≡◌, ◌+◌, not, refl, ◌≤◌, length, arith, rules, ap, ◌∙◌, subst, map}
use Rattle.std.proofs.lemmas.Fn.{filter_same}
use Rattle.std.proofs.lemmas.List.Filters.{length-filter_both}
use Rattle.flow_pipeline.specs.Connections.{is_fresh}
use Rattle.flow_pipeline.specs.ConnectionIndex.{tuple_of, AreApart}
use Rattle.flow_pipeline.proofs.Tuples.{apart-filter, length-tuples}
use Rattle.flow_pipeline.proofs.conns.Conns.tick.Goals as goal

pub refill-requires-clause-apart : goal.refill-requires-clause-apart
refill-requires-clause-apart c =
    rw c.as_slice.ensures.value
    (rw (filter_same _ (is_fresh (c.self.inside.clock + c.args.count)) _ (λ x b f' k. search rules) _ _ c.retain.ensures.filtered)
    (apart-filter (is_fresh (c.self.inside.clock + c.args.count)) c.self.inside.list.items (subst AreApart c.self.invariant.tuples_are c.self.invariant.apart)))

pub invariant_of-self : goal.invariant_of-self
invariant_of-self c =
    let test = is_fresh (c.self.inside.clock + c.args.count) in
    let before = c.self.inside.list.items in
    let after = c.retain.new.self.items in
    let kept = filter_same _ test _ (λ x b f' k. search rules) before after c.retain.ensures.filtered in
    let fewer : length after ≤ length before = omega (arith, ap length kept, length-filter_both test (λ x. not (test x)) (λ x. refl) before) in
    let keys : length c.self.inside.index.keys ≡ length before = ap length c.self.invariant.tuples_are ∙ length-tuples before in
    let shown : length c.as_slice.result.now ≡ length after = ap length c.as_slice.ensures.value in
    record {
      at_most = omega (arith, fewer, c.self.invariant.at_most);
      places = omega (arith, c.retain.ensures.capacity, c.self.invariant.places);
      tuples_are = c.refill.ensures.tuples ∙ ap (map tuple_of) c.as_slice.ensures.value;
      apart = c.refill.ensures.apart;
      room = omega (arith, keys, shown, c.self.invariant.room, c.refill.ensures.room);
    }

pub returns : goal.returns
returns c =
    rw (filter_same _ (is_fresh (c.self.inside.clock + c.args.count)) _ (λ x b f' k. search rules) _ _ c.retain.ensures.filtered)
    (search rules)
