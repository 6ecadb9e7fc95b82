use Rattle.std.proofs.Common.{◌≡◌, ℕ, List, map, length, ap, sym, ◌∙◌, arith}
use Rattle.flow_pipeline.specs.declared.conns.Conn.{Conn}
use Rattle.flow_pipeline.specs.Connections.{Tracked, renewed}
use Rattle.flow_pipeline.specs.ConnectionIndex.{back, tuple_of, seen_by}
use Rattle.flow_pipeline.proofs.Tuples.{tuples-seen_by, seen-both, length-tuples}
use Rattle.flow_pipeline.proofs.conns.Conns.renew.Goals as goal

pub see-requires-2-clause-tuples : goal.see-requires-2-clause-tuples
see-requires-2-clause-tuples c =
    c.self.invariant.tuples_are
    ∙ sym (tuples-seen_by c.forth.result c.self.inside.clock c.self.inside.list.items)
    ∙ ap (map tuple_of) (sym c.see.ensures.items)

pub invariant_of-self : goal.invariant_of-self
invariant_of-self c =
    let before = c.self.inside.list.items in
    let after = c.see-2.new.list.items in
    let tuples =
    c.self.invariant.tuples_are
    ∙ sym (tuples-seen_by c.forth.result c.self.inside.clock before)
    ∙ ap (map tuple_of) (sym c.see.ensures.items)
    ∙ sym (tuples-seen_by c.back.result c.self.inside.clock c.see.new.list.items)
    ∙ ap (map tuple_of) (sym c.see-2.ensures.items) in
    let same : length after ≡ length before =
    sym (length-tuples after) ∙ ap length (sym tuples ∙ c.self.invariant.tuples_are) ∙ length-tuples before in
    record {
      at_most = omega (arith, same, c.self.invariant.at_most);
      places = omega (arith, c.see.ensures.room, c.see-2.ensures.room, c.self.invariant.places);
      tuples_are = tuples;
      apart = c.self.invariant.apart;
      room = omega (arith, same, c.self.invariant.room);
    }

abbrev tracked : ℕ → List Conn → Tracked
tracked clock list = record { clock = clock; list = list }

pub returns : goal.returns
returns c =
    let clock = c.self.inside.clock in
    let p = c.args.p.now in
    let list = c.self.inside.list.items in
    ap (tracked clock)
    (c.see-2.ensures.items
    ∙ ap (λ t. map (seen_by t clock) c.see.new.list.items) c.back.ensures
    ∙ ap (map (seen_by (back p) clock)) (c.see.ensures.items ∙ ap (λ t. map (seen_by t clock) list) c.forth.ensures)
    ∙ seen-both p clock list
    )
    ∙ ap (λ k. renewed k p) c.self.view_is
