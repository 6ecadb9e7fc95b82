use Rattle.std.proofs.Common.{rules, ◌-◌, ◌+◌, ◌≡◌, ◌++◌, Bool, not, drop, filter, arith, ap, Some, sym, ◌∙◌, option_copied}
use Rattle.cl_types.specs.First.{first}
use Rattle.label_select.specs.Group.{Group}
use Rattle.held_maps.specs.Held.{maps_of, map_on}
use Rattle.watch_streams.specs.HeldEvaluation.{is_held}
use Rattle.agent_cache.specs.Missing.{by_text}
use Rattle.agent_cache.proofs.Finding.{wanted_more}
use Rattle.agent_cache.proofs.standing.least_of.Goals as goal

pub loop-i-preserved-then-lacks : goal.loop-i-preserved-then-lacks
loop-i-preserved-then-lacks c = λ later h.
    let p : Group → Bool = λ g. not (is_held (map_on c.args.s (maps_of c.args.held.now)) g) in
    let place : c.loop-i.i ≡ c.loop-i.i - 1 + 1 = omega arith in
    ap Some c.in_ok-earlier.ensures
    ∙ wanted_more by_text p c.args.groups.now later (c.loop-i.i - 1) c.index-groups-i.result (option_copied c.loop-i.least) (search rules) c.index-groups-i.is (sym c.if-lacks.ensures)
    (c.loop-i.invariant later h ∙ ap (λ n. first by_text (filter p (drop n c.args.groups.now) ++ later)) place)
