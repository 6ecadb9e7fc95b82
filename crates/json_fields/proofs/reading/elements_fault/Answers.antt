use Rattle.std.proofs.Common.{List, ◌∷◌, ◌+◌, map, drop, option_map, sym, ap, ◌∙◌}
use Rattle.std.proofs.lemmas.List.{drop_more, drop_all}
use Rattle.serde_json.specs.View.{view}
use Rattle.serde_json.specs.declared.value.Value.{Value}
use Rattle.json_fields.specs.Faults.{earlier, least, each_from, under, index_step}
use Rattle.json_fields.specs.FaultLaws.{each_from_step, each_from_end}
use Rattle.json_fields.proofs.reading.elements_fault.Goals as goal

pub loop-index-preserved : goal.loop-index-preserved
loop-index-preserved g c =
    let faults = g.R.Reading.faults c.args.reading.now in
    each_from_step faults c.loop-index.index c.loop-index.worst c.in_ok-fault-2.fault c.earlier-worst.result (view c.index-items-index.result) (map view (drop (c.loop-index.index + 1) c.args.items.now))
    (c.in_ok-fault-2.ensures ∙ ap (option_map (under (index_step c.loop-index.index))) c.in_ok-fault.ensures) c.earlier-worst.ensures
    ∙ ap (λ (l : List Value). earlier c.loop-index.worst (least (each_from faults c.loop-index.index (map view l))))
    (ap (λ (x : Value). x ∷ drop (c.loop-index.index + 1) c.args.items.now) c.index-items-index.is ∙ sym (drop_more c.args.items.now c.loop-index.index c.index-items-index.result c.loop-index-test.true))
    ∙ c.loop-index.invariant

pub returns : goal.returns
returns g c =
    let faults = g.R.Reading.faults c.args.reading.now in
    sym (each_from_end faults c.loop-index.index c.loop-index.worst)
    ∙ ap (λ (l : List Value). earlier c.loop-index.worst (least (each_from faults c.loop-index.index (map view l)))) (sym (drop_all c.loop-index.index c.args.items.now c.loop-index-test.false))
    ∙ c.loop-index.invariant
