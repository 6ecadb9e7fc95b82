use Rattle.std.proofs.Common.{map, string_bytes, sym, ap, ◌∙◌}
use Rattle.serde_json.specs.View.{view}
use Rattle.json_fields.specs.Faults.{earlier, least}
use Rattle.json_fields.specs.Names.{label_faults, each_label_faults}
use Rattle.json_fields.specs.FaultLaws.{least_step}
use Rattle.json_fields.proofs.metadata.each_label_fault.Goals as goal

pub loop-key-preserved : goal.loop-key-preserved
unfolding each_label_faults
loop-key-preserved c =
    least_step c.loop-key.worst c.label_fault.result c.earlier-worst.result (label_faults (string_bytes c.in-Some.key.now, view c.in-Some.value.now))
    (each_label_faults (map (λ e. (string_bytes e.0, view e.1)) c.next.new.self)) c.label_fault.ensures c.earlier-worst.ensures
    ∙ ap (λ es. earlier c.loop-key.worst (least (each_label_faults (map (λ e. (string_bytes e.0, view e.1)) es)))) (sym c.in-Some.ensures.steps)
    ∙ c.loop-key.invariant
