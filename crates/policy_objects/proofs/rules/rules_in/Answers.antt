use Rattle.std.proofs.Common.{List, map, take, length, sym, ap, ◌∙◌, arith}
use Rattle.std.proofs.lemmas.List.{length-take, take-map}
use Rattle.serde_json.specs.View.{view}
use Rattle.serde_json.specs.declared.value.Value.{Value}
use Rattle.serde_json.specs.Data.{Data}
use Rattle.policy_objects.specs.Rules.{rule_room}
use Rattle.policy_objects.proofs.rules.rules_in.Goals as goal

pub returns-clause-value : goal.returns-clause-value
returns-clause-value c =
    ap (map view) c.first_rules.ensures
    ∙ sym (take-map view rule_room c.items_in.result.now)
    ∙ ap (λ (l : List Data). take rule_room l) c.items_in.ensures

pub returns-clause-room : goal.returns-clause-room
returns-clause-room c = omega (arith, ap (λ (l : List Value). length l) c.first_rules.ensures, length-take rule_room c.items_in.result.now)
