use Rattle.std.proofs.Common.{sym, arith}
use Rattle.std.proofs.lemmas.List.{take_all, length-take-le}
use Rattle.policy_objects.proofs.rules.first_rules.Goals as goal

pub slice_bounds-result-end : goal.slice_bounds-result-end
slice_bounds-result-end c = sym (length-take-le 4294967296 c.args.items.now (omega (arith, c.if-items-le-RULE_ROOM.false)))

pub returns-then-items-le-RULE_ROOM : goal.returns-then-items-le-RULE_ROOM
returns-then-items-le-RULE_ROOM c = sym (take_all 4294967296 c.args.items.now c.if-items-le-RULE_ROOM.true)
