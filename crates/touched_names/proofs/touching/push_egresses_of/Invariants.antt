use Rattle.std.proofs.Common.{◌≡◌, [], ◌++◌, cond, take}
use Rattle.std.specs.List.{flat_map}
use Rattle.touched_names.specs.Touching.{egress_applies_to_some, egress_names}
use Rattle.touched_names.proofs.touching.push_egresses_of.Given as goal

-- the names that the Egresses so far bring
abbrev pub invariant-loop-egress : goal.invariant-loop-egress
invariant-loop-egress l = l.names.items ≡ l.initial.names.items ++ flat_map (λ e. cond (egress_applies_to_some l.groups e) (egress_names e) []) (take l.egress-index l.egresses)
