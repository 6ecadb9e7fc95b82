use Rattle.std.proofs.Common.{◌≡◌, map, drop}
use Rattle.serde_json.specs.View.{view}
use Rattle.policy_reader.specs.ReadLine.{read_items}
use Rattle.policy_reader.proofs.ReadItems.{after}
use Rattle.policy_reader.proofs.reader.read_items.Given as goal

-- the items so far and those that are left are all of them
abbrev pub invariant-loop-index : goal.invariant-loop-index
invariant-loop-index l = after l.read.items (read_items l.index (map view (drop l.index l.items))) ≡ read_items 0 (map view l.items)
