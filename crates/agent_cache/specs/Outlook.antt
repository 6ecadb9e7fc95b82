-- What taking a message leads to (this project's own).
use Rattle.std.specs.Prelude.{◌≡◌, ℕ, List}
use Rattle.cl_types.specs.declared.stream.Stream.{Stream}
use Rattle.held_maps.specs.Held.{HeldData, IsTaken, maps_of}
use Rattle.watch_streams.specs.declared.message.Msg.{Msg}
use Rattle.watch_streams.specs.RuleChanges.{AreRuleChanges}
use Rattle.agent_cache.specs.declared.outlook.Outlook.{Outlook}
use Rattle.agent_cache.specs.Standing.{standings}

-- what is known of the rules once the message was taken, and what it changes
pub record Foretells (node : List ℕ) (old new : HeldData) (outlook : Outlook) : Type 0 where
  pub known : outlook.standings.items ≡ standings (maps_of new)
  pub changes : AreRuleChanges node (maps_of old) (maps_of new) outlook.changes

abbrev pub IsOutlook : List ℕ → Stream → Msg → HeldData → Outlook → Type 0
IsOutlook node s m old outlook = (new : HeldData) → IsTaken s m old new → Foretells node old new outlook
