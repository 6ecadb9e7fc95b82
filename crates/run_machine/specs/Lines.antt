-- What the lines of a run make happen (this project's own).
use Rattle.std.specs.Prelude.{ℕ, List, [], ◌∷◌, Bool, true, Option, Some, None, map, filter, take, if◌then◌else◌}
use Rattle.std.specs.List.{AllByRecursion, flat_map}
use Rattle.cl_types.specs.declared.stream.Stream.{Stream}
use Rattle.cl_types.specs.declared.stream.Stream.TheVariants.{Policies, Addresses, Applied}
use Rattle.cl_types.specs.Text.{text_eq}
use Rattle.cluster_types.specs.declared.change.Change.{Change}
use Rattle.cluster_objects.specs.Laws.{IsWholeChange}
use Rattle.watch_streams.specs.declared.message.Msg.{Msg}
use Rattle.run_machine.specs.Laws.{IsSound}
use Rattle.run_machine.specs.Machine.{SiteData, WorldData, StreamOf, Event, change, cut, rejoin, take as take_one, channel_on, is_full, stream_eq, first_world, all_happen}
use Rattle.run_machine.specs.Settling.{settling, stream_of}

-- What a line says that makes something happen: objects in order; messages to be delivered, of one node or of all, of one
-- stream or of all, at most so many of each or all; a stream to be cut or rejoined; all to be settled. A question, a blank
-- line and one that can't be read make nothing happen.
pub data LineData : Type 0 where
  objects : List Change → LineData
  deliver : Option (List ℕ) → Option Stream → Option ℕ → LineData
  cut_stream : StreamOf → LineData
  rejoin_stream : StreamOf → LineData
  settle : LineData
  quiet : LineData

-- in the order in which their messages are sent and taken
abbrev pub every_stream : List Stream
every_stream = Policies ∷ Addresses ∷ Applied ∷ []

-- the streams from which a message comes back: those on which no place is left
abbrev pub full_at : WorldData → SiteData → List StreamOf
full_at w x = map (stream_of x) (filter (λ (s : Stream). is_full w s x.node) every_stream)

abbrev pub full_streams : WorldData → List StreamOf
full_streams w = flat_map (full_at w) w.sites

-- ---- what is delivered

abbrev pub is_meant_node : Option (List ℕ) → List ℕ → Bool
is_meant_node None node = true
is_meant_node (Some name) node = text_eq name node

abbrev pub is_meant_stream : Option Stream → Stream → Bool
is_meant_stream None s = true
is_meant_stream (Some t) s = stream_eq t s

abbrev pub first_of : Option ℕ → List Msg → List Msg
first_of None messages = messages
first_of (Some count) messages = take count messages

-- the oldest messages of a stream are taken
abbrev pub delivering_stream : Option ℕ → SiteData → Stream → List Event
delivering_stream count x s = map (λ (m : Msg). take_one (stream_of x s)) (first_of count (channel_on s x).queue)

abbrev pub delivering_site : Option Stream → Option ℕ → SiteData → List Event
delivering_site stream count x = flat_map (delivering_stream count x) (filter (is_meant_stream stream) every_stream)

-- node by node
abbrev pub delivering : Option (List ℕ) → Option Stream → Option ℕ → WorldData → List Event
delivering node stream count w =
    flat_map (delivering_site stream count) (filter (λ (x : SiteData). is_meant_node node x.node) w.sites)

-- ---- lines

-- Messages come back exactly from full streams, and no full stream is rejoined.
abbrev pub events_of : WorldData → LineData → List Event
events_of w (objects changes) = change changes (full_streams w) ∷ []
events_of w (deliver node stream count) = delivering node stream count w
events_of w (cut_stream at) = cut at ∷ []
events_of w (rejoin_stream at) = if is_full w at.stream at.node then [] else rejoin at ∷ []
events_of w settle = settling w
events_of w quiet = []

abbrev pub after_line : LineData → WorldData → WorldData
after_line line w = all_happen (events_of w line) w

abbrev pub after_lines : List LineData → WorldData → WorldData
after_lines [] w = w
after_lines (line ∷ lines) w = after_lines lines (after_line line w)

-- ---- what holds of it

abbrev pub IsWholeLine : LineData → Type 0
IsWholeLine (objects changes) = AllByRecursion IsWholeChange changes
IsWholeLine (deliver _ _ _) = Unit {0}
IsWholeLine (cut_stream at) = Unit {0}
IsWholeLine (rejoin_stream at) = Unit {0}
IsWholeLine settle = Unit {0}
IsWholeLine quiet = Unit {0}

-- whatever the lines, the world is sound
abbrev pub LinesLeadToSoundWorlds : Type 0
LinesLeadToSoundWorlds = (ring : ℕ) (lines : List LineData) → AllByRecursion IsWholeLine lines → IsSound (after_lines lines (first_world ring))
