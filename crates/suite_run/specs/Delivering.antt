-- What is delivered of the messages that wait (this project's own), said of the run's own sites: a part for each stream, by
-- the channel that it has before any of it is done.
use Rattle.std.specs.Prelude.{◌≡◌, ℕ, List, length, map, filter, Option}
use Rattle.std.specs.List.{flat_map}
use Rattle.cl_types.specs.declared.stream.Stream.{Stream}
use Rattle.watch_streams.specs.declared.message.Msg.{Msg}
use Rattle.run_machine.specs.Lines.{delivering, every_stream, first_of, is_meant_stream}
use Rattle.run_machine.specs.Machine.{ChannelData, Event, SiteData, StreamOf, WorldData, take as take_one}
use Rattle.suite_run.specs.Doing.{channel_at, run_after_all, stream_at}
use Rattle.suite_run.specs.RunState.{Does, RunData, Stands}

-- so many messages of the stream are taken
abbrev pub takes : StreamOf → List Msg → List Event
takes at messages = map (λ (m : Msg). take_one at) messages

abbrev pub delivering_on : Option ℕ → StreamOf → ChannelData → List Event
delivering_on count at channel = takes at (first_of count channel.queue)

abbrev pub meant_streams : Option Stream → List Stream
meant_streams stream = filter (is_meant_stream stream) every_stream

-- the parts of a node's streams
abbrev pub on_streams : (StreamOf → ChannelData → List Event) → List Stream → List ℕ → List SiteData → List Event
on_streams part streams node sites = flat_map (λ (s : Stream). part (stream_at node s) (channel_at (stream_at node s) sites)) streams

-- node by node
abbrev pub on_nodes : (StreamOf → ChannelData → List Event) → List Stream → List SiteData → List (List ℕ) → List Event
on_nodes part streams sites nodes = flat_map (λ (node : List ℕ). on_streams part streams node sites) nodes

-- these events were done, so many
pub record HasDone (events : List Event) (old new : RunData) (count : ℕ) : Type 0 where
  pub run : new ≡ run_after_all events old
  pub number : count ≡ length events

-- the machine's own events were done, so many
pub record Delivers (node : Option (List ℕ)) (stream : Option Stream) (most : Option ℕ) (old new : RunData) (count : ℕ) : Type 0 where
  pub does : Does (delivering node stream most) old new
  pub number : (w : WorldData) → Stands old w → count ≡ length (delivering node stream most w)
