-- What settles a stream by the channel that it has (this project's own).
use Rattle.std.specs.Prelude.{List, [], ◌∷◌, ◌++◌, if◌then◌else◌}
use Rattle.run_machine.specs.Machine.{ChannelData, Event, StreamOf, rejoin, take}
use Rattle.suite_run.specs.Delivering.{takes}

-- all messages are taken, and a cut stream is rejoined then and its snapshot taken
abbrev pub settling_on : StreamOf → ChannelData → List Event
settling_on at channel = takes at channel.queue ++ (if channel.live then [] else rejoin at ∷ take at ∷ [])
