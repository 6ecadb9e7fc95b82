use Rattle.stream_messages.proofs.History.{nothing_at_first, empty_streams}
use Rattle.stream_messages.proofs.laws.streams_begin_empty.Goals as goal

pub returns : goal.returns
returns c = record { messages = nothing_at_first; objects = empty_streams }
