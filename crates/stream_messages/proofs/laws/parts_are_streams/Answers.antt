use Rattle.stream_messages.proofs.History.{the_rest, prefixes_are}
use Rattle.stream_messages.proofs.laws.parts_are_streams.Goals as goal

pub returns : goal.returns
returns c = record { rest = the_rest; prefix = prefixes_are }
