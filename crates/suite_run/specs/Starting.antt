-- How a run begins (this project's own).
use Rattle.std.specs.Prelude.{ℕ}
use Rattle.node_streams.specs.declared.messages.Trio.{Trio}
use Rattle.watch_streams.specs.Ports.{QueueData, empty_queue}

-- a queue for each stream of a node, with nothing queued
abbrev pub empty_ports : ℕ → Trio QueueData
empty_ports ring = record { policies = empty_queue ring; addresses = empty_queue ring; applied = empty_queue ring }
