use Rattle.std.proofs.Common.{◌≡◌, ◌++◌, map, take}
use Rattle.watch_streams.specs.Names.{object_text}
use Rattle.stream_messages.proofs.changes.push_texts.Given as goal

-- the texts so far
abbrev pub invariant-loop-n : goal.invariant-loop-n
invariant-loop-n l = l.texts.items ≡ l.initial.texts.items ++ map object_text (take l.n-index l.objects)
