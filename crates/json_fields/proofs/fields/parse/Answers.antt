use Rattle.std.proofs.Common.{rules}
use Rattle.json_fields.proofs.JsonViews.{data_of-ok, data_of-err}
use Rattle.json_fields.proofs.fields.parse.Goals as goal

pub returns-in-Ok : goal.returns-in-Ok
returns-in-Ok c = data_of-ok c.args.bytes.now _ c.in-Ok.ensures.ok.0 c.in-Ok.ensures.ok.1

pub returns-else-is_memory : goal.returns-else-is_memory
returns-else-is_memory c = data_of-err c.args.bytes.now (c.in-Err.ensures.err (λ memory. let no = c.if-is_memory.ensures.1 memory in search rules))
