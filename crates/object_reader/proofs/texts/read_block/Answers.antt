use Rattle.std.proofs.Common.{sym}
use Rattle.cl_types.specs.Reading.{IsPrefix}
use Rattle.object_reader.proofs.ReadTexts.{none_read}
use Rattle.object_reader.proofs.texts.read_block.Goals as goal

pub returns-in-Ok : goal.returns-in-Ok
returns-in-Ok c = sym ((c.texts_are_read_as_functions.ensures.blocks c.args.text.now c.in-Ok.block).1 c.in-Ok.ensures.found)

pub returns-in-Err : goal.returns-in-Err
returns-in-Err c = sym (none_read (IsPrefix c.args.text.now) _ (c.texts_are_read_as_functions.ensures.blocks c.args.text.now) c.in-Err.ensures.bad)
