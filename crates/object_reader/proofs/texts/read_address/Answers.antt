use Rattle.std.proofs.Common.{sym}
use Rattle.cl_types.specs.Reading.{IsAddress}
use Rattle.object_reader.proofs.ReadTexts.{none_read}
use Rattle.object_reader.proofs.texts.read_address.Goals as goal

pub returns-in-Ok : goal.returns-in-Ok
returns-in-Ok c = sym ((c.texts_are_read_as_functions.ensures.addresses c.args.text.now c.in-Ok.address).1 c.in-Ok.ensures.found)

pub returns-in-Err : goal.returns-in-Err
returns-in-Err c = sym (none_read (IsAddress c.args.text.now) _ (c.texts_are_read_as_functions.ensures.addresses c.args.text.now) c.in-Err.ensures.bad)
