use Rattle.cl_types.specs.Reading.{IsAddress}
use Rattle.control_lines.proofs.Addresses.{none_read}
use Rattle.control_lines.proofs.needed.read_address.Goals as goal

pub returns-in-Err : goal.returns-in-Err
returns-in-Err c = none_read (IsAddress c.args.text.now) _ (c.texts_are_read_as_functions.ensures.addresses c.args.text.now) c.in-Err.ensures.bad
