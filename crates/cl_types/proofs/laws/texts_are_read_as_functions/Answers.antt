use Rattle.cl_types.proofs.ReadTexts.{address_read, block_read}
use Rattle.cl_types.proofs.laws.texts_are_read_as_functions.Goals as goal

pub returns-clause-addresses : goal.returns-clause-addresses
returns-clause-addresses c = address_read

pub returns-clause-blocks : goal.returns-clause-blocks
returns-clause-blocks c = block_read
