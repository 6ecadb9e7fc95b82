use Rattle.cl_types.proofs.Addresses.{address_unique, prefix_unique}
use Rattle.cl_types.proofs.laws.texts_have_one_reading.Goals as goal

pub returns-clause-addresses : goal.returns-clause-addresses
returns-clause-addresses c = address_unique

pub returns-clause-prefixes : goal.returns-clause-prefixes
returns-clause-prefixes c = prefix_unique
