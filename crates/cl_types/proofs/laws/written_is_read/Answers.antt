use Rattle.cl_types.proofs.RoundTrip.{written_address_is_read, written_prefix_is_read}
use Rattle.cl_types.proofs.laws.written_is_read.Goals as goal

pub returns-clause-addresses : goal.returns-clause-addresses
returns-clause-addresses c = written_address_is_read

pub returns-clause-prefixes : goal.returns-clause-prefixes
returns-clause-prefixes c = written_prefix_is_read
