use Rattle.touched_rules.proofs.ListedAddresses.{isolated_listed}
use Rattle.touched_rules.proofs.laws.isolated_addresses_are_listed.Goals as goal

pub returns : goal.returns
returns c = isolated_listed
