use Rattle.touched_rules.proofs.ListedAddresses.{plain_beside}
use Rattle.touched_rules.proofs.laws.unlisted_addresses_go_out_plain.Goals as goal

pub returns : goal.returns
returns c = plain_beside
