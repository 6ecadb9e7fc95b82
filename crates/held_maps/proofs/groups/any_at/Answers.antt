use Rattle.std.proofs.Common.{rules, ◌∙◌}
use Rattle.std.proofs.lemmas.Fn.{always_returns_same}
use Rattle.cl_types.specs.Addr.{addr_order}
use Rattle.watch_streams.specs.Net.{MemberData}
use Rattle.held_maps.proofs.ByAddress.{found_by_address}
use Rattle.held_maps.proofs.groups.any_at.Goals as goal

pub returns : goal.returns
returns c =
    let facts = c.binary_search_by-found.ensures in
    c.is_ok.ensures.value
    ∙ found_by_address c.args.a c.args.members.now c.requires _ facts.bound
    (facts.position (λ (m : MemberData). addr_order m.address c.args.a) (always_returns_same _ _ _ (λ a r f called. (search rules, search rules))))
