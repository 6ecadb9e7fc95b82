use Rattle.std.proofs.lemmas.List.Filters.{dedup_is}
use Rattle.std.proofs.Common.{◌∙◌}
use Rattle.cl_types.specs.SortedSetLaws.{dedup_sorted}
use Rattle.watch_streams.proofs.member_sets.sort_once.Goals as goal

pub returns : goal.returns
returns g c =
    dedup_is _ _ _ c.dedup.ensures.filtered
    ∙ dedup_sorted g.met.T.Ord.total c.requires _ g.met.T.Ord.matches_eq _ _ c.in_ok-sort.ensures.permutation c.in_ok-sort.ensures.sorted
