use Rattle.std.proofs.Common.{◌++◌, ap, ◌∙◌}
use Rattle.agent_cache.proofs.peers.push_largest.Goals as goal

pub returns : goal.returns
returns c = (
  _,
  record { exact = c.in_ok-largest.ensures.maximal; ascending = c.in_ok-largest.ensures.ascending },
  c.in_ok-push_blocks.ensures ∙ ap (λ ys. c.args.out.now.items ++ ys) c.as_slice.ensures,
)
