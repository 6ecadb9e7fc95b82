use Rattle.std.proofs.Common.{◌≡◌, ◌++◌, [], List, take, append_assoc, refl, ap, subst, ◌∙◌, rules}
use Rattle.std.proofs.lemmas.List.{take_all}
use Rattle.cluster_types.specs.declared.policy.Block.{Block}
use Rattle.watch_streams.specs.InForce.{AreBlocksOf}
use Rattle.touched_rules.proofs.PartLists.{blocks_step, nothing_behind}
use Rattle.agent_cache.proofs.peers.push_all_largest.Goals as goal

pub loop-block-init : goal.loop-block-init
loop-block-init c = ([], refl, nothing_behind c.args.out.now.items)

pub loop-block-preserved : goal.loop-block-preserved
loop-block-preserved c =
    let before = c.loop-block.invariant in
    let more = c.in_ok-push_largest.ensures in (
      before.0 ++ more.0,
      blocks_step c.args.blocks.now c.loop-block.block-index before.0 c.block-item.result more.0 (search rules) c.block-item.is before.1 more.1,
      more.2 ∙ ap (λ zs. zs ++ more.0) before.2 ∙ append_assoc c.args.out.now.items before.0 more.0,
    )

pub returns : goal.returns
returns c =
    let all = c.loop-block.invariant in
    let whole : take c.loop-block.block-index c.args.blocks.now ≡ c.args.blocks.now = take_all c.loop-block.block-index c.args.blocks.now c.loop-block-test.false in
    (all.0, subst (λ (bs : List Block). AreBlocksOf bs all.0) whole all.1, all.2)
