use Rattle.std.proofs.Common.{Err, refl, subst}
use Rattle.suite_run.specs.declared.fixing.Early.TheVariants.{Bare}
use Rattle.suite_run.specs.Fixing.{AnswersFirst, TakesFirst}
use Rattle.suite_run.proofs.Worlds.{IsStep-as, bare-made, bare-refused, ready_of, world_with}
use Rattle.suite_run.proofs.world.change_bare.Goals as goal

pub returns-in-Ok : goal.returns-in-Ok
returns-in-Ok c = λ w st.
    let takes = subst (λ z. TakesFirst z c.args.cluster.cluster c.args.ring c.in-Ok.first) c.as_slice.ensures c.in-Ok.ensures in
    IsStep-as _ _ _ _ _ c.after_first.ensures.world refl
    (bare-made c.args.changes c.args.cluster.cluster c.args.ring c.in-Ok.first c.after_first.result.outcome w c.requires.ring takes c.after_first.ensures.told st)

pub returns : goal.returns
returns c = λ w st.
    let answers = subst (λ z. AnswersFirst z c.args.cluster.cluster c.args.ring (Err c.in-Err.refusal)) c.as_slice.ensures c.in-Err.ensures in
    IsStep-as _ _ _ _ _ c.of.ensures.world c.of.ensures.told
    (bare-refused c.args.changes c.args.cluster.cluster c.args.ring c.in-Err.refusal (world_with c.args.ring (Bare c.args.cluster)) c.in_ok-outcome.outcome w answers c.in_ok-outcome.ensures st
    (ready_of c.args.ring (Bare c.args.cluster) w c.requires.ring st) st)
