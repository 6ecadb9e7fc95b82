use Rattle.std.proofs.Common.{◌≡◌, ◌≤◌, Err, Ok, length, refl, subst, sym}
use Rattle.cluster_objects.specs.Changes.{after}
use Rattle.suite_run.specs.Shown.{ComesTo}
use Rattle.suite_run.proofs.FrontChanges.{within_front}
use Rattle.suite_run.proofs.FirstWorlds.{as_answered, none_left, parts, refused_front, refused_rest, some_left, still_open, takes_bare, takes_fixed}
use Rattle.suite_run.proofs.fixing.first_line.Goals as goal

pub split_at-requires : goal.split_at-requires
split_at-requires c = subst (λ n. n ≤ length c.args.changes.now) (sym c.nodes_in_front.ensures) (within_front c.args.changes.now)

pub returns-in_err-made : goal.returns-in_err-made
returns-in_err-made c =
    as_answered c.args.changes.now c.args.cluster.now.cluster c.args.ring c.from_residual-in_err-made.result c.in_err-made.field-0.0 c.from_residual-in_err-made.ensures.1
    (refused_front c.args.changes.now c.split_at.result.0.now c.split_at.result.1.now
    (parts c.args.changes.now c.split_at.result.0.now c.split_at.result.1.now c.nodes_in_front.result c.nodes_in_front.ensures c.split_at.ensures.front c.split_at.ensures.back)
    c.args.cluster.now.cluster c.keeps_its_form.ensures.cluster c.requires.early c.args.ring c.apply_all.new.cluster.cluster c.in_err-made.field-0.0
    (subst (λ z. ComesTo (after z c.split_at.result.0.now) (Err c.in_err-made.field-0.0) c.apply_all.new.cluster.cluster) c.in_ok-nodes.ensures c.in_err-made.ensures))

pub returns-then-is_empty : goal.returns-then-is_empty
returns-then-is_empty c =
    takes_bare c.args.changes.now c.split_at.result.0.now c.split_at.result.1.now
    (parts c.args.changes.now c.split_at.result.0.now c.split_at.result.1.now c.nodes_in_front.result c.nodes_in_front.ensures c.split_at.ensures.front c.split_at.ensures.back)
    c.args.cluster.now.cluster c.keeps_its_form.ensures.cluster c.requires.early c.args.ring c.apply_all.new.cluster.cluster c.in_ok-made.made
    (subst (λ z. after z c.split_at.result.0.now ≡ Ok (record { cluster = c.apply_all.new.cluster.cluster; node_changed = c.in_ok-made.made.node; other_changed = c.in_ok-made.made.other })) c.in_ok-nodes.ensures c.in_ok-made.ensures)
    c.apply_all.new.cluster refl (none_left c.split_at.result.1.now c.is_empty.result c.is_empty.ensures c.if-is_empty.true)

pub begin-requires-clause-early : goal.begin-requires-clause-early
begin-requires-clause-early c =
    still_open c.args.changes.now c.split_at.result.0.now c.split_at.result.1.now
    (parts c.args.changes.now c.split_at.result.0.now c.split_at.result.1.now c.nodes_in_front.result c.nodes_in_front.ensures c.split_at.ensures.front c.split_at.ensures.back)
    c.args.cluster.now.cluster c.keeps_its_form.ensures.cluster c.requires.early c.args.ring c.apply_all.new.cluster.cluster c.in_ok-made.made
    (subst (λ z. after z c.split_at.result.0.now ≡ Ok (record { cluster = c.apply_all.new.cluster.cluster; node_changed = c.in_ok-made.made.node; other_changed = c.in_ok-made.made.other })) c.in_ok-nodes.ensures c.in_ok-made.ensures)

pub returns-in_err-run : goal.returns-in_err-run
returns-in_err-run c =
    as_answered c.args.changes.now c.args.cluster.now.cluster c.args.ring c.from_residual-in_err-run.result c.in_err-run.field-0.0 c.from_residual-in_err-run.ensures.1
    (refused_rest c.args.changes.now c.split_at.result.0.now c.split_at.result.1.now
    (parts c.args.changes.now c.split_at.result.0.now c.split_at.result.1.now c.nodes_in_front.result c.nodes_in_front.ensures c.split_at.ensures.front c.split_at.ensures.back)
    c.args.cluster.now.cluster c.keeps_its_form.ensures.cluster c.requires.early c.args.ring c.apply_all.new.cluster.cluster c.in_ok-made.made
    (subst (λ z. after z c.split_at.result.0.now ≡ Ok (record { cluster = c.apply_all.new.cluster.cluster; node_changed = c.in_ok-made.made.node; other_changed = c.in_ok-made.made.other })) c.in_ok-nodes.ensures c.in_ok-made.ensures)
    (some_left c.split_at.result.1.now c.is_empty.result c.is_empty.ensures c.if-is_empty.false) c.in_err-run.field-0.0 c.in_err-run.ensures)

pub returns : goal.returns
returns c =
    takes_fixed c.args.changes.now c.split_at.result.0.now c.split_at.result.1.now
    (parts c.args.changes.now c.split_at.result.0.now c.split_at.result.1.now c.nodes_in_front.result c.nodes_in_front.ensures c.split_at.ensures.front c.split_at.ensures.back)
    c.args.cluster.now.cluster c.keeps_its_form.ensures.cluster c.requires.early c.args.ring c.apply_all.new.cluster.cluster c.in_ok-made.made
    (subst (λ z. after z c.split_at.result.0.now ≡ Ok (record { cluster = c.apply_all.new.cluster.cluster; node_changed = c.in_ok-made.made.node; other_changed = c.in_ok-made.made.other })) c.in_ok-nodes.ensures c.in_ok-made.ensures)
    c.keeps_its_form-2.ensures.cluster (some_left c.split_at.result.1.now c.is_empty.result c.is_empty.ensures c.if-is_empty.false)
    c.in_ok-run.run' c.in_ok-run.other c.in_ok-run.ensures c.requires.ring.0
