use Rattle.std.proofs.Common.{◌≡◌, ◌<◌, length, append_assoc, arith}
use Rattle.label_select.proofs.Listings.{listed-first, listed-more}
use Rattle.label_select.proofs.written.append_listed.Goals as goal
use Rattle.label_select.proofs.written.append_listed.Goals.{then-i-gt0+in_ok-write_bytes, else-i-gt0}

pub loop-i-preserved : goal.loop-i-preserved
loop-i-preserved g c =
    let within : c.loop-i.i < length c.args.items.now = omega arith in
    elim c.if-i-gt0.branch [
      | then-i-gt0+in_ok-write_bytes w ↦
          let further : 0 < c.loop-i.i = omega arith in
          rw (listed-more g.T.Written.text c.args.items.now c.loop-i.i c.index-items-i.result within c.index-items-i.is further)
          (rw (c.in_ok-append.ensures.ok, w.out-is, w.in_ok-write_bytes.ensures.ok, c.loop-i.invariant) (simp append_assoc))
      | else-i-gt0 w ↦
          let none : c.loop-i.i ≡ 0 = omega arith in
          rw (listed-first g.T.Written.text c.args.items.now c.loop-i.i c.index-items-i.result within c.index-items-i.is none)
          (rw (c.in_ok-append.ensures.ok, w.out-is, c.loop-i.invariant, none) (simp append_assoc))
    ]
