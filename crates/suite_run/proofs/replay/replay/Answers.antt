use Rattle.std.proofs.Common.{rules, ◌≡◌, ◌≤◌, ℕ, ◌+◌, subst, sym, ap, arith, Ok, Err, List, [], ◌∷◌, ◌++◌, length, IsTrue, IfSome, IsSome}
use Rattle.cl_io.specs.declared.lines.Line.TheVariants.{End}
use Rattle.cl_io.specs.Files.{Succeeds}
use Rattle.cl_io.specs.Reader.{KeepsLimit}
use Rattle.cl_io.specs.ReaderLaws.{Kept-then}
use Rattle.cl_io.specs.Sink.{Takes}
use Rattle.suite_run.specs.declared.status.Status.{Status}
use Rattle.suite_run.specs.Ends.{Replayed}
use Rattle.run_machine.specs.Machine.{first_world}
use Rattle.suite_run.specs.Shown.{IsWorld, part_of}
use Rattle.suite_run.specs.World.{line_limit}
use Rattle.suite_run.proofs.Ending.{Leaving, rose_more, leaving, part_front, no_memory, write_fault, stands_within, line_fault, concluded, fault_named, replayed}
use Rattle.suite_run.proofs.Running.{handed, here, telling, Running-none, Running-more, next_front, next_faultless, faultless_of, refused_few, all_taken, of_err}
use Rattle.suite_run.proofs.Wholes.{count_if-le}
use Rattle.suite_run.proofs.Worlds.{number_of}
use Rattle.suite_run.proofs.replay.replay.Goals as goal

pub loop-number-init : goal.loop-number-init
loop-number-init g c = Running-none _ _ _ _ c.args.lines.now c.in-Ok.world c.requires.fresh c.requires.stands c.in-Ok.ensures.ready
    (subst (λ places. IsWorld c.in-Ok.world (first_world places)) c.ring_of.ensures.ring c.in-Ok.ensures.first)

pub take_line-requires : goal.take_line-requires
take_line-requires g c =
    let f0 = g.F.Files.state c.args.files.now in
    let run = c.loop-number.invariant in
    let n = c.in-Ok-next.ensures in
    let kept = Kept-then _ _ _ _ _ _ run.kept n.kept in
    let some : c.in-Ok-next.line ≡ End → ⊥ = λ e. let t = c.is_end.ensures.1 e in let f = c.if-is_end.false in cc in
    let more = n.goes_on f0 run.done run.stands in
    let h = handed f0 run.done c.in-Ok-next.line c.next.new.self (g.F.Files.state c.next.new.files) some more.0 more.1 more.2 in
    let number = number_of c.loop-number.world.ring c.loop-number.world.early (here c.args.command.now run.done) run.world_is in
    record {
      ready = run.ready;
      revision = omega (arith, run.revisions, number, run.used_up, n.uses some, h.stands.within, kept.task.input_limit);
    }

pub unreachable-requires : goal.unreachable-requires
unreachable-requires g c =
    let run = c.loop-number.invariant in
    omega (arith, c.loop-number-test.false, run.used_up, run.stands.within, run.kept.task.input_limit)

pub returns-in-Err : goal.returns-in-Err
returns-in-Err g c =
    let n = c.in-Err.ensures in
    let kept = Kept-then _ _ _ _ _ _ c.loop-number.invariant.kept n.kept in
    let P : Status → Type 0 = λ z. Replayed c.args.command.now c.args.lines.now.names (g.F.Files.state c.args.files.now) (g.O.Sink.state c.args.out.now) z c.next.new.self (g.F.Files.state c.next.new.files) (g.O.Sink.state c.loop-number.out) in
    subst P (sym c.of_fault.ensures)
    (replayed _ _ _ _ _ _ _ _ kept (fault_named _ _ c.in-Err.fault (omega (arith, n.begun, ap length kept.task.names)) (λ e. (n.begin_cause (ap Err e)).0) (λ e. (n.read_cause (ap Err e)).0))
    (line_fault _ _ _ _ _ _ _ _ _ _ c.loop-number.invariant (g.met.F.Files.truthful c.loop-number.files) c.next.new.self _ (g.met.F.Files.truthful c.next.new.files) n.kept c.in-Err.fault
    (λ e. n.unopened (ap Err e)) (λ e. n.unreadable (ap Err e)) (λ e. n.overfull (ap Err e)) (λ e. n.begin_cause (ap Err e)) (λ e. n.read_cause (ap Err e))))

pub returns-then-is_end : goal.returns-then-is_end
returns-then-is_end g c =
    let n = c.in-Ok-next.ensures in
    concluded _ _ _ _ _ _ _ _ _ _ c.loop-number.invariant (g.met.F.Files.truthful c.loop-number.files) c.next.new.self _ n.kept (n.end (ap Ok (c.is_end.ensures.0 c.if-is_end.true))) (g.met.F.Files.truthful c.next.new.files)
    c.conclude.result _ c.conclude.ensures

pub returns-in_default-take_line : goal.returns-in_default-take_line
returns-in_default-take_line g c =
    let l = leaving _ _ _ _ _ _ _ _ _ _ c.loop-number.invariant (g.met.F.Files.truthful c.loop-number.files) c.next.new.self _ c.in-Ok-next.ensures.kept in
    replayed _ _ _ _ _ _ _ _ (Kept-then _ _ _ _ _ _ c.loop-number.invariant.kept c.in-Ok-next.ensures.kept) tt (no_memory _ _ _ _ _ _ l)

pub returns-then-is_err : goal.returns-then-is_err
returns-then-is_err g c =
    let f0 = g.F.Files.state c.args.files.now in
    let f' = g.F.Files.state c.next.new.files in
    let o0 = g.O.Sink.state c.args.out.now in
    let o = g.O.Sink.state c.loop-number.out in
    let o' = g.O.Sink.state c.put.new.out in
    let run = c.loop-number.invariant in
    let n = c.in-Ok-next.ensures in
    let kept = Kept-then _ _ _ _ _ _ run.kept n.kept in
    let limit : KeepsLimit line_limit c.in-Ok-next.line = let P : ℕ → Type 0 = λ z. KeepsLimit z c.in-Ok-next.line in subst P run.kept.task.line_limit n.limit in
    let some : c.in-Ok-next.line ≡ End → ⊥ = λ e. let t = c.is_end.ensures.1 e in let f = c.if-is_end.false in cc in
    let more = n.goes_on f0 run.done run.stands in
    let h = handed f0 run.done c.in-Ok-next.line c.next.new.self f' some more.0 more.1 more.2 in
    let follows = c.in-Ok-take_line.ensures h.bytes h.hands limit (here c.args.command.now run.done) run.world_is in
    let text = part_of c.args.command.now c.in-Ok-take_line.taken.block in
    let T : List ℕ → Type 0 = λ z. Takes z c.put.result o o' in
    let takes = subst T c.part_of.ensures c.put.ensures.takes in
    let S : List ℕ → Type 0 = λ z. IsTrue o.steady → IfSome o.free (λ room. length z ≤ room → Succeeds c.put.result o.faults o'.faults) in
    let succeeds = subst S c.part_of.ensures c.put.ensures.succeeds in
    let front = λ (t : IsSome f'.taken). next_front _ _ _ _ _ _ _ _ _ _ run c.next.new.self f' c.in-Ok-next.line h c.in-Ok-take_line.taken.world c.in-Ok-take_line.taken.block follows kept (g.met.F.Files.truthful c.next.new.files) t in
    let left : Leaving c.args.command.now c.args.lines.now.names f0 o0 f' o' = record {
      reading = c.next.new.self;
      kept = kept;
      endures = record { later = omega (arith, run.endures.later, c.put.ensures.endures.later); steady = λ s. c.put.ensures.endures.steady (run.endures.steady s) };
      faultless = next_faultless _ _ _ _ _ _ _ _ _ _ run text o' (λ t. front (telling _ _ _ _ kept t).1) (λ s. faultless_of c.put.result o.free _ _ _ (succeeds s));
      front = λ t. part_front _ _ _ _ _ _ _ _ _ _ run text takes.count o'.written takes.within takes.written (front t);
    } in
    replayed _ _ _ _ _ _ _ _ kept tt
    (write_fault _ _ _ _ f' o' left (stands_within _ _ _ (run.done ++ h.bytes ∷ []) _ kept h.stands)
    (rose_more _ _ _ run.endures.later (of_err c.put.result (search rules) c.put.ensures.cause)))

pub loop-number-preserved : goal.loop-number-preserved
loop-number-preserved g c =
    let f0 = g.F.Files.state c.args.files.now in
    let f' = g.F.Files.state c.next.new.files in
    let o = g.O.Sink.state c.loop-number.out in
    let o' = g.O.Sink.state c.put.new.out in
    let run = c.loop-number.invariant in
    let n = c.in-Ok-next.ensures in
    let kept = Kept-then _ _ _ _ _ _ run.kept n.kept in
    let limit : KeepsLimit line_limit c.in-Ok-next.line = let P : ℕ → Type 0 = λ z. KeepsLimit z c.in-Ok-next.line in subst P run.kept.task.line_limit n.limit in
    let some : c.in-Ok-next.line ≡ End → ⊥ = λ e. let t = c.is_end.ensures.1 e in let f = c.if-is_end.false in cc in
    let more = n.goes_on f0 run.done run.stands in
    let h = handed f0 run.done c.in-Ok-next.line c.next.new.self f' some more.0 more.1 more.2 in
    let follows = c.in-Ok-take_line.ensures h.bytes h.hands limit (here c.args.command.now run.done) run.world_is in
    let text = part_of c.args.command.now c.in-Ok-take_line.taken.block in
    let T : List ℕ → Type 0 = λ z. Takes z c.put.result o o' in
    let takes = subst T c.part_of.ensures c.put.ensures.takes in
    let S : List ℕ → Type 0 = λ z. IsTrue o.steady → IfSome o.free (λ room. length z ≤ room → Succeeds c.put.result o.faults o'.faults) in
    let succeeds = subst S c.part_of.ensures c.put.ensures.succeeds in
    let w = all_taken text c.put.result o o' takes (search rules) in
    Running-more _ _ _ _ _ _ _ _ _ _ run c.next.new.self f' c.in-Ok-next.line h c.in-Ok-take_line.taken.world c.in-Ok-take_line.taken.block follows kept (g.met.F.Files.truthful c.next.new.files) o' _
    (n.uses some) w.0 w.1 c.put.ensures.endures (λ s. faultless_of c.put.result o.free _ _ _ (succeeds s))
    (ap (λ z. c.loop-number.refused + z) c.count_if-refused.ensures)

pub overflow_add-refused : goal.overflow_add-refused
overflow_add-refused g c =
    let run = c.loop-number.invariant in
    omega (arith, refused_few _ _ _ _ _ _ _ _ _ _ run, c.count_if-refused.ensures, count_if-le c.in-Ok-take_line.taken.block.refusal, run.used_up, run.stands.within, run.kept.task.input_limit)
