use Rattle.std.proofs.Common.{refl, ◌≡◌, ◌-◌, ◌<◌, ◌≤◌, length, take, drop, ap, ◌∙◌, arith}
use Rattle.std.proofs.lemmas.Bool.Decides.{nat_tests}
use Rattle.cl_io.specs.Memory.{bytes_at}
use Rattle.cl_io.proofs.InMemory.{some_taken, read_taken, read_bytes, length-rest, Fails-stopped, Fails-none, none_allowed, some_allowed, fewer_allowed, gives}
use Rattle.cl_io.proofs.mem_files.MemFilesFiles.read.Goals as goal

pub returns-clause-reads : goal.returns-clause-reads
returns-clause-reads c =
    let files = c.args.self.now.files in
    let part = c.in-Some.part in
    let readable = c.args.self.now.readable part c.in-Some.is in
    let xs = c.bytes_of.result.now in
    let same : xs ≡ bytes_at files part.file = c.bytes_of.ensures ∙ ap (λ z. bytes_at z part.file) c.as_slice.ensures in
    let long = length-rest xs part.count in
    let within : c.min-count.result ≤ length xs - part.count = omega (arith, long, c.min.ensures, c.min-count.ensures) in
    record {
      tried = refl;
      places = refl;
      none_begun = λ none. absurd (some_taken files c.args.self.now.log.told c.args.self.now.log.earlier.items _ part c.in-Some.is none);
      taken = read_taken files c.args.self.now.log.told _ part _ c.min-count.result _ c.in-Some.is c.args.self.now.readable
          (read_bytes xs c.copy_from_slice.new.self c.args.buf.now part.count c.min-count.result c.copy_from_slice.ensures.after within ∙ ap (λ z. take c.min-count.result (drop part.count z)) same)
          (omega (arith, within, ap length same, readable.within))
          (λ none. omega (arith, none, long, c.min.ensures, c.min-count.ensures, c.requires, c.if-allowed-eq0.false, ap length same));
    }

pub returns-then-allowed-eq0-clause-fails : goal.returns-then-allowed-eq0-clause-fails
returns-then-allowed-eq0-clause-fails c =
    let none : c.allowed-allowed.result ≡ 0 = grind (arith, nat_tests, c.if-allowed-eq0.true) in
    Fails-stopped _ _ _ _ (none_allowed c.args.self.now.fail_at c.args.self.now.given _ c.allowed-allowed.ensures.limited c.allowed-allowed.ensures.unlimited none)

pub returns-in_default-clause-fails : goal.returns-in_default-clause-fails
returns-in_default-clause-fails c =
    Fails-none _ _ _ _ (λ listed. let yes = c.fails.ensures.exact.1 listed in let not = c.if-fails.false in cc)
    (some_allowed c.args.self.now.fail_at c.args.self.now.given _ c.allowed-allowed.ensures.limited (λ none. let t = c.if-allowed-eq0.false in absurd (grind (arith, nat_tests))))

pub returns-clause-fails : goal.returns-clause-fails
returns-clause-fails c =
    Fails-none _ _ _ _ (λ listed. let yes = c.fails.ensures.exact.1 listed in let not = c.if-fails.false in cc)
    (some_allowed c.args.self.now.fail_at c.args.self.now.given _ c.allowed-allowed.ensures.limited (λ none. let t = c.if-allowed-eq0.false in absurd (grind (arith, nat_tests))))

pub returns-clause-allowed : goal.returns-clause-allowed
returns-clause-allowed c =
    let some : 0 < c.allowed-allowed.result = let t = c.if-allowed-eq0.false in grind (arith, nat_tests) in
    fewer_allowed c.args.self.now.fail_at c.args.self.now.given _ c.allowed-allowed.result c.min-count.result c.allowed-allowed.ensures.limited (omega (arith, c.min-count.ensures))
    (λ fits. omega (arith, fits, c.saturating_add-self.ensures)) some

pub returns-clause-gives : goal.returns-clause-gives
returns-clause-gives c =
    let part = c.in-Some.part in
    let xs = c.bytes_of.result.now in
    let same : xs ≡ bytes_at c.args.self.now.files part.file = c.bytes_of.ensures ∙ ap (λ z. bytes_at z part.file) c.as_slice.ensures in
    let long = length-rest xs part.count in
    let within : c.min-count.result ≤ length xs - part.count = omega (arith, long, c.min.ensures, c.min-count.ensures) in
    gives c.args.self.now.files _ part c.min-count.result _ c.in-Some.is
    (read_bytes xs c.copy_from_slice.new.self c.args.buf.now part.count c.min-count.result c.copy_from_slice.ensures.after within ∙ ap (λ z. take c.min-count.result (drop part.count z)) same)
