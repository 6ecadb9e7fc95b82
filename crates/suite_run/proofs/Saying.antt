-- Texts that are written one after another.
use Rattle.std.proofs.Common.{◌≡◌, ℕ, ◌+◌, ◌≤◌, ◌⊎◌, inl, inr, Result, Ok, Err, IsOk, IsErr, OnErr, List, ◌++◌, length, take, sym, subst, arith, length-append}
use Rattle.std.proofs.Math.Seq.{take-append-add}
use Rattle.std.proofs.lemmas.List.{take-append-le}
use Rattle.cl_types.specs.Causes.{Rose}
use Rattle.cl_io.specs.Files.{Adds}
use Rattle.cl_io.specs.FilesLaws.{Adds-more}
use Rattle.cl_io.specs.Sink.{SinkState, Takes}
use Rattle.suite_run.specs.Words.{Says}
use Rattle.suite_run.proofs.Ending.{rose_more}
use Rattle.suite_run.proofs.Running.{all_taken, of_err}

-- a write as a whole
pub says_put : {E : Type 0} (text : List ℕ) (result : Result (Unit {0}) E) (old new : SinkState) → Takes text result old new → OnErr result (Rose old.faults new.faults) → Says text old new
says_put text (Ok x) old new t cause = record { count = t.count; adds = t.written; whole = inl t.all }
says_put text (Err e) old new t cause = record { count = t.count; adds = t.written; whole = inr cause }

-- a write that failed, before more
pub says_part : {E : Type 0} (text more : List ℕ) (result : Result (Unit {0}) E) (old new : SinkState) → Takes text result old new →
    IsErr result → OnErr result (Rose old.faults new.faults) → Says (text ++ more) old new
says_part text more result old new t err cause =
    let P : List ℕ → Type 0 = λ z. Adds old.written z new.written in
    record { count = t.count; adds = subst P (sym (take-append-le t.count text more t.within)) t.written; whole = inr (of_err result err cause) }

-- a whole text, and then more
pub says_then : {E : Type 0} (text more : List ℕ) (result : Result (Unit {0}) E) (old mid new : SinkState) → Takes text result old mid →
    IsOk result → old.faults ≤ mid.faults → Says more mid new → Says (text ++ more) old new
says_then text more result old mid new t ok later says =
    let a = all_taken text result old mid t ok in
    let P : List ℕ → Type 0 = λ z. Adds old.written z new.written in
    record {
      count = length text + says.count;
      adds = subst P (sym (take-append-add text more says.count)) (Adds-more old.written text mid.written (take says.count more) new.written a.0 says.adds);
      whole = whole says.whole;
    }
  where
    whole : (says.count ≡ length more) ⊎ Rose mid.faults new.faults → (length text + says.count ≡ length (text ++ more)) ⊎ Rose old.faults new.faults
    whole (inl e) = inl (omega (arith, e, length-append text more))
    whole (inr r) = inr (rose_more old.faults mid.faults new.faults later r)
