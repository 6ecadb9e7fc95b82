-- One write after another to a sink.
use Rattle.std.proofs.Common.{◌≡◌, ℕ, ◌+◌, ◌<◌, ◌≤◌, IsTrue, Option, Some, None, IfSome, List, [], ◌++◌, length, take, drop, refl, sym, ap, ◌∙◌, append_assoc, Result, Ok, Err, IsOk, IsErr, OnOk, add-zero, arith, length-append, ◌-◌, subst}
use Rattle.std.proofs.lemmas.List.{take-append-drop}
use Rattle.std.proofs.lemmas.List.{length-take-le}
use Rattle.std.proofs.Math.Seq.{take-append_seam}
use Rattle.std.proofs.lemmas.Slice.{between_to_end}
use Rattle.cl_io.specs.Files.{Adds, Succeeds}
use Rattle.cl_io.specs.FilesLaws.{Adds-none, Adds-more}
use Rattle.cl_io.specs.Sink.{SinkState, Endures, Lowers, Takes, Writes, WritesNothing}
use Rattle.cl_io.specs.SinkLaws.{Lowers-none, Lowers-more}

-- with room for so many bytes no write fails
abbrev pub Faultless : SinkState → ℕ → ℕ → Type 0
Faultless old n faults = IsTrue old.steady → IfSome old.free (λ room. n ≤ room → faults ≡ old.faults)

-- these bytes but for a rest were taken
pub record Putting (old now : SinkState) (bytes rest : List ℕ) : Type 0 where
  pub before : List ℕ
  pub split : bytes ≡ before ++ rest
  pub written : Adds old.written before now.written
  pub free : Lowers old.free (length before) now.free
  pub endures : Endures old now
  pub faultless : Faultless old (length bytes) now.faults

pub Putting-none : (old : SinkState) (bytes : List ℕ) → Putting old old bytes bytes
Putting-none old bytes = record {
  before = [];
  split = refl;
  written = Adds-none old.written;
  free = Lowers-none old.free;
  endures = record { later = omega arith; steady = λ h. h };
  faultless = λ _. faultless_none old.free;
}
  where
    faultless_none : (o : Option ℕ) → IfSome o (λ room. length bytes ≤ room → old.faults ≡ old.faults)
    faultless_none None = tt
    faultless_none (Some room) = λ _. refl

-- after a write that took the first n of what was left
pub Putting-more : {T E : Type 0} (old mid new : SinkState) (bytes rest : List ℕ) (n : ℕ) (result : Result T E) → Putting old mid bytes rest → Writes rest n mid new → Endures mid new →
    (IsTrue mid.steady → IfSome mid.free (λ room. 0 < room → Succeeds result mid.faults new.faults)) → 0 < length rest →
    Putting old new bytes (take (length rest - n) (drop n rest))
Putting-more old mid new bytes rest n result p w endures succeeds some =
    record {
      before = p.before ++ take n rest;
      split = p.split ∙ (ap (λ z. p.before ++ z) (sym (take-append-drop n rest)) ∙ (sym (append_assoc p.before (take n rest) (drop n rest)) ∙ ap (λ z. (p.before ++ take n rest) ++ z) (sym (between_to_end rest n (length rest) (omega arith)))));
      written = Adds-more _ p.before mid.written (take n rest) new.written p.written w.written;
      free = let e : length (p.before ++ take n rest) ≡ length p.before + n = length-append p.before (take n rest) ∙ ap (λ z. length p.before + z) (length-take-le n rest w.within) in
          let P : ℕ → Type 0 = λ k. Lowers old.free k new.free in subst P (sym e) (Lowers-more old.free (length p.before) mid.free n new.free p.free w.free);
      endures = record { later = omega (arith, p.endures.later, endures.later); steady = λ h. endures.steady (p.endures.steady h) };
      faultless = λ h. room_left (omega (arith, p.split, ap length p.split, length-append p.before rest)) old.free mid.free p.free (p.faultless h) (succeeds (p.endures.steady h));
    }
  where
    room_left : length bytes ≡ length p.before + length rest → (o m : Option ℕ) → Lowers o (length p.before) m → IfSome o (λ room. length bytes ≤ room → mid.faults ≡ old.faults) →
        IfSome m (λ room. 0 < room → Succeeds result mid.faults new.faults) → IfSome o (λ room. length bytes ≤ room → new.faults ≡ old.faults)
    room_left e None m l a b = tt
    room_left e (Some room) None l a b = absurd l
    room_left e (Some room) (Some left) l a b = λ h. (b (omega (arith, e, l, h, some))).faultless ∙ a h

-- a write that failed leaves a part taken
pub Takes-part : {E : Type 0} (old mid : SinkState) (bytes rest : List ℕ) (result : Result (Unit {0}) E) (new : SinkState) →
    Putting old mid bytes rest → IsErr result → WritesNothing mid new → Takes bytes result old new
Takes-part {E = E} old mid bytes rest result new p failed w =
    record {
      count = length p.before;
      within = omega (arith, ap length p.split, length-append p.before rest);
      all = not_ok result failed;
      written = let e : take (length p.before) bytes ≡ p.before = ap (take (length p.before)) p.split ∙ take-append_seam p.before rest in
          rw (e, w.written) p.written;
      free = let P : ℕ → Type 0 = λ k. Lowers old.free k new.free in subst P (add-zero (length p.before)) (Lowers-more old.free (length p.before) mid.free 0 new.free p.free w.free);
    }
  where
    not_ok : (r : Result (Unit {0}) E) → IsErr r → OnOk r (length p.before ≡ length bytes)
    not_ok (Ok x) h = cc
    not_ok (Err x) h = tt

-- with room for all bytes no write failed
pub Putting-succeeds : (E : Type 0) (old now : SinkState) (bytes rest : List ℕ) → Putting old now bytes rest → IsTrue old.steady →
    IfSome old.free (λ room. length bytes ≤ room → Succeeds {T = Unit {0}} {E = E} (Ok tt) old.faults now.faults)
Putting-succeeds E old now bytes rest p steady = all old.free (p.faultless steady)
  where
    all : (o : Option ℕ) → IfSome o (λ room. length bytes ≤ room → now.faults ≡ old.faults) → IfSome o (λ room. length bytes ≤ room → Succeeds {T = Unit {0}} {E = E} (Ok tt) old.faults now.faults)
    all None h = tt
    all (Some room) h = λ le. record { ok = refl; faultless = h le }

-- nor does the next one
pub Putting-unfailing : {T U E : Type 0} (old mid new : SinkState) (bytes rest : List ℕ) (step : Result T E) (result : Result U E) → Putting old mid bytes rest → 0 < length rest → IsErr step →
    (IsTrue mid.steady → IfSome mid.free (λ room. 0 < room → Succeeds step mid.faults new.faults)) → IsTrue old.steady →
    IfSome old.free (λ room. length bytes ≤ room → Succeeds result old.faults new.faults)
Putting-unfailing {T} {U} {E} old mid new bytes rest step result p some failed succeeds steady =
    none (omega (arith, ap length p.split, length-append p.before rest)) old.free mid.free p.free (succeeds (p.endures.steady steady))
  where
    no : (r : Result T E) → IsErr r → IsOk r → ⊥
    no (Ok x) h k = cc
    no (Err x) h k = cc

    none : length bytes ≡ length p.before + length rest → (o m : Option ℕ) → Lowers o (length p.before) m → IfSome m (λ room. 0 < room → Succeeds step mid.faults new.faults) →
        IfSome o (λ room. length bytes ≤ room → Succeeds result old.faults new.faults)
    none e None m l b = tt
    none e (Some room) None l b = absurd l
    none e (Some room) (Some left) l b = λ h. absurd (no step failed (b (omega (arith, e, l, h, some))).ok)
