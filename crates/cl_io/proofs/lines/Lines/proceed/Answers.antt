use Rattle.std.proofs.Common.{◌≡◌, true, false, inl, inr, sym, ap, ◌∙◌, arith, Ok, Err}
use Rattle.std.proofs.lemmas.Bool.Decides.{nat_tests}
use Rattle.std.proofs.lemmas.Result.{err_from_is_err_and}
use Rattle.cl_io.specs.Reader.{Reading}
use Rattle.cl_io.specs.ReaderLaws.{Kept-then}
use Rattle.cl_io.proofs.Proceeding.{fed, advanced, read_on, line_ended, begun_on, all_ended, stops_unreadable, stops_overfull, ComesTo-err, Kept-moved, EachLeft-moved}
use Rattle.cl_io.proofs.lines.Lines.proceed.Goals as goal
use Rattle.cl_io.proofs.lines.Lines.proceed.Goals.{then-more, else-more}

pub returns-then-branch-clause-kept : goal.returns-then-branch-clause-kept
returns-then-branch-clause-kept g c = Kept-moved _ _ _ c.in_ok-advance.ensures.rest

pub returns-then-branch-clause-comes_to : goal.returns-then-branch-clause-comes_to
returns-then-branch-clause-comes_to g c = λ line f h.
    let p = c.in_ok-advance.ensures in
    fed _ _ _ line p.parts.0 _ _ _ c.if-branch.true p.rest p.parts.2 p.parts.1 p.parts.3 c.requires f h

pub returns-in_err-more-clause-kept : goal.returns-in_err-more-clause-kept
returns-in_err-more-clause-kept g c = Kept-then _ _ _ _ _ _ (Kept-moved _ _ _ c.in_ok-advance.ensures.rest) c.in_err-more.ensures.kept

pub returns-in_err-more-clause-comes_to : goal.returns-in_err-more-clause-comes_to
returns-in_err-more-clause-comes_to g c = λ line f h.
    let p = c.in_ok-advance.ensures in
    let a = advanced _ _ _ line p.parts.0 _ _ _ c.if-branch.false p.rest p.parts.2 p.parts.1 p.parts.3 c.requires f h in
    let q = c.in_err-more.ensures in
    let amid : c.advance.new.self.amid ≡ true = sym (ap (λ (z : Reading). z.amid) c.self.view_is) ∙ c.if-self.true in
    let r = err_from_is_err_and c.from_residual-in_err-more.result c.from_residual-in_err-more.ensures.1 in
    ComesTo-err _ _ _ _ line _ _ r.0 r.1
    (λ k. absurd (q.no_begin (ap Err (sym r.2 ∙ k))))
    (λ k. stops_unreadable _ _ _ _ line _ (g.F.Files.state c.fill.new.files) a amid q.err (q.read (ap Err (sym r.2 ∙ k))))
    (λ k. let o = q.over (ap Err (sym r.2 ∙ k)) in stops_overfull _ _ _ _ line _ (g.F.Files.state c.fill.new.files) o.1.0 a amid q.err o.0 o.1.1)

pub returns-then-front-eq0-clause-kept : goal.returns-then-front-eq0-clause-kept
returns-then-front-eq0-clause-kept g c = Kept-then _ _ _ _ _ _ (Kept-moved _ _ _ c.in_ok-advance.ensures.rest) c.in_ok-more.ensures.kept

pub returns-then-front-eq0-clause-comes_to : goal.returns-then-front-eq0-clause-comes_to
returns-then-front-eq0-clause-comes_to g c = λ line f h.
    let p = c.in_ok-advance.ensures in
    let a = advanced _ _ _ line p.parts.0 _ _ _ c.if-branch.false p.rest p.parts.2 p.parts.1 p.parts.3 c.requires f h in
    let q = c.in_ok-more.ensures in
    let amid : c.advance.new.self.amid ≡ true = sym (ap (λ (z : Reading). z.amid) c.self.view_is) ∙ c.if-self.true in
    read_on _ _ _ _ line _ _ _ a amid q.ok.0 (elim c.if-more.branch [ then-more w ↦ inl (let m = w.if-more.true in sym q.ok.1 ∙ m) | else-more w ↦ inr (let v = w.value-is in let t = c.if-front-eq0.true in grind (arith, nat_tests)) ]) q.within q.reads

pub returns-else-front-eq0-clause-kept : goal.returns-else-front-eq0-clause-kept
returns-else-front-eq0-clause-kept g c = Kept-then _ _ _ _ _ _ (Kept-moved _ _ _ c.in_ok-advance.ensures.rest) c.in_ok-more.ensures.kept

pub returns-else-front-eq0-clause-comes_to : goal.returns-else-front-eq0-clause-comes_to
returns-else-front-eq0-clause-comes_to g c = λ line f h.
    let p = c.in_ok-advance.ensures in
    let a = advanced _ _ _ line p.parts.0 _ _ _ c.if-branch.false p.rest p.parts.2 p.parts.1 p.parts.3 c.requires f h in
    let q = c.in_ok-more.ensures in
    let amid : c.advance.new.self.amid ≡ true = sym (ap (λ (z : Reading). z.amid) c.self.view_is) ∙ c.if-self.true in
    line_ended _ _ _ _ line _ _ _ a amid q.ok.0
    (elim c.if-more.branch [ then-more w ↦ (let v = w.value-is in let t = c.if-front-eq0.false in cc) | else-more w ↦ (let m = w.if-more.false in sym q.ok.1 ∙ m) ])
    (elim c.if-more.branch [ then-more w ↦ (let v = w.value-is in let t = c.if-front-eq0.false in absurd (grind (arith, nat_tests))) | else-more w ↦ (let v = w.value-is in let t = c.if-front-eq0.false in grind (arith, nat_tests)) ])
    q.reads

pub returns-in_err-more-2-clause-kept : goal.returns-in_err-more-2-clause-kept
returns-in_err-more-2-clause-kept g c = Kept-then _ _ _ _ _ _ (Kept-moved _ _ _ c.in_ok-advance.ensures.rest) c.in_err-more-2.ensures.kept

pub returns-then-more-2-clause-kept : goal.returns-then-more-2-clause-kept
returns-then-more-2-clause-kept g c = Kept-then _ _ _ _ _ _ (Kept-moved _ _ _ c.in_ok-advance.ensures.rest) c.in_ok-more-2.ensures.kept

pub returns-then-more-2-clause-comes_to : goal.returns-then-more-2-clause-comes_to
returns-then-more-2-clause-comes_to g c = λ line f h.
    let p = c.in_ok-advance.ensures in
    let a = advanced _ _ _ line p.parts.0 _ _ _ c.if-branch.false p.rest p.parts.2 p.parts.1 p.parts.3 c.requires f h in
    let amid : c.advance.new.self.amid ≡ false = sym (ap (λ (z : Reading). z.amid) c.self.view_is) ∙ c.if-self.false in
    let t = c.in_ok-more-2.ensures.some (ap Ok c.if-more-2.true) in
    begun_on _ _ _ _ line _ _ a amid t.0 t.1 t.3 t.2

pub returns-else-more-2-clause-kept : goal.returns-else-more-2-clause-kept
returns-else-more-2-clause-kept g c = Kept-then _ _ _ _ _ _ (Kept-moved _ _ _ c.in_ok-advance.ensures.rest) c.in_ok-more-2.ensures.kept

pub returns-else-more-2-clause-comes_to : goal.returns-else-more-2-clause-comes_to
returns-else-more-2-clause-comes_to g c = λ line f h.
    let p = c.in_ok-advance.ensures in
    let a = advanced _ _ _ line p.parts.0 _ _ _ c.if-branch.false p.rest p.parts.2 p.parts.1 p.parts.3 c.requires f h in
    let amid : c.advance.new.self.amid ≡ false = sym (ap (λ (z : Reading). z.amid) c.self.view_is) ∙ c.if-self.false in
    let t = c.in_ok-more-2.ensures.none (ap Ok c.if-more-2.false) in
    rw t.2 (all_ended _ _ _ _ line _ a amid t.1 t.0)

pub returns-in_err-more-2-clause-unfailing : goal.returns-in_err-more-2-clause-unfailing
returns-in_err-more-2-clause-unfailing g c = λ steady left.
    let ok = c.in_err-more-2.ensures.unfailing steady (EachLeft-moved (g.F.Files.state c.args.files.now).there c.args.self.now c.advance.new.self c.in_ok-advance.ensures.rest left) in cc
