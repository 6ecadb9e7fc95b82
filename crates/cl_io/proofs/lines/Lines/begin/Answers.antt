use Rattle.std.proofs.Common.{rules, ◌≡◌, ℕ, ◌<◌, List, [], ◌∷◌, length, true, false, IsTrue, subst, sym, arith}
use Rattle.std.proofs.lemmas.Grind.{common_steps}
use Rattle.cl_io.specs.Files.{Adds, Tries, begun_entry}
use Rattle.cl_io.specs.Steps.{next_name}
use Rattle.cl_io.proofs.Proceeding.{Kept-begun, EachLeft-next}
use Rattle.cl_io.proofs.lines.Lines.begin.Goals as goal

pub returns-then-is_err-clause-kept : goal.returns-then-is_err-clause-kept
returns-then-is_err-clause-kept g c =
    let was = g.F.Files.state c.args.files.now in
    let now = g.F.Files.state c.begin-begun.new.self in
    let named : c.index-names-self.result ≡ next_name c.args.self.now = grind (arith, common_steps) in
    let lt : c.args.self.now.begun < length c.args.self.now.names = search rules in
    let T : List ℕ → Type 0 = λ z. Tries z was now in
    let F : List ℕ → Type 0 = λ z. IsTrue was.steady → IsTrue (was.there z) → now.faults ≡ was.faults in
    Kept-begun c.args.self.now _ was now false [] (search rules) lt c.begin-begun.ensures.lasts (subst T named c.begin-begun.ensures.tries) (search rules)
    (subst F named (λ s t. (c.begin-begun.ensures.succeeds s t).faultless))

pub returns-then-is_err-clause-unfailing : goal.returns-then-is_err-clause-unfailing
returns-then-is_err-clause-unfailing g c = λ steady left.
    let was = g.F.Files.state c.args.files.now in
    let named : c.index-names-self.result ≡ next_name c.args.self.now = grind (arith, common_steps) in
    let lt : c.args.self.now.begun < length c.args.self.now.names = search rules in
    let P : List ℕ → Type 0 = λ z. IsTrue (was.there z) in
    let ok = (c.begin-begun.ensures.succeeds steady (subst P (sym named) (EachLeft-next was.there c.args.self.now left lt))).ok in
    search rules

pub returns-clause-kept : goal.returns-clause-kept
returns-clause-kept g c =
    let was = g.F.Files.state c.args.files.now in
    let now = g.F.Files.state c.begin-begun.new.self in
    let named : c.index-names-self.result ≡ next_name c.args.self.now = grind (arith, common_steps) in
    let lt : c.args.self.now.begun < length c.args.self.now.names = search rules in
    let T : List ℕ → Type 0 = λ z. Tries z was now in
    let F : List ℕ → Type 0 = λ z. IsTrue was.steady → IsTrue (was.there z) → now.faults ≡ was.faults in
    let A : List ℕ → Type 0 = λ z. Adds was.taken (begun_entry z ∷ []) now.taken in
    Kept-begun c.args.self.now _ was now true (begun_entry (next_name c.args.self.now) ∷ []) (search rules) lt c.begin-begun.ensures.lasts (subst T named c.begin-begun.ensures.tries)
    (let taken : Adds was.taken (begun_entry c.index-names-self.result ∷ []) now.taken = search rules in subst A named taken)
    (subst F named (λ s t. (c.begin-begun.ensures.succeeds s t).faultless))
