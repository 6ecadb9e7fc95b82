-- What a reader keeps from the first step of an answer to the last.
use Rattle.std.proofs.Common.{◌≡◌, ℕ, ◌+◌, ◌<◌, ◌≤◌, IsTrue, Result, Ok, Err, List, [], ◌∷◌, length, refl, sym, ap, ◌∙◌, append-nil, subst, arith}
use Rattle.cl_io.specs.declared.lines.Front.{Front}
use Rattle.cl_io.specs.declared.lines.Progress.{Progress}
use Rattle.cl_io.specs.declared.lines.Progress.TheVariants.{On, LineEnds, NoMore}
use Rattle.cl_io.specs.declared.lines.Line.{Line}
use Rattle.cl_io.specs.declared.lines.Line.TheVariants.{End}
use Rattle.cl_io.specs.declared.lines.LineFault.{LineFault}
use Rattle.cl_io.specs.declared.lines.LineFault.TheVariants.{Begin, Read, InputTooLong}
use Rattle.cl_io.specs.Files.{FilesState}
use Rattle.cl_io.specs.Reader.{Reading, Stands, IsFinished, IsUnopened, IsUnreadable, IsOverfull, Hands, GoesOn, Leaves, EachLeft, IsUnfailing, Kept, used}
use Rattle.cl_io.specs.ReaderLaws.{EachLeft-later, Kept-then}
use Rattle.cl_io.specs.Steps.{IsFront, HasNoFeed, before, ComesTo}

-- the front of a line was read, and nothing was handed out
pub record Going (r : Reading) (f : FilesState) (r' : Reading) (f' : FilesState) (front : Front) : Type 0 where
  pub line : List ℕ
  pub front' : IsFront front line
  pub no_feed : HasNoFeed line
  pub counted : length line + length r'.pending ≤ r'.total
  pub unused : used r ≤ used (before line r')
  pub limit : front.limit ≡ r.line_limit
  pub most : r'.begun ≤ length r'.names
  pub stands : (base : FilesState) (done : List (List ℕ)) → Stands base done r f → Stands base done (before line r') f'
  pub kept : Kept r f r' f'

-- What an answer says, from what the last step came to

pub Going-more : (r r1 r2 : Reading) (f f1 f2 : FilesState) (front front2 : Front) (progress : Progress) (going : Going r f r1 f1 front) → progress ≡ On → ComesTo r1 f1 going.line (Ok progress) r2 f2 front2 →
    front2.limit ≡ front.limit → Kept r1 f1 r2 f2 → Going r f r2 f2 front2
Going-more r r1 r2 f f1 f2 front front2 progress going e turned limit kept =
    let P : Progress → Type 0 = λ t. ComesTo r1 f1 going.line (Ok t) r2 f2 front2 in
    let t = subst P e turned in
    record {
      line = t.line';
      front' = t.front';
      no_feed = t.no_feed;
      counted = t.counted;
      unused = omega (arith, going.unused, t.unused);
      most = kept.most going.most;
      limit = limit ∙ going.limit;
      stands = λ base done st. t.stands base done (going.stands base done st);
      kept = Kept-then r r1 r2 f f1 f2 going.kept kept;
    }

pub gives_line : (r r1 r2 : Reading) (f f1 : FilesState) (now : FilesState) (front front2 : Front) (progress : Progress) (line : Line) (going : Going r f r1 f1 front) → progress ≡ LineEnds →
    ComesTo r1 f1 going.line (Ok progress) r2 now front2 → ((bytes : List ℕ) → IsFront front2 bytes → Hands line (bytes ∷ [])) → GoesOn r f line r2 now
gives_line r r1 r2 f f1 now front front2 progress line going e turned hands = λ base done st.
    let P : Progress → Type 0 = λ t. ComesTo r1 f1 going.line (Ok t) r2 now front2 in
    let t = subst P e turned in
    (t.line' ∷ [], hands t.line' t.front', t.stands base done (going.stands base done st))

pub gives_end : (r r1 r2 : Reading) (f f1 : FilesState) (now : FilesState) (front front2 : Front) (progress : Progress) (going : Going r f r1 f1 front) → progress ≡ NoMore →
    ComesTo r1 f1 going.line (Ok progress) r2 now front2 → GoesOn r f End r2 now
gives_end r r1 r2 f f1 now front front2 progress going e turned = λ base done st.
    let P : Progress → Type 0 = λ t. ComesTo r1 f1 going.line (Ok t) r2 now front2 in
    let t = subst P e turned in
    let Q : List (List ℕ) → Type 0 = λ z. Stands base z r2 now in
    ([], refl, subst Q (sym (append-nil done)) (t.stands base done (going.stands base done st)))

pub leaves_finished : (r r1 r2 : Reading) (f f1 : FilesState) (now : FilesState) (front front2 : Front) (progress : Progress) (going : Going r f r1 f1 front) → progress ≡ NoMore →
    ComesTo r1 f1 going.line (Ok progress) r2 now front2 → Leaves IsFinished r f r2 now
leaves_finished r r1 r2 f f1 now front front2 progress going e turned = λ base done st.
    let P : Progress → Type 0 = λ t. ComesTo r1 f1 going.line (Ok t) r2 now front2 in
    let t = subst P e turned in
    t.finished base done (going.stands base done st)

same_fault : (result : Result Line LineFault) (x e fault : LineFault) → result ≡ Err x → x ≡ e → result ≡ Err fault → e ≡ fault
same_fault result x e fault p q h = cc

pub leaves_unopened : (r r1 r2 : Reading) (f f1 : FilesState) (now : FilesState) (front front2 : Front) (result : Result Line LineFault) (x e : LineFault) (going : Going r f r1 f1 front) →
    result ≡ Err x → x ≡ e → ComesTo r1 f1 going.line (Err e) r2 now front2 → result ≡ Err Begin → Leaves IsUnopened r f r2 now
leaves_unopened r r1 r2 f f1 now front front2 result x e going p q turned h = λ base done st.
    let P : LineFault → Type 0 = λ z. ComesTo r1 f1 going.line (Err z) r2 now front2 in
    subst P (same_fault result x e Begin p q h) turned base done (going.stands base done st)

pub leaves_unreadable : (r r1 r2 : Reading) (f f1 : FilesState) (now : FilesState) (front front2 : Front) (result : Result Line LineFault) (x e : LineFault) (going : Going r f r1 f1 front) →
    result ≡ Err x → x ≡ e → ComesTo r1 f1 going.line (Err e) r2 now front2 → result ≡ Err Read → Leaves IsUnreadable r f r2 now
leaves_unreadable r r1 r2 f f1 now front front2 result x e going p q turned h = λ base done st.
    let P : LineFault → Type 0 = λ z. ComesTo r1 f1 going.line (Err z) r2 now front2 in
    subst P (same_fault result x e Read p q h) turned base done (going.stands base done st)

pub leaves_overfull : (r r1 r2 : Reading) (f f1 : FilesState) (now : FilesState) (front front2 : Front) (result : Result Line LineFault) (x e : LineFault) (going : Going r f r1 f1 front) →
    result ≡ Err x → x ≡ e → ComesTo r1 f1 going.line (Err e) r2 now front2 → result ≡ Err InputTooLong → Leaves IsOverfull r f r2 now
leaves_overfull r r1 r2 f f1 now front front2 result x e going p q turned h = λ base done st.
    let P : LineFault → Type 0 = λ z. ComesTo r1 f1 going.line (Err z) r2 now front2 in
    subst P (same_fault result x e InputTooLong p q h) turned base done (going.stands base done st)

pub uses_byte : (r r1 r2 : Reading) (f f1 : FilesState) (now : FilesState) (front front2 : Front) (progress : Progress) (going : Going r f r1 f1 front) → progress ≡ LineEnds →
    ComesTo r1 f1 going.line (Ok progress) r2 now front2 → used r < used r2
uses_byte r r1 r2 f f1 now front front2 progress going e turned =
    let P : Progress → Type 0 = λ t. ComesTo r1 f1 going.line (Ok t) r2 now front2 in
    let t = subst P e turned in
    omega (arith, going.unused, t.uses)

pub unfailing : (r r1 : Reading) (f f1 : FilesState) (result : Result Line LineFault) (x e : LineFault) → Kept r f r1 f1 →
    (IsTrue f1.steady → EachLeft f1.there r1 → IsUnfailing {T = Progress} (Err e)) → result ≡ Err x → x ≡ e →
    IsTrue f.steady → EachLeft f.there r → IsUnfailing result
unfailing r r1 f f1 result x e k step p q s h =
    let u = step (k.lasts.steady s) (EachLeft-later f.there f1.there r r1 k.lasts.there k.task k.begun h) in
    record {
      begun = λ b. u.begun (ap Err (same_fault result x e Begin p q b));
      read = λ b. u.read (ap Err (same_fault result x e Read p q b));
    }
