-- What a step of the reader comes to, from what its calls ensure.
use Rattle.std.proofs.Common.{◌≡◌, ℕ, ◌+◌, ◌-◌, ◌<◌, ◌≤◌, Bool, true, false, IsTrue, Option, IsSome, option_map, Result, Err, ◌⊎◌, inl, inr, List, [], ◌∷◌, ◌++◌, length, take, get_or, refl, sym, ap, ◌∙◌, append_assoc, append-nil, subst, arith, length-append}
use Rattle.std.proofs.lemmas.List.Elements.{All-append}
use Rattle.std.proofs.lemmas.List.{get_or-drop, length-drop, take_more}
use Rattle.cl_io.specs.declared.lines.Front.{Front}
use Rattle.cl_io.specs.declared.lines.Progress.{Progress}
use Rattle.cl_io.specs.declared.lines.LineFault.{LineFault}
use Rattle.cl_io.specs.declared.lines.LineFault.TheVariants.{Begin, Read, InputTooLong, NoMemory}
use Rattle.cl_io.specs.Files.{Entry, FilesState, Adds, AddsSome, Lasts, Reads, Tries, begun_entry, read_last}
use Rattle.cl_io.specs.FilesLaws.{Adds-more, Adds-told}
use Rattle.cl_io.specs.Reader.{Reading, Stands, IsUnopened, IsUnreadable, IsOverfull, Kept, SameTask, EachLeft, IsUnfailing, used}
use Rattle.cl_io.specs.ReaderLaws.{Lasts-none}
use Rattle.cl_io.specs.Steps.{IsFront, Gains, HasNoFeed, Parts, with_pending, next_name, after_begin, after_read, before, GoesFurther, EndsLine, EndsAll, StopsWith, ComesTo}
use Rattle.cl_io.proofs.Standing.{Stands-fed, Stands-begun, Stands-read, Stands-ended, Stands-between, finished, unopened, unreadable, overfull, last_line-some, last_line-none}

-- all that was pending went to the front of the line
pub record Advanced (reading : Reading) (was : FilesState) (line : List ℕ) (reading' : Reading) (front : Front) : Type 0 where
  pub line' : List ℕ
  pub front' : IsFront front line'
  pub no_feed : HasNoFeed line'
  pub counted : length line' ≤ reading'.total
  pub unused : used (before line reading) ≤ reading'.total - length line'
  pub empty : reading'.pending ≡ []
  pub stands : (base : FilesState) (done : List (List ℕ)) → Stands base done (before line reading) was → Stands base done (with_pending reading' line') was

no_feed-more : (line part : List ℕ) → HasNoFeed line → HasNoFeed part → HasNoFeed (line ++ part)
no_feed-more line part h h' = All-append (λ x. x ≡ 10 → ⊥) line part h h'

pub fed : (r r' : Reading) (was : FilesState) (line part : List ℕ) (front front' : Front) (m : Bool) → m ≡ true → r' ≡ with_pending r r'.pending → Parts m r.pending part r'.pending →
    HasNoFeed part → Gains front front' part → front.length + length r.pending ≤ r.total → IsFront front line → HasNoFeed line → EndsLine r was line r' was front'
fed r r' was line part front front' m t e parted h gains counted f h' =
    let M : Bool → Type 0 = λ z. Parts z r.pending part r'.pending in
    let parts = subst M t parted in
    record {
      line' = line ++ part;
      front' = gains.stands line f;
      uses = let total : r'.total ≡ r.total = ap (λ (z : Reading). z.total) e in
          omega (arith, total, counted, f.counted, length-append line r.pending, ap length parts, length-append part (10 ∷ r'.pending));
      stands = λ base done st.
          let P : Reading → Type 0 = λ z. Stands base (done ++ (line ++ part) ∷ []) z was in
          subst P (sym e)
          (Stands-fed base done (before line r) was (line ++ part) r'.pending
          (ap (λ z. line ++ z) parts ∙ sym (append_assoc line part (10 ∷ r'.pending))) (no_feed-more line part h' h) st);
    }

pub advanced : (r r' : Reading) (was : FilesState) (line part : List ℕ) (front front' : Front) (m : Bool) → m ≡ false → r' ≡ with_pending r r'.pending → Parts m r.pending part r'.pending →
    HasNoFeed part → Gains front front' part → front.length + length r.pending ≤ r.total → IsFront front line → HasNoFeed line → Advanced r was line r' front'
advanced r r' was line part front front' m t e parted h gains counted f h' =
    let M : Bool → Type 0 = λ z. Parts z r.pending part r'.pending in
    let parts = subst M t parted in
    record {
      line' = line ++ part;
      front' = gains.stands line f;
      no_feed = no_feed-more line part h' h;
      unused = let t : r'.total ≡ r.total = ap (λ (z : Reading). z.total) e in
          omega (arith, t, length-append line r.pending, length-append line part, ap length parts.0);
      counted = let t : r'.total ≡ r.total = ap (λ (z : Reading). z.total) e in omega (arith, t, counted, f.counted, length-append line part, ap length parts.0);
      empty = parts.1;
      stands = λ base done st.
          let P : Reading → Type 0 = λ z. Stands base done z was in
          let same : with_pending r' (line ++ part) ≡ with_pending r (line ++ part) = ap (λ z. with_pending z (line ++ part)) e in
          subst P (ap (λ z. with_pending r (line ++ z)) parts.0 ∙ sym same) st;
    }

-- more of the file came, or it ended where no line was begun
pub read_on : (r r1 r2 : Reading) (was : FilesState) (line p : List ℕ) (front : Front) (now : FilesState) →
    Advanced r was line r1 front → r1.amid ≡ true → r2 ≡ after_read p r1 → (r2.amid ≡ true) ⊎ (front.length ≡ 0) → r2.total ≤ r2.input_limit →
    Reads p was now → GoesFurther r was line r2 now front
read_on r r1 r2 was line [] front now a amid e m within reads =
    let P : Reading → Type 0 = λ z. GoesFurther r was line z now front in
    let none : length a.line' ≡ 0 = no_line m in
    let nothing : a.line' ≡ [] = nil a.line' none in
    subst P (sym e) (record {
      line' = [];
      front' = let Q : List ℕ → Type 0 = IsFront front in subst Q nothing a.front';
      no_feed = λ k d lt. absurd (omega (arith, lt));
      counted = omega arith;
      unused = omega (arith, a.unused);
      stands = λ base done st.
          let Q : List (List ℕ) → Type 0 = λ z. Stands base z (record r1 { amid = false; pending = [] }) now in
          subst Q (ap (λ z. done ++ z) (last_line-none a.line' none) ∙ append-nil done)
          (Stands-ended base done (with_pending r1 a.line') was now amid a.no_feed reads.tried reads.taken (a.stands base done st));
    })
  where
    nil : (xs : List ℕ) → length xs ≡ 0 → xs ≡ []
    nil [] h = refl
    nil (x ∷ xs) h = absurd (omega (arith, h))

    no_line : (r2.amid ≡ true) ⊎ (front.length ≡ 0) → length a.line' ≡ 0
    no_line (inl h) = let bad : false ≡ true = sym (ap (λ (z : Reading). z.amid) e) ∙ h in cc
    no_line (inr h) = omega (arith, h, a.front'.counted)
read_on r r1 r2 was line (b ∷ bytes) front now a amid e m within reads =
    let P : Reading → Type 0 = λ z. GoesFurther r was line z now front in
    let total : r2.total ≡ r1.total + length (b ∷ bytes) = ap (λ (z : Reading). z.total) e in
    let limit : r2.input_limit ≡ r1.input_limit = ap (λ (z : Reading). z.input_limit) e in
    subst P (sym e) (record {
      line' = a.line';
      front' = a.front';
      no_feed = a.no_feed;
      counted = omega (arith, a.counted);
      unused = omega (arith, a.unused, length-append a.line' (b ∷ bytes));
      stands = λ base done st.
          Stands-read base done (with_pending r1 a.line') was now b bytes amid reads.tried reads.taken (omega (arith, within, total, limit)) (a.stands base done st);
    })

-- the file ended, and so its last line
pub line_ended : (r r1 r2 : Reading) (was : FilesState) (line p : List ℕ) (front : Front) (now : FilesState) →
    Advanced r was line r1 front → r1.amid ≡ true → r2 ≡ after_read p r1 → r2.amid ≡ false → 0 < front.length →
    Reads p was now → EndsLine r was line r2 now front
line_ended r r1 r2 was line [] front now a amid e m some reads =
    let P : Reading → Type 0 = λ z. EndsLine r was line z now front in
    subst P (sym e) (record {
      line' = a.line';
      front' = a.front';
      uses = omega (arith, a.unused, a.counted, some, a.front'.counted);
      stands = λ base done st.
          let Q : List (List ℕ) → Type 0 = λ z. Stands base z (record r1 { amid = false; pending = [] }) now in
          subst Q (ap (λ z. done ++ z) (last_line-some a.line' (omega (arith, some, a.front'.counted))))
          (Stands-ended base done (with_pending r1 a.line') was now amid a.no_feed reads.tried reads.taken (a.stands base done st));
    })
line_ended r r1 r2 was line (b ∷ bytes) front now a amid e m some reads =
    let bad : true ≡ false = sym amid ∙ (sym (ap (λ (z : Reading). z.amid) e) ∙ m) in cc

pub begun_on : (r r1 r2 : Reading) (was : FilesState) (line : List ℕ) (front : Front) (now : FilesState) →
    Advanced r was line r1 front → r1.amid ≡ false → r1.begun < length r1.names → r2 ≡ after_begin true r1 →
    Adds was.tried (next_name r1 ∷ []) now.tried → Adds was.taken (begun_entry (next_name r1) ∷ []) now.taken → GoesFurther r was line r2 now front
begun_on r r1 r2 was line front now a amid lt e adds adds' =
    let P : Reading → Type 0 = λ z. GoesFurther r was line z now front in
    subst P (sym e) (record {
      line' = a.line';
      front' = a.front';
      no_feed = a.no_feed;
      counted = omega (arith, a.counted, ap length a.empty);
      unused = omega (arith, a.unused, length-append a.line' r1.pending, ap length a.empty);
      stands = λ base done st.
          let Q : List ℕ → Type 0 = λ z. Stands base done (with_pending (after_begin true r1) z) now in
          subst Q (sym (ap (λ z. a.line' ++ z) a.empty ∙ append-nil a.line'))
          (Stands-begun base done (with_pending r1 a.line') was now amid lt adds adds' (a.stands base done st));
    })

pub all_ended : (r r1 r2 : Reading) (was : FilesState) (line : List ℕ) (front : Front) → Advanced r was line r1 front → r1.amid ≡ false → length r1.names ≤ r1.begun → r2 ≡ r1 →
    EndsAll r was line r2 was
all_ended r r1 r2 was line front a amid all e =
    let P : Reading → Type 0 = λ z. EndsAll r was line z was in
    subst P (sym e) (record {
      stands = λ base done st. Stands-between base done r1 was a.line' amid a.empty (a.stands base done st);
      finished = λ base done st. finished base done r1 was amid all (Stands-between base done r1 was a.line' amid a.empty (a.stands base done st));
    })

pub stops_unopened : (r r1 r2 : Reading) (was : FilesState) (line : List ℕ) (front : Front) (now : FilesState) →
    Advanced r was line r1 front → r1.amid ≡ false → r2 ≡ after_begin false r1 → Adds was.taken [] now.taken → StopsWith IsUnopened r was line r2 now
stops_unopened r r1 r2 was line front now a amid e adds = λ base done st.
    let P : Reading → Type 0 = λ z. AddsSome base.taken (IsUnopened done z) now.taken in
    subst P (sym e) (unopened base done (with_pending r1 a.line') was now r1.pending amid adds (a.stands base done st))

pub stops_unreadable : (r r1 r2 : Reading) (was : FilesState) (line : List ℕ) (front : Front) (now : FilesState) →
    Advanced r was line r1 front → r1.amid ≡ true → r2 ≡ with_pending r1 r2.pending → now.taken ≡ was.taken → StopsWith IsUnreadable r was line r2 now
stops_unreadable r r1 r2 was line front now a amid e same = λ base done st.
    let P : Reading → Type 0 = λ z. AddsSome base.taken (IsUnreadable done z) now.taken in
    subst P (sym e) (unreadable base done (with_pending r1 a.line') was now r2.pending amid a.no_feed same (a.stands base done st))

pub stops_overfull : (r r1 r2 : Reading) (was : FilesState) (line : List ℕ) (front : Front) (now : FilesState) (b : ℕ) →
    Advanced r was line r1 front → r1.amid ≡ true → r2 ≡ with_pending r1 r2.pending → r1.total ≡ r1.input_limit → now.taken ≡ option_map (read_last (b ∷ [])) was.taken →
    StopsWith IsOverfull r was line r2 now
stops_overfull r r1 r2 was line front now b a amid e full read = λ base done st.
    let P : Reading → Type 0 = λ z. AddsSome base.taken (IsOverfull done z) now.taken in
    subst P (sym e) (overfull base done (with_pending r1 a.line') was now r2.pending b amid a.no_feed full read (a.stands base done st))

pub ComesTo-err : (r r2 : Reading) (was now : FilesState) (line : List ℕ) (front : Front) (result : Result Progress LineFault) (e : LineFault) → result ≡ Err e →
    (e ≡ Begin → StopsWith IsUnopened r was line r2 now) → (e ≡ Read → StopsWith IsUnreadable r was line r2 now) → (e ≡ InputTooLong → StopsWith IsOverfull r was line r2 now) →
    ComesTo r was line result r2 now front
ComesTo-err r r2 was now line front result e same begin read over =
    let P : Result Progress LineFault → Type 0 = λ z. ComesTo r was line z r2 now front in subst P (sym same) (cases e begin read over)
  where
    cases : (e : LineFault) → (e ≡ Begin → StopsWith IsUnopened r was line r2 now) → (e ≡ Read → StopsWith IsUnreadable r was line r2 now) → (e ≡ InputTooLong → StopsWith IsOverfull r was line r2 now) →
        ComesTo r was line (Err e) r2 now front
    cases Begin begin read over = begin refl
    cases Read begin read over = read refl
    cases InputTooLong begin read over = over refl
    cases NoMemory begin read over = tt

-- the next name is one of those that are left
pub EachLeft-next : (p : List ℕ → Bool) (r : Reading) → EachLeft p r → r.begun < length r.names → IsTrue (p (next_name r))
EachLeft-next p r h lt =
    let P : List ℕ → Type 0 = λ z. IsTrue (p z) in
    let e : r.begun + 0 ≡ r.begun = omega arith in
    subst P (get_or-drop r.begun r.names 0 [] ∙ ap (λ k. get_or r.names k []) e) (h 0 [] (omega (arith, lt, length-drop r.begun r.names)))

-- ---- what is kept

-- only what is pending changed
pub Kept-moved : (r r' : Reading) (f : FilesState) → r' ≡ with_pending r r'.pending → Kept r f r' f
Kept-moved r r' f e = let P : Reading → Type 0 = λ z. Kept r f z f in subst P (sym e) (record {
  task = record { names = refl; line_limit = refl; input_limit = refl };
  begun = omega arith;
  most = λ h. h;
  order = λ base a. a;
  told = λ t. t;
  faultless = λ _ _. refl;
  telling = λ _ _. record { tried = λ t. t; taken = λ t. t; places = refl };
  lasts = Lasts-none f;
})

-- a read, which may have failed
pub Kept-read : (r r' : Reading) (f f' : FilesState) → SameTask r r' → r'.begun ≡ r.begun → Lasts f f' → f'.tried ≡ f.tried → f'.places ≡ f.places →
    (IsSome f'.taken → IsSome f.taken) → (IsSome f.taken → IsSome f'.taken) → (IsTrue f.steady → f'.faults ≡ f.faults) → Kept r f r' f'
Kept-read r r' f f' task begun lasts tried places was is faultless =
    record {
      task = task;
      begun = omega (arith, begun);
      most = λ h. omega (arith, h, begun, ap length task.names);
      order = λ base a.
          let P : ℕ → Type 0 = λ z. Adds base (take z r.names) f'.tried in
          let Q : Option (List (List ℕ)) → Type 0 = λ z. Adds base (take r.begun r.names) z in
          subst P (sym begun) (subst Q (sym tried) a);
      told = was;
      faultless = λ s _. faultless s;
      telling = λ _ _. record { tried = let P : Option (List (List ℕ)) → Type 0 = IsSome in λ s. subst P (sym tried) s; taken = is; places = omega (arith, places, begun) };
      lasts = lasts;
    }

-- a begin of the next name, which may have failed
pub Kept-begun : (r r' : Reading) (f f' : FilesState) (amid : Bool) (more : List Entry) → r' ≡ after_begin amid r → r.begun < length r.names → Lasts f f' → Tries (next_name r) f f' →
    Adds f.taken more f'.taken → (IsTrue f.steady → IsTrue (f.there (next_name r)) → f'.faults ≡ f.faults) → Kept r f r' f'
Kept-begun r r' f f' amid more e lt lasts tries taken faultless =
    let P : Reading → Type 0 = λ z. Kept r f z f' in
    subst P (sym e) (record {
      task = record { names = refl; line_limit = refl; input_limit = refl };
      begun = omega arith;
      most = λ h. omega (arith, lt);
      order = λ base a.
          let Q : List (List ℕ) → Type 0 = λ z. Adds base z f'.tried in
          subst Q (sym (take_more r.names r.begun [] lt)) (Adds-more base (take r.begun r.names) f.tried (next_name r ∷ []) f'.tried a tries.tried);
      told = Adds-told f.taken more f'.taken taken;
      faultless = λ s left. faultless s (EachLeft-next f.there r left lt);
      telling = λ left room.
          let u = tries.told (EachLeft-next f.knows r left lt) (omega (arith, lt, room)) in
          record { tried = u.tried; taken = u.taken; places = omega (arith, u.places) };
      lasts = lasts;
    })

-- the next name of a reader that only moved what was pending is one of those that were left
pub EachLeft-moved : (p : List ℕ → Bool) (r r1 : Reading) → r1 ≡ with_pending r r1.pending → EachLeft p r → EachLeft p r1
EachLeft-moved p r r1 e h = let P : Reading → Type 0 = λ z. EachLeft p z in subst P (sym e) (moved h)
  where
    moved : EachLeft p r → EachLeft p (with_pending r r1.pending)
    moved h = h

pub IsUnfailing-err : {T U : Type 0} (fault : LineFault) (result : Result U LineFault) → result ≡ Err fault → IsUnfailing {T = T} (Err fault) → IsUnfailing result
IsUnfailing-err fault result e u = record {
  begun = λ h. let k : fault ≡ Begin = cc in u.begun (ap Err k);
  read = λ h. let k : fault ≡ Read = cc in u.read (ap Err k);
}
