-- How a reader stands after each of its steps.
use Rattle.std.proofs.Common.{◌≡◌, ℕ, zero, suc, ◌+◌, ◌-◌, ◌<◌, ◌≤◌, Bool, true, false, ltb, cond, MatchBool, Option, Some, None, option_map, List, [], ◌∷◌, ◌++◌, length, take, All, refl, sym, ap, ◌∙◌, append_assoc, append-nil, subst, arith, length-append}
use Rattle.std.proofs.lemmas.Bool.Decides.{nat_tests}
use Rattle.std.proofs.lemmas.List.{take_more, take_all}
use Rattle.std.proofs.lemmas.List.Elements.{All-append}
use Rattle.std.proofs.Math.Seq.{take-append_seam}
use Rattle.cl_io.specs.Files.{FilesState, Adds, AddsSome, Entry, IsEnded, begun_entry, read_entry, read_last, names_of, byte_count}
use Rattle.cl_io.specs.FilesLaws.{Adds-more, AddsSome-weaker}
use Rattle.cl_io.specs.Lines.{lines_of, whole_lines, first_bytes}
use Rattle.cl_io.specs.Reader.{Reading, IsBetween, IsAmid, Took, Stands, IsFinished, IsUnopened, IsUnreadable, IsOverfull}
use Rattle.cl_io.specs.Steps.{HasNoFeed, with_pending, next_name, after_begin}
use Rattle.cl_io.specs.LinesLaws.{whole_lines-append, names_of-append, byte_count-append}
use Rattle.cl_io.proofs.Feeds.{lines_of-feed, lines_of-open, lines_of-last, read_last-append}

-- What is told

pub AddsSome-adds : {A : Type 0} (a : Option (List A)) (P Q : List A → Type 0) (b : Option (List A)) (x : List A) (c : Option (List A)) →
    AddsSome a P b → Adds b x c → ((more : List A) → P more → Q (more ++ x)) → AddsSome a Q c
AddsSome-adds a P Q b x None p q f = tt
AddsSome-adds a P Q None x (Some c) p q f = absurd q
AddsSome-adds None P Q (Some b) x (Some c) p q f = absurd p
AddsSome-adds (Some a) P Q (Some b) x (Some c) p q f =
    (p.0 ++ x, q ∙ (ap (λ z. z ++ x) p.1 ∙ append_assoc a p.0 x), f p.0 p.2)

pub AddsSome-map : {A : Type 0} (a : Option (List A)) (P Q : List A → Type 0) (b c : Option (List A)) (f : List A → List A) →
    AddsSome a P b → c ≡ option_map f b →
    ((front more : List A) → P more → (q : List A) × (f (front ++ more) ≡ front ++ q) × Q q) → AddsSome a Q c
AddsSome-map {A} a P Q b c f p e g = let R : Option (List A) → Type 0 = λ z. AddsSome a Q z in subst R (sym e) (mapped a b p)
  where
    mapped : (a b : Option (List A)) → AddsSome a P b → AddsSome a Q (option_map f b)
    mapped a None p = tt
    mapped None (Some b) p = absurd p
    mapped (Some a) (Some b) p = let w = g a p.0 p.2 in (w.0, ap f p.1 ∙ w.1, w.2)

-- Lines

-- what is left of a text without a line feed, as a line
pub last_line : List ℕ → List (List ℕ)
last_line [] = []
last_line (b ∷ bytes) = (b ∷ bytes) ∷ []

lines_of-end : (line : List ℕ) → HasNoFeed line → lines_of true line ≡ last_line line
unfolding last_line
lines_of-end [] h = refl
lines_of-end (b ∷ line) h = lines_of-last b line h

pub last_line-some : (line : List ℕ) → 0 < length line → last_line line ≡ line ∷ []
unfolding last_line
last_line-some [] h = absurd (omega (arith, h))
last_line-some (b ∷ line) h = refl

pub last_line-none : (line : List ℕ) → length line ≡ 0 → last_line line ≡ []
unfolding last_line
last_line-none [] h = refl
last_line-none (b ∷ line) h = absurd (omega (arith, h))

no_feed_in_nothing : (line rest : List ℕ) → [] ≡ line ++ 10 ∷ rest → ⊥
no_feed_in_nothing [] rest e = cc
no_feed_in_nothing (b ∷ line) rest e = cc

All-one : {A : Type 0} (P : A → Type 0) (x : A) → P x → All P (x ∷ [])
All-one P x h zero d lt = h
All-one P x h (suc k) d lt = absurd (omega (arith, lt))

-- The steps, on what was taken

pub fed_lines : (m : Bool) (done : List (List ℕ)) (pending line rest : List ℕ) (entries : List Entry) → pending ≡ line ++ 10 ∷ rest → HasNoFeed line →
    MatchBool m (IsAmid done pending entries) (IsBetween done pending entries) →
    MatchBool m (IsAmid (done ++ line ∷ []) rest entries) (IsBetween (done ++ line ∷ []) rest entries)
fed_lines true done pending line rest entries e h p =
    record {
      cut = p.cut;
      lines = λ more ended.
          p.lines more ended ∙
          (ap (λ z. done ++ lines_of ended z) (ap (λ z. z ++ more) e ∙ append_assoc line (10 ∷ rest) more) ∙
          (ap (λ z. done ++ z) (lines_of-feed ended line (rest ++ more) h) ∙
          sym (append_assoc done (line ∷ []) (lines_of ended (rest ++ more)))));
    }
fed_lines false done pending line rest entries e h p = absurd (no_feed_in_nothing line rest (sym p.nothing ∙ e))

between : (done : List (List ℕ)) (r : Reading) (entries : List Entry) → r.amid ≡ false → Took done r entries → IsBetween done r.pending entries
between done r entries amid t =
    let P : Bool → Type 0 = λ m. MatchBool m (IsAmid done r.pending entries) (IsBetween done r.pending entries) in subst P amid t.lines

amidst : (done : List (List ℕ)) (r : Reading) (entries : List Entry) → r.amid ≡ true → Took done r entries → IsAmid done r.pending entries
amidst done r entries amid t =
    let P : Bool → Type 0 = λ m. MatchBool m (IsAmid done r.pending entries) (IsBetween done r.pending entries) in subst P amid t.lines

Took-begun : (done : List (List ℕ)) (r : Reading) (entries : List Entry) → r.amid ≡ false → r.begun < length r.names → Took done r entries →
    Took done (after_begin true r) (entries ++ begun_entry (next_name r) ∷ [])
Took-begun done r entries amid lt t =
    let b = between done r entries amid t in
    record {
      names = names_of-append entries (begun_entry (next_name r) ∷ []) ∙ (ap (λ z. z ++ next_name r ∷ []) t.names ∙ sym (take_more r.names r.begun [] lt));
      bytes = omega (arith, t.bytes, byte_count-append entries (begun_entry (next_name r) ∷ []));
      lines = record {
        cut = record { earlier = entries; last = begun_entry (next_name r); split = refl; ended = b.ended; not_ended = refl };
        lines = λ more ended. ap (λ z. z ++ lines_of ended more) b.lines ∙ ap (λ z. done ++ lines_of ended (z ++ more)) (sym b.nothing);
      };
    }

read_bytes : (xs : List Entry) (x y : Entry) (k : ℕ) → length y.bytes ≡ length x.bytes + k → byte_count (xs ++ y ∷ []) ≡ byte_count (xs ++ x ∷ []) + k
read_bytes xs x y k e = omega (arith, e, byte_count-append xs (x ∷ []), byte_count-append xs (y ∷ []))

read_name : (bytes : List ℕ) (x : Entry) → (read_entry bytes x).name ≡ x.name
read_name [] x = refl
read_name (b ∷ bytes) x = refl

read_names : (bytes : List ℕ) (xs : List Entry) (x : Entry) → names_of (xs ++ read_entry bytes x ∷ []) ≡ names_of (xs ++ x ∷ [])
read_names bytes xs x =
    names_of-append xs (read_entry bytes x ∷ []) ∙ (ap (λ z. names_of xs ++ z ∷ []) (read_name bytes x) ∙ sym (names_of-append xs (x ∷ [])))

read_split : (bytes : List ℕ) (front entries earlier : List Entry) (last : Entry) → entries ≡ earlier ++ last ∷ [] →
    read_last bytes (front ++ entries) ≡ front ++ (earlier ++ read_entry bytes last ∷ [])
read_split bytes front entries earlier last e =
    ap (λ z. read_last bytes (front ++ z)) e ∙ (ap (read_last bytes) (sym (append_assoc front earlier (last ∷ []))) ∙
    (read_last-append bytes (front ++ earlier) last ∙ append_assoc front earlier (read_entry bytes last ∷ [])))

Took-read : (done : List (List ℕ)) (r : Reading) (front entries : List Entry) (b : ℕ) (bytes : List ℕ) → r.amid ≡ true → Took done r entries →
    (q : List Entry) × (read_last (b ∷ bytes) (front ++ entries) ≡ front ++ q) ×
    Took done (record r { pending = r.pending ++ b ∷ bytes; total = r.total + length (b ∷ bytes) }) q
Took-read done r front entries b bytes amid t =
    let p = amidst done r entries amid t in
    let q : List Entry = p.cut.earlier ++ read_entry (b ∷ bytes) p.cut.last ∷ [] in
    let L : Bool → Type 0 = λ m. MatchBool m (IsAmid done (r.pending ++ b ∷ bytes) q) (IsBetween done (r.pending ++ b ∷ bytes) q) in (
      q,
      read_split (b ∷ bytes) front entries p.cut.earlier p.cut.last p.cut.split,
      record {
        names = read_names (b ∷ bytes) p.cut.earlier p.cut.last ∙ (ap names_of (sym p.cut.split) ∙ t.names);
        bytes = read_bytes p.cut.earlier p.cut.last (read_entry (b ∷ bytes) p.cut.last) (length (b ∷ bytes)) (length-append p.cut.last.bytes (b ∷ bytes))
            ∙ ap (λ z. z + length (b ∷ bytes)) (ap byte_count (sym p.cut.split) ∙ t.bytes);
        lines = subst L (sym amid) (record {
          cut = record { earlier = p.cut.earlier; last = read_entry (b ∷ bytes) p.cut.last; split = refl; ended = p.cut.ended; not_ended = p.cut.not_ended };
          lines = λ more ended.
              ap (λ z. whole_lines p.cut.earlier ++ lines_of ended z) (append_assoc p.cut.last.bytes (b ∷ bytes) more) ∙
              (p.lines ((b ∷ bytes) ++ more) ended ∙ ap (λ z. done ++ lines_of ended z) (sym (append_assoc r.pending (b ∷ bytes) more)));
        });
      },
    )

Took-ended : (done : List (List ℕ)) (r : Reading) (front entries : List Entry) → r.amid ≡ true → HasNoFeed r.pending → Took done r entries →
    (q : List Entry) × (read_last [] (front ++ entries) ≡ front ++ q) ×
    Took (done ++ last_line r.pending) (record r { amid = false; pending = [] }) q
Took-ended done r front entries amid h t =
    let p = amidst done r entries amid t in
    let last' = read_entry [] p.cut.last in
    let q : List Entry = p.cut.earlier ++ last' ∷ [] in (
      q,
      read_split [] front entries p.cut.earlier p.cut.last p.cut.split,
      record {
        names = read_names [] p.cut.earlier p.cut.last ∙ (ap names_of (sym p.cut.split) ∙ t.names);
        bytes = read_bytes p.cut.earlier p.cut.last last' 0 (omega arith) ∙ (omega (arith, ap byte_count (sym p.cut.split) ∙ t.bytes));
        lines = record {
          ended = All-append IsEnded p.cut.earlier (last' ∷ []) p.cut.ended (All-one IsEnded last' refl);
          lines =
              whole_lines-append p.cut.earlier (last' ∷ []) ∙
              (ap (λ z. whole_lines p.cut.earlier ++ z) (append-nil (lines_of true p.cut.last.bytes)) ∙
              (ap (λ z. whole_lines p.cut.earlier ++ lines_of true z) (sym (append-nil p.cut.last.bytes)) ∙
              (p.lines [] true ∙ (ap (λ z. done ++ lines_of true z) (append-nil r.pending) ∙ ap (λ z. done ++ z) (lines_of-end r.pending h)))));
          nothing = refl;
        };
      },
    )

-- all whole lines were handed out where nothing but the front of a line is left
cut_lines : (done : List (List ℕ)) (pending : List ℕ) (entries : List Entry) → HasNoFeed pending → IsAmid done pending entries → whole_lines entries ≡ done
cut_lines done pending entries h p =
    ap whole_lines p.cut.split ∙ (whole_lines-append p.cut.earlier (p.cut.last ∷ []) ∙
    (ap (λ z. whole_lines p.cut.earlier ++ z) (append-nil (lines_of p.cut.last.ended p.cut.last.bytes)) ∙
    (ap (λ z. whole_lines p.cut.earlier ++ lines_of z p.cut.last.bytes) p.cut.not_ended ∙
    (ap (λ z. whole_lines p.cut.earlier ++ lines_of false z) (sym (append-nil p.cut.last.bytes)) ∙
    (p.lines [] false ∙ (ap (λ z. done ++ lines_of false z) (append-nil pending) ∙ (ap (λ z. done ++ z) (lines_of-open pending h) ∙ append-nil done)))))))

-- without the last byte the files are as they were
first_bytes-less : (n : ℕ) (xs : List Entry) (x : Entry) (b : ℕ) → x.ended ≡ false → byte_count (xs ++ x ∷ []) ≡ n →
    first_bytes n (xs ++ read_entry (b ∷ []) x ∷ []) ≡ xs ++ x ∷ []
first_bytes-less n [] x b ended e =
    let longer : length (x.bytes ++ b ∷ []) ≡ length x.bytes + 1 = length-append x.bytes (b ∷ []) in
    let test : ltb n (length (x.bytes ++ b ∷ [])) ≡ true = grind (arith, nat_tests) in
    let same : n ≡ length x.bytes = omega (arith, e) in
    ap (λ t. cond t (record { name = x.name; bytes = take n (x.bytes ++ b ∷ []); ended = false } ∷ []) (read_entry (b ∷ []) x ∷ [])) test ∙
    (ap (λ k. let y : Entry = record { name = x.name; bytes = take k (x.bytes ++ b ∷ []); ended = false } in y ∷ []) same ∙
    (ap (λ z. let y : Entry = record { name = x.name; bytes = z; ended = false } in y ∷ []) (take-append_seam x.bytes (b ∷ [])) ∙
    ap (λ z. let y : Entry = record { name = x.name; bytes = x.bytes; ended = z } in y ∷ []) (sym ended)))
first_bytes-less n (y ∷ xs) x b ended e =
    let test : ltb n (length y.bytes) ≡ false = grind (arith, nat_tests, e) in
    let same : byte_count (xs ++ x ∷ []) ≡ n - length y.bytes = omega (arith, e) in
    ap (λ t. cond t (record { name = y.name; bytes = take n y.bytes; ended = false } ∷ []) (y ∷ first_bytes (n - length y.bytes) (xs ++ read_entry (b ∷ []) x ∷ []))) test ∙
    ap (λ z. y ∷ z) (first_bytes-less (n - length y.bytes) xs x b ended same)

-- The steps of a reader

pub Stands-fed : (base : FilesState) (done : List (List ℕ)) (r : Reading) (now : FilesState) (line rest : List ℕ) → r.pending ≡ line ++ 10 ∷ rest → HasNoFeed line →
    Stands base done r now → Stands base (done ++ line ∷ []) (with_pending r rest) now
Stands-fed base done r now line rest e h st =
    record {
      tried = st.tried;
      taken = AddsSome-weaker base.taken (Took done r) (Took (done ++ line ∷ []) (with_pending r rest)) now.taken st.taken
          (λ more t. record { names = t.names; bytes = t.bytes; lines = fed_lines r.amid done r.pending line rest more e h t.lines });
      within = st.within;
    }

pub Stands-begun : (base : FilesState) (done : List (List ℕ)) (r : Reading) (now : FilesState) (new : FilesState) →
    r.amid ≡ false → r.begun < length r.names → Adds now.tried (next_name r ∷ []) new.tried → Adds now.taken (begun_entry (next_name r) ∷ []) new.taken →
    Stands base done r now → Stands base done (after_begin true r) new
Stands-begun base done r now new amid lt adds adds' st =
    let P : List (List ℕ) → Type 0 = λ z. Adds base.tried z new.tried in
    record {
      tried = subst P (sym (take_more r.names r.begun [] lt)) (Adds-more base.tried (take r.begun r.names) now.tried (next_name r ∷ []) new.tried st.tried adds);
      taken = AddsSome-adds base.taken (Took done r) (Took done (after_begin true r)) now.taken (begun_entry (next_name r) ∷ []) new.taken st.taken adds'
          (λ more t. Took-begun done r more amid lt t);
      within = st.within;
    }

pub Stands-read : (base : FilesState) (done : List (List ℕ)) (r : Reading) (now : FilesState) (new : FilesState) (b : ℕ) (bytes : List ℕ) →
    r.amid ≡ true → new.tried ≡ now.tried → new.taken ≡ option_map (read_last (b ∷ bytes)) now.taken → r.total + length (b ∷ bytes) ≤ r.input_limit →
    Stands base done r now → Stands base done (record r { pending = r.pending ++ b ∷ bytes; total = r.total + length (b ∷ bytes) }) new
Stands-read base done r now new b bytes amid same read within st =
    record {
      tried = let P : Option (List (List ℕ)) → Type 0 = λ z. Adds base.tried (take r.begun r.names) z in subst P (sym same) st.tried;
      taken = AddsSome-map base.taken (Took done r) (Took done (record r { pending = r.pending ++ b ∷ bytes; total = r.total + length (b ∷ bytes) })) now.taken new.taken (read_last (b ∷ bytes)) st.taken read
          (λ front more t. Took-read done r front more b bytes amid t);
      within = within;
    }

pub Stands-ended : (base : FilesState) (done : List (List ℕ)) (r : Reading) (now : FilesState) (new : FilesState) →
    r.amid ≡ true → HasNoFeed r.pending → new.tried ≡ now.tried → new.taken ≡ option_map (read_last []) now.taken →
    Stands base done r now → Stands base (done ++ last_line r.pending) (record r { amid = false; pending = [] }) new
Stands-ended base done r now new amid h same read st =
    record {
      tried = let P : Option (List (List ℕ)) → Type 0 = λ z. Adds base.tried (take r.begun r.names) z in subst P (sym same) st.tried;
      taken = AddsSome-map base.taken (Took done r) (Took (done ++ last_line r.pending) (record r { amid = false; pending = [] })) now.taken new.taken (read_last []) st.taken read
          (λ front more t. Took-ended done r front more amid h t);
      within = st.within;
    }

pub finished : (base : FilesState) (done : List (List ℕ)) (r : Reading) (now : FilesState) → r.amid ≡ false → length r.names ≤ r.begun →
    Stands base done r now → AddsSome base.taken (IsFinished done r) now.taken
finished base done r now amid all st =
    AddsSome-weaker base.taken (Took done r) (IsFinished done r) now.taken st.taken
    (λ more t. let b = between done r more amid t in
    record { names = t.names ∙ take_all r.begun r.names all; ended = b.ended; lines = b.lines; within = omega (arith, t.bytes, st.within) })

pub unopened : (base : FilesState) (done : List (List ℕ)) (r : Reading) (now : FilesState) (new : FilesState) (left : List ℕ) → r.amid ≡ false →
    Adds now.taken [] new.taken → Stands base done r now → AddsSome base.taken (IsUnopened done (with_pending (after_begin false r) left)) new.taken
unopened base done r now new left amid same st =
    AddsSome-adds base.taken (Took done r) (IsUnopened done (with_pending (after_begin false r) left)) now.taken [] new.taken st.taken same
    (λ more t. let b = between done r more amid t in
    let Q : List Entry → Type 0 = IsUnopened done (with_pending (after_begin false r) left) in
    let e : r.begun ≡ r.begun + 1 - 1 = omega arith in
    subst Q (sym (append-nil more))
    (record { names = t.names ∙ ap (λ k. take k r.names) e; ended = b.ended; lines = b.lines; within = omega (arith, t.bytes, st.within) }))

-- between two files nothing is pending
pub Stands-between : (base : FilesState) (done : List (List ℕ)) (r : Reading) (now : FilesState) (line : List ℕ) → r.amid ≡ false → r.pending ≡ [] →
    Stands base done (with_pending r line) now → Stands base done r now
Stands-between base done r now line amid empty st =
    record {
      tried = st.tried;
      taken = AddsSome-weaker base.taken (Took done (with_pending r line)) (Took done r) now.taken st.taken
          (λ more t. let b = between done (with_pending r line) more amid t in
          let P : Bool → Type 0 = λ m. MatchBool m (IsAmid done r.pending more) (IsBetween done r.pending more) in
          record { names = t.names; bytes = t.bytes; lines = subst P (sym amid) (record { ended = b.ended; lines = b.lines; nothing = empty }) });
      within = st.within;
    }

pub unreadable : (base : FilesState) (done : List (List ℕ)) (r : Reading) (now : FilesState) (new : FilesState) (left : List ℕ) → r.amid ≡ true → HasNoFeed r.pending →
    new.taken ≡ now.taken → Stands base done r now → AddsSome base.taken (IsUnreadable done (with_pending r left)) new.taken
unreadable base done r now new left amid h same st =
    let P : Option (List Entry) → Type 0 = λ z. AddsSome base.taken (IsUnreadable done (with_pending r left)) z in
    subst P (sym same) (AddsSome-weaker base.taken (Took done r) (IsUnreadable done (with_pending r left)) now.taken st.taken
    (λ more t. let p = amidst done r more amid t in
    record { names = t.names; cut = p.cut; lines = cut_lines done r.pending more h p; within = omega (arith, t.bytes, st.within) }))

pub overfull : (base : FilesState) (done : List (List ℕ)) (r : Reading) (now : FilesState) (new : FilesState) (left : List ℕ) (b : ℕ) → r.amid ≡ true → HasNoFeed r.pending →
    r.total ≡ r.input_limit → new.taken ≡ option_map (read_last (b ∷ [])) now.taken → Stands base done r now →
    AddsSome base.taken (IsOverfull done (with_pending r left)) new.taken
overfull base done r now new left b amid h full read st =
    AddsSome-map base.taken (Took done r) (IsOverfull done (with_pending r left)) now.taken new.taken (read_last (b ∷ [])) st.taken read
    (λ front more t.
    let p = amidst done r more amid t in
    let last' = read_entry (b ∷ []) p.cut.last in (
      p.cut.earlier ++ last' ∷ [],
      read_split (b ∷ []) front more p.cut.earlier p.cut.last p.cut.split,
      record {
        names = read_names (b ∷ []) p.cut.earlier p.cut.last ∙ (ap names_of (sym p.cut.split) ∙ t.names);
        cut = record { earlier = p.cut.earlier; last = last'; split = refl; ended = p.cut.ended; not_ended = p.cut.not_ended };
        lines =
            ap whole_lines (first_bytes-less r.input_limit p.cut.earlier p.cut.last b p.cut.not_ended (ap byte_count (sym p.cut.split) ∙ (t.bytes ∙ full))) ∙
            (ap whole_lines (sym p.cut.split) ∙ cut_lines done r.pending more h p);
        over = read_bytes p.cut.earlier p.cut.last last' 1 (length-append p.cut.last.bytes (b ∷ [])) ∙ ap (λ z. z + 1) (ap byte_count (sym p.cut.split) ∙ (t.bytes ∙ full));
      },
    ))
