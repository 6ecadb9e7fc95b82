-- Lines that were handed out, among all lines of files, and their blocks.
use Rattle.std.proofs.Common.{◌≡◌, ℕ, ◌+◌, ◌≤◌, Bool, true, false, MatchBool, List, [], ◌∷◌, ◌++◌, length, take, drop, All, refl, sym, ap, ◌∙◌, append_assoc, append-nil, subst, arith, length-append}
use Rattle.std.proofs.Math.ListN.{get_or-append}
use Rattle.std.proofs.Math.Seq.{get_or-append_seam}
use Rattle.std.proofs.lemmas.List.{take-append-drop}
use Rattle.std.proofs.lemmas.List.Elements.{All-head, All-tail}
use Rattle.cl_io.specs.Files.{Entry, IsOfContent, IsEnded, names_of}
use Rattle.cl_io.specs.Lines.{lines_of, whole_lines}
use Rattle.cl_io.specs.Reader.{Reading, IsBetween, IsAmid, Took}
use Rattle.cl_io.specs.LinesLaws.{whole_lines-append, names_of-append}
use Rattle.command_words.specs.declared.command.Command.{Command}
use Rattle.suite_run.specs.Blocks.{Told, world_after, shown, blocks, count_if, refused_count}
use Rattle.suite_run.specs.Run.{whole_files}
use Rattle.run_machine.specs.Machine.{WorldData}
use Rattle.suite_run.specs.World.{OutcomeData, is_refusal, outcome, happens}

-- ---- files

pub All-front : {A : Type 0} (P : A → Type 0) (xs ys : List A) → All P (xs ++ ys) → All P xs
All-front P xs ys h = λ k d lt. subst P (get_or-append xs ys d k lt) (h k d (omega (arith, lt, length-append xs ys)))

pub All-last : {A : Type 0} (P : A → Type 0) (xs : List A) (y : A) → All P (xs ++ y ∷ []) → P y
All-last P xs y h = subst P (get_or-append_seam xs y [] y) (h (length xs) y (omega (arith, length-append xs (y ∷ []))))

entry_is : (entry : Entry) (bytes : List ℕ) (ended : Bool) → entry.bytes ≡ bytes → entry.ended ≡ ended → entry ≡ record { name = entry.name; bytes = bytes; ended = ended }
entry_is entry bytes ended p q =
    let first : List ℕ → Entry = λ z. record { name = entry.name; bytes = z; ended = entry.ended } in
    let second : Bool → Entry = λ z. record { name = entry.name; bytes = bytes; ended = z } in
    ap first p ∙ ap second q

-- files read to their end have their whole bytes
pub whole_files-of : (content : List ℕ → List ℕ) (entries : List Entry) → All IsEnded entries → All (IsOfContent content) entries → entries ≡ whole_files content (names_of entries)
whole_files-of content [] ended true_ = refl
whole_files-of content (entry ∷ entries) ended holds =
    let e : entry.ended ≡ true = All-head IsEnded entry entries ended in
    let c = All-head (IsOfContent content) entry entries holds in
    let whole : entry.bytes ≡ content entry.name = c.whole e in
    let rest = whole_files-of content entries (All-tail IsEnded entry entries ended) (All-tail (IsOfContent content) entry entries holds) in
    ap (λ z. z ∷ entries) (entry_is entry (content entry.name) true whole e) ∙ ap (λ z. record { name = entry.name; bytes = content entry.name; ended = true } ∷ z) rest

pub whole_files-append : (content : List ℕ → List ℕ) (xs ys : List (List ℕ)) → whole_files content (xs ++ ys) ≡ whole_files content xs ++ whole_files content ys
whole_files-append content [] ys = refl
whole_files-append content (x ∷ xs) ys = ap (λ z. record { name = x; bytes = content x; ended = true } ∷ z) (whole_files-append content xs ys)

-- ---- the lines handed out begin all lines

pub record Begins (done all : List (List ℕ)) : Type 0 where
  pub rest : List (List ℕ)
  pub split : all ≡ done ++ rest

Begins-took : (content : List ℕ → List ℕ) (amid : Bool) (done : List (List ℕ)) (pending : List ℕ) (entries : List Entry) → All (IsOfContent content) entries →
    MatchBool amid (IsAmid done pending entries) (IsBetween done pending entries) → Begins done (whole_lines (whole_files content (names_of entries)))
Begins-took content false done pending entries holds b =
    record { rest = []; split = ap whole_lines (sym (whole_files-of content entries b.ended holds)) ∙ (b.lines ∙ sym (append-nil done)) }
Begins-took content true done pending entries holds a =
    let earlier = a.cut.earlier in
    let last = a.cut.last in
    let P : List Entry → Type 0 = All (IsOfContent content) in
    let all = subst P a.cut.split holds in
    let was = whole_files-of content earlier a.cut.ended (All-front (IsOfContent content) earlier (last ∷ []) all) in
    let begins = (All-last (IsOfContent content) earlier last all).begins in
    let names : names_of entries ≡ names_of earlier ++ last.name ∷ [] = ap names_of a.cut.split ∙ names_of-append earlier (last ∷ []) in
    let files : whole_files content (names_of entries) ≡ earlier ++ record { name = last.name; bytes = content last.name; ended = true } ∷ [] =
    ap (whole_files content) names ∙ (whole_files-append content (names_of earlier) (last.name ∷ []) ∙ ap (λ z. z ++ record { name = last.name; bytes = content last.name; ended = true } ∷ []) (sym was)) in
    let ends : lines_of true (content last.name) ++ [] ≡ lines_of true (last.bytes ++ begins.0) = append-nil (lines_of true (content last.name)) ∙ ap (lines_of true) begins.1 in
    record {
      rest = lines_of true (pending ++ begins.0);
      split = ap whole_lines files ∙ (whole_lines-append earlier (record { name = last.name; bytes = content last.name; ended = true } ∷ []) ∙ (ap (λ z. whole_lines earlier ++ z) ends ∙ a.lines begins.0 true));
    }

pub Begins-all : (content : List ℕ → List ℕ) (done : List (List ℕ)) (r : Reading) (entries : List Entry) → Took done r entries → All (IsOfContent content) entries → Begins done (whole_lines (whole_files content r.names))
Begins-all content done r entries t holds =
    let b = Begins-took content r.amid done r.pending entries holds t.lines in
    let left = whole_files content (drop r.begun r.names) in
    let files : whole_files content r.names ≡ whole_files content (names_of entries) ++ left =
    ap (whole_files content) (sym (take-append-drop r.begun r.names)) ∙ (whole_files-append content (take r.begun r.names) (drop r.begun r.names) ∙ ap (λ z. whole_files content z ++ left) (sym t.names)) in
    record {
      rest = b.rest ++ whole_lines left;
      split = ap whole_lines files ∙ (whole_lines-append (whole_files content (names_of entries)) left ∙ (ap (λ z. z ++ whole_lines left) b.split ∙ append_assoc done b.rest (whole_lines left)));
    }

-- ---- blocks of more lines

pub world_after-append : (w : WorldData) (xs ys : List (List ℕ)) → world_after w (xs ++ ys) ≡ world_after (world_after w xs) ys
world_after-append w [] ys = refl
world_after-append w (x ∷ xs) ys = world_after-append (happens w x) xs ys

-- what is told of a line
abbrev pub told_at : ℕ → OutcomeData → Told
told_at n o = record { number = n; outcome = o }

pub blocks-append : (command : Command) (n : ℕ) (w : WorldData) (xs ys : List (List ℕ)) → blocks command n w (xs ++ ys) ≡ blocks command n w xs ++ blocks command (n + length xs) (world_after w xs) ys
blocks-append command n w [] ys = ap (λ k. blocks command k w ys) (omega arith)
blocks-append command n w (x ∷ xs) ys =
    let e : n + 1 + length xs ≡ n + length (x ∷ xs) = omega arith in
    let first = shown command (told_at n (outcome w x)) in
    ap (λ z. first ++ z) (blocks-append command (n + 1) (happens w x) xs ys ∙ ap (λ k. blocks command (n + 1) (happens w x) xs ++ blocks command k (world_after (happens w x) xs) ys) e)
    ∙ sym (append_assoc first (blocks command (n + 1) (happens w x) xs) (blocks command (n + length (x ∷ xs)) (world_after (happens w x) xs) ys))

pub refused_count-append : (w : WorldData) (xs : List (List ℕ)) (y : List ℕ) → refused_count w (xs ++ y ∷ []) ≡ refused_count w xs + count_if (is_refusal (outcome (world_after w xs) y))
refused_count-append w [] y = omega arith
refused_count-append w (x ∷ xs) y = omega (arith, refused_count-append (happens w x) xs y)

pub count_if-le : (b : Bool) → count_if b ≤ 1
count_if-le true = omega arith
count_if-le false = omega arith

-- no more lines are refused than there are
pub refused_count-le : (w : WorldData) (xs : List (List ℕ)) → refused_count w xs ≤ length xs
refused_count-le w [] = omega arith
refused_count-le w (x ∷ xs) = omega (arith, count_if-le (is_refusal (outcome w x)), refused_count-le (happens w x) xs)
