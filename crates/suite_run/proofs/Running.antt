-- A run over lines, between two of them.
use Rattle.std.proofs.Common.{◌≡◌, ℕ, ◌+◌, ◌<◌, ◌≤◌, if◌then◌else◌, IsTrue, Option, Some, None, IsSome, IfSome, Result, Ok, Err, IsOk, IsErr, OnOk, OnErr, List, [], ◌∷◌, ◌++◌, length, take, All, refl, sym, ap, ◌∙◌, append_assoc, append-nil, subst, arith, length-append}
use Rattle.std.proofs.lemmas.List.{take_all, get_or-append-add}
use Rattle.cl_io.specs.declared.lines.Line.{Line}
use Rattle.cl_io.specs.declared.lines.Line.TheVariants.{Whole, TooLong, End}
use Rattle.cl_io.specs.Files.{FilesState, IsOfContent, Adds, AddsSome, StaysTold, Succeeds}
use Rattle.cl_io.specs.FilesLaws.{Adds-none, Adds-more}
use Rattle.cl_io.specs.Lines.{whole_lines}
use Rattle.cl_io.specs.Reader.{Reading, reading_of, Hands, Took, Stands, Kept, used}
use Rattle.cl_io.specs.ReaderLaws.{Kept-none}
use Rattle.cl_io.specs.Sink.{SinkState, Endures, Lowers, Takes}
use Rattle.cl_io.specs.SinkLaws.{Lowers-none, Lowers-more}
use Rattle.suite_run.specs.declared.blocks.LineBlock.{LineBlock}
use Rattle.command_words.specs.declared.command.Command.{Command}
use Rattle.suite_run.specs.Blocks.{world_after, world_of_command, shows, shown, blocks, count_if, refused_count, ending, due_in_all}
use Rattle.suite_run.specs.Run.{IsTelling, text_due, whole_files}
use Rattle.suite_run.specs.Shown.{IsReady, IsWorld, Shows, part_of}
use Rattle.run_machine.specs.Machine.{WorldData, last_revision}
use Rattle.suite_run.specs.declared.world.World.{World}
use Rattle.suite_run.specs.World.{line_limit, input_limit, item_of, step, is_refusal, outcome, happens}
use Rattle.suite_run.proofs.Revisions.{revision-step}
use Rattle.suite_run.proofs.Wholes.{told_at, Begins-all, world_after-append, blocks-append, refused_count-append, refused_count-le}

-- a reader of files of these names before its first line
abbrev pub start : List (List ℕ) → Reading
start names = reading_of names line_limit input_limit

-- with room for the whole text no write fails
abbrev pub Faultless : Command → List (List ℕ) → FilesState → SinkState → ℕ → Type 0
Faultless command names f0 o0 faults = IsTrue o0.steady → IsTelling names f0 → IfSome o0.free (λ room. length (text_due command names f0) ≤ room → faults ≡ o0.faults)

abbrev pub IsTruthful : FilesState → Type 0
IsTruthful f = IfSome f.taken (All (IsOfContent f.content))

-- the world of the machine after some lines
abbrev pub here : Command → List (List ℕ) → WorldData
here command done = world_after (world_of_command command) done

-- the blocks of some lines were written, and the reader handed out no others
pub record Running (command : Command) (names : List (List ℕ)) (f0 : FilesState) (o0 : SinkState) (r : Reading) (f : FilesState) (o : SinkState) (w : World) (refused : ℕ) (number : ℕ) : Type 0 where
  pub done : List (List ℕ)
  pub count : length done + 1 ≡ number
  pub kept : Kept (start names) f0 r f
  pub stands : Stands f0 done r f
  pub ready : IsReady w
  pub world_is : IsWorld w (here command done)
  pub refused_is : refused ≡ refused_count (world_of_command command) done
  pub revisions : last_revision (here command done) + 1 ≤ number
  pub used_up : number ≤ used r + 1
  pub written : Adds o0.written (blocks command 1 (world_of_command command) done) o.written
  pub free : Lowers o0.free (length (blocks command 1 (world_of_command command) done)) o.free
  pub endures : Endures o0 o
  pub faultless : Faultless command names f0 o0 o.faults

-- ---- before the first line

pub Running-none : (command : Command) (names : List (List ℕ)) (f0 : FilesState) (o0 : SinkState) (r : Reading) (w : World) → r ≡ start names → ((base : FilesState) → Stands base [] r base) → IsReady w → IsWorld w (world_of_command command) →
    Running command names f0 o0 r f0 o0 w 0 1
Running-none command names f0 o0 r w fresh stands ready is =
    record {
      done = [];
      count = refl;
      kept = let P : Reading → Type 0 = λ z. Kept (start names) f0 z f0 in subst P (sym fresh) (Kept-none (start names) f0);
      stands = stands f0;
      ready = ready;
      world_is = is;
      refused_is = refl;
      revisions = omega arith;
      written = Adds-none o0.written;
      free = Lowers-none o0.free;
      used_up = let P : Reading → Type 0 = λ z. 1 ≤ used z + 1 in subst P (sym fresh) (omega arith);
      endures = record { later = omega arith; steady = λ h. h };
      faultless = λ _ _. same o0.free;
    }
  where
    same : (o : Option ℕ) → IfSome o (λ room. length (text_due command names f0) ≤ room → o0.faults ≡ o0.faults)
    same None = tt
    same (Some room) = λ _. refl

-- ---- what was taken

All-back : {A : Type 0} (P : A → Type 0) (xs ys : List A) → All P (xs ++ ys) → All P ys
All-back P xs ys h = λ k d lt. subst P (get_or-append-add xs ys k d) (h (length xs + k) d (omega (arith, lt, length-append xs ys)))

-- what was added, with what is true of all
pub record Added {A : Type 0} (P : List A → Type 0) (Q : A → Type 0) : Type 0 where
  pub more : List A
  pub has : P more
  pub all : All Q more

pub added : {A : Type 0} (a : Option (List A)) (P : List A → Type 0) (Q : A → Type 0) (b : Option (List A)) → AddsSome a P b → IfSome b (All Q) → IsSome b → Added P Q
added a P Q None s q t = cc
added None P Q (Some b) s q t = absurd s
added {A} (Some a) P Q (Some b) s q t = let R : List A → Type 0 = All Q in record { more = s.0; has = s.2; all = All-back Q a s.0 (subst R s.1 q) }

pub AddsSome-all : {A : Type 0} (a : Option (List A)) (P : List A → Type 0) (Q : A → Type 0) (b : Option (List A)) → AddsSome a P b → IfSome b (All Q) → AddsSome a (λ more. P more × All Q more) b
AddsSome-all a P Q None s q = tt
AddsSome-all None P Q (Some b) s q = absurd s
AddsSome-all {A} (Some a) P Q (Some b) s q = let R : List A → Type 0 = All Q in (s.0, s.1, (s.2, All-back Q a s.0 (subst R s.1 q)))

-- what is told of files that tell of all names
pub telling : (names : List (List ℕ)) (f0 : FilesState) (r : Reading) (f : FilesState) → Kept (start names) f0 r f → IsTelling names f0 →
    StaysTold f0.tried f.tried × IsSome f.taken
telling names f0 r f kept tells =
    let t = kept.telling tells.known (omega (arith, tells.places)) in
    (t.tried, t.taken tells.taken)

-- ---- the blocks written begin the text that is due

pub record Fronts (command : Command) (names : List (List ℕ)) (f0 : FilesState) (done : List (List ℕ)) : Type 0 where
  pub rest : List ℕ
  pub split : text_due command names f0 ≡ blocks command 1 (world_of_command command) done ++ rest

pub due_front : (command : Command) (names : List (List ℕ)) (f0 : FilesState) (r : Reading) (f : FilesState) (done : List (List ℕ)) → Kept (start names) f0 r f → Stands f0 done r f → IsTruthful f →
    IsSome f.taken → Fronts command names f0 done
unfolding due_in_all
due_front command names f0 r f done kept stands truthful taken =
    let a = added f0.taken (Took done r) (IsOfContent f.content) f.taken stands.taken truthful taken in
    let b = Begins-all f.content done r a.more a.has a.all in
    let lines : whole_lines (whole_files f0.content names) ≡ done ++ b.rest =
    ap (λ z. whole_lines (whole_files z names)) (sym kept.lasts.content) ∙ (ap (λ z. whole_lines (whole_files f.content z)) (sym kept.task.names) ∙ b.split) in
    let all = whole_lines (whole_files f0.content names) in
    let end = ending command (length all) (refused_count (world_of_command command) all) in
    let more = blocks command (1 + length done) (world_after (world_of_command command) done) b.rest in
    record {
      rest = more ++ end;
      split = ap (λ z. blocks command 1 (world_of_command command) z ++ end) lines
          ∙ (ap (λ z. z ++ end) (blocks-append command 1 (world_of_command command) done b.rest) ∙ append_assoc (blocks command 1 (world_of_command command) done) more end);
    }

-- ---- one line more

-- a line was handed out, of these bytes
pub record Handed (f0 : FilesState) (done : List (List ℕ)) (line : Line) (r : Reading) (f : FilesState) : Type 0 where
  pub bytes : List ℕ
  pub hands : Hands line (bytes ∷ [])
  pub stands : Stands f0 (done ++ bytes ∷ []) r f

pub handed : (f0 : FilesState) (done : List (List ℕ)) (line : Line) (r : Reading) (f : FilesState) → (line ≡ End → ⊥) →
    (more : List (List ℕ)) → Hands line more → Stands f0 (done ++ more) r f → Handed f0 done line r f
handed f0 done (Whole text) r f some more hands stands =
    let P : List (List ℕ) → Type 0 = λ z. Stands f0 (done ++ z) r f in
    record { bytes = text; hands = refl; stands = subst P hands stands }
handed f0 done (TooLong count) r f some more hands stands =
    let P : List (List ℕ) → Type 0 = λ z. Stands f0 (done ++ z) r f in
    record { bytes = hands.0; hands = (hands.0, hands.1, refl); stands = subst P hands.2 stands }
handed f0 done End r f some more hands stands = absurd (some refl)

-- the block of the line is the next one
next_blocks : (command : Command) (done : List (List ℕ)) (bytes : List ℕ) (number : ℕ) (text : List ℕ) → length done + 1 ≡ number → text ≡ shown command (told_at number (outcome (here command done) bytes)) →
    blocks command 1 (world_of_command command) (done ++ bytes ∷ []) ≡ blocks command 1 (world_of_command command) done ++ text
next_blocks command done bytes number text count e =
    let n : 1 + length done ≡ number = omega (arith, count) in
    let own : ℕ → List ℕ = λ k. shown command (told_at k (outcome (here command done) bytes)) in
    let last : own (1 + length done) ++ [] ≡ text = append-nil (own (1 + length done)) ∙ (ap own n ∙ sym e) in
    blocks-append command 1 (world_of_command command) done (bytes ∷ []) ∙ ap (λ z. blocks command 1 (world_of_command command) done ++ z) last

-- what is written of the block is what the command shows of the line
part_is : (command : Command) (number : ℕ) (w : WorldData) (bytes : List ℕ) (w' : World) (block : LineBlock) → Shows number (step w (item_of bytes)) w' block →
    part_of command block ≡ shown command (told_at number (outcome w bytes))
part_is command number w bytes w' block follows =
    ap (λ b. if shows command b then block.text else []) follows.refusal ∙ ap (λ z. if shows command (is_refusal (outcome w bytes)) then z else []) follows.text

-- with room for all, there was room for the text
pub room_left : (o0 o : Option ℕ) (was text all : ℕ) (faults0 faults faults' : ℕ) → was + text ≤ all → Lowers o0 was o →
    IfSome o0 (λ room. all ≤ room → faults ≡ faults0) → IfSome o (λ room. text ≤ room → faults' ≡ faults) → IfSome o0 (λ room. all ≤ room → faults' ≡ faults0)
room_left None o was text all faults0 faults faults' fits l a b = tt
room_left (Some room) None was text all faults0 faults faults' fits l a b = absurd l
room_left (Some room) (Some left) was text all faults0 faults faults' fits l a b = λ h. b (omega (arith, l, h, fits)) ∙ a h

pub faultless_of : {T E : Type 0} (result : Result T E) (free : Option ℕ) (size faults faults' : ℕ) → IfSome free (λ room. size ≤ room → Succeeds result faults faults') → IfSome free (λ room. size ≤ room → faults' ≡ faults)
faultless_of result None size faults faults' h = tt
faultless_of result (Some room) size faults faults' h = λ fits. (h fits).faultless

-- the text that is due goes on with the block
pub record NextFront (command : Command) (names : List (List ℕ)) (f0 : FilesState) (done : List (List ℕ)) (text : List ℕ) : Type 0 where
  pub rest : List ℕ
  pub split : text_due command names f0 ≡ blocks command 1 (world_of_command command) done ++ (text ++ rest)

pub next_front : (command : Command) (names : List (List ℕ)) (f0 : FilesState) (o0 : SinkState) (r : Reading) (f : FilesState) (o : SinkState) (w : World) (refused : ℕ) (number : ℕ) (run : Running command names f0 o0 r f o w refused number)
    (r' : Reading) (f' : FilesState) (line : Line) (h : Handed f0 run.done line r' f') (w' : World) (block : LineBlock) → Shows number (step (here command run.done) (item_of h.bytes)) w' block →
    Kept (start names) f0 r' f' → IsTruthful f' → IsSome f'.taken → NextFront command names f0 run.done (part_of command block)
next_front command names f0 o0 r f o w refused number run r' f' line h w' block follows kept truthful taken =
    let d = due_front command names f0 r' f' (run.done ++ h.bytes ∷ []) kept h.stands truthful taken in
    let e = next_blocks command run.done h.bytes number (part_of command block) run.count (part_is command number (here command run.done) h.bytes w' block follows) in
    record { rest = d.rest; split = d.split ∙ (ap (λ z. z ++ d.rest) e ∙ append_assoc (blocks command 1 (world_of_command command) run.done) (part_of command block) d.rest) }

pub next_faultless : (command : Command) (names : List (List ℕ)) (f0 : FilesState) (o0 : SinkState) (r : Reading) (f : FilesState) (o : SinkState) (w : World) (refused : ℕ) (number : ℕ) (run : Running command names f0 o0 r f o w refused number)
    (text : List ℕ) (o' : SinkState) → (IsTelling names f0 → NextFront command names f0 run.done text) →
    (IsTrue o.steady → IfSome o.free (λ room. length text ≤ room → o'.faults ≡ o.faults)) → Faultless command names f0 o0 o'.faults
next_faultless command names f0 o0 r f o w refused number run text o' front put = λ s t.
    let d = front t in
    let fits : length (blocks command 1 (world_of_command command) run.done) + length text ≤ length (text_due command names f0) =
    omega (arith, ap length d.split, length-append (blocks command 1 (world_of_command command) run.done) (text ++ d.rest), length-append text d.rest) in
    room_left o0.free o.free _ _ _ _ _ _ fits run.free (run.faultless s t) (put (run.endures.steady s))

pub Running-more : (command : Command) (names : List (List ℕ)) (f0 : FilesState) (o0 : SinkState) (r : Reading) (f : FilesState) (o : SinkState) (w : World) (refused : ℕ) (number : ℕ) (run : Running command names f0 o0 r f o w refused number)
    (r' : Reading) (f' : FilesState) (line : Line) (h : Handed f0 run.done line r' f') (w' : World) (block : LineBlock) → Shows number (step (here command run.done) (item_of h.bytes)) w' block →
    Kept (start names) f0 r' f' → IsTruthful f' →
    (o' : SinkState) (refused' : ℕ) → used r < used r' → Adds o.written (part_of command block) o'.written → Lowers o.free (length (part_of command block)) o'.free → Endures o o' →
    (IsTrue o.steady → IfSome o.free (λ room. length (part_of command block) ≤ room → o'.faults ≡ o.faults)) →
    refused' ≡ refused + count_if block.refusal →
    Running command names f0 o0 r' f' o' w' refused' (number + 1)
Running-more command names f0 o0 r f o w refused number run r' f' line h w' block follows kept truthful o' refused' uses written free endures succeeds refuses =
    let e = next_blocks command run.done h.bytes number (part_of command block) run.count (part_is command number (here command run.done) h.bytes w' block follows) in
    let W : List ℕ → Type 0 = λ z. Adds o0.written z o'.written in
    let L : ℕ → Type 0 = λ z. Lowers o0.free z o'.free in
    record {
      done = run.done ++ h.bytes ∷ [];
      count = omega (arith, run.count, length-append run.done (h.bytes ∷ []));
      kept = kept;
      stands = h.stands;
      ready = follows.ready;
      world_is = subst (IsWorld w') (sym (world_after-append (world_of_command command) run.done (h.bytes ∷ []))) follows.world_is;
      refused_is = refuses ∙ (ap (λ z. z + count_if block.refusal) run.refused_is ∙ (ap (λ z. refused_count (world_of_command command) run.done + count_if z) follows.refusal ∙ sym (refused_count-append (world_of_command command) run.done h.bytes)));
      revisions = let P : WorldData → Type 0 = λ z. last_revision z + 1 ≤ number + 1 in subst P (sym (world_after-append (world_of_command command) run.done (h.bytes ∷ []))) (omega (arith, run.revisions, revision-step (here command run.done) (item_of h.bytes)));
      written = subst W (sym e) (Adds-more o0.written _ o.written (part_of command block) o'.written run.written written);
      free = subst L (sym (ap length e ∙ length-append (blocks command 1 (world_of_command command) run.done) (part_of command block))) (Lowers-more o0.free _ o.free _ o'.free run.free free);
      used_up = omega (arith, run.used_up, uses);
      endures = record { later = omega (arith, run.endures.later, endures.later); steady = λ s. endures.steady (run.endures.steady s) };
      faultless = next_faultless command names f0 o0 r f o w refused number run (part_of command block) o' (λ t. next_front command names f0 o0 r f o w refused number run r' f' line h w' block follows kept truthful (telling names f0 r' f' kept t).1) succeeds;
    }

of_ok : {A E : Type 0} {P : Type 0} (r : Result A E) → IsOk r → OnOk r P → P
of_ok (Ok x) ok p = p
of_ok (Err e) ok p = cc

-- a whole text was taken
pub all_taken : {E : Type 0} (text : List ℕ) (result : Result (Unit {0}) E) (old new : SinkState) → Takes text result old new → IsOk result →
    Adds old.written text new.written × Lowers old.free (length text) new.free
all_taken {E} text result old new t ok =
    let n : t.count ≡ length text = of_ok result ok t.all in
    let W : List ℕ → Type 0 = λ z. Adds old.written z new.written in
    let L : ℕ → Type 0 = λ z. Lowers old.free z new.free in
    (subst W (ap (λ z. take z text) n ∙ take_all (length text) text (omega arith)) t.written, subst L n t.free)

pub of_err : {A E : Type 0} {P : Type 0} (r : Result A E) → IsErr r → OnErr r P → P
of_err (Ok x) err p = cc
of_err (Err e) err p = p

-- fewer lines are refused than the number of the next one
pub refused_few : (command : Command) (names : List (List ℕ)) (f0 : FilesState) (o0 : SinkState) (r : Reading) (f : FilesState) (o : SinkState) (w : World) (refused : ℕ) (number : ℕ) → Running command names f0 o0 r f o w refused number → refused < number
refused_few command names f0 o0 r f o w refused number run = omega (arith, run.refused_is, run.count, refused_count-le (world_of_command command) run.done)
