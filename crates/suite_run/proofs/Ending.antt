-- How a run over lines ends.
use Rattle.std.proofs.Common.{◌≡◌, ℕ, suc, ◌+◌, ◌-◌, ◌<◌, ◌≤◌, Bool, true, false, Option, Some, None, IsSome, IfSome, List, [], ◌∷◌, ◌++◌, length, take, drop, All, nat_lt, ◌⊎◌, append-nil, inl, inr, refl, sym, ap, ◌∙◌, subst, arith, length-append}
use Rattle.std.proofs.Math.Seq.{take-append_seam, take-append-add}
use Rattle.std.proofs.lemmas.List.{take_all, take-append-drop, take-append-le, length-take-le}
use Rattle.cl_io.specs.declared.lines.LineFault.{LineFault}
use Rattle.cl_io.specs.declared.lines.LineFault.TheVariants as fault
use Rattle.cl_types.specs.Causes.{Rose}
use Rattle.cl_io.specs.Files.{Entry, FilesState, IsOfContent, Adds, AddsSome, names_of, byte_count}
use Rattle.cl_io.specs.FilesLaws.{Adds-none, Adds-more, AddsSome-weaker}
use Rattle.cl_io.specs.Lines.{whole_lines, first_bytes}
use Rattle.cl_io.specs.LinesLaws.{byte_count-append}
use Rattle.cl_io.specs.Reader.{Reading, Took, Stands, Leaves, Kept, IsFinished, IsUnopened as Unopened, IsUnreadable as Unreadable, IsOverfull as Overfull}
use Rattle.cl_io.specs.ReaderLaws.{Kept-none, Kept-then}
use Rattle.cl_io.specs.Sink.{SinkState, Endures}
use Rattle.std.proofs.lemmas.List.Elements.{All-head, All-tail}
use Rattle.suite_run.specs.declared.status.Status.{Status}
use Rattle.suite_run.specs.declared.status.Status.TheVariants.{BadWords, OpenFault, ReadFault, WriteFault, NoMemory, InputTooLong}
use Rattle.command_words.specs.declared.command.Command.{Command}
use Rattle.suite_run.specs.Blocks.{blocks, world_of_command, refused_count, ending, due_so_far, due_in_all, any_refused}
use Rattle.suite_run.specs.Run.{AddsFront, IsFinal, IsAnswered, IsUnopened, IsUnreadable, IsOverfull, IsNamed, Stays, Ran, whole_files, text_due, final_status, fault_status}
use Rattle.suite_run.specs.Ends.{Concludes, Replayed}
use Rattle.suite_run.specs.declared.world.World.{World}
use Rattle.suite_run.specs.World.{input_limit}
use Rattle.suite_run.proofs.Running.{start, Faultless, IsTruthful, Running, telling, added, AddsSome-all, due_front, NextFront, next_faultless}
use Rattle.suite_run.proofs.Wholes.{whole_files-of, whole_files-append}

-- ---- what every end leaves

pub record Leaving (command : Command) (names : List (List ℕ)) (f0 : FilesState) (o0 : SinkState) (f : FilesState) (o : SinkState) : Type 0 where
  pub reading : Reading
  pub kept : Kept (start names) f0 reading f
  pub endures : Endures o0 o
  pub faultless : Faultless command names f0 o0 o.faults
  pub front : IsSome f.taken → AddsFront o0.written (text_due command names f0) o.written

-- the blocks so far are the front of what is due
pub run_front : (command : Command) (names : List (List ℕ)) (f0 : FilesState) (o0 : SinkState) (r : Reading) (f : FilesState) (o : SinkState) (w : World) (refused : ℕ) (number : ℕ) → Running command names f0 o0 r f o w refused number →
    IsTruthful f → IsSome f.taken → AddsFront o0.written (text_due command names f0) o.written
run_front command names f0 o0 r f o w refused number run truthful taken =
    let d = due_front command names f0 r f run.done run.kept run.stands truthful taken in
    let text = blocks command 1 (world_of_command command) run.done in
    let P : List ℕ → Type 0 = λ z. Adds o0.written z o.written in
    (length text, subst P (sym (ap (take (length text)) d.split ∙ take-append_seam text d.rest)) run.written)

-- nothing more was written
pub leaving : (command : Command) (names : List (List ℕ)) (f0 : FilesState) (o0 : SinkState) (r : Reading) (f : FilesState) (o : SinkState) (w : World) (refused : ℕ) (number : ℕ) → Running command names f0 o0 r f o w refused number →
    IsTruthful f → (r' : Reading) (f' : FilesState) → Kept r f r' f' → Leaving command names f0 o0 f' o
leaving command names f0 o0 r f o w refused number run truthful r' f' step =
    record {
      reading = r';
      kept = Kept-then (start names) r r' f0 f f' run.kept step;
      endures = run.endures;
      faultless = run.faultless;
      front = λ taken. run_front command names f0 o0 r f o w refused number run truthful (step.told taken);
    }

-- a part of the next block was written
pub part_front : (command : Command) (names : List (List ℕ)) (f0 : FilesState) (o0 : SinkState) (r : Reading) (f : FilesState) (o : SinkState) (w : World) (refused : ℕ) (number : ℕ) (run : Running command names f0 o0 r f o w refused number)
    (text : List ℕ) (count : ℕ) (new : Option (List ℕ)) → count ≤ length text → Adds o.written (take count text) new → NextFront command names f0 run.done text → AddsFront o0.written (text_due command names f0) new
part_front command names f0 o0 r f o w refused number run text count new within written d =
    let done = blocks command 1 (world_of_command command) run.done in
    let e : take (length done + count) (text_due command names f0) ≡ done ++ take count text =
    ap (take (length done + count)) d.split ∙ (take-append-add done (text ++ d.rest) count ∙ ap (λ z. done ++ z) (take-append-le count text d.rest within)) in
    let P : List ℕ → Type 0 = λ z. Adds o0.written z new in
    (length done + count, subst P (sym e) (Adds-more o0.written done o.written (take count text) new run.written written))

-- the names that were tried in order
tried_names : (command : Command) (names : List (List ℕ)) (f0 : FilesState) (r : Reading) (f : FilesState) → Kept (start names) f0 r f → Adds f0.tried (take r.begun names) f.tried
tried_names command names f0 r f kept = kept.order f0.tried (Adds-none f0.tried)

-- what every end keeps
pub staying : (command : Command) (names : List (List ℕ)) (f0 : FilesState) (o0 : SinkState) (f : FilesState) (o : SinkState) → Leaving command names f0 o0 f o → Stays names f0 o0 f o
staying command names f0 o0 f o leaving = record {
  lasts = leaving.kept.lasts;
  endures = leaving.endures;
  tried = λ h. (telling names f0 leaving.reading f leaving.kept h).0;
  taken = λ h. (telling names f0 leaving.reading f leaving.kept h).1;
}

-- a run, with where its reader stands
pub replayed : (command : Command) (names : List (List ℕ)) (f0 : FilesState) (o0 : SinkState) (status : Status) (r : Reading) (f : FilesState) (o : SinkState) → Kept (start names) f0 r f → IsNamed status r.begun names → Ran command names f0 o0 status f o →
    Replayed command names f0 o0 status r f o
replayed command names f0 o0 status r f o kept named ran = record { ran = ran; names_are = kept.task.names; tried = tried_names command names f0 r f kept; named = named }

-- a fault of a file comes where one was tried
pub fault_named : (names : List (List ℕ)) (count : ℕ) (stop : LineFault) → count ≤ length names → (stop ≡ fault.Begin → 0 < count) → (stop ≡ fault.Read → 0 < count) → IsNamed (fault_status stop) count names
fault_named names count fault.Begin most begin read = (begin refl, most)
fault_named names count fault.Read most begin read = (read refl, most)
fault_named names count fault.InputTooLong most begin read = tt
fault_named names count fault.NoMemory most begin read = tt

-- what ends a run at its last line is no fault of a file
ending_named : (status : Status) (refused : Bool) (count : ℕ) (names : List (List ℕ)) → (status ≡ final_status refused) ⊎ ((status ≡ WriteFault) ⊎ (status ≡ NoMemory)) → IsNamed status count names
ending_named status refused count names stops = elim stops [
  | inl e ↦ subst (λ z. IsNamed z count names) (sym e) (final_named refused)
  | inr (inl e) ↦ subst (λ z. IsNamed z count names) (sym e) tt
  | inr (inr e) ↦ subst (λ z. IsNamed z count names) (sym e) tt
]
  where
    final_named : (b : Bool) → IsNamed (final_status b) count names
    final_named true = tt
    final_named false = tt

-- ---- a run that stops before the end

abbrev pub Complete : Command → List (List ℕ) → FilesState → SinkState → Status → FilesState → SinkState → Type 0
Complete command names f0 o0 status f o = (Rose f0.faults f.faults → ⊥) → (Rose o0.faults o.faults → ⊥) → IsSome f.taken → byte_count (whole_files f0.content names) ≤ input_limit → IsAnswered status

pub stopped : (command : Command) (names : List (List ℕ)) (f0 : FilesState) (o0 : SinkState) (status : Status) (f : FilesState) (o : SinkState) → (IsFinal status → ⊥) → (status ≡ BadWords → ⊥) → Leaving command names f0 o0 f o →
    (status ≡ OpenFault → AddsSome f0.taken (IsUnopened command names f0 o0 f o) f.taken) →
    (status ≡ ReadFault → AddsSome f0.taken (IsUnreadable command names f0 o0 f o) f.taken) →
    (status ≡ InputTooLong → AddsSome f0.taken (IsOverfull command names o0 o) f.taken) →
    ((status ≡ InputTooLong → ⊥) → (status ≡ NoMemory → ⊥) → AddsSome f0.taken (λ entries. byte_count entries ≤ input_limit) f.taken) →
    (status ≡ OpenFault → Rose f0.faults f.faults) → (status ≡ ReadFault → Rose f0.faults f.faults) → (status ≡ WriteFault → Rose o0.faults o.faults) →
    Complete command names f0 o0 status f o → Ran command names f0 o0 status f o
stopped command names f0 o0 status f o unfinished words leaving unopened unreadable overfull within open_cause read_cause write_cause complete =
    record {
      words = words;
      prints = λ h. absurd (unfinished h);
      stops = record {
        tried = (leaving.reading.begun, tried_names command names f0 leaving.reading f leaving.kept);
        written = leaving.front;
        within = within;
        unopened = unopened;
        unreadable = unreadable;
        overfull = overfull;
      };
      causes = record {
        begin = open_cause;
        read = read_cause;
        write = write_cause;
        complete = λ _. complete;
        faultless = leaving.kept.faultless;
        sink_faultless = leaving.faultless;
      };
      stays = staying command names f0 o0 f o leaving;
    }

pub no_memory : (command : Command) (names : List (List ℕ)) (f0 : FilesState) (o0 : SinkState) (f : FilesState) (o : SinkState) → Leaving command names f0 o0 f o → Ran command names f0 o0 NoMemory f o
no_memory command names f0 o0 f o leaving =
    stopped command names f0 o0 NoMemory f o (λ h. h) (λ e. cc) leaving (λ e. cc) (λ e. cc) (λ e. cc) (λ a b. absurd (b refl)) (λ e. cc) (λ e. cc) (λ e. cc) (λ _ _ _ _. tt)

-- before the first line
pub nothing_done : (command : Command) (names : List (List ℕ)) (f0 : FilesState) (o0 : SinkState) → Leaving command names f0 o0 f0 o0
nothing_done command names f0 o0 =
    record {
      reading = start names;
      kept = Kept-none (start names) f0;
      endures = record { later = omega arith; steady = λ h. h };
      faultless = λ _ _. same o0.free;
      front = λ _. (0, Adds-none o0.written);
    }
  where
    same : (o : Option ℕ) → IfSome o (λ room. length (text_due command names f0) ≤ room → o0.faults ≡ o0.faults)
    same None = tt
    same (Some room) = λ _. refl

pub write_fault : (command : Command) (names : List (List ℕ)) (f0 : FilesState) (o0 : SinkState) (f : FilesState) (o : SinkState) → Leaving command names f0 o0 f o →
    AddsSome f0.taken (λ entries. byte_count entries ≤ input_limit) f.taken → Rose o0.faults o.faults → Ran command names f0 o0 WriteFault f o
write_fault command names f0 o0 f o leaving within rose =
    stopped command names f0 o0 WriteFault f o (λ h. h) (λ e. cc) leaving (λ e. cc) (λ e. cc) (λ e. cc)
    (λ a b. within)
    (λ e. cc) (λ e. cc) (λ e. rose) (λ _ no _ _. absurd (no rose))

-- no more bytes were taken than are read
pub stands_within : (names : List (List ℕ)) (f0 : FilesState) (r : Reading) (done : List (List ℕ)) (f : FilesState) → Kept (start names) f0 r f → Stands f0 done r f → AddsSome f0.taken (λ entries. byte_count entries ≤ input_limit) f.taken
stands_within names f0 r done f kept stands =
    AddsSome-weaker f0.taken (Took done r) (λ entries. byte_count entries ≤ input_limit) f.taken stands.taken (λ entries t. omega (arith, t.bytes, stands.within, kept.task.input_limit))

-- ---- faults of the input

-- the blocks are those of these lines
written_lines : (command : Command) (names : List (List ℕ)) (f0 : FilesState) (o0 : SinkState) (r : Reading) (f : FilesState) (o : SinkState) (w : World) (refused : ℕ) (number : ℕ) (run : Running command names f0 o0 r f o w refused number)
    (entries : List Entry) → whole_lines entries ≡ run.done → Adds o0.written (due_so_far command entries) o.written
unfolding due_so_far
written_lines command names f0 o0 r f o w refused number run entries e =
    let P : List (List ℕ) → Type 0 = λ z. Adds o0.written (blocks command 1 (world_of_command command) z) o.written in subst P (sym e) run.written

length-names_of : (entries : List Entry) → length (names_of entries) ≡ length entries
length-names_of [] = refl
length-names_of (entry ∷ entries) = ap suc (length-names_of entries)

-- so many names are those of so many files
names_by_count : (entries : List Entry) (names names' : List (List ℕ)) (begun : ℕ) → names_of entries ≡ take begun names' → names' ≡ names → begun ≤ length names → (length entries ≡ begun) × (names_of entries ≡ take (length entries) names)
names_by_count entries names names' begun e same le =
    let f : names_of entries ≡ take begun names = e ∙ ap (take begun) same in
    let n : length entries ≡ begun = sym (length-names_of entries) ∙ (ap length f ∙ length-take-le begun names le) in
    (n, f ∙ ap (λ z. take z names) (sym n))

-- what was taken has no more bytes than the files
bytes_taken : (content : List ℕ → List ℕ) (entries : List Entry) → All (IsOfContent content) entries → byte_count entries ≤ byte_count (whole_files content (names_of entries))
bytes_taken content [] holds = omega arith
bytes_taken content (entry ∷ entries) holds =
    let b = (All-head (IsOfContent content) entry entries holds).begins in
    omega (arith, bytes_taken content entries (All-tail (IsOfContent content) entry entries holds), ap length b.1, length-append entry.bytes b.0)

bytes_within : (content content' : List ℕ → List ℕ) (names : List (List ℕ)) (r : Reading) (entries : List Entry) → names_of entries ≡ take r.begun r.names → r.names ≡ names → content' ≡ content → All (IsOfContent content') entries →
    byte_count entries ≤ byte_count (whole_files content names)
bytes_within content content' names r entries taken same kept holds =
    let split : whole_files content' names ≡ whole_files content' (names_of entries) ++ whole_files content' (drop r.begun names) =
    ap (whole_files content') (sym (take-append-drop r.begun names)) ∙ (whole_files-append content' (take r.begun names) (drop r.begun names) ∙ ap (λ z. whole_files content' z ++ whole_files content' (drop r.begun names)) (sym (taken ∙ ap (take r.begun) same))) in
    omega (arith, bytes_taken content' entries holds, ap byte_count split, byte_count-append (whole_files content' (names_of entries)) (whole_files content' (drop r.begun names)), ap (λ z. byte_count (whole_files z names)) kept)

pub rose_more : (a b c : ℕ) → a ≤ b → Rose b c → Rose a c
rose_more a b c h (inl lt) = inl (omega (arith, h, lt))
rose_more a b c h (inr e) = inr e

pub line_fault : (command : Command) (names : List (List ℕ)) (f0 : FilesState) (o0 : SinkState) (r : Reading) (f : FilesState) (o : SinkState) (w : World) (refused : ℕ) (number : ℕ) (run : Running command names f0 o0 r f o w refused number) →
    IsTruthful f → (r' : Reading) (f' : FilesState) → IsTruthful f' → Kept r f r' f' → (stop : LineFault) →
    (stop ≡ fault.Begin → Leaves Unopened r f r' f') → (stop ≡ fault.Read → Leaves Unreadable r f r' f') → (stop ≡ fault.InputTooLong → Leaves Overfull r f r' f') →
    (stop ≡ fault.Begin → (0 < r'.begun) × Rose f.faults f'.faults) → (stop ≡ fault.Read → (0 < r'.begun) × Rose f.faults f'.faults) →
    Ran command names f0 o0 (fault_status stop) f' o
line_fault command names f0 o0 r f o w refused number run truthful r' f' truthful' step fault.NoMemory unopened unreadable overfull begin_cause read_cause =
    let kept = Kept-then (start names) r r' f0 f f' run.kept step in
    no_memory command names f0 o0 f' o (leaving command names f0 o0 r f o w refused number run truthful r' f' step)
line_fault command names f0 o0 r f o w refused number run truthful r' f' truthful' step fault.Begin unopened unreadable overfull begin_cause read_cause =
    let kept = Kept-then (start names) r r' f0 f f' run.kept step in
    let left = unopened refl f0 run.done run.stands in
    let some = (begin_cause refl).0 in
    let most : r'.begun ≤ length names = let m = kept.most (omega arith) in omega (arith, m, ap length kept.task.names) in
    stopped command names f0 o0 OpenFault f' o (λ h. h) (λ e. cc) (leaving command names f0 o0 r f o w refused number run truthful r' f' step)
    (λ e. AddsSome-weaker f0.taken (Unopened run.done r') (IsUnopened command names f0 o0 f' o) f'.taken left
    (λ entries u.
    let n = names_by_count entries names r'.names (r'.begun - 1) u.names kept.task.names (omega (arith, most)) in
    let P : ℕ → Type 0 = λ z. Adds f0.tried (take z names) f'.tried in
    let more : r'.begun ≡ length entries + 1 = omega (arith, n.0, some) in
    record { ended = u.ended; named = n.1; fewer = omega (arith, more, most); tried = subst P more (tried_names command names f0 r' f' kept); written = written_lines command names f0 o0 r f o w refused number run entries u.lines }))
    (λ e. cc) (λ e. cc)
    (λ a b. AddsSome-weaker f0.taken (Unopened run.done r') (λ entries. byte_count entries ≤ input_limit) f'.taken left (λ entries u. omega (arith, u.within, kept.task.input_limit)))
    (λ e. rose_more f0.faults f.faults f'.faults run.kept.lasts.later (begin_cause refl).1) (λ e. cc) (λ e. cc) (λ no _ _ _. absurd (no (rose_more f0.faults f.faults f'.faults run.kept.lasts.later (begin_cause refl).1)))
line_fault command names f0 o0 r f o w refused number run truthful r' f' truthful' step fault.Read unopened unreadable overfull begin_cause read_cause =
    let kept = Kept-then (start names) r r' f0 f f' run.kept step in
    let left = unreadable refl f0 run.done run.stands in
    let most : r'.begun ≤ length names = let m = kept.most (omega arith) in omega (arith, m, ap length kept.task.names) in
    stopped command names f0 o0 ReadFault f' o (λ h. h) (λ e. cc) (leaving command names f0 o0 r f o w refused number run truthful r' f' step)
    (λ e. cc)
    (λ e. AddsSome-weaker f0.taken (Unreadable run.done r') (IsUnreadable command names f0 o0 f' o) f'.taken left
    (λ entries u.
    let n = names_by_count entries names r'.names r'.begun u.names kept.task.names most in
    let P : List (List ℕ) → Type 0 = λ z. Adds f0.tried z f'.tried in
    record { cut = u.cut; named = n.1; tried = subst P (sym (u.names ∙ ap (take r'.begun) kept.task.names)) (tried_names command names f0 r' f' kept); written = written_lines command names f0 o0 r f o w refused number run entries u.lines }))
    (λ e. cc)
    (λ a b. AddsSome-weaker f0.taken (Unreadable run.done r') (λ entries. byte_count entries ≤ input_limit) f'.taken left (λ entries u. omega (arith, u.within, kept.task.input_limit)))
    (λ e. cc) (λ e. rose_more f0.faults f.faults f'.faults run.kept.lasts.later (read_cause refl).1) (λ e. cc) (λ no _ _ _. absurd (no (rose_more f0.faults f.faults f'.faults run.kept.lasts.later (read_cause refl).1)))
line_fault command names f0 o0 r f o w refused number run truthful r' f' truthful' step fault.InputTooLong unopened unreadable overfull begin_cause read_cause =
    let kept = Kept-then (start names) r r' f0 f f' run.kept step in
    let left = overfull refl f0 run.done run.stands in
    let most : r'.begun ≤ length names = let m = kept.most (omega arith) in omega (arith, m, ap length kept.task.names) in
    stopped command names f0 o0 InputTooLong f' o (λ h. h) (λ e. cc) (leaving command names f0 o0 r f o w refused number run truthful r' f' step)
    (λ e. cc) (λ e. cc)
    (λ e. AddsSome-weaker f0.taken (Overfull run.done r') (IsOverfull command names o0 o) f'.taken left
    (λ entries u.
    let n = names_by_count entries names r'.names r'.begun u.names kept.task.names most in
    record {
      named = n.1;
      over = u.over ∙ ap (λ z. z + 1) kept.task.input_limit;
      written = written_lines command names f0 o0 r f o w refused number run (first_bytes input_limit entries) (ap (λ z. whole_lines (first_bytes z entries)) (sym kept.task.input_limit) ∙ u.lines);
    }))
    (λ a. absurd (a refl)) (λ e. cc) (λ e. cc) (λ e. cc)
    (λ _ _ t within. let a = added f0.taken (Overfull run.done r') (IsOfContent f'.content) f'.taken left truthful' t in
    absurd (omega (arith, a.has.over, kept.task.input_limit, within, bytes_within f0.content f'.content names r' a.more a.has.names kept.task.names kept.lasts.content a.all)))

-- ---- the end

-- the whole text is the blocks of these lines and what the command ends with
pub whole_due : (command : Command) (names : List (List ℕ)) (f0 : FilesState) (o0 : SinkState) (r : Reading) (f : FilesState) (o : SinkState) (w : World) (refused : ℕ) (number : ℕ) (run : Running command names f0 o0 r f o w refused number) →
    whole_lines (whole_files f0.content names) ≡ run.done → text_due command names f0 ≡ blocks command 1 (world_of_command command) run.done ++ ending command (number - 1) refused
unfolding due_in_all
whole_due command names f0 o0 r f o w refused number run lines =
    let all = whole_lines (whole_files f0.content names) in
    let count : length run.done ≡ number - 1 = omega (arith, run.count) in
    ap (λ z. blocks command 1 (world_of_command command) z ++ ending command (length z) (refused_count (world_of_command command) z)) lines
    ∙ (ap (λ z. blocks command 1 (world_of_command command) run.done ++ ending command z (refused_count (world_of_command command) run.done)) count
    ∙ ap (λ z. blocks command 1 (world_of_command command) run.done ++ ending command (number - 1) z) (sym run.refused_is))

refused_lines : (command : Command) (refused : ℕ) (entries : List Entry) (done : List (List ℕ)) → whole_lines entries ≡ done → refused ≡ refused_count (world_of_command command) done → any_refused command entries ≡ nat_lt 0 refused
unfolding any_refused
refused_lines command refused entries done e is = ap (λ z. nat_lt 0 (refused_count (world_of_command command) z)) e ∙ ap (nat_lt 0) (sym is)

pub concluded : (command : Command) (names : List (List ℕ)) (f0 : FilesState) (o0 : SinkState) (r : Reading) (f : FilesState) (o : SinkState) (w : World) (refused : ℕ) (number : ℕ) (run : Running command names f0 o0 r f o w refused number) →
    IsTruthful f → (r' : Reading) (f' : FilesState) → Kept r f r' f' → Leaves IsFinished r f r' f' → IsTruthful f' → (status : Status) (o' : SinkState) →
    Concludes (ending command (number - 1) refused) refused o status o' → Replayed command names f0 o0 status r' f' o'
concluded command names f0 o0 r f o w refused number run truthful r' f' step leaves truthful' status o' c =
    let kept = Kept-then (start names) r r' f0 f f' run.kept step in
    let left = AddsSome-all f0.taken (IsFinished run.done r') (IsOfContent f'.content) f'.taken (leaves f0 run.done run.stands) truthful' in
    let entries_are : (entries : List Entry) → IsFinished run.done r' entries × All (IsOfContent f'.content) entries → entries ≡ whole_files f0.content names =
    λ entries u. whole_files-of f'.content entries u.0.ended u.1 ∙ (ap (whole_files f'.content) (u.0.names ∙ kept.task.names) ∙ ap (λ z. whole_files z names) kept.lasts.content) in
    let lines : IsSome f'.taken → whole_lines (whole_files f0.content names) ≡ run.done =
    λ t. told_lines f0.taken f'.taken left entries_are t in
    let text = ending command (number - 1) refused in
    let due = λ (t : IsSome f'.taken). whole_due command names f0 o0 r f o w refused number run (lines t) in
    let front : IsSome f'.taken → NextFront command names f0 run.done text =
    λ t. record { rest = []; split = due t ∙ ap (λ z. blocks command 1 (world_of_command command) run.done ++ z) (sym (append-nil text)) } in
    let l : Leaving command names f0 o0 f' o' = record {
      reading = r';
      kept = kept;
      endures = record { later = omega (arith, run.endures.later, c.endures.later); steady = λ s. c.endures.steady (run.endures.steady s) };
      faultless = next_faultless command names f0 o0 r f o w refused number run text o' (λ t. front (telling names f0 r' f' kept t).1) c.succeeds;
      front = λ t. part_front command names f0 o0 r f o w refused number run text c.count o'.written c.within c.written (front t);
    } in
    let within = AddsSome-weaker f0.taken (λ entries. IsFinished run.done r' entries × All (IsOfContent f'.content) entries) (λ entries. byte_count entries ≤ input_limit) f'.taken left (λ entries u. omega (arith, u.0.within, kept.task.input_limit)) in
    let all : IsFinal status → IsSome f'.taken → Adds o0.written (text_due command names f0) o'.written =
    λ final t.
    let A : List ℕ → Type 0 = λ z. Adds o.written z o'.written in
    let whole : Adds o.written text o'.written = subst A (ap (λ z. take z text) (c.whole final) ∙ take_all (length text) text (omega arith)) c.written in
    let D : List ℕ → Type 0 = λ z. Adds o0.written z o'.written in
    subst D (sym (due t)) (Adds-more o0.written (blocks command 1 (world_of_command command) run.done) o.written text o'.written run.written whole) in
    let R : Status → Type 0 = λ z. Ran command names f0 o0 z f' o' in
    let ran : (status ≡ final_status (nat_lt 0 refused)) ⊎ ((status ≡ WriteFault) ⊎ (status ≡ NoMemory)) → R status =
    λ stops. elim stops [
      | inl e ↦ subst R (sym e) (record {
        words = final_words (nat_lt 0 refused);
        prints = λ _. record {
          taken = AddsSome-is f0.taken _ (whole_files f0.content names) f'.taken left entries_are;
          written = all (subst IsFinal (sym e) (is_final (nat_lt 0 refused)));
          refused = λ t. ap final_status (sym (refused_lines command refused (whole_files f0.content names) run.done (lines t) run.refused_is));
        };
        stops = record {
          tried = (r'.begun, tried_names command names f0 r' f' kept);
          written = l.front;
          within = λ _ _. within;
          unopened = λ e. absurd (final_is (nat_lt 0 refused) OpenFault e (λ h. h));
          unreadable = λ e. absurd (final_is (nat_lt 0 refused) ReadFault e (λ h. h));
          overfull = λ e. absurd (final_is (nat_lt 0 refused) InputTooLong e (λ h. h));
        };
        causes = record {
          begin = λ e. absurd (final_is (nat_lt 0 refused) OpenFault e (λ h. h));
          read = λ e. absurd (final_is (nat_lt 0 refused) ReadFault e (λ h. h));
          write = λ e. absurd (final_is (nat_lt 0 refused) WriteFault e (λ h. h));
          complete = λ _ _ _ _ _. answered (nat_lt 0 refused);
          faultless = kept.faultless;
          sink_faultless = l.faultless;
        };
        stays = staying command names f0 o0 f' o' l;
      })
      | inr (inl e) ↦ subst R (sym e) (write_fault command names f0 o0 f' o' l within (rose_more o0.faults o.faults o'.faults run.endures.later (c.cause e)))
      | inr (inr e) ↦ subst R (sym e) (no_memory command names f0 o0 f' o' l)
    ] in
    replayed command names f0 o0 status r' f' o' kept (ending_named status (nat_lt 0 refused) r'.begun names c.stops) (ran c.stops)
  where
    answered : (b : Bool) → IsAnswered (final_status b)
    answered true = tt
    answered false = tt

    is_final : (b : Bool) → IsFinal (final_status b)
    is_final true = tt
    is_final false = tt

    final_words : (b : Bool) → final_status b ≡ BadWords → ⊥
    final_words true e = cc
    final_words false e = cc

    final_is : (b : Bool) (s : Status) → final_status b ≡ s → (IsFinal s → ⊥) → ⊥
    final_is true s e h = h (subst IsFinal e tt)
    final_is false s e h = h (subst IsFinal e tt)

    told_lines : (a b : Option (List Entry)) → AddsSome a (λ entries. IsFinished run.done r' entries × All (IsOfContent f'.content) entries) b →
        ((entries : List Entry) → IsFinished run.done r' entries × All (IsOfContent f'.content) entries → entries ≡ whole_files f0.content names) → IsSome b → whole_lines (whole_files f0.content names) ≡ run.done
    told_lines a None s e t = cc
    told_lines None (Some b) s e t = absurd s
    told_lines (Some a) (Some b) s e t = ap whole_lines (sym (e s.0 s.2)) ∙ s.2.0.lines

    AddsSome-is : {A : Type 0} (a : Option (List A)) (P : List A → Type 0) (x : List A) (b : Option (List A)) → AddsSome a P b → ((more : List A) → P more → more ≡ x) → Adds a x b
    AddsSome-is a P x None s e = tt
    AddsSome-is None P x (Some b) s e = absurd s
    AddsSome-is (Some a) P x (Some b) s e = s.1 ∙ ap (λ z. a ++ z) (e s.0 s.2)
