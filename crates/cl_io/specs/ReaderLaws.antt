-- A reader keeps what it kept in each of two steps.
use Rattle.std.proofs.Common.{◌≡◌, ℕ, ◌+◌, ◌-◌, ◌≤◌, Bool, IsTrue, List, length, take, drop, All, refl, sym, ap, ◌∙◌, subst, arith}
use Rattle.std.proofs.lemmas.List.{drop-drop}
use Rattle.std.proofs.lemmas.List.Elements.{All-drop}
use Rattle.cl_io.specs.Files.{FilesState, Lasts, Adds}
use Rattle.cl_io.specs.Reader.{Reading, SameTask, EachLeft, Kept}

-- fewer names are left after some were begun
pub EachLeft-later : (p q : List ℕ → Bool) (r r' : Reading) → q ≡ p → SameTask r r' → r.begun ≤ r'.begun → EachLeft p r → EachLeft q r'
EachLeft-later p q r r' same t le h =
    let P : List ℕ → Type 0 = λ name. IsTrue (p name) in
    let k : r.begun + (r'.begun - r.begun) ≡ r'.begun = omega (arith, le) in
    let left : drop (r'.begun - r.begun) (drop r.begun r.names) ≡ drop r'.begun r'.names =
    drop-drop (r'.begun - r.begun) r.begun r.names ∙ (ap (λ n. drop n r.names) k ∙ ap (drop r'.begun) (sym t.names)) in
    let R : List (List ℕ) → Type 0 = λ names. All P names in
    let Q : (List ℕ → Bool) → Type 0 = λ s. All (λ name. IsTrue (s name)) (drop r'.begun r'.names) in
    subst Q (sym same) (subst R left (All-drop P (r'.begun - r.begun) (drop r.begun r.names) h))

pub Lasts-none : (f : FilesState) → Lasts f f
Lasts-none f = record { content = refl; knows = refl; there = refl; later = omega arith; steady = λ s. s }

pub Lasts-then : (f f' f'' : FilesState) → Lasts f f' → Lasts f' f'' → Lasts f f''
Lasts-then f f' f'' a b = record {
  content = b.content ∙ a.content;
  knows = b.knows ∙ a.knows;
  there = b.there ∙ a.there;
  later = omega (arith, a.later, b.later);
  steady = λ s. b.steady (a.steady s);
}

pub Kept-none : (r : Reading) (f : FilesState) → Kept r f r f
Kept-none r f = record {
  task = record { names = refl; line_limit = refl; input_limit = refl };
  begun = omega arith;
  most = λ h. h;
  order = λ base a. a;
  told = λ t. t;
  faultless = λ _ _. refl;
  telling = λ _ _. record { tried = λ t. t; taken = λ t. t; places = refl };
  lasts = Lasts-none f;
}

pub Kept-then : (r r' r'' : Reading) (f f' f'' : FilesState) → Kept r f r' f' → Kept r' f' r'' f'' → Kept r f r'' f''
Kept-then r r' r'' f f' f'' k l =
    record {
      task = record { names = l.task.names ∙ k.task.names; line_limit = l.task.line_limit ∙ k.task.line_limit; input_limit = l.task.input_limit ∙ k.task.input_limit };
      begun = omega (arith, k.begun, l.begun);
      most = λ h. l.most (k.most h);
      order = λ base a.
          let was : List (List ℕ) → Type 0 = λ z. Adds base (take r'.begun z) f'.tried in
          let now : List (List ℕ) → Type 0 = λ z. Adds base (take r''.begun z) f''.tried in
          subst now k.task.names (l.order base (subst was (sym k.task.names) (k.order base a)));
      told = λ t. k.told (l.told t);
      faultless = λ s h. l.faultless (k.lasts.steady s) (EachLeft-later f.there f'.there r r' k.lasts.there k.task k.begun h) ∙ k.faultless s h;
      telling = λ h room.
          let t = k.telling h room in
          let room' : length r'.names ≤ f'.places + r'.begun = omega (arith, t.places, room, ap length k.task.names) in
          let u = l.telling (EachLeft-later f.knows f'.knows r r' k.lasts.knows k.task k.begun h) room' in
          record { tried = λ s. u.tried (t.tried s); taken = λ s. u.taken (t.taken s); places = u.places ∙ t.places };
      lasts = Lasts-then f f' f'' k.lasts l.lasts;
    }
