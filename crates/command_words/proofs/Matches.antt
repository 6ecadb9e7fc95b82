-- What the matches of words give.
use Rattle.std.proofs.Common.{◌≡◌, ◌∙◌, inl, inr, refl, sym, subst, ap, ℕ, List, [], ◌∷◌, Option, Some, None, Result, Ok, option_map}
use Rattle.std.specs.Prelude.{codes, unwrap_or, false}
use Rattle.std.specs.Str.Parse.{digits_value, without_leading_plus}
use Rattle.clap.specs.Words.{kind_of, matched_of, one_text, one_of, raw_values, rows_of, ReadsOne, HasKind}
use Rattle.clap.specs.declared.error.Error.{Error}
use Rattle.clap.specs.declared.error.kind.ErrorKind.{ErrorKind}
use Rattle.clap.specs.declared.error.kind.ErrorKind.TheVariants as kind
use Rattle.clap.specs.declared.parser.matches.Found.{Found}
use Rattle.clap.proofs.WalkLemmas.{one_text-rows, raw_values-rows}
use Rattle.command_words.specs.Words.{are_none, files_in, ring_in}

-- the number that is read of the option's text is that of its digits
pub ring_is : {E : Type 0} (gives : List ℕ → Result ℕ E → Type 0)
    → ((t : List ℕ) (n : ℕ) → gives t (Ok n) → n ≡ digits_value 10 (without_leading_plus t))
    → (f : Found) (result : Option ℕ) (n : ℕ) → result ≡ Some n
    → (one_text f (codes "ring") ≡ None → result ≡ None)
    → ((t : List ℕ) → one_text f (codes "ring") ≡ Some t → ReadsOne gives t result)
    → n ≡ ring_in (rows_of f)
ring_is gives value f result n is absent present = go (one_text f (codes "ring")) refl
  where
    go : (o : Option (List ℕ)) → one_text f (codes "ring") ≡ o → n ≡ ring_in (rows_of f)
    go None e = let bad : Some n ≡ None = sym is ∙ absent e in cc
    go (Some t) e =
        let given : ReadsOne gives t (Some n) = subst (ReadsOne gives t) is (present t e) in
        let rows : one_of (codes "ring") (rows_of f) ≡ Some t = sym (one_text-rows f (codes "ring")) ∙ e in
        rw rows (value t n given)

-- an error whose kind isn't that memory ran out has one of the kinds that may come
pub is_bad : (kinds : List ErrorKind) (e : Error) → HasKind kinds e → (kind_of e ≡ kind.OutOfMemory → ⊥) → are_none kinds ≡ false
is_bad [] e (inl is) other = absurd (other is)
is_bad [] e (inr among) other = absurd among
is_bad (k ∷ ks) e has other = refl

-- the values of the files' argument are the files
pub files_of : (f : Found) (values : Option (List (List ℕ))) → values ≡ option_map raw_values (matched_of f (codes "file"))
    → unwrap_or values [] ≡ files_in (rows_of f)
files_of f values is = ap (λ o. unwrap_or o []) (is ∙ raw_values-rows f (codes "file"))
