use Rattle.std.proofs.Common.{◌≡◌, ◌+◌, ◌*◌, ◌-◌, ◌^◌, ◌<◌, ◌++◌, ◌∷◌, [], List, ℕ, length, replicate, ap, sym, ◌∙◌, subst, arith}
use Rattle.std.specs.Int.Digits.{number_from_digits}
use Rattle.cl_types.specs.declared.reading.Family.TheVariants.{Colons}
use Rattle.cl_types.specs.Reading.{IsParts, IsShortened, HasNoGap}
use Rattle.cl_types.proofs.Parts.{parts_unique}
use Rattle.cl_types.proofs.Gap.{has_gap, gap_unique, parts_gap}
use Rattle.cl_types.proofs.Addresses.{number_shortened}
use Rattle.cl_types.proofs.reading.read_shortened.Goals as goal

-- a shortened text, cut at its first gap
cut_parts : (text front back : List ℕ) (n : ℕ) → text ≡ front ++ 58 ∷ 58 ∷ back → HasNoGap (front ++ 58 ∷ []) → (o : IsShortened text n) → IsParts Colons front o.front × IsParts Colons back o.back
cut_parts text front back n whole first o =
    let same = gap_unique o.front_text front o.back_text back (parts_gap o.front_text o.front o.front_parts) first (sym o.whole ∙ whole) in
    (subst (λ (x : List ℕ). IsParts Colons x o.front) same.0 o.front_parts, subst (λ (x : List ℕ). IsParts Colons x o.back) same.1 o.back_parts)

pub returns-in_err-front-clause-none : goal.returns-in_err-front-clause-none
returns-in_err-front-clause-none c =
    rw c.from_residual.ensures (λ n o. has_gap o.front_text o.back_text (subst HasNoGap o.whole c.in_err-front.ensures.none))

pub returns-in_err-front-2-clause-none : goal.returns-in_err-front-2-clause-none
returns-in_err-front-2-clause-none c =
    rw c.from_residual-in_err-front-2.ensures (λ n o.
    let parts = cut_parts c.args.text.now c.in_ok-front.front.now c.in_ok-front.back.now n c.in_ok-front.ensures.found c.in_ok-front.ensures.first o in
    c.in_err-front-2.ensures.none o.front (omega (arith, o.gap)) parts.0)

pub returns-in_err-back-clause-none : goal.returns-in_err-back-clause-none
returns-in_err-back-clause-none c =
    rw c.from_residual-in_err-back.ensures (λ n o.
    let parts = cut_parts c.args.text.now c.in_ok-front.front.now c.in_ok-front.back.now n c.in_ok-front.ensures.found c.in_ok-front.ensures.first o in
    c.in_err-back.ensures.none o.back (omega (arith, o.gap)) parts.1)

pub returns-else-front-back-lt8-clause-none : goal.returns-else-front-back-lt8-clause-none
returns-else-front-back-lt8-clause-none c = λ n o.
    let parts = cut_parts c.args.text.now c.in_ok-front.front.now c.in_ok-front.back.now n c.in_ok-front.ensures.found c.in_ok-front.ensures.first o in
    let front = c.in_ok-front-2.ensures.found in
    let back = c.in_ok-back.ensures.found in
    omega (arith, o.gap, ap length (parts_unique Colons c.in_ok-front.front.now front.0 o.front front.1 parts.0), ap length (parts_unique Colons c.in_ok-front.back.now back.0 o.back back.1 parts.1), front.2.count, back.2.count)

-- the number that the parts round a gap give
gap_number : (m n k : ℕ) (fs bs : List ℕ) → k ≡ m * 65536 ^ (8 - length fs) + n → length fs + length bs < 8 → m ≡ number_from_digits 65536 fs → n ≡ number_from_digits 65536 bs → k ≡ number_from_digits 65536 (fs ++ (replicate (8 - (length fs + length bs)) 0 ++ bs))
gap_number m n k fs bs e gap em en =
    let rest : 8 - (length fs + length bs) + length bs ≡ 8 - length fs = omega arith in
    e ∙ (λ i. em i * 65536 ^ (8 - length fs) + en i)
    ∙ sym (number_shortened 65536 (8 - (length fs + length bs)) fs bs ∙ ap (λ z. number_from_digits 65536 fs * 65536 ^ z + number_from_digits 65536 bs) rest)

pub returns-then-front-back-lt8-clause-found : goal.returns-then-front-back-lt8-clause-found
returns-then-front-back-lt8-clause-found c =
    let front = c.in_ok-front-2.ensures.found in
    let back = c.in_ok-back.ensures.found in
    let gap : length front.0 + length back.0 < 8 = omega (arith, front.2.count, back.2.count) in
    record {
      front = front.0;
      back = back.0;
      front_text = c.in_ok-front.front.now;
      back_text = c.in_ok-front.back.now;
      gap = gap;
      whole = c.in_ok-front.ensures.found;
      front_parts = front.1;
      back_parts = back.1;
      value = gap_number c.in_ok-front-2.front.number c.in_ok-back.back.number c.around_gap.result front.0 back.0 (c.around_gap.ensures ∙ ap (λ k. c.in_ok-front-2.front.number * 65536 ^ (8 - k) + c.in_ok-back.back.number) front.2.count) gap front.2.number back.2.number;
    }
