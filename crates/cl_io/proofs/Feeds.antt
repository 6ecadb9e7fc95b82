-- Lines of a text, from its front.
use Rattle.std.proofs.Common.{◌≡◌, ◌≢◌, ℕ, suc, Bool, true, false, eqb, cond, List, [], ◌∷◌, ◌++◌, All, refl, ap, ◌∙◌, arith, ◌-◌, ◌≤◌, ltb, length, take}
use Rattle.std.proofs.lemmas.Bool.Decides.{nat_tests}
use Rattle.cl_io.specs.Files.{Entry, read_last, read_entry, byte_count}
use Rattle.cl_io.specs.Lines.{lines_of, led_by, first_bytes}
use Rattle.cl_io.specs.Steps.{HasNoFeed}

pub All-tail : {A : Type 0} (P : A → Type 0) (x : A) (xs : List A) → All P (x ∷ xs) → All P xs
All-tail P x xs h = λ k d lt. h (suc k) d (omega arith)

pub All-head : {A : Type 0} (P : A → Type 0) (x : A) (xs : List A) → All P (x ∷ xs) → P x
All-head P x xs h = h 0 x (omega arith)

no_feed_test : (b : ℕ) → b ≢ 10 → eqb b 10 ≡ false
no_feed_test b h = grind (arith, nat_tests)

-- a line that doesn't begin with a line feed, by its first byte
led : (e : Bool) (b : ℕ) (bytes : List ℕ) → b ≢ 10 → lines_of e (b ∷ bytes) ≡ led_by e b (lines_of e bytes)
led e b bytes h = ap (λ t. cond t ([] ∷ lines_of e bytes) (led_by e b (lines_of e bytes))) (no_feed_test b h)

-- up to the first line feed stands the first line
pub lines_of-feed : (e : Bool) (line rest : List ℕ) → HasNoFeed line → lines_of e (line ++ 10 ∷ rest) ≡ line ∷ lines_of e rest
lines_of-feed e [] rest h = refl
lines_of-feed e (b ∷ line) rest h =
    led e b (line ++ 10 ∷ rest) (All-head (λ x. x ≢ 10) b line h) ∙ ap (led_by e b) (lines_of-feed e line rest (All-tail (λ x. x ≢ 10) b line h))

-- a text to which more may come and that has no line feed has no line
pub lines_of-open : (line : List ℕ) → HasNoFeed line → lines_of false line ≡ []
lines_of-open [] h = refl
lines_of-open (b ∷ line) h = led false b line (All-head (λ x. x ≢ 10) b line h) ∙ ap (led_by false b) (lines_of-open line (All-tail (λ x. x ≢ 10) b line h))

-- a text without a line feed is one line
pub lines_of-last : (b : ℕ) (line : List ℕ) → HasNoFeed (b ∷ line) → lines_of true (b ∷ line) ≡ (b ∷ line) ∷ []
lines_of-last b [] h = led true b [] (All-head (λ x. x ≢ 10) b [] h)
lines_of-last b (c ∷ line) h =
    led true b (c ∷ line) (All-head (λ x. x ≢ 10) b (c ∷ line) h) ∙ ap (led_by true b) (lines_of-last c line (All-tail (λ x. x ≢ 10) b (c ∷ line) h))

pub read_last-append : (bytes : List ℕ) (xs : List Entry) (x : Entry) → read_last bytes (xs ++ x ∷ []) ≡ xs ++ read_entry bytes x ∷ []
read_last-append bytes [] x = refl
read_last-append bytes (y ∷ []) x = refl
read_last-append bytes (y ∷ z ∷ xs) x = ap (λ w. y ∷ w) (read_last-append bytes (z ∷ xs) x)

-- files with no more bytes than that are as they are
pub first_bytes-all : (n : ℕ) (entries : List Entry) → byte_count entries ≤ n → first_bytes n entries ≡ entries
first_bytes-all n [] h = refl
first_bytes-all n (entry ∷ entries) h =
    let short : length entry.bytes ≤ n = omega (arith, h) in
    let test : ltb n (length entry.bytes) ≡ false = grind (arith, nat_tests, short) in
    ap (λ t. cond t (record { name = entry.name; bytes = take n entry.bytes; ended = false } ∷ []) (entry ∷ first_bytes (n - length entry.bytes) entries)) test ∙
    ap (λ z. entry ∷ z) (first_bytes-all (n - length entry.bytes) entries (omega (arith, h)))
