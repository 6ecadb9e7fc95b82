-- The least of some faults, put together from parts.
use Rattle.std.proofs.Common.{◌≡◌, ℕ, ◌+◌, List, [], ◌∷◌, ◌++◌, Bool, true, false, Option, Some, None, option_map, if◌then◌else◌, refl, sym, ap, ◌∙◌, arith}
use Rattle.std.proofs.lemmas.Grind.{common_steps}
use Rattle.std.specs.Ordering.{nat_cmp, is_gt}
use Rattle.std.proofs.lemmas.Bool.Decides.{nat_tests}
use Rattle.json_fields.specs.declared.refusal.ReadRefusal.{ReadRefusal}
use Rattle.json_fields.specs.declared.refusal.ReadRefusal.TheVariants.{NotJson, BadShape, Unsupported, BadName, BadLabel, BadSelector, BadAddr, BadPrefix, BadPort, BadPriority, BadAction, BadControl, NoMemory}
use Rattle.serde_json.specs.Data.{Data}
use Rattle.json_fields.specs.Faults.{rank, earlier, least, under, at, index_step, each_from}

-- whether the second comes before the first
abbrev comes_after : ReadRefusal → ReadRefusal → Bool
comes_after f g = is_gt (nat_cmp (rank f) (rank g))

-- what is told of three tests
after_chain : (a b c : ℕ) → is_gt (nat_cmp a b) ≡ true → is_gt (nat_cmp b c) ≡ true → is_gt (nat_cmp a c) ≡ true
after_chain a b c x y = grind (arith, common_steps, nat_tests)

not_after_chain : (a b c : ℕ) → is_gt (nat_cmp a b) ≡ false → is_gt (nat_cmp b c) ≡ false → is_gt (nat_cmp a c) ≡ false
not_after_chain a b c x y = grind (arith, common_steps, nat_tests)

pub earlier_none : (a : Option ReadRefusal) → earlier a None ≡ a
unfolding earlier
earlier_none None = refl
earlier_none (Some f) = refl

abbrev pick : Bool → ReadRefusal → ReadRefusal → Option ReadRefusal
pick b g f = Some (if b then g else f)

pick_earlier : (t : Bool) (f g h : ReadRefusal) → earlier (pick t g f) (Some h) ≡ (if t then pick (comes_after g h) h g else pick (comes_after f h) h f)
unfolding earlier
pick_earlier true f g h = refl
pick_earlier false f g h = refl

earlier_pick : (t : Bool) (f g h : ReadRefusal) → earlier (Some f) (pick t h g) ≡ (if t then pick (comes_after f h) h f else pick (comes_after f g) g f)
unfolding earlier
earlier_pick true f g h = refl
earlier_pick false f g h = refl

three : (f g h : ReadRefusal) (gf hg hf : Bool) → comes_after f g ≡ gf → comes_after g h ≡ hg → comes_after f h ≡ hf →
    (if gf then pick hg h g else pick hf h f) ≡ (if hg then pick hf h f else pick gf g f)
three f g h true true true a b c = refl
three f g h true true false a b c = let d = after_chain (rank f) (rank g) (rank h) a b in cc
three f g h true false hf a b c = refl
three f g h false true hf a b c = refl
three f g h false false true a b c = let d = not_after_chain (rank f) (rank g) (rank h) a b in cc
three f g h false false false a b c = refl

pub earlier_assoc : (a b c : Option ReadRefusal) → earlier (earlier a b) c ≡ earlier a (earlier b c)
unfolding earlier
earlier_assoc None b c = refl
earlier_assoc (Some f) None c = refl
earlier_assoc (Some f) (Some g) None = earlier_none (pick (comes_after f g) g f)
earlier_assoc (Some f) (Some g) (Some h) =
    pick_earlier (comes_after f g) f g h
    ∙ three f g h (comes_after f g) (comes_after g h) (comes_after f h) refl refl refl
    ∙ sym (earlier_pick (comes_after g h) f g h)

-- of one fault and more it is the earlier
pub least_cons : (f : ReadRefusal) (fs : List ReadRefusal) → least (f ∷ fs) ≡ earlier (Some f) (least fs)
unfolding least earlier
least_cons f fs = refl

-- the fault that counts of two lists is the earlier of theirs
pub least_append : (xs ys : List ReadRefusal) → least (xs ++ ys) ≡ earlier (least xs) (least ys)
unfolding least earlier
least_append [] ys = refl
least_append (f ∷ xs) ys = ap (earlier (Some f)) (least_append xs ys) ∙ sym (earlier_assoc (Some f) (least xs) (least ys))

pub least_none : least [] ≡ None
unfolding least
least_none = refl

pub least_one : (f : ReadRefusal) → least (f ∷ []) ≡ Some f
unfolding least earlier
least_one f = refl

-- a path in front changes no rank
rank-under : (step : List ℕ) (f : ReadRefusal) → rank (under step f) ≡ rank f
rank-under step NotJson = refl
rank-under step (BadShape path) = refl
rank-under step (Unsupported name) = refl
rank-under step BadName = refl
rank-under step BadLabel = refl
rank-under step BadSelector = refl
rank-under step BadAddr = refl
rank-under step BadPrefix = refl
rank-under step BadPort = refl
rank-under step BadPriority = refl
rank-under step BadAction = refl
rank-under step BadControl = refl
rank-under step NoMemory = refl

under-pick : (step : List ℕ) (t : Bool) (f g : ReadRefusal) → option_map (under step) (pick t g f) ≡ pick t (under step g) (under step f)
under-pick step true f g = refl
under-pick step false f g = refl

under-earlier : (step : List ℕ) (a b : Option ReadRefusal) → option_map (under step) (earlier a b) ≡ earlier (option_map (under step) a) (option_map (under step) b)
unfolding earlier
under-earlier step None b = refl
under-earlier step (Some f) None = refl
under-earlier step (Some f) (Some g) =
    under-pick step (comes_after f g) f g
    ∙ ap (λ n. pick (is_gt (nat_cmp (rank f) n)) (under step g) (under step f)) (sym (rank-under step g))
    ∙ ap (λ n. pick (is_gt (nat_cmp n (rank (under step g)))) (under step g) (under step f)) (sym (rank-under step f))

-- the fault that counts, told from outside
pub least_at : (step : List ℕ) (fs : List ReadRefusal) → least (at step fs) ≡ option_map (under step) (least fs)
unfolding least earlier at
least_at step [] = refl
least_at step (f ∷ fs) = ap (earlier (Some (under step f))) (least_at step fs) ∙ sym (under-earlier step (Some f) (least fs))

-- one more element: the fault so far, then those of the element and of the rest
pub each_from_item : (faults : Data → List ReadRefusal) (i : ℕ) (d : Data) (ds : List Data) →
    least (each_from faults i (d ∷ ds)) ≡ earlier (option_map (under (index_step i)) (least (faults d))) (least (each_from faults (i + 1) ds))
unfolding each_from
each_from_item faults i d ds =
    least_append (at (index_step i) (faults d)) (each_from faults (i + 1) ds)
    ∙ ap (λ f. earlier f (least (each_from faults (i + 1) ds))) (least_at (index_step i) (faults d))

pub each_from_end : (faults : Data → List ReadRefusal) (i : ℕ) (worst : Option ReadRefusal) → earlier worst (least (each_from faults i [])) ≡ worst
unfolding each_from least
each_from_end faults i worst = earlier_none worst

pub each_from_step : (faults : Data → List ReadRefusal) (i : ℕ) (worst fault now : Option ReadRefusal) (d : Data) (ds : List Data) →
    fault ≡ option_map (under (index_step i)) (least (faults d)) → now ≡ earlier worst fault →
    earlier now (least (each_from faults (i + 1) ds)) ≡ earlier worst (least (each_from faults i (d ∷ ds)))
each_from_step faults i worst fault now d ds is sum =
    ap (λ n. earlier n (least (each_from faults (i + 1) ds))) sum
    ∙ earlier_assoc worst fault (least (each_from faults (i + 1) ds))
    ∙ ap (earlier worst) (ap (λ f. earlier f (least (each_from faults (i + 1) ds))) is ∙ sym (each_from_item faults i d ds))

-- one part more: the fault so far and that of the part
pub least_step : (worst fault now : Option ReadRefusal) (xs ys : List ReadRefusal) →
    fault ≡ least xs → now ≡ earlier worst fault → earlier now (least ys) ≡ earlier worst (least (xs ++ ys))
least_step worst fault now xs ys is sum =
    ap (λ n. earlier n (least ys)) sum
    ∙ earlier_assoc worst fault (least ys)
    ∙ ap (earlier worst) (ap (λ f. earlier f (least ys)) is ∙ sym (least_append xs ys))
