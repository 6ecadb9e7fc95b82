-- Connections by their tuples.
use Rattle.std.proofs.Common.{◌≡◌, ◌||◌, ◌<◌, ◌≤◌, ◌+◌, ℕ, suc, zero, List, [], ◌∷◌, length, set, get_or, map, filter, take, Bool, true, false, not, cond, nat_lt, Some, None, refl, ap, sym, ◌∙◌, subst, arith}
use Rattle.std.proofs.lemmas.List.{take-map, get_or-map, length-map}
use Rattle.std.proofs.lemmas.Map.Keys.{IsDistinct-head, IsDistinct-tail, IsDistinct-cons, apart_from_distinct}
use Rattle.std.specs.List.{list_any, position, position_or_len, AllByRecursion}
use Rattle.std.proofs.lemmas.Bool.{ltb-true, ltb-false}
use Rattle.cl_types.specs.declared.question.Packet.{Packet}
use Rattle.flow_pipeline.specs.declared.conns.Conn.{Conn}
use Rattle.flow_pipeline.specs.declared.conns.Tuple.{Tuple}
use Rattle.flow_pipeline.specs.Connections.{goes_forth, comes_back, is_of, seen}
use Rattle.flow_pipeline.specs.ConnectionIndex.{forth, back, tuple_of, AreApart, seen_by, tuple_eq}
use Rattle.flow_pipeline.specs.TupleLaws.{tuple_eq-one, tuple_eq_equiv}

-- ---- known

either_pairs : (a b c d : Bool) → (a || b) || (c || d) ≡ (a || c) || (b || d)
either_pairs true b c d = refl
either_pairs false b true d = or_true b d
  where
    or_true : (b d : Bool) → b || true ≡ true
    or_true true d = refl
    or_true false d = refl
either_pairs false b false d = refl

any-tuples : (p : Packet) (list : List Conn) → (list_any (tuple_eq (forth p)) (map tuple_of list) || list_any (tuple_eq (back p)) (map tuple_of list)) ≡ list_any (is_of p) list
any-tuples p [] = refl
any-tuples p (c ∷ cs) =
    either_pairs (goes_forth p c) (list_any (tuple_eq (forth p)) (map tuple_of cs)) (comes_back p c) (list_any (tuple_eq (back p)) (map tuple_of cs))
    ∙ ap (λ others. is_of p c || others) (any-tuples p cs)

-- the index knows a packet by its two tuples
pub known-tuples : (p : Packet) (list : List Conn) (keys : List Tuple) → keys ≡ map tuple_of list → (list_any (tuple_eq (forth p)) keys || list_any (tuple_eq (back p)) keys) ≡ list_any (is_of p) list
known-tuples p list keys are =
    ap (λ ks. list_any (tuple_eq (forth p)) ks || list_any (tuple_eq (back p)) ks) are ∙ any-tuples p list

-- ---- seen

seen-none : (t : Tuple) (now : ℕ) (cs : List Conn) → AllByRecursion (λ u. tuple_eq t u ≡ false) (map tuple_of cs) → map (seen_by t now) cs ≡ cs
seen-none t now [] h = refl
seen-none t now (c ∷ cs) h =
    ap (λ b. cond b (record c { last = now }) c ∷ map (seen_by t now) cs) h.0 ∙ ap (λ others. c ∷ others) (seen-none t now cs h.1)

-- where the tuple isn't found, nothing is seen
pub seen-absent : (t : Tuple) (now : ℕ) (cs : List Conn) → length cs ≤ position_or_len (tuple_eq t) (map tuple_of cs) → map (seen_by t now) cs ≡ cs
seen-absent t now [] h = refl
seen-absent t now (c ∷ cs) h =
    elim (tuple_eq t (tuple_of c)) as (λ b. suc (length cs) ≤ cond (not b) (1 + position_or_len (tuple_eq t) (map tuple_of cs)) 0 → cond b (record c { last = now }) c ∷ map (seen_by t now) cs ≡ c ∷ cs) [
      | true ↦ λ g. absurd (omega (arith, g))
      | false ↦ λ g. ap (λ others. c ∷ others) (seen-absent t now cs (omega (arith, g)))
    ] h

-- at the place where it is found
pub seen-present : (t : Tuple) (now : ℕ) (d : Conn) (cs : List Conn) → AreApart (map tuple_of cs) → position_or_len (tuple_eq t) (map tuple_of cs) < length cs → set cs (position_or_len (tuple_eq t) (map tuple_of cs)) (record (get_or cs (position_or_len (tuple_eq t) (map tuple_of cs)) d) { last = now }) ≡ map (seen_by t now) cs
seen-present t now d [] apart h = absurd (omega (arith, h))
seen-present t now d (c ∷ cs) apart h =
    elim (tuple_eq t (tuple_of c)) as (λ b. tuple_eq t (tuple_of c) ≡ b → cond (not b) (1 + position_or_len (tuple_eq t) (map tuple_of cs)) 0 < suc (length cs) → set (c ∷ cs) (cond (not b) (1 + position_or_len (tuple_eq t) (map tuple_of cs)) 0) (record (get_or (c ∷ cs) (cond (not b) (1 + position_or_len (tuple_eq t) (map tuple_of cs)) 0) d) { last = now }) ≡ cond b (record c { last = now }) c ∷ map (seen_by t now) cs) [
      | true ↦ λ e g. ap (λ others. record c { last = now } ∷ others) (sym (seen-none t now cs (subst (λ (u : Tuple). AllByRecursion (λ x. tuple_eq u x ≡ false) (map tuple_of cs)) (sym (tuple_eq-one t (tuple_of c) e)) (IsDistinct-head tuple_eq (tuple_of c) (map tuple_of cs) apart))))
      | false ↦ λ e g. later (position_or_len (tuple_eq t) (map tuple_of cs)) (seen-present t now d cs (IsDistinct-tail tuple_eq (tuple_of c) (map tuple_of cs) apart) (omega (arith, g)))
    ] refl h
  where
    later : (i : ℕ) → set cs i (record (get_or cs i d) { last = now }) ≡ map (seen_by t now) cs → set (c ∷ cs) (1 + i) (record (get_or (c ∷ cs) (1 + i) d) { last = now }) ≡ c ∷ map (seen_by t now) cs
    later i so =
        let next : 1 + i ≡ suc i = omega arith in
        ap (λ j. set (c ∷ cs) j (record (get_or (c ∷ cs) j d) { last = now })) next ∙ ap (λ others. c ∷ others) so

tuple_of-seen_by : (t : Tuple) (now : ℕ) (c : Conn) → tuple_of (seen_by t now c) ≡ tuple_of c
tuple_of-seen_by t now c = elim (tuple_eq t (tuple_of c)) as (λ b. tuple_of (cond b (record c { last = now }) c) ≡ tuple_of c) [ true ↦ refl | false ↦ refl ]

-- what is seen keeps its tuple
pub tuples-seen_by : (t : Tuple) (now : ℕ) (cs : List Conn) → map tuple_of (map (seen_by t now) cs) ≡ map tuple_of cs
tuples-seen_by t now [] = refl
tuples-seen_by t now (c ∷ cs) =
    ap (λ u. u ∷ map tuple_of (map (seen_by t now) cs)) (tuple_of-seen_by t now c) ∙ ap (λ others. tuple_of c ∷ others) (tuples-seen_by t now cs)

-- seen by one tuple and then by the other
seen-either : (p : Packet) (now : ℕ) (c : Conn) → seen_by (back p) now (seen_by (forth p) now c) ≡ seen p now c
seen-either p now c =
    elim (goes_forth p c) as (λ b. seen_by (back p) now (cond b (record c { last = now }) c) ≡ cond (b || comes_back p c) (record c { last = now }) c) [
      | true ↦ elim (comes_back p c) as (λ b. cond b (record c { last = now }) (record c { last = now }) ≡ record c { last = now }) [ true ↦ refl | false ↦ refl ]
      | false ↦ refl
    ]

pub seen-both : (p : Packet) (now : ℕ) (cs : List Conn) → map (seen_by (back p) now) (map (seen_by (forth p) now) cs) ≡ map (seen p now) cs
seen-both p now [] = refl
seen-both p now (c ∷ cs) =
    ap (λ x. x ∷ map (seen_by (back p) now) (map (seen_by (forth p) now) cs)) (seen-either p now c) ∙ ap (λ others. seen p now c ∷ others) (seen-both p now cs)

-- ---- apart

absent_before : (ks : List Tuple) (i : ℕ) (d : Tuple) → AreApart ks → i < length ks → list_any (tuple_eq (get_or ks i d)) (take i ks) ≡ false
absent_before [] i d apart h = absurd (omega (arith, h))
absent_before (k ∷ ks) zero d apart h = refl
absent_before (k ∷ ks) (suc j) d apart h =
    let first : tuple_eq k (get_or ks j d) ≡ false = apart_from_distinct tuple_eq (k ∷ ks) 0 (suc j) d apart (omega arith) h in
    ap (λ b. b || list_any (tuple_eq (get_or ks j d)) (take j ks)) (tuple_eq_equiv.symm (get_or ks j d) k ∙ first)
    ∙ absent_before ks j d (IsDistinct-tail tuple_eq k ks apart) (omega (arith, h))

pub length-tuples : (cs : List Conn) → length (map tuple_of cs) ≡ length cs
length-tuples cs = simp length-map

-- the tuple of a connection isn't among those before it
absent-take : (cs : List Conn) (i : ℕ) (d : Conn) → AreApart (map tuple_of cs) → i < length cs → list_any (tuple_eq (tuple_of (get_or cs i d))) (map tuple_of (take i cs)) ≡ false
absent-take cs i d apart within =
    ap (λ t. list_any (tuple_eq t) (map tuple_of (take i cs))) (sym (get_or-map tuple_of cs i d (tuple_of d) within))
    ∙ ap (λ ks. list_any (tuple_eq (get_or (map tuple_of cs) i (tuple_of d))) ks) (sym (take-map tuple_of i cs))
    ∙ absent_before (map tuple_of cs) i (tuple_of d) apart (subst (λ (n : ℕ). i < n) (sym (length-tuples cs)) within)

pub absent-at : (t : Tuple) (keys : List Tuple) (cs : List Conn) (i : ℕ) (d : Conn) → t ≡ tuple_of (get_or cs i d) → keys ≡ map tuple_of (take i cs) → AreApart (map tuple_of cs) → i < length cs → list_any (tuple_eq t) keys ≡ false
absent-at t keys cs i d here before apart within =
    ap (λ u. list_any (tuple_eq u) keys) here
    ∙ ap (list_any (tuple_eq (tuple_of (get_or cs i d)))) before
    ∙ absent-take cs i d apart within

all-filter : (P : Tuple → Type 0) (test : Conn → Bool) (cs : List Conn) → AllByRecursion P (map tuple_of cs) → AllByRecursion P (map tuple_of (filter test cs))
all-filter P test [] h = h
all-filter P test (c ∷ cs) h =
    elim (test c) as (λ b. AllByRecursion P (map tuple_of (cond b (c ∷ filter test cs) (filter test cs)))) [
      | true ↦ (h.0, all-filter P test cs h.1)
      | false ↦ all-filter P test cs h.1
    ]

-- connections that stay are as far apart as before
pub apart-filter : (test : Conn → Bool) (cs : List Conn) → AreApart (map tuple_of cs) → AreApart (map tuple_of (filter test cs))
apart-filter test [] h = h
apart-filter test (c ∷ cs) h =
    elim (test c) as (λ b. AreApart (map tuple_of (cond b (c ∷ filter test cs) (filter test cs)))) [
      | true ↦ IsDistinct-cons tuple_eq (tuple_of c) (map tuple_of (filter test cs)) (all-filter (λ u. tuple_eq (tuple_of c) u ≡ false) test cs (IsDistinct-head tuple_eq (tuple_of c) (map tuple_of cs) h)) (apart-filter test cs (IsDistinct-tail tuple_eq (tuple_of c) (map tuple_of cs) h))
      | false ↦ apart-filter test cs (IsDistinct-tail tuple_eq (tuple_of c) (map tuple_of cs) h)
    ]

-- ---- places

found_if : (n len i : ℕ) (b : Bool) → nat_lt n len ≡ b → Some i ≡ cond b (Some n) None → (n ≡ i) × (n < len)
found_if n len i true e h = (cc, ltb-true n len e)
found_if n len i false e h = cc

missing_if : (n len : ℕ) (b : Bool) → nat_lt n len ≡ b → None ≡ cond b (Some n) None → len ≤ n
missing_if n len true e h = cc
missing_if n len false e h = ltb-false n len e

pub seen-found : (t : Tuple) (now i : ℕ) (d : Conn) (cs : List Conn) (keys : List Tuple) → keys ≡ map tuple_of cs → AreApart keys → Some i ≡ position (tuple_eq t) keys → set cs i (record (get_or cs i d) { last = now }) ≡ map (seen_by t now) cs
seen-found t now i d cs keys are apart found =
    let pos = position_or_len (tuple_eq t) (map tuple_of cs) in
    let tuples = map tuple_of cs in
    let at = found_if pos (length tuples) i (nat_lt pos (length tuples)) refl (found ∙ ap (position (tuple_eq t)) are) in
    let within : pos < length cs = subst (λ (n : ℕ). pos < n) (length-tuples cs) at.1 in
    ap (λ j. set cs j (record (get_or cs j d) { last = now })) (sym at.0)
    ∙ seen-present t now d cs (subst AreApart are apart) within

pub seen-missing : (t : Tuple) (now : ℕ) (cs : List Conn) (keys : List Tuple) → keys ≡ map tuple_of cs → None ≡ position (tuple_eq t) keys → cs ≡ map (seen_by t now) cs
seen-missing t now cs keys are missing =
    let pos = position_or_len (tuple_eq t) (map tuple_of cs) in
    let tuples = map tuple_of cs in
    let past = missing_if pos (length tuples) (nat_lt pos (length tuples)) refl (missing ∙ ap (position (tuple_eq t)) are) in
    let beyond : length cs ≤ pos = subst (λ (n : ℕ). n ≤ pos) (length-tuples cs) past in
    sym (seen-absent t now cs beyond)

-- a tuple that is not known is not in the index
pub absent-unknown : (p : Packet) (list : List Conn) (keys : List Tuple) → keys ≡ map tuple_of list → list_any (is_of p) list ≡ false → list_any (tuple_eq (forth p)) keys ≡ false
absent-unknown p list keys are unknown =
    first_false (list_any (tuple_eq (forth p)) keys) (list_any (tuple_eq (back p)) keys) (known-tuples p list keys are ∙ unknown)
  where
    first_false : (a b : Bool) → a || b ≡ false → a ≡ false
    first_false true b h = h
    first_false false b h = refl
