-- Blocks that have an address in common meet, so an address is in the blocks of one node at most.
use Rattle.std.proofs.Common.{◌≡◌, ℕ, ◌+◌, ◌-◌, ◌≤◌, ◌/◌, ◌^◌, ◌==◌, List, [], ◌∷◌, Bool, true, false, ◌&&◌, ◌||◌, Option, Some, None, refl, sym, ap, ◌∙◌, arith, eq-eqb}
use borrow.Author.Tests.{eqb-true}
use Rattle.std.specs.List.{AllByRecursion}
use Rattle.std.specs.Option.{ForSome, option_map_or}
use Rattle.std.specs.declared.cmp.Ordering.{Ordering}
use Rattle.std.specs.declared.cmp.Ordering.TheVariants.{Less, Equal, Greater}
use Rattle.std.specs.Ordering.{match_ordering}
use Rattle.std.proofs.lemmas.Bool.{true≢false, ltb-true, ltb-false}
use Rattle.std.proofs.lemmas.Nat.{shr-shr}
use Rattle.std.specs.Prelude.{nat_lt}
use Rattle.cl_types.specs.declared.addr.Addr.{Addr}
use Rattle.cl_types.specs.declared.addr.Addr.TheVariants.{V4, V6}
use Rattle.cl_types.specs.Addr.{width_of, number_of}
use Rattle.cl_types.specs.Ascending.{found}
use Rattle.cl_types.specs.AscendingLaws.{found_holds}
use Rattle.cl_types.specs.Prefix.{PrefixData, free_bits, holds}
use Rattle.cl_types.specs.Text.{text_order}
use Rattle.cluster_types.specs.Cluster.{AllBlocksApart}
use Rattle.cluster_types.specs.Node.{NodeData, IsNode, IsNodeBlock, IsNodeBlock6, blocks_meet, both_meet, nodes_meet, node_holds}
use Rattle.cluster_objects.specs.Apply.{at_node}
use Rattle.cluster_objects.proofs.BlocksApart.{nodes_turned}
use Rattle.cluster_objects.proofs.Tiers.{some_one}

both : (b c : Bool) → b && c ≡ true → (b ≡ true) × (c ≡ true)
both true c e = (refl, e)
both false c e = cc

either : (b c : Bool) (P : Type 0) → b || c ≡ true → (b ≡ true → P) → (c ≡ true → P) → P
either true c P e f g = f refl
either false c P e f g = g e

or_true : (b c : Bool) → c ≡ true → (b || c) ≡ true
or_true true c e = refl
or_true false c e = e

-- ---- two blocks with an address in common

family : (a : PrefixData) (x : Addr) → holds a x ≡ true → width_of x ≡ width_of a.base
family a x e = eqb-true (width_of x) (width_of a.base) (both (width_of x == width_of a.base) _ e).0

bits : (a : PrefixData) (x : Addr) → holds a x ≡ true → number_of x / 2 ^ free_bits a ≡ number_of a.base / 2 ^ free_bits a
bits a x e = eqb-true (number_of x / 2 ^ free_bits a) (number_of a.base / 2 ^ free_bits a) (both (width_of x == width_of a.base) _ e).1

-- a quotient by a higher power goes by the lower one
by_lower : (n a b : ℕ) → a ≤ b → n / 2 ^ b ≡ n / 2 ^ a / 2 ^ (b - a)
by_lower n a b low =
    let whole : a + (b - a) ≡ b = omega arith in
    ap (λ m. n / 2 ^ m) (sym whole) ∙ sym (shr-shr n a (b - a))

-- the block with more free bits contains the base of the other
contains_base : (a b : PrefixData) (x : Addr) → free_bits a ≤ free_bits b → holds a x ≡ true → holds b x ≡ true → holds b a.base ≡ true
contains_base a b x low in_a in_b =
    let widths : width_of a.base ≡ width_of b.base = sym (family a x in_a) ∙ family b x in_b in
    let numbers : number_of a.base / 2 ^ free_bits b ≡ number_of b.base / 2 ^ free_bits b =
    by_lower (number_of a.base) (free_bits a) (free_bits b) low
    ∙ ap (λ q. q / 2 ^ (free_bits b - free_bits a)) (sym (bits a x in_a))
    ∙ sym (by_lower (number_of x) (free_bits a) (free_bits b) low)
    ∙ bits b x in_b in
    ap (λ t. t && (number_of a.base / 2 ^ free_bits b == number_of b.base / 2 ^ free_bits b)) (eq-eqb (width_of a.base) (width_of b.base) widths)
    ∙ eq-eqb (number_of a.base / 2 ^ free_bits b) (number_of b.base / 2 ^ free_bits b) numbers

pub share_meet : (a b : PrefixData) (x : Addr) → holds a x ≡ true → holds b x ≡ true → blocks_meet a b ≡ true
share_meet a b x in_a in_b = by_size (nat_lt (free_bits b) (free_bits a)) refl
  where
    by_size : (t : Bool) → nat_lt (free_bits b) (free_bits a) ≡ t → blocks_meet a b ≡ true
    by_size false is = or_true (holds a b.base) (holds b a.base) (contains_base a b x (ltb-false (free_bits b) (free_bits a) is) in_a in_b)
    by_size true is =
        let fewer = ltb-true (free_bits b) (free_bits a) is in
        ap (λ t. t || holds b a.base) (contains_base b a x (omega (arith, fewer)) in_b in_a)

-- ---- two nodes with an address in common

four : (a : Addr) (len : ℕ) → IsNodeBlock a len → width_of a ≡ 32
four (V4 n) len is = refl
four (V6 n) len is = absurd is

six : (a : Addr) (len : ℕ) → IsNodeBlock6 a len → width_of a ≡ 128
six (V4 n) len is = absurd is
six (V6 n) len is = refl

one_width : (w : ℕ) → w ≡ 32 → w ≡ 128 → ⊥
one_width w e f = omega (arith, e, f)

-- no address of IPv6 is in the block of IPv4, and the other way round
not_in_six : (b : Option PrefixData) (x : Addr) → ForSome b (λ (p : PrefixData). IsNodeBlock6 p.base p.len) → width_of x ≡ 32 → option_map_or (λ (p : PrefixData). holds p x) b false ≡ true → ⊥
not_in_six None x form narrow e = true≢false (sym e)
not_in_six (Some p) x form narrow e = one_width (width_of x) narrow (family p x e ∙ six p.base p.len (form p refl))

both_six : (b d : Option PrefixData) (x : Addr) → option_map_or (λ (p : PrefixData). holds p x) b false ≡ true → option_map_or (λ (p : PrefixData). holds p x) d false ≡ true → both_meet b d ≡ true
both_six None d x e f = absurd (true≢false (sym e))
both_six (Some p) None x e f = absurd (true≢false (sym f))
both_six (Some p) (Some q) x e f = share_meet p q x e f

nodes_share_meet : (n m : NodeData) (x : Addr) → IsNode n.cidr n.cidr6 → IsNode m.cidr m.cidr6 → node_holds n x ≡ true → node_holds m x ≡ true → nodes_meet n m ≡ true
nodes_share_meet n m x n_form m_form in_n in_m =
    either (holds n.cidr x) (option_map_or (λ (p : PrefixData). holds p x) n.cidr6 false) (nodes_meet n m ≡ true) in_n
    (λ e. either (holds m.cidr x) (option_map_or (λ (p : PrefixData). holds p x) m.cidr6 false) (nodes_meet n m ≡ true) in_m
    (λ f. ap (λ t. t || both_meet n.cidr6 m.cidr6) (share_meet n.cidr m.cidr x e f))
    (λ f. absurd (not_in_six m.cidr6 x m_form.six (family n.cidr x e ∙ four n.cidr.base n.cidr.len n_form.four) f)))
    (λ e. either (holds m.cidr x) (option_map_or (λ (p : PrefixData). holds p x) m.cidr6 false) (nodes_meet n m ≡ true) in_m
    (λ f. absurd (not_in_six n.cidr6 x n_form.six (family m.cidr x f ∙ four m.cidr.base m.cidr.len m_form.four) e))
    (λ f. or_true (blocks_meet n.cidr m.cidr) (both_meet n.cidr6 m.cidr6) (both_six n.cidr6 m.cidr6 x e f)))

-- of nodes that are apart no two meet
apart_is_one : (n m : NodeData) (ns : List NodeData) → AllBlocksApart ns → nodes_meet n m ≡ true → found (at_node n.name) ns ≡ Some n → found (at_node m.name) ns ≡ Some m → n ≡ m
apart_is_one n m [] apart meet e f = cc
apart_is_one n m (y ∷ ys) apart meet e f = by_order (text_order y.name n.name) (text_order y.name m.name) e f (apart_is_one n m ys apart.1 meet)
  where
    not_met : (k l : NodeData) → y ≡ k → found (at_node l.name) ys ≡ Some l → nodes_meet k l ≡ true → ⊥
    not_met k l same there met =
        true≢false (sym met ∙ ap (λ (z : NodeData). nodes_meet z l) (sym same) ∙ found_holds (at_node l.name) (λ (z : NodeData). nodes_meet y z ≡ false) ys l apart.0 there)

    by_order : (r s : Ordering) → match_ordering r (found (at_node n.name) ys) (Some y) None ≡ Some n → match_ordering s (found (at_node m.name) ys) (Some y) None ≡ Some m
        → (found (at_node n.name) ys ≡ Some n → found (at_node m.name) ys ≡ Some m → n ≡ m) → n ≡ m
    by_order Less Less g h rest = rest g h
    by_order Equal Equal g h rest = sym (some_one g) ∙ some_one h
    by_order Equal Less g h rest = absurd (not_met n m (some_one g) h meet)
    by_order Less Equal g h rest = absurd (not_met m n (some_one h) g (nodes_turned m n ∙ meet))
    by_order Greater s g h rest = cc
    by_order Less Greater g h rest = cc
    by_order Equal Greater g h rest = cc

pub one_node : (n m : NodeData) (ns : List NodeData) (x : Addr) → AllBlocksApart ns → AllByRecursion (λ (k : NodeData). IsNode k.cidr k.cidr6) ns
    → found (at_node n.name) ns ≡ Some n → found (at_node m.name) ns ≡ Some m → node_holds n x ≡ true → node_holds m x ≡ true → n ≡ m
one_node n m ns x apart forms e f in_n in_m =
    let form : (k : NodeData) → found (at_node k.name) ns ≡ Some k → IsNode k.cidr k.cidr6 = λ k g. found_holds (at_node k.name) (λ (l : NodeData). IsNode l.cidr l.cidr6) ns k forms g in
    apart_is_one n m ns apart (nodes_share_meet n m x (form n e) (form m f) in_n in_m) e f
