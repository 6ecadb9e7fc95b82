-- A node whose blocks meet none of another node's stays apart from all.
use Rattle.std.proofs.Common.{◌≡◌, List, [], ◌∷◌, Bool, true, false, not, ◌&&◌, ◌||◌, Option, Some, None, find, filter, if◌then◌else◌, refl, sym, ap, ◌∙◌}
use Rattle.std.specs.List.{AllByRecursion}
use Rattle.std.specs.declared.cmp.Ordering.{Ordering}
use Rattle.std.specs.declared.cmp.Ordering.TheVariants.{Less, Equal, Greater}
use Rattle.std.specs.Ordering.{is_eq, match_ordering, ordering_reverse}
use Rattle.std.proofs.lemmas.Bool.{true≢false}
use Rattle.cl_types.specs.AscendingLaws.{all_put}
use Rattle.cl_types.specs.Ascending.{Ascends, put}
use Rattle.cl_types.specs.ListLaws.{all_filter}
use Rattle.cl_types.specs.OrderLaws.{text_eq-cmp}
use Rattle.cl_types.specs.Prefix.{PrefixData, holds}
use Rattle.cl_types.specs.Text.{text_eq, text_order, text_order_total}
use Rattle.cluster_objects.specs.Apply.{at_node}
use Rattle.cluster_types.specs.Cluster.{AllBlocksApart}
use Rattle.cluster_types.specs.Node.{NodeData, blocks_meet, both_meet, nodes_meet}

or_turned : (a b : Bool) → (a || b) ≡ (b || a)
or_turned true true = refl
or_turned true false = refl
or_turned false true = refl
or_turned false false = refl

blocks_turned : (a b : PrefixData) → blocks_meet a b ≡ blocks_meet b a
blocks_turned a b = or_turned (holds a b.base) (holds b a.base)

both_turned : (a b : Option PrefixData) → both_meet a b ≡ both_meet b a
both_turned None None = refl
both_turned None (Some b) = refl
both_turned (Some a) None = refl
both_turned (Some a) (Some b) = blocks_turned a b

pub nodes_turned : (n m : NodeData) → nodes_meet n m ≡ nodes_meet m n
nodes_turned n m =
    ap (λ b. b || both_meet n.cidr6 m.cidr6) (blocks_turned n.cidr m.cidr) ∙ ap (λ b. blocks_meet m.cidr n.cidr || b) (both_turned n.cidr6 m.cidr6)

-- a node at another name has no block that meets
abbrev IsFree : NodeData → NodeData → Type 0
IsFree n m = text_eq m.name n.name ≡ false → nodes_meet n m ≡ false

pub none_met : (n : NodeData) (ms : List NodeData) → find (λ (m : NodeData). not (text_eq m.name n.name) && nodes_meet n m) ms ≡ None → AllByRecursion (IsFree n) ms
none_met n [] none = tt
none_met n (m ∷ ms) none = by_test (text_eq m.name n.name) (nodes_meet n m) refl refl none (none_met n ms)
  where
    later : Option NodeData
    later = find (λ (k : NodeData). not (text_eq k.name n.name) && nodes_meet n k) ms

    by_test : (t b : Bool) → text_eq m.name n.name ≡ t → nodes_meet n m ≡ b → (if not t && b then Some m else later) ≡ None → (later ≡ None → AllByRecursion (IsFree n) ms) → AllByRecursion (IsFree n) (m ∷ ms)
    by_test true b named is e rest = (λ other. absurd (true≢false (sym named ∙ other)), rest e)
    by_test false true named is e rest = cc
    by_test false false named is e rest = (λ other. is, rest e)

-- past a name that isn't before n's, all names come after n's
past : (n y z : NodeData) (r : Ordering) → text_order y.name n.name ≡ r → (r ≡ Less → ⊥) → text_order y.name z.name ≡ Less → text_order n.name z.name ≡ Less
past n y z Less is not less = absurd (not refl)
past n y z Equal is not less = sym (text_order_total.congr y.name n.name z.name is) ∙ less
past n y z Greater is not less =
    text_order_total.trans n.name y.name z.name (text_order_total.antisymm n.name y.name ∙ ap ordering_reverse is) less

-- a name before or after another is another
other_name : (y n : NodeData) (r : Ordering) → text_order n.name y.name ≡ r → is_eq r ≡ false → text_eq y.name n.name ≡ false
other_name y n r is not = text_eq-cmp y.name n.name ∙ ap is_eq is ∙ not

meets_none_behind : (n y : NodeData) (r : Ordering) → text_order y.name n.name ≡ r → (r ≡ Less → ⊥) → (zs : List NodeData)
    → AllByRecursion (λ (z : NodeData). text_order y.name z.name ≡ Less) zs → AllByRecursion (IsFree n) zs → AllByRecursion (λ (m : NodeData). nodes_meet n m ≡ false) zs
meets_none_behind n y r is not [] less free = tt
meets_none_behind n y r is not (z ∷ zs) less free =
    (free.0 (other_name z n Less (past n y z r is not less.0) refl), meets_none_behind n y r is not zs less.1 free.1)

pub put_blocks_apart : (n : NodeData) (ms : List NodeData) → Ascends (λ (m : NodeData). m.name) text_order ms → AllByRecursion (IsFree n) ms → AllBlocksApart ms → AllBlocksApart (put (at_node n.name) n ms)
put_blocks_apart n [] up free apart = (tt, tt)
put_blocks_apart n (y ∷ ys) up free apart = by_place (text_order y.name n.name) refl (put_blocks_apart n ys up.1 free.1 apart.1)
  where
    by_place : (r : Ordering) → text_order y.name n.name ≡ r → AllBlocksApart (put (at_node n.name) n ys) → AllBlocksApart (match_ordering r (y ∷ put (at_node n.name) n ys) (n ∷ ys) (n ∷ y ∷ ys))
    by_place Less is more =
        let after = text_order_total.antisymm n.name y.name ∙ ap ordering_reverse is in
        (all_put (at_node n.name) (λ (m : NodeData). nodes_meet y m ≡ false) n ys (nodes_turned y n ∙ free.0 (other_name y n Greater after refl)) apart.0, more)
    by_place Equal is more = (meets_none_behind n y Equal is (λ e. cc) ys up.0 free.1, apart.1)
    by_place Greater is more =
        let before = text_order_total.antisymm n.name y.name ∙ ap ordering_reverse is in
        ((free.0 (other_name y n Less before refl), meets_none_behind n y Greater is (λ e. cc) ys up.0 free.1), apart)

-- what a test keeps of nodes that are apart is apart
pub kept_blocks_apart : (keep : NodeData → Bool) (ns : List NodeData) → AllBlocksApart ns → AllBlocksApart (filter keep ns)
kept_blocks_apart keep [] apart = tt
kept_blocks_apart keep (n ∷ ns) apart = by_test (keep n) (kept_blocks_apart keep ns apart.1)
  where
    by_test : (b : Bool) → AllBlocksApart (filter keep ns) → AllBlocksApart (if b then n ∷ filter keep ns else filter keep ns)
    by_test true rest = (all_filter (λ (m : NodeData). nodes_meet n m ≡ false) keep ns apart.0, rest)
    by_test false rest = rest
