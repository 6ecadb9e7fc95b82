-- Where the nodes have names of their own, a stream is among the full ones where no place is left on it.
use Rattle.std.proofs.Common.{◌≡◌, ℕ, List, [], ◌∷◌, length, map, filter, Bool, true, false, ◌&&◌, ◌||◌, nat_le, ap, ◌∙◌, arith}
use Rattle.std.specs.List.{AllByRecursion, list_any}
use Rattle.std.specs.declared.cmp.Ordering.TheVariants.{Less}
use Rattle.std.specs.Ordering.{is_eq, ordering_reverse}
use Rattle.cl_types.specs.Ascending.{Ascends}
use Rattle.cl_types.specs.ListLaws.{all_weaker}
use Rattle.cl_types.specs.OrderLaws.{text_eq-cmp, text_eq-itself}
use Rattle.cl_types.specs.Text.{text_eq, text_order, text_order_total}
use Rattle.cl_types.specs.declared.stream.Stream.{Stream}
use Rattle.cl_types.specs.declared.stream.Stream.TheVariants.{Policies, Addresses, Applied}
use Rattle.run_machine.specs.Lines.{every_stream, full_at, full_streams}
use Rattle.run_machine.specs.Machine.{SiteData, StreamOf, WorldData, channel_on, is_among, is_full, stream_eq}
use Rattle.run_machine.specs.Settling.{stream_of}
use Rattle.watch_streams.specs.OneOfAll.{all_of_both, and_true, and_false, list_any-all, list_any-each, list_any-filter, list_any-flat_map, list_any-map, list_any-none, or_false}

abbrev pub node_of : SiteData → List ℕ
node_of x = x.node

differ_before : (a b : List ℕ) → text_order a b ≡ Less → text_eq b a ≡ false
differ_before a b less = text_eq-cmp b a ∙ ap is_eq less

differ_after : (a b : List ℕ) → text_order a b ≡ Less → text_eq a b ≡ false
differ_after a b less = text_eq-cmp a b ∙ ap is_eq (text_order_total.antisymm b a ∙ ap ordering_reverse less)

-- some node with the name passes
abbrev pub named_any : (SiteData → Bool) → List ℕ → List SiteData → Bool
named_any p node xs = list_any (λ (x : SiteData). text_eq x.node node && p x) xs

-- a node is the only one of its name
pub alone : (p : SiteData → Bool) (xs : List SiteData) → Ascends node_of text_order xs → AllByRecursion (λ (x : SiteData). named_any p x.node xs ≡ p x) xs
alone p [] up = tt
alone p (x ∷ xs) up = (
  ap (λ b. (b && p x) || named_any p x.node xs) (text_eq-itself x.node) ∙ (ap (λ b. p x || b) none ∙ or_false (p x)),
  all_of_both (λ (y : SiteData). text_order x.node y.node ≡ Less) (λ (y : SiteData). named_any p y.node xs ≡ p y) (λ (y : SiteData). named_any p y.node (x ∷ xs) ≡ p y)
      (λ y less rest. ap (λ b. (b && p x) || named_any p y.node xs) (differ_after x.node y.node less) ∙ rest) xs up.0 (alone p xs up.1),
)
  where
    none : named_any p x.node xs ≡ false
    none =
        list_any-all (λ (y : SiteData). text_eq y.node x.node && p y) (λ y. false) xs
        (all_weaker (λ (y : SiteData). text_order x.node y.node ≡ Less) (λ (y : SiteData). (text_eq y.node x.node && p y) ≡ false)
        (λ y less. ap (λ b. b && p y) (differ_before x.node y.node less)) xs up.0)
        ∙ list_any-none xs

-- ---- full streams

-- the stream of a node is among those of a node that are kept where the node has the name and the stream is kept
abbrev is_it : Stream → List ℕ → StreamOf → Bool
is_it s node b = stream_eq b.stream s && text_eq b.node node

among_kept : (f : Stream → Bool) (same : Bool) (s : Stream) → list_any (λ t. f t && (stream_eq t s && same)) every_stream ≡ (same && f s)
among_kept f true Policies = grind (arith, and_true, and_false, or_false)
among_kept f true Addresses = grind (arith, and_true, and_false, or_false)
among_kept f true Applied = grind (arith, and_true, and_false, or_false)
among_kept f false s = list_any-each (λ t. f t && (stream_eq t s && false)) (λ t. false) (λ t. ap (λ b. f t && b) (and_false (stream_eq t s)) ∙ and_false (f t)) every_stream ∙ list_any-none every_stream

among_of : (f : Stream → Bool) (x : SiteData) (s : Stream) (node : List ℕ) → list_any (is_it s node) (map (stream_of x) (filter f every_stream)) ≡ (text_eq x.node node && f s)
among_of f x s node =
    list_any-map (is_it s node) (stream_of x) (filter f every_stream)
    ∙ (list_any-filter (λ t. is_it s node (stream_of x t)) f every_stream ∙ among_kept f (text_eq x.node node) s)

among_full : (w : WorldData) (s : Stream) (node : List ℕ) → is_among (full_streams w) s node ≡ named_any (λ (x : SiteData). is_full w s x.node) node w.sites
among_full w s node =
    list_any-flat_map (is_it s node) (full_at w) w.sites
    ∙ list_any-each (λ x. list_any (is_it s node) (full_at w x)) (λ (x : SiteData). text_eq x.node node && is_full w s x.node)
    (λ x. among_of (λ t. is_full w t x.node) x s node) w.sites

-- no place is left on the stream
abbrev pub has_no_place : ℕ → Stream → SiteData → Bool
has_no_place ring s x = nat_le ring (length (channel_on s x).queue)

pub full_alone : (w : WorldData) (s : Stream) → Ascends node_of text_order w.sites
    → AllByRecursion (λ (x : SiteData). is_among (full_streams w) s x.node ≡ has_no_place w.ring s x) w.sites
full_alone w s up =
    all_of_both (λ (x : SiteData). named_any (λ (y : SiteData). is_full w s y.node) x.node w.sites ≡ is_full w s x.node)
    (λ (x : SiteData). is_full w s x.node ≡ has_no_place w.ring s x) (λ (x : SiteData). is_among (full_streams w) s x.node ≡ has_no_place w.ring s x)
    (λ x among full. among_full w s x.node ∙ (among ∙ full)) w.sites (alone (λ (y : SiteData). is_full w s y.node) w.sites up) (alone (has_no_place w.ring s) w.sites up)
