-- The nodes that the controller lists are those of the run's sites.
use Rattle.std.proofs.Common.{◌≡◌, ℕ, List, [], ◌∷◌, length, Bool, true, false, ◌||◌, is_some, refl, ap, ◌∙◌, arith}
use Rattle.std.specs.Prelude.{None, Some}
use Rattle.std.specs.Ordering.{match_ordering}
use Rattle.std.specs.declared.cmp.Ordering.{Ordering}
use Rattle.std.specs.declared.cmp.Ordering.TheVariants.{Less, Equal, Greater}
use Rattle.cl_types.specs.Text.{text_eq, text_order}
use Rattle.ctl_core.specs.Controller.{ControllerData, IsController}
use Rattle.node_streams.specs.Streams.{streams_at}
use Rattle.held_maps.specs.Held.{HeldData}
use Rattle.suite_run.specs.Doing.{is_listed}
use Rattle.suite_run.specs.RunState.{sites_of}
use Rattle.suite_run.proofs.Changed.{one_name}
use Rattle.suite_run.proofs.Placing.{Nodes, listed_streams}
use Rattle.watch_streams.specs.Ports.{QueueData}

or_true : (b : Bool) → (b || true) ≡ true
or_true true = refl
or_true false = refl

streams_listed : (node : List ℕ) (nodes : Nodes) (held : List HeldData) → length held ≡ length nodes → is_some (streams_at node nodes) ≡ true → is_listed node (sites_of nodes held) ≡ true
streams_listed node [] held same there = cc
streams_listed node (n ∷ nodes) [] same there = absurd (omega (arith, same))
streams_listed node (n ∷ nodes) (h ∷ held) same there = by_order (text_order n.node node) refl there (streams_listed node nodes held (omega (arith, same)))
  where
    by_order : (r : Ordering) → text_order n.node node ≡ r → is_some (match_ordering r (streams_at node nodes) (Some n) None) ≡ true
        → (is_some (streams_at node nodes) ≡ true → is_listed node (sites_of nodes held) ≡ true) → (text_eq n.node node || is_listed node (sites_of nodes held)) ≡ true
    by_order Less is here rest = ap (λ b. text_eq n.node node || b) (rest here) ∙ or_true (text_eq n.node node)
    by_order Equal is here rest = ap (λ b. b || is_listed node (sites_of nodes held)) (one_name n.node node is)
    by_order Greater is here rest = cc

same_test : (a b : Bool) → (a ≡ true → b ≡ true) → (b ≡ true → a ≡ true) → a ≡ b
same_test true true there back = refl
same_test true false there back = cc (there refl)
same_test false true there back = cc (back refl)
same_test false false there back = refl

pub listed_is : (c : ControllerData QueueData) (held : List HeldData) → IsController c → length held ≡ length c.nodes → (node : List ℕ)
    → is_some (streams_at node c.nodes) ≡ is_listed node (sites_of c.nodes held)
listed_is c held is same node =
    same_test (is_some (streams_at node c.nodes)) (is_listed node (sites_of c.nodes held)) (streams_listed node c.nodes held same) (listed_streams c held is same node)
