-- A run begins as the machine does once its nodes are fixed.
use Rattle.std.proofs.Common.{◌≡◌, ℕ, List, [], ◌∷◌, suc, length, map, replicate, refl, sym, ap, ap₂, subst, ◌∙◌}
use Rattle.std.proofs.lemmas.List.{length-replicate}
use Rattle.std.specs.List.{AllByRecursion}
use Rattle.cluster_types.specs.Cluster.{ClusterData}
use Rattle.cluster_types.specs.Node.{NodeData}
use Rattle.node_streams.specs.declared.messages.Trio.{Trio}
use Rattle.ctl_core.specs.Controller.{ControllerData, IsNew}
use Rattle.node_streams.specs.Streams.{first_streams}
use Rattle.held_maps.specs.Held.{HeldData, nothing_held}
use Rattle.run_machine.specs.Machine.{first_site}
use Rattle.watch_streams.specs.Ports.{QueueData}
use Rattle.suite_run.specs.RunState.{HasRings, IsRun, begun_run, run_of, sites_of}
use Rattle.suite_run.specs.Starting.{empty_ports}

first_sites : (ring : ℕ) (nodes : List NodeData)
    → sites_of (first_streams nodes (replicate (length nodes) (empty_ports ring))) (replicate (length nodes) nothing_held) ≡ map first_site nodes
first_sites ring [] = refl
first_sites ring (n ∷ nodes) = ap (λ xs. first_site n ∷ xs) (first_sites ring nodes)

first_count : (ring : ℕ) (nodes : List NodeData) → length (first_streams nodes (replicate (length nodes) (empty_ports ring))) ≡ length nodes
first_count ring [] = refl
first_count ring (n ∷ nodes) = ap suc (first_count ring nodes)

first_rings : (ring : ℕ) (nodes : List NodeData) → AllByRecursion (HasRings ring) (first_streams nodes (replicate (length nodes) (empty_ports ring)))
first_rings ring [] = tt
first_rings ring (n ∷ nodes) = (record { policies = refl; addresses = refl; applied = refl }, first_rings ring nodes)

module _ (given : ClusterData) (ring count : ℕ) (ports : List (Trio QueueData)) (c : ControllerData QueueData) (held : List HeldData)
    (is : IsNew given ports c) (each : count ≡ length given.nodes) (ports_are : ports ≡ replicate count (empty_ports ring)) (held_are : held ≡ replicate count nothing_held) where
  nodes_are : c.nodes ≡ first_streams given.nodes (replicate (length given.nodes) (empty_ports ring))
  nodes_are = is.nodes ∙ ap (first_streams given.nodes) (ports_are ∙ ap (λ n. replicate n (empty_ports ring)) each)

  agents_are : held ≡ replicate (length given.nodes) nothing_held
  agents_are = held_are ∙ ap (λ n. replicate n nothing_held) each

  pub begins_run : IsRun c held ring
  begins_run = record {
    unspent = is.spent;
    agents = ap length agents_are ∙ (length-replicate (length given.nodes) nothing_held ∙ sym (ap length nodes_are ∙ first_count ring given.nodes));
    rings = subst (AllByRecursion (HasRings ring)) (sym nodes_are) (first_rings ring given.nodes);
  }

  pub begins_as_machine : run_of c held ring ≡ begun_run given ring
  begins_as_machine i = record { cluster = is.cluster i; revision = is.revision i; ring = ring; sites = (ap₂ sites_of nodes_are agents_are ∙ first_sites ring given.nodes) i }
