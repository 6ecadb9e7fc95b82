-- The place of a node among the agents.
use Rattle.std.proofs.Common.{◌≡◌, ℕ, zero, suc, ◌<◌, List, [], ◌∷◌, length, get_or, map, Bool, true, false, Option, Some, None, IsSome, Result, Ok, Err, IfOk, refl, sym, ap, subst, ◌∙◌, arith}
use Rattle.std.specs.List.{AllByRecursion}
use Rattle.std.specs.declared.cmp.Ordering.TheVariants.{Less, Equal}
use Rattle.std.proofs.lemmas.Cmp.{tied_itself}
use Rattle.std.proofs.lemmas.List.{get_or-map, length-map}
use Rattle.cl_types.specs.Ascending.{Ascends, IsGap, IsPlace, found}
use Rattle.cl_types.specs.AscendingLaws.{found_in_gap}
use Rattle.cl_types.specs.OrderLaws.{text_eq-one, text_order_exact}
use Rattle.cl_types.specs.Text.{text_eq, text_order, text_order_total}
use Rattle.cluster_types.specs.Node.{NodeData}
use Rattle.ctl_core.specs.Controller.{ControllerData, IsController}
use Rattle.node_streams.specs.Streams.{NodeStreams, streams_at}
use Rattle.held_maps.specs.Held.{HeldData}
use Rattle.run_machine.specs.Machine.{SiteData}
use Rattle.suite_run.specs.Doing.{NameAt, is_listed, node_names}
use Rattle.suite_run.specs.RunState.{sites_of}
use Rattle.watch_streams.specs.Ports.{QueueData}

abbrev pub Nodes : Type 0
Nodes = List (NodeStreams QueueData)

abbrev pub name : NodeStreams QueueData → List ℕ
name n = n.node

abbrev pub node_name : NodeData → List ℕ
node_name n = n.name

-- ---- names of sites

pub site_names : (nodes : Nodes) (held : List HeldData) → length held ≡ length nodes → node_names (sites_of nodes held) ≡ map name nodes
site_names [] held same = refl
site_names (n ∷ nodes) [] same = absurd (omega (arith, same))
site_names (n ∷ nodes) (h ∷ held) same = ap (λ names. n.node ∷ names) (site_names nodes held (omega (arith, same)))

pub listed_place : (node : List ℕ) (sites : List SiteData) → is_listed node sites ≡ true → (i : ℕ) × (NameAt (node_names sites) i node)
listed_place node [] listed = cc
listed_place node (x ∷ sites) listed = by_test (text_eq x.node node) refl (listed_place node sites)
  where
    by_test : (b : Bool) → text_eq x.node node ≡ b → (is_listed node sites ≡ true → (i : ℕ) × (NameAt (node_names sites) i node)) → (i : ℕ) × (NameAt (x.node ∷ node_names sites) i node)
    by_test true is rest = (0, record { within = omega arith; is = text_eq-one x.node node is })
    by_test false is rest =
        let later : is_listed node sites ≡ true = rw is at listed in
        let p = rest later in
        (suc p.0, record { within = omega (arith, p.1.within); is = p.1.is })

-- ---- places among ascending names

module _ {T : Type 0} (key : T → List ℕ) (node : List ℕ) where
  pub less_there : (x : T) (xs : List T) (i : ℕ) → AllByRecursion (λ y. text_order (key x) (key y) ≡ Less) xs → NameAt (map key xs) i node → text_order (key x) node ≡ Less
  less_there x [] i all p = absurd (omega (arith, p.within))
  less_there x (y ∷ ys) zero all p = subst (λ t. text_order (key x) t ≡ Less) p.is all.0
  less_there x (y ∷ ys) (suc i) all p = less_there x ys i all.1 (record { within = omega (arith, p.within); is = p.is })

  pub found_some : (xs : List T) (i : ℕ) → Ascends key text_order xs → NameAt (map key xs) i node → IsSome (found (λ x. text_order (key x) node) xs)
  found_some [] i up p = absurd (omega (arith, p.within))
  found_some (x ∷ xs) zero up p =
      let equal : text_order (key x) node ≡ Equal = subst (λ t. text_order (key x) t ≡ Equal) p.is (tied_itself text_order_total (key x)) in
      rw equal refl
  found_some (x ∷ xs) (suc i) up p =
      let later : NameAt (map key xs) i node = record { within = omega (arith, p.within); is = p.is } in
      rw (less_there x xs i up.0 later) (found_some xs i up.1 later)

  pub name_at_place : (xs : List T) (i : ℕ) → IsPlace (λ x. text_order (key x) node) xs i → NameAt (map key xs) i node
  name_at_place [] i p = absurd (omega (arith, p.within))
  name_at_place (x ∷ xs) i p = record {
    within = omega (arith, p.within, length-map (x ∷ xs) key);
    is = get_or-map key (x ∷ xs) i x [] p.within ∙ text_order_exact _ _ (p.here x);
  }

  none_there : (o : Option T) → o ≡ None → IsSome o → ⊥
  none_there None none there = cc
  none_there (Some x) none there = cc

  pub no_gap : (xs : List T) (i : ℕ) → IsGap (λ x. text_order (key x) node) xs i → IsSome (found (λ x. text_order (key x) node) xs) → ⊥
  no_gap xs i gap listed = none_there (found (λ x. text_order (key x) node) xs) (found_in_gap (λ x. text_order (key x) node) xs i gap.within gap.before gap.after) listed

-- ---- a listed node

module _ (c : ControllerData QueueData) (held : List HeldData) (is : IsController c) (same : length held ≡ length c.nodes) (node : List ℕ) where
  sites_named : node_names (sites_of c.nodes held) ≡ map node_name c.cluster.nodes
  sites_named = site_names c.nodes held same ∙ is.nodes

  pub listed_node : is_listed node (sites_of c.nodes held) ≡ true → IsSome (found (λ n. text_order (node_name n) node) c.cluster.nodes)
  listed_node listed =
      let p = listed_place node (sites_of c.nodes held) listed in
      found_some node_name node c.cluster.nodes p.0 is.cluster.nodes_ascend (subst (λ names. NameAt names p.0 node) sites_named p.1)

  pub listed_streams : is_listed node (sites_of c.nodes held) ≡ true → IsSome (streams_at node c.nodes)
  listed_streams listed =
      let p = listed_place node (sites_of c.nodes held) listed in
      found_some name node c.nodes p.0 is.ascend (subst (λ names. NameAt names p.0 node) (site_names c.nodes held same) p.1)

  pub place_of_node : (i : ℕ) → IsPlace (λ n. text_order (node_name n) node) c.cluster.nodes i → NameAt (node_names (sites_of c.nodes held)) i node
  place_of_node i p = subst (λ names. NameAt names i node) (sym sites_named) (name_at_place node_name node c.cluster.nodes i p)

-- a named node has an agent
pub place_within : (c : ControllerData QueueData) (held : List HeldData) → length held ≡ length c.nodes → (node : List ℕ) (i : ℕ) → NameAt (node_names (sites_of c.nodes held)) i node → i < length held
place_within c held same node i p = omega (arith, same, p.within, ap length (site_names c.nodes held same), length-map c.nodes name)

module _ (c : ControllerData QueueData) (held : List HeldData) (is : IsController c) (same : length held ≡ length c.nodes) where
  pub node_within : (i : ℕ) → i < length (sites_of c.nodes held) → i < length c.cluster.nodes
  node_within i within =
      omega (arith, within, ap length (sites_named c held is same []), length-map (sites_of c.nodes held) (λ (x : SiteData). x.node), length-map c.cluster.nodes node_name)

  pub name_of_node : (i : ℕ) (n : NodeData) → i < length (sites_of c.nodes held) → n ≡ get_or c.cluster.nodes i n → NameAt (node_names (sites_of c.nodes held)) i n.name
  name_of_node i n within is_node = record {
    within = omega (arith, within, length-map (sites_of c.nodes held) (λ (x : SiteData). x.node));
    is = ap (λ names. get_or names i []) (sites_named c held is same []) ∙ (get_or-map node_name c.cluster.nodes i n [] (node_within i within) ∙ sym (ap node_name is_node));
  }

  pub agents_are_sites : length (node_names (sites_of c.nodes held)) ≡ length held
  agents_are_sites = ap length (site_names c.nodes held same) ∙ (length-map c.nodes name ∙ sym same)

pub names_within : (sites : List SiteData) (i : ℕ) → i < length (node_names sites) → i < length sites
names_within sites i within = omega (arith, within, length-map sites (λ (x : SiteData). x.node))

-- what holds of a name holds of what is it
pub if_named : {E : Type 0} (r : Result (List ℕ) E) (P : List ℕ → Type 0) (known : List ℕ) → IfOk r (λ t. t ≡ known) → P known → IfOk r P
if_named (Ok t) P known is holds = subst P (sym is) holds
if_named (Err e) P known is holds = tt
