-- Egresses as plain data, and the addresses of an egress node (Antrea's Egress; which Egress counts is this
-- project's own).
use Rattle.std.specs.Prelude.{ℕ, List, not, ◌&&◌, ◌∷◌, filter, map}
use Rattle.cl_types.specs.declared.addr.Addr.{Addr}
use Rattle.cl_types.specs.Text.{text_eq}
use Rattle.label_select.specs.Group.{Group}

pub record EgressData : Type 0 where
  pub name : List ℕ
  pub address : Addr
  pub node : List ℕ
  pub applied : Group

-- the addresses with which the Egresses of a node let traffic leave
abbrev pub addresses_of_node : List ℕ → List EgressData → List Addr
addresses_of_node node egresses = map (λ (e : EgressData). e.address) (filter (λ (e : EgressData). text_eq e.node node) egresses)

-- the addresses with which an Egress and the others of its node let traffic leave
abbrev pub addresses_beside : EgressData → List EgressData → List Addr
addresses_beside e others =
    e.address ∷ map (λ (o : EgressData). o.address) (filter (λ (o : EgressData). not (text_eq o.name e.name) && text_eq o.node e.node) others)
