-- What the streams of a node are told, and what an offer leaves of them (this project's own).
use Rattle.std.specs.Prelude.{◌≡◌, ◌≢◌, ℕ, ◌≤◌, List, [], ◌∷◌, Bool, true, false, not, ◌&&◌, Option, Some, None, IfSome}
use Rattle.cl_types.specs.Causes.{Rose}
use Rattle.watch_streams.specs.declared.message.Msg.{Msg}
use Rattle.watch_streams.specs.Ports.{PortState, PutsIn}
use Rattle.node_streams.specs.declared.messages.NodeCuts.{NodeCuts}
use Rattle.node_streams.specs.declared.messages.NodeMessages.{NodeMessages}
use Rattle.node_streams.specs.Streams.{NodeStreams, StreamData}

-- ---- what an offer leaves

-- the port took the message in, and had room where it tells any
pub record TakesIn {P : Type 0} (state : P → PortState) (Same : P → P → Type 0) (m : Msg) (old new : P) : Type 0 where
  pub sent : PutsIn m (state old) (state new)
  pub room : IfSome (state old).room (λ places. places ≢ 0)
  pub same : Same old new

-- the port handed the message back and counted it, and had no room where it tells any
pub record GivesBack {P : Type 0} (state : P → PortState) (Same : P → P → Type 0) (old new : P) : Type 0 where
  pub sent : (state new).sent ≡ (state old).sent
  pub later : (state old).backs ≤ (state new).backs
  pub counted : Rose (state old).backs (state new).backs
  pub room : IfSome (state old).room (λ places. places ≡ 0)
  pub same : Same old new

-- A stream without a message stays as it is. One that is told its message stays as live as it was where the port took it
-- in, and is cut where it came back.
abbrev pub IsTold : {P : Type 0} → (P → PortState) → (P → P → Type 0) → Option Msg → Bool → StreamData P → StreamData P → Type 0
IsTold state Same None cut old new = (cut ≡ false) × (new ≡ old)
IsTold state Same (Some m) false old new = (new.live ≡ old.live) × TakesIn state Same m old.port new.port
IsTold state Same (Some m) true old new = (new.live ≡ false) × GivesBack state Same old.port new.port

-- each stream of the node was told its message, where it has one
pub record NodeIsTold {P : Type 0} (state : P → PortState) (Same : P → P → Type 0) (m : NodeMessages) (cuts : NodeCuts) (old new : NodeStreams P) : Type 0 where
  pub node : new.node ≡ old.node
  pub policies : IsTold state Same m.policies cuts.policies old.policies new.policies
  pub addresses : IsTold state Same m.addresses cuts.addresses old.addresses new.addresses
  pub applied : IsTold state Same m.applied cuts.applied old.applied new.applied

-- ---- which streams were cut

-- the stream was live, and isn't any more
abbrev pub was_cut : {P : Type 0} → StreamData P → StreamData P → Bool
was_cut old new = old.live && not new.live

abbrev pub cuts_of : {P : Type 0} → NodeStreams P → NodeStreams P → NodeCuts
cuts_of old new = record {
  policies = was_cut old.policies new.policies;
  addresses = was_cut old.addresses new.addresses;
  applied = was_cut old.applied new.applied;
}

-- ---- all nodes

-- each stream of each node was told its message, where it has one
abbrev pub AreTold : {P : Type 0} → (P → PortState) → (P → P → Type 0) → (NodeStreams P → NodeMessages) → List (NodeStreams P) → List (NodeStreams P) → Type 0
AreTold state Same messages [] [] = Unit {0}
AreTold state Same messages [] (new ∷ news) = ⊥
AreTold state Same messages (old ∷ olds) [] = ⊥
AreTold state Same messages (old ∷ olds) (new ∷ news) =
    NodeIsTold state Same (messages old) (cuts_of old new) old new × AreTold state Same messages olds news

-- only live streams have a message
abbrev pub TellsTheLive : {P : Type 0} → NodeMessages → NodeStreams P → Type 0
TellsTheLive m n = IfSome m.policies (λ _. n.policies.live ≡ true) × IfSome m.addresses (λ _. n.addresses.live ≡ true) × IfSome m.applied (λ _. n.applied.live ≡ true)
