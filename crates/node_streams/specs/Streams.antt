-- The streams of the nodes, each with its port (this project's own).
use Rattle.std.specs.Prelude.{◌≡◌, ◌≢◌, ℕ, ◌≤◌, List, [], ◌∷◌, Bool, true, false, Option, Some, None, IfSome}
use Rattle.std.specs.declared.cmp.Ordering.{Ordering}
use Rattle.cl_types.specs.declared.stream.Stream.{Stream}
use Rattle.cl_types.specs.declared.stream.Stream.TheVariants.{Policies, Addresses, Applied}
use Rattle.cl_types.specs.Ascending.{found, put}
use Rattle.cl_types.specs.Text.{text_order}
use Rattle.cluster_types.specs.Node.{NodeData}
use Rattle.watch_streams.specs.declared.message.Msg.{Msg}
use Rattle.cl_types.specs.Causes.{Rose}
use Rattle.watch_streams.specs.Ports.{PortState, PutsIn, QueueData, IsTaken}
use Rattle.node_streams.specs.declared.messages.Trio.{Trio}

-- whether the stream is live, and its port
pub record StreamData (P : Type 0) : Type 0 where
  pub live : Bool
  pub port : P

-- the three streams of a node
pub record NodeStreams (P : Type 0) : Type 0 where
  pub node : List ℕ
  pub policies : StreamData P
  pub addresses : StreamData P
  pub applied : StreamData P

abbrev pub stream_of : {P : Type 0} → Stream → NodeStreams P → StreamData P
stream_of Policies n = n.policies
stream_of Addresses n = n.addresses
stream_of Applied n = n.applied

abbrev pub with_stream : {P : Type 0} → Stream → StreamData P → NodeStreams P → NodeStreams P
with_stream Policies stream n = record n { policies = stream }
with_stream Addresses stream n = record n { addresses = stream }
with_stream Applied stream n = record n { applied = stream }

-- ---- the streams of all nodes

abbrev pub at_node : {P : Type 0} → List ℕ → NodeStreams P → Ordering
at_node node n = text_order n.node node

abbrev pub streams_at : {P : Type 0} → List ℕ → List (NodeStreams P) → Option (NodeStreams P)
streams_at node nodes = found (at_node node) nodes

abbrev pub live_stream : {P : Type 0} → P → StreamData P
live_stream port = record { live = true; port = port }

abbrev pub live_streams : {P : Type 0} → List ℕ → Trio P → NodeStreams P
live_streams node ports =
    record { node = node; policies = live_stream ports.policies; addresses = live_stream ports.addresses; applied = live_stream ports.applied }

-- those of the node, where there is one
abbrev pub streams_for : {P : Type 0} → Option NodeData → Trio P → List (NodeStreams P)
streams_for None ports = []
streams_for (Some n) ports = live_streams n.name ports ∷ []

-- each node's streams are live, with the ports that are given in the order of the nodes
abbrev pub first_streams : {P : Type 0} → List NodeData → List (Trio P) → List (NodeStreams P)
first_streams nodes [] = []
first_streams [] (trio ∷ ports) = []
first_streams (n ∷ nodes) (trio ∷ ports) = live_streams n.name trio ∷ first_streams nodes ports

-- ---- changes of one stream

-- the one stream changed so, and nothing else of the node
pub record ChangesStream {P : Type 0} (s : Stream) (How : StreamData P → StreamData P → Type 0) (old new : NodeStreams P) : Type 0 where
  pub how : How (stream_of s old) (stream_of s new)
  pub rest : new ≡ with_stream s (stream_of s new) old

-- the one stream of the node changed so, and nothing else of any node
pub record ChangesOne {P : Type 0} (node : List ℕ) (s : Stream) (How : StreamData P → StreamData P → Type 0) (old new : List (NodeStreams P)) : Type 0 where
  pub before : NodeStreams P
  pub after : NodeStreams P
  pub stands : streams_at node old ≡ Some before
  pub changes : ChangesStream s How before after
  pub rest : new ≡ put (at_node node) after old

-- whether the stream was live; it isn't afterwards
pub record IsCut {P : Type 0} (was_live : Bool) (old new : StreamData P) : Type 0 where
  pub was : was_live ≡ old.live
  pub cut : new.live ≡ false
  pub same : new.port ≡ old.port

-- the oldest message left the port, where there was one
pub record TakesFrom (answer : Option Msg) (old new : StreamData QueueData) : Type 0 where
  pub taken : IsTaken old.port answer new.port
  pub same : new.live ≡ old.live

-- The cut stream is live again: its port took the message in, and had room where it tells any.
pub record IsBegunAgain {P : Type 0} (state : P → PortState) (Same : P → P → Type 0) (m : Msg) (old new : StreamData P) : Type 0 where
  pub was : old.live ≡ false
  pub live : new.live ≡ true
  pub sent : PutsIn m (state old.port) (state new.port)
  pub room : IfSome (state old.port).room (λ places. places ≢ 0)
  pub same : Same old.port new.port

-- The stream stays cut: its port handed a message back, counted it, and had no room where it tells any.
pub record IsFull {P : Type 0} (state : P → PortState) (Same : P → P → Type 0) (old new : StreamData P) : Type 0 where
  pub was : old.live ≡ false
  pub cut : new.live ≡ false
  pub sent : (state new.port).sent ≡ (state old.port).sent
  pub later : (state old.port).backs ≤ (state new.port).backs
  pub counted : Rose (state old.port).backs (state new.port).backs
  pub room : IfSome (state old.port).room (λ places. places ≡ 0)
  pub same : Same old.port new.port

-- which of the two, by whether the port took the message in
abbrev pub Begins : {P : Type 0} → (P → PortState) → (P → P → Type 0) → Msg → Bool → StreamData P → StreamData P → Type 0
Begins state same m true old new = IsBegunAgain state same m old new
Begins state same m false old new = IsFull state same old new
