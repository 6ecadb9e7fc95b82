-- The nodes that were told, and those to come.
use Rattle.std.proofs.Common.{◌≡◌, ℕ, ◌+◌, ◌*◌, ◌≤◌, ◌<◌, List, [], ◌∷◌, ◌++◌, length, get_or, set, map, Bool, true, false, IfSome, Some, None, if◌then◌else◌, refl, sym, ap, ap₂, subst, ◌∙◌, arith, length-append}
use Rattle.std.proofs.lemmas.List.{append-nil, append_assoc}
use Rattle.std.proofs.Math.Seq.{get_or-append_seam, set-append_seam}
use Rattle.cl_types.specs.declared.stream.Rev.{Rev}
use Rattle.cluster_types.specs.Cluster.{ClusterData}
use Rattle.watch_streams.specs.Ports.{PortState}
use Rattle.watch_streams.specs.declared.message.Msg.{Msg}
use Rattle.ctl_core.specs.declared.outcome.StreamOf.{StreamOf}
use Rattle.node_streams.specs.declared.messages.NodeMessages.{NodeMessages}
use Rattle.ctl_core.specs.declared.telling.Turn.{Turn}
use Rattle.node_streams.specs.Streams.{NodeStreams}
use Rattle.ctl_core.specs.Telling.{listed_cuts, messages_of, names_of, streams_cut, turn_of}
use Rattle.node_streams.specs.Telling.{AreTold, NodeIsTold, TellsTheLive, cuts_of}

-- ---- one more node

are_more : {P : Type 0} (state : P → PortState) (Same : P → P → Type 0) (messages : NodeStreams P → NodeMessages) (olds news : List (NodeStreams P)) (old new : NodeStreams P)
    → AreTold state Same messages olds news → NodeIsTold state Same (messages old) (cuts_of old new) old new → AreTold state Same messages (olds ++ old ∷ []) (news ++ new ∷ [])
are_more state Same messages [] [] old new are told = (told, tt)
are_more state Same messages [] (n ∷ news) old new are told = absurd are
are_more state Same messages (o ∷ olds) [] old new are told = absurd are
are_more state Same messages (o ∷ olds) (n ∷ news) old new are told = (are.0, are_more state Same messages olds news old new are.1 told)

one_cut : {P : Type 0} (old new : NodeStreams P) → streams_cut (old ∷ []) (new ∷ []) ≡ listed_cuts (names_of old.node) (cuts_of old new)
one_cut old new = append-nil (listed_cuts (names_of old.node) (cuts_of old new))

cut_more : {P : Type 0} (state : P → PortState) (Same : P → P → Type 0) (messages : NodeStreams P → NodeMessages) (olds news : List (NodeStreams P)) (old new : NodeStreams P)
    → AreTold state Same messages olds news → streams_cut (olds ++ old ∷ []) (news ++ new ∷ []) ≡ streams_cut olds news ++ listed_cuts (names_of old.node) (cuts_of old new)
cut_more state Same messages [] [] old new are = one_cut old new
cut_more state Same messages [] (n ∷ news) old new are = absurd are
cut_more state Same messages (o ∷ olds) [] old new are = absurd are
cut_more state Same messages (o ∷ olds) (n ∷ news) old new are =
    ap (λ xs. listed_cuts (names_of o.node) (cuts_of o n) ++ xs) (cut_more state Same messages olds news old new are.1)
    ∙ sym (append_assoc (listed_cuts (names_of o.node) (cuts_of o n)) (streams_cut olds news) (listed_cuts (names_of old.node) (cuts_of old new)))

-- only live streams have messages
if_live : (b : Bool) (m : Msg) → IfSome (if b then Some m else None) (λ _. b ≡ true)
if_live true m = refl
if_live false m = tt

tells_live : {P : Type 0} (old new : ClusterData) (rev : Rev) (n : NodeStreams P) → TellsTheLive (messages_of old new rev n) n
tells_live old new rev n = (if_live n.policies.live _, if_live n.addresses.live _, if_live n.applied.live _)

-- ---- the loop

-- the first nodes were told, and the others are to come
pub record SoFar {P : Type 0} (state : P → PortState) (Same : P → P → Type 0) (oc nc : ClusterData) (rev : Rev) (first now : List (NodeStreams P)) (i : ℕ) (turns : List Turn) (listed : List StreamOf) (count room : ℕ) : Type 0 where
  pub olds : List (NodeStreams P)
  pub news : List (NodeStreams P)
  pub left : List (NodeStreams P)
  pub first_are : first ≡ olds ++ left
  pub now_are : now ≡ news ++ left
  pub place : i ≡ length news
  pub turns_are : turns ≡ map (turn_of oc nc rev) left
  pub told : AreTold state Same (messages_of oc nc rev) olds news
  pub listed_are : listed ≡ streams_cut olds news
  pub room_left : count + 3 * length left ≤ room

pub begins : {P : Type 0} (state : P → PortState) (Same : P → P → Type 0) (oc nc : ClusterData) (rev : Rev) (nodes : List (NodeStreams P)) (turns : List Turn) (listed : List StreamOf) (count room : ℕ)
    → turns ≡ map (turn_of oc nc rev) nodes → listed ≡ [] → count + 3 * length nodes ≤ room → SoFar state Same oc nc rev nodes nodes 0 turns listed count room
begins state Same oc nc rev nodes turns listed count room are none room_is = record {
  olds = [];
  news = [];
  left = nodes;
  first_are = refl;
  now_are = refl;
  place = refl;
  turns_are = are;
  told = tt;
  listed_are = none;
  room_left = room_is;
}

module _ {P : Type 0} (state : P → PortState) (Same : P → P → Type 0) (oc nc : ClusterData) (rev : Rev) (first now : List (NodeStreams P)) (i : ℕ) where
  -- the next node is the one whose turn it is
  pub record Next (turn : Turn) (turns : List Turn) (listed : List StreamOf) (count room : ℕ) : Type 0 where
    pub olds : List (NodeStreams P)
    pub news : List (NodeStreams P)
    pub node : NodeStreams P
    pub left : List (NodeStreams P)
    pub first_are : first ≡ olds ++ node ∷ left
    pub now_are : now ≡ news ++ node ∷ left
    pub place : i ≡ length news
    pub turn_is : turn ≡ turn_of oc nc rev node
    pub turns_are : turns ≡ map (turn_of oc nc rev) left
    pub told : AreTold state Same (messages_of oc nc rev) olds news
    pub listed_are : listed ≡ streams_cut olds news
    pub room_left : count + 3 * (length left + 1) ≤ room

  pub next : (turn : Turn) (all turns : List Turn) (listed : List StreamOf) (count room : ℕ) → all ≡ turn ∷ turns → SoFar state Same oc nc rev first now i all listed count room → Next turn turns listed count room
  next turn all turns listed count room steps so = by_left so.left so.first_are so.now_are (sym steps ∙ so.turns_are) so.room_left
    where
      by_left : (left : List (NodeStreams P)) → first ≡ so.olds ++ left → now ≡ so.news ++ left → turn ∷ turns ≡ map (turn_of oc nc rev) left → count + 3 * length left ≤ room → Next turn turns listed count room
      by_left [] f n t r = cc
      by_left (node ∷ left) f n t r = record {
        olds = so.olds;
        news = so.news;
        node = node;
        left = left;
        first_are = f;
        now_are = n;
        place = so.place;
        turn_is = cc;
        turns_are = cc;
        told = so.told;
        listed_are = so.listed_are;
        room_left = omega (arith, r);
      }

  pub within : (turn : Turn) (turns : List Turn) (listed : List StreamOf) (count room : ℕ) → Next turn turns listed count room → i < length now
  within turn turns listed count room n = omega (arith, n.place, ap length n.now_are, length-append n.news (n.node ∷ n.left))

  pub node_is : (turn : Turn) (turns : List Turn) (listed : List StreamOf) (count room : ℕ) (n : Next turn turns listed count room) (x : NodeStreams P) → x ≡ get_or now i x → x ≡ n.node
  node_is turn turns listed count room n x is = is ∙ (ap₂ (λ xs j. get_or xs j x) n.now_are n.place ∙ get_or-append_seam n.news n.node n.left x)

  pub live : (turn : Turn) (turns : List Turn) (listed : List StreamOf) (count room : ℕ) (n : Next turn turns listed count room) (x : NodeStreams P) → x ≡ get_or now i x → TellsTheLive turn.messages x
  live turn turns listed count room n x is =
      subst (λ z. TellsTheLive turn.messages z) (sym (node_is turn turns listed count room n x is))
      (subst (λ (t : Turn). TellsTheLive t.messages n.node) (sym n.turn_is) (tells_live oc nc rev n.node))

  pub goes_on : (turn : Turn) (turns : List Turn) (listed more : List StreamOf) (count later room still : ℕ) (n : Next turn turns listed count room) (x y : NodeStreams P) → x ≡ get_or now i x
      → NodeIsTold state Same turn.messages (cuts_of x y) x y → more ≡ listed ++ listed_cuts turn.names (cuts_of x y) → later ≤ count + 3 → room ≤ still
      → SoFar state Same oc nc rev first (set now i y) (i + 1) turns more later still
  goes_on turn turns listed more count later room still n x y is told more_is later_is still_is = record {
    olds = n.olds ++ n.node ∷ [];
    news = n.news ++ y ∷ [];
    left = n.left;
    first_are = n.first_are ∙ sym (append_assoc n.olds (n.node ∷ []) n.left);
    now_are = ap₂ (λ xs j. set xs j y) n.now_are n.place ∙ (set-append_seam n.news n.node n.left y ∙ sym (append_assoc n.news (y ∷ []) n.left));
    place = omega (arith, n.place, length-append n.news (y ∷ []));
    turns_are = n.turns_are;
    told = are_more state Same (messages_of oc nc rev) n.olds n.news n.node y n.told told_here;
    listed_are = more_is ∙ (ap₂ (λ xs ys. xs ++ ys) n.listed_are cuts_here ∙ sym (cut_more state Same (messages_of oc nc rev) n.olds n.news n.node y n.told));
    room_left = omega (arith, n.room_left, later_is, still_is);
  }
    where
      here : x ≡ n.node
      here = node_is turn turns listed count room n x is

      told_here : NodeIsTold state Same (messages_of oc nc rev n.node) (cuts_of n.node y) n.node y
      told_here = subst (λ (t : Turn). NodeIsTold state Same t.messages (cuts_of n.node y) n.node y) n.turn_is (subst (λ z. NodeIsTold state Same turn.messages (cuts_of z y) z y) here told)

      cuts_here : listed_cuts turn.names (cuts_of x y) ≡ listed_cuts (names_of n.node.node) (cuts_of n.node y)
      cuts_here = ap₂ (λ (t : Turn) z. listed_cuts t.names (cuts_of z y)) n.turn_is here

-- at the end all nodes were told
pub all_told : {P : Type 0} (state : P → PortState) (Same : P → P → Type 0) (oc nc : ClusterData) (rev : Rev) (first now : List (NodeStreams P)) (i : ℕ) (listed : List StreamOf) (count room : ℕ)
    → SoFar state Same oc nc rev first now i [] listed count room → AreTold state Same (messages_of oc nc rev) first now × (listed ≡ streams_cut first now)
all_told state Same oc nc rev first now i listed count room so = by_left so.left so.first_are so.now_are so.turns_are
  where
    by_left : (left : List _) → first ≡ so.olds ++ left → now ≡ so.news ++ left → [] ≡ map (turn_of oc nc rev) left → AreTold state Same (messages_of oc nc rev) first now × (listed ≡ streams_cut first now)
    by_left [] f n t =
        let olds_are : first ≡ so.olds = f ∙ append-nil so.olds in
        let news_are : now ≡ so.news = n ∙ append-nil so.news in
        (rw olds_are (rw news_are so.told), rw olds_are (rw news_are so.listed_are))
    by_left (node ∷ left) f n t = cc
