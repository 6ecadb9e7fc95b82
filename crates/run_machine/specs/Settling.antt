-- How all that waits is taken, and what holds then (this project's own).
use Rattle.std.specs.Prelude.{◌≡◌, ℕ, List, [], ◌∷◌, ◌++◌, map, if◌then◌else◌}
use Rattle.std.specs.List.{AllByRecursion, flat_map}
use Rattle.cl_types.specs.declared.question.Question.{Question}
use Rattle.cl_types.specs.declared.stream.Stream.{Stream}
use Rattle.cl_types.specs.declared.stream.Stream.TheVariants.{Policies, Addresses, Applied}
use Rattle.cluster_types.specs.Evaluation.{side}
use Rattle.watch_streams.specs.declared.message.Msg.{Msg}
use Rattle.watch_streams.specs.HeldEvaluation.{held_side}
use Rattle.run_machine.specs.Laws.{IsWholeEvent, IsSettled}
use Rattle.run_machine.specs.Machine.{SiteData, WorldData, StreamOf, Event, rejoin, take, on, channel_on, last_revision, first_world, all_happen}

-- Each message that waits on a stream is taken. A cut stream is rejoined then, and the snapshot is taken.
abbrev pub settling_stream : StreamOf → SiteData → List Event
settling_stream at x =
    map (λ (m : Msg). take at) (channel_on at.stream x).queue ++ (if (channel_on at.stream x).live then [] else rejoin at ∷ take at ∷ [])

abbrev pub stream_of : SiteData → Stream → StreamOf
stream_of x s = record { node = x.node; stream = s }

abbrev pub settling_site : SiteData → List Event
settling_site x =
    settling_stream (stream_of x Policies) x ++ (settling_stream (stream_of x Addresses) x ++ settling_stream (stream_of x Applied) x)

-- node by node
abbrev pub settling : WorldData → List Event
settling w = flat_map settling_site w.sites

abbrev pub settled : WorldData → WorldData
settled w = all_happen (settling w) w

-- Nothing waits on a stream of a settled world, and all are live. Each map is that of the last revision, and the verdict of
-- what an agent holds is the policies' own.
pub record Settles (w : WorldData) : Type 0 where
  pub all : AllByRecursion IsSettled (settled w).sites
  pub revisions : AllByRecursion (λ (x : SiteData). (s : Stream) → on s x.revisions ≡ last_revision w) (settled w).sites
  pub verdicts : AllByRecursion (λ (x : SiteData). (q : Question) → held_side x.maps q ≡ side w.cluster x.node q) (settled w).sites

abbrev pub EveryWorldSettles : Type 0
EveryWorldSettles = (ring : ℕ) (events : List Event) → AllByRecursion IsWholeEvent events → Settles (all_happen events (first_world ring))
