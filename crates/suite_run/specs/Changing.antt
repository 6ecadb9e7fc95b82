-- What a line of changes makes of a run whose nodes are fixed, as an event of the machine (this project's own).
use Rattle.std.specs.Prelude.{◌≡◌, ◌≢◌, ◌+◌, List, [], ◌∷◌, ◌++◌, map, filter, Bool, true, false, not, ◌&&◌, Result, Ok, Err}
use Rattle.cl_types.specs.declared.stream.Rev.{Rev}
use Rattle.cl_types.specs.declared.stream.Stream.{Stream}
use Rattle.cluster_types.specs.declared.change.Change.{Change}
use Rattle.cluster_objects.specs.declared.change.ClusterRefusal.{ClusterRefusal}
use Rattle.cluster_objects.specs.declared.change.ClusterRefusal.TheVariants.{NoMemory}
use Rattle.cluster_objects.specs.Changes.{after}
use Rattle.ctl_core.specs.declared.outcome.Outcome.{Outcome}
use Rattle.ctl_core.specs.declared.outcome.Outcome.TheVariants.{Revision, Unchanged}
use Rattle.ctl_core.specs.declared.outcome.StreamOf as told
use Rattle.ctl_core.specs.Line.{came, came_to}
use Rattle.run_machine.specs.Lines.{every_stream, full_streams}
use Rattle.run_machine.specs.Machine.{ChannelData, Event, SiteData, StreamOf, WorldData, change, channel_on}
use Rattle.run_machine.specs.Settling.{stream_of}
use Rattle.suite_run.specs.RunState.{Does, RunData}

-- ---- which streams were cut

-- the stream was live, and isn't any more
abbrev pub was_cut : ChannelData → ChannelData → Bool
was_cut old new = old.live && not new.live

-- those of a node, in the order of streams
abbrev pub cuts_at : SiteData → SiteData → List StreamOf
cuts_at old new = map (stream_of old) (filter (λ (s : Stream). was_cut (channel_on s old) (channel_on s new)) every_stream)

-- those of all nodes, by node
abbrev pub cuts_between : List SiteData → List SiteData → List StreamOf
cuts_between [] news = []
cuts_between (old ∷ olds) [] = []
cuts_between (old ∷ olds) (new ∷ news) = cuts_at old new ++ cuts_between olds news

-- a stream as a controller tells of it
abbrev pub stream_told : told.StreamOf → StreamOf
stream_told s = record { node = s.node; stream = s.stream }

-- ---- a line

-- messages come back from the full streams
abbrev pub changing : List Change → WorldData → List Event
changing changes w = change changes (full_streams w) ∷ []

-- The changes made a difference: the cluster after them has the revision that follows, and the streams that were cut as it
-- was told are listed.
pub record MakesRevision (changes : List Change) (rev : Rev) (cut : List told.StreamOf) (old new : RunData) : Type 0 where
  pub made : came (after old.cluster changes) ≡ Ok (came_to new.cluster true)
  pub next : rev.0 ≡ old.revision + 1
  pub revision : new.revision ≡ rev.0
  pub listed : map stream_told cut ≡ cuts_between old.sites new.sites

-- the changes made no difference
pub record MakesNoRevision (changes : List Change) (old new : RunData) : Type 0 where
  pub made : came (after old.cluster changes) ≡ Ok (came_to old.cluster false)
  pub same : new ≡ old

-- the first change that is refused is answered
pub record RefusesLine (changes : List Change) (refusal : ClusterRefusal) (old new : RunData) : Type 0 where
  pub refused : after old.cluster changes ≡ Err refusal
  pub same : new ≡ old

-- what is answered, and what it says of the run
abbrev pub IsAnswered : List Change → Result Outcome ClusterRefusal → RunData → RunData → Type 0
IsAnswered changes (Ok (Revision rev cut)) old new = MakesRevision changes rev cut old new
IsAnswered changes (Ok Unchanged) old new = MakesNoRevision changes old new
IsAnswered changes (Err refusal) old new = RefusesLine changes refusal old new

-- the line is answered, and what was done to the run is the machine's event, whatever the answer
pub record TakesLine (changes : List Change) (answer : Result Outcome ClusterRefusal) (old new : RunData) : Type 0 where
  pub answered : IsAnswered changes answer old new
  pub does : Does (changing changes) old new

-- the answer is this one, and memory sufficed
pub record IsHeard (answer heard : Result Outcome ClusterRefusal) : Type 0 where
  pub same : heard ≡ answer
  pub sufficed : answer ≢ Err NoMemory
