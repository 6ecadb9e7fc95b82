-- What the events of streams make of a run, they make of each world that it is.
use Rattle.std.proofs.Common.{◌≡◌, List, [], ◌∷◌, ◌++◌, map, refl, sym, ap, subst, if◌then◌else◌}
use Rattle.std.specs.List.{AllByRecursion}
use Rattle.cl_types.specs.Text.{text_eq}
use Rattle.watch_streams.specs.declared.message.Msg.TheVariants.{Snapshot}
use Rattle.watch_streams.specs.Projection.{projection}
use Rattle.run_machine.specs.Machine.{Event, SiteData, WorldData, change, cut, rejoin, take, all_happen, channel_on, cut_at, happens, rejoined, taken, with_channel}
use Rattle.suite_run.specs.Doing.{run_after, run_after_all}
use Rattle.suite_run.specs.RunState.{Does, RunData, Stands}

-- an event of a stream
abbrev pub IsOfStreams : Event → Type 0
IsOfStreams (change changes backs) = ⊥
IsOfStreams (cut at) = Unit {0}
IsOfStreams (rejoin at) = Unit {0}
IsOfStreams (take at) = Unit {0}

stands_one : (e : Event) (r : RunData) (w : WorldData) → IsOfStreams e → Stands r w → Stands (run_after e r) (happens e w)
stands_one (change changes backs) r w of st = absurd of
stands_one (cut at) r w of st = record {
  cluster = st.cluster;
  ring = st.ring;
  sites = ap (map (λ (x : SiteData). if text_eq x.node at.node then cut_at at.stream x else x)) st.sites;
  revision = st.revision;
  fixed = st.fixed;
  last = st.last;
}
stands_one (rejoin at) r w of st = record {
  cluster = st.cluster;
  ring = st.ring;
  sites = λ i. map (λ (x : SiteData). if text_eq x.node at.node then with_channel at.stream (rejoined (Snapshot (record { 0 = st.revision i }) (projection (st.last i) at.stream x.node)) (channel_on at.stream x)) x else x) (st.sites i);
  revision = st.revision;
  fixed = st.fixed;
  last = st.last;
}
stands_one (take at) r w of st = record {
  cluster = st.cluster;
  ring = st.ring;
  sites = ap (map (λ (x : SiteData). if text_eq x.node at.node then taken at.stream x else x)) st.sites;
  revision = st.revision;
  fixed = st.fixed;
  last = st.last;
}

pub stands_all : (events : List Event) (r : RunData) (w : WorldData) → AllByRecursion IsOfStreams events → Stands r w → Stands (run_after_all events r) (all_happen events w)
stands_all [] r w of st = st
stands_all (e ∷ events) r w of st = stands_all events (run_after e r) (happens e w) of.1 (stands_one e r w of.0 st)

pub after_append : (front back : List Event) (r : RunData) → run_after_all (front ++ back) r ≡ run_after_all back (run_after_all front r)
after_append [] back r = refl
after_append (e ∷ front) back r = after_append front back (run_after e r)

-- one event is done where the run is what it makes of it
pub does_one : (e : Event) (old new : RunData) → IsOfStreams e → new ≡ run_after e old → Does (λ w. e ∷ []) old new
does_one e old new of is w st = subst (λ (r : RunData). Stands r (happens e w)) (sym is) (stands_one e old w of st)
