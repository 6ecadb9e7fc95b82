-- Lines are lists of events.
use Rattle.std.proofs.Common.{◌≡◌, Bool, true, false, List, [], ◌∷◌, ◌++◌, refl, subst, map, filter, if◌then◌else◌}
use Rattle.std.specs.List.{AllByRecursion, flat_map}
use Rattle.watch_streams.specs.declared.message.Msg.{Msg}
use Rattle.watch_streams.specs.OneOfAll.{all_append}
use Rattle.cl_types.specs.ListLaws.{all_weaker}
use Rattle.run_machine.specs.Laws.{EventsLeadToSoundWorlds, IsSound, IsWholeEvent}
use Rattle.run_machine.specs.Lines.{LineData, objects, deliver, cut_stream, rejoin_stream, settle, quiet, IsWholeLine, LinesLeadToSoundWorlds, events_of, after_lines, delivering_site, delivering_stream, every_stream, first_of, is_meant_node, is_meant_stream}
use Rattle.run_machine.specs.Machine.{SiteData, WorldData, StreamOf, Event, rejoin, take, channel_on, first_world, happens, is_full, all_happen}
use Rattle.run_machine.specs.Settling.{settling, stream_of}
use Rattle.run_machine.proofs.Settling.{IsLocal, local_is_whole, settling_is_local}

happen_append : (xs ys : List Event) (w : WorldData) → all_happen (xs ++ ys) w ≡ all_happen ys (all_happen xs w)
happen_append [] ys w = refl
happen_append (x ∷ xs) ys w = happen_append xs ys (happens x w)

all_flat : {A B : Type 0} (P : B → Type 0) (f : A → List B) → ((x : A) → AllByRecursion P (f x)) → (xs : List A) → AllByRecursion P (flat_map f xs)
all_flat P f each [] = tt
all_flat P f each (x ∷ xs) = all_append P (f x) (flat_map f xs) (each x) (all_flat P f each xs)

takes_whole : (at : StreamOf) (messages : List Msg) → AllByRecursion IsWholeEvent (map (λ (m : Msg). take at) messages)
takes_whole at [] = tt
takes_whole at (m ∷ messages) = (tt, takes_whole at messages)

rejoin_whole : (at : StreamOf) (full : Bool) → AllByRecursion IsWholeEvent (if full then [] else rejoin at ∷ [])
rejoin_whole at true = tt
rejoin_whole at false = (tt, tt)

-- the objects of a line's events are those of the line
whole_events : (w : WorldData) (line : LineData) → IsWholeLine line → AllByRecursion IsWholeEvent (events_of w line)
whole_events w (objects changes) whole = (whole, tt)
whole_events w (deliver node stream count) whole =
    all_flat IsWholeEvent (delivering_site stream count)
    (λ x. all_flat IsWholeEvent (delivering_stream count x) (λ s. takes_whole (stream_of x s) (first_of count (channel_on s x).queue)) (filter (is_meant_stream stream) every_stream))
    (filter (λ (x : SiteData). is_meant_node node x.node) w.sites)
whole_events w (cut_stream at) whole = (tt, tt)
whole_events w (rejoin_stream at) whole = rejoin_whole at (is_full w at.stream at.node)
whole_events w settle whole = all_weaker IsLocal IsWholeEvent local_is_whole (settling w) (settling_is_local w)
whole_events w quiet whole = tt

pub lines_lead : EventsLeadToSoundWorlds → LinesLeadToSoundWorlds
lines_lead law ring lines whole = go lines [] whole tt
  where
    go : (lines : List LineData) (before : List Event) → AllByRecursion IsWholeLine lines → AllByRecursion IsWholeEvent before
        → IsSound (after_lines lines (all_happen before (first_world ring)))
    go [] before whole known = law ring before known
    go (line ∷ lines) before whole known =
        let w = all_happen before (first_world ring) in
        let events = events_of w line in
        subst (λ v. IsSound (after_lines lines v)) (happen_append before events (first_world ring))
        (go lines (before ++ events) whole.1 (all_append IsWholeEvent before events known (whole_events w line whole.0)))
