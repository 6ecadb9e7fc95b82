-- A stream that is to begin again, as the machine's line has it.
use Rattle.std.proofs.Common.{◌≡◌, ℕ, ◌<◌, ◌≤◌, List, [], ◌∷◌, length, map, Bool, true, false, ◌++◌, ◌&&◌, ◌||◌, if◌then◌else◌, Result, Ok, Err, refl, sym, ap, subst, ◌∙◌, ◌⊎◌, inl, inr, arith}
use Rattle.std.specs.Prelude.{nat_le}
use Rattle.std.specs.List.{AllByRecursion, list_any}
use Rattle.std.proofs.lemmas.Bool.{lt-leb}
use Rattle.std.proofs.lemmas.Bool.Decides.{leb_tells}
use Rattle.std.specs.declared.cmp.Ordering.TheVariants.{Less}
use Rattle.cl_types.specs.OrderLaws.{text_eq-one}
use Rattle.cl_types.specs.Text.{text_eq, text_order}
use Rattle.cl_types.specs.declared.stream.Rev.{Rev}
use Rattle.ctl_core.specs.declared.outcome.RejoinFault.{RejoinFault}
use Rattle.ctl_core.specs.declared.outcome.RejoinFault.TheVariants.{NotCut, Full, NoMemory}
use Rattle.run_machine.specs.Machine.{ChannelData, SiteData, StreamOf, WorldData, all_happen, channel_on, is_full, rejoin, with_channel}
use Rattle.suite_run.specs.Cutting.{DoesLine, Rejoins}
use Rattle.suite_run.specs.Doing.{channel_at, is_listed, node_names, rejoined_now, run_after, site_after, snapshot_now, stream_at}
use Rattle.suite_run.specs.RunState.{RunData, Stands}
use Rattle.suite_run.proofs.Changed.{apart}
use Rattle.suite_run.proofs.Matched.{HasOwn, own_channels}
use Rattle.suite_run.proofs.Moves.{with_its_own}
use Rattle.suite_run.proofs.Rounds.{AscendNames}
use Rattle.suite_run.proofs.Standing.{stands_all}

-- ---- full streams

-- no place is left on the stream of the site
abbrev full_of : ℕ → StreamOf → SiteData → Bool
full_of ring at x = text_eq x.node at.node && nat_le ring (length (channel_on at.stream x).queue)

none_full : (ring : ℕ) (at : StreamOf) (sites : List SiteData) → AllByRecursion (λ u. text_order at.node u ≡ Less) (node_names sites) → list_any (full_of ring at) sites ≡ false
none_full ring at [] less = refl
none_full ring at (x ∷ sites) less =
    ap (λ b. (b && nat_le ring (length (channel_on at.stream x).queue)) || list_any (full_of ring at) sites) (apart x.node at.node less.0) ∙ none_full ring at sites less.1

or_nothing : (b : Bool) → (b || false) ≡ b
or_nothing true = refl
or_nothing false = refl

full_at : (ring : ℕ) (at : StreamOf) (sites : List SiteData) → AscendNames (node_names sites) → is_listed at.node sites ≡ true
    → list_any (full_of ring at) sites ≡ nat_le ring (length (channel_at at sites).queue)
full_at ring at [] up listed = cc
full_at ring at (x ∷ sites) up listed = by_test (text_eq x.node at.node) refl listed (full_at ring at sites up.1)
  where
    by_test : (b : Bool) → text_eq x.node at.node ≡ b → (b || is_listed at.node sites) ≡ true
        → (is_listed at.node sites ≡ true → list_any (full_of ring at) sites ≡ nat_le ring (length (channel_at at sites).queue))
        → ((b && nat_le ring (length (channel_on at.stream x).queue)) || list_any (full_of ring at) sites) ≡ nat_le ring (length (if b then channel_on at.stream x else channel_at at sites).queue)
    by_test true is here rest =
        ap (λ b. nat_le ring (length (channel_on at.stream x).queue) || b)
        (none_full ring at sites (subst (λ t. AllByRecursion (λ u. text_order t u ≡ Less) (node_names sites)) (text_eq-one x.node at.node is) up.0))
        ∙ or_nothing (nat_le ring (length (channel_on at.stream x).queue))
    by_test false is here rest = rest here

le_test : (a b : ℕ) → a ≤ b → nat_le a b ≡ true
le_test a b le = by_cases (leb_tells a b)
  where
    by_cases : ((nat_le a b ≡ true) × (a ≤ b)) ⊎ ((nat_le a b ≡ false) × (b < a)) → nat_le a b ≡ true
    by_cases (inl yes_it_is) = yes_it_is.0
    by_cases (inr not_so) = absurd (omega (arith, le, not_so.1))

-- ---- a live stream

live_stays : (r : RunData) (at : StreamOf) (sites xs : List SiteData) → (channel_at at sites).live ≡ true → AllByRecursion (HasOwn sites) xs → map (site_after r (rejoin at)) xs ≡ xs
live_stays r at sites [] live own = refl
live_stays r at sites (x ∷ xs) live own =
    ap (λ y. y ∷ map (site_after r (rejoin at)) xs) (by_test (text_eq x.node at.node) refl) ∙ ap (λ l. x ∷ l) (live_stays r at sites xs live own.1)
  where
    by_test : (b : Bool) → text_eq x.node at.node ≡ b → (if b then rejoined_now r at.stream x else x) ≡ x
    by_test true is =
        let named : x.node ≡ at.node = text_eq-one x.node at.node is in
        let here : (channel_on at.stream x).live ≡ true =
        ap (λ (c : ChannelData). c.live) (sym (own.0 at.stream)) ∙ (ap (λ t. (channel_at (stream_at t at.stream) sites).live) named ∙ live) in
        ap
        (λ b. with_channel at.stream (if b then channel_on at.stream x else (record { live = true; queue = (channel_on at.stream x).queue ++ snapshot_now r at.stream x.node ∷ [] })) x)
        here
        ∙ with_its_own at.stream x
    by_test false is = refl

-- ---- the line

module _ (at : StreamOf) (old : RunData) (up : AscendNames (node_names old.sites)) (listed : is_listed at.node old.sites ≡ true) where
  world_full : (w : WorldData) → Stands old w → is_full w at.stream at.node ≡ nat_le old.ring (length (channel_at at old.sites).queue)
  world_full w st = (λ i. list_any (full_of (st.ring i) at) (st.sites i)) ∙ full_at old.ring at old.sites up listed

  live_line : (new : RunData) → (channel_at at old.sites).live ≡ true → new ≡ old → (b : Bool) (w : WorldData) → Stands old w → Stands new (all_happen (if b then [] else rejoin at ∷ []) w)
  live_line new live same true w st = subst (λ (z : RunData). Stands z w) (sym same) st
  live_line new live same false w st =
      let stays : run_after (rejoin at) old ≡ new = ap (λ sites. record old { sites = sites }) (live_stays old at old.sites old.sites live (own_channels old.sites up)) ∙ sym same in
      subst (λ (z : RunData). Stands z (all_happen (rejoin at ∷ []) w)) stays (stands_all (rejoin at ∷ []) old w (tt, tt) st)

  pub line_done : (result : Result Rev RejoinFault) (new : RunData) → Rejoins at result old new → DoesLine at result old new
  line_done (Ok rev) new r = λ w st.
      let room : is_full w at.stream at.node ≡ false = world_full w st ∙ lt-leb old.ring (length (channel_at at old.sites).queue) r.room in
      subst (λ b. Stands new (all_happen (if b then [] else rejoin at ∷ []) w)) (sym room) (r.does w st)
  line_done (Err NotCut) new r = λ w st. live_line new r.0 r.1 (is_full w at.stream at.node) w st
  line_done (Err Full) new r = λ w st.
      let filled : is_full w at.stream at.node ≡ true = world_full w st ∙ le_test old.ring (length (channel_at at old.sites).queue) r.full in
      subst (λ b. Stands new (all_happen (if b then [] else rejoin at ∷ []) w)) (sym filled) (subst (λ (z : RunData). Stands z w) (sym r.same) st)
  line_done (Err NoMemory) new r = r
