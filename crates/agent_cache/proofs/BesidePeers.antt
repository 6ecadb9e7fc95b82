-- Where only the groups of peers change, nothing that is told of addresses does.
use Rattle.std.proofs.Common.{◌≡◌, ℕ, List, [], ◌∷◌, ◌++◌, true, false, filter, map, refl, sym, ap, ap₂, ◌∙◌}
use base.Stored.{Coded}
use Rattle.std.specs.List.{flat_map}
use Rattle.std.specs.declared.cmp.Ordering.{Ordering}
use Rattle.std.specs.Cmp.{IsTotalOrder}
use Rattle.cl_types.specs.declared.addr.Addr.{Addr}
use Rattle.cl_types.specs.declared.keys.Dir.{Dir}
use Rattle.cl_types.specs.declared.keys.Dir.TheVariants.{Ingress, Egress}
use Rattle.cl_types.specs.Addr.{addr_order, addr_order_total}
use Rattle.cl_types.specs.Ascending.{Ascends}
use Rattle.cl_types.specs.AscendingLaws.{ascends_sorted}
use Rattle.cl_types.specs.Text.{text_eq}
use Rattle.watch_streams.specs.contracts.rule_changes.ChoiceChange as choice
use Rattle.watch_streams.specs.contracts.rule_changes.IsolationChange as isolation
use Rattle.watch_streams.specs.contracts.rule_changes.MarkChange as mark
use Rattle.watch_streams.specs.declared.message.StreamObject.{StreamObject}
use Rattle.watch_streams.specs.declared.rule_changes.ChoiceChange.{ChoiceChange}
use Rattle.watch_streams.specs.declared.rule_changes.IsolationChange.{IsolationChange}
use Rattle.watch_streams.specs.declared.rule_changes.MarkChange.{MarkChange}
use Rattle.watch_streams.specs.HeldEvaluation.{HeldMaps, held_egresses, held_policies}
use Rattle.watch_streams.specs.InForce.{egress_address, egress_group, held_choice, isolating_groups, member_address, members_in}
use Rattle.watch_streams.specs.KeyedChanges.{changes_of}
use Rattle.watch_streams.specs.RuleChanges.{choice_changes, choice_ended, choices, isolation_changes, isolation_ended, isolations, mark_changes, mark_ended, marks}
use Rattle.touched_rules.specs.Touched.{under}
use Rattle.touched_rules.proofs.UnderKeys.{changes_under}
use Rattle.agent_cache.specs.ListsBetween.{AreChangesOfAddresses}
use Rattle.agent_cache.proofs.Lists.{ascends_made}

none_under : {T K : Type 0} (key : T → K) (xs : List T) → under (λ (k : K). false) key xs ≡ []
none_under key [] = refl
none_under key (x ∷ xs) = none_under key xs

-- nothing differs between a list and itself
none_changed : {T K : Type 0} (key : T → K) {cmp : K → K → Ordering} (o : IsTotalOrder cmp) (coded : Coded T) (ended : T → T) (xs : List T) → Ascends key cmp xs → changes_of coded key cmp ended xs xs ≡ []
none_changed {K = K} key {cmp = cmp} o coded ended xs up =
    changes_under key o (λ (k : K). false) (λ j k e. refl) coded ended xs xs up up (λ k e. refl)
    ∙ (λ i. changes_of coded key cmp ended (none_under key xs i) (none_under key xs i))

module _ (node : List ℕ) (h : HeldMaps) where
  isolations_ascend : (dir : Dir) → Ascends (λ (x : IsolationChange). x.address) addr_order (isolations dir h)
  isolations_ascend dir =
      let addresses = map member_address (members_in h.applied (flat_map (isolating_groups dir) (held_policies h))) in
      let f : Addr → IsolationChange = λ a. record { dir = dir; address = a; now = true } in
      ascends_made f (λ (x : IsolationChange). x.address) addresses (isolations dir h) refl (ascends_sorted (λ a. a) addr_order_total addresses)

  choices_ascend : Ascends (λ (x : ChoiceChange). x.pod) addr_order (choices node h)
  choices_ascend =
      let addresses = map member_address (members_in h.applied (map egress_group (held_egresses h))) in
      let f : Addr → ChoiceChange = λ a. record { pod = a; now = held_choice node h a } in
      ascends_made f (λ (x : ChoiceChange). x.pod) addresses (choices node h) refl (ascends_sorted (λ a. a) addr_order_total addresses)

  marks_ascend : Ascends (λ (x : MarkChange). x.address) addr_order (marks node h)
  marks_ascend =
      let addresses = map egress_address (filter (λ e. text_eq e.node node) (held_egresses h)) in
      let f : Addr → MarkChange = λ a. record { address = a; now = true } in
      ascends_made f (λ (x : MarkChange). x.address) addresses (marks node h) refl (ascends_sorted (λ a. a) addr_order_total addresses)

  -- only the groups of peers are others
  pub nothing_told : (k : HeldMaps) (objects : List StreamObject) → k ≡ record h { addresses = objects } → (isolated : List IsolationChange) (choosing : List ChoiceChange) (marked : List MarkChange)
      → isolated ≡ [] → choosing ≡ [] → marked ≡ [] → AreChangesOfAddresses node h k isolated choosing marked
  nothing_told k objects is isolated choosing marked no_isolated no_choosing no_marked = record {
    isolated_are = no_isolated ∙ sym (ap₂ ◌++◌ (isolation_none Ingress) (isolation_none Egress));
    choices_are =
        no_choosing ∙ sym (ap (λ m. choice_changes node h m) is ∙ none_changed (λ (x : ChoiceChange). x.pod) addr_order_total choice.the_row.coded choice_ended (choices node h) choices_ascend);
    marked_are =
        no_marked ∙ sym (ap (λ m. mark_changes node h m) is ∙ none_changed (λ (x : MarkChange). x.address) addr_order_total mark.the_row.coded mark_ended (marks node h) marks_ascend);
  }
    where
      isolation_none : (dir : Dir) → isolation_changes dir h k ≡ []
      isolation_none dir =
          ap (λ m. isolation_changes dir h m) is ∙ none_changed (λ (x : IsolationChange). x.address) addr_order_total isolation.the_row.coded isolation_ended (isolations dir h) (isolations_ascend dir)
