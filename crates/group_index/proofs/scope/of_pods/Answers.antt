use Rattle.std.proofs.Common.{◌≡◌, ◌||◌, Bool, false, refl, option_copied}
use Rattle.group_index.specs.Index.{EntryData}
use Rattle.group_index.specs.Settled.{can_contain, follows_labels, is_of_pods}
use Rattle.group_index.proofs.scope.of_pods.Goals as goal

none_of_two : (a b : Bool) → a ≡ false → b ≡ false → (a || b) ≡ false
none_of_two a b off_a off_b = rw (off_a, off_b) refl

pub returns : goal.returns
returns c =
    let old = option_copied c.args.old in
    let now = option_copied c.args.now in
    c.in_order.ensures (λ (e : EntryData). is_of_pods old now e.group.scope) (λ (e : EntryData). follows_labels e.group) (λ (e : EntryData). can_contain old now e.group.scope) c.args.entries.now
    (λ e. none_of_two (is_of_pods old now e.group.scope) (follows_labels e.group)) c.in_ok-named.ensures c.in_ok-following.ensures
