use Rattle.std.proofs.Common.{◌≡◌, ◌≤◌, ℕ, List, [], length, sym, subst, arith}
use Rattle.std.specs.List.{insert}
use Rattle.cluster_objects.specs.declared.addresses.AddressEntry.{AddressEntry}
use Rattle.cluster_objects.specs.Addresses.{IsIndex}
use Rattle.cluster_objects.proofs.IndexEdits.{inserted_index, appended_index}
use Rattle.cluster_objects.proofs.addresses.make_place.Goals as goal

pub returns-then-k-count-clause-index : goal.returns-then-k-count-clause-index
returns-then-k-count-clause-index c = λ held count index.
    let within : c.args.k ≤ length held = omega arith in
    subst (λ (es : List AddressEntry). IsIndex (insert held c.args.k []) es) (sym c.open_place.ensures.items) (inserted_index held c.args.k c.args.entries.now.items within index)

pub returns-else-k-count-clause-index : goal.returns-else-k-count-clause-index
returns-else-k-count-clause-index c = λ held count index.
    let last : length held ≡ c.args.k = (let ge = c.if-k-count.false in let le = c.requires.place in omega arith) in
    subst (λ (k : ℕ). IsIndex (insert held k []) c.args.entries.now.items) last (appended_index held c.args.entries.now.items index)
