use Rattle.std.proofs.Common.{rules, sym, ◌∙◌}
use Rattle.cluster_objects.proofs.PodIndex.{place_within, first_there, none_there, itself_there}
use Rattle.cluster_objects.proofs.pods.other_place.Goals as goal

pub offset_bounds-pods-i : goal.offset_bounds-pods-i
offset_bounds-pods-i c =
    let lt = place_within c.args.pods.now c.args.entries.now c.requires c.args.a c.in-Some.i (sym c.place_of.ensures ∙ c.in-Some.is) in
    search rules

pub bounds-pods-i : goal.bounds-pods-i
bounds-pods-i c = place_within c.args.pods.now c.args.entries.now c.requires c.args.a c.in-Some.i (sym c.place_of.ensures ∙ c.in-Some.is)

pub returns-else-has_key : goal.returns-else-has_key
returns-else-has_key c =
    first_there c.args.pods.now c.args.entries.now c.requires c.args.key.now c.args.a c.in-Some.i c.index-pods-i.result (sym c.place_of.ensures ∙ c.in-Some.is) c.index-pods-i.is (sym c.has_key.ensures ∙ c.if-has_key.false)

pub returns-then-has_key : goal.returns-then-has_key
returns-then-has_key c =
    itself_there c.args.pods.now c.args.entries.now c.requires c.args.key.now c.args.a c.in-Some.i c.index-pods-i.result (sym c.place_of.ensures ∙ c.in-Some.is) c.index-pods-i.is (sym c.has_key.ensures ∙ c.if-has_key.true)

pub returns-in-None : goal.returns-in-None
returns-in-None c = none_there c.args.pods.now c.args.entries.now c.requires c.args.key.now c.args.a (sym c.place_of.ensures ∙ c.in-None.is)
