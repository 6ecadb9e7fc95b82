use Rattle.std.proofs.Common.{option_copied, sym, ap, ◌∙◌}
use Rattle.cl_types.specs.declared.stream.Stream.TheVariants.{Addresses, Applied}
use Rattle.label_select.specs.Written.{group_text}
use Rattle.watch_streams.specs.HeldEvaluation.{group_in, held_group}
use Rattle.held_maps.specs.Held.{maps_of, map_on}
use Rattle.held_maps.proofs.GroupPlaces.{no_group, members_up}
use Rattle.held_maps.proofs.held.Held.group.Goals as goal

pub returns-in-Policies-clause-members : goal.returns-in-Policies-clause-members
returns-in-Policies-clause-members c =
    sym (ap (λ s. held_group (map_on s (maps_of c.args.self.now)) c.args.g.now) c.in-Policies.is ∙ no_group c.args.self.now.policies c.args.self.now.egresses (group_text c.args.g.now))

pub returns-in-Addresses-clause-ascend : goal.returns-in-Addresses-clause-ascend
returns-in-Addresses-clause-ascend c =
    members_up Addresses c.self.inside.addresses c.self.invariant.addresses_map (group_text c.args.g.now) (option_copied c.group_members.result) (c.group_members.ensures ∙ ap group_in c.find_group.ensures)

pub returns-in-Applied-clause-ascend : goal.returns-in-Applied-clause-ascend
returns-in-Applied-clause-ascend c =
    members_up Applied c.self.inside.applied c.self.invariant.applied_map (group_text c.args.g.now) (option_copied c.group_members-in-Applied.result) (c.group_members-in-Applied.ensures ∙ ap group_in c.find_group-in-Applied.ensures)
