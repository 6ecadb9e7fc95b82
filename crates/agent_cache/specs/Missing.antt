-- The groups for which a held rule waits (this project's own).
use Rattle.std.specs.Prelude.{List, [], ◌++◌, not, filter, Option, if◌then◌else◌}
use Rattle.std.specs.declared.cmp.Ordering.{Ordering}
use Rattle.cl_types.specs.First.{first}
use Rattle.cl_types.specs.Text.{text_order}
use Rattle.label_select.specs.Group.{Group}
use Rattle.label_select.specs.Written.{group_text}
use Rattle.watch_streams.specs.declared.message.StreamObject.{StreamObject}
use Rattle.watch_streams.specs.declared.net.NetRule.{NetRule}
use Rattle.watch_streams.specs.HeldEvaluation.{HeldMaps, groups_of, is_held, resolving_groups, resolving_map}
use Rattle.watch_streams.specs.Net.{NetPolicyData}
use Rattle.watch_streams.specs.Projection.{has_names}

-- the groups that aren't held
abbrev pub not_held : List StreamObject → List Group → List Group
not_held held groups = filter (λ g. not (is_held held g)) groups

-- the groups at which the rule's named ports are looked up, where it has some
abbrev pub named_groups : NetPolicyData → NetRule → List Group
named_groups p r = if has_names r.named then resolving_groups p r r.key.dir else []

-- the groups that the rule needs and that aren't held
abbrev pub missing_groups : HeldMaps → NetPolicyData → NetRule → List Group
missing_groups h p r =
    not_held h.addresses (groups_of r.peers) ++ (not_held h.applied p.applied ++ not_held (resolving_map h r.key.dir) (named_groups p r))

abbrev pub by_text : Group → Group → Ordering
by_text a b = text_order (group_text a) (group_text b)

-- of them the one whose text is least
abbrev pub missing_group : HeldMaps → NetPolicyData → NetRule → Option Group
missing_group h p r = first by_text (missing_groups h p r)
