use Rattle.held_maps.proofs.PolicyMaps.{policies_of_map}
use Rattle.held_maps.proofs.held.Held.policies.Goals as goal

pub returns-clause-held : goal.returns-clause-held
returns-clause-held c =
    rw (← c.self.view_is) (policies_of_map c.self.inside.policies c.self.inside.egresses c.objects.ensures.ascend)
