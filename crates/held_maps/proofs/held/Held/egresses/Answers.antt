use Rattle.held_maps.proofs.PolicyMaps.{egresses_of_map}
use Rattle.held_maps.proofs.held.Held.egresses.Goals as goal

pub returns-clause-held : goal.returns-clause-held
returns-clause-held c =
    rw (← c.self.view_is) (egresses_of_map c.self.inside.policies c.self.inside.egresses c.objects-policies.ensures.ascend c.objects.ensures.ascend)
