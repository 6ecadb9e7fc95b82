-- Where changes lead that were foretold.
use Rattle.std.proofs.Common.{◌≡◌, Bool, true, false, Result, Ok, Err, List, ◌∷◌, refl, sym, ap, ◌∙◌}
use Rattle.cluster_objects.specs.declared.change.ClusterRefusal.{ClusterRefusal}
use Rattle.cluster_types.specs.declared.change.Change.{Change}
use Rattle.cluster_types.specs.Cluster.{ClusterData}
use Rattle.cluster_objects.specs.Changes.{Outcomes, after}
use Rattle.ctl_core.specs.Line.{Came, came, came_to}
use Rattle.ctl_core.specs.Trying.{Foretells, Leads}
use Rattle.ctl_core.proofs.Coming.{cluster_in, differs_in}

-- from one cluster the changes lead to one
pub leads_same : (changes : List Change) (a b x y : ClusterData) → a ≡ b → Leads changes a x → Leads changes b y → x ≡ y
leads_same changes a b x y same first second =
    ap (cluster_in a) (sym first.made ∙ (ap (λ c. came (after c changes)) same ∙ second.made))
