-- What a line's changes come to, and what stays where they come to nothing.
use Rattle.std.proofs.Common.{◌≡◌, Bool, true, false, Result, Ok, Err, OnOk, List, [], ◌∷◌, length, slice_index_or, sym, ap, subst, ◌∙◌, arith}
use Rattle.cluster_objects.specs.declared.change.ClusterRefusal.{ClusterRefusal}
use Rattle.cluster_objects.specs.declared.change.ClusterRefusal.TheVariants as cluster
use Rattle.cluster_types.specs.declared.change.Change.{Change}
use Rattle.cluster_types.specs.Cluster.{ClusterData}
use Rattle.cluster_objects.specs.Changes.{after, apply}
use Rattle.watch_streams.specs.OneOfAll.{or_false}
use Rattle.ctl_core.specs.Line.{ComesTo, UnlessMade, came, came_to, is_under_way, one_came}
use Rattle.ctl_core.specs.Trying.{Leads}
use Rattle.ctl_core.proofs.Coming.{came_first, one_made, one_refused, refused_comes}

-- ---- what stays

pub unless_refused : (refusal : ClusterRefusal) {Same : Type 0} → Same → UnlessMade (Err refusal) Same
unless_refused cluster.NoMemory same = tt
unless_refused cluster.NodesFixed same = same
unless_refused (cluster.CidrOverlap x) same = same
unless_refused cluster.TierFixed same = same
unless_refused (cluster.TierTaken x) same = same
unless_refused (cluster.TierInUse x) same = same
unless_refused (cluster.NoSuchTier x) same = same
unless_refused (cluster.AddressInUse x) same = same
unless_refused (cluster.TooMany x) same = same
unless_refused (cluster.TooManyMarks x) same = same

-- where nothing is under way all is as it was
pub not_under_way : (made : Result Bool ClusterRefusal) {Same : Type 0} → is_under_way made ≡ false → UnlessMade made Same → Same
not_under_way (Ok true) none same = cc
not_under_way (Ok false) none same = same
not_under_way (Err cluster.NoMemory) none same = cc
not_under_way (Err cluster.NodesFixed) none same = same
not_under_way (Err (cluster.CidrOverlap x)) none same = same
not_under_way (Err cluster.TierFixed) none same = same
not_under_way (Err (cluster.TierTaken x)) none same = same
not_under_way (Err (cluster.TierInUse x)) none same = same
not_under_way (Err (cluster.NoSuchTier x)) none same = same
not_under_way (Err (cluster.AddressInUse x)) none same = same
not_under_way (Err (cluster.TooMany x)) none same = same
not_under_way (Err (cluster.TooManyMarks x)) none same = same

-- ---- one change

-- a change that is alone is the whole line
pub one_alone : (c new : ClusterData) (change : Change) (result : Result Bool ClusterRefusal) → ComesTo (one_came change (apply c change)) result new → ComesTo (came (after c (change ∷ []))) result new
one_alone c new change (Ok differs) e = sym (came_first (after c (change ∷ []))) ∙ (one_made false differs c new change [] e ∙ ap (λ b. Ok (came_to new b)) (or_false differs))
one_alone c new change (Err refusal) e = refused_comes (came (after c (change ∷ []))) (one_came change (apply c change)) new new refusal e (λ h. sym (came_first (after c (change ∷ []))) ∙ one_refused false c change [] refusal h)

-- a list of one
pub alone : {T : Type 0} (xs : List T) (x : T) → length xs ≡ 1 → x ≡ slice_index_or xs 0 x → xs ≡ x ∷ []
alone [] x one is = absurd (omega (arith, one))
alone (y ∷ []) x one is = ap (λ z. z ∷ []) (sym is)
alone (y ∷ z ∷ xs) x one is = absurd (omega (arith, one))

-- ---- what an answer gives

pub on_ok : {Gives : Type 0} (result : Result Bool ClusterRefusal) (differs : Bool) → result ≡ Ok differs → OnOk result Gives → Gives
on_ok {Gives = Gives} result differs is gives = subst (λ (r : Result Bool ClusterRefusal). OnOk r Gives) is gives

-- where the changes were made they lead there
pub led : (result : Result Bool ClusterRefusal) (differs : Bool) (seen changes : List Change) (c new : ClusterData) → result ≡ Ok differs → seen ≡ changes → ComesTo (came (after c seen)) result new → Leads changes c new
led result differs seen changes c new is same made = record {
  differs = differs;
  made = ap (λ xs. came (after c xs)) (sym same) ∙ subst (λ (r : Result Bool ClusterRefusal). ComesTo (came (after c seen)) r new) is made;
}
