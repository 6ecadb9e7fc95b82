-- What a change takes back is the cluster before it, so an index that stood for the cluster stands for that one.
use Rattle.std.proofs.Common.{◌≡◌, ◌&&◌, ℕ, Bool, List, Option, Some, None, filter, map, refl, sym, ap, ◌∙◌, Bor, false, subst, Result, Ok, Err}
use Rattle.std.specs.List.{flat_map}
use Rattle.std.specs.Result.{is_err}
use Rattle.std.specs.Option.{is_some, option_copied, option_map, option_map_or}
use Rattle.cl_types.specs.declared.keys.PodKey.{PodKey}
use Rattle.cl_types.specs.Ascending.{found, put}
use Rattle.cl_types.specs.AscendingLaws.{found_at}
use Rattle.cl_types.specs.ListLaws.{all_weaker}
use Rattle.cl_types.specs.OrderLaws.{text_order_exact}
use Rattle.label_select.specs.Group.{Group, group_has}
use Rattle.label_select.specs.Selection.{put_label}
use Rattle.cluster_types.specs.declared.change.Change.TheVariants.{Put, Remove}
use Rattle.cluster_types.specs.declared.change.Object.TheVariants as object
use Rattle.cluster_types.specs.declared.change.ObjectKey.TheVariants as key
use Rattle.cluster_types.specs.Cluster.{ClusterData, IsCluster}
use Rattle.cluster_types.specs.Groups.{in_group, name_label, object_labels}
use Rattle.cluster_types.specs.Node.{NamespaceData}
use Rattle.cluster_types.specs.Pod.{PodData, counts}
use Rattle.cluster_objects.specs.declared.change.Applied.{Applied}
use Rattle.cluster_objects.specs.declared.change.ClusterRefusal.{ClusterRefusal}
use Rattle.cluster_objects.specs.Apply.{outcome}
use Rattle.cluster_objects.specs.Changes.{Follows, apply, cleared_again, stood_again}
use Rattle.cluster_objects.specs.Laws.{UndoTakesBack}
use Rattle.group_index.specs.Before.{StandsBeforeNamespacePut, StandsBeforeNamespaceRemoved, StandsBeforePodPut, StandsBeforePodRemoved}
use Rattle.group_index.specs.Changes.{at_namespace, at_pod, before_namespace, before_pod}
use Rattle.group_index.specs.Index.{EntryData, StandsFor}
use Rattle.group_index.specs.Members.{by_address, member_of, members_of}

-- members are told by the pods and the namespaces
same_members : (b c : ClusterData) → b.pods ≡ c.pods → b.namespaces ≡ c.namespaces → (g : Group) → members_of b g ≡ members_of c g
unfolding members_of
same_members b c pods namespaces g =
    ap (λ ps. by_address (flat_map (λ (p : PodData). map (member_of p) p.addresses) (filter (in_group b g) ps))) pods
    ∙ ap (λ nss. by_address (flat_map (λ (p : PodData). map (member_of p) p.addresses) (filter (λ (p : PodData). counts p && group_has g p.key.namespace (put_label (object_labels nss p.key.namespace) name_label p.key.namespace) p.labels) c.pods))) namespaces

stands_too : (index : List EntryData) (b c : ClusterData) → b.pods ≡ c.pods → b.namespaces ≡ c.namespaces → StandsFor index c → StandsFor index b
stands_too index b c pods namespaces stands =
    all_weaker (λ (e : EntryData). e.members ≡ members_of c e.group) (λ (e : EntryData). e.members ≡ members_of b e.group)
    (λ e is. is ∙ sym (same_members b c pods namespaces e.group)) index stands

-- a cluster with what stood at a pod's key there again
abbrev pod_again : ClusterData → PodKey → Bool → Option PodData → ClusterData
pod_again c name fixed old = option_map_or (λ ob. stood_again c ob fixed) (option_map object.Pod old) (cleared_again c (key.Pod name) fixed)

abbrev namespace_again : ClusterData → List ℕ → Bool → Option NamespaceData → ClusterData
namespace_again c name fixed old = option_map_or (λ ob. stood_again c ob fixed) (option_map object.Namespace old) (cleared_again c (key.Namespace name) fixed)

pods_again : (p : PodData) (c : ClusterData) (fixed : Bool) (old : Option PodData) → (before_pod old (Some p) c).pods ≡ (pod_again c p.key fixed old).pods
pods_again p c fixed (Some old) = refl
pods_again p c fixed None = refl

others_again : (p : PodData) (c : ClusterData) (fixed : Bool) (old : Option PodData) → (before_pod old (Some p) c).namespaces ≡ (pod_again c p.key fixed old).namespaces
others_again p c fixed (Some old) = refl
others_again p c fixed None = refl

pods_stay : (name : List ℕ) (c : ClusterData) (fixed : Bool) (old : Option NamespaceData) → (before_namespace old name c).pods ≡ (namespace_again c name fixed old).pods
pods_stay name c fixed (Some old) = refl
pods_stay name c fixed None = refl

namespaces_again : (name : List ℕ) (c : ClusterData) (fixed : Bool) (nss : List NamespaceData) (old : Option NamespaceData) → found (at_namespace name) nss ≡ old
    → (before_namespace old name c).namespaces ≡ (namespace_again c name fixed old).namespaces
namespaces_again name c fixed nss (Some old) is = ap (λ t. put (at_namespace t) old c.namespaces) (sym (text_order_exact old.name name (found_at (at_namespace name) nss old is)))
namespaces_again name c fixed nss None is = refl

module _ (back : UndoTakesBack) where
  pub before_pod_put : StandsBeforePodPut
  before_pod_put index c p o whole made stands =
      let old : Option PodData = found (at_pod p.key) c.pods in
      let law : pod_again o.cluster p.key c.fixed old ≡ c = back c (Put (object.Pod p)) o whole made in
      stands_too index (before_pod old (Some p) o.cluster) c (pods_again p o.cluster c.fixed old ∙ ap (λ d. d.pods) law) (others_again p o.cluster c.fixed old ∙ ap (λ d. d.namespaces) law) stands

  pub before_pod_removed : StandsBeforePodRemoved
  before_pod_removed index c name p o whole made there stands =
      let law : pod_again o.cluster name c.fixed (found (at_pod name) c.pods) ≡ c = back c (Remove (key.Pod name)) o whole made in
      let again : pod_again o.cluster name c.fixed (Some p) ≡ c = ap (pod_again o.cluster name c.fixed) (sym there) ∙ law in
      stands_too index (before_pod (Some p) None o.cluster) c (ap (λ d. d.pods) again) (ap (λ d. d.namespaces) again) stands

  pub before_namespace_put : StandsBeforeNamespacePut
  before_namespace_put index c n o whole made stands =
      let old : Option NamespaceData = found (at_namespace n.name) c.namespaces in
      let law : namespace_again o.cluster n.name c.fixed old ≡ c = back c (Put (object.Namespace n)) o whole made in
      stands_too index (before_namespace old n.name o.cluster) c (pods_stay n.name o.cluster c.fixed old ∙ ap (λ d. d.pods) law) (namespaces_again n.name o.cluster c.fixed c.namespaces old refl ∙ ap (λ d. d.namespaces) law) stands

  pub before_namespace_removed : StandsBeforeNamespaceRemoved
  before_namespace_removed index c name o whole made stands =
      let old : Option NamespaceData = found (at_namespace name) c.namespaces in
      let law : namespace_again o.cluster name c.fixed old ≡ c = back c (Remove (key.Namespace name)) o whole made in
      stands_too index (before_namespace old name o.cluster) c (pods_stay name o.cluster c.fixed old ∙ ap (λ d. d.pods) law) (namespaces_again name o.cluster c.fixed c.namespaces old refl ∙ ap (λ d. d.namespaces) law) stands

-- where nothing stood at a new pod's key, the old pod is none
pub new_pod_put : StandsBeforePodPut → (c new : ClusterData) (p : PodData) (r : Result Applied ClusterRefusal) → IsCluster c → found (at_pod p.key) c.pods ≡ None → is_err r ≡ false
    → Follows (apply c (Put (object.Pod p))) c r new → (index : List EntryData) → StandsFor index c → StandsFor index (before_pod None (Some p) new)
new_pod_put law c new p (Ok applied) whole absent ok follows index stands =
    subst (λ old. StandsFor index (before_pod old (Some p) new)) absent (law index c p (outcome new applied) whole follows stands)
new_pod_put law c new p (Err refusal) whole absent ok follows index stands = cc

pub none_found : {T : Type 0} (r : Option (Bor T)) (x : Option T) → option_copied r ≡ x → is_some r ≡ false → x ≡ None
none_found None x is none = sym is
none_found (Some b) x is none = cc
