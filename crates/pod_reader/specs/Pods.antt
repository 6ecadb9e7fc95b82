-- Pods with their addresses and named ports (Kubernetes core v1).
use Rattle.std.specs.Prelude.{ℕ, List, [], ◌∷◌, ◌++◌, length, map, Bool, false, not, ◌&&◌, ◌||◌, ◌==◌, Option, Some, None, is_some, option_to_list, option_and_then, unwrap_or, find, codes}
use Rattle.serde_json.specs.Data.{Data}
use Rattle.cl_types.specs.declared.addr.Addr.{Addr}
use Rattle.cl_types.specs.declared.keys.PodKey.{PodKey}
use Rattle.cl_types.specs.Text.{text_eq}
use Rattle.label_select.specs.declared.labels.Label.{Label}
use Rattle.cluster_types.specs.Pod.{PodData}
use Rattle.json_fields.specs.declared.metadata.NameForm.TheVariants.{ObjectName}
use Rattle.json_fields.specs.declared.refusal.ReadRefusal.{ReadRefusal}
use Rattle.json_fields.specs.declared.refusal.ReadRefusal.TheVariants.{BadAddr}
use Rattle.json_fields.specs.Fields.{inner}
use Rattle.json_fields.specs.Names.{namespaced_faults, name_value, namespace_value, labels_value}
use Rattle.json_fields.specs.Shapes.{unless, in_field, object_faults, text_faults, truth_faults, list_faults, text_value, truth_of, items_of}
use Rattle.object_reader.specs.Nodes.{metadata_of, spec_of}
use Rattle.object_reader.specs.Texts.{four_of, six_of, has_colon}
use Rattle.pod_reader.specs.Containers.{containers_faults, pod_ports}

-- ---- metadata and spec

unfoldable pub pod_metadata_faults : Data → List ReadRefusal
pod_metadata_faults d = in_field (codes "metadata") namespaced_faults (Some d)

unfoldable pub node_name_faults : Option Data → List ReadRefusal
node_name_faults spec = in_field (codes "nodeName") text_faults spec

unfoldable pub host_network_faults : Option Data → List ReadRefusal
host_network_faults spec = in_field (codes "hostNetwork") truth_faults spec

unfoldable pub pod_spec_faults : Option Data → List ReadRefusal
pod_spec_faults spec = object_faults spec ++ node_name_faults spec ++ host_network_faults spec

-- ---- status

unfoldable pub status_of : Data → Option Data
status_of d = inner (codes "status") (Some d)

unfoldable pub phase_faults : Option Data → List ReadRefusal
phase_faults status = in_field (codes "phase") text_faults status

unfoldable pub pod_ip_faults : Option Data → List ReadRefusal
pod_ip_faults status = in_field (codes "podIP") text_faults status

unfoldable pub ip_faults : Data → List ReadRefusal
ip_faults d = object_faults (Some d) ++ in_field (codes "ip") text_faults (Some d)

unfoldable pub pod_ips_faults : Option Data → List ReadRefusal
pod_ips_faults status = in_field (codes "podIPs") (list_faults ip_faults) status

unfoldable pub ip_of : Data → List ℕ
ip_of d = text_value (inner (codes "ip") (Some d))

-- the text of `podIP`, and then those of `podIPs`; empty where one is absent
unfoldable pub ip_texts : Option Data → List (List ℕ)
ip_texts status = text_value (inner (codes "podIP") status) ∷ map ip_of (items_of (inner (codes "podIPs") status))

abbrev pub is_four_text : List ℕ → Bool
is_four_text text = not (length text == 0) && not (has_colon text)

abbrev pub bad_unless : Option (List ℕ) → (List ℕ → Option Addr) → List ReadRefusal
bad_unless None read = []
bad_unless (Some text) read = unless (is_some (read text)) BadAddr

-- of each family the first text counts that isn't empty; one of IPv6 has a colon
unfoldable pub addresses_faults : List (List ℕ) → List ReadRefusal
addresses_faults texts = bad_unless (find is_four_text texts) four_of ++ bad_unless (find has_colon texts) six_of

unfoldable pub pod_status_faults : Option Data → List ReadRefusal
pod_status_faults status =
    object_faults status ++ phase_faults status ++ pod_ip_faults status ++ pod_ips_faults status ++ addresses_faults (ip_texts status)

unfoldable pub pod_addresses : List (List ℕ) → List Addr
pod_addresses texts =
    option_to_list (option_and_then four_of (find is_four_text texts)) ++ option_to_list (option_and_then six_of (find has_colon texts))

-- Succeeded and Failed end a pod
abbrev pub is_ended : List ℕ → Bool
is_ended phase = text_eq phase (codes "Succeeded") || text_eq phase (codes "Failed")

-- ---- pods

-- the ports of its containers are looked at last
unfoldable pub pod_faults : Data → List ReadRefusal
pod_faults d =
    pod_metadata_faults d ++ in_field (codes "spec") pod_spec_faults (Some d) ++ in_field (codes "status") pod_status_faults (Some d)
    ++ in_field (codes "spec") containers_faults (Some d)

unfoldable pub pod_key : Data → PodKey
pod_key d =
    record {
      namespace = namespace_value (inner (codes "namespace") (metadata_of d));
      name = name_value ObjectName (inner (codes "name") (metadata_of d));
    }

unfoldable pub pod_node : Data → List ℕ
pod_node d = text_value (inner (codes "nodeName") (spec_of d))

unfoldable pub is_on_host : Data → Bool
is_on_host d = unwrap_or (truth_of (inner (codes "hostNetwork") (spec_of d))) false

unfoldable pub has_ended : Data → Bool
has_ended d = is_ended (text_value (inner (codes "phase") (status_of d)))

unfoldable pub addresses_of : Data → List Addr
addresses_of d = pod_addresses (ip_texts (status_of d))

unfoldable pub pod_labels : Data → List Label
pod_labels d = labels_value (inner (codes "labels") (metadata_of d))

unfoldable pub pod_value : Data → PodData
pod_value d =
    record {
      key = pod_key d;
      node = pod_node d;
      addresses = addresses_of d;
      host = is_on_host d;
      ended = has_ended d;
      labels = pod_labels d;
      ports = pod_ports (spec_of d);
    }
