-- A pod has at most one address of each family.
use Rattle.std.proofs.Common.{◌≡◌, ℕ, List, ◌++◌, Bool, true, false, Option, Some, None, option_and_then, option_to_list, find, refl}
use Rattle.cl_types.specs.declared.addr.Addr.{Addr}
use Rattle.cl_types.specs.declared.addr.Addr.TheVariants.{V4, V6}
use Rattle.cl_types.specs.ReadText.{read_address}
use Rattle.cluster_types.specs.Pod.{AreAddresses}
use Rattle.serde_json.specs.Data.{Data}
use Rattle.object_reader.specs.Texts.{is_four, where_four, where_six, four_of, six_of, has_colon}
use Rattle.pod_reader.specs.Pods.{is_four_text, pod_addresses, addresses_of, ip_texts, status_of}

-- an address of a family, where one is there
abbrev IsOf : Bool → Option Addr → Type 0
IsOf four None = Unit {0}
IsOf four (Some a) = is_four a ≡ four

four_is_four : (o : Option Addr) → IsOf true (where_four o)
four_is_four None = tt
four_is_four (Some (V4 n)) = refl
four_is_four (Some (V6 n)) = tt

six_is_six : (o : Option Addr) → IsOf false (where_six o)
six_is_six None = tt
six_is_six (Some (V4 n)) = tt
six_is_six (Some (V6 n)) = refl

first_is_four : (o : Option (List ℕ)) → IsOf true (option_and_then four_of o)
unfolding four_of
first_is_four None = tt
first_is_four (Some text) = four_is_four (read_address text)

first_is_six : (o : Option (List ℕ)) → IsOf false (option_and_then six_of o)
unfolding six_of
first_is_six None = tt
first_is_six (Some text) = six_is_six (read_address text)

both_are : (a b : Option Addr) → IsOf true a → IsOf false b → AreAddresses (option_to_list a ++ option_to_list b)
both_are None None x y = tt
both_are None (Some b) x y = tt
both_are (Some a) None x y = tt
both_are (Some (V4 n)) (Some (V4 m)) x y = cc
both_are (Some (V4 n)) (Some (V6 m)) x y = tt
both_are (Some (V6 n)) (Some b) x y = cc

pub are_addresses : (d : Data) → AreAddresses (addresses_of d)
unfolding addresses_of pod_addresses
are_addresses d =
    both_are _ _ (first_is_four (find is_four_text (ip_texts (status_of d)))) (first_is_six (find has_colon (ip_texts (status_of d))))
