-- The forms of names and labels, as tests of their bytes (Kubernetes: object names, labels and selectors).
use Rattle.std.specs.Prelude.{ℕ, ◌+◌, ◌-◌, List, length, take, drop, Bool, false, ◌&&◌, ◌||◌, ◌==◌, nat_le}
use Rattle.std.specs.List.{list_all, slice_get, slice_split, position}
use Rattle.std.specs.Option.{option_map_or}
use Rattle.cl_types.specs.Bytes.{dash, dot, slash, underscore}
use Rattle.std.specs.Char.{is_ascii_lowercase, is_ascii_digit, is_ascii_alphanumeric}

-- `a` to `z` and `0` to `9`
abbrev pub is_small : ℕ → Bool
is_small b = is_ascii_lowercase b || is_ascii_digit b

-- `a` to `z`, `0` to `9` and `-`
abbrev pub is_part_byte : ℕ → Bool
is_part_byte b = is_small b || (b == dash)

-- letters, digits, `-`, `_` and `.`
abbrev pub is_label_byte : ℕ → Bool
is_label_byte b = is_ascii_alphanumeric b || (b == dash) || (b == underscore) || (b == dot)

-- the first and the last byte are there and pass
abbrev pub ends_pass : (ℕ → Bool) → List ℕ → Bool
ends_pass p text =
    option_map_or p (slice_get text 0) false && option_map_or p (slice_get text (length text - 1)) false

-- what stands between two dots of a name: it begins and ends with a letter or digit
unfoldable pub is_part : List ℕ → Bool
is_part text = list_all is_part_byte text && ends_pass is_small text

-- how many bytes a namespace's name and a label's name have at most
abbrev pub longest_part : ℕ
longest_part = 63

-- how many bytes every other object's name has at most
abbrev pub longest_name : ℕ
longest_name = 253

-- a namespace's name is a part that is not too long
unfoldable pub is_namespace_name : List ℕ → Bool
is_namespace_name text = nat_le (length text) longest_part && is_part text

-- every other object's name is parts joined by dots, not too long in all
unfoldable pub is_object_name : List ℕ → Bool
is_object_name text = nat_le (length text) longest_name && list_all is_part (slice_split (λ b. b == dot) text)

-- a label's name begins and ends with a letter or digit
unfoldable pub is_name_part : List ℕ → Bool
is_name_part text = nat_le (length text) longest_part && (list_all is_label_byte text && ends_pass is_ascii_alphanumeric text)

-- a label's key is a name, or a prefix in the form of an object's name, `/` and a name
unfoldable pub is_label_key : List ℕ → Bool
is_label_key text =
    option_map_or (λ i. is_object_name (take i text) && is_name_part (drop (i + 1) text)) (position (λ b. b == slash) text) (is_name_part text)

-- a label's value is empty or in the form of a name
unfoldable pub is_label_value : List ℕ → Bool
is_label_value text = (length text == 0) || is_name_part text
