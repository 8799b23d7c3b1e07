-- Names of labels.
use Rattle.std.specs.Prelude.{ℕ, ◌-◌, Bool, ◌&&◌, ◌||◌, nat_le, if◌then◌else◌, List, length, ◌++◌, replicate, slice_index, Option, Some, None}
use Rattle.std.specs.List.{list_all}

abbrev pub is_letter : ℕ → Bool
is_letter b = nat_le 97 b && nat_le b 122

abbrev pub is_name_byte : ℕ → Bool
is_name_byte b = is_letter b || (nat_le 48 b && nat_le b 57)

unfoldable pub all_name_bytes : List ℕ → Bool
all_name_bytes t = list_all is_name_byte t

-- a letter, then up to 15 letters or digits, lower case
unfoldable pub is_name : List ℕ → Bool
is_name t = nat_le 1 (length t) && nat_le (length t) 16 && is_letter (slice_index t 0) && all_name_bytes t

-- the name with zeros behind it, 16 bytes in all
unfoldable pub name_of : List ℕ → Option (List ℕ)
name_of t = if is_name t then Some (t ++ replicate (16 - length t) 0) else None
