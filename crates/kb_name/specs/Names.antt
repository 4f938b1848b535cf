-- What a name is.
use Rattle.std.specs.Prelude.{◌≡◌, true, ℕ, Bool, not, ◌&&◌, ◌||◌, List, [], ◌∷◌, length, nat_le, nat_eq}
use Rattle.std.specs.List.{list_all}
use Rattle.std.specs.Str.{bytes_eq, is_utf8}

-- no `/` and no byte 0
abbrev pub is_plain_text : List ℕ → Bool
is_plain_text bs = list_all (λ b. not (nat_eq b 47) && not (nat_eq b 0)) bs

-- `.` or `..`
abbrev pub is_dots : List ℕ → Bool
is_dots bs = bytes_eq bs (46 ∷ []) || bytes_eq bs (46 ∷ 46 ∷ [])

-- 1 to 255 bytes of UTF-8 without `/` and byte 0, not `.` and not `..`
abbrev pub is_name : List ℕ → Bool
is_name bs = not (nat_eq (length bs) 0) && (nat_le (length bs) 255 && (is_plain_text bs && (not (is_dots bs) && is_utf8 bs)))

-- `a` to `z`, `0` to `9` or `-`
abbrev pub is_device_byte : ℕ → Bool
is_device_byte b = (nat_le 97 b && nat_le b 122) || ((nat_le 48 b && nat_le b 57) || nat_eq b 45)

abbrev pub is_device_text : List ℕ → Bool
is_device_text bs = list_all is_device_byte bs

-- 1 to 24 of these
abbrev pub is_device_name : List ℕ → Bool
is_device_name bs = not (nat_eq (length bs) 0) && (nat_le (length bs) 24 && is_device_text bs)

-- a name, or none
abbrev pub is_kept_name : List ℕ → Bool
is_kept_name bs = nat_eq (length bs) 0 || is_name bs

-- each of the texts is a name
abbrev pub AreNames : List (List ℕ) → Type 0
AreNames names = list_all is_name names ≡ true
