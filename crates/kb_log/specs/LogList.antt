-- Which list of payloads the bytes of a disk are.
use Rattle.std.specs.Prelude.{ℕ, zero, suc, ◌+◌, ◌-◌, ◌/◌, ◌%◌, Bool, List, [], ◌∷◌, ◌++◌, length, take, drop, slice_index, sum_by, map, Vec, Option, None, Some, nat_lt, ◌==◌, if◌then◌else◌}
use Rattle.std.specs.Option.{option_map, option_and_then}
use Rattle.std.specs.List.{list_all}
use Rattle.std.specs.declared.alloc.Global.{Global}
use Rattle.std.specs.Int.{w32, from_be_bytes}
use Rattle.kb_wire.specs.Fields.{u32_text}

-- behind a gate: four bytes of length, that many bytes, and what follows them
unfoldable pub payload_at : List ℕ → Option (List ℕ × List ℕ)
payload_at text =
    if nat_lt (length text) 4 then
    None
    else
    (if nat_lt (length (drop 4 text)) (from_be_bytes w32 (take 4 text)) then
    None
    else
    Some (take (from_be_bytes w32 (take 4 text)) (drop 4 text), drop (from_be_bytes w32 (take 4 text)) (drop 4 text)))

-- the payloads up to the first closed gate, of which there are fewer than `most`, or none where an open gate's record
-- or the gate after it doesn't lie within the text
unfoldable pub records : ℕ → List ℕ → Option (List (List ℕ))
records zero text = None
records (suc most) [] = None
records (suc most) (zero ∷ text) = Some []
records (suc most) (suc gate ∷ text) =
    option_and_then (λ found. option_map (λ ps. found.0 ∷ ps) (records most found.1)) (payload_at text)

-- each record takes a byte, so there are fewer than bytes
abbrev pub list_of : List ℕ → Option (List (List ℕ))
list_of text = records (suc (length text)) text

-- the bytes of an area, of a disk's
abbrev pub area_size : ℕ → ℕ
area_size size = (size - 16) / 2

-- the selector is odd, so area B is chosen
abbrev pub is_second : List ℕ → Bool
is_second image = slice_index image 8 % 2 == 1

-- where the chosen area begins
abbrev pub area_start : List ℕ → ℕ
area_start image = if is_second image then 16 + area_size (length image) else 16

-- where the other area begins
abbrev pub other_start : List ℕ → ℕ
other_start image = if is_second image then 16 else 16 + area_size (length image)

-- the bytes of the chosen area
abbrev pub area_of : List ℕ → List ℕ
area_of image = take (area_size (length image)) (drop (area_start image) image)

-- the first eight bytes are 0
abbrev pub has_magic : List ℕ → Bool
has_magic image = list_all (λ b. b == 0) (take 8 image)

-- the payloads that the bytes of a disk are, or none where they are no log
unfoldable pub log_list : List ℕ → Option (List (List ℕ))
log_list image = if has_magic image then list_of (area_of image) else None

-- the bytes of the records, and of the closed gate
abbrev pub used_of : List (List ℕ) → ℕ
used_of ps = sum_by (λ p. 5 + length p) ps + 1

-- what stands behind the gate of a payload's record, and a closed gate
unfoldable pub record_of : List ℕ → List ℕ
record_of p = u32_text (length p) ++ (p ++ 0 ∷ [])

-- payloads without where they lie in memory
abbrev pub lists_of : List (Vec ℕ Global) → List (List ℕ)
lists_of = map (λ v. v.items)
