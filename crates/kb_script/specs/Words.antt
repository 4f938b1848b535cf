-- What single words are.
use Rattle.std.specs.Prelude.{ℕ, Bool, not, ◌&&◌, ◌||◌, ◌==◌, nat_le, List, [], length, drop, slice_index, codes, if◌then◌else◌, Result, Ok, Err, is_ok}
use Rattle.std.specs.Char.{is_ascii_digit}
use Rattle.std.specs.List.{list_all}
use Rattle.std.specs.Str.{bytes_eq}
use Rattle.std.specs.Result.{result_unwrap_or}
use Rattle.std.specs.Str.Parse.{digits_value}
use Rattle.hex.specs.Hex.{decode_sized}
use Rattle.percent_encoding.specs.Percent.{percent_decode}
use Rattle.kb_edge.specs.declared.disk.Pick.{Pick}
use Rattle.kb_edge.specs.declared.disk.Pick.TheVariants.{Old, New, Noise}
use Rattle.kb_edge.specs.declared.link.Side.{Side}
use Rattle.kb_edge.specs.declared.link.Side.TheVariants.{Request, Reply}
use Rattle.kb_keys.specs.declared.policy.Role.{Role}
use Rattle.kb_keys.specs.declared.policy.Role.TheVariants.{Writer, Reader}
use Rattle.kb_script.specs.declared.faults.Why.{Why}
use Rattle.kb_script.specs.declared.faults.Why.TheVariants.{Number, Hex, Choice}

abbrev pub is_digits : List ℕ → Bool
is_digits w = list_all is_ascii_digit w

-- digits without a leading zero, or `0`
abbrev pub is_number : List ℕ → Bool
is_number w = is_digits w && (not (length w == 0) && (length w == 1 || not (slice_index w 0 == 48)))

abbrev pub value : List ℕ → ℕ
value w = digits_value 10 w

abbrev pub is_number_in : ℕ → ℕ → List ℕ → Bool
is_number_in low high w = is_number w && (nat_le low (value w) && nat_le (value w) high)

-- `=` and percent-escaped bytes; a `%` without two hexadecimal digits stands for itself
abbrev pub is_data : List ℕ → Bool
is_data w = slice_index w 0 == 61

abbrev pub bytes_in : List ℕ → List ℕ
bytes_in w = percent_decode (drop 1 w)

-- 64 hexadecimal digits, of either case
abbrev pub is_seed : List ℕ → Bool
is_seed w = is_ok (decode_sized w 32)

abbrev pub seed_in : List ℕ → List ℕ
seed_in w = result_unwrap_or (decode_sized w 32) []

-- what a power cut leaves
abbrev pub pick_of : List ℕ → Pick
pick_of w = if bytes_eq w (codes "old") then Old else if bytes_eq w (codes "new") then New else Noise

-- what a link loses
abbrev pub side_of : List ℕ → Side
side_of w = if bytes_eq w (codes "request") then Request else Reply

-- what a grant makes of a device
abbrev pub role_of : List ℕ → Role
role_of w = if bytes_eq w (codes "writer") then Writer else Reader

-- what the calls answer for such a word
abbrev pub number_answer : ℕ → ℕ → List ℕ → Result ℕ Why
number_answer low high w = if is_number_in low high w then Ok (value w) else Err Number

abbrev pub data_answer : List ℕ → Result (List ℕ) Why
data_answer w = if is_data w then Ok (bytes_in w) else Err Choice

abbrev pub seed_answer : List ℕ → Result (List ℕ) Why
seed_answer w = if is_seed w then Ok (seed_in w) else Err Hex
