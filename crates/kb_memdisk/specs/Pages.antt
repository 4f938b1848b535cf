-- Pages of a row of bytes, of which some are there.
use Rattle.std.specs.Prelude.{◌≡◌, ◌≤◌, ◌<◌, ◌^◌, ◌+◌, ◌*◌, ◌&&◌, ◌==◌, ℕ, Bool, List, Option, None, Some, if◌then◌else◌, nat_lt, length, replicate, slice_index, slice_range}

-- whether a page is there: its seat is taken, and by it
abbrev pub is_there : List ℕ → List ℕ → ℕ → Bool
is_there seats order page =
    nat_lt (slice_index seats page) (length order) && (slice_index order (slice_index seats page) == page)

-- its bytes, or none where it isn't there
unfoldable pub page_in : List ℕ → List ℕ → List ℕ → ℕ → Option (List ℕ)
page_in seats order bytes page =
    if is_there seats order page then
    Some (slice_range bytes (512 * slice_index seats page) (512 * slice_index seats page + 512))
    else
    None

-- each page that is there has a seat of its own, and there is room for all
pub record ArePages (seats order : List ℕ) (bytes order_room bytes_room : ℕ) : Type 0 where
  pub size : bytes ≡ 512 * length order
  pub inside : (k : ℕ) → k < length order → slice_index order k < length seats
  pub seated : (k : ℕ) → k < length order → slice_index seats (slice_index order k) ≡ k
  pub small : length seats < 2 ^ 32
  pub order_space : length seats ≤ order_room
  pub bytes_space : 512 * length seats ≤ bytes_room

-- a page's bytes, which are zeros where it isn't there
abbrev pub or_zeros : Option (List ℕ) → List ℕ
or_zeros None = replicate 512 0
or_zeros (Some text) = text

-- the byte of a page at a place in it, or another where the page isn't there
abbrev pub byte_or : Option (List ℕ) → ℕ → ℕ → ℕ
byte_or None k other = other
byte_or (Some text) k other = slice_index text k
