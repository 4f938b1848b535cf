-- The bytes of a disk in memory, and what a power cut leaves of them.
use Rattle.std.specs.Prelude.{◌≡◌, ◌<◌, ◌^◌, ℕ, ◌+◌, ◌*◌, ◌/◌, ◌%◌, Bool, true, false, List, Option, map, nat_lt, slice_index_or}
use Rattle.std.specs.List.{range_with_len}
use Rattle.kb_edge.specs.declared.disk.Pick.{Pick}
use Rattle.kb_edge.specs.declared.disk.Pick.TheVariants.{Old, New, Noise}
use Rattle.kb_memdisk.specs.Pages.{byte_or}

-- whether a place was written since the last sync
abbrev pub is_dirty : List Bool → ℕ → Bool
is_dirty dirty place = slice_index_or dirty place false

-- the byte now of a place, whose page is there if it was ever written
unfoldable pub now_at : (ℕ → Option (List ℕ)) → ℕ → ℕ
now_at now place = byte_or (now (place / 512)) (place % 512) 0

-- the byte of a place after the last sync, whose page is kept if it was written since
unfoldable pub stable_at : (ℕ → Option (List ℕ)) → (ℕ → Option (List ℕ)) → ℕ → ℕ
stable_at now kept place = byte_or (kept (place / 512)) (place % 512) (now_at now place)

-- whether a place was written since the last sync: its flag isn't 0
unfoldable pub dirty_at : (ℕ → Option (List ℕ)) → ℕ → Bool
dirty_at flags place = nat_lt 0 (byte_or (flags (place / 512)) (place % 512) 0)

-- a value for each place of a disk
unfoldable pub row : {X : Type 0} → (ℕ → X) → ℕ → List X
row at size = map at (range_with_len 0 size)

-- there may be as many pages as a disk has, whose places are numbers of 32 bits
pub record AreCells (now kept flags size : ℕ) : Type 0 where
  pub now_pages : now ≡ size / 512 + 1
  pub kept_pages : kept ≡ size / 512 + 1
  pub flags_pages : flags ≡ size / 512 + 1
  pub small : size < 2 ^ 32

-- what a power cut leaves in a place
abbrev pub picked : Pick → Bool → ℕ → ℕ → ℕ → ℕ
picked Old true stable now place = stable
picked New true stable now place = now
picked Noise true stable now place = (37 * place + 11) % 256
picked pick false stable now place = now
