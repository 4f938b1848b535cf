-- How many blocks a range of a file touches.
use Rattle.std.specs.Prelude.{ℕ, zero, suc, ◌+◌, ◌-◌, ◌/◌, max, nat_lt, if◌then◌else◌}
use Rattle.kb_files.specs.Files.{span, level_of}

-- how many blocks, of so many bytes each, have a byte from one place up to another
abbrev pub spread : ℕ → ℕ → ℕ → ℕ
spread each from to = if nat_lt from to then (to - 1) / each - from / each + 1 else 0

-- how many blocks of the level and below have a byte from one place up to another
abbrev pub touched : ℕ → ℕ → ℕ → ℕ
touched zero from to = spread (span zero) from to
touched (suc n) from to = spread (span (suc n)) from to + touched n from to

-- how many blocks a file of so many bytes has: an empty one has a leaf
abbrev pub blocks_of : ℕ → ℕ
blocks_of size = max 1 (touched (level_of size) 0 size)
