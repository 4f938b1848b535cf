-- The last moment.
use Rattle.std.specs.Prelude.{ℕ}

-- the last second of 9999
abbrev pub last_second : ℕ
last_second = 253402300799
