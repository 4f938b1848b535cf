-- Disks that a device may have.
use Rattle.std.specs.Prelude.{ℕ, ◌≤◌, ◌^◌}

-- 4,096 to 16,777,216 bytes
abbrev pub IsSized : ℕ → Type 0
IsSized n = (4096 ≤ n) × (n ≤ 2 ^ 24)
