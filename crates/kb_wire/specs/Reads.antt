-- What reading a field gives, and what is left then.
use Rattle.std.specs.Prelude.{◌≡◌, ◌<◌, ◌≤◌, ℕ, List, ◌++◌, length, take, Result, Ok, Err}
use Rattle.std.specs.Str.{IsUtf8}
use Rattle.kb_wire.specs.declared.reader.WireFault.{WireFault}
use Rattle.kb_wire.specs.declared.reader.WireFault.TheVariants.{Short, BadText}

-- the field of n bytes that stood in front was read, or fewer bytes are left and nothing was read
abbrev pub Reads : {X : Type 0} → (X → List ℕ) → ℕ → List ℕ → List ℕ → Result X WireFault → Type 0
Reads text n old new (Ok x) = (length (text x) ≡ n) × (old ≡ text x ++ new)
Reads text n old new (Err Short) = (length old < n) × (new ≡ old)
Reads text n old new (Err BadText) = ⊥

-- the same, and the n bytes are UTF-8, or they aren't and nothing was read
abbrev pub ReadsText : {X : Type 0} → (X → List ℕ) → ℕ → List ℕ → List ℕ → Result X WireFault → Type 0
ReadsText text n old new (Ok x) = (length (text x) ≡ n) × (old ≡ text x ++ new) × IsUtf8 (text x)
ReadsText text n old new (Err Short) = (length old < n) × (new ≡ old)
ReadsText text n old new (Err BadText) = (n ≤ length old) × ¬ (IsUtf8 (take n old)) × (new ≡ old)
