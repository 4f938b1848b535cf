-- What reading a value from the front of bytes gives.
use Rattle.std.specs.Prelude.{◌≡◌, ℕ, List, ◌++◌, Result, Ok, Err}
use Rattle.kb_ops.specs.declared.faults.OpFault.{OpFault}
use Rattle.kb_ops.specs.declared.faults.OpFault.TheVariants.{BadOp, Memory}

-- refused only where no such value is spelled in front
abbrev pub Refused : {X : Type 0} → (X → List ℕ) → (X → Type 0) → List ℕ → OpFault → Type 0
Refused text Is old Memory = Unit {0}
Refused {X} text Is old BadOp = (x : X) (rest : List ℕ) → Is x → old ≡ text x ++ rest → ⊥

-- the value that was read is spelled in front, and the rest is left
abbrev pub Parses : {X Y : Type 0} → (Y → X) → (X → List ℕ) → (X → Type 0) → List ℕ → List ℕ → Result Y OpFault → Type 0
Parses value text Is old new (Ok y) = Is (value y) × (old ≡ text (value y) ++ new)
Parses value text Is old new (Err fault) = Refused text Is old fault
