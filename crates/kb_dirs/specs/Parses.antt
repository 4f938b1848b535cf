-- What reading a directory's text gives.
use Rattle.std.specs.Prelude.{◌≡◌, ◌≢◌, ℕ, Bool, true, List, [], ◌∷◌, ◌++◌, length, Result, Ok, Err, Vec}
use Rattle.std.specs.List.{AllByRecursion}
use Rattle.std.specs.Ordering.{nat_cmp, is_lt}
use Rattle.std.specs.Cmp.Lexicographic.{slice_cmp}
use Rattle.std.specs.declared.alloc.Global.{Global}
use Rattle.kb_dirs.specs.declared.entries.Entry.{Entry}
use Rattle.kb_dirs.specs.declared.faults.DirFault.{DirFault}
use Rattle.kb_dirs.specs.declared.faults.DirFault.TheVariants.{BadDir, Memory}
use Rattle.kb_dirs.specs.Dirs.{dir_text, IsEntry, AreOrdered, AreEntries}

-- refused only where no such value is spelled in front
abbrev pub Refused : {X : Type 0} → (X → List ℕ) → (X → Type 0) → List ℕ → DirFault → Type 0
Refused text Is old Memory = Unit {0}
Refused {X} text Is old BadDir = (x : X) (rest : List ℕ) → Is x → old ≡ text x ++ rest → ⊥

-- the value that was read is spelled in front, and the rest is left
abbrev pub Parses : {X Y : Type 0} → (Y → X) → (X → List ℕ) → (X → Type 0) → List ℕ → List ℕ → Result Y DirFault → Type 0
Parses value text Is old new (Ok y) = Is (value y) × (old ≡ text (value y) ++ new)
Parses value text Is old new (Err fault) = Refused text Is old fault

-- so many entries in order
pub record AreMany (count : ℕ) (es : List Entry) : Type 0 where
  pub size : length es ≡ count
  pub each : AllByRecursion IsEntry es
  pub ordered : AreOrdered es

-- the name stands behind that of the last entry
abbrev pub is_above : List Entry → List ℕ → Bool
is_above [] name = true
is_above (e ∷ []) name = is_lt (slice_cmp nat_cmp e.name name)
is_above (e ∷ f ∷ es) name = is_above (f ∷ es) name

-- the entries that were read are those that the text spells, and it spells none where it is bad
abbrev pub ReadsDir : List ℕ → Result (Vec Entry Global) DirFault → Type 0
ReadsDir text (Ok es) = AreEntries es.items × (text ≡ dir_text es.items)
ReadsDir text (Err BadDir) = (es : List Entry) → AreEntries es → text ≢ dir_text es
ReadsDir text (Err Memory) = Unit {0}
