-- A list of payloads as the caller hands it over, and as an area's text.
use Rattle.std.specs.Prelude.{◌≡◌, ◌≤◌, ℕ, List, [], ◌∷◌, ◌++◌, length, slice_range}
use Rattle.kb_wire.specs.Fields.{u32_text}

-- the bytes from one end to the next, each a payload
abbrev pub pieces : ℕ → List ℕ → List ℕ → List (List ℕ)
pieces from bytes [] = []
pieces from bytes (to ∷ ends) = slice_range bytes from to ∷ pieces to bytes ends

-- the ends don't fall, and the last is the end of the bytes
abbrev pub AreEnds : ℕ → List ℕ → List ℕ → Type 0
AreEnds from bytes [] = from ≡ length bytes
AreEnds from bytes (to ∷ ends) = (from ≤ to) × AreEnds to bytes ends

-- a record with an open gate
unfoldable pub open_record : List ℕ → List ℕ
open_record p = 1 ∷ (u32_text (length p) ++ p)

-- records with open gates, and a closed gate
abbrev pub records_text : List (List ℕ) → List ℕ
records_text [] = 0 ∷ []
records_text (p ∷ ps) = open_record p ++ records_text ps
