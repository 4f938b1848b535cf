-- What the statements before a line say to it. They come latest first.
use Rattle.std.specs.Prelude.{ℕ, Bool, true, false, List, [], ◌∷◌, ◌++◌, length}
use Rattle.std.specs.List.{list_any}
use Rattle.kb_script.specs.declared.statements.Statement.{Statement}
use Rattle.kb_script.specs.declared.statements.Statement.TheVariants.{Device, Found}
use Rattle.kb_script.specs.Fit.{IsFit}
use Rattle.kb_script.specs.Seen.{Known}

-- the devices that were declared, in their order
abbrev pub declared : List Statement → List (List ℕ)
declared [] = []
declared (Device name size ∷ earlier) = declared earlier ++ name ∷ []
declared (s ∷ earlier) = declared earlier

abbrev pub is_found : Statement → Bool
is_found (Found device) = true
is_found s = false

abbrev pub has_begun : List Statement → Bool
has_begun [] = false
has_begun (s ∷ earlier) = true

abbrev pub known_of : List Statement → Known
known_of earlier = record { devices = declared earlier; found = list_any is_found earlier; begun = has_begun earlier }

-- the same, one statement at a time
abbrev pub start : Known
start = record { devices = []; found = false; begun = false }

abbrev pub after : Known → Statement → Known
after k (Device name size) = record { devices = k.devices ++ name ∷ []; found = k.found; begun = true }
after k (Found device) = record { devices = k.devices; found = true; begun = true }
after k s = record { devices = k.devices; found = k.found; begun = true }

-- each statement fits behind those before it
abbrev pub AllFitBack : List Statement → Type 0
AllFitBack [] = Unit {0}
AllFitBack (s ∷ earlier) = IsFit (length (declared earlier)) (list_any is_found earlier) s × AllFitBack earlier
