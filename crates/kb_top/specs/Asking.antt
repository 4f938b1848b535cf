-- What the words of a command line ask for.
use Rattle.std.specs.Prelude.{◌==◌, ◌&&◌, not, ℕ, Bool, List, length, slice_index}
use Rattle.std.specs.Char.{is_ascii_digit}
use Rattle.std.specs.List.{list_all}
use Rattle.std.specs.declared.string.String.{String}
use Rattle.kb_top.specs.Outcomes.{IsRun, IsGen}
use Rattle.kb_top.specs.declared.words.Asked.{Asked}
use Rattle.kb_top.specs.declared.words.Asked.TheVariants.{Run, Gen, Nothing}

abbrev pub AsksFor : {A : Type 0} → List (String A) → Asked → Type 0
AsksFor words Run = IsRun words
AsksFor words (Gen number) = IsGen words number
AsksFor words Nothing = (¬ IsRun words) × ((number : ℕ) → ¬ IsGen words number)

-- digits of which the first isn't 0
abbrev pub is_numeral : List ℕ → Bool
is_numeral w = list_all is_ascii_digit w && (not (length w == 0) && not (slice_index w 0 == 48))
