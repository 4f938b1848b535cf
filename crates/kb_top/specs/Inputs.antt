-- The bytes of a source, and what is said of those that are no script.
use Rattle.std.specs.Prelude.{◌≡◌, ℕ, ◌+◌, ◌<◌, false, List, [], ◌∷◌, ◌++◌, length, take, codes, decimal, Option, Some, None}
use Rattle.kb_script.specs.declared.statements.Statement.{Statement}
use Rattle.kb_script.specs.declared.faults.ScriptFault.{ScriptFault}
use Rattle.kb_script.specs.declared.faults.ScriptFault.TheVariants.{TooLong, BadLine, Memory}
use Rattle.kb_script.specs.declared.faults.Why.{Why}
use Rattle.kb_script.specs.declared.faults.Why.TheVariants.{Text, Word, Later, Count, Number, Hex, Name, Choice, Device, Order}
use Rattle.kb_script.specs.Scripts.{IsScript, IsFirstBad}
use Rattle.kb_top.specs.declared.input.TheConstants.{SCRIPT_LIMIT}

-- these are the bytes of the source, where it tells them, cut behind one more than a script may have
abbrev pub IsInput : Option (List ℕ) → List ℕ → Type 0
IsInput None bytes = Unit {0}
IsInput (Some all) bytes = bytes ≡ take (SCRIPT_LIMIT + 1) all

abbrev pub why_text : Why → List ℕ
why_text Text = codes "Text"
why_text Word = codes "Word"
why_text Later = codes "Later"
why_text Count = codes "Count"
why_text Number = codes "Number"
why_text Hex = codes "Hex"
why_text Name = codes "Name"
why_text Choice = codes "Choice"
why_text Device = codes "Device"
why_text Order = codes "Order"

-- what is put where the bytes are no script
abbrev pub fault_text : ScriptFault → List ℕ
fault_text TooLong = codes "script too long" ++ 10 ∷ []
fault_text (BadLine line why) = codes "line " ++ (decimal line ++ (codes ": " ++ (why_text why ++ 10 ∷ [])))
fault_text Memory = []

-- why the bytes are no script
abbrev pub HasFault : List ℕ → ScriptFault → Type 0
HasFault bytes TooLong = SCRIPT_LIMIT < length bytes
HasFault bytes (BadLine line why) = IsFirstBad false bytes line why
HasFault bytes Memory = ⊥

-- the source tells its bytes, and they are a script
abbrev pub TellsScript : Option (List ℕ) → Type 0
TellsScript None = ⊥
TellsScript (Some all) = (statements : List Statement) × IsScript false all statements

-- the source tells its bytes, and they are no script
abbrev pub TellsNoScript : Option (List ℕ) → Type 0
TellsNoScript None = ⊥
TellsNoScript (Some all) = (statements : List Statement) → IsScript false all statements → ⊥
