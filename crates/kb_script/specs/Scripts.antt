-- What a script says, and which is its first bad line.
use Rattle.std.specs.Prelude.{◌≡◌, ℕ, zero, suc, ◌+◌, ◌<◌, ◌≤◌, ◌⊎◌, Bool, List, [], ◌++◌, length, reverse, slice_index_or, option_to_list, Option, Some, None, Result, Ok, Err}
use Rattle.std.specs.Str.Lines.{lines}
use Rattle.kb_script.specs.declared.faults.Why.{Why}
use Rattle.kb_script.specs.declared.faults.LineFault.{LineFault}
use Rattle.kb_script.specs.declared.faults.LineFault.TheVariants as line
use Rattle.kb_script.specs.declared.faults.ScriptFault.{ScriptFault}
use Rattle.kb_script.specs.declared.faults.ScriptFault.TheVariants.{TooLong, BadLine, Memory}
use Rattle.kb_script.specs.declared.statements.Statement.{Statement}
use Rattle.kb_script.specs.Earlier.{known_of}
use Rattle.kb_script.specs.Answers.{why_bad, said_by}

-- the line at this place, from 0
abbrev pub line_at : List (List ℕ) → ℕ → List ℕ
line_at lines i = slice_index_or lines i []

-- what the lines before this place say, latest first
abbrev pub statements_before : List (List ℕ) → ℕ → List Statement
statements_before lines zero = []
statements_before lines (suc i) = option_to_list (said_by (known_of (statements_before lines i)) (line_at lines i)) ++ statements_before lines i

-- why the line at this place is bad, if it is, where no line before it is
abbrev pub why_at : Bool → List (List ℕ) → ℕ → Option Why
why_at live lines i = why_bad live (known_of (statements_before lines i)) (line_at lines i)

-- no line is bad, and this is what they say
pub record IsScript (live : Bool) (bytes : List ℕ) (statements : List Statement) : Type 0 where
  pub short : length bytes ≤ 1048576
  pub good : (i : ℕ) → i < length (lines bytes) → why_at live (lines bytes) i ≡ None
  pub said : statements ≡ reverse (statements_before (lines bytes) (length (lines bytes)))

-- line n is bad, counted from 1, and no line before it is
pub record IsFirstBad (live : Bool) (bytes : List ℕ) (n : ℕ) (why : Why) : Type 0 where
  pub short : length bytes ≤ 1048576
  pub place : ℕ
  pub number : n ≡ place + 1
  pub within : place < length (lines bytes)
  pub here : why_at live (lines bytes) place ≡ Some why
  pub before : (i : ℕ) → i < place → why_at live (lines bytes) i ≡ None

-- what reading a script answers
abbrev pub ReadsScript : {X : Type 0} → (X → List Statement) → Bool → List ℕ → Result X ScriptFault → Type 0
ReadsScript view live bytes (Ok x) = IsScript live bytes (view x)
ReadsScript view live bytes (Err TooLong) = 1048576 < length bytes
ReadsScript view live bytes (Err (BadLine n why)) = IsFirstBad live bytes n why
ReadsScript view live bytes (Err Memory) = Unit {0}

-- a text that isn't too long is a script or has a first bad line; it says one thing or has one such line, and never both
pub record HasOneReading (live : Bool) (bytes : List ℕ) : Type 0 where
  pub some : length bytes ≤ 1048576 → ((ss : List Statement) × IsScript live bytes ss) ⊎ ((n : ℕ) × (why : Why) × IsFirstBad live bytes n why)
  pub not_both : (ss : List Statement) (n : ℕ) (why : Why) → IsScript live bytes ss → IsFirstBad live bytes n why → ⊥
  pub one_script : (ss ts : List Statement) → IsScript live bytes ss → IsScript live bytes ts → ss ≡ ts
  pub one_line : (m n : ℕ) (why reason : Why) → IsFirstBad live bytes m why → IsFirstBad live bytes n reason → (m ≡ n) × (why ≡ reason)

-- ---- what single calls of the reader answer

-- what a line says was put behind the statements
abbrev pub Adds : Result (Option Statement) Why → List Statement → List Statement → Type 0
Adds read old new = (said : Option Statement) × (read ≡ Ok said) × (new ≡ old ++ option_to_list said)

abbrev pub Refuses : Result (Option Statement) Why → LineFault → Type 0
Refuses read (line.Bad why) = read ≡ Err why
Refuses read line.Memory = Unit {0}

abbrev pub fault_at : ℕ → LineFault → ScriptFault
fault_at n (line.Bad why) = BadLine n why
fault_at n line.Memory = Memory

-- the same of lines alone
pub record AllGood (live : Bool) (lines : List (List ℕ)) (statements : List Statement) : Type 0 where
  pub good : (i : ℕ) → i < length lines → why_at live lines i ≡ None
  pub said : statements ≡ reverse (statements_before lines (length lines))

pub record FirstBad (live : Bool) (lines : List (List ℕ)) (n : ℕ) (why : Why) : Type 0 where
  pub place : ℕ
  pub number : n ≡ place + 1
  pub within : place < length lines
  pub here : why_at live lines place ≡ Some why
  pub before : (i : ℕ) → i < place → why_at live lines i ≡ None

abbrev pub ReadsLines : {X : Type 0} → (X → List Statement) → Bool → List (List ℕ) → Result X ScriptFault → Type 0
ReadsLines view live lines (Ok x) = AllGood live lines (view x)
ReadsLines view live lines (Err TooLong) = ⊥
ReadsLines view live lines (Err (BadLine n why)) = FirstBad live lines n why
ReadsLines view live lines (Err Memory) = Unit {0}
