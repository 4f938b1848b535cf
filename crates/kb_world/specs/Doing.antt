-- What a world does at a statement.
use Rattle.std.specs.Prelude.{◌≡◌, ℕ, ◌+◌, ◌-◌, slice_get, ◌≤◌, ◌<◌, Bool, true, false, List, [], ◌∷◌, ◌++◌, length, Option, Some, None, if◌then◌else◌}
use Rattle.kb_edge.specs.declared.disk.Disk.{Ghosts}
use Rattle.kb_name.specs.Names.{is_device_name}
use Rattle.kb_name.specs.Moments.{last_second}
use Rattle.kb_script.specs.declared.statements.Statement as script
use Rattle.kb_script.specs.declared.statements.Statement.TheVariants as said
use Rattle.kb_lines.specs.declared.lines.Line.{Line}
use Rattle.kb_lines.specs.declared.lines.Line.TheVariants as line
use Rattle.kb_lines.specs.declared.reasons.Reason.TheVariants as reason
use Rattle.kb_world.specs.Statements.{Reply, Act}
use Rattle.kb_world.specs.Statements as statements
use Rattle.kb_world.specs.Machine.{most_devices, State, ActStep, Steps, Ends, Lacks, Stage, ToPick, last_reply, drain_stage}
use Rattle.kb_folder.specs.Chains.{Names}
use Rattle.kb_world.specs.Spoken.{statement_of, device_of}
use Rattle.kb_world.specs.Printed.{printed, all_printed}
use Rattle.kb_world.specs.Standing.{WorldStands}
use Rattle.kb_world.specs.declared.declared.Declared.{Declared}
use Rattle.kb_world.specs.declared.world.World.{World}

-- so many devices are declared, and this is one of them
abbrev pub IsOneOf : ℕ → ℕ → Type 0
IsOneOf count d = (1 ≤ d) × (d ≤ count)

-- The statement may be done in this state: the seed is set before all devices; a device is declared where there is room,
-- under its name; the folder is founded once; and who is named is declared.
abbrev pub MayDo : Names → State → script.Statement → Type 0
MayDo names s (said.Seed seed) = length s.members ≡ 0
MayDo names s (said.Device name size) = (length s.members < most_devices) × (is_device_name name ≡ true) × (4096 ≤ size) × (size ≤ 16777216) × (names (length s.members + 1) ≡ name)
MayDo names s (said.Found d) = IsOneOf (length s.members) d × (s.chain ≡ [])
MayDo names s (said.Grant by d role) = IsOneOf (length s.members) by × IsOneOf (length s.members) d
MayDo names s (said.Revoke by d) = IsOneOf (length s.members) by × IsOneOf (length s.members) d
MayDo names s (said.At moment) = moment ≤ last_second
MayDo names s said.Folder = Unit {0}
MayDo names s said.Verify = Unit {0}
MayDo names s statement = IsOneOf (length s.members) (device_of statement)

-- one part gives a reply that is printed so, of which this is so
pub record Tells (names : Names) (d : ℕ) (s : State) (act : Act) (line : Line) (says : Reply → Type 0) (t : State) : Type 0 where
  pub reply : Reply
  pub step : ActStep s act reply t
  pub line_is : printed names d reply ≡ line ∷ []
  pub so : says reply

-- its replies are printed so
pub record Does (names : Names) (s : State) (statement : script.Statement) (lines : List Line) (t : State) : Type 0 where
  pub replies : List Reply
  pub steps : Steps s (statement_of statement) replies t
  pub lines_are : lines ≡ all_printed names (device_of statement) replies

module _ {M D : Type 0} {disks : Ghosts D} where
  -- the name is that of the device with this number
  abbrev pub IsNameOf : World M D disks → ℕ → List ℕ → Type 0
  IsNameOf w d name = (x : Declared D _ _ disks _ _) → slice_get w.devices.items (d - 1) ≡ Some x → name ≡ x.name

  -- Whatever state the world stands for, in which the statement may be done, it goes on to one that it stands for then.
  abbrev pub DoesOn : World M D disks → World M D disks → script.Statement → (Names → State → State → Type 0) → Type 0
  DoesOn old new statement P = (names : Names) (s : State) → WorldStands names old s → MayDo names s statement → (t : State) × P names s t × WorldStands names new t

  -- The same of a part, whatever the statement.
  abbrev pub GoesOn : World M D disks → World M D disks → (Names → State → State → Type 0) → Type 0
  GoesOn old new P = (names : Names) (s : State) → WorldStands names old s → (t : State) × P names s t × WorldStands names new t

-- the line of a pick that was not refused, and of a landed operation's note
abbrev pub is_picked : Line → Bool
is_picked (line.Picked name seq n) = true
is_picked l = false

abbrev pub is_noted : Line → Bool
is_noted (line.Noted name n) = true
is_noted l = false

-- the line of a put that its link didn't lose, or of none
abbrev pub is_carried : Line → Bool
is_carried (line.Refused name reason.LinkFault) = false
is_carried l = true

-- this stage, where it is so
abbrev pub stage_if : Bool → Stage → Option Stage
stage_if so stage = if so then Some stage else None

-- a flush was done, whose lines stand behind others; a drain goes on with a pick where an operation landed and was noted
pub record Flushes (names : Names) (d : ℕ) (s : State) (noted : Bool) (old new : List Line) (t : State) : Type 0 where
  pub replies : List Reply
  pub steps : Steps s (statements.Flush d) replies t
  pub lines_are : new ≡ old ++ all_printed names d replies
  pub goes : drain_stage (last_reply replies) ≡ stage_if noted ToPick
