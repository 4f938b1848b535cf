-- The machine's answers for those of devices and of the folder. Want of memory is none: where it stands, any would do.
use Rattle.std.specs.Prelude.{ℕ, Result, Ok, Err}
use Rattle.kb_ops.specs.declared.requests.Shown.{Shown}
use Rattle.kb_device.specs.Answers as says
use Rattle.kb_device.specs.Telling.{told_status}
use Rattle.kb_device.specs.declared.called.Called.{Called}
use Rattle.kb_device.specs.declared.called.Called.TheVariants as called
use Rattle.kb_device.specs.declared.called.CallFault.{CallFault}
use Rattle.kb_device.specs.declared.called.CallFault.TheVariants as call
use Rattle.kb_device.specs.declared.called.Closed.{Closed}
use Rattle.kb_device.specs.declared.called.LookFault.{LookFault}
use Rattle.kb_device.specs.declared.called.LookFault.TheVariants as look
use Rattle.kb_device.specs.declared.called.Status.{Status}
use Rattle.kb_device.specs.declared.answers.PickFault.{PickFault}
use Rattle.kb_device.specs.declared.answers.PickFault.TheVariants as pick
use Rattle.kb_device.specs.declared.answers.PullFault.{PullFault}
use Rattle.kb_device.specs.declared.answers.PullFault.TheVariants as pull
use Rattle.kb_device.specs.declared.answers.OpenFault.{OpenFault}
use Rattle.kb_device.specs.declared.answers.OpenFault.TheVariants as opening
use Rattle.kb_snap.specs.Answers as folder_says
use Rattle.kb_rekey.specs.declared.rekeying.RekeyFault.{RekeyFault}
use Rattle.kb_rekey.specs.declared.rekeying.RekeyFault.TheVariants as rekey

abbrev pub told_call : Result Called CallFault → Result says.Called says.CallFault
told_call (Ok (called.Done seq)) = Ok (says.Done seq)
told_call (Ok called.Same) = Ok says.Same
told_call (Err call.Closed) = Err says.CallFault.Closed
told_call (Err call.ReadOnly) = Err says.ReadOnly
told_call (Err (call.ByPlan why)) = Err (says.ByPlan why)
told_call (Err call.Spent) = Err (says.ByQueue says.Spent)
told_call (Err call.QueueFull) = Err (says.ByQueue says.QueueFull)
told_call (Err (call.Full need room)) = Err (says.ByQueue (says.Full need room))
told_call (Err call.Stopped) = Err says.CallFault.Stopped
told_call (Err call.Memory) = Err says.CallFault.Stopped

abbrev pub told_look : Result Shown LookFault → Result Shown says.LookFault
told_look (Ok shown) = Ok shown
told_look (Err look.Closed) = Err says.LookFault.Closed
told_look (Err (look.ByShow why)) = Err (says.ByShow why)
told_look (Err look.Memory) = Err says.LookFault.Closed

abbrev pub told_tell : Result Status Closed → Result says.Status says.TellFault
told_tell (Ok status) = Ok (told_status status)
told_tell (Err closed) = Err says.TellFault.Closed

-- of a pick of one operation, which tells its seq and the number of its revision
abbrev pub told_pick : Result (ℕ × ℕ) PickFault → Result (ℕ × ℕ × ℕ) says.PickFault
told_pick (Ok picked) = Ok (picked.0, picked.0, picked.1)
told_pick (Err pick.Closed) = Err says.PickFault.Closed
told_pick (Err pick.InFlight) = Err says.InFlight
told_pick (Err pick.Branched) = Err says.PickFault.Branched
told_pick (Err pick.Idle) = Err says.Idle
told_pick (Err pick.Memory) = Err says.Idle

-- a folder that has a chain is never bad
abbrev pub told_pull : Result ℕ PullFault → Result ℕ says.PullFault
told_pull (Ok n) = Ok n
told_pull (Err pull.Closed) = Err says.PullFault.Closed
told_pull (Err pull.NotMember) = Err says.PullFault.NotMember
told_pull (Err pull.Unflushed) = Err says.PullFault.Unflushed
told_pull (Err pull.Stopped) = Err says.PullFault.Stopped
told_pull (Err (pull.BadFolder number)) = Err says.PullFault.Closed
told_pull (Err pull.Memory) = Err says.PullFault.Closed

abbrev pub told_open : Result Status OpenFault → Result says.Status says.OpenFault
told_open (Ok status) = Ok (told_status status)
told_open (Err opening.AlreadyOpen) = Err says.AlreadyOpen
told_open (Err opening.NotMember) = Err says.OpenFault.NotMember
told_open (Err opening.Stopped) = Err says.OpenFault.Stopped
told_open (Err opening.BadDisk) = Err says.BadDisk
told_open (Err (opening.Foreign known)) = Err (says.Foreign known)
told_open (Err (opening.BadFolder number)) = Err (says.BadFolder number)
told_open (Err opening.Memory) = Err says.AlreadyOpen

abbrev pub told_rekey : Result ℕ RekeyFault → Result ℕ folder_says.RekeyFault
told_rekey (Ok n) = Ok n
told_rekey (Err rekey.NotWriter) = Err folder_says.RekeyFault.NotWriter
told_rekey (Err rekey.Known) = Err folder_says.Known
told_rekey (Err rekey.NotMember) = Err folder_says.RekeyFault.NotMember
told_rekey (Err rekey.LastWriter) = Err folder_says.LastWriter
told_rekey (Err rekey.GenEnd) = Err folder_says.GenEnd
told_rekey (Err rekey.ChainEnd) = Err folder_says.RekeyFault.ChainEnd
told_rekey (Err rekey.Memory) = Err folder_says.RekeyFault.NotWriter

-- ---- memory did not run out, and the folder isn't bad

abbrev pub IsCalled : Result Called CallFault → Type 0
IsCalled (Err call.Memory) = ⊥
IsCalled answer = Unit {0}

abbrev pub IsLook : Result Shown LookFault → Type 0
IsLook (Err look.Memory) = ⊥
IsLook answer = Unit {0}

abbrev pub IsPick : {X : Type 0} → Result X PickFault → Type 0
IsPick (Err pick.Memory) = ⊥
IsPick answer = Unit {0}

abbrev pub IsPulled : Result ℕ PullFault → Type 0
IsPulled (Err pull.Memory) = ⊥
IsPulled answer = Unit {0}

abbrev pub IsPull : Result ℕ PullFault → Type 0
IsPull (Err pull.Memory) = ⊥
IsPull (Err (pull.BadFolder number)) = ⊥
IsPull answer = Unit {0}

abbrev pub IsOpening : Result Status OpenFault → Type 0
IsOpening (Err opening.Memory) = ⊥
IsOpening answer = Unit {0}

abbrev pub IsRekeyed : Result ℕ RekeyFault → Type 0
IsRekeyed (Err rekey.Memory) = ⊥
IsRekeyed answer = Unit {0}
