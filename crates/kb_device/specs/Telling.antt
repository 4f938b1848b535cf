-- What a device tells of itself, and what it shows.
use Rattle.std.specs.Prelude.{◌≡◌, Option, None, Some, Result, Ok, Err}
use Rattle.std.specs.Option.{option_map}
use Rattle.kb_ops.specs.declared.requests.Show.{Show}
use Rattle.kb_ops.specs.declared.requests.Show.TheVariants as asks
use Rattle.kb_ops.specs.declared.requests.Shown.{Shown}
use Rattle.kb_ops.specs.declared.requests.Shown.TheVariants as shown
use Rattle.kb_apply.specs.declared.shows.ShowFault.{ShowFault}
use Rattle.kb_device.specs.Answers as says
use Rattle.kb_device.specs.Journals.{plain}
use Rattle.kb_device.specs.Parts.{Part, LookStep, TellStep, status_of}
use Rattle.kb_device.specs.Inside.{Aloft, Inside}
use Rattle.kb_device.specs.declared.called.Status.{Status}
use Rattle.kb_device.specs.declared.called.Closed.{Closed}
use Rattle.kb_device.specs.declared.called.LookFault.{LookFault}
use Rattle.kb_device.specs.declared.called.LookFault.TheVariants as fault

abbrev pub told_status : Status → says.Status
told_status s = record { at = s.at; queue = s.queue; last = s.last; branched = s.branched; flight = s.flight }

-- the status of a session
abbrev pub status_in : Inside → says.Status
status_in s = status_of (option_map (λ (a : Aloft). a.flight) s.aloft) (plain s.journal)

-- what is told of a device that has this open, whatever it stands for
abbrev pub Tells : Option Inside → Result Status Closed → Type 0
Tells inside (Ok status) = (s : Inside) × (inside ≡ Some s) × (told_status status ≡ status_in s)
Tells inside (Err closed) = inside ≡ None

abbrev pub TellAnswers : Part → Result Status Closed → Type 0
TellAnswers p (Ok status) = TellStep p (Ok (told_status status))
TellAnswers p (Err closed) = TellStep p (Err says.TellFault.Closed)

-- Memory may lack
abbrev pub LookAnswers : Part → Show → Result Shown LookFault → Type 0
LookAnswers p show (Ok shown) = LookStep p show (Ok shown)
LookAnswers p show (Err fault.Closed) = LookStep p show (Err says.LookFault.Closed)
LookAnswers p show (Err (fault.ByShow why)) = LookStep p show (Err (says.ByShow why))
LookAnswers p show (Err fault.Memory) = Unit {0}

-- what a session shows; memory may lack
abbrev pub IsShown : Result Shown ShowFault → Result Shown LookFault → Type 0
IsShown shown (Ok x) = shown ≡ Ok x
IsShown shown (Err fault.Closed) = ⊥
IsShown shown (Err (fault.ByShow why)) = shown ≡ Err why
IsShown shown (Err fault.Memory) = Unit {0}

-- what is shown is of the kind that was asked for
abbrev pub IsShownFor : Show → Shown → Type 0
IsShownFor (asks.Cat path range) (shown.Cat bytes) = Unit {0}
IsShownFor (asks.Ls path) (shown.Ls rows) = Unit {0}
IsShownFor asks.Tree (shown.Tree at queue rows) = Unit {0}
IsShownFor (asks.Stat path) (shown.Stat row) = Unit {0}
IsShownFor show x = ⊥
