-- Whether a flight is kept before and after a device's calls, whatever the device stands for.
use Rattle.std.specs.Prelude.{◌≡◌, Bool, true, false, Option, None, Some, is_some, Result, Ok, Err}
use Rattle.std.specs.Option.{option_map}
use Rattle.kb_device.specs.Inside.{Inside}
use Rattle.kb_device.specs.Stands.{Member}
use Rattle.kb_device.specs.declared.answers.Picked.{Picked}
use Rattle.kb_device.specs.declared.answers.PickFault.{PickFault}
use Rattle.kb_device.specs.declared.answers.Noted.{Noted}
use Rattle.kb_device.specs.declared.answers.NoteFault.{NoteFault}
use Rattle.kb_device.specs.declared.answers.NoteFault.TheVariants as note
use Rattle.kb_device.specs.declared.called.Called.{Called}
use Rattle.kb_device.specs.declared.called.CallFault.{CallFault}
use Rattle.kb_device.specs.declared.called.CallFault.TheVariants as call

abbrev pub keeps_flight : Inside → Bool
keeps_flight s = is_some s.aloft

-- whether a flight is kept, where a session is open
abbrev pub flying : Member → Option Bool
flying v = option_map keeps_flight v.inside

-- A pick that gives a request finds no flight and leaves one. One that is refused changes nothing of it.
abbrev pub PickFlies : Member → Member → Result Picked PickFault → Type 0
PickFlies v w (Ok picked) = (flying v ≡ Some false) × (flying w ≡ Some true)
PickFlies v w (Err fault) = flying w ≡ flying v

-- A file call leaves a flight, unless the disk stopped.
abbrev pub CallFlies : Member → Member → Result Called CallFault → Type 0
CallFlies v w (Err call.Stopped) = flying w ≡ None
CallFlies v w r = flying w ≡ flying v

-- A note ends the flight.
abbrev pub NoteFlies : Member → Member → Result Noted NoteFault → Type 0
NoteFlies v w (Ok noted) = (flying v ≡ Some true) × (flying w ≡ Some false)
NoteFlies v w (Err note.Closed) = (flying v ≡ None) × (flying w ≡ None)
NoteFlies v w (Err note.NoFlight) = (flying v ≡ Some false) × (flying w ≡ Some false)
NoteFlies v w (Err note.Stopped) = flying w ≡ None
