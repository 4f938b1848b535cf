-- What a session's calls do to a flight.
use Rattle.std.proofs.Common.{◌≡◌, ℕ, List, Bool, true, false, Option, None, Some, is_some, Result, Ok, Err, inl, inr, refl, sym, ap, ◌∙◌}
use Rattle.std.specs.Option.{option_map}
use Rattle.kb_ops.specs.declared.requests.Request.{Request}
use Rattle.kb_device.specs.Inside.{Aloft, Inside}
use Rattle.kb_device.specs.Stands.{Platter, Member}
use Rattle.kb_device.specs.Picking.{PickDoes, with_flight}
use Rattle.kb_device.specs.Calling.{CallDoes, is_stopped, with_queued}
use Rattle.kb_device.specs.Noting.{NoteDoes}
use Rattle.kb_device.specs.Noting as noting
use Rattle.kb_device.specs.Flying.{keeps_flight, flying, PickFlies, CallFlies, NoteFlies}
use Rattle.kb_device.specs.declared.answers.PutAnswer.{PutAnswer}
use Rattle.kb_device.specs.declared.answers.Picked.{Picked}
use Rattle.kb_device.specs.declared.answers.PickFault.{PickFault}
use Rattle.kb_device.specs.declared.answers.PickFault.TheVariants as pick
use Rattle.kb_device.specs.declared.answers.Noted.{Noted}
use Rattle.kb_device.specs.declared.answers.Noted.TheVariants as noted
use Rattle.kb_device.specs.declared.answers.NoteFault.{NoteFault}
use Rattle.kb_device.specs.declared.answers.NoteFault.TheVariants as note
use Rattle.kb_device.specs.declared.called.Called.{Called}
use Rattle.kb_device.specs.declared.called.Called.TheVariants as called
use Rattle.kb_device.specs.declared.called.CallFault.{CallFault}
use Rattle.kb_device.specs.declared.called.CallFault.TheVariants as call

module _ (v w : Member) (s t : Inside) (was : v.inside ≡ Some s) (now : w.inside ≡ Some t) where
  flying_before : flying v ≡ Some (is_some s.aloft)
  flying_before = ap (option_map keeps_flight) was

  flying_after : flying w ≡ Some (is_some t.aloft)
  flying_after = ap (option_map keeps_flight) now

  -- the flight is what it was
  stays : t.aloft ≡ s.aloft → flying w ≡ flying v
  stays same = flying_after ∙ ap (λ (a : Option Aloft). Some (is_some a)) same ∙ sym flying_before

  same : t ≡ s → flying w ≡ flying v
  same is = stays (ap (λ (x : Inside). x.aloft) is)

  began : (a : Option Aloft) → s.aloft ≡ a → flying v ≡ Some (is_some a)
  began a is = flying_before ∙ ap (λ (a : Option Aloft). Some (is_some a)) is

  ended : (a : Option Aloft) → t.aloft ≡ a → flying w ≡ Some (is_some a)
  ended a is = flying_after ∙ ap (λ (a : Option Aloft). Some (is_some a)) is

  pub pick_flies : (sealed signed : List ℕ → List ℕ → List ℕ) (hashed : List ℕ → List ℕ) (secret : List ℕ) (r : Result Picked PickFault) → PickDoes sealed signed hashed secret s t r → PickFlies v w r
  pick_flies sealed signed hashed secret (Ok picked) h = (began None h.free, ended (Some h.aloft) (ap (λ (x : Inside). x.aloft) h.session))
  pick_flies sealed signed hashed secret (Err pick.Closed) h = absurd h
  pick_flies sealed signed hashed secret (Err pick.InFlight) h = same h.0
  pick_flies sealed signed hashed secret (Err pick.Branched) h = same h.0
  pick_flies sealed signed hashed secret (Err pick.Idle) h = same h.0
  pick_flies sealed signed hashed secret (Err pick.Memory) (inl h) = same h
  pick_flies sealed signed hashed secret (Err pick.Memory) (inr h) = stays (ap (λ (x : Inside). x.aloft) h.1)

  pub call_flies : (d : ℕ) (disk after : Platter) (request : Request) (moment : ℕ) (r : Result Called CallFault) → CallDoes d s disk request moment t after r → is_stopped r ≡ false → CallFlies v w r
  call_flies d disk after request moment (Ok (called.Done seq)) h on = stays (ap (λ (x : Inside). x.aloft) h.adds.session)
  call_flies d disk after request moment (Ok called.Same) h on = same h.stays.session
  call_flies d disk after request moment (Err call.Closed) h on = absurd h
  call_flies d disk after request moment (Err call.ReadOnly) h on = same h.0.session
  call_flies d disk after request moment (Err (call.ByPlan why)) h on = same h.stays.session
  call_flies d disk after request moment (Err call.Spent) h on = same h.adds.stays.session
  call_flies d disk after request moment (Err call.QueueFull) h on = same h.adds.stays.session
  call_flies d disk after request moment (Err (call.Full need room)) h on = same h.adds.stays.session
  call_flies d disk after request moment (Err call.Memory) h on = same h.session
  call_flies d disk after request moment (Err call.Stopped) h on = let bad : true ≡ false = on in cc

  pub note_flies : (disk after : Platter) (answer : PutAnswer) (r : Result Noted NoteFault) → NoteDoes s disk answer t after r → noting.is_stopped r ≡ false → NoteFlies v w r
  note_flies disk after answer (Ok (noted.Landed n)) h on = (began (Some h.aloft) h.flies, ended None (ap (λ (x : Inside). x.aloft) h.session))
  note_flies disk after answer (Ok (noted.Branched at)) h on = (began (Some h.aloft) h.flies, ended None (ap (λ (x : Inside). x.aloft) h.session))
  note_flies disk after answer (Ok noted.Kept) h on = (began (Some h.aloft) h.flies, ended None (ap (λ (x : Inside). x.aloft) h.session))
  note_flies disk after answer (Err note.Closed) h on = absurd h
  note_flies disk after answer (Err note.NoFlight) h on = (began None h.2, ended None (ap (λ (x : Inside). x.aloft) h.0 ∙ h.2))
  note_flies disk after answer (Err note.Stopped) h on = let bad : true ≡ false = on in cc

-- the disk stopped
pub call_stops : (v w : Member) → w.inside ≡ None → (r : Result Called CallFault) → is_stopped r ≡ true → CallFlies v w r
call_stops v w gone (Ok (called.Done seq)) on = let bad : false ≡ true = on in cc
call_stops v w gone (Ok called.Same) on = let bad : false ≡ true = on in cc
call_stops v w gone (Err call.Closed) on = let bad : false ≡ true = on in cc
call_stops v w gone (Err call.ReadOnly) on = let bad : false ≡ true = on in cc
call_stops v w gone (Err (call.ByPlan why)) on = let bad : false ≡ true = on in cc
call_stops v w gone (Err call.Spent) on = let bad : false ≡ true = on in cc
call_stops v w gone (Err call.QueueFull) on = let bad : false ≡ true = on in cc
call_stops v w gone (Err (call.Full need room)) on = let bad : false ≡ true = on in cc
call_stops v w gone (Err call.Memory) on = let bad : false ≡ true = on in cc
call_stops v w gone (Err call.Stopped) on = ap (option_map keeps_flight) gone

pub note_stops : (v w : Member) → w.inside ≡ None → (r : Result Noted NoteFault) → noting.is_stopped r ≡ true → NoteFlies v w r
note_stops v w gone (Ok x) on = let bad : false ≡ true = on in cc
note_stops v w gone (Err note.Closed) on = let bad : false ≡ true = on in cc
note_stops v w gone (Err note.NoFlight) on = let bad : false ≡ true = on in cc
note_stops v w gone (Err note.Stopped) on = ap (option_map keeps_flight) gone

-- no session is open
pub closed_note_flies : (v : Member) → v.inside ≡ None → NoteFlies v v (Err note.Closed)
closed_note_flies v none = (ap (option_map keeps_flight) none, ap (option_map keeps_flight) none)
