-- What the parts of statements do to a world, by its devices.
use Rattle.std.proofs.Common.{◌≡◌, ◌⊎◌, ℕ, ◌+◌, ◌-◌, ◌≤◌, true, false, List, [], ◌∷◌, length, Option, Some, None, Result, Ok, Err, inl, inr, refl, sym, ap, ◌∙◌, subst, arith}
use Rattle.std.specs.Prelude.{slice_get, slice_set}
use Rattle.kb_edge.specs.declared.disk.Disk.{Ghosts}
use Rattle.kb_edge.specs.declared.link.Side.{Side}
use Rattle.kb_ops.specs.declared.requests.Request.{Request}
use Rattle.kb_ops.specs.declared.requests.Show.{Show}
use Rattle.kb_ops.specs.declared.requests.Shown.{Shown}
use Rattle.kb_lines.specs.declared.lines.Line.{Line}
use Rattle.kb_lines.specs.declared.lines.Line.TheVariants as line
use Rattle.kb_device.specs.Answers as says
use Rattle.kb_snap.specs.Chains.{Chain}
use Rattle.kb_device.specs.Parts.{Part, LookStep, TellStep, CallStep, PullStep, OpenStep, armed, powered}
use Rattle.kb_world.specs.Statements.{Reply, Silent, Off, ByCall, ByLook, ByStatus, ByPick, ByNote, ByPull, ByOpen, On, See}
use Rattle.kb_world.specs.Statements as statements
use Rattle.kb_world.specs.Machine.{Member, State, Does, ActStep, TurnStep, PicksFlight, PicksNone, Lacks, Stage, ToPick, ToLand, flush_stage, drain_stage, went}
use Rattle.kb_folder.specs.Chains.{Names}
use Rattle.kb_folder.specs.Puts.{Held}
use Rattle.kb_folder.specs.Held.{held}
use Rattle.sha2.specs.Sha256.{sha256}
use Rattle.kb_seal.specs.Sealing.{seal_by_hmac, sign_by_hmac}
use Rattle.kb_device.specs.Noting.{told}
use Rattle.kb_device.specs.Stands as inner
use Rattle.kb_device.specs.Stands.{DeviceStands}
use Rattle.kb_device.specs.Devices.{IsView}
use Rattle.kb_device.specs.Telling.{LookAnswers, TellAnswers}
use Rattle.kb_device.specs.declared.called.Called.{Called}
use Rattle.kb_device.specs.declared.called.Called.TheVariants as called
use Rattle.kb_device.specs.declared.called.CallFault.{CallFault}
use Rattle.kb_device.specs.declared.called.CallFault.TheVariants as call
use Rattle.kb_device.specs.declared.called.Closed.{Closed}
use Rattle.kb_device.specs.declared.called.LookFault.{LookFault}
use Rattle.kb_device.specs.declared.called.LookFault.TheVariants as look
use Rattle.kb_device.specs.declared.called.Status.{Status}
use Rattle.kb_device.specs.declared.answers.PickFault.{PickFault}
use Rattle.kb_device.specs.declared.answers.PickFault.TheVariants as pick
use Rattle.kb_device.specs.declared.answers.PullFault.{PullFault}
use Rattle.kb_device.specs.declared.answers.PullFault.TheVariants as pull
use Rattle.kb_device.specs.declared.answers.OpenFault.{OpenFault}
use Rattle.kb_device.specs.declared.answers.OpenFault.TheVariants as opening
use Rattle.kb_device.specs.declared.answers.Noted.{Noted}
use Rattle.kb_device.specs.declared.answers.Noted.TheVariants as noted
use Rattle.kb_device.specs.declared.answers.NoteFault.{NoteFault}
use Rattle.kb_device.specs.declared.answers.NoteFault.TheVariants as note
use Rattle.kb_world.specs.Told.{told_call, told_look, told_tell, told_pick, told_pull, told_open, IsCalled, IsLook, IsPick, IsPulled, IsPull, IsOpening}
use Rattle.kb_world.specs.Printed.{printed, called_line, shown_line, status_line, picked_line, noted_line, pulled_line, opened_line}
use Rattle.kb_world.specs.Turning.{Turned, CallTurns, PickTurns, NoteTurns, PullTurns, OpenTurns}
use Rattle.kb_world.specs.Standing.{DeclaredStands, WorldStands}
use Rattle.kb_world.specs.Doing.{Tells, GoesOn, is_picked, is_noted, stage_if}
use Rattle.kb_world.specs.declared.declared.Declared.{Declared}
use Rattle.kb_world.specs.declared.world.World.{World}
use Rattle.kb_world.proofs.Worlds.{same_set, Stood, stood, takes_turn, takes_none, takes_step}

-- ---- answers but for want of memory

call_does : (request : Request) (moment : ℕ) (r : Result Called CallFault) (d : ℕ) (c : Chain) (m n : Member) → IsCalled r → CallTurns request moment r d c m n → Does (CallStep d m.part request moment) ByCall (ByCall (told_call r)) m n
call_does request moment (Ok (called.Done seq)) d c m n some h = h
call_does request moment (Ok called.Same) d c m n some h = h
call_does request moment (Err call.Closed) d c m n some h = h
call_does request moment (Err call.ReadOnly) d c m n some h = h
call_does request moment (Err (call.ByPlan why)) d c m n some h = h
call_does request moment (Err call.Spent) d c m n some h = h
call_does request moment (Err call.QueueFull) d c m n some h = h
call_does request moment (Err (call.Full need room)) d c m n some h = h
call_does request moment (Err call.Stopped) d c m n some h = h
call_does request moment (Err call.Memory) d c m n some h = absurd some

pick_does : (r : Result (ℕ × ℕ) PickFault) (d : ℕ) (c : Chain) (m n : Member) → IsPick r → PickTurns r d c m n → PicksFlight d (ByPick (told_pick r)) m n ⊎ PicksNone d (ByPick (told_pick r)) m n
pick_does (Ok picked) d c m n some h = inl h
pick_does (Err pick.Closed) d c m n some h = inr h
pick_does (Err pick.InFlight) d c m n some h = inr h
pick_does (Err pick.Branched) d c m n some h = inr h
pick_does (Err pick.Idle) d c m n some h = inr h
pick_does (Err pick.Memory) d c m n some h = absurd some

pick_stage : (name : List ℕ) (r : Result (ℕ × ℕ) PickFault) → IsPick r → flush_stage (Some (ByPick (told_pick r))) ≡ stage_if (is_picked (picked_line name (told_pick r))) ToLand
pick_stage name (Ok picked) some = refl
pick_stage name (Err pick.Closed) some = refl
pick_stage name (Err pick.InFlight) some = refl
pick_stage name (Err pick.Branched) some = refl
pick_stage name (Err pick.Idle) some = refl
pick_stage name (Err pick.Memory) some = absurd some

note_stage : (name : List ℕ) (r : Result Noted NoteFault) → drain_stage (Some (ByNote (told r))) ≡ stage_if (is_noted (noted_line name (told r))) ToPick
note_stage name (Ok (noted.Landed n)) = refl
note_stage name (Ok (noted.Branched at)) = refl
note_stage name (Ok noted.Kept) = refl
note_stage name (Err note.Closed) = refl
note_stage name (Err note.NoFlight) = refl
note_stage name (Err note.Stopped) = refl

pull_is : (r : Result ℕ PullFault) (d : ℕ) (c : Chain) (m n : Member) → IsPulled r → PullTurns r d c m n → IsPull r
pull_is (Ok number) d c m n some h = tt
pull_is (Err pull.Closed) d c m n some h = tt
pull_is (Err pull.NotMember) d c m n some h = tt
pull_is (Err pull.Unflushed) d c m n some h = tt
pull_is (Err pull.Stopped) d c m n some h = tt
pull_is (Err (pull.BadFolder number)) d c m n some h = absurd h
pull_is (Err pull.Memory) d c m n some h = absurd some

pull_does : (r : Result ℕ PullFault) (d : ℕ) (c : Chain) (m n : Member) → IsPulled r → PullTurns r d c m n → Does (PullStep d c m.part) ByPull (ByPull (told_pull r)) m n
pull_does (Ok number) d c m n some h = h
pull_does (Err pull.Closed) d c m n some h = h
pull_does (Err pull.NotMember) d c m n some h = h
pull_does (Err pull.Unflushed) d c m n some h = h
pull_does (Err pull.Stopped) d c m n some h = h
pull_does (Err (pull.BadFolder number)) d c m n some h = absurd h
pull_does (Err pull.Memory) d c m n some h = absurd some

open_does : (r : Result Status OpenFault) (d : ℕ) (c : Chain) (m n : Member) → IsOpening r → OpenTurns r d c m n → Does (OpenStep d c m.part) ByOpen (ByOpen (told_open r)) m n
open_does (Ok status) d c m n some h = h
open_does (Err opening.AlreadyOpen) d c m n some h = h
open_does (Err opening.NotMember) d c m n some h = h
open_does (Err opening.Stopped) d c m n some h = h
open_does (Err opening.BadDisk) d c m n some h = h
open_does (Err (opening.Foreign known)) d c m n some h = h
open_does (Err (opening.BadFolder number)) d c m n some h = h
open_does (Err opening.Memory) d c m n some h = absurd some

look_step : (p : Part) (show : Show) (r : Result Shown LookFault) → IsLook r → LookAnswers p show r → LookStep p show (told_look r)
look_step p show (Ok shown) some h = h
look_step p show (Err look.Closed) some h = h
look_step p show (Err (look.ByShow why)) some h = h
look_step p show (Err look.Memory) some h = absurd some

tell_step : (p : Part) (r : Result Status Closed) → TellAnswers p r → TellStep p (told_tell r)
tell_step p (Ok status) h = h
tell_step p (Err closed) h = h

-- ---- a device's turns

module _ {M D : Type 0} {disks : Ghosts D} (w v : World M D disks) (d : ℕ) (x y : Declared D _ _ disks _ _) (numbered : 1 ≤ d) (found : slice_get w.devices.items (d - 1) ≡ Some x) (devices : v.devices.items ≡ slice_set w.devices.items (d - 1) y)
    (seed : v.seed ≡ w.seed) (moment : v.moment ≡ w.moment) (folder : held v.folder ≡ held w.folder) where
  -- the device has its name
  named : (names : Names) (s : State) → WorldStands names w s → x.name ≡ names d
  named names s h = (stood w v names d x y numbered found devices seed moment s h).here.name

  pub calls_device : (request : Request) (r : Result Called CallFault) (l : Line) → l ≡ called_line x.name (told_call r) → IsCalled r → Turned (held w.folder) x y (CallTurns request w.moment r)
      → GoesOn w v (λ names s t. Tells names d s (On d (statements.Call request)) l (λ reply. Unit {0}) t)
  calls_device request r l is some goes = λ names s h.
      let to = takes_turn w v names d x y numbered found devices seed moment folder (CallTurns request w.moment r) goes s (statements.Call request) (ByCall (told_call r)) h
      (λ m n turns. (refl, subst (λ k. Does (CallStep d m.part request k) ByCall (ByCall (told_call r)) m n) (sym h.moment) (call_does request w.moment r d s.chain m n some turns))) in
      (to.0, record { reply = ByCall (told_call r); step = to.1; line_is = ap (λ k. called_line k (told_call r) ∷ []) (sym (named names s h)) ∙ ap (λ k. k ∷ []) (sym is); so = tt }, to.2)

  pub call_lacks : (request : Request) (r : Result Called CallFault) → r ≡ Err call.Memory → Turned (held w.folder) x y (CallTurns request w.moment r) → GoesOn w v (λ names s t. t ≡ s)
  call_lacks request r is goes = λ names s h. takes_none w v names d x y numbered found devices seed moment folder (CallTurns request w.moment r) goes s h (λ m n turns. subst (λ e. CallTurns request w.moment e d s.chain m n) is turns)

  pub picks_device : (r : Result (ℕ × ℕ) PickFault) (l : Line) → l ≡ picked_line x.name (told_pick r) → IsPick r → Turned (held w.folder) x y (PickTurns r)
      → GoesOn w v (λ names s t. Tells names d s (On d statements.Pick) l (λ reply. (flush_stage (Some reply) ≡ stage_if (is_picked l) ToLand) × (drain_stage (Some reply) ≡ flush_stage (Some reply))) t)
  picks_device r l is some goes = λ names s h.
      let to = takes_turn w v names d x y numbered found devices seed moment folder (PickTurns r) goes s statements.Pick (ByPick (told_pick r)) h (λ m n turns. (refl, pick_does r d s.chain m n some turns)) in
      (to.0, record { reply = ByPick (told_pick r); step = to.1; line_is = ap (λ k. picked_line k (told_pick r) ∷ []) (sym (named names s h)) ∙ ap (λ k. k ∷ []) (sym is); so = (pick_stage x.name r some ∙ ap (λ k. stage_if (is_picked k) ToLand) (sym is), refl) }, to.2)

  pub pick_lacks : (r : Result (ℕ × ℕ) PickFault) → r ≡ Err pick.Memory → Turned (held w.folder) x y (PickTurns r) → GoesOn w v (λ names s t. t ≡ s)
  pick_lacks r is goes = λ names s h. takes_none w v names d x y numbered found devices seed moment folder (PickTurns r) goes s h (λ m n turns. subst (λ e. PickTurns e d s.chain m n) is turns)

  pub notes_device : (r : Result Noted NoteFault) (l : Line) → l ≡ noted_line x.name (told r) → Turned (held w.folder) x y (NoteTurns r)
      → GoesOn w v (λ names s t. Tells names d s (On d statements.Note) l (λ reply. (flush_stage (Some reply) ≡ None) × (drain_stage (Some reply) ≡ stage_if (is_noted l) ToPick)) t)
  notes_device r l is goes = λ names s h.
      let to = takes_turn w v names d x y numbered found devices seed moment folder (NoteTurns r) goes s statements.Note (ByNote (told r)) h (λ m n turns. (refl, turns)) in
      (to.0, record { reply = ByNote (told r); step = to.1; line_is = ap (λ k. noted_line k (told r) ∷ []) (sym (named names s h)) ∙ ap (λ k. k ∷ []) (sym is); so = (refl, note_stage x.name r ∙ ap (λ k. stage_if (is_noted k) ToPick) (sym is)) }, to.2)

  pub pulls_device : (r : Result ℕ PullFault) (l : Line) → (IsPull r → l ≡ pulled_line x.name (told_pull r)) → IsPulled r → Turned (held w.folder) x y (PullTurns r)
      → GoesOn w v (λ names s t. Tells names d s (On d statements.Pull) l (λ reply. Unit {0}) t)
  pulls_device r l is some goes = λ names s h.
      let a = stood w v names d x y numbered found devices seed moment s h in
      let turn = goes s.seed names d s.chain a.m h.good.chain a.meets h.folder a.here in
      let line_is = is (pull_is r d s.chain a.m turn.0 some turn.1) in
      let to = takes_turn w v names d x y numbered found devices seed moment folder (PullTurns r) goes s statements.Pull (ByPull (told_pull r)) h (λ m n turns. (refl, pull_does r d s.chain m n some turns)) in
      (to.0, record { reply = ByPull (told_pull r); step = to.1; line_is = ap (λ k. pulled_line k (told_pull r) ∷ []) (sym (named names s h)) ∙ ap (λ k. k ∷ []) (sym line_is); so = tt }, to.2)

  pub pull_lacks : (r : Result ℕ PullFault) → r ≡ Err pull.Memory → Turned (held w.folder) x y (PullTurns r) → GoesOn w v (λ names s t. t ≡ s)
  pull_lacks r is goes = λ names s h. takes_none w v names d x y numbered found devices seed moment folder (PullTurns r) goes s h (λ m n turns. subst (λ e. PullTurns e d s.chain m n) is turns)

  pub opens_device : (r : Result Status OpenFault) (l : Line) → l ≡ opened_line x.name (told_open r) → IsOpening r → Turned (held w.folder) x y (OpenTurns r)
      → GoesOn w v (λ names s t. Tells names d s (On d statements.Open) l (λ reply. Unit {0}) t)
  opens_device r l is some goes = λ names s h.
      let to = takes_turn w v names d x y numbered found devices seed moment folder (OpenTurns r) goes s statements.Open (ByOpen (told_open r)) h (λ m n turns. (refl, open_does r d s.chain m n some turns)) in
      (to.0, record { reply = ByOpen (told_open r); step = to.1; line_is = ap (λ k. opened_line k (told_open r) ∷ []) (sym (named names s h)) ∙ ap (λ k. k ∷ []) (sym is); so = tt }, to.2)

  pub open_lacks : (r : Result Status OpenFault) → r ≡ Err opening.Memory → Turned (held w.folder) x y (OpenTurns r) → GoesOn w v (λ names s t. Lacks (Some (On d statements.Open)) s t)
  open_lacks r is goes = λ names s h. takes_step w v names d x y numbered found devices seed moment folder (OpenTurns r) goes s h (λ m n turns. subst (λ e. OpenTurns e d s.chain m n) is turns)

  pub arms_device : (steps : ℕ) → Turned (held w.folder) x y (λ k c m n. n ≡ record m { part = armed steps m.part }) → GoesOn w v (λ names s t. ActStep s (On d (statements.Fuse steps)) Silent t)
  arms_device steps goes = λ names s h.
      takes_turn w v names d x y numbered found devices seed moment folder (λ k c m n. n ≡ record m { part = armed steps m.part }) goes s (statements.Fuse steps) Silent h (λ m n is. (refl, refl, is))

  pub loses_device : (side : Side) → Turned (held w.folder) x y (λ k c m n. n ≡ record m { link = Some side }) → GoesOn w v (λ names s t. ActStep s (On d (statements.Lose side)) Silent t)
  loses_device side goes = λ names s h.
      takes_turn w v names d x y numbered found devices seed moment folder (λ k c m n. n ≡ record m { link = Some side }) goes s (statements.Lose side) Silent h (λ m n is. (refl, refl, is))

  pub cuts_device : (l : Line) → l ≡ line.Off x.name → Turned (held w.folder) x y (λ k c m n. n ≡ went m (powered m.part)) → GoesOn w v (λ names s t. Tells names d s (On d statements.Power) l (λ reply. Unit {0}) t)
  cuts_device l is goes = λ names s h.
      let to = takes_turn w v names d x y numbered found devices seed moment folder (λ k c m n. n ≡ went m (powered m.part)) goes s statements.Power Off h (λ m n e. (refl, refl, e)) in
      (to.0, record { reply = Off; step = to.1; line_is = ap (λ k. line.Off k ∷ []) (sym (named names s h)) ∙ ap (λ k. k ∷ []) (sym is); so = tt }, to.2)

-- ---- what is shown and told

module _ {M D : Type 0} {disks : Ghosts D} (w : World M D disks) (d : ℕ) (x : Declared D _ _ disks _ _) (numbered : 1 ≤ d) (found : slice_get w.devices.items (d - 1) ≡ Some x) where
  set_same : slice_set w.devices.items (d - 1) x ≡ w.devices.items
  set_same = same_set w.devices.items (d - 1) x found

  here : (names : Names) (s : State) → WorldStands names w s → Stood w w names d x x numbered found (sym set_same) refl refl s
  here names s h = stood w w names d x x numbered found (sym set_same) refl refl s h

  own_number : (names : Names) (s : State) (h : WorldStands names w s) → DeviceStands seal_by_hmac sign_by_hmac sha256 s.seed names (here names s h).here.view.number (held w.folder) s.chain (here names s h).here.view (here names s h).m.part
  own_number names s h = let a = here names s h in subst (λ k. DeviceStands seal_by_hmac sign_by_hmac sha256 s.seed names k (held w.folder) s.chain a.here.view a.m.part) (sym a.here.part.number) a.here.part

  pub looks_at : (show : Show) (r : Result Shown LookFault) (l : Line) → l ≡ shown_line x.name (told_look r) → IsLook r
      → ((seed : List ℕ) (names : Names) (v : inner.Member) (f : Held) (c : Chain) (p : Part) → IsView x.device v → DeviceStands seal_by_hmac sign_by_hmac sha256 seed names v.number f c v p → LookAnswers p show r)
      → (names : Names) (s : State) → WorldStands names w s → Tells names d s (See d (statements.Look show)) l (λ reply. Unit {0}) s
  looks_at show r l is some goes = λ names s h.
      let a = here names s h in
      let answer = goes s.seed names a.here.view (held w.folder) s.chain a.m.part a.here.is (own_number names s h) in
      record {
        reply = ByLook (told_look r);
        step = record { member = a.m; numbered = numbered; found = a.is.found; shows = (told_look r, look_step a.m.part show r some answer, refl); state = refl };
        line_is = ap (λ k. shown_line k (told_look r) ∷ []) (sym a.here.name) ∙ ap (λ k. k ∷ []) (sym is);
        so = tt;
      }

  pub tells_of : (r : Result Status Closed) (l : Line) → l ≡ status_line x.name (told_tell r)
      → ((seed : List ℕ) (names : Names) (v : inner.Member) (f : Held) (c : Chain) (p : Part) → IsView x.device v → DeviceStands seal_by_hmac sign_by_hmac sha256 seed names v.number f c v p → TellAnswers p r)
      → (names : Names) (s : State) → WorldStands names w s → Tells names d s (See d statements.Tell) l (λ reply. Unit {0}) s
  tells_of r l is goes = λ names s h.
      let a = here names s h in
      let answer = goes s.seed names a.here.view (held w.folder) s.chain a.m.part a.here.is (own_number names s h) in
      record {
        reply = ByStatus (told_tell r);
        step = record { member = a.m; numbered = numbered; found = a.is.found; shows = (told_tell r, tell_step a.m.part r answer, refl); state = refl };
        line_is = ap (λ k. status_line k (told_tell r) ∷ []) (sym a.here.name) ∙ ap (λ k. k ∷ []) (sym is);
        so = tt;
      }
