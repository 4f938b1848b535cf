-- An event of a block is a part of the machine.
use Rattle.std.proofs.Common.{◌≡◌, ◌⊎◌, ℕ, ◌-◌, ◌≤◌, Bool, true, false, List, [], ◌∷◌, Option, Some, None, Result, Ok, Err, inl, inr, refl, sym, ap, ◌∙◌, subst, arith}
use Rattle.std.specs.Prelude.{slice_get, slice_set}
use Rattle.kb_ops.specs.declared.requests.Request.{Request}
use Rattle.kb_ops.specs.declared.requests.Show.{Show}
use Rattle.kb_ops.specs.declared.requests.Shown.{Shown}
use Rattle.kb_snap.specs.Answers.{PutFault}
use Rattle.kb_snap.specs.Answers as folder_says
use Rattle.kb_snap.specs.Puts.{Ask}
use Rattle.kb_device.specs.Answers.{Called, CallFault, LookFault, Status, TellFault, PickFault, Noted, NoteFault}
use Rattle.kb_device.specs.Answers as answers
use Rattle.kb_device.specs.Parts.{Part, Flight, CallStep, PickStep, NoteStep}
use Rattle.kb_device.specs.Waits.{Waiting, Nothing, Asked, Answered, waiting_if, WaitingMeets}
use Rattle.kb_device.proofs.PartSteps.{no_waiting}
use Rattle.kb_world.specs.Machine.{Member, State, ActStep}
use Rattle.kb_world.specs.Live.{Event, Calls, Looks, Tells, Picks, Notes, Put, Replays, Told, event_act, event_reply}
use Rattle.kb_world.proofs.Worlds.{same_set}

-- ---- what a session's end drops

-- a session doesn't begin by a call or a pick
call_open : (d : ℕ) (p r : Part) (request : Request) (moment : ℕ) (answer : Result Called CallFault) → CallStep d p request moment answer r → r.is_open ≡ true → p.is_open ≡ true
call_open d p r request moment (Ok (answers.Done seq)) step is = step.makes.at.session
call_open d p r request moment (Ok answers.Same) step is = sym (ap (λ (x : Part). x.is_open) step.0) ∙ is
call_open d p r request moment (Err answers.CallFault.Closed) step is = sym (ap (λ (x : Part). x.is_open) step.0) ∙ is
call_open d p r request moment (Err answers.CallFault.ReadOnly) step is = sym (ap (λ (x : Part). x.is_open) step.0) ∙ is
call_open d p r request moment (Err (answers.CallFault.ByPlan fault)) step is = sym (ap (λ (x : Part). x.is_open) step.0) ∙ is
call_open d p r request moment (Err (answers.CallFault.ByQueue fault)) step is = sym (ap (λ (x : Part). x.is_open) step.0) ∙ is
call_open d p r request moment (Err answers.CallFault.Stopped) step is = step.makes.at.session

pick_same : (most d : ℕ) (name : List ℕ) (p r : Part) (fault : PickFault) → PickStep most d name p (Err fault) r → r ≡ p
pick_same most d name p r answers.PickFault.Closed step = step.0
pick_same most d name p r answers.PickFault.InFlight step = step.0
pick_same most d name p r answers.PickFault.Branched step = step.0
pick_same most d name p r answers.PickFault.Idle step = step.0

-- what waits goes on to wait where both sessions are open
drops_on : (a b : Bool) (w v : Waiting) → (b ≡ true → a ≡ true) → w ≡ waiting_if a v → waiting_if b w ≡ waiting_if b v
drops_on a false w v opens is = refl
drops_on true true w v opens is = is
drops_on false true w v opens is = absurd (let no : false ≡ true = opens refl in cc)

open_waits : (b : Bool) (w : Waiting) → b ≡ true → waiting_if b w ≡ w
open_waits true w e = refl
open_waits false w e = cc

-- ---- where a device stands in its history

-- an answer that is to be noted waits for an open device, and nothing waited for it before the block
abbrev pub Outs : Waiting → Part → Waiting → Option (Result ℕ PutFault) → Type 0
Outs before p w None = Unit {0}
Outs before p w (Some put) = (before ≡ Nothing) × (p.is_open ≡ true → w ≡ Answered put)

-- what waits is what waited before the block, or nothing waited
abbrev pub Kept : Waiting → Part → Waiting → Type 0
Kept before p w = (w ≡ waiting_if p.is_open before) ⊎ (before ≡ Nothing)

-- The device, a member before the block, is at this part, with this to wait for. These events are still to be done, beside
-- these puts, and lead to its last part.
pub record Cursor (moment d : ℕ) (m : Member) (last : Part) (p : Part) (w : Waiting) (rest : List Event) (puts : List Put) : Type 0 where
  pub put : Option (Result ℕ PutFault)
  pub replays : Replays moment d m p rest last
  pub told : Told put rest puts
  pub outs : Outs m.waiting p w put
  pub kept : Kept m.waiting p w

-- the member at this part
abbrev pub at_part : Member → Part → Waiting → Member
at_part m p w = record m { part = p; waiting = w }

abbrev pub set_to : State → ℕ → Member → State
set_to s d m = record s { members = slice_set s.members (d - 1) m }

-- One event was done. After a pick whose request is put, what follows goes on from the answer to the put.
pub record Went (s : State) (moment d : ℕ) (m : Member) (last : Part) (e : Event) (rest : List Event) (puts : List Put) : Type 0 where
  pub part : Part
  pub waits : Waiting
  pub step : ActStep s (event_act d e) (event_reply e) (set_to s d (at_part m part waits))
  pub on : Cursor moment d m last part waits rest puts ⊎ ((f : Put) × (fs : List Put) × (puts ≡ f ∷ fs) × (waits ≡ Asked f.ask) × Cursor moment d m last part (Answered f.answer) rest fs)

module _ (s : State) (moment d : ℕ) (m : Member) (last : Part) (numbered : 1 ≤ d) (now : s.moment ≡ moment) (p : Part) (w : Waiting) (found : slice_get s.members (d - 1) ≡ Some (at_part m p w))
    (waiting : WaitingMeets d s.chain m.name p w) where
  -- what was out is out
  outs_on : (r : Part) (put : Option (Result ℕ PutFault)) → (r.is_open ≡ true → p.is_open ≡ true) → Outs m.waiting p w put → Outs m.waiting r (waiting_if r.is_open w) put
  outs_on r None opens out = tt
  outs_on r (Some put) opens out = (out.0, λ is. open_waits r.is_open w is ∙ out.1 (opens is))

  kept_on : (r : Part) → (r.is_open ≡ true → p.is_open ≡ true) → Kept m.waiting p w → Kept m.waiting r (waiting_if r.is_open w)
  kept_on r opens (inl is) = inl (drops_on p.is_open r.is_open w m.waiting opens is)
  kept_on r opens (inr none) = inr none

  -- nothing waited for a device without a flight
  idle : p.is_open ≡ true → p.flight ≡ None → Kept m.waiting p w → m.waiting ≡ Nothing
  idle is free (inl same) = sym (same ∙ open_waits p.is_open m.waiting is) ∙ no_waiting d s.chain m.name p w waiting free
  idle is free (inr none) = none

  -- where the machine is not changed
  stays : slice_set s.members (d - 1) (at_part m p w) ≡ s.members
  stays = same_set s.members (d - 1) (at_part m p w) found

  looks : (show : Show) (answer : Result Shown LookFault) (rest : List Event) (puts : List Put) → Cursor moment d m last p w (Looks show answer ∷ rest) puts → Went s moment d m last (Looks show answer) rest puts
  looks show answer rest puts c = record {
    part = p;
    waits = w;
    step = record { member = at_part m p w; numbered = numbered; found = found; shows = (answer, c.replays.1.1, refl); state = ap (λ l. record s { members = l }) stays };
    on = inl (record { put = c.put; replays = subst (λ x. Replays moment d m x rest last) c.replays.1.0 c.replays.2; told = c.told; outs = c.outs; kept = c.kept });
  }

  tells : (answer : Result Status TellFault) (rest : List Event) (puts : List Put) → Cursor moment d m last p w (Tells answer ∷ rest) puts → Went s moment d m last (Tells answer) rest puts
  tells answer rest puts c = record {
    part = p;
    waits = w;
    step = record { member = at_part m p w; numbered = numbered; found = found; shows = (answer, c.replays.1.1, refl); state = ap (λ l. record s { members = l }) stays };
    on = inl (record { put = c.put; replays = subst (λ x. Replays moment d m x rest last) c.replays.1.0 c.replays.2; told = c.told; outs = c.outs; kept = c.kept });
  }

  calls : (request : Request) (answer : Result Called CallFault) (rest : List Event) (puts : List Put) → Cursor moment d m last p w (Calls request answer ∷ rest) puts → Went s moment d m last (Calls request answer) rest puts
  calls request answer rest puts c =
      let r = c.replays.0 in
      let opens = call_open d p r request moment answer c.replays.1 in
      record {
        part = r;
        waits = waiting_if r.is_open w;
        step = record {
          was = at_part m p w;
          is = at_part m r (waiting_if r.is_open w);
          chain = s.chain;
          numbered = numbered;
          found = found;
          step = (refl, record { answer = answer; part = r; step = subst (λ k. CallStep d p request k answer r) (sym now) c.replays.1; reply_is = refl; member = refl });
          state = refl;
        };
        on = inl (record { put = c.put; replays = c.replays.2; told = c.told; outs = outs_on r c.put opens c.outs; kept = kept_on r opens c.kept });
      }

  picks_none : (fault : PickFault) (rest : List Event) (puts : List Put) → Cursor moment d m last p w (Picks (Err fault) ∷ rest) puts → Went s moment d m last (Picks (Err fault)) rest puts
  picks_none fault rest puts c =
      let r = c.replays.0 in
      let opens : r.is_open ≡ true → p.is_open ≡ true = λ is. sym (ap (λ (x : Part). x.is_open) (pick_same m.batch d m.name p r fault c.replays.1)) ∙ is in
      record {
        part = r;
        waits = waiting_if r.is_open w;
        step = record {
          was = at_part m p w;
          is = at_part m r (waiting_if r.is_open w);
          chain = s.chain;
          numbered = numbered;
          found = found;
          step = (refl, inr (record { answer = fault; part = r; step = c.replays.1; reply_is = refl; member = refl }));
          state = refl;
        };
        on = inl (record { put = c.put; replays = c.replays.2; told = c.told; outs = outs_on r c.put opens c.outs; kept = kept_on r opens c.kept });
      }

  -- what follows a pick
  picked_on : (picked : Flight × Ask) (r : Part) (rest : List Event) (puts : List Put) (put : Option (Result ℕ PutFault)) → m.waiting ≡ Nothing → Replays moment d m r rest last → Told put (Picks (Ok picked) ∷ rest) puts
      → Cursor moment d m last r (Asked picked.1) rest puts ⊎ ((f : Put) × (fs : List Put) × (puts ≡ f ∷ fs) × (Asked picked.1 ≡ Asked f.ask) × Cursor moment d m last r (Answered f.answer) rest fs)
  picked_on picked r rest [] put none replays told = inl (record { put = None; replays = replays; told = told; outs = tt; kept = inr none })
  picked_on picked r rest (f ∷ fs) put none replays told =
      inr (f, fs, refl, ap Asked (sym told.0), record { put = Some f.answer; replays = replays; told = told.1; outs = (none, λ is. refl); kept = inr none })

  picks : (picked : Flight × Ask) (rest : List Event) (puts : List Put) → Cursor moment d m last p w (Picks (Ok picked) ∷ rest) puts → Went s moment d m last (Picks (Ok picked)) rest puts
  picks picked rest puts c =
      let r = c.replays.0 in
      let step = c.replays.1 in
      record {
        part = r;
        waits = Asked picked.1;
        step = record {
          was = at_part m p w;
          is = at_part m r (Asked picked.1);
          chain = s.chain;
          numbered = numbered;
          found = found;
          step = (refl, inl (record { flight = picked.0; ask = picked.1; part = r; step = step; reply_is = refl; member = refl }));
          state = refl;
        };
        on = picked_on picked r rest puts c.put (idle step.at.session step.free c.kept) c.replays.2 c.told;
      }

  -- an answer is out
  out_of : (put : Option (Result ℕ PutFault)) (answer : Result ℕ PutFault) → put ≡ Some answer → Outs m.waiting p w put → Outs m.waiting p w (Some answer)
  out_of put answer is out = subst (Outs m.waiting p w) is out

  -- a note in a session
  notes_open : (put : Result ℕ PutFault) (answer : Result Noted NoteFault) (rest : List Event) (puts : List Put) → p.is_open ≡ true → Cursor moment d m last p w (Notes put answer ∷ rest) puts → Went s moment d m last (Notes put answer) rest puts
  notes_open put answer rest puts session c =
      let r = c.replays.0 in
      let out = out_of c.put put c.told.0 c.outs in
      record {
        part = r;
        waits = Nothing;
        step = record {
          was = at_part m p w;
          is = at_part m r Nothing;
          chain = s.chain;
          numbered = numbered;
          found = found;
          step = (refl, inl (record { session = session; put = put; waits = out.1 session; answer = answer; part = r; step = c.replays.1; reply_is = refl; member = refl }));
          state = refl;
        };
        on = inl (record { put = None; replays = c.replays.2; told = c.told.1; outs = tt; kept = inr out.0 });
      }

  -- and one of a closed device
  notes_closed : (put : Result ℕ PutFault) (rest : List Event) (puts : List Put) → Cursor moment d m last p w (Notes put (Err answers.NoteFault.Closed) ∷ rest) puts → Went s moment d m last (Notes put (Err answers.NoteFault.Closed)) rest puts
  notes_closed put rest puts c = record {
    part = p;
    waits = w;
    step = record {
      was = at_part m p w;
      is = at_part m p w;
      chain = s.chain;
      numbered = numbered;
      found = found;
      step = (refl, inr (record { fault = answers.NoteFault.Closed; cause = c.replays.1.1; reply_is = refl; member = refl }));
      state = refl;
    };
    on = inl (record { put = None; replays = subst (λ x. Replays moment d m x rest last) c.replays.1.0 c.replays.2; told = c.told.1; outs = tt; kept = c.kept });
  }

  -- a note that the disk stopped is one in a session
  stops_open : (put : Result ℕ PutFault) (r : Part) → NoteStep p put (Err answers.NoteFault.Stopped) r → p.is_open ≡ true
  stops_open (Ok number) r step = step.flies.at.session
  stops_open (Err (folder_says.PutFault.Stale len)) r step = step.flies.at.session
  stops_open (Err folder_says.PutFault.NotWriter) r step = absurd step
  stops_open (Err folder_says.PutFault.ChainEnd) r step = absurd step
  stops_open (Err (folder_says.PutFault.Collision id)) r step = absurd step

  notes : (put : Result ℕ PutFault) (answer : Result Noted NoteFault) (rest : List Event) (puts : List Put) → Cursor moment d m last p w (Notes put answer ∷ rest) puts → Went s moment d m last (Notes put answer) rest puts
  notes put (Ok (answers.Landed n)) rest puts c = notes_open put (Ok (answers.Landed n)) rest puts c.replays.1.2.flies.at.session c
  notes put (Ok (answers.Noted.Branched at)) rest puts c = notes_open put (Ok (answers.Noted.Branched at)) rest puts c.replays.1.2.flies.at.session c
  notes put (Ok answers.Kept) rest puts c = notes_open put (Ok answers.Kept) rest puts c.replays.1.1.session c
  notes put (Err answers.NoteFault.Closed) rest puts c = notes_closed put rest puts c
  notes put (Err answers.NoteFault.NoFlight) rest puts c = notes_open put (Err answers.NoteFault.NoFlight) rest puts c.replays.1.1 c
  notes put (Err answers.NoteFault.Stopped) rest puts c = notes_open put (Err answers.NoteFault.Stopped) rest puts (stops_open put c.replays.0 c.replays.1) c

  pub one_event : (e : Event) (rest : List Event) (puts : List Put) → Cursor moment d m last p w (e ∷ rest) puts → Went s moment d m last e rest puts
  one_event (Calls request answer) rest puts c = calls request answer rest puts c
  one_event (Looks show answer) rest puts c = looks show answer rest puts c
  one_event (Tells answer) rest puts c = tells answer rest puts c
  one_event (Picks (Ok picked)) rest puts c = picks picked rest puts c
  one_event (Picks (Err fault)) rest puts c = picks_none fault rest puts c
  one_event (Notes put answer) rest puts c = notes put answer rest puts c
