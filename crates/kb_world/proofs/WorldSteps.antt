-- A world goes on as its folder and devices do: the forms of contracts are enough.
use Rattle.std.proofs.Common.{◌≡◌, ℕ, ◌+◌, ◌-◌, ◌≤◌, Bool, true, false, [], ◌∷◌, ◌++◌, length, None, Some, Result, Ok, Err, inl, inr, refl, sym, ap, ◌∙◌, subst, arith}
use Rattle.std.specs.Prelude.{slice_get, slice_set}
use Rattle.std.proofs.lemmas.List.{length-set}
use Rattle.kb_edge.specs.declared.link.Side.TheVariants.{Request as AtRequest, Reply as AtReply}
use Rattle.kb_edge.specs.Goes.{Goes}
use Rattle.kb_ops.specs.declared.requests.Request.{Request}
use Rattle.kb_rules.specs.declared.report.Report.{Report}
use Rattle.kb_snap.specs.Chains.{Chain}
use Rattle.kb_device.specs.Answers.{Called, CallFault, Noted, NoteFault, SettleFault, OpenFault, Status}
use Rattle.kb_snap.specs.Answers.{PutFault}
use Rattle.kb_device.specs.Answers as answers
use Rattle.kb_snap.specs.Puts.{Ask, PutStep}
use Rattle.kb_device.specs.Parts.{Merger, Flight, Part, closed, CallStep, PickStep, SettleStep}
use Rattle.kb_device.specs.Meets.{PartMeets, PutMeets}
use Rattle.kb_world.specs.Statements.{ByCall, ByPick, ByLand, ByNote, BySettle, ByOpen, On}
use Rattle.kb_world.specs.Statements as statements
use Rattle.kb_device.specs.Links.{LinkAfter}
use Rattle.kb_world.specs.Machine.{merger, went, landed, cut_off, Member, State, ActStep}
use Rattle.kb_device.specs.Waits.{Waiting, Nothing, Asked, Answered, waiting_if, WaitingMeets}
use Rattle.kb_world.specs.Good.{IsGood}
use Rattle.kb_world.specs.RunLaws.{IsDevice}
use Rattle.kb_world.specs.WorldForms.{Kept, Free, Requested, Told, kept_if, Cell, World, KeptStands, CellStands, WorldStands}
use Rattle.kb_device.specs.CallForms.{CallGoes, PickGoes, NoteGoes, LeaveGoes, SettleGoes, OpenGoes, StandsLonger}
use Rattle.kb_snap.specs.PutForms.{PutGoes, RequestsStay}
use Rattle.kb_snap.proofs.Lists.{append_none, get_there, member_at}
use Rattle.kb_world.proofs.GoodStates.{device_meets}
use Rattle.kb_world.proofs.Machine.{get_set, act_keeps}
use Rattle.kb_device.proofs.PartSteps.{closed_part}
use Rattle.kb_device.proofs.Steps.{refused}
use Rattle.kb_device.proofs.Puts.{land_follows}
use Rattle.kb_snap.specs.Lawful.{Extends}

-- the chain stays or is followed by more
abbrev Grew : Chain → Chain → Type 0
Grew c c' = (more : Chain) × (c' ≡ c ++ more)

module _ {V F Q : Type 0} (Grows : F → F → Type 0) (DeviceStands : ℕ → F → Chain → V → Part → Type 0) (FolderStands : F → Chain → Type 0) (RequestStands : F → Q → Ask → Type 0)
    (stays : (f : F) → Grows f f) (longer : StandsLonger Grows DeviceStands FolderStands RequestStands) (request_stays : RequestsStay Grows FolderStands RequestStands)
    (is_open : V → Bool) (open_is : (d : ℕ) (f : F) (c : Chain) (v : V) (p : Part) → DeviceStands d f c v p → is_open v ≡ p.is_open) where
  kept_dropped : (f : F) (b : Bool) (kept : Kept Q) (w : Waiting) → KeptStands Grows DeviceStands FolderStands RequestStands f kept w → KeptStands Grows DeviceStands FolderStands RequestStands f (kept_if b kept) (waiting_if b w)
  kept_dropped f true kept w h = h
  kept_dropped f false kept w h = tt

  kept_stays : (f f' : F) (c more : Chain) (kept : Kept Q) (w : Waiting) → Grows f f' → FolderStands f c → FolderStands f' (c ++ more) → KeptStands Grows DeviceStands FolderStands RequestStands f kept w → KeptStands Grows DeviceStands FolderStands RequestStands f' kept w
  kept_stays f f' c more Free Nothing g a b h = tt
  kept_stays f f' c more Free (Asked ask) g a b h = absurd h
  kept_stays f f' c more Free (Answered answer) g a b h = absurd h
  kept_stays f f' c more (Requested request) Nothing g a b h = absurd h
  kept_stays f f' c more (Requested request) (Asked ask) g a b h = request_stays f f' c more request ask g a b h
  kept_stays f f' c more (Requested request) (Answered answer) g a b h = absurd h
  kept_stays f f' c more (Told put) Nothing g a b h = absurd h
  kept_stays f f' c more (Told put) (Asked ask) g a b h = absurd h
  kept_stays f f' c more (Told put) (Answered answer) g a b h = h

  abbrev WS : World V F Q → State → Type 0
  WS w s = WorldStands Grows DeviceStands FolderStands RequestStands w s

  abbrev CS : ℕ → F → Chain → Cell V Q → Member → Type 0
  CS d f c cell m = CellStands Grows DeviceStands FolderStands RequestStands d f c cell m

  -- one device goes on, and perhaps the folder
  module _ (w w' : World V F Q) (d : ℕ) (cell cell' : Cell V Q) (numbered : 1 ≤ d) (found : slice_get w.cells (d - 1) ≡ Some cell) (cells : w'.cells ≡ slice_set w.cells (d - 1) cell')
      (moment : w'.moment ≡ w.moment) (rule : w'.rule ≡ w.rule) (name : cell'.name ≡ cell.name) (batch : cell'.batch ≡ cell.batch) where
    member : (s : State) → WS w s → (m : Member) × IsDevice s d m × CS d w.folder s.chain cell m
    member s h =
        let lt = get_there w.cells (d - 1) cell found in
        let at = member_at s.members (d - 1) (let e = h.count in omega arith) in
        (at.0, record { numbered = numbered; found = at.1 }, subst (λ k. CS k w.folder s.chain cell at.0) (let e : d - 1 + 1 ≡ d = omega arith in e) (h.cells (d - 1) cell at.0 found at.1))

    cell_longer : (k : ℕ) (f f' : F) (c c' : Chain) (x : Cell V Q) (m : Member) → Grew c c' → Grows f f' → FolderStands f c → FolderStands f' c' → PartMeets k c m.part → CS k f c x m → CS k f' c' x m
    cell_longer k f f' c c' x m grew grows old new meets h =
        let long : FolderStands f' (c ++ grew.0) = subst (FolderStands f') grew.1 new in
        record {
          name = h.name;
          part = subst (λ l. DeviceStands k f' l x.device m.part) (sym grew.1) (longer k f f' c grew.0 x.device m.part grows old long meets h.part);
          kept = kept_stays f f' c grew.0 x.kept m.waiting grows old long h.kept;
          link = h.link;
          batch = h.batch;
        }

    turned : (s t : State) (m' : Member) (c' : Chain) → WS w s → IsGood t → t ≡ record s { chain = c'; members = slice_set s.members (d - 1) m' } → FolderStands w'.folder c' → CS d w'.folder c' cell' m' → Grew s.chain c' → Grows w.folder w'.folder → WS w' t
    turned s t m' c' h good state folder here grew grows =
        let u : State = record s { chain = c'; members = slice_set s.members (d - 1) m' } in
        let good_u : IsGood u = subst IsGood state good in
        subst (WS w') (sym state) (record {
          moment = moment ∙ h.moment;
          rule = rule ∙ h.rule;
          folder = folder;
          count = ap length cells ∙ length-set w.cells (d - 1) cell' ∙ h.count ∙ sym (length-set s.members (d - 1) m');
          cells = λ i x m at there. elim (get_set w.cells (d - 1) i cell' x (ap (λ l. slice_get l i) (sym cells) ∙ at)) [
            | inl a ↦ elim (get_set s.members (d - 1) i m' m there) [
              | inl b ↦ (
                  let number : d ≡ i + 1 = (let e = a.0 in omega arith) in
                  subst (λ (y : Member). CS (i + 1) w'.folder c' x y) (sym b.1) (subst (λ (y : Cell V Q). CS (i + 1) w'.folder c' y m') (sym a.1) (subst (λ k. CS k w'.folder c' cell' m') number here)))
              | inr b ↦ absurd (b.0 a.0)
            ]
            | inr a ↦ elim (get_set s.members (d - 1) i m' m there) [
              | inl b ↦ absurd (a.0 b.0)
              | inr b ↦ cell_longer (i + 1) w.folder w'.folder s.chain c' x m grew grows h.folder folder (h.good.members i m b.1).part (h.cells i x m a.1 b.1)
            ]
          ];
          good = good_u;
        })

    same : (s : State) → Grew s.chain s.chain
    same s = ([], sym (append_none s.chain))

    still : w'.folder ≡ w.folder → Grows w.folder w'.folder
    still e = subst (λ f. Grows w.folder f) (sym e) (stays w.folder)

    -- the device's own cell, where the folder stays
    moved : (s : State) (m : Member) → w'.folder ≡ w.folder → CS d w.folder s.chain cell' m → CS d w'.folder s.chain cell' m
    moved s m e h = subst (λ f. CS d f s.chain cell' m) (sym e) h

    -- a file call
    pub calls : (request : Request) (answer : Result Called CallFault) → CallGoes Grows DeviceStands FolderStands RequestStands d cell.device cell'.device request w.moment answer
        → cell'.kept ≡ kept_if (is_open cell'.device) cell.kept → w'.folder ≡ w.folder → cell'.link ≡ cell.link → Goes WS w w' (λ s t. ActStep s (On d (statements.Call request)) (ByCall answer) t)
    calls request answer goes kept folder link = λ s h.
        let at = member s h in
        let m = at.0 in
        let to = goes w.folder s.chain m.part (device_meets s d m h.good at.1).part h.folder at.2.part in
        let t : State = record s { chain = s.chain; members = slice_set s.members (d - 1) (went m to.0) } in
        let step : ActStep s (On d (statements.Call request)) (ByCall answer) t = record {
          was = m;
          is = went m to.0;
          chain = s.chain;
          numbered = numbered;
          found = at.1.found;
          step = (refl, record { answer = answer; part = to.0; step = subst (λ n. CallStep d m.part request n answer to.0) h.moment to.1; reply_is = refl; member = refl });
          state = refl;
        } in
        let here : CS d w.folder s.chain cell' (went m to.0) = record {
          name = name ∙ at.2.name;
          part = to.2;
          kept = subst (λ k. KeptStands Grows DeviceStands FolderStands RequestStands w.folder k (waiting_if to.0.is_open m.waiting)) (sym (kept ∙ ap (λ b. kept_if b cell.kept) (open_is d w.folder s.chain cell'.device to.0 to.2)))
              (kept_dropped w.folder to.0.is_open cell.kept m.waiting at.2.kept);
          link = link ∙ at.2.link;
          batch = batch ∙ at.2.batch;
        } in
        (t, step, turned s t (went m to.0) s.chain h (act_keeps s t h.good (On d (statements.Call request)) (ByCall answer) step) refl (subst (λ f. FolderStands f s.chain) (sym folder) h.folder) (moved s _ folder here) (same s) (still folder))

    -- what waits where a request is kept
    asked_of : (request : Q) (waiting : Waiting) → KeptStands Grows DeviceStands FolderStands RequestStands w.folder (Requested request) waiting → (ask : Ask) × (waiting ≡ Asked ask) × RequestStands w.folder request ask
    asked_of request Nothing h = absurd h
    asked_of request (Asked ask) h = (ask, refl, h)
    asked_of request (Answered answer) h = absurd h

    put_grew : (c : Chain) (ask : Ask) (answer : Result ℕ PutFault) (c' : Chain) → PutStep c ask answer c' → Grew c c'
    put_grew c ask (Ok n) c' step = (ask.revision ∷ [], step.3)
    put_grew c ask (Err fault) c' step = ([], refused c ask fault c' step ∙ sym (append_none c))

    -- the put of a request that is kept
    pub lands : (request : Q) (answer : Result ℕ PutFault) → cell.kept ≡ Requested request → PutGoes Grows FolderStands RequestStands w.folder w'.folder request answer
        → cell'.kept ≡ Told answer → cell'.device ≡ cell.device → cell.link ≡ None → cell'.link ≡ cell.link → Goes WS w w' (λ s t. ActStep s (On d statements.Land) (ByLand (landed answer)) t)
    lands request answer was goes kept device whole link = λ s h.
        let at = member s h in
        let m = at.0 in
        let ask = asked_of request m.waiting (subst (λ k. KeptStands Grows DeviceStands FolderStands RequestStands w.folder k m.waiting) was at.2.kept) in
        let meets = device_meets s d m h.good at.1 in
        let waits = subst (WaitingMeets d s.chain m.name m.part) ask.1 meets.waiting in
        let extends : Extends s.chain ask.0 = λ next room. land_follows d s.chain m.name m.part ask.0 meets.part waits next room in
        let to = goes s.chain ask.0 h.good.chain extends h.folder ask.2 in
        let m' : Member = record m { waiting = Answered answer } in
        let t : State = record s { chain = to.0; members = slice_set s.members (d - 1) m' } in
        let step : ActStep s (On d statements.Land) (ByLand (landed answer)) t = record {
          was = m;
          is = m';
          chain = to.0;
          numbered = numbered;
          found = at.1.found;
          step = inl (inl (record { ask = ask.0; waits = ask.1; carried = sym at.2.link ∙ whole; answer = answer; step = to.1; reply_is = refl; member = refl }));
          state = refl;
        } in
        let grew = put_grew s.chain ask.0 answer to.0 to.1 in
        let long = cell_longer d w.folder w'.folder s.chain to.0 cell m grew to.2 h.folder to.3 (device_meets s d m h.good at.1).part at.2 in
        let here : CS d w'.folder to.0 cell' m' = record {
          name = name ∙ at.2.name;
          part = subst (λ v. DeviceStands d w'.folder to.0 v m.part) (sym device) long.part;
          kept = subst (λ k. KeptStands Grows DeviceStands FolderStands RequestStands w'.folder k (Answered answer)) (sym kept) refl;
          link = link ∙ at.2.link;
          batch = batch ∙ at.2.batch;
        } in
        (t, step, turned s t m' to.0 h (act_keeps s t h.good (On d statements.Land) (ByLand (landed answer)) step) refl to.3 here grew to.2)

    -- a request that is kept, and that the link loses
    pub loses : (request : Q) → cell.kept ≡ Requested request → cell.link ≡ Some AtRequest → LeaveGoes Grows DeviceStands FolderStands RequestStands d cell.device cell'.device
        → cell'.kept ≡ Free → cell'.link ≡ None → w'.folder ≡ w.folder → Goes WS w w' (λ s t. ActStep s (On d statements.Land) (ByLand (Err (statements.LinkFault None))) t)
    loses request was side goes kept link folder = λ s h.
        let at = member s h in
        let m = at.0 in
        let ask = asked_of request m.waiting (subst (λ k. KeptStands Grows DeviceStands FolderStands RequestStands w.folder k m.waiting) was at.2.kept) in
        let to = goes w.folder s.chain m.part (device_meets s d m h.good at.1).part h.folder at.2.part in
        let t : State = record s { chain = s.chain; members = slice_set s.members (d - 1) (cut_off m) } in
        let step : ActStep s (On d statements.Land) (ByLand (Err (statements.LinkFault None))) t = record {
          was = m;
          is = cut_off m;
          chain = s.chain;
          numbered = numbered;
          found = at.1.found;
          step = inl (inr (record { ask = ask.0; waits = ask.1; lost = None; side = sym at.2.link ∙ side; step = refl; reply_is = refl; member = refl }));
          state = refl;
        } in
        let here : CS d w.folder s.chain cell' (cut_off m) = record {
          name = name ∙ at.2.name;
          part = subst (DeviceStands d w.folder s.chain cell'.device) to.1 to.2;
          kept = subst (λ k. KeptStands Grows DeviceStands FolderStands RequestStands w.folder k Nothing) (sym kept) tt;
          link = link;
          batch = batch ∙ at.2.batch;
        } in
        (t, step, turned s t (cut_off m) s.chain h (act_keeps s t h.good (On d statements.Land) (ByLand (Err (statements.LinkFault None))) step) refl (subst (λ f. FolderStands f s.chain) (sym folder) h.folder) (moved s _ folder here) (same s) (still folder))

    -- and one whose answer it loses: the put is made, and the device leaves
    pub loses_answer : (request : Q) (answer : Result ℕ PutFault) → cell.kept ≡ Requested request → cell.link ≡ Some AtReply → PutGoes Grows FolderStands RequestStands w.folder w'.folder request answer
        → LeaveGoes Grows DeviceStands FolderStands RequestStands d cell.device cell'.device → cell'.kept ≡ Free → cell'.link ≡ None → Goes WS w w' (λ s t. ActStep s (On d statements.Land) (ByLand (Err (statements.LinkFault (Some answer)))) t)
    loses_answer request answer was side goes leaves kept link = λ s h.
        let at = member s h in
        let m = at.0 in
        let ask = asked_of request m.waiting (subst (λ k. KeptStands Grows DeviceStands FolderStands RequestStands w.folder k m.waiting) was at.2.kept) in
        let meets = device_meets s d m h.good at.1 in
        let waits = subst (WaitingMeets d s.chain m.name m.part) ask.1 meets.waiting in
        let extends : Extends s.chain ask.0 = λ next room. land_follows d s.chain m.name m.part ask.0 meets.part waits next room in
        let to = goes s.chain ask.0 h.good.chain extends h.folder ask.2 in
        let left = leaves w.folder s.chain m.part meets.part h.folder at.2.part in
        let part : DeviceStands d w.folder s.chain cell'.device (closed m.part) = subst (DeviceStands d w.folder s.chain cell'.device) left.1 left.2 in
        let reply = ByLand (Err (statements.LinkFault (Some answer))) in
        let t : State = record s { chain = to.0; members = slice_set s.members (d - 1) (cut_off m) } in
        let step : ActStep s (On d statements.Land) reply t = record {
          was = m;
          is = cut_off m;
          chain = to.0;
          numbered = numbered;
          found = at.1.found;
          step = inl (inr (record { ask = ask.0; waits = ask.1; lost = Some answer; side = sym at.2.link ∙ side; step = to.1; reply_is = refl; member = refl }));
          state = refl;
        } in
        let grew = put_grew s.chain ask.0 answer to.0 to.1 in
        let long : FolderStands w'.folder (s.chain ++ grew.0) = subst (FolderStands w'.folder) grew.1 to.3 in
        let here : CS d w'.folder to.0 cell' (cut_off m) = record {
          name = name ∙ at.2.name;
          part = subst (λ l. DeviceStands d w'.folder l cell'.device (closed m.part)) (sym grew.1) (longer d w.folder w'.folder s.chain grew.0 cell'.device (closed m.part) to.2 h.folder long (closed_part d s.chain m.part meets.part) part);
          kept = subst (λ k. KeptStands Grows DeviceStands FolderStands RequestStands w'.folder k Nothing) (sym kept) tt;
          link = link;
          batch = batch ∙ at.2.batch;
        } in
        (t, step, turned s t (cut_off m) to.0 h (act_keeps s t h.good (On d statements.Land) reply step) refl to.3 here grew to.2)

    told_of : (put : Result ℕ PutFault) (waiting : Waiting) → KeptStands Grows DeviceStands FolderStands RequestStands w.folder (Told put) waiting → waiting ≡ Answered put
    told_of put Nothing h = absurd h
    told_of put (Asked ask) h = absurd h
    told_of put (Answered answer) h = ap Answered (sym h)

    -- the note of an answer that is kept
    pub notes : (put : Result ℕ PutFault) (answer : Result Noted NoteFault) → cell.kept ≡ Told put → NoteGoes Grows DeviceStands FolderStands RequestStands d cell.device cell'.device put answer
        → cell'.kept ≡ Free → w'.folder ≡ w.folder → cell'.link ≡ cell.link → Goes WS w w' (λ s t. ActStep s (On d statements.Note) (ByNote answer) t)
    notes put answer was goes kept folder link = λ s h.
        let at = member s h in
        let m = at.0 in
        let meets = device_meets s d m h.good at.1 in
        let waits = told_of put m.waiting (subst (λ k. KeptStands Grows DeviceStands FolderStands RequestStands w.folder k m.waiting) was at.2.kept) in
        let waited : PutMeets d s.chain m.part put = subst (WaitingMeets d s.chain m.name m.part) waits meets.waiting in
        let to = goes w.folder s.chain m.part meets.part waited h.folder at.2.part in
        let m' : Member = record m { part = to.0; waiting = Nothing } in
        let t : State = record s { chain = s.chain; members = slice_set s.members (d - 1) m' } in
        let step : ActStep s (On d statements.Note) (ByNote answer) t = record {
          was = m;
          is = m';
          chain = s.chain;
          numbered = numbered;
          found = at.1.found;
          step = (refl, inl (record { session = waited.at.session; put = put; waits = waits; answer = answer; part = to.0; step = to.1; reply_is = refl; member = refl }));
          state = refl;
        } in
        let here : CS d w.folder s.chain cell' m' = record { name = name ∙ at.2.name; part = to.2; kept = subst (λ k. KeptStands Grows DeviceStands FolderStands RequestStands w.folder k Nothing) (sym kept) tt; link = link ∙ at.2.link; batch = batch ∙ at.2.batch } in
        (t, step, turned s t m' s.chain h (act_keeps s t h.good (On d statements.Note) (ByNote answer) step) refl (subst (λ f. FolderStands f s.chain) (sym folder) h.folder) (moved s _ folder here) (same s) (still folder))

    settle_grew : (c : Chain) (p : Part) (by : Merger) (answer : Result (ℕ × Report) SettleFault) (c' : Chain) (q : Part) → SettleStep d by c p answer c' q → Grew c c'
    settle_grew c p by (Ok merged) c' q step = (_, step.put.3)
    settle_grew c p by (Err answers.SettleFault.Closed) c' q step = ([], step.0 ∙ sym (append_none c))
    settle_grew c p by (Err answers.SettleFault.NoPlan) c' q step = ([], step.0 ∙ sym (append_none c))
    settle_grew c p by (Err (answers.SettleFault.LinkFault None)) c' q step = ([], step.put ∙ sym (append_none c))
    settle_grew c p by (Err (answers.SettleFault.LinkFault (Some lost))) c' q step = put_grew c _ lost c' step.put
    settle_grew c p by (Err (answers.SettleFault.ByPut fault)) c' q step = ([], refused c _ fault c' step.put ∙ sym (append_none c))
    settle_grew c p by (Err answers.SettleFault.Stopped) c' q step = (_, step.put.3)

    -- a settle, which moves the folder and the device
    pub settles : (answer : Result (ℕ × Report) SettleFault) → SettleGoes Grows DeviceStands FolderStands RequestStands d (record { name = cell.name; moment = w.moment; rule = w.rule }) w.folder w'.folder cell.device cell'.device answer
        → cell'.kept ≡ kept_if (is_open cell'.device) cell.kept → LinkAfter cell.link answer cell'.link → Goes WS w w' (λ s t. ActStep s (On d statements.Settle) (BySettle answer) t)
    settles answer goes kept after = λ s h.
        let at = member s h in
        let m = at.0 in
        let to = goes s.chain m.part h.good.chain (device_meets s d m h.good at.1).part h.folder at.2.part in
        let done : SettleStep d (merger s m) s.chain m.part answer to.0 to.1 = subst (λ by. SettleStep d by s.chain m.part answer to.0 to.1) (λ i. record { name = at.2.name i; moment = h.moment i; rule = h.rule i }) to.2 in
        let t : State = record s { chain = to.0; members = slice_set s.members (d - 1) (record (went m to.1) { link = cell'.link }) } in
        let step : ActStep s (On d statements.Settle) (BySettle answer) t = record {
          was = m;
          is = record (went m to.1) { link = cell'.link };
          chain = to.0;
          numbered = numbered;
          found = at.1.found;
          step = record { answer = answer; part = to.1; step = done; link = cell'.link; after = subst (λ l. LinkAfter l answer cell'.link) at.2.link after; reply_is = refl; member = refl };
          state = refl;
        } in
        let here : CS d w'.folder to.0 cell' (record (went m to.1) { link = cell'.link }) = record {
          name = name ∙ at.2.name;
          part = to.5;
          kept = subst (λ k. KeptStands Grows DeviceStands FolderStands RequestStands w'.folder k (waiting_if to.1.is_open m.waiting)) (sym (kept ∙ ap (λ b. kept_if b cell.kept) (open_is d w'.folder to.0 cell'.device to.1 to.5)))
              (kept_dropped w'.folder to.1.is_open cell.kept m.waiting (cell_longer d w.folder w'.folder s.chain to.0 cell m (settle_grew s.chain m.part (merger s m) answer to.0 to.1 done) to.3 h.folder to.4 (device_meets s d m h.good at.1).part at.2).kept);
          link = refl;
          batch = batch ∙ at.2.batch;
        } in
        (t, step, turned s t (record (went m to.1) { link = cell'.link }) to.0 h (act_keeps s t h.good (On d statements.Settle) (BySettle answer) step) refl to.4 here (settle_grew s.chain m.part (merger s m) answer to.0 to.1 done) to.3)

    -- an opening
    pub opens : (answer : Result Status OpenFault) → OpenGoes Grows DeviceStands FolderStands RequestStands d w.folder cell.device cell'.device answer
        → cell'.kept ≡ kept_if (is_open cell'.device) cell.kept → w'.folder ≡ w.folder → cell'.link ≡ cell.link → Goes WS w w' (λ s t. ActStep s (On d statements.Open) (ByOpen answer) t)
    opens answer goes kept folder link = λ s h.
        let at = member s h in
        let m = at.0 in
        let to = goes s.chain m.part h.good.chain (device_meets s d m h.good at.1).part h.folder at.2.part in
        let t : State = record s { chain = s.chain; members = slice_set s.members (d - 1) (went m to.0) } in
        let step : ActStep s (On d statements.Open) (ByOpen answer) t = record {
          was = m;
          is = went m to.0;
          chain = s.chain;
          numbered = numbered;
          found = at.1.found;
          step = (refl, record { answer = answer; part = to.0; step = to.1; reply_is = refl; member = refl });
          state = refl;
        } in
        let here : CS d w.folder s.chain cell' (went m to.0) = record {
          name = name ∙ at.2.name;
          part = to.2;
          kept = subst (λ k. KeptStands Grows DeviceStands FolderStands RequestStands w.folder k (waiting_if to.0.is_open m.waiting)) (sym (kept ∙ ap (λ b. kept_if b cell.kept) (open_is d w.folder s.chain cell'.device to.0 to.2)))
              (kept_dropped w.folder to.0.is_open cell.kept m.waiting at.2.kept);
          link = link ∙ at.2.link;
          batch = batch ∙ at.2.batch;
        } in
        (t, step, turned s t (went m to.0) s.chain h (act_keeps s t h.good (On d statements.Open) (ByOpen answer) step) refl (subst (λ f. FolderStands f s.chain) (sym folder) h.folder) (moved s _ folder here) (same s) (still folder))

    -- a pick that was not refused, whose request is kept
    pub picks : (flight : Flight) (request : Q) → PickGoes Grows DeviceStands FolderStands RequestStands cell.batch d cell.name cell.device cell'.device flight request
        → cell'.kept ≡ Requested request → w'.folder ≡ w.folder → cell'.link ≡ cell.link → Goes WS w w' (λ s t. ActStep s (On d statements.Pick) (ByPick (Ok (flight.first, flight.first + flight.count - 1, flight.number))) t)
    picks flight request goes kept folder link = λ s h.
        let at = member s h in
        let m = at.0 in
        let to = goes w.folder s.chain m.part (device_meets s d m h.good at.1).part h.folder at.2.part in
        let done : PickStep m.batch d m.name m.part (Ok (flight, to.1)) to.0 = subst (λ k. PickStep k d m.name m.part (Ok (flight, to.1)) to.0) at.2.batch (subst (λ l. PickStep cell.batch d l m.part (Ok (flight, to.1)) to.0) at.2.name to.2) in
        let m' : Member = record m { part = to.0; waiting = Asked to.1 } in
        let reply = ByPick (Ok (flight.first, flight.first + flight.count - 1, flight.number)) in
        let t : State = record s { chain = s.chain; members = slice_set s.members (d - 1) m' } in
        let step : ActStep s (On d statements.Pick) reply t = record {
          was = m;
          is = m';
          chain = s.chain;
          numbered = numbered;
          found = at.1.found;
          step = (refl, inl (record { flight = flight; ask = to.1; part = to.0; step = done; reply_is = refl; member = refl }));
          state = refl;
        } in
        let here : CS d w.folder s.chain cell' m' = record { name = name ∙ at.2.name; part = to.4; kept = subst (λ k. KeptStands Grows DeviceStands FolderStands RequestStands w.folder k (Asked to.1)) (sym kept) to.3; link = link ∙ at.2.link; batch = batch ∙ at.2.batch } in
        (t, step, turned s t m' s.chain h (act_keeps s t h.good (On d statements.Pick) reply step) refl (subst (λ f. FolderStands f s.chain) (sym folder) h.folder) (moved s _ folder here) (same s) (still folder))
