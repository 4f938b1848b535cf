-- A world whose devices fetch, settle and resolve.
use Rattle.std.proofs.Common.{◌≡◌, ◌⊎◌, ℕ, ◌+◌, ◌-◌, ◌*◌, ◌≤◌, Bool, true, false, List, [], ◌∷◌, ◌++◌, length, Option, Some, None, Result, Ok, Err, inl, inr, refl, sym, ap, ◌∙◌, subst, arith, append_assoc}
use Rattle.std.specs.Prelude.{slice_get, slice_set}
use Rattle.std.specs.Option.{option_map}
use Rattle.sha2.specs.Sha256.{sha256}
use Rattle.kb_edge.specs.declared.disk.Disk.{Ghosts}
use Rattle.kb_seal.specs.Sealing.{seal_by_hmac, sign_by_hmac}
use Rattle.kb_name.specs.Moments.{last_second}
use Rattle.kb_ops.specs.Trees.{fold_ops, FitAll}
use Rattle.kb_rules.specs.declared.report.Report.{Report}
use Rattle.kb_rules.specs.Meet.{Meet}
use Rattle.kb_rules.specs.Merge.{splits}
use Rattle.kb_resolver.specs.Few.{FewAreSplit}
use Rattle.kb_chain.specs.declared.states.PutRefusal.TheVariants as why
use Rattle.kb_lines.specs.declared.lines.Line.{Line}
use Rattle.kb_script.specs.declared.statements.Statement.TheVariants as said
use Rattle.kb_device.specs.Answers as says
use Rattle.kb_device.specs.Devices.{IsView}
use Rattle.kb_device.specs.Inside.{Plan}
use Rattle.kb_device.specs.Behind.{PlainOpsLead}
use Rattle.kb_device.specs.Journals.{Journal, plain}
use Rattle.kb_device.specs.Stands as inner
use Rattle.kb_device.proofs.PartSteps.{at_session, at_journal}
use Rattle.kb_device.proofs.Picks.{inside_at}
use Rattle.kb_device.specs.Forms.{StandsLonger}
use Rattle.kb_device.specs.Answering.{AnswersStay}
use Rattle.kb_device.specs.Parts.{Merger, Part, FetchStep, SettleStep}
use Rattle.kb_device.specs.declared.fetched.FetchFault.{FetchFault}
use Rattle.kb_device.specs.declared.fetched.FetchFault.TheVariants as fetch
use Rattle.kb_device.specs.declared.settled.SettleFault.{SettleFault}
use Rattle.kb_device.specs.declared.settled.SettleFault.TheVariants as settle
use Rattle.kb_snap.specs.Chains.{Chain, tree_at}
use Rattle.kb_snap.proofs.Lists.{append_none}
use Rattle.kb_folder.specs.Chains.{Names}
use Rattle.kb_folder.specs.Puts.{Held}
use Rattle.kb_folder.specs.Held.{held}
use Rattle.kb_folder.specs.Goes.{HasChain, Grows, RequestsStay}
use Rattle.kb_world.specs.Statements.{Reply, ByFetch, BySettle, On}
use Rattle.kb_world.specs.Statements as statements
use Rattle.kb_world.specs.Machine.{Member, State, Does, ActStep, Steps, Ends, Stage, ToSettle, last_reply, next, resolve_stage, stage_act, merger, went}
use Rattle.kb_world.specs.RunLaws.{IsDevice}
use Rattle.kb_world.specs.Printed.{printed, all_printed, fetched_line, settled_line}
use Rattle.kb_world.specs.Turning.{Turned}
use Rattle.kb_world.specs.Standing.{DeclaredStands, WorldStands, IsStanding}
use Rattle.kb_world.specs.Doing.{Tells, Does as Did, GoesOn, stage_if}
use Rattle.kb_world.specs.Branching.{told_fetch, IsFetched, IsFetch, FetchTurns, IsSettling, IsSettled, LacksSettle, MayMerge, SettledBy, SettleSteps, SettleTurns, HasFewRows, is_fetched}
use Rattle.kb_world.specs.declared.declared.Declared.{Declared}
use Rattle.kb_world.specs.declared.world.World.{World}
use Rattle.kb_world.proofs.Machine.{act_keeps}
use Rattle.kb_world.proofs.GoodStates.{device_meets, branches_meet}
use Rattle.kb_world.proofs.Rows.{plan_few}
use Rattle.kb_world.proofs.Puts.{Grew, put_grew, declared_longer}
use Rattle.kb_world.proofs.Rounds.{lacks_first}
use Rattle.kb_world.proofs.Worlds.{same_set, Stood, stood, turned, takes_turn, takes_none}

-- ---- fetches

fetch_is : (r : Result ℕ FetchFault) (d : ℕ) (c : Chain) (m n : Member) → IsFetched r → FetchTurns r d c m n → IsFetch r
fetch_is (Ok number) d c m n some h = tt
fetch_is (Err fetch.Closed) d c m n some h = tt
fetch_is (Err fetch.NotMember) d c m n some h = tt
fetch_is (Err fetch.NoBranch) d c m n some h = tt
fetch_is (Err (fetch.BadFolder number)) d c m n some h = absurd h
fetch_is (Err fetch.Memory) d c m n some h = absurd some

fetch_does : (r : Result ℕ FetchFault) (d : ℕ) (c : Chain) (m n : Member) → IsFetched r → FetchTurns r d c m n → Does (FetchStep d c m.part) ByFetch (ByFetch (told_fetch r)) m n
fetch_does (Ok number) d c m n some h = h
fetch_does (Err fetch.Closed) d c m n some h = h
fetch_does (Err fetch.NotMember) d c m n some h = h
fetch_does (Err fetch.NoBranch) d c m n some h = h
fetch_does (Err (fetch.BadFolder number)) d c m n some h = absurd h
fetch_does (Err fetch.Memory) d c m n some h = absurd some

fetch_stage : (name : List ℕ) (r : Result ℕ FetchFault) → IsFetch r → resolve_stage (Some (ByFetch (told_fetch r))) ≡ stage_if (is_fetched (fetched_line name (told_fetch r))) ToSettle
fetch_stage name (Ok n) some = refl
fetch_stage name (Err fetch.Closed) some = refl
fetch_stage name (Err fetch.NotMember) some = refl
fetch_stage name (Err fetch.NoBranch) some = refl
fetch_stage name (Err (fetch.BadFolder number)) some = absurd some
fetch_stage name (Err fetch.Memory) some = absurd some

module _ {M D : Type 0} {disks : Ghosts D} (w v : World M D disks) (d : ℕ) (x y : Declared D _ _ disks _ _) (numbered : 1 ≤ d) (found : slice_get w.devices.items (d - 1) ≡ Some x) (devices : v.devices.items ≡ slice_set w.devices.items (d - 1) y)
    (seed : v.seed ≡ w.seed) (moment : v.moment ≡ w.moment) (folder : held v.folder ≡ held w.folder) where
  pub fetches_device : (r : Result ℕ FetchFault) (l : Line) → (IsFetch r → l ≡ fetched_line x.name (told_fetch r)) → IsFetched r → Turned (held w.folder) x y (FetchTurns r)
      → GoesOn w v (λ names s t. Tells names d s (On d statements.Fetch) l (λ reply. resolve_stage (Some reply) ≡ stage_if (is_fetched l) ToSettle) t)
  fetches_device r l is some goes = λ names s h.
      let a = stood w v names d x y numbered found devices seed moment s h in
      let turn = goes s.seed names d s.chain a.m h.good.chain a.meets h.folder a.here in
      let whole = fetch_is r d s.chain a.m turn.0 some turn.1 in
      let line_is = is whole in
      let to = takes_turn w v names d x y numbered found devices seed moment folder (FetchTurns r) goes s statements.Fetch (ByFetch (told_fetch r)) h (λ m n turns. (refl, fetch_does r d s.chain m n some turns)) in (
        to.0,
        record {
          reply = ByFetch (told_fetch r);
          step = to.1;
          line_is = ap (λ k. fetched_line k (told_fetch r) ∷ []) (sym a.here.name) ∙ ap (λ k. k ∷ []) (sym line_is);
          so = fetch_stage x.name r whole ∙ ap (λ k. stage_if (is_fetched k) ToSettle) (sym line_is);
        },
        to.2,
      )

  pub fetch_lacks : (r : Result ℕ FetchFault) → r ≡ Err fetch.Memory → Turned (held w.folder) x y (FetchTurns r) → GoesOn w v (λ names s t. t ≡ s)
  fetch_lacks r is goes = λ names s h. takes_none w v names d x y numbered found devices seed moment folder (FetchTurns r) goes s h (λ m n turns. subst (λ e. FetchTurns e d s.chain m n) is turns)

-- ---- settles

-- what a settle did where memory didn't run out
abbrev Settled : ℕ → Result (ℕ × Report) SettleFault → ℕ → Chain → Member → Member → Chain → Type 0
Settled moment r d c m n c' = (told : Result (ℕ × Report) says.SettleFault) × IsSettling r told × SettledBy moment d c told m n c'

settle_does : (moment : ℕ) (r : Result (ℕ × Report) SettleFault) (d : ℕ) (c : Chain) (m n : Member) (c' : Chain) → IsSettled r → SettleSteps moment r d c m n c' → Settled moment r d c m n c'
settle_does moment (Ok merged) d c m n c' some h = h
settle_does moment (Err settle.Closed) d c m n c' some h = h
settle_does moment (Err settle.NoPlan) d c m n c' some h = h
settle_does moment (Err settle.LinkFault) d c m n c' some h = h
settle_does moment (Err (settle.ByPut refusal)) d c m n c' some h = h
settle_does moment (Err settle.Stopped) d c m n c' some h = h
settle_does moment (Err settle.Memory) d c m n c' some h = absurd some

-- where it did, nothing changed
settle_none : (moment : ℕ) (r : Result (ℕ × Report) SettleFault) (d : ℕ) (c : Chain) (m n : Member) (c' : Chain) → LacksSettle r → SettleSteps moment r d c m n c' → (n ≡ m) × (c' ≡ c)
settle_none moment (Ok merged) d c m n c' lacks h = absurd lacks
settle_none moment (Err settle.Closed) d c m n c' lacks h = absurd lacks
settle_none moment (Err settle.NoPlan) d c m n c' lacks h = absurd lacks
settle_none moment (Err settle.LinkFault) d c m n c' lacks h = absurd lacks
settle_none moment (Err settle.Stopped) d c m n c' lacks h = absurd lacks
settle_none moment (Err settle.Memory) d c m n c' lacks h = h
settle_none moment (Err (settle.ByPut why.Memory)) d c m n c' lacks h = absurd h.1.1
settle_none moment (Err (settle.ByPut why.BadRevision)) d c m n c' lacks h = absurd lacks
settle_none moment (Err (settle.ByPut why.NotWriter)) d c m n c' lacks h = absurd lacks
settle_none moment (Err (settle.ByPut why.BadSignature)) d c m n c' lacks h = absurd lacks
settle_none moment (Err (settle.ByPut (why.Stale len head))) d c m n c' lacks h = absurd lacks
settle_none moment (Err (settle.ByPut (why.SeqGap expected))) d c m n c' lacks h = absurd lacks
settle_none moment (Err (settle.ByPut why.BadFit)) d c m n c' lacks h = absurd lacks
settle_none moment (Err (settle.ByPut why.ChainEnd)) d c m n c' lacks h = absurd lacks
settle_none moment (Err (settle.ByPut (why.Collision id))) d c m n c' lacks h = absurd lacks

-- the chain stays or is followed by the merge
settle_grew : (d : ℕ) (c : Chain) (p : Part) (by : Merger) (answer : Result (ℕ × Report) says.SettleFault) (c' : Chain) (q : Part) → SettleStep d by c p answer c' q → Grew c c'
settle_grew d c p by (Ok merged) c' q step = (_, step.put.3)
settle_grew d c p by (Err says.SettleFault.Closed) c' q step = ([], step.0 ∙ sym (append_none c))
settle_grew d c p by (Err says.NoPlan) c' q step = ([], step.0 ∙ sym (append_none c))
settle_grew d c p by (Err (says.SettleFault.LinkFault None)) c' q step = ([], step.put ∙ sym (append_none c))
settle_grew d c p by (Err (says.SettleFault.LinkFault (Some lost))) c' q step = put_grew c _ lost c' step.put
settle_grew d c p by (Err (says.SettleFault.ByPut fault)) c' q step = put_grew c _ (Err fault) c' step.put
settle_grew d c p by (Err says.SettleFault.Stopped) c' q step = (_, step.put.3)

registered_kept : (f g : Held) → Grows f g → g.state.registered ≡ f.state.registered
registered_kept f g (inl e) = ap (λ (x : Held). x.state.registered) e
registered_kept f g (inr longer) = longer.registered

module _ {M D : Type 0} {disks : Ghosts D} (w v : World M D disks) (d : ℕ) (x y : Declared D _ _ disks _ _) (numbered : 1 ≤ d) (found : slice_get w.devices.items (d - 1) ≡ Some x) (devices : v.devices.items ≡ slice_set w.devices.items (d - 1) y)
    (seed : v.seed ≡ w.seed) (moment : v.moment ≡ w.moment)
    (longer : (seed : List ℕ) (names : Names) → StandsLonger seal_by_hmac sign_by_hmac sha256 seed names) (request_stays : (seed : List ℕ) (names : Names) → RequestsStay seal_by_hmac sign_by_hmac sha256 seed names) (answers_stay : (seed : List ℕ) (names : Names) → AnswersStay seal_by_hmac sign_by_hmac sha256 seed names)
    (r : Result (ℕ × Report) SettleFault) (goes : SettleTurns w.moment (held w.folder) (held v.folder) x y r) where
  module _ (names : Names) (s : State) (h : WorldStands names w s) where
    a : Stood w v names d x y numbered found devices seed moment s
    a = stood w v names d x y numbered found devices seed moment s h

    to : (n : Member) × (c' : Chain) × SettleSteps w.moment r d s.chain a.m n c' × HasChain seal_by_hmac sign_by_hmac sha256 s.seed names (held v.folder) c' × Grows (held w.folder) (held v.folder) × DeclaredStands s.seed names d (held v.folder) c' y n
    to = goes s.seed names d s.chain a.m (subst (λ k. k ≤ last_second) h.moment h.good.moment) h.good.chain a.meets (plan_few s h.good d a.m numbered a.is.found a.meets.part) h.folder a.here

    others : Grew s.chain to.1 → (i : ℕ) (z : Declared D _ _ disks _ _) (m : Member) → slice_get w.devices.items i ≡ Some z → slice_get s.members i ≡ Some m → DeclaredStands s.seed names (i + 1) (held w.folder) s.chain z m → DeclaredStands s.seed names (i + 1) (held v.folder) to.1 z m
    others grew i z m z_at m_at stands =
        let is_device : IsDevice s (i + 1) m = record { numbered = omega arith; found = ap (slice_get s.members) (let e : i + 1 - 1 ≡ i = omega arith in e) ∙ m_at } in
        declared_longer s.seed names (held w.folder) (held v.folder) s.chain to.1 grew to.4 h.folder to.3 (longer s.seed names) (request_stays s.seed names) (answers_stay s.seed names) (i + 1) z m (device_meets s (i + 1) m h.good is_device) stands

  pub settles_device : (l : Line) → ((told : Result (ℕ × Report) says.SettleFault) → IsSettling r told → l ≡ settled_line x.name told) → IsSettled r → GoesOn w v (λ names s t. Tells names d s (On d statements.Settle) l (λ reply. resolve_stage (Some reply) ≡ None) t)
  settles_device l is some = λ names s h.
      let b = a names s h in
      let went_to = to names s h in
      let n = went_to.0 in
      let c' = went_to.1 in
      let did = settle_does w.moment r d s.chain b.m n c' some went_to.2 in
      let step : SettleStep d (merger s b.m) s.chain b.m.part did.0 c' did.2.part = subst (λ (k : Merger). SettleStep d k s.chain b.m.part did.0 c' did.2.part) (λ i. record { name = b.m.name; moment = sym h.moment i; rule = sym h.rule i }) did.2.step in
      let grew = settle_grew d s.chain b.m.part (merger s b.m) did.0 c' did.2.part step in
      let t : State = record s { chain = c'; members = slice_set s.members (d - 1) n } in
      let act : ActStep s (On d statements.Settle) (BySettle did.0) t = record {
        was = b.m;
        is = n;
        chain = c';
        numbered = numbered;
        found = b.is.found;
        step = record { answer = did.0; part = did.2.part; step = step; link = did.2.link; after = did.2.after; reply_is = refl; member = did.2.member };
        state = refl;
      } in (
        t,
        record { reply = BySettle did.0; step = act; line_is = ap (λ k. settled_line k did.0 ∷ []) (sym b.here.name) ∙ ap (λ k. k ∷ []) (sym (is did.0 did.1)); so = refl },
        turned w v names d x y numbered found devices seed moment s t n c' h (act_keeps s t h.good (On d statements.Settle) (BySettle did.0) act) refl went_to.3 (registered_kept (held w.folder) (held v.folder) went_to.4) went_to.5 (others names s h grew),
      )

  pub settle_lacks : LacksSettle r → GoesOn w v (λ names s t. t ≡ s)
  settle_lacks lacks = λ names s h.
      let b = a names s h in
      let went_to = to names s h in
      let none = settle_none w.moment r d s.chain b.m went_to.0 went_to.1 lacks went_to.2 in
      let grew : Grew s.chain went_to.1 = ([], none.1 ∙ sym (append_none s.chain)) in
      let set : slice_set s.members (d - 1) went_to.0 ≡ s.members = ap (slice_set s.members (d - 1)) none.0 ∙ same_set s.members (d - 1) b.m b.is.found in (
        s,
        refl,
        turned w v names d x y numbered found devices seed moment s s went_to.0 went_to.1 h h.good (λ i. record s { chain = sym none.1 i; members = sym set i }) went_to.3 (registered_kept (held w.folder) (held v.folder) went_to.4) went_to.5 (others names s h grew),
      )

-- ---- what a settle asks for

module _ {M D : Type 0} {disks : Ghosts D} (w : World M D disks) (d : ℕ) (x : Declared D _ _ disks _ _) (numbered : 1 ≤ d) (found : slice_get w.devices.items (d - 1) ≡ Some x) (stands : IsStanding w) where
  set_same : slice_set w.devices.items (d - 1) x ≡ w.devices.items
  set_same = same_set w.devices.items (d - 1) x found

  abbrev names : Names
  names = stands.0

  abbrev s : State
  s = stands.1

  at : Stood w w names d x x numbered found (sym set_same) refl refl s
  at = stood w w names d x x numbered found (sym set_same) refl refl s stands.2

  pub number_at : x.device.number ≡ d
  number_at = sym at.here.is.number ∙ at.here.part.number

  -- the branch of the device can be merged
  pub merges_at : FewAreSplit → PlainOpsLead → (v : inner.Member) × IsView x.device v × MayMerge d v.inside
  merges_at few plain_leads = (
    at.here.view,
    at.here.is,
    λ t p inside planned.
        let session = inside_at seal_by_hmac sign_by_hmac sha256 s.seed names d (held w.folder) s.chain at.here.view at.m.part t inside at.here.part in
        let j : Journal = plain t.journal in
        let plan_is : at.m.part.plan ≡ Some p.number = session.plan ∙ ap (option_map (λ (q : Plan). q.number)) planned in
        let meets = at_session d s.chain at.m.part j at.meets.part session.at in
        let journal = at_journal d s.chain at.m.part j at.meets.part session.at.journal_is in
        let plan = meets.plan p.number plan_is in
        let goal = session.planned p planned in
        let base : p.base ≡ at.m.part.base = goal.base ∙ sym meets.base in
        record {
          meet = λ stamp device last.
              subst (λ b. Meet b p.merged t.shown stamp) (sym goal.base) (subst (λ k. Meet (tree_at s.chain j.known) k t.shown stamp) (sym goal.merged) (subst (λ u. Meet (tree_at s.chain j.known) (tree_at s.chain p.number) u stamp) (sym session.shown)
              (branches_meet s d at.m j p.number stamp stands.2.good at.is session.at plan.0 plan.2 device last)));
          few =
              let bound : length (splits p.base p.merged t.shown) ≤ 2 * length j.queue = subst (λ u. length (splits p.base p.merged u) ≤ 2 * length j.queue) (ap (fold_ops j.queue) base ∙ sym session.shown) (few j.queue p.base p.merged) in
              let most = journal.few in
              omega (arith, bound, most);
          our_leads = (subst (FitAll j.queue) (sym goal.base) journal.fit, ap (fold_ops j.queue) base ∙ sym session.shown);
          merged_leads = λ is.
              let led = plain_leads s.chain j.known p.number stands.2.good.chain plan.1 plan.2 (sym goal.plain ∙ is) in (
                subst (FitAll p.ops) (sym goal.base) (subst (λ ops. FitAll ops (tree_at s.chain j.known)) (sym goal.ops) led.0),
                (λ i. fold_ops (goal.ops i) (goal.base i)) ∙ led.1 ∙ sym goal.merged,
              );
        },
  )

-- ---- resolutions

-- the stage that comes next in a resolution
stage_next : (d : ℕ) (before : List Reply) (stage : Option Stage) → resolve_stage (last_reply before) ≡ stage → next (statements.Resolve d) before ≡ option_map (stage_act d) stage
stage_next d before stage e = ap (option_map (stage_act d)) e

resolve_one : (d : ℕ) (s t : State) (one : Reply) → ActStep s (On d statements.Fetch) one t → resolve_stage (Some one) ≡ None → Steps s (statements.Resolve d) (one ∷ []) t
resolve_one d s t one step ends = ((On d statements.Fetch, t, refl, step, refl), stage_next d (one ∷ []) None ends)

resolve_two : (d : ℕ) (s mid t : State) (one two : Reply) → ActStep s (On d statements.Fetch) one mid → resolve_stage (Some one) ≡ Some ToSettle → ActStep mid (On d statements.Settle) two t → resolve_stage (Some two) ≡ None → Steps s (statements.Resolve d) (one ∷ two ∷ []) t
resolve_two d s mid t one two first goes second ends = ((On d statements.Fetch, mid, refl, first, (On d statements.Settle, t, stage_next d (one ∷ []) (Some ToSettle) goes, second, refl)), stage_next d (one ∷ two ∷ []) None ends)

resolve_ends : (d : ℕ) (s mid t : State) (one : Reply) → ActStep s (On d statements.Fetch) one mid → t ≡ mid → Ends s (statements.Resolve d) t
resolve_ends d s mid t one first same = (one ∷ [], mid, (On d statements.Fetch, mid, refl, first, refl), inl same)

abbrev pub FetchSays : Line → Reply → Type 0
FetchSays line reply = resolve_stage (Some reply) ≡ stage_if (is_fetched line) ToSettle

abbrev pub SettleSays : Reply → Type 0
SettleSays reply = resolve_stage (Some reply) ≡ None

module _ {M D : Type 0} {disks : Ghosts D} where
  -- want of memory before the first part, or in it
  pub resolve_lacks : (w v : World M D disks) (d : ℕ) → GoesOn w v (λ names s t. t ≡ s) → GoesOn w v (λ names s t. Ends s (statements.Resolve d) t)
  resolve_lacks w v d stays = λ names s h. let to = stays names s h in (to.0, lacks_first (statements.Resolve d) s to.0 to.1, to.2)

  module _ (w u : World M D disks) (d : ℕ) (first : Line) (fetches : GoesOn w u (λ names s t. Tells names d s (On d statements.Fetch) first (FetchSays first) t)) where
    -- a refused fetch alone
    pub resolved_one : (lines : List Line) → lines ≡ first ∷ [] → is_fetched first ≡ false → GoesOn w u (λ names s t. Did names s (said.Resolve d) lines t)
    resolved_one lines lines_are none = λ names s h.
        let to = fetches names s h in
        let told = to.1 in (
          to.0,
          record {
            replies = told.reply ∷ [];
            steps = resolve_one d s to.0 told.reply told.step (told.so ∙ ap (λ b. stage_if b ToSettle) none);
            lines_are = lines_are ∙ sym (ap (λ l. l ++ []) told.line_is);
          },
          to.2,
        )

    -- want of memory in the settle
    pub resolve_lacks_settle : (v : World M D disks) → GoesOn u v (λ names s t. t ≡ s) → GoesOn w v (λ names s t. Ends s (statements.Resolve d) t)
    resolve_lacks_settle v stays = λ names s h.
        let to = fetches names s h in
        let last = stays names to.0 to.2 in
        (last.0, resolve_ends d s to.0 last.0 to.1.reply to.1.step last.1, last.2)

    pub resolved_two : (v : World M D disks) (second : Line) → is_fetched first ≡ true → GoesOn u v (λ names s t. Tells names d s (On d statements.Settle) second (λ reply. resolve_stage (Some reply) ≡ None) t)
        → (lines : List Line) → lines ≡ (first ∷ []) ++ second ∷ [] → GoesOn w v (λ names s t. Did names s (said.Resolve d) lines t)
    resolved_two v second fetched settles lines lines_are = λ names s h.
        let one = fetches names s h in
        let two = settles names one.0 one.2 in (
          two.0,
          record {
            replies = one.1.reply ∷ two.1.reply ∷ [];
            steps = resolve_two d s one.0 two.0 one.1.reply two.1.reply one.1.step (one.1.so ∙ ap (λ b. stage_if b ToSettle) fetched) two.1.step two.1.so;
            lines_are = lines_are ∙ sym (λ i. one.1.line_is i ++ (two.1.line_is i ++ []));
          },
          two.2,
        )
