-- Each part of a statement has an answer in every state that a run comes to.
use Rattle.std.proofs.Common.{◌≡◌, ◌≢◌, ◌⊎◌, ℕ, zero, suc, ◌+◌, ◌-◌, ◌^◌, ◌≤◌, ◌<◌, Bool, true, false, List, [], ◌∷◌, ◌++◌, length, Option, Some, None, IsSome, Result, Ok, Err, inl, inr, refl, sym, ap, ◌∙◌, subst, arith}
use Rattle.std.specs.Prelude.{slice_set, Contains}
use Rattle.kb_edge.specs.declared.link.Side.{Side}
use Rattle.kb_edge.specs.declared.link.Side.TheVariants.{Request as AtRequest, Reply as AtReply}
use Rattle.kb_edge.specs.Disk.{FallsBy}
use Rattle.kb_ops.specs.declared.rows.Op.{Op}
use Rattle.kb_ops.specs.declared.requests.Planned.{Planned}
use Rattle.kb_ops.specs.declared.requests.Planned.TheVariants as planned
use Rattle.kb_ops.specs.declared.requests.Request.{Request}
use Rattle.kb_ops.specs.declared.requests.Show.{Show}
use Rattle.kb_ops.specs.declared.requests.Shown.{Shown}
use Rattle.kb_log.specs.LogList.{area_size}
use Rattle.kb_journal.specs.State.{use_of}
use Rattle.kb_keys.specs.declared.policy.Action.{Action}
use Rattle.kb_keys.specs.declared.policy.Action.TheVariants as action
use Rattle.kb_rules.specs.declared.report.Report.{Report}
use Rattle.kb_ops.specs.Trees.{Tree}
use Rattle.kb_snap.specs.Answers.{ReclaimFault, PastFault, PutFault, RekeyFault}
use Rattle.kb_snap.specs.PastViews.{PastStep, ReclaimStep}
use Rattle.kb_snap.specs.Chains.{Rekeyed, Chain, most_revisions, tree_at}
use Rattle.kb_snap.specs.Members.{roles_of, is_allowed, generation_of, FitsAction, IsStranger}
use Rattle.kb_keys.specs.Members.{is_writer}
use Rattle.kb_device.specs.Answers.{Called, CallFault, LookFault, TellFault, PickFault, Noted, NoteFault, PullFault, FetchFault, SettleFault, OpenFault, BackupFault, RestoreFault, Status}
use Rattle.kb_device.specs.Answers as answers
use Rattle.kb_snap.specs.Answers as folder_says
use Rattle.kb_snap.specs.Puts.{Ask, PutStep, LostPut}
use Rattle.kb_device.specs.Journals.{Journal, last_seq, resumed, returned}
use Rattle.kb_device.specs.Parts.{Merger, Flight, Part, IsOpenAt, plan_at, shown_at, status_of, CallStep, LookStep, TellStep, PickStep, NoteStep, PullStep, FetchStep, SettleStep, OpenStep, BackupStep, RestoreStep, HasShelved, last_acknowledged, merge_ask, report_at, flight_of, ask_of, closed, armed, powered}
use Rattle.kb_device.specs.Meets.{PartMeets, PutMeets}
use Rattle.kb_world.specs.Statements.{Act, SetSeed, Declare, DoFound, DoRekey, SetMoment, SetRule, See, ListChain, AuditChain, On, Reply, Silent, Off, ByRekey, ByCall, ByLook, ByStatus, ByPick, ByLand, ByNote, ByPull, ByFetch, BySettle, ByOpen, ByBackup, ByRestore, ByPast, ByReclaim, Lists, Audited}
use Rattle.kb_device.specs.Links.{LinkAfter, lost_side}
use Rattle.kb_world.specs.Machine.{merger, IsBatch, IsDiskSize, Member, went, State, Turns, Does, Picking, cut_off, Landing, Noting, Settling, landed, IsNotAsked, IsNotAnswered, NoteCause, ActStep}
use Rattle.kb_device.specs.Waits.{Waiting, Nothing, Asked, Answered, WaitingMeets}
use Rattle.kb_snap.specs.Rekeys.{RekeyStep}
use Rattle.kb_world.specs.Statements as statements
use Rattle.kb_world.specs.Good.{MemberMeets, IsGood}
use Rattle.kb_world.specs.RunLaws.{IsDevice, IsChange, IsAsked, hides_apart, IsPlain, PartsAnswer}
use Rattle.kb_device.proofs.PartSteps.{at_journal}
use Rattle.kb_world.proofs.GoodStates.{device_meets}
use Rattle.kb_snap.proofs.Lists.{get_there}
use Rattle.kb_world.proofs.Roles.{last_writer}

-- ---- cases

bool_cases : (b : Bool) → (b ≡ true) ⊎ (b ≡ false)
bool_cases true = inl refl
bool_cases false = inr refl

le_cases : (a b : ℕ) → (a ≤ b) ⊎ (b < a)
le_cases zero b = inl (omega arith)
le_cases (suc a) zero = inr (omega arith)
le_cases (suc a) (suc b) = elim (le_cases a b) [ inl le ↦ inl (omega arith) | inr lt ↦ inr (omega arith) ]

same_cases : (a b : ℕ) → (a ≡ b) ⊎ (a ≢ b)
same_cases zero zero = inl refl
same_cases zero (suc b) = inr (λ e. absurd (omega (arith, e)))
same_cases (suc a) zero = inr (λ e. absurd (omega (arith, e)))
same_cases (suc a) (suc b) = elim (same_cases a b) [ inl e ↦ inl (ap suc e) | inr ne ↦ inr (λ e. ne (omega (arith, e))) ]

option_cases : {A : Type 0} (o : Option A) → ((x : A) × (o ≡ Some x)) ⊎ (o ≡ None)
option_cases (Some x) = inl (x, refl)
option_cases None = inr refl

list_cases : {A : Type 0} (xs : List A) → (0 < length xs) ⊎ (xs ≡ [])
list_cases [] = inr refl
list_cases (x ∷ xs) = inl (omega arith)

result_cases : {A E : Type 0} (r : Result A E) → ((x : A) × (r ≡ Ok x)) ⊎ ((e : E) × (r ≡ Err e))
result_cases (Ok x) = inl (x, refl)
result_cases (Err e) = inr (e, refl)

falls_none : (k : ℕ) (left : Option ℕ) → FallsBy k left left
falls_none k None = refl
falls_none k (Some n) = ((omega arith), (omega arith))

some_there : {A : Type 0} (o : Option A) (x : A) → o ≡ Some x → IsSome o
some_there o x e = subst IsSome (sym e) refl

-- ---- puts

-- it isn't a collision
abbrev pub PutApart : Result ℕ PutFault → Type 0
PutApart answer = IsPlain (ByLand (landed answer))

put_answer : (c : Chain) (ask : Ask) → (answer : Result ℕ PutFault) × (c' : Chain) × PutStep c ask answer c' × PutApart answer
put_answer c ask = elim (bool_cases (is_allowed c ask.revision.writer)) [
  | inr refused ↦ (Err folder_says.PutFault.NotWriter, c, (refused, refl), refl)
  | inl allowed ↦ elim (same_cases ask.number (length c + 1)) [
    | inr late ↦ (Err (folder_says.PutFault.Stale (length c)), c, (allowed, late, refl, refl), refl)
    | inl next ↦ elim (le_cases most_revisions (length c)) [
      | inl end ↦ (Err folder_says.PutFault.ChainEnd, c, (record { allowed = allowed; number = next }, end, refl), refl)
      | inr room ↦ (Ok ask.number, c ++ ask.revision ∷ [], (record { allowed = allowed; number = next }, room, refl, refl), refl)
    ]
  ]
]

hides : (answer : Result ℕ PutFault) → PutApart answer → hides_apart (Some answer) ≡ true
hides (Ok n) apart = refl
hides (Err fault) apart = apart

-- ---- devices

module _ (d : ℕ) (c : Chain) (name : List ℕ) (p : Part) (h : PartMeets d c p) where
  -- the session, or none
  session_cases : ((j : Journal) × IsOpenAt p j) ⊎ (p.is_open ≡ false)
  session_cases = elim (bool_cases p.is_open) [
    | inl is ↦ (let s = h.session is in inl (s.0, record { session = is; journal_is = s.1.journal_is }))
    | inr not_open ↦ inr not_open
  ]

  stranger_cases : (IsStranger c d → ⊥) ⊎ IsStranger c d
  stranger_cases = elim (option_cases (roles_of c d)) [
    | inl role ↦ inl (λ none. (let no : None ≡ Some role.0 = sym none ∙ role.1 in cc))
    | inr none ↦ inr none
  ]

  call_answer : (request : Request) (moment : ℕ) → (answer : Result Called CallFault) × (q : Part) × CallStep d p request moment answer q × IsPlain (ByCall answer)
  call_answer request moment = elim session_cases [
    | inr shut ↦ (Err answers.CallFault.Closed, p, (refl, shut), refl)
    | inl at ↦ elim (bool_cases (is_writer p.role)) [
      | inr reads ↦ (Err answers.CallFault.ReadOnly, p, (refl, record { session = at.1.session; reads = reads }), refl)
      | inl writes ↦ elim (result_cases (plan_at d p at.0 request moment)) [
        | inr fault ↦ (Err (answers.CallFault.ByPlan fault.0), p, (refl, record { journal = at.0; at = at.1; writes = writes; plan = fault.1 }), refl)
        | inl planned ↦ by_plan at.0 at.1 writes planned.0 planned.1
      ]
    ]
  ]
    where
      by_op : (j : Journal) → IsOpenAt p j → is_writer p.role ≡ true → (op : Op) → plan_at d p j request moment ≡ Ok (planned.Made op) → (answer : Result Called CallFault) × (q : Part) × CallStep d p request moment answer q × IsPlain (ByCall answer)
      by_op j at writes op plan =
          let m = at_journal d c p j h at.journal_is in
          elim (le_cases (2 ^ 32) (last_seq j + 1)) [
            | inl spent ↦ (Err (answers.CallFault.ByQueue answers.Spent), p, (refl, record { journal = j; op = op; makes = record { at = at; writes = writes; plan = plan }; refuses = (let s = m.small in omega arith) }), refl)
            | inr seq ↦ elim (le_cases 4096 (length j.queue)) [
              | inl full ↦ (Err (answers.CallFault.ByQueue answers.QueueFull), p, (refl, record { journal = j; op = op; makes = record { at = at; writes = writes; plan = plan }; refuses = (seq, full) }), refl)
              | inr few ↦ elim (le_cases (use_of (j.queue ++ op ∷ [])) p.area) [
                | inr over ↦ (Err (answers.CallFault.ByQueue (answers.Full (use_of (j.queue ++ op ∷ [])) p.area)), p, (refl, record { journal = j; op = op; makes = record { at = at; writes = writes; plan = plan }; refuses = (seq, few, refl, refl, over) }), refl)
                | inl fits ↦ (Ok (answers.Done (last_seq j + 1)), _, record { journal = j; op = op; makes = record { at = at; writes = writes; plan = plan }; takes = record { seq = seq; few = few; fits = fits }; seq_is = refl; left = p.left; falls = falls_none 4 p.left; part = refl }, refl)
              ]
            ]
          ]

      by_plan : (j : Journal) → IsOpenAt p j → is_writer p.role ≡ true → (planned : Planned) → plan_at d p j request moment ≡ Ok planned → (answer : Result Called CallFault) × (q : Part) × CallStep d p request moment answer q × IsPlain (ByCall answer)
      by_plan j at writes planned.Same plan = (Ok answers.Same, p, (refl, record { journal = j; at = at; writes = writes; plan = plan }), refl)
      by_plan j at writes (planned.Made op) plan = by_op j at writes op plan

  look_answer : (show : Show) → (answer : Result Shown LookFault) × LookStep p show answer
  look_answer show = elim session_cases [
    | inr shut ↦ (Err answers.LookFault.Closed, shut)
    | inl at ↦ elim (result_cases (shown_at p at.0 show)) [
      | inl shown ↦ (Ok shown.0, (at.0, at.1, shown.1))
      | inr fault ↦ (Err (answers.LookFault.ByShow fault.0), (at.0, at.1, fault.1))
    ]
  ]

  tell_answer : (answer : Result Status TellFault) × TellStep p answer
  tell_answer = elim session_cases [
    | inr shut ↦ (Err answers.TellFault.Closed, shut)
    | inl at ↦ (Ok (status_of p.flight at.0), (at.0, at.1, refl))
  ]

  pick_answer : (most : ℕ) → (answer : Result (Flight × Ask) PickFault) × (q : Part) × PickStep most d name p answer q
  pick_answer most = elim session_cases [
    | inr shut ↦ (Err answers.PickFault.Closed, p, (refl, shut))
    | inl at ↦ elim (option_cases p.flight) [
      | inl flight ↦ (Err answers.PickFault.InFlight, p, (refl, at.1.session, some_there p.flight flight.0 flight.1))
      | inr free ↦ elim (bool_cases at.0.mark) [
        | inl marked ↦ (Err answers.PickFault.Branched, p, (refl, free, (at.0, at.1, marked)))
        | inr clear ↦ elim (list_cases at.0.queue) [
          | inr idle ↦ (Err answers.PickFault.Idle, p, (refl, free, (at.0, at.1, clear, idle)))
          | inl some ↦ (Ok (flight_of most at.0, ask_of d name at.0 (flight_of most at.0)), _, record { journal = at.0; at = at.1; free = free; clear = clear; some = some; flight_is = refl; ask_is = refl; part = refl })
        ]
      ]
    ]
  ]

  note_answer : (put : Result ℕ PutFault) → PutMeets d c p put → (answer : Result Noted NoteFault) × (q : Part) × NoteStep p put answer q × IsPlain (ByNote answer)
  note_answer (Ok n) w = (Ok (answers.Landed n), _, (n, refl, record { journal = w.journal; flight = w.flight; flies = record { at = w.at; flight_is = w.flight_is }; number_is = refl; left = p.left; falls = falls_none 4 p.left; part = refl }), refl)
  note_answer (Err (folder_says.PutFault.Stale len)) w = (Ok (answers.Noted.Branched w.journal.known), _, (len, refl, record { journal = w.journal; flight = w.flight; flies = record { at = w.at; flight_is = w.flight_is }; at_is = refl; left = p.left; falls = falls_none 4 p.left; part = refl }), refl)
  note_answer (Err folder_says.PutFault.NotWriter) w = (Ok answers.Kept, _, (tt, record { session = w.at.session; flies = some_there p.flight w.flight w.flight_is; part = refl }), refl)
  note_answer (Err folder_says.PutFault.ChainEnd) w = (Ok answers.Kept, _, (tt, record { session = w.at.session; flies = some_there p.flight w.flight w.flight_is; part = refl }), refl)
  note_answer (Err (folder_says.PutFault.Collision id)) w = (Ok answers.Kept, _, (tt, record { session = w.at.session; flies = some_there p.flight w.flight w.flight_is; part = refl }), refl)

  pull_answer : (answer : Result ℕ PullFault) × (q : Part) × PullStep d c p answer q × IsPlain (ByPull answer)
  pull_answer = elim session_cases [
    | inr shut ↦ (Err answers.PullFault.Closed, p, (refl, shut), refl)
    | inl at ↦ elim stranger_cases [
      | inr stranger ↦ (Err answers.PullFault.NotMember, p, (refl, at.1.session, stranger), refl)
      | inl member ↦ elim (list_cases at.0.queue) [
        | inl some ↦ (Err answers.PullFault.Unflushed, p, (refl, member, (at.0, at.1, some)), refl)
        | inr flushed ↦ (Ok (length c), _, record { journal = at.0; at = at.1; member = member; flushed = flushed; number = refl; left = p.left; falls = falls_none 4 p.left; part = refl }, refl)
      ]
    ]
  ]

  fetch_answer : (answer : Result ℕ FetchFault) × (q : Part) × FetchStep d c p answer q
  fetch_answer = elim session_cases [
    | inr shut ↦ (Err answers.FetchFault.Closed, p, (refl, shut))
    | inl at ↦ elim stranger_cases [
      | inr stranger ↦ (Err answers.FetchFault.NotMember, p, (refl, at.1.session, stranger))
      | inl member ↦ elim (bool_cases at.0.mark) [
        | inr clear ↦ (Err answers.FetchFault.NoBranch, p, (refl, member, (at.0, at.1, clear)))
        | inl marked ↦ (Ok (length c), _, record { journal = at.0; at = at.1; member = member; marked = marked; number = refl; part = refl })
      ]
    ]
  ]

  -- a settle over a link that is armed so
  record Settled (by : Merger) (was : Option Side) : Type 0 where
    answer : Result (ℕ × Report) SettleFault
    chain : Chain
    to : Part
    link : Option Side
    step : SettleStep d by c p answer chain to
    after : LinkAfter was answer link
    apart : IsPlain (BySettle answer)

  settle_answer : (by : Merger) (was : Option Side) → Settled by was
  settle_answer by was = elim session_cases [
    | inr shut ↦ record { answer = Err answers.SettleFault.Closed; chain = c; to = p; link = was; step = (refl, refl, shut); after = refl; apart = refl }
    | inl at ↦ elim (option_cases p.plan) [
      | inr none ↦ record { answer = Err answers.SettleFault.NoPlan; chain = c; to = p; link = was; step = (refl, refl, at.1.session, none); after = refl; apart = refl }
      | inl plan ↦ (let put = put_answer c (merge_ask d by at.0 plan.0) in by_link was at.0 at.1 plan.0 plan.1 put.0 put.1 put.2 put.3)
    ]
  ]
    where
      by_link : (was : Option Side) (j : Journal) → IsOpenAt p j → (plan : ℕ) → p.plan ≡ Some plan → (put : Result ℕ PutFault) (c' : Chain) → PutStep c (merge_ask d by j plan) put c' → PutApart put → Settled by was
      by_link (Some AtRequest) j at plan plan_is put c' step apart = record {
        answer = Err (answers.SettleFault.LinkFault None);
        chain = c;
        to = closed p;
        link = None;
        step = record { journal = j; plan = plan; planned = record { at = at; plan_is = plan_is }; put = refl; part = refl };
        after = (refl, refl);
        apart = refl;
      }
      by_link (Some AtReply) j at plan plan_is put c' step apart = record {
        answer = Err (answers.SettleFault.LinkFault (Some put));
        chain = c';
        to = closed p;
        link = None;
        step = record { journal = j; plan = plan; planned = record { at = at; plan_is = plan_is }; put = step; part = refl };
        after = (refl, refl);
        apart = hides put apart;
      }
      by_link None j at plan plan_is (Ok n) c' step apart = record {
        answer = Ok (n, report_at d by p c j plan);
        chain = c';
        to = _;
        link = None;
        step = record { journal = j; plan = plan; planned = record { at = at; plan_is = plan_is }; put = step; report = refl; left = p.left; falls = falls_none 4 p.left; part = refl };
        after = (refl, refl);
        apart = refl;
      }
      by_link None j at plan plan_is (Err fault) c' step apart = record {
        answer = Err (answers.SettleFault.ByPut fault);
        chain = c';
        to = _;
        link = None;
        step = record { journal = j; plan = plan; planned = record { at = at; plan_is = plan_is }; put = step; part = refl };
        after = (refl, refl);
        apart = apart;
      }

  open_answer : (answer : Result Status OpenFault) × (q : Part) × OpenStep d c p answer q × IsPlain (ByOpen answer)
  open_answer = elim (bool_cases p.is_open) [
    | inl is ↦ (Err answers.AlreadyOpen, p, (refl, is), refl)
    | inr shut ↦ elim stranger_cases [
      | inr stranger ↦ (Err answers.OpenFault.NotMember, p, (refl, shut, stranger), refl)
      | inl member ↦ (let found = first_of p.may h.some in (Ok (status_of None (resumed d c found.0)), _, record { closed = shut; member = member; found = found.0; may = found.1; status_is = refl; left = p.left; falls = falls_none 9 p.left; part = refl }, refl))
    ]
  ]
    where
      first_of : (may : List Journal) → 0 < length may → (j : Journal) × Contains may j
      first_of [] some = absurd (omega arith)
      first_of (j ∷ may) some = (j, (0, (omega arith), refl))

  backup_answer : (answer : Result (ℕ × ℕ) BackupFault) × (q : Part) × BackupStep d c p answer q
  backup_answer = elim session_cases [
    | inr shut ↦ (Err answers.BackupFault.Closed, p, (refl, shut))
    | inl at ↦ elim stranger_cases [
      | inr stranger ↦ (Err answers.BackupFault.NotMember, p, (refl, at.1.session, stranger))
      | inl member ↦ (Ok (length at.0.queue, last_seq at.0), _, record { journal = at.0; at = at.1; member = member; told_is = refl; part = refl })
    ]
  ]

  restore_answer : (size : ℕ) → (answer : Result (ℕ × ℕ) RestoreFault) × (q : Part) × RestoreStep d c size p answer q
  restore_answer size = elim (bool_cases p.is_open) [
    | inl is ↦ (Err answers.RestoreFault.AlreadyOpen, p, (refl, is))
    | inr shut ↦ elim stranger_cases [
      | inr stranger ↦ (Err answers.RestoreFault.NotMember, p, (refl, shut, stranger))
      | inl member ↦ elim (option_cases p.shelved) [
        | inr none ↦ (Err answers.NoBackup, p, (refl, shut, member, none))
        | inl kept ↦ elim (le_cases (last_acknowledged p) (last_seq kept.0)) [
          | inr less ↦ (Err (answers.Behind (last_seq kept.0) (last_acknowledged p)), p, (refl, record { closed = shut; member = member; kept = kept.0; shelved = kept.1; kept_is = refl; last_is = refl; less = less }))
          | inl whole ↦ (
              let has : HasShelved d c p kept.0 = record { closed = shut; member = member; shelved = kept.1; whole = whole } in
              elim (le_cases (use_of (returned d c kept.0).queue) (area_size size)) [
                | inl fits ↦ (Ok (length (returned d c kept.0).queue, last_seq (returned d c kept.0)), _, record { kept = kept.0; has = has; fits = fits; told_is = refl; part = refl })
                | inr over ↦ (Err (answers.RestoreFault.Full (use_of (returned d c kept.0).queue) (area_size size)), p, (refl, record { kept = kept.0; has = has; need_is = refl; room_is = refl; over = over }))
              ])
        ]
      ]
    ]
  ]

-- ---- the past, and reclamations

past_answer : (c : Chain) (d r : ℕ) → (answer : Result Tree PastFault) × PastStep c d r answer
past_answer c d r = elim (option_cases (roles_of c d)) [
  | inr none ↦ (Err folder_says.PastFault.NotMember, none)
  | inl role ↦ (
      let member : IsStranger c d → ⊥ = λ none. (let no : None ≡ Some role.0 = sym none ∙ role.1 in cc) in
      elim (le_cases r (length c)) [ inl there ↦ (Ok (tree_at c r), (member, there, refl)) | inr beyond ↦ (Err (folder_says.NoRevision (length c)), (member, beyond, refl)) ])
]

reclaim_answer : (c : Chain) (by from : ℕ) → (answer : Result (Unit {0}) ReclaimFault) × ReclaimStep c by from answer
reclaim_answer c by from = elim (bool_cases (is_writer (roles_of c by))) [
  | inr reads ↦ (Err folder_says.ReclaimFault.NotWriter, reads)
  | inl writes ↦ elim (le_cases from (length c)) [ inl there ↦ (Ok tt, (writes, there)) | inr beyond ↦ (Err (folder_says.ReclaimFault.Past (length c)), (writes, beyond, refl)) ]
]

-- ---- parts of statements

module _ (s : State) (good : IsGood s) where
  -- a device of the state
  meets : (d : ℕ) (m : Member) → IsDevice s d m → MemberMeets d s.chain m
  meets d m h = device_meets s d m good h

  -- a device goes on
  goes : (d : ℕ) (m is : Member) (c : Chain) (step : Member → Member → Chain → Type 0) → IsDevice s d m → step m is c → (t : State) × Turns d step s t
  goes d m is c step h done = (record s { chain = c; members = slice_set s.members (d - 1) is }, record { was = m; is = is; chain = c; numbered = h.numbered; found = h.found; step = done; state = refl })

  picks : (d : ℕ) (m : Member) → IsDevice s d m → (reply : Reply) × (t : State) × ActStep s (On d statements.Pick) reply t × IsPlain reply
  picks d m h = by_answer a.0 a.1 a.2 where
    a : (answer : Result (Flight × Ask) PickFault) × (q : Part) × PickStep m.batch d m.name m.part answer q
    a = pick_answer d s.chain m.name m.part (meets d m h).part m.batch

    by_answer : (answer : Result (Flight × Ask) PickFault) (q : Part) → PickStep m.batch d m.name m.part answer q → (reply : Reply) × (t : State) × ActStep s (On d statements.Pick) reply t × IsPlain reply
    by_answer (Ok (flight, ask)) q step =
        let reply = ByPick (Ok (flight.first, flight.first + flight.count - 1, flight.number)) in
        let to = goes d m (record m { part = q; waiting = Asked ask }) s.chain (Picking d s reply) h (refl, inl (record { flight = flight; ask = ask; part = q; step = step; reply_is = refl; member = refl })) in
        (reply, to.0, to.1, refl)
    by_answer (Err fault) q step =
        let reply = ByPick (Err fault) in
        let to = goes d m (went m q) s.chain (Picking d s reply) h (refl, inr (record { answer = fault; part = q; step = step; reply_is = refl; member = refl })) in
        (reply, to.0, to.1, refl)

  lands : (d : ℕ) (m : Member) → IsDevice s d m → (w : Waiting) → m.waiting ≡ w → (reply : Reply) × (t : State) × ActStep s (On d statements.Land) reply t × IsPlain reply
  lands d m h (Asked ask) e = by_link m.link refl where
    put : (answer : Result ℕ PutFault) × (c' : Chain) × PutStep s.chain ask answer c' × PutApart answer
    put = put_answer s.chain ask

    cuts : (lost : Option (Result ℕ PutFault)) (c' : Chain) → m.link ≡ Some (lost_side lost) → LostPut s.chain ask lost c' → hides_apart lost ≡ true → (reply : Reply) × (t : State) × ActStep s (On d statements.Land) reply t × IsPlain reply
    cuts lost c' side step apart =
        let reply = ByLand (Err (statements.LinkFault lost)) in
        let to = goes d m (cut_off m) c' (Landing d s reply) h (inl (inr (record { ask = ask; waits = e; lost = lost; side = side; step = step; reply_is = refl; member = refl }))) in
        (reply, to.0, to.1, apart)

    by_link : (link : Option Side) → m.link ≡ link → (reply : Reply) × (t : State) × ActStep s (On d statements.Land) reply t × IsPlain reply
    by_link (Some AtRequest) side = cuts None s.chain side refl refl
    by_link (Some AtReply) side = cuts (Some put.0) put.1 side put.2 (hides put.0 put.3)
    by_link None whole =
        let reply = ByLand (landed put.0) in
        let to = goes d m (record m { waiting = Answered put.0 }) put.1 (Landing d s reply) h (inl (inl (record { ask = ask; waits = e; carried = whole; answer = put.0; step = put.2; reply_is = refl; member = refl }))) in
        (reply, to.0, to.1, put.3)
  lands d m h Nothing e =
      let reply = ByLand (Err statements.NoFlight) in
      let to = goes d m m s.chain (Landing d s reply) h (inr (refl, record { none = subst IsNotAsked (sym e) tt; reply_is = refl; member = refl })) in
      (reply, to.0, to.1, refl)
  lands d m h (Answered answer) e =
      let reply = ByLand (Err statements.NoFlight) in
      let to = goes d m m s.chain (Landing d s reply) h (inr (refl, record { none = subst IsNotAsked (sym e) tt; reply_is = refl; member = refl })) in
      (reply, to.0, to.1, refl)

  no_stop : (m : Member) (fault : NoteFault) → NoteCause m fault → IsPlain (ByNote (Err fault))
  no_stop m answers.NoteFault.Closed cause = refl
  no_stop m answers.NoteFault.NoFlight cause = refl
  no_stop m answers.NoteFault.Stopped cause = absurd cause

  no_note : (d : ℕ) (m : Member) → IsDevice s d m → (fault : NoteFault) → NoteCause m fault → (reply : Reply) × (t : State) × ActStep s (On d statements.Note) reply t × IsPlain reply
  no_note d m h fault cause =
      let reply = ByNote (Err fault) in
      let to = goes d m m s.chain (Noting d s reply) h (refl, inr (record { fault = fault; cause = cause; reply_is = refl; member = refl })) in
      (reply, to.0, to.1, no_stop m fault cause)

  notes : (d : ℕ) (m : Member) → IsDevice s d m → m.part.is_open ≡ true → (w : Waiting) → m.waiting ≡ w → (reply : Reply) × (t : State) × ActStep s (On d statements.Note) reply t × IsPlain reply
  notes d m h is Nothing e = no_note d m h answers.NoteFault.NoFlight (is, subst IsNotAnswered (sym e) tt)
  notes d m h is (Asked ask) e = no_note d m h answers.NoteFault.NoFlight (is, subst IsNotAnswered (sym e) tt)
  notes d m h is (Answered put) e =
      let a = note_answer d s.chain m.name m.part (meets d m h).part put (subst (WaitingMeets d s.chain m.name m.part) e (meets d m h).waiting) in
      let reply = ByNote a.0 in
      let to = goes d m (record m { part = a.1; waiting = Nothing }) s.chain (Noting d s reply) h (refl, inl (record { session = is; put = put; waits = e; answer = a.0; part = a.1; step = a.2; reply_is = refl; member = refl })) in
      (reply, to.0, to.1, a.3)

  -- a change of the members
  rekeys : (by who : ℕ) (m w : Member) (a : Action) → IsDevice s by m → IsDevice s who w → IsChange a → (answer : Result ℕ RekeyFault) × (c' : Chain)
      × RekeyStep s.chain (record { writer = by; name = m.name; moment = s.moment; deed = Rekeyed a who }) by a who answer c'
  rekeys by who m w a hm hw is = elim (bool_cases (is_writer (roles_of s.chain by))) [
    | inr reads ↦ (Err folder_says.RekeyFault.NotWriter, s.chain, (reads, refl))
    | inl writes ↦ by_action a is writes
  ]
    where
      grown : (a : Action) → is_writer (roles_of s.chain by) ≡ true → FitsAction s.chain a who
          → (((answer : Result ℕ RekeyFault) × (c' : Chain) × RekeyStep s.chain (record { writer = by; name = m.name; moment = s.moment; deed = Rekeyed a who }) by a who answer c') ⊎ (most_revisions ≤ length s.chain))
      grown a writes fits = elim (le_cases most_revisions (length s.chain)) [
        | inl end ↦ inr end
        | inr room ↦ inl (Ok (length s.chain + 1), s.chain ++ record { writer = by; name = m.name; moment = s.moment; deed = Rekeyed a who } ∷ [], (writes, fits, room, refl, refl))
      ]

      by_action : (a : Action) → IsChange a → is_writer (roles_of s.chain by) ≡ true
          → (answer : Result ℕ RekeyFault) × (c' : Chain) × RekeyStep s.chain (record { writer = by; name = m.name; moment = s.moment; deed = Rekeyed a who }) by a who answer c'
      by_action action.Found is writes = absurd is
      by_action action.GrantWriter is writes = elim (option_cases (roles_of s.chain who)) [
        | inl role ↦ (Err folder_says.Known, s.chain, ((writes, some_there (roles_of s.chain who) role.0 role.1), refl))
        | inr none ↦ elim (grown action.GrantWriter writes none) [ inl done ↦ done | inr end ↦ (Err folder_says.RekeyFault.ChainEnd, s.chain, ((writes, none, end), refl)) ]
      ]
      by_action action.GrantReader is writes = elim (option_cases (roles_of s.chain who)) [
        | inl role ↦ (Err folder_says.Known, s.chain, ((writes, some_there (roles_of s.chain who) role.0 role.1), refl))
        | inr none ↦ elim (grown action.GrantReader writes none) [ inl done ↦ done | inr end ↦ (Err folder_says.RekeyFault.ChainEnd, s.chain, ((writes, none, end), refl)) ]
      ]
      by_action action.Revoke is writes = elim (option_cases (roles_of s.chain who)) [
        | inr none ↦ (Err folder_says.RekeyFault.NotMember, s.chain, ((writes, none), refl))
        | inl role ↦ elim (last_writer s who good) [
          | inl last ↦ (Err folder_says.LastWriter, s.chain, ((writes, last), refl))
          | inr others ↦ elim (le_cases 64 (generation_of s.chain)) [
            | inl end ↦ (Err folder_says.GenEnd, s.chain, ((writes, some_there (roles_of s.chain who) role.0 role.1, others, end), refl))
            | inr key ↦ (let fits : FitsAction s.chain action.Revoke who = (some_there (roles_of s.chain who) role.0 role.1, others, key) in
                elim (grown action.Revoke writes fits) [ inl done ↦ done | inr end ↦ (Err folder_says.RekeyFault.ChainEnd, s.chain, ((writes, fits, end), refl)) ])
          ]
        ]
      ]

  within : (d : ℕ) (m : Member) → IsDevice s d m → (1 ≤ d) × (d ≤ length s.members)
  within d m h = (h.numbered, (let lt = get_there s.members (d - 1) m h.found in omega arith))

  pub part_answers : (act : Act) → IsAsked s act → (reply : Reply) × (t : State) × ActStep s act reply t × IsPlain reply
  part_answers (SetSeed seed) ask = (Silent, _, (refl, refl), refl)
  part_answers (Declare name size) ask = (Silent, _, (refl, ask.0, ask.1, ask.2, refl), refl)
  part_answers (SetMoment moment) ask = (Silent, _, (refl, ask, refl), refl)
  part_answers (SetRule rule) ask = (Silent, _, (refl, ask, refl), refl)
  part_answers (DoFound d) ask = (ByRekey (Ok 1), _, (refl, record { member = ask.0.0; numbered = ask.0.1.numbered; found = ask.0.1.found; none = ask.1; state = refl }), refl)
  part_answers (DoRekey by a who) ask =
      let r = rekeys by who ask.0.0 ask.1.0 a ask.0.1 ask.1.1 ask.2 in
      (ByRekey r.0, record s { chain = r.1 }, record { member = ask.0.0; numbered = ask.0.1.numbered; found = ask.0.1.found; declared = within who ask.1.0 ask.1.1; answer = r.0; chain = r.1; step = r.2; reply_is = refl; state = refl }, refl)
  part_answers (On d (statements.Call request)) ask =
      let m = ask.0 in
      let a = call_answer d s.chain m.name m.part (meets d m ask.1).part request s.moment in
      let to = goes d m (went m a.1) s.chain (λ was is c. (c ≡ s.chain) × Does (CallStep d was.part request s.moment) ByCall (ByCall a.0) was is) ask.1 (refl, record { answer = a.0; part = a.1; step = a.2; reply_is = refl; member = refl }) in
      (ByCall a.0, to.0, to.1, a.3)
  part_answers (See d (statements.Look show)) ask =
      let a = look_answer d s.chain ask.0.name ask.0.part (meets d ask.0 ask.1).part show in
      (ByLook a.0, s, record { member = ask.0; numbered = ask.1.numbered; found = ask.1.found; shows = (a.0, a.1, refl); state = refl }, refl)
  part_answers (See d statements.Tell) ask =
      let a = tell_answer d s.chain ask.0.name ask.0.part (meets d ask.0 ask.1).part in
      (ByStatus a.0, s, record { member = ask.0; numbered = ask.1.numbered; found = ask.1.found; shows = (a.0, a.1, refl); state = refl }, refl)
  part_answers (See d (statements.Past r)) ask =
      let a = past_answer s.chain d r in
      (ByPast a.0, s, record { member = ask.0; numbered = ask.1.numbered; found = ask.1.found; shows = (a.0, a.1, refl); state = refl }, refl)
  part_answers (See d (statements.Reclaim from)) ask =
      let a = reclaim_answer s.chain d from in
      (ByReclaim a.0, s, record { member = ask.0; numbered = ask.1.numbered; found = ask.1.found; shows = (a.0, a.1, refl); state = refl }, refl)
  part_answers (On d statements.Pick) ask = picks d ask.0 ask.1
  part_answers (On d statements.Land) ask = lands d ask.0 ask.1 ask.0.waiting refl
  part_answers (On d statements.Note) ask = elim (bool_cases ask.0.part.is_open) [ inl is ↦ notes d ask.0 ask.1 is ask.0.waiting refl | inr shut ↦ no_note d ask.0 ask.1 answers.NoteFault.Closed shut ]
  part_answers (On d statements.Pull) ask =
      let m = ask.0 in
      let a = pull_answer d s.chain m.name m.part (meets d m ask.1).part in
      let to = goes d m (went m a.1) s.chain (λ was is c. (c ≡ s.chain) × Does (PullStep d s.chain was.part) ByPull (ByPull a.0) was is) ask.1 (refl, record { answer = a.0; part = a.1; step = a.2; reply_is = refl; member = refl }) in
      (ByPull a.0, to.0, to.1, a.3)
  part_answers (On d (statements.Batch most)) ask =
      let to = goes d ask.0 (record ask.0 { batch = most }) s.chain (λ was is c. (c ≡ s.chain) × (Silent ≡ Silent) × IsBatch most × (is ≡ record was { batch = most })) ask.1 (refl, refl, ask.2, refl) in
      (Silent, to.0, to.1, refl)
  part_answers (On d statements.Fetch) ask =
      let m = ask.0 in
      let a = fetch_answer d s.chain m.name m.part (meets d m ask.1).part in
      let to = goes d m (went m a.1) s.chain (λ was is c. (c ≡ s.chain) × Does (FetchStep d s.chain was.part) ByFetch (ByFetch a.0) was is) ask.1 (refl, record { answer = a.0; part = a.1; step = a.2; reply_is = refl; member = refl }) in
      (ByFetch a.0, to.0, to.1, refl)
  part_answers (On d statements.Settle) ask =
      let m = ask.0 in
      let a = settle_answer d s.chain m.name m.part (meets d m ask.1).part (merger s m) m.link in
      let to = goes d m (record (went m a.to) { link = a.link }) a.chain (Settling d s (BySettle a.answer)) ask.1 (record { answer = a.answer; part = a.to; step = a.step; link = a.link; after = a.after; reply_is = refl; member = refl }) in
      (BySettle a.answer, to.0, to.1, a.apart)
  part_answers (On d (statements.Fuse steps)) ask =
      let m = ask.0 in
      let to = goes d m (record m { part = armed steps m.part }) s.chain (λ was is c. (c ≡ s.chain) × (Silent ≡ Silent) × (is ≡ record was { part = armed steps was.part })) ask.1 (refl, refl, refl) in
      (Silent, to.0, to.1, refl)
  part_answers (On d (statements.Lose side)) ask =
      let m = ask.0 in
      let to = goes d m (record m { link = Some side }) s.chain (λ was is c. (c ≡ s.chain) × (Silent ≡ Silent) × (is ≡ record was { link = Some side })) ask.1 (refl, refl, refl) in
      (Silent, to.0, to.1, refl)
  part_answers (On d statements.Power) ask =
      let m = ask.0 in
      let to = goes d m (went m (powered m.part)) s.chain (λ was is c. (c ≡ s.chain) × (Off ≡ Off) × (is ≡ went was (powered was.part))) ask.1 (refl, refl, refl) in
      (Off, to.0, to.1, refl)
  part_answers (On d statements.Backup) ask =
      let m = ask.0 in
      let a = backup_answer d s.chain m.name m.part (meets d m ask.1).part in
      let to = goes d m (went m a.1) s.chain (λ was is c. (c ≡ s.chain) × Does (BackupStep d s.chain was.part) ByBackup (ByBackup a.0) was is) ask.1 (refl, record { answer = a.0; part = a.1; step = a.2; reply_is = refl; member = refl }) in
      (ByBackup a.0, to.0, to.1, refl)
  part_answers (On d (statements.Restore size)) ask =
      let m = ask.0 in
      let a = restore_answer d s.chain m.name m.part (meets d m ask.1).part size in
      let to = goes d m (went m a.1) s.chain (λ was is c. (c ≡ s.chain) × IsDiskSize size × Does (RestoreStep d s.chain size was.part) ByRestore (ByRestore a.0) was is) ask.1 (refl, ask.2, record { answer = a.0; part = a.1; step = a.2; reply_is = refl; member = refl }) in
      (ByRestore a.0, to.0, to.1, refl)
  part_answers (On d statements.Open) ask =
      let m = ask.0 in
      let a = open_answer d s.chain m.name m.part (meets d m ask.1).part in
      let to = goes d m (went m a.1) s.chain (λ was is c. (c ≡ s.chain) × Does (OpenStep d s.chain was.part) ByOpen (ByOpen a.0) was is) ask.1 (refl, record { answer = a.0; part = a.1; step = a.2; reply_is = refl; member = refl }) in
      (ByOpen a.0, to.0, to.1, a.3)
  part_answers ListChain ask = (Lists s.chain, s, (refl, refl), refl)
  part_answers AuditChain ask = (Audited (length s.chain), s, (refl, refl), refl)

pub parts_answer : PartsAnswer
parts_answer s act good ask = part_answers s good act ask
