-- A session whose queue is its device's, and whose ids end with its last seq.
use Rattle.std.proofs.Common.{◌≡◌, ℕ, zero, suc, ◌+◌, ◌≤◌, true, false, List, [], ◌∷◌, ◌++◌, length, drop, Option, Some, None, Result, Ok, Err, inl, inr, refl, sym, ap, subst, ◌∙◌, arith, length-append}
use Rattle.std.specs.Prelude.{nat_le}
use Rattle.std.specs.List.{AllByRecursion}
use Rattle.std.proofs.lemmas.Bool.Decides.{nat_tests}
use Rattle.std.proofs.lemmas.List.{length-drop}
use Rattle.kb_ops.specs.declared.rows.Op.{Op}
use Rattle.kb_ops.specs.Trees.{Tree, apply, fold_ops}
use Rattle.kb_keys.specs.declared.policy.Role.{Role}
use Rattle.kb_journal.specs.State.{State, HasState, last_seq, takes_device, empty}
use Rattle.kb_journal.proofs.Good.{Follows, good_empty, good_leads}
use Rattle.kb_snap.specs.Lawful.{AreOf}
use Rattle.kb_folder.specs.Puts.{Held}
use Rattle.kb_device.specs.declared.answers.NoteFault.{NoteFault}
use Rattle.kb_device.specs.declared.answers.NoteFault.TheVariants as note
use Rattle.kb_device.specs.declared.answers.Noted.{Noted}
use Rattle.kb_device.specs.declared.answers.Noted.TheVariants as noted
use Rattle.kb_device.specs.declared.answers.PickFault.{PickFault}
use Rattle.kb_device.specs.declared.answers.PickFault.TheVariants as pick
use Rattle.kb_device.specs.declared.answers.Picked.{Picked}
use Rattle.kb_device.specs.declared.answers.PullFault.{PullFault}
use Rattle.kb_device.specs.declared.answers.PullFault.TheVariants as pull
use Rattle.kb_device.specs.declared.answers.PutAnswer.{PutAnswer}
use Rattle.kb_device.specs.declared.called.Called.{Called}
use Rattle.kb_device.specs.declared.called.Called.TheVariants as called
use Rattle.kb_device.specs.declared.called.CallFault.{CallFault}
use Rattle.kb_device.specs.declared.called.CallFault.TheVariants as call
use Rattle.kb_device.specs.declared.fetched.FetchFault.{FetchFault}
use Rattle.kb_device.specs.declared.fetched.FetchFault.TheVariants as fetch
use Rattle.kb_device.specs.declared.opening.Taking.{Taking}
use Rattle.kb_device.specs.Calling.{AddDoes, UnlessStopped as UnlessCallStopped, with_queued}
use Rattle.kb_device.specs.Fetching.{FetchDoes}
use Rattle.kb_device.specs.Fresh.{IdsEndAt, IsOwned}
use Rattle.kb_device.specs.Heads.{Read}
use Rattle.kb_device.specs.Inside.{Inside, IsRunning}
use Rattle.kb_device.specs.Noting.{NoteDoes, UnlessStopped as UnlessNoteStopped}
use Rattle.kb_device.specs.Opened.{started}
use Rattle.kb_device.specs.Opening.{taken_by, caught_by, CanStart, count_of}
use Rattle.kb_device.specs.Picking.{PickDoes}
use Rattle.kb_device.specs.Pulling.{PullDoes, UnlessStopped as UnlessPullStopped}
use Rattle.kb_device.specs.Stands.{Platter}
use Rattle.kb_device.proofs.Ids.{ids_apply, ids_more}
use Rattle.kb_device.proofs.Resuming.{left_is}
use Rattle.kb_device.proofs.Starts.{kept_up, head_up}

-- ---- queues of one device

pub own_push : (d : ℕ) (ops : List Op) (op : Op) → AreOf d ops → op.device ≡ d → AreOf d (ops ++ op ∷ [])
own_push d [] op all is = (is, tt)
own_push d (o ∷ ops) op all is = (all.0, own_push d ops op all.1 is)

pub own_drop : (d n : ℕ) (ops : List Op) → AreOf d ops → AreOf d (drop n ops)
own_drop d zero ops all = all
own_drop d (suc n) [] all = tt
own_drop d (suc n) (op ∷ ops) all = own_drop d n ops all.1

pub takes_own : (d : ℕ) (ops : List Op) → AreOf d ops → takes_device ops d ≡ true
takes_own d [] own = refl
takes_own d (op ∷ ops) own = grind (arith, nat_tests)

-- ---- calls

module _ (d : ℕ) (s t : Inside) (h : IsOwned d s) where
  -- the queue and the tree that is shown are as they were
  same_owned : t.journal ≡ s.journal → t.shown ≡ s.shown → IsOwned d t
  same_owned journal shown = record {
    own = subst (λ (j : State). AreOf d j.queue) (sym journal) h.own;
    fresh = subst (λ (j : State). IdsEndAt d (last_seq j) t.shown) (sym journal) (subst (IdsEndAt d (last_seq s.journal)) (sym shown) h.fresh);
  }

  whole_same : t ≡ s → IsOwned d t
  whole_same e = subst (IsOwned d) (sym e) h

  pub pick_owned : (sealed signed : List ℕ → List ℕ → List ℕ) (hashed : List ℕ → List ℕ) (secret : List ℕ) (r : Result Picked PickFault) → PickDoes sealed signed hashed secret s t r → IsOwned d t
  pick_owned sealed signed hashed secret (Ok picked) does = same_owned (ap (λ (x : Inside). x.journal) does.session) (ap (λ (x : Inside). x.shown) does.session)
  pick_owned sealed signed hashed secret (Err pick.Closed) does = absurd does
  pick_owned sealed signed hashed secret (Err pick.InFlight) does = whole_same does.0
  pick_owned sealed signed hashed secret (Err pick.Branched) does = whole_same does.0
  pick_owned sealed signed hashed secret (Err pick.Idle) does = whole_same does.0
  pick_owned sealed signed hashed secret (Err pick.Memory) (inl e) = whole_same e
  pick_owned sealed signed hashed secret (Err pick.Memory) (inr (ahead, e, cache)) = same_owned (ap (λ (x : Inside). x.journal) e) (ap (λ (x : Inside). x.shown) e)

  pub note_owned : (was now : Platter) (answer : PutAnswer) (r : Result Noted NoteFault) → IsRunning s → NoteDoes s was answer t now r → UnlessNoteStopped r (IsOwned d t)
  note_owned was now answer (Ok (noted.Landed n)) running does =
      let some = (running.aloft does.aloft does.flies).ahead in
      let few = running.ahead in
      let long : 1 ≤ length s.journal.queue = omega (arith, some, few) in
      let cut = length-drop 1 s.journal.queue in
      let last : last_seq s.journal ≡ s.journal.base + 1 + length (drop 1 s.journal.queue) = omega (arith, cut, long) in
      subst (IsOwned d) (sym does.session) (record { own = own_drop d 1 s.journal.queue h.own; fresh = subst (λ n. IdsEndAt d n s.shown) last h.fresh })
  note_owned was now answer (Ok (noted.Branched at)) running does = subst (IsOwned d) (sym does.session) (record { own = h.own; fresh = h.fresh })
  note_owned was now answer (Ok noted.Kept) running does = subst (IsOwned d) (sym does.session) (record { own = h.own; fresh = h.fresh })
  note_owned was now answer (Err note.Closed) running does = absurd does
  note_owned was now answer (Err note.NoFlight) running does = whole_same does.0
  note_owned was now answer (Err note.Stopped) running does = tt

  pub pull_owned : (sealed signed : List ℕ → List ℕ → List ℕ) (hashed : List ℕ → List ℕ) (f : Held) (secret : List ℕ) (was now : Platter) (r : Result ℕ PullFault) → PullDoes sealed signed hashed f d secret s was t now r → UnlessPullStopped r (IsOwned d t)
  pull_owned sealed signed hashed f secret was now (Ok n) (inl does) =
      let last : last_seq s.journal ≡ last_seq s.journal + 0 = omega arith in
      subst (IsOwned d) (sym does.session) (record { own = tt; fresh = subst (λ n. IdsEndAt d n does.read.tree) last does.fresh })
  pull_owned sealed signed hashed f secret was now (Ok n) (inr does) = whole_same does.0.session
  pull_owned sealed signed hashed f secret was now (Err pull.Closed) does = absurd does
  pull_owned sealed signed hashed f secret was now (Err pull.NotMember) does = whole_same does.0.session
  pull_owned sealed signed hashed f secret was now (Err pull.Unflushed) does = whole_same does.0.session
  pull_owned sealed signed hashed f secret was now (Err (pull.BadFolder number)) does = whole_same does.0.session
  pull_owned sealed signed hashed f secret was now (Err pull.Memory) does = whole_same does.session
  pull_owned sealed signed hashed f secret was now (Err pull.Stopped) does = tt

  pub fetch_owned : (sealed signed : List ℕ → List ℕ → List ℕ) (hashed : List ℕ → List ℕ) (f : Held) (n : ℕ) (secret : List ℕ) (r : Result ℕ FetchFault) → FetchDoes sealed signed hashed f n secret s t r → IsOwned d t
  fetch_owned sealed signed hashed f n secret (Ok k) does = same_owned (ap (λ (x : Inside). x.journal) does.session) (ap (λ (x : Inside). x.shown) does.session)
  fetch_owned sealed signed hashed f n secret (Err fetch.Closed) does = absurd does
  fetch_owned sealed signed hashed f n secret (Err fetch.NotMember) does = whole_same does.0
  fetch_owned sealed signed hashed f n secret (Err fetch.NoBranch) does = whole_same does.0
  fetch_owned sealed signed hashed f n secret (Err (fetch.BadFolder number)) does = whole_same does.0
  fetch_owned sealed signed hashed f n secret (Err fetch.Memory) does = whole_same does

  -- one operation more
  queued_owned : (op : Op) → op.device ≡ d → op.seq ≡ last_seq s.journal + 1 → t ≡ with_queued s op → IsOwned d t
  queued_owned op device seq same =
      let grown = length-append s.journal.queue (op ∷ []) in
      let last : last_seq s.journal + 1 ≡ s.journal.base + length (s.journal.queue ++ op ∷ []) = omega (arith, grown) in
      subst (IsOwned d) (sym same) (record {
        own = own_push d s.journal.queue op h.own device;
        fresh = subst (λ n. IdsEndAt d n (apply op s.shown)) last (ids_apply d (last_seq s.journal + 1) op s.shown (ids_more d (last_seq s.journal) (last_seq s.journal + 1) s.shown (omega arith) h.fresh) (omega (arith, seq)));
      })

  pub add_owned : (was now : Platter) (op : Op) (r : Result Called CallFault) → op.device ≡ d → op.seq ≡ last_seq s.journal + 1 → AddDoes s was op t now r → UnlessCallStopped r (IsOwned d t)
  add_owned was now op (Ok (called.Done seq)) device next does = queued_owned op device next does.session
  add_owned was now op (Ok called.Same) device next does = absurd does
  add_owned was now op (Err call.Closed) device next does = absurd does
  add_owned was now op (Err call.ReadOnly) device next does = absurd does
  add_owned was now op (Err (call.ByPlan why)) device next does = absurd does
  add_owned was now op (Err call.Memory) device next does = whole_same does.session
  add_owned was now op (Err call.Spent) device next does = whole_same does.stays.session
  add_owned was now op (Err call.QueueFull) device next does = whole_same does.stays.session
  add_owned was now op (Err (call.Full need room)) device next does = whole_same does.stays.session
  add_owned was now op (Err call.Stopped) device next does = tt

-- what is so for each device, unless the disk stopped
pub each_unless : (s t : Inside) (r : Result Noted NoteFault) → ((d : ℕ) → IsOwned d s → UnlessNoteStopped r (IsOwned d t)) → UnlessNoteStopped r ((d : ℕ) → IsOwned d s → IsOwned d t)
each_unless s t (Ok x) all = all
each_unless s t (Err note.Closed) all = all
each_unless s t (Err note.NoFlight) all = all
each_unless s t (Err note.Stopped) all = tt

-- ---- an opening

seqs_below : (last n : ℕ) (ops : List Op) → Follows n ops → n + length ops ≤ last → AllByRecursion (λ op. op.seq ≤ last) ops
seqs_below last n [] f le = tt
seqs_below last n (op ∷ ops) f le = (let seq = f.1 in omega (arith, seq, le), seqs_below last (n + 1) ops f.3 (omega (arith, le)))

below_drop : (last n : ℕ) (ops : List Op) → AllByRecursion (λ op. op.seq ≤ last) ops → AllByRecursion (λ op. op.seq ≤ last) (drop n ops)
below_drop last zero ops all = all
below_drop last (suc n) [] all = tt
below_drop last (suc n) (op ∷ ops) all = below_drop last n ops all.1

ids_fold : (d last : ℕ) (ops : List Op) (t : Tree) → AllByRecursion (λ op. op.seq ≤ last) ops → IdsEndAt d last t → IdsEndAt d last (fold_ops ops t)
ids_fold d last [] t all below = below
ids_fold d last (op ∷ ops) t all below = ids_fold d last ops (apply op t) all.1 (ids_apply d last op t below all.0)

module _ (d : ℕ) (s : State) (image : List ℕ) (has : HasState s image) (taking : Option Taking) (r : Read) (shown : Tree) (can : CanStart s.known s.queue taking r shown) where
  taken_last : last_seq (taken_by s taking) ≡ last_seq s
  taken_last = by taking can.count where
    by : (o : Option Taking) → count_of o ≤ length s.queue → last_seq (taken_by s o) ≡ last_seq s
    by None le = refl
    by (Some t) le = (let cut = length-drop t.count s.queue in omega (arith, cut, le))

  after_last : last_seq (caught_by (taken_by s taking) r) ≡ last_seq s
  after_last = elim (nat_le r.number (taken_by s taking).known) as (λ b. nat_le r.number (taken_by s taking).known ≡ b → last_seq (caught_by (taken_by s taking) r) ≡ last_seq s) [
    | true ↦ λ y. ap last_seq (kept_up (taken_by s taking) r y) ∙ taken_last
    | false ↦ λ y. ap last_seq (head_up (taken_by s taking) r y) ∙ (let none : last_seq (taken_by s taking) + 0 ≡ last_seq (taken_by s taking) = omega arith in none) ∙ taken_last
  ] refl

  -- the session that begins
  pub begins_owned : (role : Option Role) (t : Inside) → t ≡ started s taking r shown role → AreOf d s.queue → IdsEndAt d (last_seq s) r.tree → IsOwned d t
  begins_owned role t same own below = subst (IsOwned d) (sym same) (record {
    own = subst (AreOf d) (sym (left_is s taking r shown can)) (own_drop d (count_of taking) s.queue own);
    fresh = subst (λ n. IdsEndAt d n shown) (sym after_last) (subst (IdsEndAt d (last_seq s)) (sym can.shown_is) (ids_fold d (last_seq s) (drop (count_of taking) s.queue) r.tree (below_drop (last_seq s) (count_of taking) s.queue seqs) below));
  }) where
    seqs : AllByRecursion (λ op. op.seq ≤ last_seq s) s.queue
    seqs = seqs_below (last_seq s) s.base s.queue (good_leads empty s has.0 good_empty has.2).queue (omega arith)
