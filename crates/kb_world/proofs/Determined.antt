-- In a run that arms no disk and meets no collision, the statements determine the replies and the states.
use Rattle.std.proofs.Common.{◌≡◌, ◌⊎◌, ℕ, zero, suc, ◌+◌, ◌-◌, ◌<◌, Bool, true, false, cond, if◌then◌else◌, ◌&&◌, List, [], ◌∷◌, ◌++◌, length, map, All, Option, Some, None, Result, Ok, Err, inl, inr, refl, sym, ap, ◌∙◌, subst, arith, append_assoc, length-append}
use Rattle.std.specs.Prelude.{slice_get, slice_set, slice_index_or, nat_lt}
use Rattle.std.proofs.lemmas.List.Elements.{All-nil, All-cons, All-head, All-tail}
use Rattle.std.specs.List.{list_all}
use Rattle.kb_edge.specs.declared.link.Side.{Side}
use Rattle.kb_edge.specs.declared.link.Side.TheVariants.{Request as AtRequest, Reply as AtReply}
use Rattle.kb_ops.specs.declared.requests.Request.{Request}
use Rattle.kb_rules.specs.declared.report.Report.{Report}
use Rattle.kb_keys.specs.declared.policy.Action.{Action}
use Rattle.kb_keys.specs.declared.policy.Action.TheVariants as action
use Rattle.kb_keys.specs.declared.policy.Role.{Role}
use Rattle.kb_snap.specs.Chains.{Founded, Rekeyed, Revision, Chain, most_revisions}
use Rattle.kb_snap.specs.Members.{roles_of, generation_of}
use Rattle.kb_keys.specs.Members.{is_writer, IsLastWriter}
use Rattle.kb_snap.specs.Answers.{PutFault, RekeyFault}
use Rattle.kb_device.specs.Answers.{PickFault, Noted, NoteFault, SettleFault}
use Rattle.kb_device.specs.Answers as answers
use Rattle.kb_snap.specs.Answers as folder_says
use Rattle.kb_snap.specs.Puts.{Ask, LostPut}
use Rattle.kb_device.specs.Journals.{Journal, blank}
use Rattle.kb_device.specs.Parts.{Flight, Part, CallStep, LookStep, TellStep, PullStep, FetchStep, OpenStep, BackupStep, RestoreStep, armed, powered}
use Rattle.kb_world.specs.Statements.{Statement, Reply, Silent, Off, ByRekey, ByCall, ByLook, ByStatus, ByPick, ByLand, ByNote, ByPull, ByFetch, BySettle, ByOpen, ByBackup, ByRestore, ByPast, ByReclaim, Lists, Audited, Act, SetSeed, Declare, DoFound, DoRekey, SetMoment, SetRule, See, ListChain, AuditChain, On}
use Rattle.kb_world.specs.Statements as statements
use Rattle.kb_device.specs.Links.{lost_side}
use Rattle.kb_world.specs.Machine.{merger, IsBatch, IsDiskSize, cut_off, LosesAsk, Settling, new_member, Member, went, State, new_state, Turns, Shows, Does, PicksFlight, PicksNone, NotesAnswer, NotesNone, Picking, Landing, Noting, landed, IsNotAsked, IsNotAnswered, NoteCause, Rekeys, ActStep, Progress, Steps, Run, next}
use Rattle.kb_snap.specs.PastViews.{PastStep, ReclaimStep}
use Rattle.kb_device.specs.Waits.{Waiting, Nothing, Asked, Answered}
use Rattle.kb_snap.specs.Rekeys.{RekeyStep}
use Rattle.kb_world.specs.Good.{IsGood}
use Rattle.kb_world.specs.RunLaws.{is_plain, IsPlain, TellsNoStop, TellsApart}
use Rattle.kb_world.specs.RunReplies.{disarmed_part, disarmed_member, disarmed, HaveOne, OpensOne, AreReplies, RepliesAreOne, PartsAreDetermined, Begun, plain_in, plain_front, Front, BegunIsFront, PlainRunsAnswer, RunsBegin, RunsAreDetermined}
use Rattle.kb_world.proofs.Unfused.{unfused, unfused_disarmed}
use Rattle.kb_world.proofs.Roles.{last_writer}
use Rattle.kb_snap.proofs.Roles.{some_writer}
use Rattle.kb_world.proofs.Machine.{act_keeps, steps_keep, new_good}
use Rattle.kb_snap.proofs.Lists.{append_none}
use Rattle.kb_world.proofs.One.{act_one, steps_one, new_one}
use Rattle.kb_world.proofs.Sole.{below, not_below, by_value, call_of, call_same, call_is, look_of, look_same, look_is, tell_of, tell_same, tell_is, pick_of, pick_same, pick_is, put_of, put_is, note_of, note_same, note_is, pull_of, pull_same, pull_is, fetch_of, fetch_same, fetch_is, settle_of, settle_same, settle_is, open_of, open_same, open_is, told, past_of, past_is, reclaim_of, reclaim_is, backup_of, backup_same, backup_is, restore_of, restore_same, restore_is}

-- ---- the members change

abbrev rekey_by : Action → Chain → Revision → Bool → Option Role → Bool → Bool → Bool → Result ℕ RekeyFault × Chain
rekey_by a c x false role last key room = (Err folder_says.RekeyFault.NotWriter, c)
rekey_by action.Found c x true role last key room = (Err folder_says.Known, c)
rekey_by action.GrantWriter c x true (Some role) last key room = (Err folder_says.Known, c)
rekey_by action.GrantWriter c x true None last key false = (Err folder_says.RekeyFault.ChainEnd, c)
rekey_by action.GrantWriter c x true None last key true = (Ok (length c + 1), c ++ x ∷ [])
rekey_by action.GrantReader c x true (Some role) last key room = (Err folder_says.Known, c)
rekey_by action.GrantReader c x true None last key false = (Err folder_says.RekeyFault.ChainEnd, c)
rekey_by action.GrantReader c x true None last key true = (Ok (length c + 1), c ++ x ∷ [])
rekey_by action.Revoke c x true None last key room = (Err folder_says.RekeyFault.NotMember, c)
rekey_by action.Revoke c x true (Some role) true key room = (Err folder_says.LastWriter, c)
rekey_by action.Revoke c x true (Some role) false false room = (Err folder_says.GenEnd, c)
rekey_by action.Revoke c x true (Some role) false true false = (Err folder_says.RekeyFault.ChainEnd, c)
rekey_by action.Revoke c x true (Some role) false true true = (Ok (length c + 1), c ++ x ∷ [])

module _ (c : Chain) (x : Revision) (by who : ℕ) (last : Bool) (is : IsLastWriter (roles_of c) who → last ≡ true) (isnt : (IsLastWriter (roles_of c) who → ⊥) → last ≡ false) where
  rekey_of : Action → Result ℕ RekeyFault × Chain
  rekey_of a = rekey_by a c x (is_writer (roles_of c by)) (roles_of c who) last (nat_lt (generation_of c) 64) (nat_lt (length c) most_revisions)

  rekey_is : (a : Action) (answer : Result ℕ RekeyFault) (c' : Chain) → RekeyStep c x by a who answer c' → rekey_of a ≡ (answer, c')
  unfolding rekey_of
  rekey_is action.Found (Ok n) c' h = absurd h.1
  rekey_is action.Found (Err folder_says.RekeyFault.NotWriter) c' (refuses, stays) = cc
  rekey_is action.Found (Err folder_says.Known) c' ((writes, some), stays) = cc
  rekey_is action.Found (Err folder_says.RekeyFault.NotMember) c' (refuses, stays) = absurd refuses
  rekey_is action.Found (Err folder_says.LastWriter) c' (refuses, stays) = absurd refuses
  rekey_is action.Found (Err folder_says.GenEnd) c' (refuses, stays) = absurd refuses
  rekey_is action.Found (Err folder_says.RekeyFault.ChainEnd) c' (refuses, stays) = absurd refuses.1
  rekey_is action.GrantWriter (Ok n) c' (writes, none, lt, n_is, grown) = (let r = below (length c) most_revisions lt in cc)
  rekey_is action.GrantWriter (Err folder_says.RekeyFault.NotWriter) c' (refuses, stays) = cc
  rekey_is action.GrantWriter (Err folder_says.Known) c' ((writes, some), stays) = by_value (roles_of c who) some (λ role e. cc)
  rekey_is action.GrantWriter (Err folder_says.RekeyFault.NotMember) c' (refuses, stays) = absurd refuses
  rekey_is action.GrantWriter (Err folder_says.LastWriter) c' (refuses, stays) = absurd refuses
  rekey_is action.GrantWriter (Err folder_says.GenEnd) c' (refuses, stays) = absurd refuses
  rekey_is action.GrantWriter (Err folder_says.RekeyFault.ChainEnd) c' ((writes, none, end), stays) = (let r = not_below (length c) most_revisions end in cc)
  rekey_is action.GrantReader (Ok n) c' (writes, none, lt, n_is, grown) = (let r = below (length c) most_revisions lt in cc)
  rekey_is action.GrantReader (Err folder_says.RekeyFault.NotWriter) c' (refuses, stays) = cc
  rekey_is action.GrantReader (Err folder_says.Known) c' ((writes, some), stays) = by_value (roles_of c who) some (λ role e. cc)
  rekey_is action.GrantReader (Err folder_says.RekeyFault.NotMember) c' (refuses, stays) = absurd refuses
  rekey_is action.GrantReader (Err folder_says.LastWriter) c' (refuses, stays) = absurd refuses
  rekey_is action.GrantReader (Err folder_says.GenEnd) c' (refuses, stays) = absurd refuses
  rekey_is action.GrantReader (Err folder_says.RekeyFault.ChainEnd) c' ((writes, none, end), stays) = (let r = not_below (length c) most_revisions end in cc)
  rekey_is action.Revoke (Ok n) c' (writes, (some, others, low), lt, n_is, grown) =
      let l = isnt others in
      let g = below (generation_of c) 64 low in
      let r = below (length c) most_revisions lt in
      by_value (roles_of c who) some (λ role e. cc)
  rekey_is action.Revoke (Err folder_says.RekeyFault.NotWriter) c' (refuses, stays) = cc
  rekey_is action.Revoke (Err folder_says.Known) c' (refuses, stays) = absurd refuses
  rekey_is action.Revoke (Err folder_says.RekeyFault.NotMember) c' ((writes, none), stays) = cc
  rekey_is action.Revoke (Err folder_says.LastWriter) c' ((writes, alone), stays) =
      let l = is alone in
      by_value (roles_of c who) (some_writer (roles_of c who) alone.writes) (λ role e. cc)
  rekey_is action.Revoke (Err folder_says.GenEnd) c' ((writes, some, others, end), stays) =
      let l = isnt others in
      let g = not_below (generation_of c) 64 end in
      by_value (roles_of c who) some (λ role e. cc)
  rekey_is action.Revoke (Err folder_says.RekeyFault.ChainEnd) c' ((writes, (some, others, low), end), stays) =
      let l = isnt others in
      let g = below (generation_of c) 64 low in
      let r = not_below (length c) most_revisions end in
      by_value (roles_of c who) some (λ role e. cc)

-- ---- lists of members

get_map : {A B : Type 0} (f : A → B) (xs : List A) (i : ℕ) (x : A) → slice_get xs i ≡ Some x → slice_get (map f xs) i ≡ Some (f x)
get_map f [] i x e = cc
get_map f (y ∷ xs) zero x e = (let same : y ≡ x = cc in ap (λ z. Some (f z)) same)
get_map f (y ∷ xs) (suc i) x e = get_map f xs i x e

pub map_set : {A B : Type 0} (f : A → B) (xs : List A) (i : ℕ) (x : A) → map f (slice_set xs i x) ≡ slice_set (map f xs) i (f x)
map_set f [] i x = refl
map_set f (y ∷ xs) zero x = refl
map_set f (y ∷ xs) (suc i) x = ap (λ l. f y ∷ l) (map_set f xs i x)

map_push : {A B : Type 0} (f : A → B) (xs : List A) (x : A) → map f (xs ++ x ∷ []) ≡ map f xs ++ f x ∷ []
map_push f [] x = refl
map_push f (y ∷ xs) x = ap (λ l. f y ∷ l) (map_push f xs x)

-- ---- a device's turn

abbrev pub journal_of : Part → Journal
journal_of p = slice_index_or p.may 0 blank

one_of : (may : List Journal) → length may ≡ 1 → may ≡ slice_index_or may 0 blank ∷ []
one_of [] e = absurd (omega arith)
one_of (j ∷ []) e = refl
one_of (j ∷ k ∷ may) e = absurd (omega arith)

-- a session has one journal
abbrev pub IsOne : Part → Type 0
IsOne p = p.is_open ≡ true → length p.may ≡ 1

-- an opening finds one
abbrev FindsOne : Part → Type 0
FindsOne p = length p.may ≡ 1

pub at_one : (p : Part) → IsOne p → p.is_open ≡ true → p.may ≡ journal_of p ∷ []
at_one p one is = one_of p.may (one is)

-- the reply, the device with no disk armed, and the chain after it
abbrev Outcome : Type 0
Outcome = Reply × Member × Chain

record Comes (o : Outcome) (reply : Reply) (is : Member) (c : Chain) : Type 0 where
  reply_is : reply ≡ o.0
  member_is : disarmed_member is ≡ o.1
  chain_is : c ≡ o.2

-- these steps of devices of a state, and what they come to
record Turn (Ready : Part → Type 0) (goes : State → Reply → Member → Member → Chain → Type 0) : Type 0 where
  out : State → Member → Outcome
  same : (s : State) (m : Member) → out (disarmed s) (disarmed_member m) ≡ out s m
  comes : (s : State) (m : Member) (reply : Reply) (is : Member) (c : Chain) → Ready m.part → IsPlain reply → goes s reply m is c → Comes (out s m) reply is c

-- what an answer and a part make of a device
abbrev made : {A : Type 0} → (A → Reply) → Member → Chain → A × Part → Outcome
made tells m c o = (tells o.0, went m o.1, c)

does : {A : Type 0} (goes : A → Part → Type 0) (tells : A → Reply) (o : A × Part) (c : Chain) (reply : Reply) (was is : Member) (c' : Chain) → ((a : A) (q : Part) → goes a q → IsPlain (tells a) → o ≡ (a, disarmed_part q)) → c' ≡ c → IsPlain reply → Does goes tells reply was is
    → Comes (made tells was c o) reply is c'
does goes tells o c reply was is c' f same plain h =
    let e = sym (f h.answer h.part h.step (subst IsPlain h.reply_is plain)) in
    record { reply_is = h.reply_is ∙ ap (λ x. tells x.0) e; member_is = ap disarmed_member h.member ∙ ap (λ x. went was x.1) e; chain_is = same }

call_turn : (d : ℕ) (request : Request) → Turn IsOne (λ s reply was is c. (c ≡ s.chain) × Does (CallStep d was.part request s.moment) ByCall reply was is)
call_turn d request = record {
  out = λ s m. made ByCall m s.chain (call_of d m.part (journal_of m.part) request s.moment);
  same = λ s m. ap (made ByCall m s.chain) (call_same d m.part (journal_of m.part) request s.moment);
  comes = λ s m r is c one plain step. does (CallStep d m.part request s.moment) ByCall (call_of d m.part (journal_of m.part) request s.moment) s.chain r m is c
      (λ answer q h fine. call_is m.part (journal_of m.part) (at_one m.part one) d request s.moment answer q h fine) step.0 plain step.1;
}

pull_turn : (d : ℕ) → Turn IsOne (λ s reply was is c. (c ≡ s.chain) × Does (PullStep d s.chain was.part) ByPull reply was is)
pull_turn d = record {
  out = λ s m. made ByPull m s.chain (pull_of d s.chain m.part (journal_of m.part));
  same = λ s m. ap (made ByPull m s.chain) (pull_same d s.chain m.part (journal_of m.part));
  comes = λ s m r is c one plain step. does (PullStep d s.chain m.part) ByPull (pull_of d s.chain m.part (journal_of m.part)) s.chain r m is c
      (λ answer q h fine. pull_is m.part (journal_of m.part) (at_one m.part one) d s.chain answer q h fine) step.0 plain step.1;
}

fetch_turn : (d : ℕ) → Turn IsOne (λ s reply was is c. (c ≡ s.chain) × Does (FetchStep d s.chain was.part) ByFetch reply was is)
fetch_turn d = record {
  out = λ s m. made ByFetch m s.chain (fetch_of d s.chain m.part (journal_of m.part));
  same = λ s m. ap (made ByFetch m s.chain) (fetch_same d s.chain m.part (journal_of m.part));
  comes = λ s m r is c one plain step. does (FetchStep d s.chain m.part) ByFetch (fetch_of d s.chain m.part (journal_of m.part)) s.chain r m is c
      (λ answer q h fine. fetch_is m.part (journal_of m.part) (at_one m.part one) d s.chain answer q h) step.0 plain step.1;
}

open_turn : (d : ℕ) → Turn FindsOne (λ s reply was is c. (c ≡ s.chain) × Does (OpenStep d s.chain was.part) ByOpen reply was is)
open_turn d = record {
  out = λ s m. made ByOpen m s.chain (open_of d s.chain m.part (journal_of m.part));
  same = λ s m. ap (made ByOpen m s.chain) (open_same d s.chain m.part (journal_of m.part));
  comes = λ s m r is c one plain step. does (OpenStep d s.chain m.part) ByOpen (open_of d s.chain m.part (journal_of m.part)) s.chain r m is c
      (λ answer q h fine. open_is m.part (journal_of m.part) (λ is. one_of m.part.may one) (one_of m.part.may one) d s.chain answer q h fine) step.0 plain step.1;
}

backup_turn : (d : ℕ) → Turn IsOne (λ s reply was is c. (c ≡ s.chain) × Does (BackupStep d s.chain was.part) ByBackup reply was is)
backup_turn d = record {
  out = λ s m. made ByBackup m s.chain (backup_of d s.chain m.part (journal_of m.part));
  same = λ s m. ap (made ByBackup m s.chain) (backup_same d s.chain m.part (journal_of m.part));
  comes = λ s m r is c one plain step. does (BackupStep d s.chain m.part) ByBackup (backup_of d s.chain m.part (journal_of m.part)) s.chain r m is c
      (λ answer q h fine. backup_is m.part (journal_of m.part) (at_one m.part one) d s.chain answer q h) step.0 plain step.1;
}

restore_turn : (d size : ℕ) → Turn IsOne (λ s reply was is c. (c ≡ s.chain) × IsDiskSize size × Does (RestoreStep d s.chain size was.part) ByRestore reply was is)
restore_turn d size = record {
  out = λ s m. made ByRestore m s.chain (restore_of d s.chain size m.part);
  same = λ s m. ap (made ByRestore m s.chain) (restore_same d s.chain size m.part);
  comes = λ s m r is c one plain step. does (RestoreStep d s.chain size m.part) ByRestore (restore_of d s.chain size m.part) s.chain r m is c
      (λ answer q h fine. restore_is m.part (journal_of m.part) (at_one m.part one) d s.chain size answer q h) step.0 plain step.2;
}

settle_turn : (d : ℕ) → Turn IsOne (λ s reply was is c. Settling d s reply was is c)
settle_turn d = record {
  out = λ s m. settled m (settle_of d (merger s m) s.chain m.part (journal_of m.part) m.link);
  same = λ s m. ap (settled m) (settle_same d (merger s m) s.chain m.part (journal_of m.part) m.link);
  comes = λ s m r is c one plain step.
      let e = sym (settle_is m.part (journal_of m.part) (at_one m.part one) d (merger s m) s.chain m.link step.answer c step.part step.link step.step step.after (subst IsPlain step.reply_is plain)) in
      record { reply_is = step.reply_is ∙ ap (λ o. BySettle o.0) e; member_is = ap disarmed_member step.member ∙ ap (λ o. record (went m o.2) { link = o.3 }) e; chain_is = ap (λ o. o.1) e };
}
  where
    settled : Member → Result (ℕ × Report) SettleFault × Chain × Part × Option Side → Outcome
    settled m o = (BySettle o.0, record (went m o.2) { link = o.3 }, o.1)

-- a pick
abbrev picked : Member → Chain → Result (Flight × Ask) PickFault × Part → Outcome
picked m c (Ok (flight, ask), q) = (ByPick (Ok (flight.first, flight.first + flight.count - 1, flight.number)), record m { part = q; waiting = Asked ask }, c)
picked m c (Err fault, q) = (ByPick (Err fault), went m q, c)

pick_turn : (d : ℕ) → Turn IsOne (λ s reply was is c. Picking d s reply was is c)
pick_turn d = record {
  out = λ s m. picked m s.chain (pick_of m.batch d m.name m.part (journal_of m.part));
  same = λ s m. ap (picked m s.chain) (pick_same m.batch d m.name m.part (journal_of m.part));
  comes = λ s m r is c one plain step. by s m r is c one step.0 step.1;
}
  where
    by : (s : State) (m : Member) (reply : Reply) (is : Member) (c : Chain) → IsOne m.part → c ≡ s.chain → PicksFlight d reply m is ⊎ PicksNone d reply m is → Comes (picked m s.chain (pick_of m.batch d m.name m.part (journal_of m.part))) reply is c
    by s m reply is c one same (inl h) =
        let e = sym (pick_is m.part (journal_of m.part) (at_one m.part one) m.batch d m.name (Ok (h.flight, h.ask)) h.part h.step) in
        record { reply_is = h.reply_is ∙ ap (λ x. (picked m s.chain x).0) e; member_is = ap disarmed_member h.member ∙ ap (λ x. (picked m s.chain x).1) e; chain_is = same ∙ ap (λ x. (picked m s.chain x).2) e }
    by s m reply is c one same (inr h) =
        let e = sym (pick_is m.part (journal_of m.part) (at_one m.part one) m.batch d m.name (Err h.answer) h.part h.step) in
        record { reply_is = h.reply_is ∙ ap (λ x. (picked m s.chain x).0) e; member_is = ap disarmed_member h.member ∙ ap (λ x. (picked m s.chain x).1) e; chain_is = same ∙ ap (λ x. (picked m s.chain x).2) e }

-- a landing
abbrev landing : Chain → Member → Option Side → Waiting → Outcome
landing c m link Nothing = (ByLand (Err statements.NoFlight), disarmed_member m, c)
landing c m None (Asked ask) = (let put = put_of c ask in (ByLand (landed put.0), record (disarmed_member m) { waiting = Answered put.0 }, put.1))
landing c m (Some AtRequest) (Asked ask) = (ByLand (Err (statements.LinkFault None)), disarmed_member (cut_off m), c)
landing c m (Some AtReply) (Asked ask) = (let put = put_of c ask in (ByLand (Err (statements.LinkFault (Some put.0))), disarmed_member (cut_off m), put.1))
landing c m link (Answered answer) = (ByLand (Err statements.NoFlight), disarmed_member m, c)

land_turn : (d : ℕ) → Turn IsOne (λ s reply was is c. Landing d s reply was is c)
land_turn d = record { out = λ s m. landing s.chain m m.link m.waiting; same = λ s m. again s.chain m m.link m.waiting; comes = λ s m r is c one plain step. by d s m r is c m.link m.waiting refl refl plain step } where
  again : (c : Chain) (m : Member) (link : Option Side) (waiting : Waiting) → landing c (disarmed_member m) link waiting ≡ landing c m link waiting
  again c m link Nothing = refl
  again c m None (Asked ask) = refl
  again c m (Some AtRequest) (Asked ask) = refl
  again c m (Some AtReply) (Asked ask) = refl
  again c m link (Answered answer) = refl

  lost : (s : State) (m : Member) (reply : Reply) (is : Member) (c : Chain) (h : LosesAsk s.chain reply m is c) (lost : Option (Result ℕ PutFault)) → m.link ≡ Some (lost_side lost) → LostPut s.chain h.ask lost c → reply ≡ ByLand (Err (statements.LinkFault lost)) → IsPlain reply
      → (link : Option Side) (waiting : Waiting) → m.link ≡ link → m.waiting ≡ waiting → Comes (landing s.chain m link waiting) reply is c
  lost s m reply is c h l at step reply_is plain link Nothing side e = absurd (let asked = h.waits in cc)
  lost s m reply is c h l at step reply_is plain link (Answered answer) side e = absurd (let asked = h.waits in cc)
  lost s m reply is c h l at step reply_is plain None (Asked ask) side e = cc
  lost s m reply is c h None at step reply_is plain (Some AtReply) (Asked ask) side e = cc
  lost s m reply is c h (Some answer) at step reply_is plain (Some AtRequest) (Asked ask) side e = cc
  lost s m reply is c h None at step reply_is plain (Some AtRequest) (Asked ask) side e = record { reply_is = reply_is; member_is = ap disarmed_member h.member; chain_is = step }
  lost s m reply is c h (Some answer) at step reply_is plain (Some AtReply) (Asked ask) side e =
      let same : h.ask ≡ ask = (let asked = h.waits in cc) in
      let put = sym (put_is s.chain h.ask answer c step (told answer (subst IsPlain reply_is plain))) ∙ ap (put_of s.chain) same in
      record { reply_is = reply_is ∙ ap (λ x. ByLand (Err (statements.LinkFault (Some x.0)))) put; member_is = ap disarmed_member h.member; chain_is = ap (λ x. x.1) put }

  by : (d : ℕ) (s : State) (m : Member) (reply : Reply) (is : Member) (c : Chain) (link : Option Side) (waiting : Waiting) → m.link ≡ link → m.waiting ≡ waiting → IsPlain reply → Landing d s reply m is c → Comes (landing s.chain m link waiting) reply is c
  by d s m reply is c link Nothing side e plain (inl (inl h)) = absurd (let asked = h.waits in cc)
  by d s m reply is c link (Answered answer) side e plain (inl (inl h)) = absurd (let asked = h.waits in cc)
  by d s m reply is c (Some at) (Asked ask) side e plain (inl (inl h)) = absurd (let whole = h.carried in cc)
  by d s m reply is c None (Asked ask) side e plain (inl (inl h)) =
      let same : h.ask ≡ ask = (let asked = h.waits in cc) in
      let put = sym (put_is s.chain h.ask h.answer c h.step (subst IsPlain h.reply_is plain)) ∙ ap (put_of s.chain) same in
      record { reply_is = h.reply_is ∙ ap (λ x. ByLand (landed x.0)) put; member_is = ap disarmed_member h.member ∙ ap (λ x. record (disarmed_member m) { waiting = Answered x.0 }) put; chain_is = ap (λ x. x.1) put }
  by d s m reply is c link waiting side e plain (inl (inr h)) = lost s m reply is c h h.lost h.side h.step h.reply_is plain link waiting side e
  by d s m reply is c link Nothing side e plain (inr (same, h)) = record { reply_is = h.reply_is; member_is = ap disarmed_member h.member; chain_is = same }
  by d s m reply is c link (Asked ask) side e plain (inr (same, h)) = absurd (subst IsNotAsked e h.none)
  by d s m reply is c link (Answered answer) side e plain (inr (same, h)) = record { reply_is = h.reply_is; member_is = ap disarmed_member h.member; chain_is = same }

-- a note
abbrev noted : Member → Chain → Result Noted NoteFault × Part → Outcome
noted m c o = (ByNote o.0, record m { part = o.1; waiting = Nothing }, c)

abbrev noting : Chain → Member → Bool → Waiting → Outcome
noting c m false waiting = (ByNote (Err answers.NoteFault.Closed), disarmed_member m, c)
noting c m true Nothing = (ByNote (Err answers.NoteFault.NoFlight), disarmed_member m, c)
noting c m true (Asked ask) = (ByNote (Err answers.NoteFault.NoFlight), disarmed_member m, c)
noting c m true (Answered put) = noted m c (note_of m.part (journal_of m.part) put)

note_turn : (d : ℕ) → Turn IsOne (λ s reply was is c. Noting d s reply was is c)
note_turn d = record { out = λ s m. noting s.chain m m.part.is_open m.waiting; same = λ s m. again s.chain m m.part.is_open m.waiting; comes = λ s m r is c one plain step. by s m r is c m.part.is_open m.waiting one refl refl step.0 plain step.1 } where
  again : (c : Chain) (m : Member) (session : Bool) (waiting : Waiting) → noting c (disarmed_member m) session waiting ≡ noting c m session waiting
  again c m false waiting = refl
  again c m true Nothing = refl
  again c m true (Asked ask) = refl
  again c m true (Answered put) = ap (noted m c) (note_same m.part (journal_of m.part) put)

  none : (c : Chain) (m : Member) (fault : NoteFault) (session : Bool) (waiting : Waiting) → m.part.is_open ≡ session → m.waiting ≡ waiting → NoteCause m fault → (ByNote (Err fault), disarmed_member m, c) ≡ noting c m session waiting
  none c m answers.NoteFault.Closed false waiting at e cause = refl
  none c m answers.NoteFault.Closed true waiting at e cause = absurd (let no : true ≡ false = sym at ∙ cause in cc)
  none c m answers.NoteFault.NoFlight false waiting at e cause = absurd (let no : true ≡ false = sym cause.0 ∙ at in cc)
  none c m answers.NoteFault.NoFlight true Nothing at e cause = refl
  none c m answers.NoteFault.NoFlight true (Asked ask) at e cause = refl
  none c m answers.NoteFault.NoFlight true (Answered put) at e cause = absurd (subst IsNotAnswered e cause.1)
  none c m answers.NoteFault.Stopped session waiting at e cause = absurd cause

  by : (s : State) (m : Member) (reply : Reply) (is : Member) (c : Chain) (session : Bool) (waiting : Waiting) → IsOne m.part → m.part.is_open ≡ session → m.waiting ≡ waiting → c ≡ s.chain → IsPlain reply → NotesAnswer reply m is ⊎ NotesNone reply m is
      → Comes (noting s.chain m session waiting) reply is c
  by s m reply is c false waiting one shut e same plain (inl h) = absurd (let session = h.session in cc)
  by s m reply is c true Nothing one session e same plain (inl h) = absurd (let waits = h.waits in cc)
  by s m reply is c true (Asked ask) one session e same plain (inl h) = absurd (let waits = h.waits in cc)
  by s m reply is c true (Answered put) one session e same plain (inl h) =
      let put_same : h.put ≡ put = (let waits = h.waits in cc) in
      let note = sym (note_is m.part (journal_of m.part) (at_one m.part one) h.put h.answer h.part h.step (subst IsPlain h.reply_is plain)) ∙ ap (note_of m.part (journal_of m.part)) put_same in
      record { reply_is = h.reply_is ∙ ap (λ x. ByNote x.0) note; member_is = ap disarmed_member h.member ∙ ap (λ x. record m { part = x.1; waiting = Nothing }) note; chain_is = same }
  by s m reply is c session waiting one at e same plain (inr h) =
      let o = none s.chain m h.fault session waiting at e h.cause in
      record { reply_is = h.reply_is ∙ ap (λ x. x.0) o; member_is = ap disarmed_member h.member ∙ ap (λ x. x.1) o; chain_is = same ∙ ap (λ x. x.2) o }

arm_turn : (d steps : ℕ) → Turn IsOne (λ s reply was is c. (c ≡ s.chain) × (reply ≡ Silent) × (is ≡ record was { part = armed steps was.part }))
arm_turn d steps = record {
  out = λ s m. (Silent, disarmed_member m, s.chain);
  same = λ s m. refl;
  comes = λ s m r is c one plain step. record { reply_is = step.1; member_is = ap disarmed_member step.2; chain_is = step.0 };
}

power_turn : (d : ℕ) → Turn IsOne (λ s reply was is c. (c ≡ s.chain) × (reply ≡ Off) × (is ≡ went was (powered was.part)))
power_turn d = record {
  out = λ s m. (Off, went m (powered m.part), s.chain);
  same = λ s m. refl;
  comes = λ s m r is c one plain step. record { reply_is = step.1; member_is = ap disarmed_member step.2; chain_is = step.0 };
}

batch_turn : (d most : ℕ) → Turn IsOne (λ s reply was is c. (c ≡ s.chain) × (reply ≡ Silent) × IsBatch most × (is ≡ record was { batch = most }))
batch_turn d most = record {
  out = λ s m. (Silent, record (disarmed_member m) { batch = most }, s.chain);
  same = λ s m. refl;
  comes = λ s m r is c one plain step. record { reply_is = step.1; member_is = ap disarmed_member step.3; chain_is = step.0 };
}

lose_turn : (d : ℕ) (side : Side) → Turn IsOne (λ s reply was is c. (c ≡ s.chain) × (reply ≡ Silent) × (is ≡ record was { link = Some side }))
lose_turn d side = record {
  out = λ s m. (Silent, record (disarmed_member m) { link = Some side }, s.chain);
  same = λ s m. refl;
  comes = λ s m r is c one plain step. record { reply_is = step.1; member_is = ap disarmed_member step.2; chain_is = step.0 };
}

-- each session has one journal
abbrev pub SessionsOne : State → Type 0
SessionsOne s = (i : ℕ) (m : Member) → slice_get s.members i ≡ Some m → IsOne m.part

-- so that a part has no choice of journals
abbrev Finds : State → Act → Type 0
Finds s (On d statements.Open) = (m : Member) → slice_get s.members (d - 1) ≡ Some m → FindsOne m.part
Finds s act = SessionsOne s

all_find : (s : State) → HaveOne s → (act : Act) → Finds s act
all_find s ones (On d statements.Open) = λ m e. ones (d - 1) m e
all_find s ones act = λ i m e is. ones i m e

pub sessions_one : (s : State) → IsGood s → SessionsOne s
sessions_one s good i m e is = ap length ((good.members i m e).part.session is).1.journal_is

good_find : (s : State) → IsGood s → (act : Act) → OpensOne s act → Finds s act
good_find s good (On d statements.Open) ones = λ m e. ones m e
good_find s good act ones = λ i m e is. sessions_one s good i m e is

-- ---- two ways on, from states that are the same but for what is left of disks' steps

module _ (s s' t u : State) (same : disarmed s ≡ disarmed s') where
  abbrev OneWay : Reply → Reply → Type 0
  OneWay reply other = (reply ≡ other) × (disarmed t ≡ disarmed u)

  -- one device in both
  one_device : (d : ℕ) (m n : Member) → slice_get s.members d ≡ Some m → slice_get s'.members d ≡ Some n → disarmed_member m ≡ disarmed_member n
  one_device d m n e f =
      let left = get_map disarmed_member s.members d m e in
      let right = get_map disarmed_member s'.members d n f in
      let both = ap (λ (x : State). slice_get x.members d) same in
      let at : Some (disarmed_member m) ≡ Some (disarmed_member n) = sym left ∙ both ∙ right in
      some_is at
    where
      some_is : {x y : Member} → Some x ≡ Some y → x ≡ y
      some_is e = cc

  one_turn : (d : ℕ) (Ready : Part → Type 0) (goes : State → Reply → Member → Member → Chain → Type 0) (turn : Turn Ready goes) (reply other : Reply) → ((m : Member) → slice_get s.members (d - 1) ≡ Some m → Ready m.part) → ((m : Member) → slice_get s'.members (d - 1) ≡ Some m → Ready m.part) → Turns d (goes s reply) s t → IsPlain reply → Turns d (goes s' other) s' u → IsPlain other → OneWay reply other
  one_turn d Ready goes turn reply other ones more h a k b =
      let left = turn.comes s h.was reply h.is h.chain (ones h.was h.found) a h.step in
      let right = turn.comes s' k.was other k.is k.chain (more k.was k.found) b k.step in
      let device = one_device (d - 1) h.was k.was h.found k.found in
      let out_is = sym (turn.same s h.was) ∙ (λ i. turn.out (same i) (device i)) ∙ turn.same s' k.was in
      let reply_is = left.reply_is ∙ ap (λ (o : Outcome). o.0) out_is ∙ sym right.reply_is in
      let member_is = left.member_is ∙ ap (λ (o : Outcome). o.1) out_is ∙ sym right.member_is in
      let chain_is = left.chain_is ∙ ap (λ (o : Outcome). o.2) out_is ∙ sym right.chain_is in
      let t_is = ap disarmed h.state ∙ ap (λ l. record s { chain = h.chain; members = l }) (map_set disarmed_member s.members (d - 1) h.is) in
      let u_is = ap disarmed k.state ∙ ap (λ l. record s' { chain = k.chain; members = l }) (map_set disarmed_member s'.members (d - 1) k.is) in
      (reply_is, t_is ∙ (λ i. record (same i) { chain = chain_is i; members = slice_set (same i).members (d - 1) (member_is i) }) ∙ sym u_is)

  -- a show or a status
  one_show : {A : Type 0} (d : ℕ) (step : Member → A → Type 0) (out : Member → A) (tells : A → Reply) (reply other : Reply) → SessionsOne s → SessionsOne s' → ((m : Member) → out (disarmed_member m) ≡ out m) → ((m : Member) (a : A) → IsOne m.part → step m a → out m ≡ a)
      → Shows d (λ m. (answer : A) × step m answer × (reply ≡ tells answer)) s t → Shows d (λ m. (answer : A) × step m answer × (other ≡ tells answer)) s' u → OneWay reply other
  one_show d step out tells reply other ones more again comes h k =
      let left = comes h.member h.shows.0 (ones (d - 1) h.member h.found) h.shows.1 in
      let right = comes k.member k.shows.0 (more (d - 1) k.member k.found) k.shows.1 in
      let device = one_device (d - 1) h.member k.member h.found k.found in
      let out_is = sym (again h.member) ∙ ap out device ∙ again k.member in
      (h.shows.2 ∙ ap tells (sym left ∙ out_is ∙ right) ∙ sym k.shows.2, ap disarmed h.state ∙ same ∙ ap disarmed (sym k.state))

  chain_same : s.chain ≡ s'.chain
  chain_same = ap (λ (x : State). x.chain) same

  -- what is told of the chain alone
  one_told : {A : Type 0} (d : ℕ) (step : Chain → A → Type 0) (out : Chain → A) (tells : A → Reply) (reply other : Reply) → ((c : Chain) (a : A) → step c a → out c ≡ a)
      → Shows d (λ m. (answer : A) × step s.chain answer × (reply ≡ tells answer)) s t → Shows d (λ m. (answer : A) × step s'.chain answer × (other ≡ tells answer)) s' u → OneWay reply other
  one_told d step out tells reply other comes h k =
      let left = comes s.chain h.shows.0 h.shows.1 in
      let right = comes s'.chain k.shows.0 k.shows.1 in
      (h.shows.2 ∙ ap tells (sym left ∙ ap out chain_same ∙ right) ∙ sym k.shows.2, ap disarmed h.state ∙ same ∙ ap disarmed (sym k.state))

  name_same : (d : ℕ) (m n : Member) → slice_get s.members d ≡ Some m → slice_get s'.members d ≡ Some n → m.name ≡ n.name
  name_same d m n e f = ap (λ (x : Member). x.name) (one_device d m n e f)

  -- a change of the members
  one_rekey : (by : ℕ) (a : Action) (who : ℕ) (reply other : Reply) → IsGood s → Rekeys by a who reply s t → Rekeys by a who other s' u → OneWay reply other
  one_rekey by a who reply other good h k =
      let x : Revision = record { writer = by; name = h.member.name; moment = s.moment; deed = Rekeyed a who } in
      let y : Revision = record { writer = by; name = k.member.name; moment = s'.moment; deed = Rekeyed a who } in
      let name = sym (name_same (by - 1) h.member k.member h.found k.found) in
      let moment = ap (λ (z : State). z.moment) (sym same) in
      let revision : y ≡ x = (λ i. record { writer = by; name = name i; moment = moment i; deed = Rekeyed a who }) in
      let step = subst (λ z. RekeyStep s.chain z by a who k.answer k.chain) revision (subst (λ c. RekeyStep c y by a who k.answer k.chain) (sym chain_same) k.step) in
      let e = by_last x (h.answer, h.chain) (k.answer, k.chain) h.step step in
      (h.reply_is ∙ ap (λ o. ByRekey o.0) e ∙ sym k.reply_is, ap disarmed h.state ∙ (λ i. record (same i) { chain = (e i).1 }) ∙ ap disarmed (sym k.state))
    where
      by_last : (x : Revision) (o p : Result ℕ RekeyFault × Chain) → RekeyStep s.chain x by a who o.0 o.1 → RekeyStep s.chain x by a who p.0 p.1 → o ≡ p
      by_last x o p l r = elim (last_writer s who good) [
        | inl last ↦ sym (rekey_is s.chain x by who true (λ y. refl) (λ n. absurd (n last)) a o.0 o.1 l) ∙ rekey_is s.chain x by who true (λ y. refl) (λ n. absurd (n last)) a p.0 p.1 r
        | inr not ↦ sym (rekey_is s.chain x by who false (λ y. absurd (not y)) (λ n. refl) a o.0 o.1 l) ∙ rekey_is s.chain x by who false (λ y. absurd (not y)) (λ n. refl) a p.0 p.1 r
      ]

  one_way : (act : Act) (reply other : Reply) → IsGood s → Finds s act → Finds s' act → ActStep s act reply t → IsPlain reply → ActStep s' act other u → IsPlain other → OneWay reply other
  one_way (SetSeed seed) reply other good ones more h a k b = (h.0 ∙ sym k.0, ap disarmed h.1 ∙ (λ i. record (same i) { seed = seed }) ∙ ap disarmed (sym k.1))
  one_way (Declare name size) reply other good ones more h a k b =
      let t_is = ap disarmed h.4 ∙ ap (λ l. record s { members = l }) (map_push disarmed_member s.members (new_member name size)) in
      let u_is = ap disarmed k.4 ∙ ap (λ l. record s' { members = l }) (map_push disarmed_member s'.members (new_member name size)) in
      (h.0 ∙ sym k.0, t_is ∙ (λ i. record (same i) { members = (same i).members ++ new_member name size ∷ [] }) ∙ sym u_is)
  one_way (SetMoment moment) reply other good ones more h a k b = (h.0 ∙ sym k.0, ap disarmed h.2 ∙ (λ i. record (same i) { moment = moment }) ∙ ap disarmed (sym k.2))
  one_way (SetRule rule) reply other good ones more h a k b = (h.0 ∙ sym k.0, ap disarmed h.2 ∙ (λ i. record (same i) { rule = rule }) ∙ ap disarmed (sym k.2))
  one_way (DoFound d) reply other good ones more (hr, h) a (kr, k) b =
      let name = name_same (d - 1) h.member k.member h.found k.found in
      (hr ∙ sym kr, ap disarmed h.state ∙ (λ i. record (same i) { chain = record { writer = d; name = name i; moment = (same i).moment; deed = Founded } ∷ [] }) ∙ ap disarmed (sym k.state))
  one_way (DoRekey by a who) reply other good ones more h _ k _ = one_rekey by a who reply other good h k
  one_way (On d (statements.Call request)) reply other good ones more h a k b = one_turn d _ _ (call_turn d request) reply other (λ m e. ones (d - 1) m e) (λ m e. more (d - 1) m e) h a k b
  one_way (See d (statements.Look show)) reply other good ones more h a k b =
      one_show d (λ m answer. LookStep m.part show answer) (λ m. look_of m.part (journal_of m.part) show) ByLook reply other ones more (λ m. look_same m.part (journal_of m.part) show)
      (λ m answer one step. look_is m.part (journal_of m.part) (at_one m.part one) show answer step) h k
  one_way (See d statements.Tell) reply other good ones more h a k b =
      one_show d (λ m answer. TellStep m.part answer) (λ m. tell_of m.part (journal_of m.part)) ByStatus reply other ones more (λ m. tell_same m.part (journal_of m.part))
      (λ m answer one step. tell_is m.part (journal_of m.part) (at_one m.part one) answer step) h k
  one_way (See d (statements.Past r)) reply other good ones more h a k b = one_told d (λ c answer. PastStep c d r answer) (λ c. past_of c d r) ByPast reply other (λ c answer step. past_is c d r answer step) h k
  one_way (See d (statements.Reclaim from)) reply other good ones more h a k b = one_told d (λ c answer. ReclaimStep c d from answer) (λ c. reclaim_of c d from) ByReclaim reply other (λ c answer step. reclaim_is c d from answer step) h k
  one_way (On d (statements.Batch most)) reply other good ones more h a k b = one_turn d _ _ (batch_turn d most) reply other (λ m e. ones (d - 1) m e) (λ m e. more (d - 1) m e) h a k b
  one_way (On d (statements.Lose side)) reply other good ones more h a k b = one_turn d _ _ (lose_turn d side) reply other (λ m e. ones (d - 1) m e) (λ m e. more (d - 1) m e) h a k b
  one_way (On d statements.Backup) reply other good ones more h a k b = one_turn d _ _ (backup_turn d) reply other (λ m e. ones (d - 1) m e) (λ m e. more (d - 1) m e) h a k b
  one_way (On d (statements.Restore size)) reply other good ones more h a k b = one_turn d _ _ (restore_turn d size) reply other (λ m e. ones (d - 1) m e) (λ m e. more (d - 1) m e) h a k b
  one_way (On d statements.Pick) reply other good ones more h a k b = one_turn d _ _ (pick_turn d) reply other (λ m e. ones (d - 1) m e) (λ m e. more (d - 1) m e) h a k b
  one_way (On d statements.Land) reply other good ones more h a k b = one_turn d _ _ (land_turn d) reply other (λ m e. ones (d - 1) m e) (λ m e. more (d - 1) m e) h a k b
  one_way (On d statements.Note) reply other good ones more h a k b = one_turn d _ _ (note_turn d) reply other (λ m e. ones (d - 1) m e) (λ m e. more (d - 1) m e) h a k b
  one_way (On d statements.Pull) reply other good ones more h a k b = one_turn d _ _ (pull_turn d) reply other (λ m e. ones (d - 1) m e) (λ m e. more (d - 1) m e) h a k b
  one_way (On d statements.Fetch) reply other good ones more h a k b = one_turn d _ _ (fetch_turn d) reply other (λ m e. ones (d - 1) m e) (λ m e. more (d - 1) m e) h a k b
  one_way (On d statements.Settle) reply other good ones more h a k b = one_turn d _ _ (settle_turn d) reply other (λ m e. ones (d - 1) m e) (λ m e. more (d - 1) m e) h a k b
  one_way (On d (statements.Fuse steps)) reply other good ones more h a k b = one_turn d _ _ (arm_turn d steps) reply other (λ m e. ones (d - 1) m e) (λ m e. more (d - 1) m e) h a k b
  one_way (On d statements.Power) reply other good ones more h a k b = one_turn d _ _ (power_turn d) reply other (λ m e. ones (d - 1) m e) (λ m e. more (d - 1) m e) h a k b
  one_way (On d statements.Open) reply other good ones more h a k b = one_turn d _ _ (open_turn d) reply other ones more h a k b
  one_way ListChain reply other good ones more h a k b = (h.0 ∙ ap Lists chain_same ∙ sym k.0, ap disarmed h.1 ∙ same ∙ ap disarmed (sym k.1))
  one_way AuditChain reply other good ones more h a k b = (h.0 ∙ ap (λ (c : Chain). Audited (length c)) chain_same ∙ sym k.0, ap disarmed h.1 ∙ same ∙ ap disarmed (sym k.1))

pub parts_determined : PartsAreDetermined
parts_determined s act reply other t u good ones h a k b = one_way s s t u refl act reply other good (good_find s good act ones) (good_find s good act ones) h a k b

-- ---- statements and runs

some_none : (act : Act) (o p : Option Act) → o ≡ p → p ≡ None → o ≡ Some act → ⊥
some_none act o p same none some = (let no : Some act ≡ None = sym some ∙ same ∙ none in cc)

same_act : (act other : Act) (o : Option Act) → o ≡ Some act → o ≡ Some other → other ≡ act
same_act act other o e f = cc

-- two ways through one statement: the first part is one, and the rest goes on from states that are the same
record Onward (statement : Statement) (before : List Reply) (reply other : Reply) (replies all : List Reply) (t u : State) : Type 0 where
  mid : State
  more : State
  same_state : disarmed mid ≡ disarmed more
  good : IsGood mid
  one : HaveOne mid
  other_one : HaveOne more
  same : reply ≡ other
  left : Progress statement (before ++ reply ∷ []) mid replies t
  right : Progress statement (before ++ reply ∷ []) more all u

onward : (statement : Statement) (before : List Reply) (s s' : State) → disarmed s ≡ disarmed s' → (reply other : Reply) (replies all : List Reply) (t u : State) → IsGood s → HaveOne s → HaveOne s' → Progress statement before s (reply ∷ replies) t → IsPlain reply
    → Progress statement before s' (other ∷ all) u → IsPlain other → Onward statement before reply other replies all t u
onward statement before s s' same reply other replies all t u good one more h a k b =
    let step = subst (λ x. ActStep s' x other k.1) (same_act h.0 k.0 (next statement before) h.2 k.2) k.3 in
    let way = one_way s s' h.1 k.1 same h.0 reply other good (all_find s one h.0) (all_find s' more h.0) h.3 a step b in
    record {
      mid = h.1;
      more = k.1;
      same_state = way.1;
      good = act_keeps s h.1 good h.0 reply h.3;
      one = act_one s h.1 one h.0 reply h.3 a;
      other_one = act_one s' k.1 more k.0 other k.3 b;
      same = way.0;
      left = h.4;
      right = subst (λ x. Progress statement (before ++ x ∷ []) k.1 all u) (sym way.0) k.4;
    }

-- no part comes behind the last
ended : (statement : Statement) (before : List Reply) (s : State) (reply : Reply) (replies : List Reply) (t : State) → Progress statement before s (reply ∷ replies) t → next statement (before ++ []) ≡ None → ⊥
ended statement before s reply replies t h end = some_none h.0 (next statement before) (next statement (before ++ [])) (ap (next statement) (sym (append_none before))) end h.2

end_on : (statement : Statement) (before : List Reply) (reply other : Reply) (all : List Reply) → reply ≡ other → next statement (before ++ other ∷ all) ≡ None → next statement ((before ++ reply ∷ []) ++ all) ≡ None
end_on statement before reply other all same end = ap (next statement) (append_assoc before (reply ∷ []) all) ∙ ap (λ x. next statement (before ++ x ∷ all)) same ∙ end

-- the parts that were done are the first of all parts
front : (statement : Statement) (before : List Reply) (s s' : State) → disarmed s ≡ disarmed s' → (replies all : List Reply) (t u : State) → IsGood s → HaveOne s → HaveOne s' → Progress statement before s replies t → All IsPlain replies
    → Progress statement before s' all u → next statement (before ++ all) ≡ None → All IsPlain all → (rest : List Reply) × (all ≡ replies ++ rest)
front statement before s s' same [] all t u good one more h a k end b = (all, refl)
front statement before s s' same (reply ∷ replies) [] t u good one more h a k end b = absurd (ended statement before s reply replies t h end)
front statement before s s' same (reply ∷ replies) (other ∷ all) t u good one more h a k end b =
    let o = onward statement before s s' same reply other replies all t u good one more h (All-head IsPlain reply replies a) k (All-head IsPlain other all b) in
    let to = front statement (before ++ reply ∷ []) o.mid o.more o.same_state replies all t u o.good o.one o.other_one o.left (All-tail IsPlain reply replies a) o.right (end_on statement before reply other all o.same end) (All-tail IsPlain other all b) in
    let first = sym o.same in
    (to.0, (λ i. first i ∷ to.1 i))

-- where both ways end, they are one
both_end : (statement : Statement) (before : List Reply) (s s' : State) → disarmed s ≡ disarmed s' → (replies all : List Reply) (t u : State) → IsGood s → HaveOne s → HaveOne s' → Progress statement before s replies t → next statement (before ++ replies) ≡ None → All IsPlain replies
    → Progress statement before s' all u → next statement (before ++ all) ≡ None → All IsPlain all → (replies ≡ all) × (disarmed t ≡ disarmed u)
both_end statement before s s' same [] [] t u good one more h begin a k end b = (refl, ap disarmed h ∙ same ∙ ap disarmed (sym k))
both_end statement before s s' same [] (other ∷ all) t u good one more h begin a k end b = absurd (ended statement before s' other all u k begin)
both_end statement before s s' same (reply ∷ replies) [] t u good one more h begin a k end b = absurd (ended statement before s reply replies t h end)
both_end statement before s s' same (reply ∷ replies) (other ∷ all) t u good one more h begin a k end b =
    let o = onward statement before s s' same reply other replies all t u good one more h (All-head IsPlain reply replies a) k (All-head IsPlain other all b) in
    let to = both_end statement (before ++ reply ∷ []) o.mid o.more o.same_state replies all t u o.good o.one o.other_one o.left (end_on statement before reply reply replies refl begin) (All-tail IsPlain reply replies a)
    o.right (end_on statement before reply other all o.same end) (All-tail IsPlain other all b)
    in
    let first = o.same in
    ((λ i. first i ∷ to.0 i), to.1)

abbrev AllPlain : List (List Reply) → Type 0
AllPlain each = All (All IsPlain) each

both_run : (statements : List Statement) (s s' : State) → disarmed s ≡ disarmed s' → (each more : List (List Reply)) (t u : State) → IsGood s → HaveOne s → HaveOne s' → Run s statements each t → AllPlain each → Run s' statements more u → AllPlain more
    → (each ≡ more) × (disarmed t ≡ disarmed u)
both_run [] s s' same [] [] t u good one other h a k b = (refl, ap disarmed h ∙ same ∙ ap disarmed (sym k))
both_run [] s s' same (replies ∷ each) more t u good one other h a k b = absurd h
both_run [] s s' same [] (all ∷ more) t u good one other h a k b = absurd k
both_run (statement ∷ statements) s s' same [] more t u good one other h a k b = absurd h
both_run (statement ∷ statements) s s' same (replies ∷ each) [] t u good one other h a k b = absurd k
both_run (statement ∷ statements) s s' same (replies ∷ each) (all ∷ more) t u good one other h a k b =
    let pa = All-head (All IsPlain) replies each a in
    let pb = All-head (All IsPlain) all more b in
    let first = both_end statement [] s s' same replies all h.0 k.0 good one other h.1.0 h.1.1 pa k.1.0 k.1.1 pb in
    let to = both_run statements h.0 k.0 first.1 each more t u (steps_keep s statement replies h.0 h.1 good) (steps_one s statement replies h.0 h.1 pa one) (steps_one s' statement all k.0 k.1 pb other)
    h.2 (All-tail (All IsPlain) replies each a) k.2 (All-tail (All IsPlain) all more b)
    in
    ((λ i. first.0 i ∷ to.0 i), to.1)

begun_front : (statements : List Statement) (s s' : State) → disarmed s ≡ disarmed s' → (each all : List (List Reply)) (t u : State) → IsGood s → HaveOne s → HaveOne s' → Begun s statements each t → AllPlain each → Run s' statements all u → AllPlain all → Front each all
begun_front statements s s' same [] all t u good one other h a k b = tt
begun_front [] s s' same (replies ∷ each) all t u good one other h a k b = absurd h
begun_front (statement ∷ statements) s s' same (replies ∷ []) [] t u good one other h a k b = absurd k
begun_front (statement ∷ statements) s s' same (replies ∷ next ∷ each) [] t u good one other h a k b = absurd k
begun_front (statement ∷ statements) s s' same (replies ∷ []) (whole ∷ all) t u good one other h a k b =
    front statement [] s s' same replies whole t k.0 good one other h (All-head (All IsPlain) replies [] a) k.1.0 k.1.1 (All-head (All IsPlain) whole all b)
begun_front (statement ∷ statements) s s' same (replies ∷ next ∷ each) (whole ∷ all) t u good one other h a k b =
    let pa = All-head (All IsPlain) replies (next ∷ each) a in
    let pb = All-head (All IsPlain) whole all b in
    let first = both_end statement [] s s' same replies whole h.0 k.0 good one other h.1.0 h.1.1 pa k.1.0 k.1.1 pb in
    let to = begun_front statements h.0 k.0 first.1 (next ∷ each) all t u (steps_keep s statement replies h.0 h.1 good) (steps_one s statement replies h.0 h.1 pa one) (steps_one s' statement whole k.0 k.1 pb other)
    h.2 (All-tail (All IsPlain) replies (next ∷ each) a) k.2 (All-tail (All IsPlain) whole all b)
    in
    (sym first.0, to)

pub replies_one : RepliesAreOne
replies_one statements each more a b = both_run statements new_state new_state refl each more a.state b.state new_good new_one new_one a.run a.plain b.run b.plain

-- ---- up to a stop or a collision

-- the first parts of a statement up to there
record Cut (statement : Statement) (before : List Reply) (s : State) (replies : List Reply) : Type 0 where
  state : State
  progress : Progress statement before s (plain_in replies) state
  plain : All IsPlain (plain_in replies)

progress_cut : (statement : Statement) (before : List Reply) (s : State) (replies : List Reply) (t : State) → Progress statement before s replies t → Cut statement before s replies
progress_cut statement before s [] t h = record { state = s; progress = refl; plain = All-nil IsPlain }
progress_cut statement before s (reply ∷ replies) t h = by (is_plain reply) refl (progress_cut statement (before ++ reply ∷ []) h.1 replies t h.4) where
  by : (b : Bool) → is_plain reply ≡ b → Cut statement (before ++ reply ∷ []) h.1 replies → Cut statement before s (reply ∷ replies)
  by false e rest =
      let none : plain_in (reply ∷ replies) ≡ [] = ap (λ b. cond b (reply ∷ plain_in replies) []) e in
      record { state = s; progress = subst (λ l. Progress statement before s l s) (sym none) refl; plain = subst (All IsPlain) (sym none) (All-nil IsPlain) }
  by true e rest =
      let more : plain_in (reply ∷ replies) ≡ reply ∷ plain_in replies = ap (λ b. cond b (reply ∷ plain_in replies) []) e in
      record {
        state = rest.state;
        progress = subst (λ l. Progress statement before s l rest.state) (sym more) (h.0, h.1, h.2, h.3, rest.progress);
        plain = subst (All IsPlain) (sym more) (All-cons IsPlain reply (plain_in replies) e rest.plain);
      }

-- where all are plain they are all
whole_plain : (replies : List Reply) → list_all is_plain replies ≡ true → plain_in replies ≡ replies
whole_plain [] e = refl
whole_plain (reply ∷ replies) e = by (is_plain reply) refl e (whole_plain replies) where
  by : (b : Bool) → is_plain reply ≡ b → (b && list_all is_plain replies) ≡ true → (list_all is_plain replies ≡ true → plain_in replies ≡ replies) → plain_in (reply ∷ replies) ≡ reply ∷ replies
  by false is h rest = cc
  by true is h rest = ap (λ b. cond b (reply ∷ plain_in replies) []) is ∙ ap (λ l. reply ∷ l) (rest h)

record CutRun (statements : List Statement) (s : State) (each : List (List Reply)) : Type 0 where
  state : State
  begun : Begun s statements (plain_front each) state
  plain : AllPlain (plain_front each)

one_cut : (statement : Statement) (statements : List Statement) (s : State) (replies : List Reply) (each : List (List Reply)) → Cut statement [] s replies → (if list_all is_plain replies then plain_front each else []) ≡ [] → CutRun (statement ∷ statements) s (replies ∷ each)
one_cut statement statements s replies each cut e =
    let is : plain_front (replies ∷ each) ≡ plain_in replies ∷ [] = ap (λ l. plain_in replies ∷ l) e in
    record {
      state = cut.state;
      begun = subst (λ l. Begun s (statement ∷ statements) l cut.state) (sym is) cut.progress;
      plain = subst AllPlain (sym is) (All-cons (All IsPlain) (plain_in replies) [] cut.plain (All-nil (All IsPlain)));
    }

begun_cut : (statements : List Statement) (s : State) (each : List (List Reply)) (t : State) → Begun s statements each t → CutRun statements s each
begun_cut statements s [] t h = record { state = t; begun = h; plain = All-nil (All IsPlain) }
begun_cut [] s (replies ∷ each) t h = absurd h
begun_cut (statement ∷ statements) s (replies ∷ []) t h = one_cut statement statements s replies [] (progress_cut statement [] s replies t h) (none (list_all is_plain replies)) where
  none : (b : Bool) → cond b (plain_front []) [] ≡ []
  none true = refl
  none false = refl
begun_cut (statement ∷ statements) s (replies ∷ next ∷ each) t h = by (list_all is_plain replies) refl (begun_cut statements h.0 (next ∷ each) t h.2) where
  by : (b : Bool) → list_all is_plain replies ≡ b → CutRun statements h.0 (next ∷ each) → CutRun (statement ∷ statements) s (replies ∷ next ∷ each)
  by false e rest = one_cut statement statements s replies (next ∷ each) (progress_cut statement [] s replies h.0 h.1.0) (ap (λ b. cond b (plain_front (next ∷ each)) []) e)
  by true e rest =
      let same = whole_plain replies e in
      let cut = progress_cut statement [] s replies h.0 h.1.0 in
      let is : plain_front (replies ∷ next ∷ each) ≡ replies ∷ plain_front (next ∷ each) = (λ i. same i ∷ cond (e i) (plain_front (next ∷ each)) []) in
      record {
        state = rest.state;
        begun = subst (λ l. Begun s (statement ∷ statements) l rest.state) (sym is) (h.0, h.1, rest.begun);
        plain = subst AllPlain (sym is) (All-cons (All IsPlain) replies (plain_front (next ∷ each)) (subst (All IsPlain) same cut.plain) rest.plain);
      }

pub begun_first : BegunIsFront
begun_first statements all each t a h =
    let cut = begun_cut statements new_state each t h in
    begun_front statements new_state new_state refl (plain_front each) all cut.state a.state new_good new_one new_one cut.begun cut.plain a.run a.plain

pub plain_answers : PlainRunsAnswer
plain_answers statements all a = record { are = a; only = λ each other. replies_one statements each all other a; begun = λ each t h. begun_first statements all each t a h }

-- ---- runs that are cut off

whole_begun : (first : List Statement) (s : State) (each : List (List Reply)) (t : State) → Run s first each t → Begun s first each t
whole_begun [] s [] t h = h
whole_begun [] s (replies ∷ each) t h = absurd h
whole_begun (statement ∷ first) s [] t h = absurd h
whole_begun (statement ∷ []) s (replies ∷ []) t h = subst (Progress statement [] s replies) (sym h.2) h.1.0
whole_begun (statement ∷ other ∷ first) s (replies ∷ []) t h = absurd h.2
whole_begun (statement ∷ first) s (replies ∷ next ∷ each) t h = (h.0, h.1, whole_begun first h.0 (next ∷ each) t h.2)

cons_begun : (statement : Statement) (statements : List Statement) (s mid : State) (replies : List Reply) (each : List (List Reply)) (t : State) → Steps s statement replies mid → 0 < length each → Begun mid statements each t → Begun s (statement ∷ statements) (replies ∷ each) t
cons_begun statement statements s mid replies [] t h some b = absurd (omega arith)
cons_begun statement statements s mid replies (next ∷ each) t h some b = (mid, h, b)

more_begun : (first : List Statement) (s : State) (each : List (List Reply)) (mid : State) → Run s first each mid → (statement : Statement) (rest : List Statement) (replies : List Reply) (t : State) → Progress statement [] mid replies t
    → Begun s (first ++ statement ∷ rest) (each ++ replies ∷ []) t
more_begun [] s [] mid h statement rest replies t more = subst (λ x. Progress statement [] x replies t) h more
more_begun [] s (done ∷ each) mid h statement rest replies t more = absurd h
more_begun (before ∷ first) s [] mid h statement rest replies t more = absurd h
more_begun (before ∷ first) s (done ∷ each) mid h statement rest replies t more =
    cons_begun before (first ++ statement ∷ rest) s h.0 done (each ++ replies ∷ []) t h.1 (let e = length-append each (replies ∷ []) in omega arith) (more_begun first h.0 each mid h.2 statement rest replies t more)

pub runs_begin : RunsBegin
runs_begin first each s h = record { whole = whole_begun first new_state each s h; more = more_begun first new_state each s h }

-- ---- runs without a fuse

both_plain : (reply : Reply) → TellsNoStop reply → TellsApart reply → IsPlain reply
both_plain (ByCall (Err answers.CallFault.Stopped)) whole apart = absurd whole
both_plain (ByNote (Err answers.NoteFault.Stopped)) whole apart = absurd whole
both_plain (ByPull (Err answers.PullFault.Stopped)) whole apart = absurd whole
both_plain (BySettle (Err answers.SettleFault.Stopped)) whole apart = absurd whole
both_plain (ByOpen (Err answers.OpenFault.Stopped)) whole apart = absurd whole
both_plain (ByLand (Err (statements.LinkFault lost))) whole apart = apart
both_plain (BySettle (Err (answers.SettleFault.LinkFault lost))) whole apart = apart
both_plain (ByLand (Err (statements.ByFolder fault))) whole apart = apart
both_plain (BySettle (Err (answers.SettleFault.ByPut fault))) whole apart = apart
both_plain reply whole apart = refl

all_plain : (replies : List Reply) → All TellsNoStop replies → All TellsApart replies → All IsPlain replies
all_plain [] whole apart = All-nil IsPlain
all_plain (reply ∷ replies) whole apart = All-cons IsPlain reply replies (both_plain reply (All-head TellsNoStop reply replies whole) (All-head TellsApart reply replies apart)) (all_plain replies (All-tail TellsNoStop reply replies whole) (All-tail TellsApart reply replies apart))

each_plain : (each : List (List Reply)) → All (All TellsNoStop) each → All (All TellsApart) each → AllPlain each
each_plain [] whole apart = All-nil (All IsPlain)
each_plain (replies ∷ each) whole apart =
    All-cons (All IsPlain) replies each (all_plain replies (All-head (All TellsNoStop) replies each whole) (All-head (All TellsApart) replies each apart)) (each_plain each (All-tail (All TellsNoStop) replies each whole) (All-tail (All TellsApart) replies each apart))

pub runs_determined : RunsAreDetermined
runs_determined statements each more t u arms h a k b =
    let left : AreReplies statements each = record { state = t; run = h; plain = each_plain each (unfused statements each t arms h) a } in
    let right : AreReplies statements more = record { state = u; run = k; plain = each_plain more (unfused statements more u arms k) b } in
    let one = replies_one statements each more left right in
    (one.0, sym (unfused_disarmed statements each t arms h) ∙ one.1 ∙ unfused_disarmed statements more u arms k)
