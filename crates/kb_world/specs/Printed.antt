-- How the machine's replies are printed.
use Rattle.std.specs.Prelude.{ℕ, ◌+◌, List, [], ◌∷◌, ◌++◌, length, Result, Ok, Err}
use Rattle.kb_name.specs.Names as texts
use Rattle.kb_ops.specs.declared.rows.Op.{Op}
use Rattle.kb_ops.specs.declared.requests.PlanFault.{PlanFault}
use Rattle.kb_ops.specs.declared.requests.PlanFault.TheVariants as plan
use Rattle.kb_ops.specs.declared.requests.Shown.{Shown}
use Rattle.kb_ops.specs.declared.requests.Shown.TheVariants as shown
use Rattle.kb_apply.specs.declared.shows.ShowFault.{ShowFault}
use Rattle.kb_apply.specs.declared.shows.ShowFault.TheVariants as show
use Rattle.kb_keys.specs.declared.policy.Action.TheVariants as action
use Rattle.kb_lines.specs.declared.lines.Did.{Did}
use Rattle.kb_lines.specs.declared.lines.Did.TheVariants as did
use Rattle.kb_lines.specs.declared.lines.Line.{Line}
use Rattle.kb_lines.specs.declared.lines.Line.TheVariants as line
use Rattle.kb_lines.specs.declared.reasons.Reason.{Reason}
use Rattle.kb_lines.specs.declared.reasons.Reason.TheVariants as reason
use Rattle.kb_rules.specs.declared.report.Report.{Report}
use Rattle.kb_device.specs.Answers.{Called, CallFault, QueueFault, LookFault, Status, TellFault, PickFault, Noted, NoteFault, PullFault, FetchFault, SettleFault, OpenFault}
use Rattle.kb_snap.specs.Answers.{PutFault, RekeyFault}
use Rattle.kb_device.specs.Answers as says
use Rattle.kb_snap.specs.Answers as folder_says
use Rattle.kb_snap.specs.Chains.{Deed, Founded, Stepped, Merged, Rekeyed, Revision, Chain, seq_of_last}
use Rattle.kb_snap.specs.Members.{generation_of}
use Rattle.kb_world.specs.Statements.{LandFault, Reply, Silent, Off, ByRekey, ByCall, ByLook, ByStatus, ByPick, ByLand, ByNote, ByPull, ByFetch, BySettle, ByOpen, Lists, Audited}
use Rattle.kb_world.specs.Statements as statements
use Rattle.kb_folder.specs.Chains.{Names}

-- ---- refusals are printed by their names

abbrev pub plan_reason : PlanFault → Reason
plan_reason plan.BadPath = reason.BadPath
plan_reason plan.TooDeep = reason.TooDeep
plan_reason plan.NotFound = reason.NotFound
plan_reason plan.NotDir = reason.NotDir
plan_reason plan.NotFile = reason.NotFile
plan_reason plan.Exists = reason.Exists
plan_reason plan.NotEmpty = reason.NotEmpty
plan_reason plan.Inside = reason.Inside
plan_reason plan.TooBig = reason.TooBig
plan_reason plan.TreeFull = reason.TreeFull
plan_reason plan.Memory = reason.Memory

abbrev pub show_reason : ShowFault → Reason
show_reason show.BadPath = reason.BadPath
show_reason show.TooDeep = reason.TooDeep
show_reason show.NotFound = reason.NotFound
show_reason show.NotDir = reason.NotDir
show_reason show.NotFile = reason.NotFile
show_reason show.Memory = reason.Memory

abbrev pub put_reason : PutFault → Reason
put_reason folder_says.PutFault.NotWriter = reason.NotWriter
put_reason (folder_says.PutFault.Stale len) = reason.Stale len
put_reason folder_says.PutFault.ChainEnd = reason.ChainEnd
put_reason (folder_says.PutFault.Collision id) = reason.Collision id

abbrev pub rekey_reason : RekeyFault → Reason
rekey_reason folder_says.RekeyFault.NotWriter = reason.NotWriter
rekey_reason folder_says.Known = reason.Known
rekey_reason folder_says.RekeyFault.NotMember = reason.NotMember
rekey_reason folder_says.LastWriter = reason.LastWriter
rekey_reason folder_says.GenEnd = reason.GenEnd
rekey_reason folder_says.RekeyFault.ChainEnd = reason.ChainEnd

-- ---- answers

abbrev pub called_line : List ℕ → Result Called CallFault → Line
called_line name (Ok (says.Done seq)) = line.Done name seq
called_line name (Ok says.Same) = line.Same name
called_line name (Err says.CallFault.Closed) = line.Refused name reason.Closed
called_line name (Err says.ReadOnly) = line.Refused name reason.ReadOnly
called_line name (Err (says.ByPlan why)) = line.Refused name (plan_reason why)
called_line name (Err (says.ByQueue says.Spent)) = line.Refused name reason.Spent
called_line name (Err (says.ByQueue says.QueueFull)) = line.Refused name reason.QueueFull
called_line name (Err (says.ByQueue (says.Full need room))) = line.Refused name (reason.Full need room)
called_line name (Err says.CallFault.Stopped) = line.Refused name reason.Stopped

abbrev pub shown_line : List ℕ → Result Shown LookFault → Line
shown_line name (Ok (shown.Cat bytes)) = line.Cat name bytes
shown_line name (Ok (shown.Ls rows)) = line.Ls name rows
shown_line name (Ok (shown.Tree at queue rows)) = line.Tree name at queue rows
shown_line name (Ok (shown.Stat row)) = line.Stat name row
shown_line name (Err says.LookFault.Closed) = line.Refused name reason.Closed
shown_line name (Err (says.ByShow why)) = line.Refused name (show_reason why)

abbrev pub status_line : List ℕ → Result Status TellFault → Line
status_line name (Ok status) = line.Status name status.at status.queue status.last status.branched status.flight
status_line name (Err says.TellFault.Closed) = line.Refused name reason.Closed

-- of a pick of one operation; until steps of several are picked, the last one's seq is told
abbrev pub picked_line : List ℕ → Result (ℕ × ℕ × ℕ) PickFault → Line
picked_line name (Ok picked) = line.Picked name picked.1 picked.2
picked_line name (Err says.PickFault.Closed) = line.Refused name reason.Closed
picked_line name (Err says.InFlight) = line.Refused name reason.InFlight
picked_line name (Err says.PickFault.Branched) = line.Refused name reason.Branched
picked_line name (Err says.Idle) = line.Refused name reason.Idle

abbrev pub landed_line : List ℕ → Result ℕ LandFault → Line
landed_line name (Ok n) = line.Landed name n
landed_line name (Err statements.NoFlight) = line.Refused name reason.NoFlight
landed_line name (Err (statements.LinkFault lost)) = line.Refused name reason.LinkFault
landed_line name (Err (statements.ByFolder why)) = line.Refused name (put_reason why)

abbrev pub noted_line : List ℕ → Result Noted NoteFault → Line
noted_line name (Ok (says.Landed n)) = line.Noted name n
noted_line name (Ok (says.Noted.Branched at)) = line.BranchedAt name at
noted_line name (Ok says.Kept) = line.Kept name
noted_line name (Err says.NoteFault.Closed) = line.Refused name reason.Closed
noted_line name (Err says.NoteFault.NoFlight) = line.Refused name reason.NoFlight
noted_line name (Err says.NoteFault.Stopped) = line.Refused name reason.Stopped

abbrev pub pulled_line : List ℕ → Result ℕ PullFault → Line
pulled_line name (Ok n) = line.At name n
pulled_line name (Err says.PullFault.Closed) = line.Refused name reason.Closed
pulled_line name (Err says.PullFault.NotMember) = line.Refused name reason.NotMember
pulled_line name (Err says.PullFault.Unflushed) = line.Refused name reason.Unflushed
pulled_line name (Err says.PullFault.Stopped) = line.Refused name reason.Stopped

abbrev pub fetched_line : List ℕ → Result ℕ FetchFault → Line
fetched_line name (Ok n) = line.Fetched name n
fetched_line name (Err says.FetchFault.Closed) = line.Refused name reason.Closed
fetched_line name (Err says.FetchFault.NotMember) = line.Refused name reason.NotMember
fetched_line name (Err says.NoBranch) = line.Refused name reason.NoBranch

abbrev pub settled_line : List ℕ → Result (ℕ × Report) SettleFault → Line
settled_line name (Ok merged) = line.Merged name merged.0 merged.1.copies merged.1.renamed merged.1.joined
settled_line name (Err says.SettleFault.Closed) = line.Refused name reason.Closed
settled_line name (Err says.NoPlan) = line.Refused name reason.NoPlan
settled_line name (Err (says.SettleFault.LinkFault lost)) = line.Refused name reason.LinkFault
settled_line name (Err (says.SettleFault.ByPut why)) = line.Refused name (put_reason why)
settled_line name (Err says.SettleFault.Stopped) = line.Refused name reason.Stopped

abbrev pub opened_line : List ℕ → Result Status OpenFault → Line
opened_line name (Ok status) = line.Opened name status.at status.queue status.last
opened_line name (Err says.AlreadyOpen) = line.Refused name reason.AlreadyOpen
opened_line name (Err says.OpenFault.NotMember) = line.Refused name reason.NotMember
opened_line name (Err says.OpenFault.Stopped) = line.Refused name reason.Stopped
opened_line name (Err says.BadDisk) = line.Refused name reason.BadDisk
opened_line name (Err (says.Foreign known)) = line.Refused name reason.Foreign
opened_line name (Err (says.BadFolder number)) = line.Refused name reason.BadFolder

abbrev pub rekeyed_line : Result ℕ RekeyFault → Line
rekeyed_line (Ok n) = line.FolderAt n
rekeyed_line (Err why) = line.FolderRefused (rekey_reason why)

-- ---- the chain

abbrev pub seq_of_first : List Op → ℕ
seq_of_first [] = 0
seq_of_first (op ∷ ops) = op.seq

abbrev pub deed_did : Names → ℕ → Deed → Did
deed_did names by Founded = did.Found (names by)
deed_did names by (Stepped ops) = did.Step (names by) (seq_of_last ops)
deed_did names by (Merged base rule ops) = did.Merge (names by) (seq_of_first ops) (seq_of_last ops)
deed_did names by (Rekeyed action.Revoke who) = did.Revoke (names by) (names who)
deed_did names by (Rekeyed action.GrantReader who) = did.GrantReader (names by) (names who)
deed_did names by (Rekeyed act who) = did.GrantWriter (names by) (names who)

-- the revisions from this number on
abbrev pub revision_lines : Names → ℕ → Chain → List Line
revision_lines names n [] = []
revision_lines names n (x ∷ c) = line.Revision n (deed_did names x.writer x.deed) ∷ revision_lines names (n + 1) c

-- ---- replies, of which those to statements that no script has yet print nothing

abbrev pub printed : Names → ℕ → Reply → List Line
printed names d Off = line.Off (names d) ∷ []
printed names d (ByRekey answer) = rekeyed_line answer ∷ []
printed names d (ByCall answer) = called_line (names d) answer ∷ []
printed names d (ByLook answer) = shown_line (names d) answer ∷ []
printed names d (ByStatus answer) = status_line (names d) answer ∷ []
printed names d (ByPick answer) = picked_line (names d) answer ∷ []
printed names d (ByLand answer) = landed_line (names d) answer ∷ []
printed names d (ByNote answer) = noted_line (names d) answer ∷ []
printed names d (ByPull answer) = pulled_line (names d) answer ∷ []
printed names d (ByFetch answer) = fetched_line (names d) answer ∷ []
printed names d (BySettle answer) = settled_line (names d) answer ∷ []
printed names d (ByOpen answer) = opened_line (names d) answer ∷ []
printed names d (Lists c) = line.Chain (length c) (generation_of c) ∷ revision_lines names 1 c
printed names d (Audited n) = line.Whole n ∷ []
printed names d reply = []

-- the replies of a statement, one behind another
abbrev pub all_printed : Names → ℕ → List Reply → List Line
all_printed names d [] = []
all_printed names d (reply ∷ replies) = printed names d reply ++ all_printed names d replies
