-- What lines tell is what the replies are of which they are printed.
use Rattle.std.proofs.Common.{◌≡◌, ℕ, ◌+◌, List, [], ◌∷◌, ◌++◌, Ok, Err, Result, refl, ap, ◌∙◌, sym}
use Rattle.std.specs.List.{fold}
use Rattle.std.proofs.lemmas.List.Sums.{fold-append}
use Rattle.kb_ops.specs.declared.requests.Shown.{Shown}
use Rattle.kb_ops.specs.declared.requests.Shown.TheVariants as shown
use Rattle.kb_lines.specs.declared.lines.Line.TheVariants as line
use Rattle.kb_rules.specs.declared.report.Report.{Report}
use Rattle.kb_snap.specs.Answers.{RekeyFault}
use Rattle.kb_snap.specs.Chains.{Chain}
use Rattle.kb_device.specs.Answers.{Called, CallFault, LookFault, Status, TellFault, PickFault, Noted, NoteFault, PullFault, FetchFault, SettleFault, OpenFault}
use Rattle.kb_device.specs.Answers as says
use Rattle.kb_folder.specs.Chains.{Names}
use Rattle.kb_world.specs.Statements.{LandFault, Reply, Silent, Off, ByRekey, ByCall, ByLook, ByStatus, ByPick, ByLand, ByNote, ByPull, ByFetch, BySettle, ByOpen, ByBackup, ByRestore, ByPast, ByReclaim, Lists, Audited}
use Rattle.kb_world.specs.Statements as statements
use Rattle.kb_world.specs.Printed.{printed, all_printed, called_line, shown_line, status_line, picked_line, landed_line, noted_line, pulled_line, fetched_line, settled_line, opened_line, rekeyed_line, revision_lines}
use Rattle.kb_top.specs.Summaries.{names_after, names_given, names_told}

-- ---- no other line than a merge's tells of names

called_none : (n : ℕ) (name : List ℕ) (answer : Result Called CallFault) → names_told n (called_line name answer) ≡ n
called_none n name (Ok (says.Done seq)) = refl
called_none n name (Ok says.Same) = refl
called_none n name (Err says.CallFault.Closed) = refl
called_none n name (Err says.ReadOnly) = refl
called_none n name (Err (says.ByPlan why)) = refl
called_none n name (Err (says.ByQueue says.Spent)) = refl
called_none n name (Err (says.ByQueue says.QueueFull)) = refl
called_none n name (Err (says.ByQueue (says.Full need room))) = refl
called_none n name (Err says.CallFault.Stopped) = refl

shown_none : (n : ℕ) (name : List ℕ) (answer : Result Shown LookFault) → names_told n (shown_line name answer) ≡ n
shown_none n name (Ok (shown.Cat bytes)) = refl
shown_none n name (Ok (shown.Ls rows)) = refl
shown_none n name (Ok (shown.Tree at queue rows)) = refl
shown_none n name (Ok (shown.Stat row)) = refl
shown_none n name (Err says.LookFault.Closed) = refl
shown_none n name (Err (says.ByShow why)) = refl

status_none : (n : ℕ) (name : List ℕ) (answer : Result Status TellFault) → names_told n (status_line name answer) ≡ n
status_none n name (Ok status) = refl
status_none n name (Err says.TellFault.Closed) = refl

picked_none : (n : ℕ) (name : List ℕ) (answer : Result (ℕ × ℕ × ℕ) PickFault) → names_told n (picked_line name answer) ≡ n
picked_none n name (Ok picked) = refl
picked_none n name (Err says.PickFault.Closed) = refl
picked_none n name (Err says.InFlight) = refl
picked_none n name (Err says.PickFault.Branched) = refl
picked_none n name (Err says.Idle) = refl

landed_none : (n : ℕ) (name : List ℕ) (answer : Result ℕ LandFault) → names_told n (landed_line name answer) ≡ n
landed_none n name (Ok r) = refl
landed_none n name (Err statements.NoFlight) = refl
landed_none n name (Err (statements.ByFolder why)) = refl
landed_none n name (Err (statements.LinkFault lost)) = refl

noted_none : (n : ℕ) (name : List ℕ) (answer : Result Noted NoteFault) → names_told n (noted_line name answer) ≡ n
noted_none n name (Ok (says.Landed r)) = refl
noted_none n name (Ok (says.Noted.Branched at)) = refl
noted_none n name (Ok says.Kept) = refl
noted_none n name (Err says.NoteFault.Closed) = refl
noted_none n name (Err says.NoteFault.NoFlight) = refl
noted_none n name (Err says.NoteFault.Stopped) = refl

pulled_none : (n : ℕ) (name : List ℕ) (answer : Result ℕ PullFault) → names_told n (pulled_line name answer) ≡ n
pulled_none n name (Ok r) = refl
pulled_none n name (Err says.PullFault.Closed) = refl
pulled_none n name (Err says.PullFault.NotMember) = refl
pulled_none n name (Err says.PullFault.Unflushed) = refl
pulled_none n name (Err says.PullFault.Stopped) = refl

fetched_none : (n : ℕ) (name : List ℕ) (answer : Result ℕ FetchFault) → names_told n (fetched_line name answer) ≡ n
fetched_none n name (Ok r) = refl
fetched_none n name (Err says.FetchFault.Closed) = refl
fetched_none n name (Err says.FetchFault.NotMember) = refl
fetched_none n name (Err says.NoBranch) = refl

settled_names : (n : ℕ) (name : List ℕ) (answer : Result (ℕ × Report) SettleFault) → names_told n (settled_line name answer) ≡ names_after n (BySettle answer)
settled_names n name (Ok merged) = refl
settled_names n name (Err says.SettleFault.Closed) = refl
settled_names n name (Err says.NoPlan) = refl
settled_names n name (Err (says.SettleFault.LinkFault lost)) = refl
settled_names n name (Err (says.SettleFault.ByPut why)) = refl
settled_names n name (Err says.SettleFault.Stopped) = refl

opened_none : (n : ℕ) (name : List ℕ) (answer : Result Status OpenFault) → names_told n (opened_line name answer) ≡ n
opened_none n name (Ok status) = refl
opened_none n name (Err says.AlreadyOpen) = refl
opened_none n name (Err says.OpenFault.NotMember) = refl
opened_none n name (Err says.OpenFault.Stopped) = refl
opened_none n name (Err says.BadDisk) = refl
opened_none n name (Err (says.Foreign known)) = refl
opened_none n name (Err (says.BadFolder number)) = refl

rekeyed_none : (n : ℕ) (answer : Result ℕ RekeyFault) → names_told n (rekeyed_line answer) ≡ n
rekeyed_none n (Ok r) = refl
rekeyed_none n (Err why) = refl

listed_none : (n : ℕ) (names : Names) (from : ℕ) (c : Chain) → fold names_told n (revision_lines names from c) ≡ n
listed_none n names from [] = refl
listed_none n names from (x ∷ c) = listed_none n names (from + 1) c

-- ---- the names that replies tell

one_reply : (names : Names) (d n : ℕ) (reply : Reply) → fold names_told n (printed names d reply) ≡ names_after n reply
one_reply names d n Silent = refl
one_reply names d n Off = refl
one_reply names d n (ByRekey answer) = rekeyed_none n answer
one_reply names d n (ByCall answer) = called_none n (names d) answer
one_reply names d n (ByLook answer) = shown_none n (names d) answer
one_reply names d n (ByStatus answer) = status_none n (names d) answer
one_reply names d n (ByPick answer) = picked_none n (names d) answer
one_reply names d n (ByLand answer) = landed_none n (names d) answer
one_reply names d n (ByNote answer) = noted_none n (names d) answer
one_reply names d n (ByPull answer) = pulled_none n (names d) answer
one_reply names d n (ByFetch answer) = fetched_none n (names d) answer
one_reply names d n (BySettle answer) = settled_names n (names d) answer
one_reply names d n (ByOpen answer) = opened_none n (names d) answer
one_reply names d n (ByBackup answer) = refl
one_reply names d n (ByRestore answer) = refl
one_reply names d n (ByPast answer) = refl
one_reply names d n (ByReclaim answer) = refl
one_reply names d n (Lists c) = listed_none n names 1 c
one_reply names d n (Audited k) = refl

all_replies : (names : Names) (d n : ℕ) (replies : List Reply) → fold names_told n (all_printed names d replies) ≡ fold names_after n replies
all_replies names d n [] = refl
all_replies names d n (reply ∷ replies) =
    fold-append names_told n (printed names d reply) (all_printed names d replies)
    ∙ ap (λ m. fold names_told m (all_printed names d replies)) (one_reply names d n reply)
    ∙ all_replies names d (names_after n reply) replies

-- the names given, when one statement more has replied
pub one_told : (names : Names) (d n : ℕ) (each : List (List Reply)) (replies : List Reply) → n ≡ names_given each → fold names_told n (all_printed names d replies) ≡ names_given (each ++ replies ∷ [])
one_told names d n each replies e =
    all_replies names d n replies
    ∙ ap (λ m. fold names_after m replies) e
    ∙ sym (fold-append (λ before replies. fold names_after before replies) 0 each (replies ∷ []))
