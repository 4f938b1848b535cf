-- What a script says, and what the machine replies.
use Rattle.std.specs.Prelude.{ℕ, List, Option, Result}
use Rattle.kb_edge.specs.declared.link.Side.{Side}
use Rattle.kb_ops.specs.declared.requests.Request.{Request}
use Rattle.kb_ops.specs.declared.requests.Show.{Show}
use Rattle.kb_ops.specs.declared.requests.Shown.{Shown}
use Rattle.kb_ops.specs.Trees.{Tree}
use Rattle.kb_keys.specs.declared.policy.Action.{Action}
use Rattle.kb_rules.specs.declared.report.Report.{Report}
use Rattle.kb_snap.specs.Chains.{Chain}
use Rattle.kb_device.specs.Answers.{Called, CallFault, LookFault, Status, TellFault, PickFault, Noted, NoteFault, PullFault, FetchFault, SettleFault, OpenFault, BackupFault, RestoreFault}
use Rattle.kb_snap.specs.Answers.{PutFault, ReclaimFault, PastFault, RekeyFault}

-- what a statement has one device do
pub data Turn : Type 0 where
  Call : Request → Turn
  Pick : Turn
  Land : Turn
  Note : Turn
  Pull : Turn
  Batch : ℕ → Turn
  Fetch : Turn
  Settle : Turn
  Fuse : ℕ → Turn
  Lose : Side → Turn
  Power : Turn
  Open : Turn
  Backup : Turn
  Restore : ℕ → Turn

-- what a statement tells of a device, which changes nothing
pub data View : Type 0 where
  Look : Show → View
  Tell : View
  Past : ℕ → View
  Reclaim : ℕ → View

-- the parts of statements; devices are named by their numbers
pub data Act : Type 0 where
  SetSeed : List ℕ → Act
  Declare : List ℕ → ℕ → Act
  DoFound : ℕ → Act
  DoRekey : ℕ → Action → ℕ → Act
  SetMoment : ℕ → Act
  SetRule : ℕ → Act
  See : ℕ → View → Act
  On : ℕ → Turn → Act
  ListChain : Act
  AuditChain : Act

-- a statement has one part, or parts that follow from the replies
pub data Statement : Type 0 where
  Do : Act → Statement
  Flush : ℕ → Statement
  Drain : ℕ → Statement
  Resolve : ℕ → Statement

-- why nothing is landed: no request waits, the link lost the request or the reply (with what the folder answered, which no
-- line tells), or the folder refused
pub data LandFault : Type 0 where
  NoFlight : LandFault
  LinkFault : Option (Result ℕ PutFault) → LandFault
  ByFolder : PutFault → LandFault

-- What one part of a statement replies. What is printed of it is a function of the reply and the device's name; the
-- first has no line. Of a reclamation the counts of blocks are told too, of which the plain machine has none.
pub data Reply : Type 0 where
  Silent : Reply
  Off : Reply
  ByRekey : Result ℕ RekeyFault → Reply
  ByCall : Result Called CallFault → Reply
  ByLook : Result Shown LookFault → Reply
  ByStatus : Result Status TellFault → Reply
  ByPick : Result (ℕ × ℕ × ℕ) PickFault → Reply
  ByLand : Result ℕ LandFault → Reply
  ByNote : Result Noted NoteFault → Reply
  ByPull : Result ℕ PullFault → Reply
  ByFetch : Result ℕ FetchFault → Reply
  BySettle : Result (ℕ × Report) SettleFault → Reply
  ByOpen : Result Status OpenFault → Reply
  ByBackup : Result (ℕ × ℕ) BackupFault → Reply
  ByRestore : Result (ℕ × ℕ) RestoreFault → Reply
  ByPast : Result Tree PastFault → Reply
  ByReclaim : Result (Unit {0}) ReclaimFault → Reply
  Lists : Chain → Reply
  Audited : ℕ → Reply
