-- What devices and the folder answer, as plain values.
use Rattle.std.specs.Prelude.{ℕ, Bool, Option, Result}
use Rattle.kb_ops.specs.declared.requests.PlanFault.{PlanFault}
use Rattle.kb_apply.specs.declared.shows.ShowFault.{ShowFault}
use Rattle.kb_snap.specs.Answers.{PutFault}

-- why the journal doesn't take an operation
pub data QueueFault : Type 0 where
  Spent : QueueFault
  QueueFull : QueueFault
  Full : ℕ → ℕ → QueueFault

-- why a file call is refused
pub data CallFault : Type 0 where
  Closed : CallFault
  ReadOnly : CallFault
  ByPlan : PlanFault → CallFault
  ByQueue : QueueFault → CallFault
  Stopped : CallFault

-- a file call was done under this seq, or asked for what is so already
pub data Called : Type 0 where
  Done : ℕ → Called
  Same : Called

-- why a show is refused
pub data LookFault : Type 0 where
  Closed : LookFault
  ByShow : ShowFault → LookFault

-- a status has one refusal
pub data TellFault : Type 0 where
  Closed : TellFault

-- what a device tells of itself
pub record Status : Type 0 where
  pub at : ℕ
  pub queue : ℕ
  pub last : ℕ
  pub branched : Bool
  pub flight : Bool

pub data PickFault : Type 0 where
  Closed : PickFault
  InFlight : PickFault
  Branched : PickFault
  Idle : PickFault

-- what a note of a put's answer did: it landed, it became a branch, or the operation waits on
pub data Noted : Type 0 where
  Landed : ℕ → Noted
  Branched : ℕ → Noted
  Kept : Noted

pub data NoteFault : Type 0 where
  Closed : NoteFault
  NoFlight : NoteFault
  Stopped : NoteFault

pub data PullFault : Type 0 where
  Closed : PullFault
  NotMember : PullFault
  Unflushed : PullFault
  Stopped : PullFault

pub data FetchFault : Type 0 where
  Closed : FetchFault
  NotMember : FetchFault
  NoBranch : FetchFault

-- What the folder answered stands in a lost reply, though the device doesn't learn it and no line tells it; nothing stands
-- there where the request was lost.
pub data SettleFault : Type 0 where
  Closed : SettleFault
  NoPlan : SettleFault
  LinkFault : Option (Result ℕ PutFault) → SettleFault
  ByPut : PutFault → SettleFault
  Stopped : SettleFault

-- why a device isn't opened. The last two never come where a device alone has used its disk, and the folder is whole
pub data OpenFault : Type 0 where
  AlreadyOpen : OpenFault
  NotMember : OpenFault
  Stopped : OpenFault
  BadDisk : OpenFault
  Foreign : ℕ → OpenFault
  BadFolder : ℕ → OpenFault

-- why a device's journal isn't kept at the folder
pub data BackupFault : Type 0 where
  Closed : BackupFault
  NotMember : BackupFault

-- why it isn't put on a new disk. Of one that lacks acknowledged operations both last seqs are told
pub data RestoreFault : Type 0 where
  AlreadyOpen : RestoreFault
  NotMember : RestoreFault
  NoBackup : RestoreFault
  Behind : ℕ → ℕ → RestoreFault
  Full : ℕ → ℕ → RestoreFault
